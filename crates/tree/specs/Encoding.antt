-- What encoding a tree answers.
use Rattle.std.specs.Prelude.{ℕ, List, Ok, Err, vec_items, Result, Vec}
use Rattle.std.specs.declared.alloc.Global.{Global}
use Rattle.program.specs.Rows.{Reads}
use Rattle.tree.specs.declared.programs.Tree.{Tree}
use Rattle.tree.specs.declared.faults.Fault.{Fault}
use Rattle.tree.specs.declared.faults.Fault.TheVariants.{TooManyShared, NoProcedure, TooManyProcedures, TooManyOwn, TooManyStatements, NoSuchVariable, NoSuchPlace, NoSuchProcedure, TooLong, Memory}
use Rattle.tree.specs.Meaning.{meaning}

-- no bytes are the program that the tree means
abbrev pub Unwritable : Tree → Type 0
Unwritable t = (s : List ℕ) → Reads s (meaning t) → ⊥

-- want of memory says nothing; any other fault, that the tree passes a limit of programs
abbrev pub Refused : Tree → Fault → Type 0
Refused t (TooManyShared n) = Unwritable t
Refused t NoProcedure = Unwritable t
Refused t (TooManyProcedures n) = Unwritable t
Refused t (TooManyOwn p n) = Unwritable t
Refused t (TooManyStatements p n) = Unwritable t
Refused t (NoSuchVariable at x) = Unwritable t
Refused t (NoSuchPlace at a) = Unwritable t
Refused t (NoSuchProcedure at f) = Unwritable t
Refused t (TooLong n) = Unwritable t
Refused t Memory = Unit {0}

-- the bytes that are read as the program that the tree means, or why there are none
abbrev pub Encoded : Tree → Result (Vec ℕ Global) Fault → Type 0
Encoded t (Ok bytes) = Reads (vec_items bytes) (meaning t)
Encoded t (Err fault) = Refused t fault
