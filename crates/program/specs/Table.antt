-- The table of a program: a byte for each procedure, each of its places, up to the one behind its
-- last step, and each of the values that the shared and its own variables can have.
use Rattle.std.specs.Prelude.{ℕ, zero, suc, ◌+◌, ◌*◌, ◌^◌, Bool, List, [], ◌∷◌, ◌++◌, length}
use Rattle.program.specs.Program.{pick, Proc, Prog}

-- values as a number: the first variable is its lowest bit
abbrev pub num : List Bool → ℕ
num [] = 0
num (b ∷ bs) = pick b 1 0 + 2 * num bs

-- the bytes of a procedure, with k shared variables
abbrev pub size : ℕ → Proc → ℕ
size k p = (length p.steps + 1) * 2 ^ (k + p.own)

-- the bytes of the procedures before procedure f
abbrev pub before : ℕ → List Proc → ℕ → ℕ
before k [] f = 0
before k (p ∷ ps) zero = 0
before k (p ∷ ps) (suc f) = size k p + before k ps f

-- the bytes of all procedures
abbrev pub total : ℕ → List Proc → ℕ
total k [] = 0
total k (p ∷ ps) = size k p + total k ps

-- where the byte of procedure f, which is p, at place a with these variables stands
abbrev pub spot : Prog → ℕ → Proc → ℕ → List Bool → List Bool → ℕ
spot g f p a sh own = before g.shared g.procs f + (a * 2 ^ (g.shared + p.own) + num (sh ++ own))

-- the words of work memory that deciding a program asks for: for each byte of its table eight, and
-- one for each of the values that the shared variables can have, with some more
abbrev pub wants : Prog → ℕ
wants g = 4096 + total g.shared g.procs * (8 + 2 ^ g.shared)
