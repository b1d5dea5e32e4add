-- A program as a pushdown system: its moves are the program's own steps, with nothing waiting that
-- they don't need.
use Rattle.std.specs.Prelude.{Bool, List, [], ◌∷◌}
use Rattle.pushdown.specs.System.{Sys}
use Rattle.program.specs.Program.{Prog, Frame, St}
use Rattle.program.specs.Runs.{Step}

-- a node: the shared variables and the procedure at work
pub record Node : Type 0 where
  pub shared : List Bool
  pub frame : Frame

-- a node with these waiting
abbrev pub state : Node → List Frame → St
state n fs = record { shared = n.shared; top = n.frame; below = fs }

abbrev pub node : St → Node
node s = record { shared = s.shared; frame = s.top }

-- where one that waits goes on: with its own variables as they were, and the shared ones as they are
abbrev pub resumed : Frame → List Bool → Node
resumed f sh = record { shared = sh; frame = f }

abbrev pub system : Prog → Sys Node Frame (List Bool)
system g = record {
  flow = λ n m. Step g (state n []) (state m []);
  call = λ n m f. Step g (state n []) (state m (f ∷ []));
  exit = λ n sh. (f : Frame) → Step g (state n (f ∷ [])) (state (resumed f sh) []);
  resume = resumed;
}
