-- What a reader of bytes answers: what stands there and where it ends, or that nothing does.
use Rattle.std.specs.Prelude.{◌≡◌, ℕ, ◌+◌, ◌<◌, ◌≤◌, ◌⊎◌, List, [], ◌∷◌, ◌++◌, length, drop, Ok, Err, Result}
use Rattle.program.specs.declared.refusals.Reason.{Reason}
use Rattle.program.specs.declared.refusals.Refusal.{Refusal}
use Rattle.program.specs.declared.steps.Step.{Step}
use Rattle.program.specs.declared.steps.Step.TheVariants.{Set, Open, Go, Call, Return}
use Rattle.program.specs.declared.steps.Found.{Found}
use Rattle.program.specs.declared.steps.Scope.{Scope}
use Rattle.program.specs.declared.procedures.Procedure.{Procedure}
use Rattle.program.specs.declared.programs.Tally.{Tally}
use Rattle.program.specs.declared.programs.Header.{Header}
use Rattle.program.specs.Program.{E, I, set, open1, go, call, return, Proc, Prog}
use Rattle.program.specs.Rows.{row_e, row_i, row_p, rows, OkE, OkI, OkP, Every, Reads}
use Rattle.program.specs.Table.{total, wants}

-- the row stands in s at `at`, and ends before `end`
pub record Stands (s : List ℕ) (at end : ℕ) (row : List ℕ) : Type 0 where
  pub is : drop at s ≡ row ++ drop end s
  pub long : at + length row ≡ end
  pub within : end ≤ length s

-- something that is fine stands in s at `at`, up to `end`
pub record Got {A : Type 0} (row : A → List ℕ) (ok : A → Type 0) (s : List ℕ) (at end : ℕ) : Type 0 where
  pub it : A
  pub stands : Stands s at end (row it)
  pub fine : ok it

-- nothing that is fine stands in s at `at`, however it goes on
abbrev pub Nothing : {A : Type 0} → (A → List ℕ) → (A → Type 0) → List ℕ → ℕ → Type 0
Nothing {A} row ok s at = (a : A) (r : List ℕ) → drop at s ≡ row a ++ r → ok a → ⊥

-- a byte
abbrev pub ReadByte : List ℕ → ℕ → Result ℕ Refusal → Type 0
ReadByte s at (Ok x) = Stands s at (at + 1) (x ∷ [])
ReadByte s at (Err e) = length s ≤ at

-- a byte below m
abbrev pub NoNumber : ℕ → List ℕ → ℕ → Type 0
NoNumber m s at = (x : ℕ) (r : List ℕ) → drop at s ≡ x ∷ r → x < m → ⊥

abbrev pub ReadNumber : ℕ → List ℕ → ℕ → Result ℕ Refusal → Type 0
ReadNumber m s at (Ok x) = Stands s at (at + 1) (x ∷ []) × (x < m)
ReadNumber m s at (Err e) = NoNumber m s at

-- the kind of which the byte is, if there is one and it is of one, where `gives` says which byte is of which
abbrev pub ReadKind : {K : Type 0} → (ℕ → Result K Reason → Type 0) → List ℕ → ℕ → Result K Refusal → Type 0
ReadKind gives s at (Ok k) = (b : ℕ) × Stands s at (at + 1) (b ∷ []) × gives b (Ok k)
ReadKind gives s at (Err e) = (length s ≤ at) ⊎ ((b : ℕ) × Stands s at (at + 1) (b ∷ []) × gives b (Err e.reason))

-- an expression over n variables, by its end
abbrev pub ReadExpr : ℕ → List ℕ → ℕ → Result ℕ Refusal → Type 0
ReadExpr n s at (Ok end) = Got row_e (OkE n) s at end
ReadExpr n s at (Err e) = Nothing row_e (OkE n) s at

-- what a step that was read means; its expression, if it has one, stands in the bytes up to `end`
abbrev pub Means : List ℕ → ℕ → Step → I → Type 0
Means s end (Set x at) i = (e : E) × (i ≡ set x.0 e) × Stands s at.0 end (row_e e)
Means s end (Open x) i = i ≡ open1 x.0
Means s end (Go p at) i = (e : E) × (i ≡ go e p.0) × Stands s at.0 end (row_e e)
Means s end (Call f) i = i ≡ call f.0
Means s end Return i = i ≡ return

-- a step within its scope
abbrev pub InScope : Scope → I → Type 0
InScope c = OkI c.vars c.last.0 c.procs

abbrev pub ReadStep : Scope → List ℕ → ℕ → Result Found Refusal → Type 0
ReadStep c s at (Ok f) = (i : Got row_i (InScope c) s at f.end) × Means s f.end f.step i.it
ReadStep c s at (Err e) = Nothing row_i (InScope c) s at

-- c steps
abbrev pub NoSteps : Scope → List ℕ → ℕ → ℕ → Type 0
NoSteps sc s c at = (is : List I) (r : List ℕ) → length is ≡ c → drop at s ≡ rows row_i is ++ r → Every (InScope sc) is → ⊥

abbrev pub ReadSteps : Scope → List ℕ → ℕ → ℕ → Result ℕ Refusal → Type 0
ReadSteps sc s c at (Ok end) = (is : List I) × (length is ≡ c) × Stands s at end (rows row_i is) × Every (InScope sc) is
ReadSteps sc s c at (Err e) = NoSteps sc s c at

-- what is told of a procedure p that was read at `at`
pub record HeadOf (p : Proc) (at : ℕ) (h : Procedure) : Type 0 where
  pub own : h.own ≡ p.own
  pub steps : h.steps ≡ length p.steps
  pub first : h.first ≡ at + 2

-- a procedure of a program with k shared variables and m procedures
abbrev pub ReadProc : ℕ → ℕ → List ℕ → ℕ → Result Procedure Refusal → Type 0
ReadProc k m s at (Ok h) = (p : Got row_p (OkP k m) s at h.end) × HeadOf p.it at h
ReadProc k m s at (Err e) = Nothing row_p (OkP k m) s at

-- the procedures from `at` to the end of the bytes, at most as many as there is room for
pub record AllProcs (k m : ℕ) (s : List ℕ) (at room : ℕ) (ps : List Proc) : Type 0 where
  pub is : drop at s ≡ rows row_p ps
  pub few : length ps ≤ room
  pub fine : Every (OkP k m) ps

-- their number and the bytes of their tables, added to those of a tally
pub record Tallied (k : ℕ) (ps : List Proc) (b t : Tally) : Type 0 where
  pub count : b.count + length ps ≡ t.count
  pub table : b.table + total k ps ≡ t.table

abbrev pub NoProcs : ℕ → ℕ → List ℕ → ℕ → ℕ → Type 0
NoProcs k m s at room = (ps : List Proc) → AllProcs k m s at room ps → ⊥

abbrev pub ReadProcs : ℕ → ℕ → List ℕ → ℕ → ℕ → Tally → Result Tally Refusal → Type 0
ReadProcs k m s at room b (Ok t) = (ps : List Proc) × AllProcs k m s at room ps × Tallied k ps b t
ReadProcs k m s at room b (Err e) = NoProcs k m s at room

-- what is told of a program that was read
pub record HeaderOf (g : Prog) (h : Header) : Type 0 where
  pub shared : h.shared ≡ g.shared
  pub procs : h.procs ≡ length g.procs
  pub table : h.table ≡ total g.shared g.procs
  pub work : h.work ≡ wants g

-- the program that these bytes are, or that they are none
abbrev pub NoProgram : List ℕ → Type 0
NoProgram s = (g : Prog) → Reads s g → ⊥

abbrev pub ReadProgram : List ℕ → Result Header Refusal → Type 0
ReadProgram s (Ok h) = (g : Prog) × Reads s g × HeaderOf g h
ReadProgram s (Err e) = NoProgram s
