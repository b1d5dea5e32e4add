-- The numbers that a text lists: the text loses its comments, is split into words, and each word is
-- a number. A text is the list of its bytes.
use Rattle.std.specs.Prelude.{◌≡◌, ℕ, ◌+◌, ◌-◌, ◌*◌, ◌≤◌, Bool, true, false, cond, ◌||◌, List, [], ◌∷◌, ◌++◌, decimal, fold, ◌==◌}
use Rattle.std.specs.List.{AllByRecursion}

-- a comment runs from a # (35) up to the line end (10), which stays; the flag says whether the
-- text begins within a comment
abbrev pub uncomment : Bool → List ℕ → List ℕ
uncomment true [] = []
uncomment true (b ∷ bs) = cond (b == 10) (b ∷ uncomment false bs) (uncomment true bs)
uncomment false [] = []
uncomment false (b ∷ bs) = cond (b == 35) (uncomment true bs) (b ∷ uncomment false bs)

-- a space, a tab, a carriage return or a line end
abbrev pub gap : ℕ → Bool
gap b = b == 32 || (b == 9 || (b == 13 || b == 10))

-- a byte that is no part of a word
abbrev pub ends : ℕ → Bool
ends b = b == 35 || gap b

-- a word before other words; an empty one is none
abbrev pub finish : List ℕ → List (List ℕ) → List (List ℕ)
finish [] ws = ws
finish (b ∷ w) ws = (b ∷ w) ∷ ws

-- the words of a text, where w is the part of the first that was read before
abbrev pub words : List ℕ → List ℕ → List (List ℕ)
words w [] = finish w []
words w (b ∷ bs) = cond (gap b) (finish w (words [] bs)) (words (w ++ b ∷ []) bs)

-- the word has the digits 0 (48) to 9 (57) alone, its value is n, and n fits a byte
pub record Number (w : List ℕ) (n : ℕ) : Type 0 where
  pub digits : AllByRecursion (λ b. (48 ≤ b) × (b ≤ 57)) w
  pub value : fold (λ v b. 10 * v + (b - 48)) 0 w ≡ n
  pub fits : n ≤ 255

-- word by word, the numbers
abbrev pub Numbers : List (List ℕ) → List ℕ → Type 0
Numbers [] [] = Unit {0}
Numbers [] (n ∷ ns) = ⊥
Numbers (w ∷ ws) [] = ⊥
Numbers (w ∷ ws) (n ∷ ns) = Number w n × Numbers ws ns

-- the text lists these numbers
abbrev pub Lists : List ℕ → List ℕ → Type 0
Lists text ns = Numbers (words [] (uncomment false text)) ns

-- bytes written as decimal numbers, with a space after each
abbrev pub written : List ℕ → List ℕ
written [] = []
written (n ∷ ns) = decimal n ++ 32 ∷ written ns

-- bytes that are written so are listed
abbrev pub ListsWritten : Type 0
ListsWritten = (ns : List ℕ) → AllByRecursion (λ n. n ≤ 255) ns → Lists (written ns) ns
