-- What a walk through the words of a text has left, and what it gives.
use Rattle.std.specs.Prelude.{◌≡◌, ℕ, ◌+◌, false, List, [], ◌∷◌, length, Option, Some, None}
use Rattle.std.specs.Borrow.{Bor}
use Rattle.syntax.specs.Decimal.{uncomment, words}
use Rattle.syntax.specs.declared.decimal.Place.{Place}
use Rattle.syntax.specs.declared.words.Words.{Words}

-- the words that are left
abbrev pub words_left : Words → List (List ℕ)
words_left w = words [] (uncomment false w.rest.now)

-- the first word that is left, with a place of as many bytes, behind which the walk goes on in the same text; or that none
-- is left
abbrev pub GivesWord : Words → Option (Place × Bor (List ℕ)) → Words → Type 0
GivesWord w (Some p) v =
    (words_left w ≡ p.1.now ∷ words_left v)
    × (p.0.start + length p.1.now ≡ p.0.end) × (p.0.end + length v.rest.now ≡ w.whole) × (v.whole ≡ w.whole)
GivesWord w None v = (words_left w ≡ []) × (words_left v ≡ [])
