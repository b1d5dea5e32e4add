-- A text lists at most one list of numbers.
use Rattle.std.proofs.Common.{◌≡◌, ℕ, List, [], ◌∷◌, sym, refl, ◌∙◌}
use Rattle.syntax.specs.Decimal.{Numbers, Lists}

one : (ws : List (List ℕ)) (ns ms : List ℕ) → Numbers ws ns → Numbers ws ms → ns ≡ ms
one [] [] [] h k = refl
one [] [] (m ∷ ms) h k = absurd k
one [] (n ∷ ns) ms h k = absurd h
one (w ∷ ws) [] ms h k = absurd h
one (w ∷ ws) (n ∷ ns) [] h k = absurd k
one (w ∷ ws) (n ∷ ns) (m ∷ ms) h k =
    let e = sym h.0.value ∙ k.0.value in
    let q = one ws ns ms h.1 k.1 in
    λ i. e i ∷ q i

pub lists_one : (text ns ms : List ℕ) → Lists text ns → Lists text ms → ns ≡ ms
lists_one text ns ms h k = one _ ns ms h k
