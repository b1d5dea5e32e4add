use Rattle.std.proofs.Common.{◌≡◌, ℕ, ◌+◌, List, [], ◌∷◌, length, get_or, sym, ap, inl, inr, arith, rules, ltb-false, ltb-true}
use Rattle.report.proofs.arguments.file_argument.Goals as goal

second : {X : Type 0} (xs : List X) (x : X) (n : ℕ) → length xs ≡ n + 2 → x ≡ get_or xs 1 x → (a : X) × (q : List X) × (xs ≡ a ∷ x ∷ q) × (length q ≡ n)
second [] x n h e = absurd (omega arith)
second (a ∷ []) x n h e = absurd (omega arith)
second (a ∷ b ∷ xs) x n h e = (a, xs, ap (λ y. a ∷ y ∷ xs) (sym e), omega arith)

pub returns-in-len2 : goal.returns-in-len2
returns-in-len2 c =
    let both = second c.args.args.now c.file-item.result 0 (omega (arith, ltb-true, ltb-false)) (search rules) in
    (both.0, c.file-item.result, both.1, both.2, c.as_str.ensures.value, inl both.3)

pub returns-in-len5 : goal.returns-in-len5
returns-in-len5 c =
    let both = second c.args.args.now c.file-item-then-args-lt6.result 3 (omega (arith, ltb-true, ltb-false)) (search rules) in
    (both.0, c.file-item-then-args-lt6.result, both.1, both.2, c.as_str-in-len5.ensures.value, inr both.3)
