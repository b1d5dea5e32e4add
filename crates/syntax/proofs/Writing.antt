-- What is written as decimal numbers is listed. Assumes nothing.
use Rattle.std.proofs.Common.{◌≡◌, ℕ, ◌+◌, ◌-◌, ◌*◌, ◌/◌, ◌%◌, ◌<◌, ◌≤◌, true, false, eqb, List, [], ◌∷◌, ◌++◌, decimal, sym, ap, ◌∙◌, subst, arith}
use Rattle.std.specs.List.{AllByRecursion}
use Rattle.std.proofs.lemmas.Fmt.{decimal_by_steps, decimal_nonempty}
use Rattle.std.proofs.ByRecursion.{All-push}
use Rattle.std.proofs.lemmas.List.{append_assoc, append-nil}
use Rattle.std.proofs.lemmas.List.Sums.{fold_push}
use Rattle.std.proofs.lemmas.Bool.{cond-false, ne_eqb, or_from}
use Rattle.syntax.specs.Decimal.{uncomment, gap, words, finish, Numbers, written, ListsWritten}
use Rattle.syntax.proofs.Splitting.{some_word}
use Rattle.syntax.proofs.Values.{Digit, val}

-- the digits of n are digits, and n is their value
abbrev Reads : ℕ → List ℕ → Type 0
Reads n ds = AllByRecursion Digit ds × (val ds ≡ n)

one : (n : ℕ) → n < 10 → Reads n ((48 + n) ∷ [])
one n h = (((omega arith, omega arith), tt), omega arith)

more : (n : ℕ) (ds : List ℕ) → 10 ≤ n → Reads (n / 10) ds → Reads n (ds ++ (48 + n % 10) ∷ [])
more n ds h before =
    let value = before.1 in
    let push = fold_push (λ v b. 10 * v + (b - 48)) 0 ds (48 + n % 10) in
    (All-push Digit ds (48 + n % 10) before.0 (omega arith, omega arith), omega arith)

decimal_reads : (n : ℕ) → n ≤ 255 → Reads n (decimal n)
decimal_reads n h = decimal_by_steps Reads one more n (omega arith)

digit_no_gap : (b : ℕ) → 48 ≤ b → b ≤ 57 → gap b ≡ false
digit_no_gap b l h = or_from _ _ (ne_eqb b 32 (λ e. omega arith)) (or_from _ _ (ne_eqb b 9 (λ e. omega arith)) (or_from _ _ (ne_eqb b 13 (λ e. omega arith)) (ne_eqb b 10 (λ e. omega arith))))

-- digits are part of one word
digits_on : (w ds t : List ℕ) → AllByRecursion Digit ds → words w (uncomment false (ds ++ t)) ≡ words (w ++ ds) (uncomment false t)
digits_on w [] t d = ap (λ v. words v (uncomment false t)) (sym (append-nil w))
digits_on w (b ∷ ds) t d =
    let low = d.0.0 in
    ap (words w) (cond-false (eqb b 35) (uncomment true (ds ++ t)) (b ∷ uncomment false (ds ++ t)) (ne_eqb b 35 (λ e. omega arith)))
    ∙ cond-false (gap b) (finish w (words [] (uncomment false (ds ++ t)))) (words (w ++ b ∷ []) (uncomment false (ds ++ t))) (digit_no_gap b d.0.0 d.0.1)
    ∙ digits_on (w ++ b ∷ []) ds t d.1
    ∙ ap (λ v. words v (uncomment false t)) (append_assoc w (b ∷ []) ds)

pub lists_written : ListsWritten
lists_written [] h = tt
lists_written (n ∷ ns) h =
    let reads = decimal_reads n h.0 in
    let split = digits_on [] (decimal n) (32 ∷ written ns) reads.0 ∙ some_word (decimal n) (words [] (uncomment false (written ns))) (decimal_nonempty n (let few = h.0 in omega arith)) in
    subst (λ ws. Numbers ws (n ∷ ns)) (sym split) (record { digits = reads.0; value = reads.1; fits = h.0 }, lists_written ns h.1)
