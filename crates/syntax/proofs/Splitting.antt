-- How a text is split into words. Assumes nothing.
use Rattle.std.proofs.Common.{◌≡◌, ℕ, ◌+◌, ◌<◌, ◌==◌, Bool, true, false, not, cond, eqb, List, [], ◌∷◌, ◌++◌, length, take, drop, slice_index, sym, refl, ap, ◌∙◌, inl, inr, suc, arith}
use Rattle.std.specs.List.{prefix_len}
use Rattle.std.proofs.lemmas.Bool.{cases_Bool, cond-true, eqb-true}
use Rattle.std.proofs.lemmas.List.{append_assoc, append-nil}
use Rattle.syntax.specs.Decimal.{uncomment, gap, ends, words, finish}

one : (k : ℕ) → 1 + k ≡ suc k
one k = omega arith

-- a comment runs up to the line end
abbrev pub comment_of : List ℕ → ℕ
comment_of s = prefix_len (λ b. not (b == 10)) s

pub comment_past : (s : List ℕ) → uncomment true s ≡ uncomment false (drop (comment_of s) s)
comment_past [] = refl
comment_past (b ∷ s) = elim (cases_Bool (b == 10)) [
  | inl t ↦ rw (eqb-true b 10 t) refl
  | inr f ↦ rw (f, one) (comment_past s)
]

-- a word ends at a gap
gap_stops : (w : List ℕ) (b : ℕ) (bs : List ℕ) → gap b ≡ true → words w (b ∷ bs) ≡ finish w (words [] (b ∷ bs))
gap_stops w b bs g = cond-true _ _ _ g ∙ ap (finish w) (sym (cond-true _ _ _ g))

-- a word ends at a comment
comment_at : (w : List ℕ) (b : ℕ) (bs : List ℕ) (t : Bool) → eqb b 10 ≡ t → words w (uncomment true bs) ≡ finish w (words [] (uncomment true bs)) → words w (cond t (b ∷ uncomment false bs) (uncomment true bs)) ≡ finish w (words [] (cond t (b ∷ uncomment false bs) (uncomment true bs)))
comment_at w b bs true e rest = gap_stops w b (uncomment false bs) (ap gap (eqb-true b 10 e))
comment_at w b bs false e rest = rest

comment_ends : (w bs : List ℕ) → words w (uncomment true bs) ≡ finish w (words [] (uncomment true bs))
comment_ends w [] = refl
comment_ends w (b ∷ bs) = comment_at w b bs (eqb b 10) refl (comment_ends w bs)

-- a word runs up to the first byte that is no part of it
abbrev pub word_of : List ℕ → ℕ
word_of s = prefix_len (λ b. not (ends b)) s

word_splits : (w s : List ℕ) → words w (uncomment false s) ≡ finish (w ++ take (word_of s) s) (words [] (uncomment false (drop (word_of s) s)))
word_splits w [] = ap (λ v. finish v []) (sym (append-nil w))
word_splits w (b ∷ s) = elim (cases_Bool (b == 35)) [
  | inl t ↦ rw (eqb-true b 35 t) (comment_ends w s ∙ ap (λ v. finish v (words [] (uncomment true s))) (sym (append-nil w)))
  | inr f ↦ elim (cases_Bool (gap b)) [
    | inl g ↦ rw (f, g, f, g) (ap (λ v. finish v (words [] (uncomment false s))) (sym (append-nil w)))
    | inr g ↦ rw (f, g, one) (word_splits (w ++ b ∷ []) s ∙ ap (λ v. finish v (words [] (uncomment false (drop (word_of s) s)))) (append_assoc w (b ∷ []) (take (word_of s) s)))
  ]
]

pub some_word : (w : List ℕ) (ws : List (List ℕ)) → 0 < length w → finish w ws ≡ w ∷ ws
some_word [] ws h = absurd (omega arith)
some_word (b ∷ w) ws h = refl

-- where a word begins, its first byte is part of it
pub word_begins : (s : List ℕ) {b n : ℕ} {inner : List ℕ} → s ≡ b ∷ inner → (0 < length s → ends (slice_index s 0) ≡ false) → n ≡ word_of inner → 1 + n ≡ word_of s
word_begins s {b} {n} {inner} is begins long =
    let at_first : 0 < length (b ∷ inner) → ends b ≡ false = rw is at begins in
    rw (is, at_first (omega arith), long) refl

-- the first word comes before the words of what it leaves
pub next_word : (s : List ℕ) {word left : List ℕ} {n : ℕ} → n ≡ word_of s → word ≡ take n s → left ≡ drop n s → 0 < length word → words [] (uncomment false s) ≡ word ∷ words [] (uncomment false left)
next_word s {word} {left} long word_is left_is some =
    let here : words [] (uncomment false s) ≡ finish word (words [] (uncomment false left)) = rw (word_is, left_is, long) (word_splits [] s) in
    here ∙ some_word _ _ some
