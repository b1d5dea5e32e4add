-- Bits of nodes, from bits of words.
use Rattle.std.proofs.Common.{◌≡◌, ℕ, ◌+◌, ◌-◌, ◌*◌, ◌/◌, ◌%◌, ◌^◌, ◌<◌, ◌≤◌, Bool, ◌||◌, ◌⊎◌, List, get_or, sym, ap, ◌∙◌, subst, inl, inr, pow-suc, arith}
use Rattle.std.proofs.lemmas.Bool.{cases_eq, cases_order, cases_Bool, or_parts, or_cases}
use Rattle.std.proofs.lemmas.Nat.{pow_pos, pow-add, shl-shr, shr_le, pow_below, div_below, le-div, one_shl, leading_top}
use Rattle.saturation.specs.Bits.{Bit, On, room, Grew, Merged, Joined, Added}

-- whether or not something was new, there is no more room than before
pub room_le : {a b : List ℕ} {p : Bool} → Grew a b p → room b ≤ room a
room_le {a} {b} {p} g = elim (cases_Bool p) [ inl e ↦ omega (arith, g.less e) | inr e ↦ omega (arith, ap room (g.same e)) ]

pub grew_both : {a b c : List ℕ} {p q : Bool} → Grew a b p → Grew b c q → Grew a c (p || q)
grew_both {a} {b} {c} {p} {q} g h = record {
  kept = λ i y o. h.kept i y (g.kept i y o);
  same = λ e. h.same (or_parts p q e).1 ∙ g.same (or_parts p q e).0;
  less = λ e. elim (or_cases p q e) [ inl l ↦ omega (arith, g.less l, room_le h) | inr l ↦ omega (arith, h.less l, room_le g) ];
}

-- two words for each node
pub half : (x : ℕ) → x < 64 → (x / 32 ≡ 0) ⊎ (x / 32 ≡ 1)
half x h = elim (cases_eq (x / 32) 0) [ inl e ↦ inl e | inr n ↦ inr (omega arith) ]

pub move : (t : List ℕ) {i j : ℕ} (y : ℕ) → i ≡ j → Bit t i y → Bit t j y
move t y e o = rw (sym e) o

module _ (from to : ℕ) {t u v : List ℕ} (m : Merged t u (2 * to) (get_or t (2 * from) 0)) (g : (i y : ℕ) → Bit t i y → Bit u i y)
    (n : Merged u v (2 * to + 1) (get_or u (2 * from + 1) 0)) (h : (i y : ℕ) → Bit u i y → Bit v i y) where
  join_got : (x : ℕ) → x < 64 → On t from x → On v to x
  unfolding Bit
  join_got x b o = elim (half x b) [
    | inl e ↦ move v (x % 32) (omega arith) (h (2 * to) (x % 32) (m.got (x % 32) (move t {j = 2 * from} (x % 32) (omega arith) o)))
    | inr e ↦ move v (x % 32) (omega arith) (n.got (x % 32) (g (2 * from + 1) (x % 32) (move t (x % 32) (omega arith) o)))
  ]

  join_only : (k x : ℕ) → x < 64 → On v k x → On t k x ⊎ ((k ≡ to) × On t from x)
  unfolding Bit
  join_only k x b o = elim (n.only (2 * k + x / 32) (x % 32) o) [
    | inl p ↦ elim (m.only (2 * k + x / 32) (x % 32) p) [
      | inl q ↦ inl q
      | inr q ↦ inr (omega (arith, half x b), move t (x % 32) (omega (arith, half x b)) q.1)
    ]
    | inr p ↦ elim (m.only (2 * from + 1) (x % 32) p.1) [
      | inl q ↦ inr (omega (arith, half x b), move t (x % 32) (omega (arith, half x b)) q)
      | inr q ↦ absurd (omega arith)
    ]
  ]

  pub join_joined : Joined t v from to
  join_joined = record { got = join_got; only = join_only }

-- one bit of a word
pow_shr : (d z : ℕ) → 2 ^ (d + 1 + z) / 2 ^ z ≡ 2 ^ d * 2
pow_shr d z = ap (λ n. n / 2 ^ z) (pow-add 2 (d + 1) z) ∙ shl-shr (2 ^ (d + 1)) z ∙ pow-add 2 d 1

pub pow_odd : (y z : ℕ) → 2 ^ y / 2 ^ z % 2 ≡ 1 → z ≡ y
pow_odd y z o = elim (cases_order z y) [
  | inl e ↦ e
  | inr (inl l) ↦ let e : y ≡ (y - z - 1) + 1 + z = omega arith in absurd (omega (arith, pow_shr (y - z - 1) z, ap (λ n. 2 ^ n / 2 ^ z) e))
  | inr (inr l) ↦ absurd (omega (arith, div_below (2 ^ y) (2 ^ z) 1 (pow_pos z) (omega (arith, pow_below y z l))))
]

pub pow_bit : (y : ℕ) → 2 ^ y / 2 ^ y % 2 ≡ 1
pow_bit y = let e : 1 * 2 ^ y ≡ 2 ^ y = omega arith in omega (arith, shl-shr 1 y, ap (λ n. n / 2 ^ y) e)

pub add_added : (n x : ℕ) {t u : List ℕ} → x < 64 → Merged t u (2 * n + x / 32) ((1 * 2 ^ (x % 32)) % 2 ^ 32) → Added t u n x
add_added n x {t} {u} b m = let one : (1 * 2 ^ (x % 32)) % 2 ^ 32 ≡ 2 ^ (x % 32) = one_shl (x % 32) 32 (omega arith) in
    let m1 : Merged t u (2 * n + x / 32) (2 ^ (x % 32)) = subst (λ w. Merged t u (2 * n + x / 32) w) one m in record {
      got = m1.got (x % 32) (pow_bit (x % 32));
      only = λ k y h o. elim (m1.only (2 * k + y / 32) (y % 32) o) [
        | inl p ↦ inl p
        | inr p ↦ inr (omega (arith, half x b, half y h), let e : y % 32 ≡ x % 32 = pow_odd (x % 32) (y % 32) p.1 in omega (arith, half x b, half y h))
      ];
    }

-- a word with no bit, and one with some
pub no_bit : (w y : ℕ) → w ≡ 0 → w / 2 ^ y % 2 ≡ 1 → ⊥
no_bit w y e o = omega (arith, shr_le w y)

some_bit : (w : ℕ) → 0 < w → w < 2 ^ 32 → (y : ℕ) × (y < 32) × (w / 2 ^ y % 2 ≡ 1)
some_bit w p h = let l = leading_top 32 w p h in let j = l.0 in
    (j, omega (arith, l.1), omega (arith, le-div 1 w (2 ^ j) (pow_pos j) (omega (arith, l.2)), div_below w (2 ^ j) 2 (pow_pos j) (omega (arith, l.3, pow-suc 2 j))))

pub empty_yes : (t : List ℕ) (n : ℕ) → get_or t (2 * n) 0 ≡ 0 → get_or t (2 * n + 1) 0 ≡ 0 → (x : ℕ) → x < 64 → On t n x → ⊥
unfolding Bit
empty_yes t n a b x h o = elim (half x h) [
  | inl e ↦ no_bit (get_or t (2 * n) 0) (x % 32) a (move t {j = 2 * n} (x % 32) (omega arith) o)
  | inr e ↦ no_bit (get_or t (2 * n + 1) 0) (x % 32) b (move t {j = 2 * n + 1} (x % 32) (omega arith) o)
]

on_from : (t : List ℕ) (n h y : ℕ) → h < 2 → y < 32 → Bit t (2 * n + h) y → (x : ℕ) × (x < 64) × On t n x
on_from t n h y hh hy o = (
  32 * h + y,
  omega arith,
  let a : h ≡ (32 * h + y) / 32 = omega arith in let b : y ≡ (32 * h + y) % 32 = omega arith in
      subst (λ z. Bit t (2 * n + (32 * h + y) / 32) z) b (subst (λ z. Bit t (2 * n + z) y) a o),
)

pub empty_no : (t : List ℕ) (n h : ℕ) → h < 2 → 0 < get_or t (2 * n + h) 0 → get_or t (2 * n + h) 0 < 2 ^ 32 → (x : ℕ) × (x < 64) × On t n x
unfolding Bit
empty_no t n h hh p f = let s = some_bit (get_or t (2 * n + h) 0) p f in on_from t n h s.0 hh s.1 s.2
