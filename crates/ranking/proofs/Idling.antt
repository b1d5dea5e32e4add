-- The first level: procedure after procedure.
use Rattle.std.proofs.Common.{◌≡◌, ℕ, ◌+◌, ◌-◌, ◌<◌, ◌≤◌, List, length, get_or, take, drop, sym, ap, ◌∙◌, subst, inl, inr, arith, length-take, length-drop}
use Rattle.std.proofs.lemmas.Bool.{cases_eq}
use Rattle.std.proofs.lemmas.List.{get_or-take, get_or-drop}
use Rattle.saturation.specs.Bits.{On}
use Rattle.ranking.specs.Levels.{IdleAdded}

-- the procedures below f have been passed
pub record IdleUpto (k : ℕ) (bases c level : List ℕ) (f : ℕ) : Type 0 where
  pub right : (h x : ℕ) → h < length bases → x < k → On level h x → get_or c (get_or bases h 0 + x) 0 ≡ 0
  pub all : (h x : ℕ) → h < f → x < k → get_or c (get_or bases h 0 + x) 0 ≡ 0 → On level h x

pub idle_first : (k : ℕ) (bases c level : List ℕ) → ((h x : ℕ) → On level h x → ⊥) → IdleUpto k bases c level 0
idle_first k bases c level z = record { right = λ h x l b q. absurd (z h x q); all = λ h x l. absurd (omega arith) }

-- the counts from b on
pub part_reads : (c : List ℕ) (b k x : ℕ) → x < k → get_or (take (b + k - b) (drop b c)) x 0 ≡ get_or c (b + x) 0
part_reads c b k x l = get_or-take (b + k - b) (drop b c) x 0 (omega arith) ∙ get_or-drop b c x 0

pub part_long : (c : List ℕ) (b k : ℕ) → b + k ≤ length c → length (take (b + k - b) (drop b c)) ≡ k
part_long c b k l = grind (arith, length-take, length-drop)

-- part: the counts of procedure f
pub idle_next : {k : ℕ} {bases c level after : List ℕ} {f : ℕ} → k ≤ 64 → IdleUpto k bases c level f → (part : List ℕ) → ((x : ℕ) → x < k → get_or part x 0 ≡ get_or c (get_or bases f 0 + x) 0) → IdleAdded k part f level after → IdleUpto k bases c after (f + 1)
idle_next {k} {bases} {c} {level} {after} {f} few u part own i = record {
  right = λ h x l b q. elim (i.only h x (omega arith) q) [
    | inl e ↦ u.right h x l b e
    | inr e ↦ ap (λ z. get_or c (get_or bases z 0 + x) 0) e.0 ∙ sym (own x b) ∙ e.2
  ];
  all = λ h x l b e. elim (cases_eq h f) [
    | inl q ↦ subst (λ z. On after z x) (sym q) (i.got x b (own x b ∙ subst (λ z. get_or c (get_or bases z 0 + x) 0 ≡ 0) q e))
    | inr q ↦ i.kept h x (u.all h x (omega arith) b e)
  ];
}
