-- Nodes at which nothing is left to do.
use Rattle.std.proofs.Common.{◌≡◌, ℕ, ◌+◌, ◌%◌, ◌<◌, List, arith}
use Rattle.saturation.specs.Bits.{Bit, On}
use Rattle.saturation.specs.System.{kind, first, second, proc, Fine}
use Rattle.saturation.specs.Marks.{Empty}
use Rattle.saturation.specs.Visits.{Closed}

-- a return with y goes on behind the call at n
abbrev pub ResumeClosed : List ℕ → ℕ → ℕ → ℕ → ℕ → List ℕ → Type 0
ResumeClosed g k t n y w = (x : ℕ) → x < 64 → On w n x → On w (t + (first g n + n % k)) y → On w (second g n + y) x

-- an entry with x can return at n
abbrev pub ReturnClosed : List ℕ → ℕ → ℕ → ℕ → ℕ → List ℕ → Type 0
ReturnClosed g k t n x w = On w n x → On w (t + (proc g n + x)) (n % k)

-- one kind of node asks for its own field alone
module _ {g : List ℕ} {k t : ℕ} {w : List ℕ} {n : ℕ} where
  pub closed_flow : kind g n ≡ 0 → ((x : ℕ) → x < 64 → On w n x → On w (first g n) x × On w (second g n) x) → Closed g k t w n
  closed_flow z f = record { flow = λ _. f; call = λ e. absurd (omega arith); over = λ e. absurd (omega arith); back = λ e. absurd (omega arith) }

  pub closed_call : kind g n ≡ 1 → ((x : ℕ) → x < k → On w n x → On w (first g n + n % k) (n % k)) → ((y : ℕ) → y < k → ResumeClosed g k t n y w) → Closed g k t w n
  closed_call z f b = record { flow = λ e. absurd (omega arith); call = λ _. f; over = λ _ x y l h. b y h x l; back = λ e. absurd (omega arith) }

module _ {g : List ℕ} {k t : ℕ} (fine : Fine g k t) where
  -- a node with no bit
  pub closed_empty : {w : List ℕ} (n : ℕ) → Empty w n → Closed g k t w n
  closed_empty n f = record {
    flow = λ z x b o. absurd (f x b o);
    call = λ z x b o. absurd (f x (omega (arith, fine.few)) o);
    over = λ z x y b h o a. absurd (f x b o);
    back = λ z x b o. absurd (f x (omega (arith, fine.few)) o);
  }

  -- what is closed stays so while no bits come to the node, nor to what its callee returns with
  pub still : {w v : List ℕ} (j : ℕ) → ((i y : ℕ) → Bit w i y → Bit v i y) → ((x : ℕ) → x < 64 → On v j x → On w j x) →
      (kind g j ≡ 1 → (y : ℕ) → y < 64 → On v (t + (first g j + j % k)) y → On w (t + (first g j + j % k)) y) → Closed g k t w j → Closed g k t v j
  still j kept same ret c = record {
    flow = λ z x b o. let r = c.flow z x b (same x b o) in (kept _ _ r.0, kept _ _ r.1);
    call = λ z x b o. kept _ _ (c.call z x b (same x (omega (arith, fine.few)) o));
    over = λ z x y b h o a. kept _ _ (c.over z x y b h (same x b o) (ret z y (omega (arith, fine.few)) a));
    back = λ z x b o. kept _ _ (c.back z x b (same x (omega (arith, fine.few)) o));
  }
