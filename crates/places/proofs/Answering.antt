-- Each answer of `know` and of `depth`, from what is found of the bytes and the words, and from what was told or measured.
use Rattle.std.proofs.Common.{◌≡◌, ℕ, ◌<◌, ◌≤◌, List, ◌++◌, length, take, drop, Err, refl, ap, ◌∙◌, subst, arith}
use Rattle.std.proofs.lemmas.List.{take_at, drop_at}
use Rattle.program.specs.declared.programs.Header.{Header}
use Rattle.program.specs.Program.{Prog}
use Rattle.program.specs.Rows.{Reads}
use Rattle.expansion.specs.Programs.{Headed}
use Rattle.program.specs.Table.{wants}
use Rattle.program.proofs.Proved.{laws, waits_by_calls}
use Rattle.places.specs.declared.accepting.Refused.{Refused}
use Rattle.places.specs.declared.accepting.Refused.TheVariants as refusal
use Rattle.places.specs.Accepting.{Accepted}
use Rattle.places.specs.declared.Known.TheVariants.{Told, NoProgram, OutFull, Few}
use Rattle.places.specs.declared.Deep.TheVariants.{AtMost, Endless, Unread, Short}
use Rattle.places.specs.Says.{Table, Bounded, Unbounded, KnownPost, DeepPost}

module _ (s : List ℕ) (w : ℕ) {e : Refused} (refused : Accepted s w (Err e)) where
  none : e ≡ refusal.NoProgram → (g : Prog) → Reads s g → ⊥
  none q = subst (λ z. Accepted s w (Err z)) q refused

  many : e ≡ refusal.FewWords → (g : Prog) × Reads s g × (w < wants g)
  many q = subst (λ z. Accepted s w (Err z)) q refused

  pub no_program : e ≡ refusal.NoProgram → (o : List ℕ) → KnownPost s o o w NoProgram
  no_program q o = record { says = (none q, refl); few = ((λ h. absurd (none q h.0 h.1)), (λ f. absurd (cc))); laws = laws }

  pub few : e ≡ refusal.FewWords → (o : List ℕ) → KnownPost s o o w Few
  few q o = record { says = refl; few = ((λ _. refl), (λ _. many q)); laws = laws }

  pub unread : e ≡ refusal.NoProgram → DeepPost s w Unread
  unread q = record { says = none q; short = ((λ h. absurd (none q h.0 h.1)), (λ f. absurd (cc))); laws = laws; waits = waits_by_calls }

  pub short : e ≡ refusal.FewWords → DeepPost s w Short
  short q = record { says = tt; short = ((λ _. refl), (λ _. many q)); laws = laws; waits = waits_by_calls }

-- with the bytes b of a program that was read
module _ {s b : List ℕ} (same : b ≡ s) {h : Header} {g : Prog} (r : Headed b h g) (w : ℕ) (l : h.work ≤ w) where
  here : Headed s h g
  here = subst (λ z. Headed z h g) same r

  not_few : ((g : Prog) × Reads s g × (w < wants g)) → ⊥
  not_few q = let e = ap wants (laws.one_program s q.0 g q.1 here.reads) in omega (arith, q.2, e, r.header.work)

  pub full : (o : List ℕ) → length o < h.table → KnownPost s o o w OutFull
  full o m = record { says = (g, here.reads, omega (arith, r.header.table), refl); few = ((λ q. absurd (not_few q)), (λ e. absurd (cc))); laws = laws }

  pub told : (o t o' : List ℕ) → Table g t → o' ≡ t ++ drop (length t) o → KnownPost s o o' w Told
  told o t o' m e = record {
    says = (g, t, here.reads, m, ap (take (length t)) e ∙ take_at t (drop (length t) o) (length t) refl, ap (drop (length t)) e ∙ drop_at t (drop (length t) o) (length t) refl);
    few = ((λ q. absurd (not_few q)), (λ e. absurd (cc)));
    laws = laws;
  }

  pub bounded : (d : ℕ) → Bounded g d → DeepPost s w (AtMost d)
  bounded d m = record { says = (g, here.reads, m); short = ((λ q. absurd (not_few q)), (λ e. absurd (cc))); laws = laws; waits = waits_by_calls }

  pub endless : Unbounded g → DeepPost s w Endless
  endless m = record { says = (g, here.reads, m); short = ((λ q. absurd (not_few q)), (λ e. absurd (cc))); laws = laws; waits = waits_by_calls }
