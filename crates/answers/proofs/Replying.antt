-- A text that begins with the verdict says what was found.
use Rattle.std.proofs.Common.{◌≡◌, ℕ, ◌<◌, List, ◌++◌, get_or, codes, sym, ap, ◌∙◌, inl, inr, arith}
use Rattle.std.proofs.lemmas.Bool.{cases_eq}
use Rattle.program.specs.Program.{Prog}
use Rattle.answers.specs.declared.reached.Question.{Question}
use Rattle.answers.specs.Looking.{Answers}
use Rattle.answers.specs.Replies.{Begins, Says}

not_both : (text : List ℕ) → Begins text (codes "yes\n") → Begins text (codes "no\n") → ⊥
not_both text y n = let z : ◌≡◌ {A = ℕ} 121 110 = ap (λ l. get_or l 0 0) (sym y.1 ∙ n.1) in omega arith

pub says : {g : Prog} {q : Question} {count : ℕ} (text word rest : List ℕ) → Answers g q count → (0 < count → word ≡ codes "yes\n") → (count ≡ 0 → word ≡ codes "no\n") → text ≡ word ++ rest → Says g q text
says {count = count} text word rest a yes_if no_if e =
    let begun : (w : List ℕ) → word ≡ w → Begins text w = λ w k. (rest, e ∙ ap (λ z. z ++ rest) k) in
    record {
      p = a.p;
      there = a.there;
      place = a.place;
      one = elim (cases_eq count 0) [ inl z ↦ inr (begun _ (no_if z)) | inr z ↦ inl (begun _ (yes_if (omega arith))) ];
      tell = (
        (λ b. elim (cases_eq count 0) [ inl z ↦ absurd (not_both text b (begun _ (no_if z))) | inr z ↦ a.tell.0 (omega arith) ]),
        (λ k. begun _ (yes_if (a.tell.1 k))),
      );
    }
