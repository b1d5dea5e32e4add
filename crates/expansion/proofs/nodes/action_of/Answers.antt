use Rattle.std.proofs.Common.{◌≡◌, ℕ, ◌+◌, ◌*◌, Bool, Some, sym, refl, ap, ◌∙◌, subst, arith}
use Rattle.std.proofs.lemmas.Bool.{false≢true}
use Rattle.program.specs.Values.{Puts}
use Rattle.expansion.proofs.Placed.{at_step, wide, next_small, set_var, set_has, set_small, set_codes, open_var, open_small, open_codes, go_has, go_there, go_codes, call_in, call_codes}
use Rattle.expansion.proofs.nodes.action_of.Goals as goal

-- the variable by another name
puts_at : {v x y u : ℕ} {b : Bool} → y ≡ x → Puts v y b u → Puts v x b u
puts_at {v} {u = u} {b = b} e h = subst (λ z. Puts v z b u) e h

pub overflow_add-next : goal.overflow_add-next
overflow_add-next c = let n = next_small c.requires.4 in omega (arith, n)

pub evaluate-yes-requires : goal.evaluate-yes-requires
evaluate-yes-requires c = set_has (at_step _ (c.in-Some.is ∙ ap Some c.in-Set.is) c.requires.4)

pub put_bit-requires : goal.put_bit-requires
put_bit-requires c = rw c.from.ensures (set_var (at_step _ (c.in-Some.is ∙ ap Some c.in-Set.is) c.requires.4))

pub overflow_add-next-in-Set : goal.overflow_add-next-in-Set
overflow_add-next-in-Set c =
    let h = at_step _ (c.in-Some.is ∙ ap Some c.in-Set.is) c.requires.4 in
    omega (arith, next_small h, set_small h _ _ _ c.requires.5 (puts_at c.from.ensures c.put_bit.ensures))

pub returns-in-Set : goal.returns-in-Set
returns-in-Set c = λ g f p a h l. rw c.flow_to.ensures (set_codes (at_step _ (c.in-Some.is ∙ ap Some c.in-Set.is) h) _ _ l _ c.evaluate-yes.ensures _ (puts_at c.from.ensures c.put_bit.ensures))

pub put_bit-requires-in-Open : goal.put_bit-requires-in-Open
put_bit-requires-in-Open c = rw c.from-in-Open.ensures (open_var (at_step _ (c.in-Some.is ∙ ap Some c.in-Open.is) c.requires.4))

pub overflow_add-result : goal.overflow_add-result
overflow_add-result c =
    let h = at_step _ (c.in-Some.is ∙ ap Some c.in-Open.is) c.requires.4 in
    omega (arith, next_small h, open_small h _ _ _ c.requires.5 (puts_at c.from-in-Open.ensures c.put_bit-in-Open.ensures))

pub put_bit-requires-in-Open-2 : goal.put_bit-requires-in-Open-2
put_bit-requires-in-Open-2 c = rw c.from-in-Open-2.ensures (open_var (at_step _ (c.in-Some.is ∙ ap Some c.in-Open.is) c.requires.4))

pub overflow_add-result-in-Open : goal.overflow_add-result-in-Open
overflow_add-result-in-Open c =
    let h = at_step _ (c.in-Some.is ∙ ap Some c.in-Open.is) c.requires.4 in
    omega (arith, next_small h, open_small h _ _ _ c.requires.5 (puts_at c.from-in-Open-2.ensures c.put_bit-in-Open-2.ensures))

pub returns-in-Open : goal.returns-in-Open
returns-in-Open c = λ g f p a h l.
    open_codes (at_step _ (c.in-Some.is ∙ ap Some c.in-Open.is) h) _ _ l _ _ (puts_at c.from-in-Open.ensures c.put_bit-in-Open.ensures) (puts_at c.from-in-Open-2.ensures c.put_bit-in-Open-2.ensures)

pub overflow_mul-there : goal.overflow_mul-there
overflow_mul-there c = rw c.from-in-Go.ensures (omega (arith, go_there (at_step _ (c.in-Some.is ∙ ap Some c.in-Go.is) c.requires.4)))

pub overflow_add-there : goal.overflow_add-there
overflow_add-there c = rw c.from-in-Go.ensures (omega (arith, go_there (at_step _ (c.in-Some.is ∙ ap Some c.in-Go.is) c.requires.4)))

pub evaluate-requires : goal.evaluate-requires
evaluate-requires c = go_has (at_step _ (c.in-Some.is ∙ ap Some c.in-Go.is) c.requires.4)

pub overflow_add-there-then-evaluate : goal.overflow_add-there-then-evaluate
overflow_add-there-then-evaluate c =
    let h = at_step _ (c.in-Some.is ∙ ap Some c.in-Go.is) c.requires.4 in
    rw c.from-in-Go.ensures (omega (arith, go_there h, c.requires.5, wide h))

pub overflow_add-next-else-evaluate : goal.overflow_add-next-else-evaluate
overflow_add-next-else-evaluate c =
    let h = at_step _ (c.in-Some.is ∙ ap Some c.in-Go.is) c.requires.4 in
    omega (arith, next_small h, c.requires.5, wide h)

pub returns-then-evaluate : goal.returns-then-evaluate
returns-then-evaluate c = λ g f p a h l.
    rw c.flow_to-then-evaluate.ensures (go_codes (at_step _ (c.in-Some.is ∙ ap Some c.in-Go.is) h) _ _ _ c.evaluate.ensures _ (λ e. ap (λ z. c.args.place.base + z * c.args.place.width + c.args.values) c.from-in-Go.ensures) (λ e. absurd (false≢true (sym e ∙ c.if-evaluate.true))))

pub returns-else-evaluate : goal.returns-else-evaluate
returns-else-evaluate c = λ g f p a h l.
    rw c.flow_to-else-evaluate.ensures (go_codes (at_step _ (c.in-Some.is ∙ ap Some c.in-Go.is) h) _ _ _ c.evaluate.ensures _ (λ e. absurd (false≢true (sym c.if-evaluate.false ∙ e))) (λ e. refl))

pub overflow_add-waiting : goal.overflow_add-waiting
overflow_add-waiting c = omega (arith, next_small c.requires.4, c.requires.5, wide c.requires.4)

pub bounds-body-from : goal.bounds-body-from
bounds-body-from c = rw c.from-in-Call.ensures (call_in (at_step _ (c.in-Some.is ∙ ap Some c.in-Call.is) c.requires.4))

pub returns-in-Call : goal.returns-in-Call
returns-in-Call c = λ g f p a h l. rw c.from-in-Call.ensures (call_codes (at_step _ (c.in-Some.is ∙ ap Some c.in-Call.is) h) _ _)
