use Rattle.std.proofs.Common.{◌≡◌, ◌≢◌, ◌<◌, length, sym, ap, ◌∙◌, refl, arith}
use borrow.Author.Tests.{ltb-true}
use Rattle.type_terms.specs.Order.{key, kind_in, rest_in, form, members_key, atom_cmp}
use Rattle.type_terms.proofs.KeyOf.{key-Lit, key-Gen, key-BuiltMethod, kind-Lit, kind-Gen, kind-BuiltMethod, rest-flat}
use Rattle.type_terms.proofs.KeyLemmas.{listed_step, listed_ends, method_cmp, keys_cmp, decided_by, goes_on, then_from}
use Rattle.type_terms.proofs.SlotsLemmas.{slots_cmp-Each, slots_cmp-Arguments, slots_cmp-apart, form-Each, form-Endless, form-AnyArguments, form-Arguments}
use Rattle.type_terms.proofs.order.+order.Goals as goal
use Rattle.type_terms.proofs.order.+order.Goals.{compare_rest-in_default-2-via-in-Each+in_default, compare_rest-in_default-2-via-in-Endless+in_default, compare_rest-in_default-2-via-in-AnyArguments+in_default, compare_rest-in_default-2-via-in-Arguments+in_default}

pub compare-returns-in-Equal : goal.compare-returns-in-Equal
unfolding atom_cmp
compare-returns-in-Equal t c =
    let a = c.head.result in let b = c.head-2.result in
    let whole = keys_cmp a.kind b.kind a.class.0 b.class.0 a.place b.place a.inner b.inner (rest_in (key c.args.left.now)) (rest_in (key c.args.right.now)) c.head.ensures c.head-2.ensures in
    c.compare_rest.ensures ∙ sym (goes_on whole (sym c.in-Equal.is ∙ c.cmp.ensures))

pub compare-returns-in_default : goal.compare-returns-in_default
unfolding atom_cmp
compare-returns-in_default t c =
    let a = c.head.result in let b = c.head-2.result in
    let whole = keys_cmp a.kind b.kind a.class.0 b.class.0 a.place b.place a.inner b.inner (rest_in (key c.args.left.now)) (rest_in (key c.args.right.now)) c.head.ensures c.head-2.ensures in
    decided_by c.cmp.result whole c.cmp.ensures c.in_default.not-Equal

pub compare_rest-returns-in-Lit-right : goal.compare_rest-returns-in-Lit-right
compare_rest-returns-in-Lit-right t c = rw (c.in-Lit.is, c.in-Lit-right.is, key-Lit c.in-Lit.a, key-Lit c.in-Lit-right.b) c.compare.ensures

-- an atom of another kind has another number
pub compare_rest-returns-in_default-right : goal.compare_rest-returns-in_default-right
compare_rest-returns-in_default-right t c =
    absurd (kind-Lit c.args.right.now c.in_default-right.not-Lit (sym c.requires ∙ ap kind_in (ap key c.in-Lit.is ∙ key-Lit c.in-Lit.a)))

pub compare_rest-returns-in-Each-Each : goal.compare_rest-returns-in-Each-Each
compare_rest-returns-in-Each-Each t c =
    let a = c.in-Each-Each.a in let b = c.in-Each-Each.b in
    rw (c.in-Gen.is, c.in-Gen-right.is, key-Gen c.in-Gen.field-0 c.in-Gen.a, key-Gen c.in-Gen-right.field-0 c.in-Gen-right.b, c.in-Each-Each.is-0, c.in-Each-Each.is-1)
    (c.compare_types.ensures ∙ rw (c.as_slice.ensures, c.as_slice-in-Each-Each.ensures) (slots_cmp-Each a b))

pub compare_rest-returns-in-Endless-Endless : goal.compare_rest-returns-in-Endless-Endless
compare_rest-returns-in-Endless-Endless t c =
    rw (c.in-Gen.is, c.in-Gen-right.is, key-Gen c.in-Gen.field-0 c.in-Gen.a, key-Gen c.in-Gen-right.field-0 c.in-Gen-right.b, c.in-Endless-Endless.is-0, c.in-Endless-Endless.is-1)
    c.compare_members.ensures

pub compare_rest-returns-in-AnyArguments-AnyArguments : goal.compare_rest-returns-in-AnyArguments-AnyArguments
compare_rest-returns-in-AnyArguments-AnyArguments t c =
    rw (c.in-Gen.is, c.in-Gen-right.is, key-Gen c.in-Gen.field-0 c.in-Gen.a, key-Gen c.in-Gen-right.field-0 c.in-Gen-right.b, c.in-AnyArguments-AnyArguments.is-0, c.in-AnyArguments-AnyArguments.is-1)
    c.compare_members-in-AnyArguments-AnyArguments.ensures

pub compare_rest-returns-in-Arguments-Arguments : goal.compare_rest-returns-in-Arguments-Arguments
compare_rest-returns-in-Arguments-Arguments t c =
    let arms = c.in-Arguments-Arguments in
    rw (c.in-Gen.is, c.in-Gen-right.is, key-Gen c.in-Gen.field-0 c.in-Gen.a, key-Gen c.in-Gen-right.field-0 c.in-Gen-right.b, arms.is-0, arms.is-1)
    (c.then.ensures ∙ rw (c.compare_types-in-Arguments-Arguments.ensures, c.compare_members-in-Arguments-Arguments.ensures, c.as_slice-in-Arguments-Arguments.ensures, c.as_slice-in-Arguments-Arguments-2.ensures)
    (slots_cmp-Arguments arms.a arms.b arms.r arms.s))

pub compare_rest-returns-in_default-2 : goal.compare_rest-returns-in_default-2
compare_rest-returns-in_default-2 t c =
    let a = c.in-Gen.a in let b = c.in-Gen-right.b in
    let apart : form a ≢ form b = elim c.in_default-2.branch [
      | compare_rest-in_default-2-via-in-Each+in_default w ↦ rw w.in_default-2.is-0 (form-Each b w.in_default-2.not-Each-1)
      | compare_rest-in_default-2-via-in-Endless+in_default w ↦ rw w.in_default-2.is-0 (form-Endless b w.in_default-2.not-Endless-1)
      | compare_rest-in_default-2-via-in-AnyArguments+in_default w ↦ rw w.in_default-2.is-0 (form-AnyArguments b w.in_default-2.not-AnyArguments-1)
      | compare_rest-in_default-2-via-in-Arguments+in_default w ↦ rw w.in_default-2.is-0 (form-Arguments b w.in_default-2.not-Arguments-1)
    ] in
    rw (c.in-Gen.is, c.in-Gen-right.is, key-Gen c.in-Gen.field-0 c.in-Gen.a, key-Gen c.in-Gen-right.field-0 c.in-Gen-right.b)
    (c.cmp.ensures ∙ rw (c.kind.ensures, c.kind-in_default-2.ensures) (slots_cmp-apart a b apart))

pub compare_rest-returns-in_default-right-2 : goal.compare_rest-returns-in_default-right-2
compare_rest-returns-in_default-right-2 t c =
    absurd (kind-Gen c.args.right.now c.in_default-right-2.not-Gen (sym c.requires ∙ ap kind_in (ap key c.in-Gen.is ∙ key-Gen c.in-Gen.field-0 c.in-Gen.a)))

pub compare_rest-returns-in-BuiltMethod-right : goal.compare_rest-returns-in-BuiltMethod-right
unfolding atom_cmp
compare_rest-returns-in-BuiltMethod-right t c =
    let one = c.in-BuiltMethod in let other = c.in-BuiltMethod-right in
    rw (one.is, other.is, key-BuiltMethod one.row one.a, key-BuiltMethod other.other_row other.b)
    (c.then-in-BuiltMethod-right.ensures
    ∙ rw (c.compare-in-BuiltMethod-right.ensures, c.cmp-in-BuiltMethod-right.ensures, c.get.ensures, c.get-in-BuiltMethod-right.ensures)
    (method_cmp one.row other.other_row (key one.a) (key other.b)))

pub compare_rest-returns-in_default-right-3 : goal.compare_rest-returns-in_default-right-3
compare_rest-returns-in_default-right-3 t c =
    absurd (kind-BuiltMethod c.args.right.now c.in_default-right-3.not-BuiltMethod (sym c.requires ∙ ap kind_in (ap key c.in-BuiltMethod.is ∙ key-BuiltMethod c.in-BuiltMethod.row c.in-BuiltMethod.a)))

pub compare_rest-returns-in_default : goal.compare_rest-returns-in_default
compare_rest-returns-in_default t c =
    let a = c.args.left.now in let b = c.args.right.now in
    let value = kind-Lit a c.in_default.not-Lit in
    let slots = kind-Gen a c.in_default.not-Gen in
    let method = kind-BuiltMethod a c.in_default.not-BuiltMethod in
    let left = rest-flat a value slots method in
    let right = rest-flat b (λ e. value (c.requires ∙ e)) (λ e. slots (c.requires ∙ e)) (λ e. method (c.requires ∙ e)) in
    rw (left, right) refl

pub compare_members-returns-in_default-compare : goal.compare_members-returns-in_default-compare
unfolding atom_cmp
compare_members-returns-in_default-compare t c =
    let kept = c.loop-place.invariant in
    let b = c.in-Some.ensures.lookup in
    let within = rw kept.0 at c.loop-place-test.true in
    let others : c.loop-place.place < length c.args.right.now = rw kept.1 at (ltb-true _ _ (sym b.0)) in
    let step = listed_step key c.args.left.now c.args.right.now c.loop-place.place c.a-item.result c.in-Some.b.now within (rw kept.0 at c.a-item.is) others (rw kept.1 at b.1) in
    decided_by c.compare.result (then_from kept.2.1 step) c.compare.ensures c.in_default-compare.not-Equal

pub compare_members-loop-place-preserved : goal.compare_members-loop-place-preserved
unfolding atom_cmp
compare_members-loop-place-preserved t c =
    let kept = c.loop-place.invariant in
    let b = c.in-Some.ensures.lookup in
    let within = rw kept.0 at c.loop-place-test.true in
    let others : c.loop-place.place < length c.args.right.now = rw kept.1 at (ltb-true _ _ (sym b.0)) in
    let step = listed_step key c.args.left.now c.args.right.now c.loop-place.place c.a-item.result c.in-Some.b.now within (rw kept.0 at c.a-item.is) others (rw kept.1 at b.1) in
    (kept.0, kept.1, (omega (arith, others), goes_on (then_from kept.2.1 step) c.in-Equal.ensures))

pub compare_members-returns : goal.compare_members-returns
compare_members-returns t c =
    let kept = c.loop-place.invariant in
    let beyond = rw kept.0 at c.loop-place-test.false in
    let within = rw kept.0 at c.loop-place.auto.place-end in
    let ends : c.loop-place.place ≡ length c.args.left.now = omega (arith, beyond, within) in
    c.cmp.ensures ∙ rw (c.len.ensures, c.len-2.ensures, ← ends) (sym (kept.2.1 ∙ listed_ends key c.args.left.now c.args.right.now c.loop-place.place ends kept.2.0))

pub compare_types-returns : goal.compare_types-returns
compare_types-returns t c =
    let kept = c.loop-place.invariant in
    let ends : c.loop-place.place ≡ length c.args.left.now = omega (arith, c.loop-place-test.false, c.loop-place.auto.place-end) in
    c.cmp.ensures ∙ rw (← ends) (sym (kept.1 ∙ listed_ends members_key c.args.left.now c.args.right.now c.loop-place.place ends kept.0))
