use Rattle.std.proofs.Common.{◌≡◌, Bool, List, sym, ap, subst, ◌∙◌, arith}
use Rattle.std.specs.Prelude.{IfOk}
use Rattle.std.specs.List.{flat_map, filter}
use Rattle.std.proofs.lemmas.List.{take_all}
use Rattle.py_base.specs.declared.ids.ClassId.{ClassId}
use Rattle.class_rows.specs.Rows.{is_sub_of}
use Rattle.narrow_rules.specs.Keep.{instead_of, standing}
use Rattle.narrow_rules.proofs.ListLemmas.{on_err, one_flat, one_kept}
use Rattle.narrow_rules.proofs.RowLemmas.{others_of, standing_some}
use Rattle.narrow_rules.proofs.classes.those_below.Goals as goal

pub returns-in_err-push_standing-clause-free : goal.returns-in_err-push_standing-clause-free
returns-in_err-push_standing-clause-free g c =
    let f = standing (g.N.Names.names c.args.names.now) c.args.standing in let listed = c.args.listed.now in
    let p : ClassId → Bool = λ low. is_sub_of c.args.classes.now low c.args.class in
    let some = one_kept p listed c.loop-low.low-index _ c.loop-low-test.true (sym c.is_sub.ensures.value ∙ c.if-is_sub.true) in
    on_err _ (others_of (flat_map f (filter p listed)) (one_flat f (filter p listed) (standing_some (g.N.Names.names c.args.names.now) c.args.standing) some))

pub returns-clause-value : goal.returns-clause-value
returns-clause-value g c =
    let f = standing (g.N.Names.names c.args.names.now) c.args.standing in let listed = c.args.listed.now in
    let p : ClassId → Bool = λ low. is_sub_of c.args.classes.now low c.args.class in
    let all = take_all c.loop-low.low-index listed (omega (arith, c.loop-low-test.false)) in
    subst (λ atoms. IfOk c.instead_of.result (λ kept. kept ≡ instead_of atoms)) (c.loop-low.invariant ∙ ap (λ (classes : List ClassId). flat_map f (filter p classes)) all) c.instead_of.ensures.value
