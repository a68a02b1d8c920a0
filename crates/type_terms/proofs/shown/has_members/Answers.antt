use Rattle.std.proofs.Common.{◌≡◌, ℕ, suc, ◌+◌, ◌-◌, ◌<◌, ◌&&◌, true, false, List, refl, sym, ap, ◌∙◌, arith, rules}
use Rattle.py_base.specs.declared.ids.ClassId.{ClassId}
use Rattle.type_terms.specs.declared.atom.Atom.{Atom}
use Rattle.type_terms.specs.Text.{has_member, has_members}
use Rattle.type_terms.proofs.shown.has_members.Goals as goal

one_more : (type : List Atom) (class : ClassId) (place count : ℕ) → place < count
    → has_members type class place (count - place) ≡ (has_member type class place && has_members type class (place + 1) (count - (place + 1)))
one_more type class place count within =
    let left : count - place ≡ suc (count - (place + 1)) = omega arith in rw left refl

pub loop-place-preserved : goal.loop-place-preserved
loop-place-preserved c =
    let ty = c.args.ty.now in let at = c.loop-place.place in
    let is : has_member ty c.args.class at ≡ true = search rules in
    c.loop-place.invariant ∙ one_more ty c.args.class at c.args.count c.loop-place-test.true ∙ ap (λ b. b && has_members ty c.args.class (at + 1) (c.args.count - (at + 1))) is

pub returns-then-not-has_member : goal.returns-then-not-has_member
returns-then-not-has_member c =
    let ty = c.args.ty.now in let at = c.loop-place.place in
    let is : has_member ty c.args.class at ≡ false = search rules in
    sym (c.loop-place.invariant ∙ one_more ty c.args.class at c.args.count c.loop-place-test.true ∙ ap (λ b. b && has_members ty c.args.class (at + 1) (c.args.count - (at + 1))) is)
