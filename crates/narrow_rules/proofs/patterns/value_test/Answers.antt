use Rattle.std.proofs.Common.{◌==◌, ap, sym, ◌∙◌}
use Rattle.std.specs.Prelude.{ℕ, position, Option}
use Rattle.py_base.specs.declared.ids.ClassId.{ClassId}
use Rattle.py_base.specs.declared.ids.NameId.{NameId}
use Rattle.narrow_rules.specs.Patterns.{equals, in_class, member_value}
use Rattle.narrow_rules.proofs.patterns.value_test.Goals as goal

pub returns-in-Some-place_of : goal.returns-in-Some-place_of
returns-in-Some-place_of g c =
    let names = g.N.Names.names c.args.names.now in
    let place = sym (ap (position (λ (member : NameId). member.0 == c.in-Some.name.0)) c.enum_members.ensures) ∙ (sym c.place_of.ensures ∙ c.in-Some-place_of.is) in
    c.equals.ensures ∙ (ap (λ (o : Option ℕ). equals (in_class c.in-Some.class o)) (sym place) ∙ ap (λ (o : Option (ClassId × NameId)). equals (member_value names o)) (sym (sym c.member_at.ensures ∙ c.in-Some.is)))

pub returns-in-None-place_of : goal.returns-in-None-place_of
returns-in-None-place_of g c =
    let names = g.N.Names.names c.args.names.now in
    let place = sym (ap (position (λ (member : NameId). member.0 == c.in-Some.name.0)) c.enum_members.ensures) ∙ (sym c.place_of.ensures ∙ c.in-None-place_of.is) in
    ap (λ (o : Option ℕ). equals (in_class c.in-Some.class o)) (sym place) ∙ ap (λ (o : Option (ClassId × NameId)). equals (member_value names o)) (sym (sym c.member_at.ensures ∙ c.in-Some.is))
