use Rattle.std.proofs.Common.{rules, ◌≡◌, ◌∷◌, [], sym, subst}
use Rattle.type_terms.specs.Widen.{all_members, widen}
use Rattle.type_terms.specs.declared.atom.Atom.TheVariants as atom
use Rattle.type_terms.specs.declared.literal.Literal.TheVariants as literal
use Rattle.value_terms.specs.Told.{IsAlike}
use Rattle.op_rules.proofs.WidenLemmas.{all_of_first}
use Rattle.op_rules.proofs.instances.enum_instances.Goals as goal

pub returns : goal.returns
returns g c =
    let w = g.P.Program.world c.args.program.now in
    let law = c.types_have_their_members.ensures in
    let is : c.in_ok-all.all ≡ widen w.names (atom.Lit (literal.Member c.args.class 0) ∷ []) = search rules in
    c.in_ok-parts.ensures.rule w (all_members w.names c.args.class) (subst (λ ty. IsAlike ty (all_members w.names c.args.class)) (sym is) (all_of_first law.more law.fewer w.names c.args.class))
