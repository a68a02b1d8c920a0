use Rattle.std.proofs.Common.{List, sym, subst, ◌∙◌}
use Rattle.std.specs.Prelude.{All}
use Rattle.py_base.specs.declared.key.Key.{Key}
use Rattle.type_terms.specs.declared.atom.Atom.{Atom}
use Rattle.assign_rules.specs.Members.{table_of}
use Rattle.assign_rules.specs.Accepts.{no_test, like_ways, HasWay}
use Rattle.assign_rules.specs.Clauses.{Adds}
use Rattle.assign_rules.proofs.Needed.{same_says, unknown_says}
use Rattle.assign_rules.proofs.clauses.same_clauses.Goals as goal

pub returns-then-is_one_unknown-clause-value : goal.returns-then-is_one_unknown-clause-value
returns-then-is_one_unknown-clause-value g c =
    let t = table_of c.args.rules.now.classes.now (g.F.Names.names c.args.rules.now.facts.now) (g.F.Facts.facts c.args.rules.now.facts.now) (g.T.Types.assignment c.args.types.now) in
    unknown_says t no_test c.args.own.now c.args.others.now c.new-clauses.result c.new-clauses.ensures (sym c.is_one_unknown.ensures ∙ c.if-is_one_unknown.true)

pub returns-clause-value : goal.returns-clause-value
returns-clause-value g c =
    let s = g.T.Types.assignment c.args.types.now in
    let at = λ (types : Key → List Atom). table_of c.args.rules.now.classes.now (g.F.Names.names c.args.rules.now.facts.now) (g.F.Facts.facts c.args.rules.now.facts.now) types in
    let own = c.args.own.now in let others = c.args.others.now in
    let last : Adds (λ set. All (λ y. HasWay set (like_ways (at s) y own)) others) c.add_likes.new.clauses c.add_likes-2.new.clauses =
    subst (λ (types : Key → List Atom). Adds (λ set. All (λ y. HasWay set (like_ways (at types) y own)) others) c.add_likes.new.clauses c.add_likes-2.new.clauses) c.add_likes.ensures.same c.in_ok-add_likes-2.ensures.value in
    same_says (at s) no_test own others c.new-clauses.result c.add_likes.new.clauses c.add_likes-2.new.clauses c.new-clauses.ensures (sym c.is_one_unknown.ensures ∙ c.if-is_one_unknown.false) c.in_ok-add_likes.ensures.value last
