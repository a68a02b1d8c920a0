use Rattle.std.proofs.Common.{◌≡◌, ◌↔◌, List, ap, subst, ◌∙◌}
use Rattle.std.specs.Prelude.{IsTrue}
use Rattle.type_terms.specs.declared.atom.Atom.{Atom}
use Rattle.assign_rules.specs.declared.question.Question.{Question}
use Rattle.assign_rules.specs.declared.question.Question.TheVariants.{Accepted}
use Rattle.assign_rules.specs.Members.{table_of}
use Rattle.assign_rules.specs.Greatest.{Clauses, IsInGreatest}
use Rattle.assign_rules.specs.Places.{IsAt}
use Rattle.assign_rules.proofs.Found.{answers}
use Rattle.assign_rules.proofs.accept.accepts_by.Goals as goal

pub returns-clause-value : goal.returns-clause-value
returns-clause-value g c =
    let s = g.T.Types.assignment c.args.types.now in
    let t = table_of c.args.classes.now (g.F.Names.names c.args.facts.now) (g.F.Facts.facts c.args.facts.now) s in
    let source = c.args.source.now in let target = c.args.target.now in
    let questions = c.ask_all.new.self.questions in let clauses = c.ask_all.new.self.clauses in
    let low : c.into_slot-source.result ≡ source = c.into_slot-source.ensures.value ∙ c.in_ok-copy.ensures in
    let high : c.into_slot-target.result ≡ target = c.into_slot-target.ensures.value ∙ c.in_ok-copy-2.ensures in
    let pair : Accepted c.into_slot-source.result c.into_slot-target.result ≡ Accepted source target =
    ap (λ (x : List Atom). Accepted x c.into_slot-target.result) low ∙ ap (λ (y : List Atom). Accepted source y) high in
    let first : IsAt questions (Accepted source target) 0 = subst (λ (q : Question). IsAt questions q 0) pair (c.ask_all.ensures.grown _ 0 c.in_ok-asked.ensures.0) in
    answers t (g.H.ClassGoes.test c.args.by.now s) questions clauses c.in_ok-ask_all.ensures.told c.in_ok-ask_all.ensures.all source target c.in_ok-holds_first.field-0 first
    (subst (λ (cs : List Clauses). IsTrue c.in_ok-holds_first.field-0 ↔ IsInGreatest cs 0) c.as_slice.ensures c.in_ok-holds_first.ensures)
