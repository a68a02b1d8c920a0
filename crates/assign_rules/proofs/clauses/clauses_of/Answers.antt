use Rattle.std.proofs.Common.{◌≡◌, List, sym, ap, subst, ◌∙◌}
use Rattle.std.specs.Prelude.{IfOk}
use Rattle.type_terms.specs.declared.atom.Atom.{Atom}
use Rattle.assign_rules.specs.declared.question.Question.{Question}
use Rattle.assign_rules.specs.declared.question.Question.TheVariants.{Accepted, Same}
use Rattle.assign_rules.specs.Members.{table_of}
use Rattle.assign_rules.specs.Accepts.{Holds}
use Rattle.assign_rules.specs.Clauses.{AreClauses}
use Rattle.assign_rules.proofs.clauses.clauses_of.Goals as goal

pub returns-in-Accepted-clause-value : goal.returns-in-Accepted-clause-value
returns-in-Accepted-clause-value g c =
    let s = g.T.Types.assignment c.args.types.now in
    let t = table_of c.args.rules.now.classes.now (g.F.Names.names c.args.rules.now.facts.now) (g.F.Facts.facts c.args.rules.now.facts.now) s in let test = g.H.ClassGoes.test c.args.by.now s in
    let e : Accepted c.as_slice.result.now c.as_slice-in-Accepted.result.now ≡ c.args.question.now =
    ap (λ (x : List Atom). Accepted x c.as_slice-in-Accepted.result.now) c.as_slice.ensures ∙ ap (λ (y : List Atom). Accepted c.in-Accepted.source y) c.as_slice-in-Accepted.ensures ∙ sym c.in-Accepted.is in
    subst (λ (q : Question). IfOk c.accepted_clauses.result (AreClauses (λ set. Holds t test set q))) e c.accepted_clauses.ensures.value

pub returns-in-Same-clause-value : goal.returns-in-Same-clause-value
returns-in-Same-clause-value g c =
    let s = g.T.Types.assignment c.args.types.now in
    let t = table_of c.args.rules.now.classes.now (g.F.Names.names c.args.rules.now.facts.now) (g.F.Facts.facts c.args.rules.now.facts.now) s in let test = g.H.ClassGoes.test c.args.by.now s in
    let e : Same c.as_slice-in-Same.result.now c.as_slice-in-Same-2.result.now ≡ c.args.question.now =
    ap (λ (x : List Atom). Same x c.as_slice-in-Same-2.result.now) c.as_slice-in-Same.ensures ∙ ap (λ (y : List Atom). Same c.in-Same.own y) c.as_slice-in-Same-2.ensures ∙ sym c.in-Same.is in
    subst (λ (q : Question). IfOk c.same_clauses.result (AreClauses (λ set. Holds t test set q))) e c.same_clauses.ensures.value
