use Rattle.std.proofs.Common.{◌≡◌, true, false, not, None, ◌∷◌, sym, ◌∙◌, subst}
use Rattle.std.proofs.lemmas.Bool.{not-false}
use Rattle.py_blocks.specs.declared.trail.Trail.{Trail}
use Rattle.py_blocks.specs.Rules
use Rattle.py_blocks.proofs.Tracing.{matches-told}
use Rattle.py_blocks.proofs.unfinished.matches_nothing.Goals as goal

pub returns-in-Some : goal.returns-in-Some
returns-in-Some c = λ before.
    let first = c.in-Some.first.now in
    let rest = c.in-Some.rest.now in
    let whole = c.in-Some.ensures.cases.0 in
    let k : Rules.is_match c.args.line.kind ≡ true = sym c.is_match.ensures ∙ c.if-not-is_match.false in
    let o : c.args.line.opens ≡ true = not-false _ c.if-not-line.false in
    let h : Rules.opens_nothing c.args.line (first ∷ rest) ≡ false = subst (λ l. Rules.opens_nothing c.args.line l ≡ false) whole c.requires in
    let start : Trail = record { opens = false; column = 0; least = None } in
    subst (λ l. not c.has_case.result ≡ Rules.matches_nothing before c.args.line l) (sym whole) (matches-told before start c.args.line first rest c.has_case.result k o h c.has_case.ensures)
