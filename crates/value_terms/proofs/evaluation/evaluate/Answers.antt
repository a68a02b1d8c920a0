use Rattle.std.proofs.Common.{rules, ◌≡◌, ◌∙◌, []}
use Rattle.value_terms.specs.Outcome.{named}
use Rattle.value_terms.specs.Term.{eval}
use Rattle.value_terms.specs.Told.{parts_told}
use Rattle.value_terms.proofs.AskLemmas.{asks_alike, just_some, some_more}
use Rattle.value_terms.proofs.ToldLemmas.{alike_then, alike_types, from_nothing, on_err}
use Rattle.value_terms.proofs.evaluation.evaluate.Goals as goal

pub returns-in_err-add_parts-clause-asked_before : goal.returns-in_err-add_parts-clause-asked_before
returns-in_err-add_parts-clause-asked_before g c o says =
    let s = g.T.Types.assignment c.args.types.now in
    on_err _ _ (some_more (g.T.Types.asked c.args.types.now) (g.T.Types.asked c.add_parts.new.types) (parts_told (g.R.Rows.rule c.args.rows.now) c.args.parts s).names (named o s) (says s).names.0 c.in_err-add_parts.ensures.asked)

pub returns-in_err-ty-clause-asked_before : goal.returns-in_err-ty-clause-asked_before
returns-in_err-ty-clause-asked_before g c o says =
    let s = g.T.Types.assignment c.args.types.now in
    let what = parts_told (g.R.Rows.rule c.args.rows.now) c.args.parts s in
    let after = g.T.Types.asked c.add_parts.new.types in
    on_err _ _ (some_more (g.T.Types.asked c.args.types.now) after what.names (named o s) (says s).names.0 (just_some (g.T.Types.asked c.args.types.now) after what.names c.in_ok-add_parts.ensures.adds.asked))

pub returns-clause-value : goal.returns-clause-value
returns-clause-value g c o says =
    let none : c.new-atoms.result.items ≡ [] = search rules in
    let s = g.T.Types.assignment c.args.types.now in
    let what = parts_told (g.R.Rows.rule c.args.rows.now) c.args.parts s in
    let atoms = c.add_parts.new.atoms.items in
    let alike = alike_then atoms what.gives (eval o.gives s) (from_nothing c.new-atoms.result.items what.gives atoms none c.in_ok-add_parts.ensures.adds.members) (says s).gives in
    c.in_ok-ty.ensures ∙ alike_types c.type_of_is_exact.ensures.rises c.type_of_is_exact.ensures.members c.types_are_their_members.ensures atoms (eval o.gives s) alike

pub returns-clause-asked : goal.returns-clause-asked
returns-clause-asked g c o says =
    let s = g.T.Types.assignment c.args.types.now in
    asks_alike (g.T.Types.asked c.args.types.now) (g.T.Types.asked c.add_parts.new.types) (parts_told (g.R.Rows.rule c.args.rows.now) c.args.parts s).names (named o s) (says s).names c.in_ok-add_parts.ensures.adds.asked
