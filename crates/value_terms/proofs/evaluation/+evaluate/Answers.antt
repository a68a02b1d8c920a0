use Rattle.std.proofs.Common.{rules, ◌∙◌, ◌≤◌, [], ◌∷◌, refl, sym, subst, arith}
use Rattle.value_terms.specs.Ranks.{part_rank}
use Rattle.value_terms.specs.Told.{told, gathered}
use Rattle.value_terms.proofs.EvaluationLemmas.{members_adds, read_adds, last_next, last_stop, none_left}
use Rattle.value_terms.proofs.RankLemmas.{deepest, deepest_start, deepest_last, deepest_most}
use Rattle.value_terms.proofs.ToldLemmas.{each_adds, each_stop, read_stop, on_err, loop_next, loop_stop, loop_end, row_adds, row_stop}
use Rattle.value_terms.proofs.evaluation.+evaluate.Goals as goal

pub add_part-returns-in_err-add_members-in-Read-clause-asked : goal.add_part-returns-in_err-add_members-in-Read-clause-asked
add_part-returns-in_err-add_members-in-Read-clause-asked g t c = on_err _ _ (read_stop (g.R.Rows.rule c.args.rows.now) _ _ (g.T.Types.assignment c.args.types.now) _ _ c.in-Read.is c.in_ok-ty-in-Read.ensures.asked)

pub add_part-returns-in_ok-ty-in-Each-clause-adds : goal.add_part-returns-in_ok-ty-in-Each-clause-adds
add_part-returns-in_ok-ty-in-Each-clause-adds g t c =
    each_adds (g.R.Rows.rule c.args.rows.now) _ _ _ _ (g.T.Types.assignment c.args.types.now) _ _
    c.args.atoms.now.items c.args.fault.now _ _ (gathered c.add_rows.new.atoms.items c.add_rows.new.fault (g.T.Types.asked c.add_rows.new.types)) c.in-Each.is c.get-in-Each.ensures.same (c.members.ensures.value ∙ c.in_ok-ty-in-Each.ensures.value) c.in_ok-ty-in-Each.ensures.asked c.add_rows.ensures.adds

pub add_part-returns-in_ok-ty-in-Each-clause-asked : goal.add_part-returns-in_ok-ty-in-Each-clause-asked
add_part-returns-in_ok-ty-in-Each-clause-asked g t c =
    each_stop (g.R.Rows.rule c.args.rows.now) _ _ _ _ (g.T.Types.assignment c.args.types.now) _ _ _ _ (g.T.Types.asked c.add_rows.new.types) c.in-Each.is c.get-in-Each.ensures.same (c.members.ensures.value ∙ c.in_ok-ty-in-Each.ensures.value) c.in_ok-ty-in-Each.ensures.asked c.add_rows.ensures.asked

pub add_part-returns-in_ok-add_members-in-Members-clause-adds : goal.add_part-returns-in_ok-add_members-in-Members-clause-adds
add_part-returns-in_ok-add_members-in-Members-clause-adds g t c =
    members_adds (g.R.Rows.rule c.args.rows.now) c.args.part c.in-Members.ty (g.T.Types.assignment c.args.types.now) c.args.atoms.now.items c.add_members.new.atoms.items c.args.fault.now (g.T.Types.asked c.args.types.now) c.in-Members.is c.in_ok-add_members-in-Members.ensures

pub add_part-returns-in_ok-add_members-in-Read-clause-adds : goal.add_part-returns-in_ok-add_members-in-Read-clause-adds
add_part-returns-in_ok-add_members-in-Read-clause-adds g t c =
    read_adds (g.R.Rows.rule c.args.rows.now) c.args.part c.in-Read.key c.in_ok-ty-in-Read.ty (g.T.Types.assignment c.args.types.now) c.args.atoms.now.items c.add_members-in-Read.new.atoms.items c.args.fault.now (g.T.Types.asked c.args.types.now) (g.T.Types.asked c.get.new.self)
    c.in-Read.is c.in_ok-ty-in-Read.ensures.value c.in_ok-add_members-in-Read.ensures c.in_ok-ty-in-Read.ensures.asked

pub add_parts-add_part-requires : goal.add_parts-add_part-requires
add_parts-add_part-requires g t c κs within =
    let here = subst (λ ps. part_rank (g.R.Rows.rank c.args.rows.now) c.in-Some.part ≤ deepest (g.R.Rows.rank c.args.rows.now) ps) (sym c.in-Some.ensures.last) (deepest_last (g.R.Rows.rank c.args.rows.now) c.pop.new.self c.in-Some.part) in
    let deep = c.loop-part.invariant.deep in
    let d : part_rank (g.R.Rows.rank c.args.rows.now) c.in-Some.part ≤ deepest (g.R.Rows.rank c.args.rows.now) c.args.parts = omega (arith, here, deep) in
    search rules

pub add_parts-returns-in_err-add_part-clause-asked : goal.add_parts-returns-in_err-add_part-clause-asked
add_parts-returns-in_err-add_part-clause-asked g t c =
    let now = c.loop-part in
    on_err _ _ (last_stop (g.R.Rows.rule c.args.rows.now) now.left c.pop.new.self c.in-Some.part _ _ now.invariant.same c.in-Some.ensures.last _ _ _ _ now.invariant.leads c.in_err-add_part.ensures.asked)

pub add_parts-loop-part-preserved : goal.add_parts-loop-part-preserved
add_parts-loop-part-preserved g t c =
    let now = c.loop-part in
    let less = subst (λ ps. deepest (g.R.Rows.rank c.args.rows.now) c.pop.new.self ≤ deepest (g.R.Rows.rank c.args.rows.now) ps) (sym c.in-Some.ensures.last) (deepest_start (g.R.Rows.rank c.args.rows.now) c.pop.new.self (c.in-Some.part ∷ [])) in
    record {
      same = c.add_part.ensures.same ∙ now.invariant.same;
      leads = last_next (g.R.Rows.rule c.args.rows.now) now.left c.pop.new.self c.in-Some.part _ _ now.invariant.same c.in-Some.ensures.last _ _ _ _ now.invariant.leads c.in_ok-add_part.ensures.adds;
      deep = omega (arith, less, now.invariant.deep);
      stays = g.T.Types.keeps_on _ _ _ now.invariant.stays c.add_part.ensures.stays;
      later = omega (arith, now.invariant.later, c.add_part.ensures.cancels.later);
    }

pub add_parts-returns-clause-adds : goal.add_parts-returns-clause-adds
add_parts-returns-clause-adds g t c =
    none_left (g.R.Rows.rule c.args.rows.now) c.loop-part.left (g.T.Types.assignment c.args.types.now) _ _ _ (c.in_default.ensures.none.0 refl) c.loop-part.invariant.leads

pub add_row-add_parts-requires : goal.add_row-add_parts-requires
add_row-add_parts-requires g t c κs within =
    let d = deepest_most (g.R.Rows.rank c.args.rows.now) _ _ c.in_ok-parts.ensures.reach in
    search rules

pub add_row-returns-clause-adds : goal.add_row-returns-clause-adds
add_row-returns-clause-adds g t c = row_adds _ _ _ (c.in_ok-parts.ensures.says (g.T.Types.assignment c.args.types.now)) _ _ c.add_parts.ensures.adds

pub add_row-returns-clause-asked : goal.add_row-returns-clause-asked
add_row-returns-clause-asked g t c = row_stop _ _ _ (c.in_ok-parts.ensures.says (g.T.Types.assignment c.args.types.now)) _ _ c.add_parts.ensures.asked

pub add_rows-returns-in_err-add_row-clause-asked : goal.add_rows-returns-in_err-add_row-clause-asked
add_rows-returns-in_err-add_row-clause-asked g t c =
    let now = c.loop-member in
    on_err _ _ (loop_stop (λ a s. told (g.R.Rows.rule c.args.rows.now c.args.row.now a) s) c.args.members.now now.member-index c.member-item.result _ _ now.invariant.same c.loop-member-test.true c.member-item.is
    _ _ _ _ now.invariant.leads c.in_err-add_row.ensures.asked)

pub add_rows-loop-member-preserved : goal.add_rows-loop-member-preserved
add_rows-loop-member-preserved g t c =
    let now = c.loop-member in
    record {
      same = c.add_row.ensures.same ∙ now.invariant.same;
      leads = loop_next (λ a s. told (g.R.Rows.rule c.args.rows.now c.args.row.now a) s) c.args.members.now now.member-index c.member-item.result _ _ now.invariant.same c.loop-member-test.true c.member-item.is
          _ _ _ _ now.invariant.leads c.in_ok-add_row.ensures.adds;
      stays = g.T.Types.keeps_on _ _ _ now.invariant.stays c.add_row.ensures.stays;
      later = omega (arith, now.invariant.later, c.add_row.ensures.cancels.later);
    }

pub add_rows-returns-clause-adds : goal.add_rows-returns-clause-adds
add_rows-returns-clause-adds g t c =
    loop_end (λ a. told (g.R.Rows.rule c.args.rows.now c.args.row.now a) (g.T.Types.assignment c.args.types.now)) c.args.members.now c.loop-member.member-index _ _ _ c.loop-member-test.false c.loop-member.invariant.leads
