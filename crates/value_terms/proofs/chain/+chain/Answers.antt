use Rattle.std.proofs.Common.{rules, ◌≡◌, ◌∙◌, ◌++◌, ◌∷◌, ◌≤◌, [], suc, sym, ap, subst, arith, zero-le}
use Rattle.value_terms.specs.Ranks.{ReachAtMost, part_rank}
use Rattle.value_terms.specs.declared.part.Part.TheVariants.{Members, Fault, Each}
use Rattle.value_terms.specs.Chain.{chain_rank}
use Rattle.value_terms.proofs.ChainLemmas.{empty_says, added_says, added_reaches, last_says, last_reaches, only_one, more_says, more_reaches, members_say, members_reach, fault_says, read_says, row_says, row_reach, parts_next, parts_end, members_next, members_end, on_ok, reach_at, empty_list, first_rest, parts_same, for_each_own, for_some_own}
use Rattle.value_terms.proofs.chain.+chain.Goals as goal

pub push_chain-returns-in_ok-one-in-empty-clause-says : goal.push_chain-returns-in_ok-one-in-empty-clause-says
push_chain-returns-in_ok-one-in-empty-clause-says g t c =
    empty_says (g.S.Steps.rule c.args.steps.now) (g.S.Steps.weight c.args.steps.now) c.push.result c.args.out.now c.push.new.self c.args.chain.now c.args.member.now c.in_ok-one-in-empty.one
    (empty_list c.args.chain.now c.in-empty.len_below) (c.in_ok-one-in-empty.ensures ∙ ap (λ a. a ∷ []) c.in_ok-copy-in-empty.ensures) c.push.ensures.ok

pub push_chain-returns-in_ok-one-in-empty-clause-reach : goal.push_chain-returns-in_ok-one-in-empty-clause-reach
push_chain-returns-in_ok-one-in-empty-clause-reach g t c =
    added_reaches (g.S.Steps.rule c.args.steps.now) (g.S.Steps.weight c.args.steps.now) c.push.result c.args.out.now c.push.new.self (Members c.in_ok-one-in-empty.one) _ (zero-le) c.push.ensures.ok

pub push_chain-returns-in_ok-parts-in-len1-clause-says : goal.push_chain-returns-in_ok-parts-in-len1-clause-says
push_chain-returns-in_ok-parts-in-len1-clause-says g t c =
    last_says (g.S.Steps.rule c.args.steps.now) (g.S.Steps.weight c.args.steps.now) c.append.result c.args.out.now c.append.new.out c.args.chain.now c.last-item.result c.args.member.now c.in_ok-parts-in-len1.parts
    (only_one c.args.chain.now c.last-item.result c.in-len1.len_at_least c.in-len1.len_below c.last-item.is) c.in_ok-parts-in-len1.ensures.says c.append.ensures

pub push_chain-returns-in_ok-parts-in-len1-clause-reach : goal.push_chain-returns-in_ok-parts-in-len1-clause-reach
push_chain-returns-in_ok-parts-in-len1-clause-reach g t c =
    last_reaches (g.S.Steps.rule c.args.steps.now) (g.S.Steps.weight c.args.steps.now) c.append.result c.args.out.now c.append.new.out c.args.chain.now c.last-item.result c.in_ok-parts-in-len1.parts
    (only_one c.args.chain.now c.last-item.result c.in-len1.len_at_least c.in-len1.len_below c.last-item.is) c.in_ok-parts-in-len1.ensures.reach c.append.ensures

pub push_chain-returns-in_ok-parts-in-len1-up-clause-says : goal.push_chain-returns-in_ok-parts-in-len1-up-clause-says
push_chain-returns-in_ok-parts-in-len1-up-clause-says g t c =
    let is : c.as_slice.result.now ≡ c.in_ok-parts-in-len1-up.parts = search rules in
    more_says (g.S.Steps.rule c.args.steps.now) (g.S.Steps.weight c.args.steps.now) c.push_parts.result c.args.out.now c.push_parts.new.out c.args.chain.now _ c.first-item.result c.args.member.now c.as_slice.result.now
    (first_rest c.args.chain.now c.first-item.result c.in-len1-up.len_at_least c.first-item.is)
    (λ s. parts_same (g.S.Steps.rule c.args.steps.now) (g.S.Steps.weight c.args.steps.now) _ _ _ s is (c.in_ok-parts-in-len1-up.ensures.says s)) c.push_parts.ensures.says

pub push_chain-returns-in_ok-parts-in-len1-up-clause-reach : goal.push_chain-returns-in_ok-parts-in-len1-up-clause-reach
push_chain-returns-in_ok-parts-in-len1-up-clause-reach g t c =
    let is : c.as_slice.result.now ≡ c.in_ok-parts-in-len1-up.parts = search rules in
    more_reaches (g.S.Steps.rule c.args.steps.now) (g.S.Steps.weight c.args.steps.now) c.push_parts.result c.args.out.now c.push_parts.new.out c.args.chain.now _ c.first-item.result c.as_slice.result.now
    (first_rest c.args.chain.now c.first-item.result c.in-len1-up.len_at_least c.first-item.is)
    (subst (λ ps. ReachAtMost (chain_rank (g.S.Steps.weight c.args.steps.now)) (suc (g.S.Steps.weight c.args.steps.now c.first-item.result)) ps) (sym is) c.in_ok-parts-in-len1-up.ensures.reach) c.push_parts.ensures.reach

pub push_members-loop-member-preserved : goal.push_members-loop-member-preserved
push_members-loop-member-preserved g t c =
    let now = c.loop-member in
    record {
      says = members_next (g.S.Steps.rule c.args.steps.now) (g.S.Steps.weight c.args.steps.now) c.args.rest.now c.args.members.now now.member-index c.member-item.result c.loop-member-test.true c.member-item.is now.out c.push_chain.new.out c.args.out.now now.invariant.says c.in_ok-push_chain.ensures.says;
      reach = λ most h k. c.in_ok-push_chain.ensures.reach most (now.invariant.reach most h k) k;
    }

pub push_members-returns-clause-says : goal.push_members-returns-clause-says
push_members-returns-clause-says g t c =
    members_end (g.S.Steps.rule c.args.steps.now) (g.S.Steps.weight c.args.steps.now) c.args.rest.now c.args.members.now c.loop-member.member-index c.loop-member-test.false c.loop-member.out c.args.out.now c.loop-member.invariant.says

pub push_part-returns-in-Members-clause-says : goal.push_part-returns-in-Members-clause-says
push_part-returns-in-Members-clause-says g t c =
    members_say (g.S.Steps.rule c.args.steps.now) (g.S.Steps.weight c.args.steps.now) c.push_members.result c.args.out.now c.push_members.new.out c.args.part.now _ _ c.args.rest.now c.in-Members.is c.members.ensures.value c.push_members.ensures.says

pub push_part-returns-in-Members-clause-reach : goal.push_part-returns-in-Members-clause-reach
push_part-returns-in-Members-clause-reach g t c =
    on_ok c.push_members.result _ _ (λ h own le. members_reach (g.S.Steps.rule c.args.steps.now) (g.S.Steps.weight c.args.steps.now) c.push_members.result c.args.out.now c.push_members.new.out c.args.rest.now own h) c.push_members.ensures.reach

pub push_part-returns-in-Fault-clause-says : goal.push_part-returns-in-Fault-clause-says
push_part-returns-in-Fault-clause-says g t c =
    added_says (g.S.Steps.rule c.args.steps.now) (g.S.Steps.weight c.args.steps.now) c.push.result c.args.out.now c.push.new.self Fault _ (fault_says (g.S.Steps.rule c.args.steps.now) (g.S.Steps.weight c.args.steps.now) c.args.part.now c.args.rest.now c.in-Fault.is) c.push.ensures.ok

pub push_part-returns-in-Fault-clause-reach : goal.push_part-returns-in-Fault-clause-reach
push_part-returns-in-Fault-clause-reach g t c =
    on_ok c.push.result _ _ (λ h own le. h own) (for_each_own (g.S.Steps.rule c.args.steps.now) (g.S.Steps.weight c.args.steps.now) c.push.result c.args.out.now c.push.new.self Fault c.args.rest.now (λ own. zero-le) c.push.ensures.ok)

pub push_part-returns-in_ok-row-in-Read-clause-says : goal.push_part-returns-in_ok-row-in-Read-clause-says
push_part-returns-in_ok-row-in-Read-clause-says g t c =
    added_says (g.S.Steps.rule c.args.steps.now) (g.S.Steps.weight c.args.steps.now) c.push-in-Read.result c.args.out.now c.push-in-Read.new.self (Each c.in-Read.key c.in_ok-row-in-Read.row) _
    (read_says (g.S.Steps.rule c.args.steps.now) (g.S.Steps.weight c.args.steps.now) c.args.part.now c.in-Read.key c.in_ok-row-in-Read.row c.args.rest.now c.in-Read.is c.in_ok-row-in-Read.ensures) c.push-in-Read.ensures.ok

pub push_part-returns-in_ok-row-in-Read-clause-reach : goal.push_part-returns-in_ok-row-in-Read-clause-reach
push_part-returns-in_ok-row-in-Read-clause-reach g t c =
    let deep = ap (chain_rank (g.S.Steps.weight c.args.steps.now)) c.in_ok-row-in-Read.ensures in
    for_some_own (g.S.Steps.rule c.args.steps.now) (g.S.Steps.weight c.args.steps.now) c.push-in-Read.result c.args.out.now c.push-in-Read.new.self (Each c.in-Read.key c.in_ok-row-in-Read.row) c.args.rest.now
    (λ own. part_rank (chain_rank (g.S.Steps.weight c.args.steps.now)) c.args.part.now ≤ suc own) (λ own le. omega (arith, deep)) c.push-in-Read.ensures.ok

pub push_part-returns-in_ok-row-in-Each-clause-says : goal.push_part-returns-in_ok-row-in-Each-clause-says
push_part-returns-in_ok-row-in-Each-clause-says g t c =
    let is : c.as_slice.result.now ≡ c.in-Each.row = search rules in
    let whole = c.in_ok-row-in-Each.ensures ∙ ap (λ xs. xs ++ c.args.rest.now) is in
    added_says (g.S.Steps.rule c.args.steps.now) (g.S.Steps.weight c.args.steps.now) c.push-in-Each.result c.args.out.now c.push-in-Each.new.self (Each c.in-Each.key c.in_ok-row-in-Each.row) _
    (row_says (g.S.Steps.rule c.args.steps.now) (g.S.Steps.weight c.args.steps.now) c.args.part.now c.in-Each.key c.in-Each.row c.args.rest.now c.in_ok-row-in-Each.row c.in-Each.is whole) c.push-in-Each.ensures.ok

pub push_part-returns-in_ok-row-in-Each-clause-reach : goal.push_part-returns-in_ok-row-in-Each-clause-reach
push_part-returns-in_ok-row-in-Each-clause-reach g t c =
    let is : c.as_slice.result.now ≡ c.in-Each.row = search rules in
    let whole = c.in_ok-row-in-Each.ensures ∙ ap (λ xs. xs ++ c.args.rest.now) is in
    for_some_own (g.S.Steps.rule c.args.steps.now) (g.S.Steps.weight c.args.steps.now) c.push-in-Each.result c.args.out.now c.push-in-Each.new.self (Each c.in-Each.key c.in_ok-row-in-Each.row) c.args.rest.now
    (λ own. part_rank (chain_rank (g.S.Steps.weight c.args.steps.now)) c.args.part.now ≤ suc own)
    (λ own le. row_reach (g.S.Steps.rule c.args.steps.now) (g.S.Steps.weight c.args.steps.now) c.args.part.now c.in-Each.key c.in-Each.row c.args.rest.now c.in_ok-row-in-Each.row own c.in-Each.is whole le) c.push-in-Each.ensures.ok

pub push_parts-loop-part-preserved : goal.push_parts-loop-part-preserved
push_parts-loop-part-preserved g t c =
    let now = c.loop-part in
    record {
      says = parts_next (g.S.Steps.rule c.args.steps.now) (g.S.Steps.weight c.args.steps.now) c.args.rest.now c.args.parts.now now.part-index c.part-item.result c.loop-part-test.true c.part-item.is now.out c.push_part.new.out c.args.out.now now.invariant.says c.in_ok-push_part.ensures.says;
      reach = λ own all most h k. c.in_ok-push_part.ensures.reach own (reach_at (chain_rank (g.S.Steps.weight c.args.steps.now)) (suc own) c.args.parts.now now.part-index c.part-item.result all c.loop-part-test.true c.part-item.is) most (now.invariant.reach own all most h k) k;
    }

pub push_parts-returns-clause-says : goal.push_parts-returns-clause-says
push_parts-returns-clause-says g t c =
    parts_end (g.S.Steps.rule c.args.steps.now) (g.S.Steps.weight c.args.steps.now) c.args.rest.now c.args.parts.now c.loop-part.part-index c.loop-part-test.false c.loop-part.out c.args.out.now c.loop-part.invariant.says
