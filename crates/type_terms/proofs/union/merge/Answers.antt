use Rattle.std.proofs.Common.{◌≡◌, [], ◌∷◌, ◌++◌, drop, ◌∙◌, refl, rules, arith}
use Rattle.std.proofs.lemmas.Grind.{common_steps}
use Rattle.std.proofs.lemmas.List.{append-nil, drop_all}
use Rattle.type_terms.proofs.Merging.{take_left, take_right, take_both, left_ends, right_ends, opened}
use Rattle.type_terms.proofs.union.merge.Goals as goal
use Rattle.type_terms.proofs.union.merge.Goals.{then-loop-at_left-test+else-at_right-right, else-loop-at_left-test}

pub loop-at_left-preserved-in-Less : goal.loop-at_left-preserved-in-Less
loop-at_left-preserved-in-Less c =
    let now = c.loop-at_left in
    let x = c.index-left-at_left.result in let y = c.index-right-at_right.result in
    let left = opened c.args.left.now now.at_left x c.loop-at_left-test.true c.index-left-at_left.is in
    let right = opened c.args.right.now now.at_right y c.if-at_right-right.true c.index-right-at_right.is in
    let pushed : c.push_copy.new.members ≡ now.members ++ x ∷ [] = search rules in
    let merges = rw (left, right) at now.invariant.merges in
    record {
      within_left = omega arith;
      within_right = now.invariant.within_right;
      merges = rw (pushed, right) (take_left _ _ now.members _ _ x y c.in-Less.ensures merges);
    }

pub loop-at_left-preserved-in-Equal : goal.loop-at_left-preserved-in-Equal
loop-at_left-preserved-in-Equal c =
    let now = c.loop-at_left in
    let x = c.index-left-at_left.result in let y = c.index-right-at_right.result in
    let left = opened c.args.left.now now.at_left x c.loop-at_left-test.true c.index-left-at_left.is in
    let right = opened c.args.right.now now.at_right y c.if-at_right-right.true c.index-right-at_right.is in
    let pushed : c.push_copy-in-Equal.new.members ≡ now.members ++ x ∷ [] = search rules in
    let merges = rw (left, right) at now.invariant.merges in
    record {
      within_left = omega arith;
      within_right = omega arith;
      merges = rw pushed (take_both _ _ now.members _ _ x y c.in-Equal.ensures merges);
    }

pub loop-at_left-preserved : goal.loop-at_left-preserved
loop-at_left-preserved c =
    let now = c.loop-at_left in
    let x = c.index-left-at_left.result in let y = c.index-right-at_right.result in
    let left = opened c.args.left.now now.at_left x c.loop-at_left-test.true c.index-left-at_left.is in
    let right = opened c.args.right.now now.at_right y c.if-at_right-right.true c.index-right-at_right.is in
    let pushed : c.push_copy-in-Greater.new.members ≡ now.members ++ y ∷ [] = search rules in
    let merges = rw (left, right) at now.invariant.merges in
    record {
      within_left = now.invariant.within_left;
      within_right = omega arith;
      merges = rw (pushed, left) (take_right _ _ now.members _ _ x y c.in-Greater.ensures merges);
    }

pub returns : goal.returns
returns c =
    let now = c.loop-at_left in
    let xs = c.args.left.now in let ys = c.args.right.now in
    let one : c.push_copies.new.members ≡ now.members ++ drop now.at_left xs = grind (arith, common_steps) in
    let both : c.push_copies-2.new.members ≡ c.push_copies.new.members ++ drop now.at_right ys = grind (arith, common_steps) in
    let pushed : c.push_copies-2.new.members ≡ (now.members ++ drop now.at_left xs) ++ drop now.at_right ys = rw (both, one) refl in
    pushed ∙ (elim c.loop-at_left-test.branch [
      | then-loop-at_left-test+else-at_right-right w ↦
          let none : drop now.at_right ys ≡ [] = drop_all now.at_right ys w.if-at_right-right.false in
          rw (none, append-nil) (right_ends xs ys now.members (drop now.at_left xs) (rw none at now.invariant.merges))
      | else-loop-at_left-test w ↦
          let none : drop now.at_left xs ≡ [] = drop_all now.at_left xs w.loop-at_left-test.false in
          rw (none, append-nil) (left_ends xs ys now.members (drop now.at_right ys) (rw none at now.invariant.merges))
    ])
