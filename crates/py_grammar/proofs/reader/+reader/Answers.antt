use Rattle.std.proofs.Common.{◌≡◌, suc, ◌-◌, arith, sym, refl}
use Rattle.py_grammar.proofs.KnownLemmas.{Extends-refl, Extends-trans}
use Rattle.py_grammar.proofs.Partway.{IsPartway-start, IsPartway-word, IsPartway-part, IsPartway-stop, IsPartway-fail, IsPartway-short, IsPartway-none, IsClimbing-start, IsClimbing-met, IsClimbing-unmet, IsClimbing-none, IsClimbing-short, IsClimbing-node, begun, begun-none, begun-not, begun-short, read-none, read-not, shorter_parts, shorter_tree}
use Rattle.py_grammar.proofs.KeepsLemmas.{Keeps-same, keeps-word, keeps-part, begun-keeps, joined-keeps}
use Rattle.py_grammar.proofs.AddedLemmas.{paid-none, paid-word, paid-part, begun-pays, joined-pays}
use Rattle.py_grammar.proofs.reader.+reader.Goals as goal

pub begin_from-returns-in_default-clause-read : goal.begin_from-returns-in_default-clause-read
begin_from-returns-in_default-clause-read t c = begun-short _ _ _ c.in_default.ensures.cases

pub begin_from-returns-in_default-opening_for-clause-read : goal.begin_from-returns-in_default-opening_for-clause-read
begin_from-returns-in_default-opening_for-clause-read t c = begun-not _ _ c.in-Some.word.now _ _ c.in-Some.ensures.cases.0 (rw (← c.terminal_for.ensures) (sym c.in_default-opening_for.ensures))

pub begin_from-returns-in_default-2-clause-read : goal.begin_from-returns-in_default-2-clause-read
begin_from-returns-in_default-2-clause-read t c =
    begun-none _ _ c.in-Some-opening_for.opening c.in-Some.word.now _ _ c.in-Some.ensures.cases.0 (rw (← c.terminal_for.ensures) (sym c.in-Some-opening_for.ensures)) (rw c.in_default-2.is at c.in_ok-items.ensures.read)

pub begin_from-returns-clause-read : goal.begin_from-returns-clause-read
begin_from-returns-clause-read t c =
    let f = rw c.in-Some-2.is at c.in_ok-items.ensures.read in
    let node = rw c.as_slice.ensures at c.in_ok-found.ensures.node in
    begun _ _ c.args.tree.now c.parts_from.new.tree c.assemble.new.tree c.in-Some-opening_for.opening c.in-Some.word _ _ c.in_ok-first.first c.in-Some-2.items c.in_ok-found.found _ c.in-Some.ensures.cases.0 (rw (← c.terminal_for.ensures) (sym c.in-Some-opening_for.ensures)) c.in_ok-first.ensures f node.0 node.1 node.2

pub begin_from-parts_from-requires : goal.begin_from-parts_from-requires
begin_from-parts_from-requires t c = (omega arith, (c.requires, rw c.in_ok-first.ensures tt))

pub begin_from-assemble-requires-clause-linked : goal.begin_from-assemble-requires-clause-linked
begin_from-assemble-requires-clause-linked t c = c.parts_from.ensures.older.linked

pub begin_from-assemble-requires-clause-known : goal.begin_from-assemble-requires-clause-known
begin_from-assemble-requires-clause-known t c =
    let f = rw c.in-Some-2.is at c.in_ok-items.ensures.read in
    rw c.as_slice.ensures f.known

pub begin_from-returns-in_default-clause-older : goal.begin_from-returns-in_default-clause-older
begin_from-returns-in_default-clause-older t c = Extends-refl _ c.requires

pub begin_from-returns-in_default-opening_for-clause-older : goal.begin_from-returns-in_default-opening_for-clause-older
begin_from-returns-in_default-opening_for-clause-older t c = Extends-refl _ c.requires

pub begin_from-returns-in_err-first-clause-older : goal.begin_from-returns-in_err-first-clause-older
begin_from-returns-in_err-first-clause-older t c = Extends-refl _ c.requires

pub begin_from-returns-in_err-found-clause-older : goal.begin_from-returns-in_err-found-clause-older
begin_from-returns-in_err-found-clause-older t c = Extends-trans _ _ _ c.parts_from.ensures.older c.assemble.ensures.older

pub begin_from-returns-clause-older : goal.begin_from-returns-clause-older
begin_from-returns-clause-older t c = Extends-trans _ _ _ c.parts_from.ensures.older c.assemble.ensures.older

pub parts_from-parts-init : goal.parts_from-parts-init
parts_from-parts-init t c = (IsPartway-start _ _ _ _ _ c.requires.linked c.requires.known, Keeps-same _ _ _ refl, omega arith, paid-none _ _)

pub parts_from-parts-preserved-in-Shift : goal.parts_from-parts-preserved-in-Shift
parts_from-parts-preserved-in-Shift t c =
    let paid = paid-word _ _ _ _ c.parts.items c.in-Some.word _ _ c.in-Some.ensures.cases.0 c.parts.invariant.2 c.parts.invariant.3 in
    rw c.in_ok-push-in-Shift.ensures.ok (
      IsPartway-word _ _ _ _ _ _ _ _ c.in-Some.word _ _ c.parts.invariant.0 (sym c.in-Shift.ensures) c.in-Some.ensures.cases.0,
      keeps-word _ _ _ c.parts.items c.in-Some.word c.parts.invariant.1,
      paid.0,
      paid.1,
    )

pub parts_from-returns-in_default-clause-read : goal.parts_from-returns-in_default-clause-read
parts_from-returns-in_default-clause-read t c =
    IsPartway-short _ _ _ _ _ _ _ _ _ c.parts.invariant.0 (sym c.in-Shift.ensures) c.in_default.ensures.cases

pub parts_from-returns-in_default-2-clause-read : goal.parts_from-returns-in_default-2-clause-read
parts_from-returns-in_default-2-clause-read t c =
    IsPartway-none _ _ _ _ _ _ _ _ _ c.parts.invariant.0 (sym c.in-Descend.ensures) (rw c.in_default-2.is at c.in_ok-found-in-Descend.ensures.read)

pub parts_from-parts-smaller : goal.parts_from-parts-smaller
parts_from-parts-smaller t c =
    let f = rw c.in-Some-2.is at c.in_ok-found-in-Descend.ensures.read in
    shorter_tree _ _ _ _ _ f.read

pub parts_from-parts-preserved : goal.parts_from-parts-preserved
parts_from-parts-preserved t c =
    let f = rw c.in-Some-2.is at c.in_ok-found-in-Descend.ensures.read in
    let keeps = rw c.in-Some-2.is at c.in_ok-found-in-Descend.ensures.keeps in
    let paid = rw c.in-Some-2.is at c.in_ok-found-in-Descend.ensures.paid in
    let all = paid-part _ _ _ _ _ _ _ c.parts.items c.in-Some-2.found c.parts.invariant.2 c.parts.invariant.3 paid in
    rw c.in_ok-push-in-Descend.ensures.ok (
      IsPartway-part _ _ _ _ _ _ _ _ _ _ c.in-Some-2.found _ c.parts.invariant.0 (sym c.in-Descend.ensures) c.in_ok-found-in-Descend.ensures.older f,
      keeps-part _ _ _ _ c.parts.items c.in-Some-2.found c.parts.invariant.0.older c.parts.invariant.0.known c.parts.invariant.1 keeps.0,
      all.0,
      all.1,
    )

pub parts_from-returns-in-Stop-clause-read : goal.parts_from-returns-in-Stop-clause-read
parts_from-returns-in-Stop-clause-read t c = IsPartway-stop _ _ _ _ _ _ _ _ c.parts.invariant.0 (sym c.in-Stop.ensures)

pub parts_from-returns-in-Fail-clause-read : goal.parts_from-returns-in-Fail-clause-read
parts_from-returns-in-Fail-clause-read t c = IsPartway-fail _ _ _ _ _ _ _ _ c.parts.invariant.0 (sym c.in-Fail.ensures)

pub parts_from-tree_from-requires : goal.parts_from-tree_from-requires
parts_from-tree_from-requires t c = (omega arith, c.parts.invariant.0.older.linked)

pub parts_from-returns-in_err-found-in-Descend-clause-older : goal.parts_from-returns-in_err-found-in-Descend-clause-older
parts_from-returns-in_err-found-in-Descend-clause-older t c = Extends-trans _ _ _ c.parts.invariant.0.older c.tree_from.ensures.older

pub parts_from-returns-in_default-2-clause-older : goal.parts_from-returns-in_default-2-clause-older
parts_from-returns-in_default-2-clause-older t c = Extends-trans _ _ _ c.parts.invariant.0.older c.tree_from.ensures.older

pub parts_from-returns-in_err-push-in-Descend-clause-older : goal.parts_from-returns-in_err-push-in-Descend-clause-older
parts_from-returns-in_err-push-in-Descend-clause-older t c = Extends-trans _ _ _ c.parts.invariant.0.older c.tree_from.ensures.older

pub tree_from-returns-then-depth-eq0-clause-read : goal.tree_from-returns-then-depth-eq0-clause-read
tree_from-returns-then-depth-eq0-clause-read t c = rw c.if-depth-eq0.true (read-none _ _)

pub tree_from-returns-then-depth-eq0-clause-older : goal.tree_from-returns-then-depth-eq0-clause-older
tree_from-returns-then-depth-eq0-clause-older t c = Extends-refl _ c.requires

pub tree_from-returns-in_default-clause-read : goal.tree_from-returns-in_default-clause-read
tree_from-returns-in_default-clause-read t c =
    let same : c.args.depth ≡ suc (c.args.depth - 1) = omega arith in
    read-not _ (c.args.depth - 1) _ _ same (rw c.in_default.is at c.in_ok-begun.ensures.read)

pub tree_from-joints-init : goal.tree_from-joints-init
tree_from-joints-init t c =
    let same : c.args.depth ≡ suc (c.args.depth - 1) = omega arith in
    let keeps = rw c.in-Some.is at c.in_ok-begun.ensures.keeps in
    let paid = rw c.in-Some.is at c.in_ok-begun.ensures.paid in (
      IsClimbing-start c.args.depth (c.args.depth - 1) c.args.need c.args.tree.now c.begin_from.new.tree c.in-Some.begun c.args.tokens.now _ same c.begin_from.ensures.older (rw c.in-Some.is at c.in_ok-begun.ensures.read),
      keeps.0,
      keeps.1,
      paid,
    )

pub tree_from-returns-in_default-split_first-clause-read : goal.tree_from-returns-in_default-split_first-clause-read
tree_from-returns-in_default-split_first-clause-read t c =
    IsClimbing-short _ _ _ _ _ _ _ _ c.joints.invariant.0 (sym c.in-Some-joint_for.ensures) c.in_default-split_first.ensures.cases

pub tree_from-returns-in_default-2-clause-read : goal.tree_from-returns-in_default-2-clause-read
tree_from-returns-in_default-2-clause-read t c =
    IsClimbing-none _ _ _ _ _ _ _ c.in-Some-split_first.word.now _ _ c.joints.invariant.0 (sym c.in-Some-joint_for.ensures) c.in-Some-split_first.ensures.cases.0 (rw c.in_default-2.is at c.in_ok-items.ensures.read)

pub tree_from-joints-smaller : goal.tree_from-joints-smaller
tree_from-joints-smaller t c =
    let f = rw c.in-Some-2.is at c.in_ok-items.ensures.read in
    let short = shorter_parts _ _ _ _ _ f.read in
    omega (arith, short, c.in-Some-split_first.ensures.cases.1)

pub tree_from-joints-preserved : goal.tree_from-joints-preserved
tree_from-joints-preserved t c =
    let f = rw c.in-Some-2.is at c.in_ok-items.ensures.read in
    let node = rw c.as_slice.ensures at c.in_ok-next.ensures.node in
    let parts = rw c.in-Some-2.is at c.in_ok-items.ensures.keeps in
    let keeps = rw c.as_slice.ensures at c.in_ok-next.ensures.keeps in
    let paid = rw c.in-Some-2.is at c.in_ok-items.ensures.paid in
    let grows = rw c.as_slice.ensures at c.in_ok-next.ensures.grows in
    let all = joined-keeps _ _ _ _ c.in_ok-first.first c.in-Some-2.items c.in-Some-split_first.word c.joints.found c.in_ok-next.next c.in_ok-first.ensures c.joints.invariant.0.older c.parts_from.ensures.older c.joints.invariant.1 parts keeps.0 keeps.1 in (
      IsClimbing-node _ _ _ _ c.joints.tree c.parts_from.new.tree c.assemble.new.tree c.joints.found c.in_ok-next.next _ c.in-Some-split_first.word _ _ c.in_ok-first.first c.in-Some-2.items _ c.joints.invariant.0 (sym c.in-Some-joint_for.ensures) c.in-Some-split_first.ensures.cases.0 c.in_ok-first.ensures c.parts_from.ensures.older c.assemble.ensures.older f node.0 node.1 node.2,
      all.0,
      all.1,
      joined-pays _ c.joints.tree c.parts_from.new.tree c.assemble.new.tree _ c.in_ok-first.first c.in-Some-2.items c.joints.found c.in-Some-split_first.word _ _ _ c.in_ok-first.ensures c.in-Some-split_first.ensures.cases.0 c.joints.invariant.3 paid grows,
    )

pub tree_from-returns-then-does_meet-clause-read : goal.tree_from-returns-then-does_meet-clause-read
tree_from-returns-then-does_meet-clause-read t c = IsClimbing-met _ _ _ _ _ _ _ c.joints.invariant.0 (sym c.in_default-joint_for.ensures) (sym c.if-does_meet.ensures)

pub tree_from-returns-else-does_meet-clause-read : goal.tree_from-returns-else-does_meet-clause-read
tree_from-returns-else-does_meet-clause-read t c = IsClimbing-unmet _ _ _ _ _ _ _ c.joints.invariant.0 (sym c.in_default-joint_for.ensures) (sym c.if-does_meet.ensures)

pub tree_from-parts_from-requires : goal.tree_from-parts_from-requires
tree_from-parts_from-requires t c = (omega arith, (c.joints.invariant.0.older.linked, rw c.in_ok-first.ensures (c.joints.invariant.0.known, tt)))

pub tree_from-assemble-requires-clause-linked : goal.tree_from-assemble-requires-clause-linked
tree_from-assemble-requires-clause-linked t c = c.parts_from.ensures.older.linked

pub tree_from-assemble-requires-clause-known : goal.tree_from-assemble-requires-clause-known
tree_from-assemble-requires-clause-known t c =
    let f = rw c.in-Some-2.is at c.in_ok-items.ensures.read in
    rw c.as_slice.ensures f.known

pub tree_from-returns-in_err-items-clause-older : goal.tree_from-returns-in_err-items-clause-older
tree_from-returns-in_err-items-clause-older t c = Extends-trans _ _ _ c.joints.invariant.0.older c.parts_from.ensures.older

pub tree_from-returns-in_default-2-clause-older : goal.tree_from-returns-in_default-2-clause-older
tree_from-returns-in_default-2-clause-older t c = Extends-trans _ _ _ c.joints.invariant.0.older c.parts_from.ensures.older

pub tree_from-returns-in_err-next-clause-older : goal.tree_from-returns-in_err-next-clause-older
tree_from-returns-in_err-next-clause-older t c = Extends-trans _ _ _ (Extends-trans _ _ _ c.joints.invariant.0.older c.parts_from.ensures.older) c.assemble.ensures.older

pub begin_from-returns-clause-keeps : goal.begin_from-returns-clause-keeps
begin_from-returns-clause-keeps t c =
    let parts = rw c.in-Some-2.is at c.in_ok-items.ensures.keeps in
    let keeps = rw c.as_slice.ensures at c.in_ok-found.ensures.keeps in
    begun-keeps _ _ _ c.in_ok-first.first c.in-Some-2.items c.in-Some.word c.in_ok-found.found c.in_ok-first.ensures c.parts_from.ensures.older parts keeps.0 keeps.1

pub parts_from-returns-in-Stop-clause-keeps : goal.parts_from-returns-in-Stop-clause-keeps
parts_from-returns-in-Stop-clause-keeps t c = c.parts.invariant.1

pub tree_from-returns-then-does_meet-clause-keeps : goal.tree_from-returns-then-does_meet-clause-keeps
tree_from-returns-then-does_meet-clause-keeps t c = (c.joints.invariant.1, c.joints.invariant.2)

pub begin_from-returns-clause-paid : goal.begin_from-returns-clause-paid
begin_from-returns-clause-paid t c =
    let paid = rw c.in-Some-2.is at c.in_ok-items.ensures.paid in
    let grows = rw c.as_slice.ensures at c.in_ok-found.ensures.grows in
    begun-pays _ c.parts_from.new.tree c.assemble.new.tree c.in_ok-first.first c.in-Some-2.items c.in-Some.word _ _ _ c.in_ok-first.ensures c.in-Some.ensures.cases.0 paid grows

pub parts_from-returns-in-Stop-clause-paid : goal.parts_from-returns-in-Stop-clause-paid
parts_from-returns-in-Stop-clause-paid t c = (c.parts.invariant.2, c.parts.invariant.3)

pub tree_from-returns-then-does_meet-clause-paid : goal.tree_from-returns-then-does_meet-clause-paid
tree_from-returns-then-does_meet-clause-paid t c = c.joints.invariant.3
