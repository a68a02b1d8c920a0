use Rattle.std.proofs.Common.{◌<◌, ◌+◌, ◌∷◌, [], length, drop, sym, subst, refl, arith}
use Rattle.std.proofs.lemmas.List.{take_rest}
use Rattle.py_grammar.specs.declared.found.Item.{Item}
use Rattle.py_grammar.specs.Found.{AreKnown}
use Rattle.py_grammar.proofs.KnownLemmas.{Extends-refl, Extends-trans, AreKnown-later, known-at, kept-next, drop-item}
use Rattle.py_grammar.proofs.KeepsLemmas.{Keeps-same, kept-next-keeps}
use Rattle.py_grammar.specs.Meaning.{takes_name}
use Rattle.py_grammar.proofs.AddedLemmas.{within-start, within-next, within-all}
use Rattle.py_grammar.proofs.assemble.kept_parts.Goals as goal

pub items-init : goal.items-init
items-init c = (Extends-refl _ c.requires.linked, rw c.new-parts.ensures tt, rw c.new-parts.ensures refl, rw c.new-parts.ensures (Keeps-same _ _ _ refl), within-start _ _ _)

pub keep-requires-clause-known : goal.keep-requires-clause-known
keep-requires-clause-known c =
    let lt : c.items.at < length c.args.items.now = omega arith in
    let at = known-at c.args.tree.now c.args.items.now c.items.at c.index-items-at.result c.requires.known lt in
    let item = subst (λ (x : Item). AreKnown c.args.tree.now (x ∷ [])) (sym c.index-items-at.is) at in
    AreKnown-later c.args.tree.now c.items.tree (c.index-items-at.result ∷ []) c.requires.linked c.items.invariant.0 item

pub items-preserved : goal.items-preserved
items-preserved c =
    let lt : c.items.at < length c.args.items.now = omega arith in
    let at = known-at c.args.tree.now c.args.items.now c.items.at c.index-items-at.result c.requires.known lt in
    let item = subst (λ (x : Item). AreKnown c.args.tree.now (x ∷ [])) (sym c.index-items-at.is) at in
    let first = drop-item c.args.items.now c.items.at c.index-items-at.result lt c.index-items-at.is in (
      Extends-trans _ _ _ c.items.invariant.0 c.keep.ensures.older,
      c.in_ok-keep.ensures.kept.0,
      kept-next c.args.tree.now c.items.tree c.keep.new.tree c.args.form c.args.items.now c.items.at c.index-items-at.result (drop (c.items.at + 1) c.args.items.now) c.items.parts c.keep.new.parts _ c.requires.linked c.items.invariant.0 item first c.items.invariant.2 (rw (take_rest c.args.items.now (c.items.at + 1)) at c.in_ok-keep.ensures.kept.1),
      kept-next-keeps c.args.tree.now c.items.tree c.keep.new.tree c.args.items.now c.items.at c.index-items-at.result (drop (c.items.at + 1) c.args.items.now) c.items.parts c.keep.new.parts c.items.invariant.0 c.requires.known first c.items.invariant.3 c.in_ok-keep.ensures.keeps,
      within-next (takes_name c.args.form) c.args.tree.now c.items.tree c.keep.new.tree c.args.items.now c.items.at _ c.index-items-at.result (drop (c.items.at + 1) c.args.items.now) first c.items.invariant.4 c.in_ok-keep.ensures.grows,
    )

pub returns-clause-grows : goal.returns-clause-grows
returns-clause-grows c = within-all _ _ _ _ _ c.items.invariant.4
