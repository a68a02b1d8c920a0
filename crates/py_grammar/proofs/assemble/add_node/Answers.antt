use Rattle.std.proofs.Common.{refl}
use Rattle.py_grammar.proofs.KnownLemmas.{Extends-refl, Extends-same, older-ids, node_added}
use Rattle.py_grammar.specs.Found.{found_ids}
use Rattle.py_grammar.proofs.KeepsLemmas.{Keeps-node, older-found}
use Rattle.py_grammar.proofs.AddedLemmas.{adds-node}
use Rattle.py_grammar.proofs.assemble.add_node.Goals as goal

pub returns-in_err-ids-clause-older : goal.returns-in_err-ids-clause-older
returns-in_err-ids-clause-older c = Extends-refl _ c.requires.linked

pub add-requires-clause-parts : goal.add-requires-clause-parts
add-requires-clause-parts c = rw c.in_ok-ids.ensures (older-ids _ _ c.requires.known)

pub returns-in_err-id-clause-older : goal.returns-in_err-id-clause-older
returns-in_err-id-clause-older c = Extends-same _ _ c.requires.linked c.in_err-id.ensures.err

pub returns-clause-older : goal.returns-clause-older
returns-clause-older c =
    (node_added c.args.tree.now c.add.new.tree (record { kind = c.args.kind; span = c.args.span; parts = c.in_ok-ids.ids; word = c.args.word }) (record { id = c.in_ok-id.id; form = c.args.form; kind = c.args.kind; span = c.args.span; height = c.height_over-height.result; proper = c.is_proper_over-proper.result; target = c.is_target_over-target.result; colon = c.has_colon_over-colon.result; signed = c.is_signed_over-signed.result; unreal = c.is_unreal_over-unreal.result }) c.args.parts.now c.requires.linked c.requires.known c.requires.named c.in_ok-ids.ensures c.in_ok-id.ensures.ok c.in_ok-id.ensures.id refl refl c.height_over-height.ensures c.is_proper_over-proper.ensures c.is_target_over-target.ensures c.has_colon_over-colon.ensures c.is_signed_over-signed.ensures c.is_unreal_over-unreal.ensures).0

pub returns-clause-node : goal.returns-clause-node
returns-clause-node c =
    let r = node_added c.args.tree.now c.add.new.tree (record { kind = c.args.kind; span = c.args.span; parts = c.in_ok-ids.ids; word = c.args.word }) (record { id = c.in_ok-id.id; form = c.args.form; kind = c.args.kind; span = c.args.span; height = c.height_over-height.result; proper = c.is_proper_over-proper.result; target = c.is_target_over-target.result; colon = c.has_colon_over-colon.result; signed = c.is_signed_over-signed.result; unreal = c.is_unreal_over-unreal.result }) c.args.parts.now c.requires.linked c.requires.known c.requires.named c.in_ok-ids.ensures c.in_ok-id.ensures.ok c.in_ok-id.ensures.id refl refl c.height_over-height.ensures c.is_proper_over-proper.ensures c.is_target_over-target.ensures c.has_colon_over-colon.ensures c.is_signed_over-signed.ensures c.is_unreal_over-unreal.ensures in
    (r.1, refl, r.2)

pub returns-clause-keeps : goal.returns-clause-keeps
returns-clause-keeps c =
    Keeps-node c.args.tree.now c.add.new.tree (record { kind = c.args.kind; span = c.args.span; parts = c.in_ok-ids.ids; word = c.args.word }) c.in_ok-id.id (found_ids c.args.parts.now) c.requires.linked (older-found c.args.tree.now c.args.parts.now c.requires.known) c.in_ok-ids.ensures c.in_ok-id.ensures.ok c.in_ok-id.ensures.id

pub returns-clause-grows : goal.returns-clause-grows
returns-clause-grows c = adds-node c.args.tree.now c.add.new.tree _ c.in_ok-id.ensures.ok
