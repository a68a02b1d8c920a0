use Rattle.std.proofs.Common.{arith, refl, sym, length, ◌≤◌, map, ◌∙◌}
use Rattle.std.specs.Prelude.{string_bytes}
use Rattle.std.proofs.lemmas.List.{length-map}
use Rattle.py_base.specs.TreeLaws.{AreLinked-later}
use Rattle.py_base.proofs.LinkLemmas.{name_found, name_new, seam}
use Rattle.py_base.proofs.tree.Tree.intern.Goals as goal

pub returns-in-Some-clause-id : goal.returns-in-Some-clause-id
returns-in-Some-clause-id c = rw (← c.self.view_is) (name_found c.self.inside.names.keys c.args.name.now c.in-Some.at (sym c.in-Some.ensures.index)).0

pub returns-in-Some-clause-stored : goal.returns-in-Some-clause-stored
returns-in-Some-clause-stored c = rw (← c.self.view_is) (name_found c.self.inside.names.keys c.args.name.now c.in-Some.at (sym c.in-Some.ensures.index)).1

pub returns-in-Some-clause-ok : goal.returns-in-Some-clause-ok
returns-in-Some-clause-ok c = rw (← c.self.view_is, ← (name_found c.self.inside.names.keys c.args.name.now c.in-Some.at (sym c.in-Some.ensures.index)).2) refl

pub invariant_of-self-2 : goal.invariant_of-self-2
invariant_of-self-2 c =
    let new = name_new c.self.inside.names.keys c.insert.new.self.keys c.args.name.now c.in-Ok.owned (sym c.in_default.ensures.found) c.in-Ok.ensures.ok c.in-Ok-insert.ensures.keys in
    let more : length (map string_bytes c.self.inside.names.keys) ≤ length (map string_bytes c.insert.new.self.keys) = omega (arith, new.3, length-map c.self.inside.names.keys string_bytes, length-map c.insert.new.self.keys string_bytes) in
    let room = rw (← c.self.view_is) at c.requires in
    (AreLinked-later _ _ 0 c.self.inside.nodes.items more c.self.invariant.0, omega (arith, new.3, room, length-map c.self.inside.names.keys string_bytes), c.self.invariant.2, c.self.invariant.3)

pub returns-clause-id : goal.returns-clause-id
returns-clause-id c =
    let new = name_new c.self.inside.names.keys c.insert.new.self.keys c.args.name.now c.in-Ok.owned (sym c.in_default.ensures.found) c.in-Ok.ensures.ok c.in-Ok-insert.ensures.keys in
    rw (← c.self.view_is) (c.len-at.ensures.len ∙ new.0)

pub returns-clause-stored : goal.returns-clause-stored
returns-clause-stored c =
    let new = name_new c.self.inside.names.keys c.insert.new.self.keys c.args.name.now c.in-Ok.owned (sym c.in_default.ensures.found) c.in-Ok.ensures.ok c.in-Ok-insert.ensures.keys in
    rw (new.2, c.len-at.ensures.len, ← (length-map c.self.inside.names.keys string_bytes)) (seam (map string_bytes c.self.inside.names.keys) c.args.name.now)

pub returns-clause-ok : goal.returns-clause-ok
returns-clause-ok c =
    let new = name_new c.self.inside.names.keys c.insert.new.self.keys c.args.name.now c.in-Ok.owned (sym c.in_default.ensures.found) c.in-Ok.ensures.ok c.in-Ok-insert.ensures.keys in
    rw (← c.self.view_is, new.1) refl
