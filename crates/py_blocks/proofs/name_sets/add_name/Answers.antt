use Rattle.std.proofs.Common.{◌==◌, ◌&&◌, Bool, cond, true, bytes_eq, ap, ◌∙◌}
use Rattle.py_blocks.specs.NameSets.{holds}
use Rattle.py_blocks.proofs.Owners.{name-is, or-added}
use Rattle.py_blocks.proofs.name_sets.add_name.Goals as goal

pub returns : goal.returns
returns c = λ n d.
    let old = c.args.set.now in
    c.in_ok-insert.ensures.updates.0 (record { scope = d; name = record { ref_ptr = (0, 0); now = n } })
    ∙ (ap (λ (b : Bool). cond b true (holds old n d)) (name-is c.args.scope d c.args.name.now n) ∙ or-added ((c.args.scope == d) && bytes_eq n c.args.name.now) (holds old n d))
