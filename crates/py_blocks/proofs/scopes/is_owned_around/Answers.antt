use Rattle.std.proofs.Common.{◌≡◌, List, ℕ, Option, ap, ◌∙◌}
use Rattle.std.specs.List.{list_any}
use Rattle.py_blocks.specs.Innermost.{scope_at, scope_in}
use Rattle.py_blocks.specs.NameSets.{owns_open}
use Rattle.py_blocks.proofs.Finding.{scope-of}
use Rattle.py_blocks.proofs.Owners.{owned-open}
use Rattle.py_blocks.proofs.scopes.is_owned_around.Goals as goal

pub returns : goal.returns
returns c =
    let lines = c.args.lines.now in
    let at = c.args.at in
    let name = c.args.name.now in
    let scope : c.scope_in.result ≡ scope_at lines at = c.scope_in.ensures ∙ (ap (λ (ls : List (Option ℕ)). scope_in ls at) c.requires.scopes ∙ scope-of lines at c.requires.within) in
    c.is_owned_by_one.ensures
    ∙ (ap (λ (o : Option ℕ). list_any (λ (d : ℕ). owns_open lines o name at d) c.args.blocks.now) scope
    ∙ (ap (λ (bs : List ℕ). list_any (λ (d : ℕ). owns_open lines (scope_at lines at) name at d) bs) c.requires.blocks ∙ owned-open lines at name))
