use Rattle.std.proofs.Common.{◌≡◌, ◌==◌, ◌&&◌, ◌||◌, ℕ, List, Option, Bool, sym, ap, ◌∙◌}
use Rattle.std.proofs.lemmas.List.{get_or_default}
use Rattle.py_blocks.specs.declared.facts.LineFacts.{LineFacts}
use Rattle.py_blocks.specs.Facts.{among}
use Rattle.py_blocks.specs.Enclosing.{line_at, no_line}
use Rattle.py_blocks.specs.Innermost.{scopes_of}
use Rattle.py_blocks.specs.Search.{some_below}
use Rattle.py_blocks.specs.Innermost.{has_one}
use Rattle.py_blocks.specs.NameSets.{gives, holder_in, names_of}
use Rattle.py_blocks.proofs.Searches.{some-more}
use Rattle.py_blocks.proofs.Owners.{given-by}
use Rattle.py_blocks.proofs.name_sets.set_of.Goals as goal

pub loop-at-preserved : goal.loop-at-preserved
loop-at-preserved c = λ n d.
    let lines = c.args.lines.now in
    let naming = c.args.naming in
    let at = c.loop-at.at in
    let lt = c.loop-at-test.true in
    let line : c.index-lines-at.result ≡ line_at lines at = c.index-lines-at.is ∙ get_or_default lines at _ no_line lt in
    let one : (has_one (λ k. k == d) c.holder_in-holder.result && among n c.names_of.result.now) ≡ gives lines naming n d at = ap (λ (o : Option ℕ). has_one (λ k. k == d) o && among n c.names_of.result.now) (c.holder_in-holder.ensures ∙ ap (λ (ls : List (Option ℕ)). holder_in lines ls naming at) c.requires)
    ∙ (ap (λ (ns : List (List ℕ)). has_one (λ k. k == d) (holder_in lines (scopes_of lines) naming at) && among n ns) (c.names_of.ensures ∙ ap (λ (l : LineFacts). names_of l naming) line) ∙ given-by lines naming n d at lt) in
    c.in_ok-add_held.ensures n d
    ∙ (ap (λ (b : Bool). b || (has_one (λ k. k == d) c.holder_in-holder.result && among n c.names_of.result.now)) (c.loop-at.invariant n d)
    ∙ (ap (λ (b : Bool). some_below at (gives lines naming n d) || b) one ∙ sym (some-more (gives lines naming n d) at)))
