use Rattle.std.proofs.Common.{◌≡◌, ◌∙◌, List, ℕ, sym, ap, take, get_or, arith}
use Rattle.py_blocks.specs.Facts.{among}
use Rattle.py_blocks.specs.NameLists.{has_text}
use Rattle.py_blocks.proofs.Repeats.{distinct-stop, distinct-next, among-more}
use Rattle.py_blocks.proofs.name_lists.are_distinct.Goals as goal

pub returns-then-not-added : goal.returns-then-not-added
returns-then-not-added c =
    let names = c.args.names.now in
    let at = c.loop-name.name-index in
    let none = c.name-item.result in
    let name : c.as_str.result.now ≡ get_or names at none = c.as_str.ensures ∙ c.name-item.is in
    let known : has_text c.loop-name.before c.as_str.result.now ≡ among (get_or names at none) (take at names) = c.loop-name.invariant.0 c.as_str.result.now ∙ ap (λ (n : List ℕ). among n (take at names)) name in
    sym (distinct-stop names at none (has_text c.loop-name.before c.as_str.result.now) (omega arith) known (sym c.in_ok-added.ensures.told ∙ c.if-not-added.true))

pub loop-name-preserved : goal.loop-name-preserved
loop-name-preserved c =
    let names = c.args.names.now in
    let at = c.loop-name.name-index in
    let none = c.name-item.result in
    let name : c.as_str.result.now ≡ get_or names at none = c.as_str.ensures ∙ c.name-item.is in
    let known : has_text c.loop-name.before c.as_str.result.now ≡ among (get_or names at none) (take at names) = c.loop-name.invariant.0 c.as_str.result.now ∙ ap (λ (n : List ℕ). among n (take at names)) name in (
      λ n. c.in_ok-added.ensures.kept n ∙ among-more names at none n c.as_str.result.now (has_text c.loop-name.before n) (omega arith) name (c.loop-name.invariant.0 n),
      distinct-next names at none (has_text c.loop-name.before c.as_str.result.now) (omega arith) c.loop-name.invariant.1 known (sym c.in_ok-added.ensures.told ∙ c.if-not-added.false),
    )
