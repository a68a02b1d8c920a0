use Rattle.std.proofs.Common.{◌≡◌, ◌∷◌, [], ◌∙◌, ap, subst, take, drop, length, IfOk, arith}
use Rattle.std.proofs.lemmas.Result.{on_ok_weaker}
use Rattle.py_base.specs.Tree.{SyntaxTree, tree_of}
use Rattle.py_grammar.specs.declared.found.Item.TheVariants as items
use Rattle.py_grammar.specs.Meaning.{called, takes_name}
use Rattle.py_grammar.specs.Found.{IsKnown, item_words}
use Rattle.py_grammar.proofs.KnownLemmas.{AreKnown-append, AreKnown-later, known-take, plainly_is, bracketed_is}
use Rattle.py_grammar.proofs.KeepsLemmas.{brackets-keep}
use Rattle.py_grammar.proofs.AddedLemmas.{form-adds, brackets-add, arguments-true}
use Rattle.py_grammar.proofs.assemble.assemble.Goals as goal

pub returns-then-not-is_comprehension-clause-node :
    goal.returns-then-not-is_comprehension-clause-node
returns-then-not-is_comprehension-clause-node c =
    subst (λ (t : SyntaxTree). IfOk c.add_form.result (λ x. IsKnown c.add_form.new.tree x × (x.form ≡ c.args.form) × (tree_of c.add_form.new.tree x.id ≡ t))) (plainly_is c.args.form c.args.tree.now c.args.items.now c.requires.known c.if-not-is_comprehension.ensures) c.add_form.ensures.node

pub returns-then-not-is_comprehension-clause-grows :
    goal.returns-then-not-is_comprehension-clause-grows
returns-then-not-is_comprehension-clause-grows c =
    on_ok_weaker c.add_form.result (λ h some_. form-adds (takes_name c.args.form) c.args.tree.now c.add_form.new.tree (length (item_words c.args.items.now)) h some_) c.add_form.ensures.grows

pub add_form-requires-3-clause-known : goal.add_form-requires-3-clause-known
add_form-requires-3-clause-known c =
    let n = called c.args.form in
    let front : c.split_at.result.0.now ≡ take n c.args.items.now = c.split_at.ensures.front ∙ ap (λ m. take m c.args.items.now) c.called.ensures in
    let older = AreKnown-later c.args.tree.now c.add_form-2.new.tree (take n c.args.items.now) c.requires.linked c.add_form-2.ensures.older (known-take c.args.tree.now n c.args.items.now c.requires.known) in
    rw (c.as_slice.ensures, c.in_ok-whole.ensures, front) (AreKnown-append c.add_form-2.new.tree (take n c.args.items.now) (items.Part c.in_ok-part.part ∷ []) older (c.in_ok-part.ensures.node.0, tt))

pub returns-clause-node : goal.returns-clause-node
returns-clause-node c =
    let n = called c.args.form in
    let front : c.split_at.result.0.now ≡ take n c.args.items.now = c.split_at.ensures.front ∙ ap (λ m. take m c.args.items.now) c.called.ensures in
    let back : c.split_at.result.1.now ≡ drop n c.args.items.now = c.split_at.ensures.back ∙ ap (λ m. drop m c.args.items.now) c.called.ensures in
    let part = rw back at c.in_ok-part.ensures.node.2 in
    let node = rw (c.as_slice.ensures, c.in_ok-whole.ensures, front) at c.in_ok-found.ensures.node in
    (node.0, node.1, node.2 ∙ bracketed_is c.args.form c.args.tree.now c.add_form-2.new.tree c.args.items.now c.in_ok-part.part c.requires.linked c.add_form-2.ensures.older c.requires.known c.if-not-is_comprehension.ensures part)

pub returns-clause-keeps : goal.returns-clause-keeps
returns-clause-keeps c =
    let n = called c.args.form in
    let front : c.split_at.result.0.now ≡ take n c.args.items.now = c.split_at.ensures.front ∙ ap (λ m. take m c.args.items.now) c.called.ensures in
    let back : c.split_at.result.1.now ≡ drop n c.args.items.now = c.split_at.ensures.back ∙ ap (λ m. drop m c.args.items.now) c.called.ensures in
    let part = rw back at c.in_ok-part.ensures.keeps in
    let node = rw (c.as_slice.ensures, c.in_ok-whole.ensures, front) at c.in_ok-found.ensures.keeps in
    brackets-keep c.args.tree.now c.add_form-2.new.tree c.add_form-3.new.tree n c.args.items.now c.in_ok-part.part c.in_ok-found.found c.requires.known c.add_form-2.ensures.older part.0 node.0 node.1

pub returns-clause-grows : goal.returns-clause-grows
returns-clause-grows c some_ =
    let n = called c.args.form in
    let front : c.split_at.result.0.now ≡ take n c.args.items.now = c.split_at.ensures.front ∙ ap (λ m. take m c.args.items.now) c.called.ensures in
    let back : c.split_at.result.1.now ≡ drop n c.args.items.now = c.split_at.ensures.back ∙ ap (λ m. drop m c.args.items.now) c.called.ensures in
    let part = rw back at c.in_ok-part.ensures.grows in
    let node = rw (c.as_slice.ensures, c.in_ok-whole.ensures, front) at c.in_ok-found.ensures.grows in
    brackets-add c.args.form c.args.tree.now c.add_form-2.new.tree c.add_form-3.new.tree c.args.items.now n c.in_ok-part.part (arguments-true _ _ c.if-not-is_comprehension.ensures) (part.0, omega (arith, part.1)) node some_
