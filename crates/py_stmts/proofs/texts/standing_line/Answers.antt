use Rattle.std.proofs.Common.{None, Option, length, refl, sym, subst}
use Rattle.std.specs.Option.{option_map}
use Rattle.std.proofs.lemmas.Bool.{ltb-true, ltb-false}
use Rattle.std.proofs.lemmas.Option.{slice_get_read, slice_get_past}
use Rattle.py_base.specs.Tree.{tree_of}
use Rattle.py_base.specs.TreeLaws.{Grows-refl}
use Rattle.py_tokens.specs.declared.lines.LogicalLine.{LogicalLine}
use Rattle.py_stmts.specs.Module.{IsTreeStanding}
use Rattle.py_stmts.proofs.texts.standing_line.Goals as goal

pub returns-in_default-clause-older : goal.returns-in_default-clause-older
returns-in_default-clause-older c = Grows-refl c.args.tree.now

pub returns-in_default-clause-row : goal.returns-in_default-clause-row
returns-in_default-clause-row c =
    let none = slice_get_past c.args.lines.now c.args.standing.now.line (ltb-false _ _ (sym c.in_default.ensures.lookup.0)) in
    (tt, record { column = refl; tree = subst (λ (o : Option LogicalLine). IsTreeStanding o c.args.standing.now.fault None) (sym none) refl })

pub returns-clause-row : goal.returns-clause-row
returns-clause-row c =
    let line = slice_get_read c.args.lines.now (length c.args.lines.now) c.args.standing.now.line c.in-Some.line.now refl (ltb-true _ _ (sym c.in-Some.ensures.lookup.0)) c.in-Some.ensures.lookup.1 in
    (c.in_ok-root.ensures.tree.0, record { column = refl; tree = subst (λ (o : Option LogicalLine). IsTreeStanding o c.args.standing.now.fault (option_map (tree_of c.standing_root.new.tree) c.in_ok-root.root)) (sym line) c.in_ok-root.ensures.tree.1 })
