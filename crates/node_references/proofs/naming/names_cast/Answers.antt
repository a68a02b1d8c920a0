use Rattle.std.proofs.Common.{◌∙◌, ap, sym}
use Rattle.std.specs.Option.{option_map}
use Rattle.node_references.specs.Reference.{lent}
use Rattle.node_references.specs.Casts.{is_cast, names_cast}
use Rattle.node_references.proofs.naming.names_cast.Goals as goal

pub returns-in-None : goal.returns-in-None
unfolding names_cast
returns-in-None c = ap (is_cast c.args.tree.now c.args.scopes.now)
    (ap (option_map lent) (sym c.in-None.is) ∙ c.reference_at.ensures c.args.tree.now c.args.scopes.now.owners c.requires.references)

pub returns-in-Some : goal.returns-in-Some
unfolding names_cast
returns-in-Some c = c.is_cast.ensures ∙ ap (is_cast c.args.tree.now c.args.scopes.now)
    (ap (option_map lent) (sym c.in-Some.is) ∙ c.reference_at.ensures c.args.tree.now c.args.scopes.now.owners c.requires.references)
