use Rattle.std.proofs.Common.{length, sym, ap, ◌∙◌, arith}
use Rattle.serial_session.specs.LineTypes.{type_at}
use Rattle.serial_session.proofs.WalkLaws.{IsWalk-kept}
use Rattle.serial_session.proofs.walk.Walk.keep_one.Goals as goal

pub invariant_of-self : goal.invariant_of-self
invariant_of-self c =
    IsWalk-kept _ _ _ c.args.line c.args.found c.self.invariant (omega (arith, ap length c.self.view_is))
    (c.requires.right ∙ ap (λ forms. type_at forms c.args.line) (sym c.self.view_is))
