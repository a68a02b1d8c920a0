use Rattle.std.proofs.Common.{refl, arith}
use Rattle.std.proofs.lemmas.Bool.{false≢true}
use Rattle.class_rows.proofs.KnownBases.{known_at, below_known, below_unknown, below_all}
use Rattle.class_rows.proofs.bases.are_below.Goals as goal
use Rattle.class_rows.proofs.bases.are_below.Goals.{in-Known+else-class-limit, in_default}

pub returns-then-class-limit : goal.returns-then-class-limit
returns-then-class-limit c =
    let bases = c.args.bases.now in
    let i = c.loop-base.base-index in
    (λ e. absurd (false≢true e), λ below. absurd (let less = known_at c.args.limit bases i _ c.in-Known.class below (omega arith) c.in-Known.is in omega (arith, less, c.if-class-limit.true)))

pub loop-base-preserved : goal.loop-base-preserved
loop-base-preserved c =
    let bases = c.args.bases.now in
    let i = c.loop-base.base-index in
    elim c.match-base.branch [
      | in-Known+else-class-limit w ↦ below_known c.args.limit bases i _ w.in-Known.class (omega arith) w.in-Known.is (omega (arith, w.if-class-limit.false)) c.loop-base.invariant
      | in_default w ↦ below_unknown c.args.limit bases i _ (omega arith) w.in_default.is c.loop-base.invariant
    ]

pub returns : goal.returns
returns c = (λ _. below_all c.args.limit c.args.bases.now c.loop-base.base-index (omega arith) c.loop-base.invariant, λ _. refl)
