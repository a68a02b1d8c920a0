use Rattle.std.proofs.Common.{◌∙◌, ap, Some, List, ℕ}
use Rattle.py_tokens.specs.Literals.{decode, append_known}
use Rattle.py_tokens.proofs.Decoding.{known_nil, all_steps}
use Rattle.py_tokens.proofs.literals.decode.Goals as goal

pub loop-i-init : goal.loop-i-init
loop-i-init c =
    ap (λ (xs : List ℕ). append_known (Some xs) (decode c.args.bytes 0 c.args.body.now)) c.new-out.ensures.items ∙ known_nil (decode c.args.bytes 0 c.args.body.now)

pub returns : goal.returns
returns c = all_steps c.args.bytes c.args.body.now c.loop-i.out.items (decode c.args.bytes 0 c.args.body.now) c.loop-i.i c.loop-i.skip c.loop-i-test.false c.loop-i.invariant
