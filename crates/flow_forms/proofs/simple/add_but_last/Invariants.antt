use Rattle.std.proofs.Common.{◌≡◌, ◌++◌, drop}
use Rattle.flow_forms.specs.Forms.{but_last}
use Rattle.flow_forms.proofs.simple.add_but_last.Given as goal

abbrev pub invariant-loop-next : goal.invariant-loop-next
invariant-loop-next l = l.list ++ but_last l.before (drop l.next-index l.more) ≡ l.initial.list ++ but_last l.fn.part l.more
