use Rattle.std.proofs.Common.{rules, ◌≡◌, []}
use Rattle.op_rules.specs.Iterations.{iteration}
use Rattle.op_rules.proofs.CallLemmas.{each_all, each_next, each_none}
use Rattle.op_rules.proofs.results.iterations.Goals as goal

pub loop-member-init : goal.loop-member-init
loop-member-init g c =
    let none : c.new-parts.result ≡ [] = search rules in
    each_none (g.P.Program.world c.args.ruled.now.program.now) c.args.ruled.now.args.now c.new-parts.result (iteration (g.P.Program.world c.args.ruled.now.program.now)) none

pub loop-member-preserved : goal.loop-member-preserved
loop-member-preserved g c =
    let now = c.loop-member in
    let w = g.P.Program.world c.args.ruled.now.program.now in
    each_next w c.args.ruled.now.args.now now.parts c.in_ok-more.more _ (iteration w) c.args.members.now c.member-item.result now.member-index c.loop-member-test.true c.member-item.is c.in_ok-parts.ensures.list now.invariant c.in_ok-more.ensures

pub returns : goal.returns
returns g c =
    let w = g.P.Program.world c.args.ruled.now.program.now in
    each_all w c.args.ruled.now.args.now c.loop-member.parts (iteration w) c.args.members.now c.loop-member.member-index c.loop-member-test.false c.loop-member.invariant
