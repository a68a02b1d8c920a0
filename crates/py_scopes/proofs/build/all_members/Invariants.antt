use Rattle.std.proofs.Common.{◌≡◌, length}
use Rattle.py_scopes.proofs.Passes.{MembersFrom}
use Rattle.py_scopes.proofs.build.all_members.Given as goal

abbrev pub invariant-loop-number : goal.invariant-loop-number
invariant-loop-number l = record {
  rest : MembersFrom (length l.tree.nodes) l.numbers.keys l.number l.members.items;
  count : length l.members.items ≡ length l.tree.nodes;
}
