use Rattle.std.proofs.Common.{◌≡◌, ◌≤◌, map}
use Rattle.std.specs.List.{range_with_len}
use Rattle.py_base.specs.declared.key.Key.TheVariants.{Elem}
use Rattle.assign_rules.proofs.members.filled_slots.Given as goal

abbrev pub invariant-loop-place : goal.invariant-loop-place
invariant-loop-place g l =
    record {
      made : l.slots ≡ map (λ place. g.T.Types.assignment l.initial.types (Elem l.site place)) (range_with_len 0 l.place);
      same : g.T.Types.assignment l.types ≡ g.T.Types.assignment l.initial.types;
      stays : g.T.Types.stays l.initial.types l.types;
      later : g.T.Types.seen l.initial.types ≤ g.T.Types.seen l.types;
    }
