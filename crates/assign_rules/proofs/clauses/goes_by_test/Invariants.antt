use Rattle.std.proofs.Common.{◌≡◌, ◌≤◌, take}
use Rattle.std.specs.Prelude.{Contains}
use Rattle.py_base.specs.declared.ids.ClassId.{ClassId}
use Rattle.type_terms.specs.declared.atom.Atom.TheVariants as atom
use Rattle.assign_rules.specs.Accepts.{SameTest}
use Rattle.assign_rules.proofs.clauses.goes_by_test.Given as goal

-- it goes to none of those that were looked at
abbrev pub invariant-loop-high : goal.invariant-loop-high
invariant-loop-high g l =
    let s = g.T.Types.assignment l.initial.types in
    record {
      none : (class : ClassId) → Contains (take l.high-index l.target) (atom.Inst class) → g.H.ClassGoes.test l.initial.by s l.low class → ⊥;
      test : SameTest (g.H.ClassGoes.test l.by) (g.H.ClassGoes.test l.initial.by);
      same : g.T.Types.assignment l.types ≡ s;
      stays : g.T.Types.stays l.initial.types l.types;
      later : g.T.Types.seen l.initial.types ≤ g.T.Types.seen l.types;
    }
