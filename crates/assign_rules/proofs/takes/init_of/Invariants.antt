use Rattle.std.proofs.Common.{◌≡◌, drop}
use Rattle.class_rows.specs.Rows.{order_of}
use Rattle.assign_rules.specs.Takes.{init_in}
use Rattle.assign_rules.proofs.takes.init_of.Given as goal

-- the classes that are left decide
abbrev pub invariant-loop-owner : goal.invariant-loop-owner
invariant-loop-owner g l = (l.owner-items ≡ order_of l.rules.classes.now l.fn.class) × (init_in l.rules.classes.now (drop l.owner-index (order_of l.rules.classes.now l.fn.class)) ≡ init_in l.rules.classes.now (order_of l.rules.classes.now l.fn.class))
