use Rattle.std.proofs.Common.{◌≡◌, ◌<◌, ◌^◌, drop}
use Rattle.py_tokens.specs.Ints.{digits_number}
use Rattle.py_tokens.proofs.ints.digits_number.Given as goal

-- the digits so far write the value
abbrev pub invariant-loop-digit : goal.invariant-loop-digit
invariant-loop-digit l = record {
  below : l.value < 2 ^ 127;
  same : digits_number l.base l.value (drop l.digit-index l.digits) ≡ digits_number l.base 0 l.digits;
}
