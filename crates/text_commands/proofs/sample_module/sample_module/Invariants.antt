use Rattle.std.proofs.Common.{◌≡◌, ◌++◌, ◌-◌, flat_map, string_bytes}
use Rattle.std.specs.List.{range_with_len}
use Rattle.text_commands.specs.Sample.{numbered_function}
use Rattle.text_commands.proofs.sample_module.sample_module.Given as goal

abbrev pub invariant-loop-number : goal.invariant-loop-number
invariant-loop-number l = string_bytes l.text ++ flat_map (numbered_function l.functions) (range_with_len l.number (l.functions - l.number)) ≡ flat_map (numbered_function l.functions) (range_with_len 0 l.functions)
