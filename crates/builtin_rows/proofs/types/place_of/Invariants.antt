use Rattle.std.proofs.Common.{◌≡◌, drop, map}
use Rattle.std.specs.Prelude.{bytes_eq}
use Rattle.std.specs.List.{position_from}
use Rattle.builtin_rows.proofs.types.place_of.Given as goal

abbrev pub invariant-loop-place : goal.invariant-loop-place
invariant-loop-place l = position_from (bytes_eq l.text) l.place (map (λ n. n.now) (drop l.place l.names)) ≡ position_from (bytes_eq l.text) 0 (map (λ n. n.now) l.names)
