use Rattle.std.proofs.Common.{◌≡◌, ℕ, ◌≤◌, take, length, None}
use Rattle.py_tokens.specs.Signs.{sign_kind}
use Rattle.py_tokens.proofs.signs.longest_sign.Given as goal

-- no longer front is one
abbrev pub invariant-loop-n : goal.invariant-loop-n
invariant-loop-n l = (m : ℕ) → l.n ≤ m → m ≤ length l.text → sign_kind l.in_field (take m l.text) ≡ None
