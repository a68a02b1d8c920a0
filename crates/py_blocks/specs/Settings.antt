-- What is noted of the blocks around each line (this project's own; the bodies are proved over it, and it gives what `Rules` says).
use Rattle.std.specs.Prelude.{ℕ, ◌+◌, nat_lt, nat_le, Bool, false, not, ◌&&◌, ◌||◌, List, [], ◌∷◌, if◌then◌else◌}
use Rattle.py_blocks.specs.declared.line.Line.{Line}
use Rattle.py_blocks.specs.declared.line.LineKind.{LineKind}
use Rattle.py_blocks.specs.declared.setting.Setting.{Setting}
use Rattle.py_blocks.specs.Lines.{opens_one}
use Rattle.py_blocks.specs.Rules.{is_match, is_case, is_def, is_loop, is_scope, is_finally}

-- ---- the blocks around a line, in four words

-- a line at the margin stands in none
abbrev pub outermost : Setting
outermost = record { in_match = false; in_def = false; in_loop = false; finallys = 0 }

-- of the `finally` blocks around, at most four are counted
abbrev pub finallys_within : LineKind → ℕ → ℕ
finallys_within k n = if is_finally k && nat_lt n 4 then n + 1 else n

-- directly in the block of a line, which stands in such blocks itself
abbrev pub within : LineKind → Setting → Setting
within k s = record {
  in_match = is_match k;
  in_def = is_def k || s.in_def;
  in_loop = is_loop k || not (is_scope k) && s.in_loop;
  finallys = finallys_within k s.finallys;
}

abbrev pub setting_of : List LineKind → Setting
setting_of [] = outermost
setting_of (k ∷ ks) = within k (setting_of ks)

abbrev pub setting_around : List Line → ℕ → Setting
setting_around [] column = outermost
setting_around (y ∷ ys) column = if nat_lt y.column column then within y.kind (setting_around ys y.column) else setting_around ys column

abbrev pub is_case_astray_by : Setting → LineKind → Bool
is_case_astray_by s k = if is_case k then not s.in_match else s.in_match

abbrev pub is_return_astray_by : Setting → Line → Bool
is_return_astray_by s x = x.returns && not (is_def x.kind || s.in_def)

abbrev pub is_jump_astray_by : Setting → Line → Bool
is_jump_astray_by s x = x.jumps && not (is_loop x.kind || not (is_scope x.kind) && s.in_loop)

abbrev pub is_finally_too_deep_by : Setting → LineKind → Bool
is_finally_too_deep_by s k = is_finally k && nat_le 4 s.finallys

abbrev pub is_astray_by : Setting → Line → Bool
is_astray_by s x = is_case_astray_by s x.kind || (is_return_astray_by s x || (is_jump_astray_by s x || is_finally_too_deep_by s x.kind))

-- ---- what is noted

-- for each of the lines, the nearest first, the blocks around it
abbrev pub settings_of : List Line → List Setting
settings_of [] = []
settings_of (y ∷ ys) = setting_around ys y.column ∷ settings_of ys

-- what is noted of the nearest line that doesn't stand to the right of the column
abbrev pub noted_at : List Line → List Setting → ℕ → Setting
noted_at [] notes column = outermost
noted_at (y ∷ ys) [] column = outermost
noted_at (y ∷ ys) (note ∷ notes) column = if nat_le y.column column then note else noted_at ys notes column

-- directly in the block of the nearest line
abbrev pub within_first : List Line → List Setting → Setting
within_first [] notes = outermost
within_first (y ∷ ys) [] = outermost
within_first (y ∷ ys) (note ∷ notes) = within y.kind note

abbrev pub around_by : List Line → List Setting → Line → Setting
around_by before notes x = if opens_one before x then within_first before notes else noted_at before notes x.column
