-- Which clauses may come behind a statement, by the last line of it (this project's own; the bodies are proved over it, and it gives what
-- `Rules` says).
use Rattle.std.specs.Prelude.{ℕ, ◌==◌, nat_lt, Bool, true, false, List, [], ◌∷◌, if◌then◌else◌}
use Rattle.py_blocks.specs.declared.line.Line.{Line}
use Rattle.py_blocks.specs.declared.line.LineKind.{LineKind}
use Rattle.py_blocks.specs.declared.line.LineKind.TheVariants as kinds
use Rattle.py_blocks.specs.declared.stage.Stage.{Stage}
use Rattle.py_blocks.specs.declared.stage.Stage.TheVariants as stages
use Rattle.py_blocks.specs.Lines.{level_before}

abbrev pub passed : Stage → Stage
passed stages.Try = stages.PassedTry
passed stage = stage

abbrev pub behind_else : Stage → Stage
behind_else stages.Try = stages.ElseOfTry
behind_else stages.PassedTry = stages.ElseOfTry
behind_else stages.Handler = stages.ElseOfTry
behind_else stages.StarHandler = stages.ElseOfTry
behind_else stage = stages.Nothing

-- the stage behind one more line of the block
abbrev pub stage_with : Stage → LineKind → Stage
stage_with stage kinds.Error = passed stage
stage_with stage kinds.If = stages.Branch
stage_with stage kinds.Elif = stages.Branch
stage_with stage kinds.Loop = stages.Loop
stage_with stage kinds.Try = stages.Try
stage_with stage kinds.Except = stages.Handler
stage_with stage kinds.ExceptStar = stages.StarHandler
stage_with stage kinds.Else = behind_else stage
stage_with stage k = stages.Nothing

abbrev pub is_branch_stage : Stage → Bool
is_branch_stage stages.Branch = true
is_branch_stage stage = false

abbrev pub takes_else_stage : Stage → Bool
takes_else_stage stages.Branch = true
takes_else_stage stages.Loop = true
takes_else_stage stages.PassedTry = true
takes_else_stage stages.Handler = true
takes_else_stage stages.StarHandler = true
takes_else_stage stage = false

abbrev pub takes_except_stage : Stage → Bool
takes_except_stage stages.Try = true
takes_except_stage stages.PassedTry = true
takes_except_stage stages.Handler = true
takes_except_stage stage = false

abbrev pub takes_star_stage : Stage → Bool
takes_star_stage stages.Try = true
takes_star_stage stages.PassedTry = true
takes_star_stage stages.StarHandler = true
takes_star_stage stage = false

abbrev pub takes_finally_stage : Stage → Bool
takes_finally_stage stages.Try = true
takes_finally_stage stages.PassedTry = true
takes_finally_stage stages.Handler = true
takes_finally_stage stages.StarHandler = true
takes_finally_stage stages.ElseOfTry = true
takes_finally_stage stage = false

-- whether a line may come; one that is no clause may
abbrev pub takes : Stage → LineKind → Bool
takes stage kinds.Elif = is_branch_stage stage
takes stage kinds.Else = takes_else_stage stage
takes stage kinds.Except = takes_except_stage stage
takes stage kinds.ExceptStar = takes_star_stage stage
takes stage kinds.Finally = takes_finally_stage stage
takes stage k = true

-- the stage behind the lines of a block, the nearest first
abbrev pub stage_of : List Line → Stage
stage_of [] = stages.Nothing
stage_of (y ∷ ys) = stage_with (stage_of ys) y.kind

-- for each of the lines, the nearest first, the stage behind it in its block
abbrev pub stages_of : List Line → List Stage
stages_of [] = []
stages_of (y ∷ ys) = stage_with (stage_of (level_before ys y.column)) y.kind ∷ stages_of ys

-- the stage noted of the nearest line that doesn't stand to the right of the column
abbrev pub stage_at : List Line → List Stage → ℕ → Stage
stage_at [] notes column = stages.Nothing
stage_at (y ∷ ys) [] column = stages.Nothing
stage_at (y ∷ ys) (note ∷ notes) column =
    if nat_lt column y.column then stage_at ys notes column else (if y.column == column then note else stages.Nothing)
