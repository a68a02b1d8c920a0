-- Which rules of blocks a line breaks, where error lines break none (Python 3.12 language reference, 7, "Compound statements", and 8.7).
use Rattle.std.specs.Prelude.{ℕ, ◌==◌, nat_lt, nat_le, Bool, true, false, not, ◌&&◌, ◌||◌, List, [], ◌∷◌, length, filter, if◌then◌else◌}
use Rattle.std.specs.List.{list_any}
use Rattle.py_blocks.specs.declared.line.Line.{Line}
use Rattle.py_blocks.specs.declared.line.LineKind.{LineKind}
use Rattle.py_blocks.specs.declared.line.LineKind.TheVariants as kinds
use Rattle.py_blocks.specs.Lines.{is_error, is_unread, is_clause, block_column, level_behind, level_before}

-- ---- sorts of lines

abbrev pub is_match : LineKind → Bool
is_match kinds.Match = true
is_match k = false

abbrev pub is_case : LineKind → Bool
is_case kinds.Case = true
is_case k = false

abbrev pub is_try : LineKind → Bool
is_try kinds.Try = true
is_try k = false

abbrev pub is_decorator : LineKind → Bool
is_decorator kinds.Decorator = true
is_decorator k = false

abbrev pub is_decorated : LineKind → Bool
is_decorated kinds.Decorator = true
is_decorated kinds.Def = true
is_decorated kinds.Class = true
is_decorated k = false

abbrev pub is_handler : LineKind → Bool
is_handler kinds.Except = true
is_handler kinds.ExceptStar = true
is_handler k = false

abbrev pub is_finally : LineKind → Bool
is_finally kinds.Finally = true
is_finally k = false

abbrev pub is_def : LineKind → Bool
is_def kinds.Def = true
is_def k = false

abbrev pub is_scope : LineKind → Bool
is_scope kinds.Def = true
is_scope kinds.Class = true
is_scope k = false

abbrev pub is_loop : LineKind → Bool
is_loop kinds.Loop = true
is_loop k = false

-- what a `try` needs one of
abbrev pub closes_try : LineKind → Bool
closes_try kinds.Except = true
closes_try kinds.ExceptStar = true
closes_try kinds.Finally = true
closes_try k = false

-- ---- lines in their order

-- a line that stands directly to the right of nothing: its column isn't that of its block
abbrev pub is_stray : List Line → Line → Bool
is_stray before x = not (block_column before x == x.column)

-- a header that ends its line, and no deeper line follows
abbrev pub opens_nothing : Line → List Line → Bool
opens_nothing x [] = x.opens
opens_nothing x (y ∷ ys) = x.opens && not (nat_lt x.column y.column)

-- a decorator that isn't directly followed, at its column, by another one or by a def or class
abbrev pub decorates_nothing : Line → List Line → Bool
decorates_nothing x [] = is_decorator x.kind
decorates_nothing x (y ∷ ys) = is_decorator x.kind && not (is_decorated y.kind && y.column == x.column)

-- ---- clauses

-- the nearest line that is no error line
abbrev pub follows : (LineKind → Bool) → List Line → Bool
follows p [] = false
follows p (y ∷ ys) = if is_error y.kind then follows p ys else p y.kind

abbrev pub is_branch : LineKind → Bool
is_branch kinds.If = true
is_branch kinds.Elif = true
is_branch k = false

abbrev pub takes_except : LineKind → Bool
takes_except kinds.Try = true
takes_except kinds.Except = true
takes_except k = false

abbrev pub takes_except_star : LineKind → Bool
takes_except_star kinds.Try = true
takes_except_star kinds.ExceptStar = true
takes_except_star k = false

-- what a `finally` and the `else` of a `try` stand behind, an `else` before the `finally` aside
abbrev pub takes_finally : LineKind → Bool
takes_finally kinds.Try = true
takes_finally kinds.Except = true
takes_finally kinds.ExceptStar = true
takes_finally k = false

abbrev pub takes_else : LineKind → Bool
takes_else kinds.If = true
takes_else kinds.Elif = true
takes_else kinds.Loop = true
takes_else kinds.Except = true
takes_else kinds.ExceptStar = true
takes_else k = false

abbrev pub is_else : LineKind → Bool
is_else kinds.Else = true
is_else k = false

abbrev pub is_behind_error : List Line → Bool
is_behind_error [] = false
is_behind_error (y ∷ ys) = is_error y.kind

-- an `else` of a `try`, and directly before it, error lines aside, what an `else` of a `try` follows
abbrev pub follows_else_of_try : List Line → Bool
follows_else_of_try [] = false
follows_else_of_try (y ∷ ys) =
    if is_error y.kind then follows_else_of_try ys else is_else y.kind && follows takes_finally ys

-- a clause in the language's order, by the lines before it at its column: error lines between are passed over, and an `else` directly
-- behind an error line may follow its `try`
abbrev pub may_follow : LineKind → List Line → Bool
may_follow kinds.Elif level = follows is_branch level
may_follow kinds.Else level = follows takes_else level || is_behind_error level && follows is_try level
may_follow kinds.Except level = follows takes_except level
may_follow kinds.ExceptStar level = follows takes_except_star level
may_follow kinds.Finally level = follows takes_finally level || follows_else_of_try level
may_follow k level = true

abbrev pub is_clause_astray : List Line → Line → Bool
is_clause_astray before x = not (may_follow x.kind (level_before before x.column))

-- some line at the column closes the `try`: error lines are passed over, and the first line that is no clause ends the statement
abbrev pub is_closed : List Line → Bool
is_closed [] = false
is_closed (y ∷ ys) = if is_error y.kind then is_closed ys else closes_try y.kind || is_clause y.kind && is_closed ys

-- a `try` without `except` and `finally`, which an error line at its column may stand for
abbrev pub tries_nothing : List Line → Line → List Line → Bool
tries_nothing before x behind =
    is_try x.kind && not (is_behind_error (level_behind (x ∷ before) x.column behind) || is_closed (level_behind (x ∷ before) x.column behind))

-- ---- `match`

abbrev pub first_column : List Line → ℕ
first_column [] = 0
first_column (y ∷ ys) = y.column

abbrev pub is_case_or_error : Line → Bool
is_case_or_error y = is_case y.kind || is_error y.kind

-- a `match` without a case; an error line in its block may stand for one
abbrev pub matches_nothing : List Line → Line → List Line → Bool
matches_nothing before x behind =
    is_match x.kind && x.opens && not (list_any is_case_or_error (level_behind (x ∷ before) (first_column behind) behind))

-- an `except` without a class that isn't the last one. It is judged once, by the clauses as they are written: where a line behind it has
-- become an error line, it has been judged
abbrev pub is_bare_before : List Line → Line → List Line → Bool
is_bare_before before x behind =
    x.bare && not (list_any (λ y. is_error y.kind) behind) && follows is_handler (level_behind (x ∷ before) x.column behind)

-- ---- the blocks around a line

-- THE LINES AROUND a line at this column, in whose blocks it stands, by their kinds, the innermost first: the nearest line to its left, and
-- those around that
abbrev pub around : List Line → ℕ → List LineKind
around [] column = []
around (y ∷ ys) column = if nat_lt y.column column then y.kind ∷ around ys y.column else around ys column

-- the innermost of them is one
abbrev pub is_directly_in : (LineKind → Bool) → List LineKind → Bool
is_directly_in p [] = false
is_directly_in p (k ∷ ks) = p k

-- of the loops, defs and classes, the innermost is a loop
abbrev pub is_in_loop : List LineKind → Bool
is_in_loop [] = false
is_in_loop (k ∷ ks) = is_loop k || not (is_scope k) && is_in_loop ks

abbrev pub count_of : (LineKind → Bool) → List LineKind → ℕ
count_of p ks = length (filter p ks)

-- another line directly in a `match` than a case, or a case elsewhere
abbrev pub is_case_astray : List LineKind → LineKind → Bool
is_case_astray outer k = if is_case k then not (is_directly_in is_match outer) else is_directly_in is_match outer

-- a `return` outside of all defs; it may stand in the line of the def's header, and in a class in the def
abbrev pub is_return_astray : List LineKind → Line → Bool
is_return_astray outer x = x.returns && not (list_any is_def (x.kind ∷ outer))

-- a `break` or `continue` in no loop of its def or class; it may stand in the line of the loop's header
abbrev pub is_jump_astray : List LineKind → Line → Bool
is_jump_astray outer x = x.jumps && not (is_in_loop (x.kind ∷ outer))

-- a `finally` in the blocks of four others
abbrev pub is_finally_too_deep : List LineKind → LineKind → Bool
is_finally_too_deep outer k = is_finally k && nat_le 4 (count_of is_finally outer)

abbrev pub is_astray_in : List LineKind → Line → Bool
is_astray_in outer x = is_case_astray outer x.kind || (is_return_astray outer x || (is_jump_astray outer x || is_finally_too_deep outer x.kind))

-- ---- together

-- by the lines before, and by its own words and names
abbrev pub is_misplaced : List Line → Line → Bool
is_misplaced before x = is_stray before x || (is_clause_astray before x || (is_astray_in (around before x.column) x || not x.fits))

-- by the lines behind too
abbrev pub is_unfinished : List Line → Line → List Line → Bool
is_unfinished before x behind =
    opens_nothing x behind
    || (decorates_nothing x behind
    || (tries_nothing before x behind || (matches_nothing before x behind || is_bare_before before x behind)))

-- A LINE IS FAULTY between these lines; an error line never is
abbrev pub is_faulty : List Line → Line → List Line → Bool
is_faulty before x behind =
    not (is_error x.kind) && (is_unread x.kind || (is_misplaced before x || is_unfinished before x behind))
