-- Which lines break a rule on the names of defs: a nonlocal name is bound in a def around, and neither a nonlocal nor a global name is a
-- parameter (Python 3.12 language reference, 7.12 and 7.13, "The global statement" and "The nonlocal statement").
use Rattle.std.specs.Prelude.{ℕ, ◌==◌, Bool, not, ◌&&◌, ◌||◌, List, length, if◌then◌else◌}
use Rattle.std.specs.List.{list_any}
use Rattle.py_blocks.specs.declared.facts.LineFacts.{LineFacts}
use Rattle.py_blocks.specs.declared.sort.Sort.TheVariants as sorts
use Rattle.py_blocks.specs.Facts.{among}
use Rattle.py_blocks.specs.Enclosing.{line_at, is_a, encloses_as, lies_between, is_innermost}
use Rattle.py_blocks.specs.Search.{some_below}

-- the def or class in whose body the statements of the line i stand: its own header, or the innermost around
abbrev pub is_body_of : List LineFacts → ℕ → ℕ → Bool
is_body_of lines d i = if is_a lines i sorts.Scope then d == i else is_innermost lines sorts.Scope d i

-- the line d is a def around the def or class in whose body the statements of the line i stand
abbrev pub is_outside : List LineFacts → ℕ → ℕ → Bool
is_outside lines d i =
    encloses_as lines sorts.Def d i && (is_a lines i sorts.Scope || lies_between lines sorts.Scope d i)

-- the line i binds the name in the body of the def d around
abbrev pub binds_at : List LineFacts → List ℕ → ℕ → ℕ → Bool
binds_at lines n d i = among n (line_at lines i).bound && is_innermost lines sorts.Scope d i

-- the body of the def d binds the name: by a parameter, in the header's line, or in a line that stands in it and in no def or class inside
abbrev pub binds_in : List LineFacts → List ℕ → ℕ → Bool
binds_in lines n d =
    among n (line_at lines d).parameters || among n (line_at lines d).suite || some_below (length lines) (λ i. binds_at lines n d i)

abbrev pub declares_at : List LineFacts → List ℕ → ℕ → ℕ → Bool
declares_at lines n d i = among n (line_at lines i).declared && is_body_of lines d i

-- the body of the def d declares the name global or nonlocal
abbrev pub declares_in : List LineFacts → List ℕ → ℕ → Bool
declares_in lines n d = some_below (length lines) (λ i. declares_at lines n d i)

-- the def d around has the name as its own
abbrev pub owns : List LineFacts → List ℕ → ℕ → ℕ → Bool
owns lines n i d = is_outside lines d i && binds_in lines n d && not (declares_in lines n d)

abbrev pub is_owned_around : List LineFacts → ℕ → List ℕ → Bool
is_owned_around lines i n = some_below i (λ d. owns lines n i d)

-- a nonlocal name that no def around has as its own
abbrev pub is_nonlocal_astray : List LineFacts → ℕ → Bool
is_nonlocal_astray lines i = list_any (λ n. not (is_owned_around lines i n)) (line_at lines i).nonlocals

abbrev pub is_parameter_at : List LineFacts → List ℕ → ℕ → ℕ → Bool
is_parameter_at lines n i d = among n (line_at lines d).parameters && is_body_of lines d i

abbrev pub is_parameter_around : List LineFacts → ℕ → List ℕ → Bool
is_parameter_around lines i n = some_below (length lines) (λ d. is_parameter_at lines n i d)

-- a global or nonlocal name that is a parameter of the def in whose body the statement stands
abbrev pub declares_parameter : List LineFacts → ℕ → Bool
declares_parameter lines i = list_any (λ n. is_parameter_around lines i n) (line_at lines i).declared

abbrev pub breaks_names : List LineFacts → ℕ → Bool
breaks_names lines i = is_nonlocal_astray lines i || declares_parameter lines i
