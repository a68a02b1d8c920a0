-- Which names each def or class has, and in which way: as sets over all lines of a text (Python 3.12 language reference, 4.2.1, "Binding of
-- names").
use Rattle.std.specs.Prelude.{◌≡◌, ℕ, ◌==◌, Bool, not, ◌&&◌, ◌||◌, Option, Some, List, length, if◌then◌else◌}
use Rattle.std.specs.BTreeSet.{BTreeSet, contains_by}
use Rattle.std.specs.Cmp.Lexicographic.{slice_cmp}
use Rattle.std.specs.declared.cmp.Ordering.{Ordering}
use Rattle.std.specs.Ordering.{nat_cmp, ordering_then}
use Rattle.py_blocks.specs.declared.facts.LineFacts.{LineFacts}
use Rattle.py_blocks.specs.declared.name_sets.ScopeName.{ScopeName}
use Rattle.py_blocks.specs.declared.name_sets.Naming.{Naming}
use Rattle.py_blocks.specs.declared.name_sets.Naming.TheVariants as namings
use Rattle.py_blocks.specs.declared.name_sets.NameSets.{NameSets}
use Rattle.py_blocks.specs.declared.sort.Sort.TheVariants as sorts
use Rattle.py_blocks.specs.Facts.{among}
use Rattle.py_blocks.specs.Enclosing.{line_at, is_a}
use Rattle.py_blocks.specs.Names.{binds_at, declares_at, binds_in, declares_in}
use Rattle.py_blocks.specs.Search.{some_below}
use Rattle.py_blocks.specs.Innermost.{scope_in, is_behind}

-- the line i gives the name n to the def or class d: as a parameter of it, bound in its header's line, bound in a line of its body, or
-- declared global or nonlocal in its body
abbrev pub gives : List LineFacts → Naming → List ℕ → ℕ → ℕ → Bool
gives lines namings.Parameter n d i = among n (line_at lines i).parameters && i == d
gives lines namings.Suite n d i = among n (line_at lines i).suite && i == d
gives lines namings.Bound n d i = binds_at lines n d i
gives lines namings.Declared n d i = declares_at lines n d i

-- how a name and its def or class compare to a member of a set, by the def or class and then by the bytes
abbrev pub name_cmp : ℕ → List ℕ → ScopeName → Ordering
name_cmp d n member = ordering_then (nat_cmp d member.scope) (slice_cmp nat_cmp n member.name.now)

abbrev pub holds : BTreeSet ScopeName → List ℕ → ℕ → Bool
holds set n d = contains_by (name_cmp d n) set

-- the set has just the names that some line gives in this way
abbrev pub IsSetOf : List LineFacts → Naming → BTreeSet ScopeName → Type 0
IsSetOf lines naming set = (n : List ℕ) (d : ℕ) → holds set n d ≡ some_below (length lines) (gives lines naming n d)

pub record AreNameSets (lines : List LineFacts) (sets : NameSets) : Type 0 where
  pub parameters : IsSetOf lines namings.Parameter sets.parameters
  pub suites : IsSetOf lines namings.Suite sets.suites
  pub bound : IsSetOf lines namings.Bound sets.bound
  pub declared : IsSetOf lines namings.Declared sets.declared

-- ---- what the code reads (for contracts of inner functions)

-- the def or class in whose body the statements of the line i stand
abbrev pub body_in : List LineFacts → List (Option ℕ) → ℕ → Option ℕ
body_in lines scopes i = if is_a lines i sorts.Scope then Some i else scope_in scopes i

-- the def or class that the line i gives names to
abbrev pub holder_in : List LineFacts → List (Option ℕ) → Naming → ℕ → Option ℕ
holder_in lines scopes namings.Parameter i = Some i
holder_in lines scopes namings.Suite i = Some i
holder_in lines scopes namings.Bound i = scope_in scopes i
holder_in lines scopes namings.Declared i = body_in lines scopes i

abbrev pub names_of : LineFacts → Naming → List (List ℕ)
names_of line namings.Parameter = line.parameters
names_of line namings.Suite = line.suite
names_of line namings.Bound = line.bound
names_of line namings.Declared = line.declared

-- the open block d is a def around the def or class in whose body the statements of the line i stand
abbrev pub lies_outside : List LineFacts → Option ℕ → ℕ → ℕ → Bool
lies_outside lines scope i d = is_a lines d sorts.Def && (is_a lines i sorts.Scope || is_behind scope d)

abbrev pub owns_open : List LineFacts → Option ℕ → List ℕ → ℕ → ℕ → Bool
owns_open lines scope n i d = lies_outside lines scope i d && binds_in lines n d && not (declares_in lines n d)
