-- Which names a statement binds, and in which places of its tree: each place has a role, which says what a name there does
-- (Python 3.12 language reference, 4.2.1, "Binding of names", 8.6.4, "Patterns", and 7.12 and 7.13, "global" and "nonlocal").
use Rattle.std.specs.Prelude.{ℕ, ◌+◌, ◌==◌, Bool, true, false, not, List, [], ◌∷◌, ◌++◌, bytes_eq, if◌then◌else◌}
use Rattle.py_base.specs.declared.node.NodeKind.{NodeKind}
use Rattle.py_base.specs.declared.node.NodeKind.TheVariants as kinds
use Rattle.py_base.specs.Tree.{Said, name, SyntaxTree, SyntaxTrees, node, no_parts, with_part}
use Rattle.py_blocks.specs.declared.role.Role.{Role}
use Rattle.py_blocks.specs.declared.role.Role.TheVariants as roles

-- ---- the role of a part, by the kind of its node, by its place, counted from 0, and by whether it is the last

-- the first part has this role, and the others are values
abbrev pub first : Role → ℕ → Role
first r at = if at == 0 then r else roles.Value

abbrev pub second : Role → ℕ → Role
second r at = if at == 1 then r else roles.Value

-- A `:=` in the body of a lambda is that lambda's, one in a comprehension isn't the comprehension's. The names that the block of a def or
-- class in its line binds aren't bound around it.
abbrev pub value_part : NodeKind → ℕ → Bool → Role
value_part kinds.Named at last = first roles.Target at
value_part kinds.Lambda at last = if last then roles.Hidden else roles.Value
value_part kinds.Assign at last = if last then roles.Value else roles.Target
value_part kinds.AnnotatedAssign at last = first roles.Target at
value_part kinds.AugmentedAssign at last = first roles.Target at
value_part kinds.Del at last = roles.Target
value_part kinds.Import at last = roles.Imported
value_part kinds.ImportFrom at last = if at == 0 then roles.Value else roles.Imported
value_part kinds.TypeAlias at last = second roles.Target at
value_part kinds.For at last = first roles.Target at
value_part kinds.WithItem at last = second roles.Target at
value_part kinds.Except at last = if last then roles.Value else second roles.Target at
value_part kinds.ExceptStar at last = if last then roles.Value else second roles.Target at
value_part kinds.Case at last = first roles.Captured at
value_part kinds.Def at last = if last then roles.Hidden else first roles.Target at
value_part kinds.Class at last = if last then roles.Hidden else first roles.Target at
value_part k at last = roles.Value

abbrev pub target_part : NodeKind → Role
target_part kinds.Attribute = roles.Value
target_part kinds.Subscript = roles.Value
target_part k = roles.Target

-- `import a.b` binds `a`, and `import a.b as c` binds `c`
abbrev pub imported_part : NodeKind → ℕ → Bool → Role
imported_part kinds.DottedName at last = if at == 0 then roles.Imported else roles.Hidden
imported_part kinds.Alias at last = if last then roles.Target else roles.Hidden
imported_part k at last = roles.Hidden

-- Dotted names, strings, the keys of a mapping, the class of a class pattern and the names of its keywords capture nothing. The parts of
-- `|` capture the same names, so those of the first part are those of all.
abbrev pub captured_part : NodeKind → ℕ → Role
captured_part kinds.Attribute at = roles.Hidden
captured_part kinds.Strings at = roles.Hidden
captured_part kinds.OrPattern at = if at == 0 then roles.Captured else roles.Hidden
captured_part kinds.PatternItem at = if at == 0 then roles.Hidden else roles.Captured
captured_part kinds.ClassPattern at = if at == 0 then roles.Hidden else roles.Captured
captured_part kinds.KeywordPattern at = if at == 0 then roles.Hidden else roles.Captured
captured_part k at = roles.Captured

-- the block of a def or class in its line
abbrev pub suite_part : NodeKind → Bool → Role
suite_part kinds.Async last = roles.Suite
suite_part kinds.Def last = if last then roles.Value else roles.Hidden
suite_part kinds.Class last = if last then roles.Value else roles.Hidden
suite_part k last = roles.Hidden

abbrev pub signature_part : NodeKind → Bool → Role
signature_part kinds.Async last = roles.Signature
signature_part kinds.Def last = roles.Signature
signature_part kinds.Parameters last = roles.Parameter
signature_part kinds.Lambda last = if last then roles.Hidden else roles.Parameter
signature_part k last = roles.Hidden

abbrev pub parameter_part : ℕ → Role
parameter_part at = if at == 0 then roles.Parameter else roles.Hidden

abbrev pub nonlocal_part : NodeKind → Role
nonlocal_part kinds.Nonlocal = roles.Target
nonlocal_part k = roles.Nonlocal

abbrev pub declared_part : NodeKind → Role
declared_part kinds.Global = roles.Target
declared_part kinds.Nonlocal = roles.Target
declared_part k = roles.Declared

abbrev pub role_of_part : Role → NodeKind → ℕ → Bool → Role
role_of_part roles.Value k at last = value_part k at last
role_of_part roles.Target k at last = target_part k
role_of_part roles.Imported k at last = imported_part k at last
role_of_part roles.Captured k at last = captured_part k at
role_of_part roles.Hidden k at last = roles.Hidden
role_of_part roles.Suite k at last = suite_part k last
role_of_part roles.Signature k at last = signature_part k last
role_of_part roles.Parameter k at last = parameter_part at
role_of_part roles.Nonlocal k at last = nonlocal_part k
role_of_part roles.Declared k at last = declared_part k

-- ---- the names that are found in a role

-- a name in a place of this role is found; a pattern doesn't capture `_`
abbrev pub finds : Role → List ℕ → Bool
finds roles.Target n = true
finds roles.Imported n = true
finds roles.Parameter n = true
finds roles.Captured n = not (bytes_eq n (95 ∷ []))
finds r n = false

abbrev pub found : Role → Said → List (List ℕ)
found r (name n) = if finds r n then n ∷ [] else []
found r s = []

abbrev pub is_name : NodeKind → Bool
is_name kinds.Name = true
is_name k = false

abbrev pub is_none : SyntaxTrees → Bool
is_none no_parts = true
is_none (with_part t ts) = false

-- THE NAMES OF A TREE IN A ROLE, in the order of the text
abbrev mutual
  pub names_in : Role → SyntaxTree → List (List ℕ)
  names_in r (node k at said ts) = (if is_name k then found r said else []) ++ names_of_parts r k 0 ts

  -- of the parts from a place on
  pub names_of_parts : Role → NodeKind → ℕ → SyntaxTrees → List (List ℕ)
  names_of_parts r k n no_parts = []
  names_of_parts r k n (with_part t ts) = names_in (role_of_part r k n (is_none ts)) t ++ names_of_parts r k (n + 1) ts
