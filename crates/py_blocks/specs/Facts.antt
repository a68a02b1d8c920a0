-- What the rules of blocks see of a logical line: its column, the header that it begins, and the names, parameters and captures of its
-- tree (Python 3.12 language reference, 7, "Compound statements", 6.14, "Lambdas", and 8.6.4.2, "OR Patterns").
use Rattle.std.specs.Prelude.{ℕ, Bool, true, false, not, ◌&&◌, ◌||◌, Option, Some, None, List, [], ◌∷◌, bytes_eq, if◌then◌else◌}
use Rattle.std.specs.List.{list_all, list_any}
use Rattle.py_base.specs.declared.node.NodeKind.{NodeKind}
use Rattle.py_base.specs.declared.node.NodeKind.TheVariants as kinds
use Rattle.py_base.specs.Tree.{SyntaxTree, SyntaxTrees, node, no_parts, with_part, kind_of}
use Rattle.py_tokens.specs.declared.kinds.TokenFault.{TokenFault}
use Rattle.py_blocks.specs.declared.role.Role.TheVariants as roles
use Rattle.py_blocks.specs.declared.facts.LineFacts.{LineFacts}
use Rattle.py_blocks.specs.declared.walk.Sought.{Sought}
use Rattle.py_blocks.specs.declared.walk.Sought.TheVariants as words
use Rattle.py_blocks.specs.Roles.{names_in, is_none}

-- a logical line: its column, its token fault, and the tree that spells it
pub record Row : Type 0 where
  pub column : ℕ
  pub fault : Option TokenFault
  pub tree : Option SyntaxTree

-- ---- headers

abbrev pub is_async : NodeKind → Bool
is_async kinds.Async = true
is_async k = false

abbrev pub first_or : SyntaxTree → SyntaxTrees → SyntaxTree
first_or t no_parts = t
first_or t (with_part u us) = u

-- the header behind `async`
abbrev pub header : SyntaxTree → SyntaxTree
header (node k at said ts) = if is_async k then first_or (node k at said ts) ts else node k at said ts

abbrev pub is_suite : NodeKind → Bool
is_suite kinds.Suite = true
is_suite k = false

abbrev pub is_match : NodeKind → Bool
is_match kinds.Match = true
is_match k = false

abbrev pub is_bare : NodeKind → Bool
is_bare kinds.Except = true
is_bare k = false

-- a `:` with nothing behind it in its line
abbrev pub is_empty_suite : SyntaxTree → Bool
is_empty_suite (node k at said ts) = is_suite k && is_none ts

abbrev pub ends_in_colon : SyntaxTrees → Bool
ends_in_colon no_parts = false
ends_in_colon (with_part t ts) = if is_none ts then is_empty_suite t else ends_in_colon ts

-- a header that ends its line; that of a `match` always does
abbrev pub opens_block : SyntaxTree → Bool
opens_block (node k at said ts) = is_match k || ends_in_colon ts

abbrev pub is_lone : SyntaxTrees → Bool
is_lone no_parts = false
is_lone (with_part t ts) = is_none ts

-- an `except` without a class
abbrev pub is_bare_except : SyntaxTree → Bool
is_bare_except (node k at said ts) = is_bare k && is_lone ts

-- ---- words that stand in a line

abbrev pub is_return : NodeKind → Bool
is_return kinds.Return = true
is_return k = false

abbrev pub is_jump : NodeKind → Bool
is_jump kinds.Break = true
is_jump kinds.Continue = true
is_jump k = false

abbrev pub is_word : Sought → NodeKind → Bool
is_word words.Return k = is_return k
is_word words.Jump k = is_jump k

-- some node of the tree is of such a kind
abbrev mutual
  pub has : Sought → SyntaxTree → Bool
  has w (node k at said ts) = is_word w k || have w ts

  pub have : Sought → SyntaxTrees → Bool
  have w no_parts = false
  have w (with_part t ts) = has w t || have w ts

-- ---- names

abbrev pub among : List ℕ → List (List ℕ) → Bool
among n ns = list_any (bytes_eq n) ns

abbrev pub are_distinct : List (List ℕ) → Bool
are_distinct [] = true
are_distinct (n ∷ ns) = not (among n ns) && are_distinct ns

abbrev pub all_among : List (List ℕ) → List (List ℕ) → Bool
all_among ns ms = list_all (λ n. among n ms) ns

-- the same names, in whatever order
abbrev pub are_alike : List (List ℕ) → List (List ℕ) → Bool
are_alike ns ms = all_among ns ms && all_among ms ns

-- ---- parameters: they differ, and before `*` those without a default come first

-- behind these a parameter without a default may follow one with
abbrev pub is_star : NodeKind → Bool
is_star kinds.BareStar = true
is_star kinds.StarParameter = true
is_star kinds.DoubleStarParameter = true
is_star k = false

abbrev pub has_three : SyntaxTrees → Bool
has_three (with_part t (with_part u (with_part v vs))) = true
has_three ts = false

-- whether a plain parameter has a default; `/` and a last comma are none
abbrev pub default_of : NodeKind → SyntaxTrees → Option Bool
default_of kinds.Name ts = Some false
default_of kinds.Parameter ts = Some true
default_of kinds.AnnotatedParameter ts = Some (has_three ts)
default_of k ts = None

abbrev pub with_default : Option Bool → List Bool → List Bool
with_default None bs = bs
with_default (Some b) bs = b ∷ bs

-- the plain parameters before `*`, each by whether it has a default; the last part of a lambda is its body
abbrev pub defaults : Bool → SyntaxTrees → List Bool
defaults lambda no_parts = []
defaults lambda (with_part (node k at said us) ts) =
    if (lambda && is_none ts) || is_star k then [] else with_default (default_of k us) (defaults lambda ts)

-- none without a default follows one with
abbrev pub are_ordered : List Bool → Bool
are_ordered [] = true
are_ordered (true ∷ bs) = list_all (λ b. b) bs
are_ordered (false ∷ bs) = are_ordered bs

abbrev pub is_lambda : NodeKind → Bool
is_lambda kinds.Lambda = true
is_lambda k = false

abbrev pub has_parameters : NodeKind → Bool
has_parameters kinds.Lambda = true
has_parameters kinds.Parameters = true
has_parameters k = false

abbrev pub parameters_fit : SyntaxTree → Bool
parameters_fit (node k at said ts) =
    are_distinct (names_in roles.Signature (node k at said ts)) && are_ordered (defaults (is_lambda k) ts)

-- ---- captures: the parts of `|` capture the same names, and apart from that no name is captured twice

abbrev pub captures : SyntaxTree → List (List ℕ)
captures t = names_in roles.Captured t

-- each captures these names
abbrev pub capture_alike : List (List ℕ) → SyntaxTrees → Bool
capture_alike ns no_parts = true
capture_alike ns (with_part t ts) = are_alike ns (captures t) && are_distinct (captures t) && capture_alike ns ts

abbrev pub alternatives_fit : SyntaxTrees → Bool
alternatives_fit no_parts = true
alternatives_fit (with_part t ts) = are_distinct (captures t) && capture_alike (captures t) ts

abbrev pub pattern_fits : SyntaxTrees → Bool
pattern_fits no_parts = true
pattern_fits (with_part t ts) = are_distinct (captures t)

abbrev pub is_or : NodeKind → Bool
is_or kinds.OrPattern = true
is_or k = false

abbrev pub is_case : NodeKind → Bool
is_case kinds.Case = true
is_case k = false

-- a node with parameters, with alternatives or with a pattern has them as they should be
abbrev pub node_fits : SyntaxTree → Bool
node_fits (node k at said ts) =
    if has_parameters k then parameters_fit (node k at said ts) else (if is_or k then alternatives_fit ts else (if is_case k then pattern_fits ts else true))

-- and so has each node of a tree
abbrev mutual
  pub tree_fits : SyntaxTree → Bool
  tree_fits (node k at said ts) = node_fits (node k at said ts) && trees_fit ts

  pub trees_fit : SyntaxTrees → Bool
  trees_fit no_parts = true
  trees_fit (with_part t ts) = tree_fits t && trees_fit ts

-- ---- THE FACTS OF A LINE. One with a token fault or without a tree is no header and binds nothing.

abbrev pub facts_without : ℕ → Option TokenFault → LineFacts
facts_without column fault =
    record {
      column = column;
      fault = fault;
      kind = None;
      opens = false;
      bare = false;
      returns = false;
      jumps = false;
      fits = true;
      parameters = [];
      suite = [];
      bound = [];
      nonlocals = [];
      declared = [];
    }

abbrev pub facts_with : ℕ → SyntaxTree → LineFacts
facts_with column t =
    record {
      column = column;
      fault = None;
      kind = Some (kind_of (header t));
      opens = opens_block (header t);
      bare = is_bare_except (header t);
      returns = has words.Return t;
      jumps = has words.Jump t;
      fits = tree_fits t;
      parameters = names_in roles.Signature t;
      suite = names_in roles.Suite t;
      bound = names_in roles.Value t;
      nonlocals = names_in roles.Nonlocal t;
      declared = names_in roles.Declared t;
    }

abbrev pub facts_at : ℕ → Option TokenFault → Option SyntaxTree → LineFacts
facts_at column (Some fault) tree = facts_without column (Some fault)
facts_at column None None = facts_without column None
facts_at column None (Some t) = facts_with column t

abbrev pub facts_of : Row → LineFacts
facts_of r = facts_at r.column r.fault r.tree
