-- What the reader knows of what it has found.
use Rattle.std.specs.Prelude.{◌≡◌, ℕ, suc, ◌+◌, ◌<◌, ◌≤◌, ◌&&◌, ◌||◌, not, Bool, true, false, min, max, Option, Some, None, List, [], ◌∷◌, ◌++◌, length, map}
use Rattle.std.specs.List.{list_all, list_any}
use Rattle.std.specs.Borrow.{Bor}
use Rattle.py_base.specs.declared.span.Span.{Span}
use Rattle.py_base.specs.declared.ids.NodeId.{NodeId}
use Rattle.py_base.specs.OneTree.{times, all_parts}
use Rattle.py_base.specs.declared.node.NodeKind.{NodeKind}
use Rattle.py_base.specs.Tree.{Arena, SyntaxTree, tree_of, kind_of, span_of, height, Grows, IsLinked}
use Rattle.py_tokens.specs.declared.lines.Token.{Token}
use Rattle.py_grammar.specs.declared.found.Found.{Found}
use Rattle.py_grammar.specs.declared.found.Item.{Item}
use Rattle.py_grammar.specs.declared.found.Item.TheVariants as items
use Rattle.py_grammar.specs.Meaning.{Piece, of_word, of_tree, is_clause, tree_of_reading, pieces}
use Rattle.py_grammar.specs.Reading.{Reading, Parts, form_of}
use Rattle.py_grammar.specs.declared.order.Binding.{Binding}
use Rattle.py_grammar.specs.declared.order.Binding.TheVariants as bindings
use Rattle.py_grammar.specs.Proper.{is_proper, is_target, has_colon, is_signed_imaginary, is_unreal, fits, binding, is_reference, holds_targets, is_lambda, is_field, encloses, is_value, is_case, is_unary, is_binary, is_strings, begins_imaginary}

-- a height, up to one above the limit
abbrev pub capped : ℕ → ℕ
capped n = min n 257

-- a node of the arena, and what is true of its tree
pub record IsKnown (a : Arena) (x : Found) : Type 0 where
  pub inside : x.id.0 < length a.nodes
  pub kind : x.kind ≡ kind_of (tree_of a x.id)
  pub span : x.span ≡ span_of (tree_of a x.id)
  pub height : x.height ≡ capped (height (tree_of a x.id))
  pub proper : x.proper ≡ is_proper (tree_of a x.id)
  pub target : x.target ≡ is_target (tree_of a x.id)
  pub colon : x.colon ≡ has_colon (tree_of a x.id)
  pub signed : x.signed ≡ is_signed_imaginary (tree_of a x.id)
  pub unreal : x.unreal ≡ is_unreal (tree_of a x.id)

abbrev pub AllKnown : Arena → List Found → Type 0
AllKnown a [] = Unit {0}
AllKnown a (x ∷ xs) = IsKnown a x × AllKnown a xs

abbrev pub AreKnown : Arena → List Item → Type 0
AreKnown a [] = Unit {0}
AreKnown a (items.Word w ∷ xs) = AreKnown a xs
AreKnown a (items.Part x ∷ xs) = IsKnown a x × AreKnown a xs

abbrev pub piece_at : Arena → Item → Piece
piece_at a (items.Word w) = of_word w.now
piece_at a (items.Part x) = of_tree (tree_of a x.id)

abbrev pub pieces_at : Arena → List Item → List Piece
pieces_at a xs = map (piece_at a) xs

abbrev pub trees_at : Arena → List Found → List SyntaxTree
trees_at a xs = map (λ x. tree_of a x.id) xs

abbrev pub item_words : List Item → List Token
item_words [] = []
item_words (items.Word w ∷ xs) = w.now ∷ item_words xs
item_words (items.Part x ∷ xs) = item_words xs

abbrev pub is_part_next : List Item → Bool
is_part_next [] = false
is_part_next (items.Word w ∷ xs) = false
is_part_next (items.Part x ∷ xs) = true

abbrev pub item_span : Item → Span
item_span (items.Word w) = w.now.span
item_span (items.Part x) = x.span

-- what a node over such parts is
-- a part of an assignment before others: a target, or as the last what is assigned
abbrev pub one_assigned_over : Found → List Found → Bool
one_assigned_over x [] = is_value x.kind x.proper
one_assigned_over x (y ∷ ys) = x.target

abbrev pub assigned_over : List Found → Bool
assigned_over [] = true
assigned_over (x ∷ xs) = one_assigned_over x xs && assigned_over xs

abbrev pub parts_proper_over : Binding → List Found → Bool
parts_proper_over b [] = true
parts_proper_over bindings.Nothing (x ∷ xs) = x.proper && list_all (λ y. y.proper) xs
parts_proper_over bindings.First (x ∷ xs) = x.target && list_all (λ y. y.proper) xs
parts_proper_over bindings.AllButFirst (x ∷ xs) = x.proper && list_all (λ y. y.target) xs
parts_proper_over bindings.AllButLast (x ∷ xs) = assigned_over (x ∷ xs)

abbrev pub begins_unreal_over : List Found → Bool
begins_unreal_over [] = false
begins_unreal_over (x ∷ xs) = x.unreal

abbrev pub begins_signed_over : List Found → Bool
begins_signed_over [] = false
begins_signed_over (x ∷ xs) = x.signed

-- what no part of a node may have
abbrev pub faulty_over : NodeKind → List Found → Bool
faulty_over k xs = (is_field k && list_any (λ x. x.colon) xs) || (is_case k && begins_unreal_over xs)

abbrev pub proper_over : NodeKind → List Found → Bool
proper_over k xs = parts_proper_over (binding k) xs && fits k (map (λ x. x.kind) xs) && not (faulty_over k xs)

abbrev pub signed_over : NodeKind → List Found → Bool
signed_over k xs = is_unary k && begins_imaginary (map (λ x. x.kind) xs)

abbrev pub unreal_over : NodeKind → List Found → Bool
unreal_over k xs = (is_binary k && begins_signed_over xs) || (not (is_strings k) && list_any (λ x. x.unreal) xs)

abbrev pub target_over : NodeKind → List Found → Bool
target_over k xs = (is_reference k && list_all (λ x. x.proper) xs) || (holds_targets k && list_all (λ x. x.target) xs)

abbrev pub colon_over : NodeKind → List Found → Bool
colon_over k xs = is_lambda k || (not (encloses k) && list_any (λ x. x.colon) xs)

abbrev pub highest : List Found → ℕ
highest [] = 0
highest (x ∷ xs) = max x.height (highest xs)

-- whether an item is a clause of a comprehension
abbrev pub is_clause_item : Item → Bool
is_clause_item (items.Word w) = false
is_clause_item (items.Part x) = is_clause x.kind

-- the nodes that items stand for
abbrev pub item_ids : List Item → List NodeId
item_ids [] = []
item_ids (items.Word w ∷ xs) = item_ids xs
item_ids (items.Part x ∷ xs) = x.id ∷ item_ids xs

abbrev pub found_ids : List Found → List NodeId
found_ids xs = map (λ x. x.id) xs

-- how often a node is a part, or is among those that are to become parts
abbrev pub uses : ℕ → Arena → List NodeId → ℕ
uses n a ids = times n (all_parts a.nodes) + times n ids

-- each node that came is a part or to become one, once, and the older ones are used as they were
pub record Keeps (old : Arena) (xs : List NodeId) (new : Arena) (ys : List NodeId) : Type 0 where
  pub once : (n : ℕ) → length old.nodes ≤ n → n < length new.nodes → uses n new ys ≡ 1
  pub apart : (n : ℕ) → n < length old.nodes → uses n new ys ≡ uses n old xs

-- a node that came is the newest one
pub record IsNewest (old new : Arena) (id : NodeId) : Type 0 where
  pub newest : suc id.0 ≡ length new.nodes
  pub added : length old.nodes < length new.nodes

-- the arena has grown, and its nodes have older parts
pub record Extends (old new : Arena) : Type 0 where
  pub grown : Grows old new
  pub linked : IsLinked new

-- whether an item is a word that passes a test
abbrev pub is_item : (Token → Bool) → Item → Bool
is_item p (items.Word w) = p w.now
is_item p (items.Part x) = false

-- what a literal is by a reading of it; a part adds nothing
abbrev pub item_by : (Token → Option (List ℕ)) → Item → Option (List ℕ)
item_by f (items.Word w) = f w.now
item_by f (items.Part x) = Some []

abbrev pub word_in : Option Item → Option Token
word_in None = None
word_in (Some (items.Word w)) = Some w.now
word_in (Some (items.Part x)) = None

abbrev pub items_from : List Item → ℕ
items_from [] = 0
items_from (x ∷ xs) = (item_span x).from

-- a node that stands for a reading at the front of the tokens
pub record IsFoundTree (a : Arena) (x : Found) (rest : List Token) (outcome : Option (Reading × List Token)) : Type 0 where
  pub reading : Reading
  pub known : IsKnown a x
  pub form : x.form ≡ form_of reading
  pub tree : tree_of a x.id ≡ tree_of_reading reading
  pub read : outcome ≡ Some (reading, rest)

abbrev pub FindsTree : Arena → Option (Found × Bor (List Token)) → Option (Reading × List Token) → Type 0
FindsTree a None outcome = outcome ≡ None
FindsTree a (Some x) outcome = IsFoundTree a x.0 x.1.now outcome

-- items that stand for those before and for the parts at the front of the tokens
pub record AreFoundParts (before : List Piece) (a : Arena) (xs : List Item) (rest : List Token) (outcome : Option (Parts × List Token)) : Type 0 where
  pub parts : Parts
  pub known : AreKnown a xs
  pub whole : pieces_at a xs ≡ before ++ pieces parts
  pub read : outcome ≡ Some (parts, rest)

abbrev pub FindsParts : List Piece → Arena → Option (List Item × Bor (List Token)) → Option (Parts × List Token) → Type 0
FindsParts before a None outcome = outcome ≡ None
FindsParts before a (Some x) outcome = AreFoundParts before a x.0 x.1.now outcome
