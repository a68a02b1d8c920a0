-- How the searches of a tree go on from part to part.
use Rattle.std.proofs.Common.{◌≡◌, ℕ, suc, ◌+◌, ◌-◌, ◌<◌, ◌≤◌, nat_eq, ltb, Bool, true, false, ◌&&◌, ◌||◌, List, [], ◌∷◌, ◌++◌, length, drop, get_or, Option, Some, None, refl, sym, ◌∙◌, ap, arith, slice_get, append_assoc, append-nil, if◌then◌else◌}
use Rattle.std.proofs.lemmas.Bool.{ne_eqb, lt-ltb}
use Rattle.std.proofs.lemmas.Option.{get_or_from_slice_get}
use Rattle.py_base.specs.declared.ids.NameId.{NameId}
use Rattle.py_base.specs.declared.node.Word.{Word}
use Rattle.py_base.specs.declared.node.Word.TheVariants as words
use Rattle.py_base.specs.declared.ids.NodeId.{NodeId}
use Rattle.py_base.specs.declared.node.NodeKind.{NodeKind}
use Rattle.py_base.specs.declared.span.Span.{Span}
use Rattle.py_base.specs.Tree.{Said, said, SyntaxTree, SyntaxTrees, node, with_part, tree_at, parts_at}
use Rattle.py_blocks.specs.declared.role.Role.{Role}
use Rattle.py_blocks.specs.declared.walk.Sought.{Sought}
use Rattle.py_blocks.specs.Roles.{found, finds, is_name, is_none, role_of_part, names_in, names_of_parts}
use Rattle.py_blocks.specs.Facts.{is_word, has, have, is_empty_suite, ends_in_colon, is_lone, has_three, is_star, default_of, with_default, defaults, are_alike, are_distinct, captures, capture_alike, node_fits, tree_fits, trees_fit}
use Rattle.py_blocks.specs.Ordered.{seen_after, ordered_after}
use Rattle.py_blocks.proofs.Reading.{parts_at-drop, parts_at-end, is_none-drop}

-- ---- words

pub has-found : (w : Sought) (k : NodeKind) (at : Span) (s : Said) (ts : List SyntaxTree) (ids : List NodeId) (i : ℕ) (d : NodeId) → i < length ids → have w (parts_at ts (drop i ids)) ≡ have w (parts_at ts ids) → is_word w k ≡ false → has w (tree_at ts (get_or ids i d)) ≡ true → has w (node k at s (parts_at ts ids)) ≡ true
has-found w k at s ts ids i d lt same bad good =
    let here : have w (parts_at ts (drop i ids)) ≡ true = ap (have w) (parts_at-drop ts ids i d lt) ∙ ap (λ b. b || have w (parts_at ts (drop (i + 1) ids))) good in
    rw bad (sym same ∙ here)

pub has-next : (w : Sought) (ts : List SyntaxTree) (ids : List NodeId) (i : ℕ) (d : NodeId) → i < length ids → have w (parts_at ts (drop i ids)) ≡ have w (parts_at ts ids) → has w (tree_at ts (get_or ids i d)) ≡ false → have w (parts_at ts (drop (i + 1) ids)) ≡ have w (parts_at ts ids)
has-next w ts ids i d lt same bad =
    sym (ap (have w) (parts_at-drop ts ids i d lt) ∙ ap (λ b. b || have w (parts_at ts (drop (i + 1) ids))) bad) ∙ same

pub has-none : (w : Sought) (k : NodeKind) (at : Span) (s : Said) (ts : List SyntaxTree) (ids : List NodeId) (i : ℕ) → length ids ≤ i → have w (parts_at ts (drop i ids)) ≡ have w (parts_at ts ids) → is_word w k ≡ false → has w (node k at s (parts_at ts ids)) ≡ false
has-none w k at s ts ids i le same bad = rw bad (sym same ∙ ap (have w) (parts_at-end ts ids i le))

-- ---- the last part, and how many there are

pub ends-last : (ts : List SyntaxTree) (ids : List NodeId) (d : NodeId) → 0 < length ids → ends_in_colon (parts_at ts ids) ≡ is_empty_suite (tree_at ts (get_or ids (length ids - 1) d))
ends-last ts [] d lt = absurd (omega arith)
ends-last ts (x ∷ []) d lt = refl
ends-last ts (x ∷ y ∷ ids) d lt =
    let last : length (x ∷ y ∷ ids) - 1 ≡ suc (length (y ∷ ids) - 1) = omega arith in
    rw last (ends-last ts (y ∷ ids) d (omega arith))

pub none-zero : (ts : List SyntaxTree) (ids : List NodeId) → nat_eq (length ids) 0 ≡ is_none (parts_at ts ids)
none-zero ts [] = refl
none-zero ts (x ∷ ids) = ne_eqb (length (x ∷ ids)) 0 (λ h. omega arith)

pub lone-one : (ts : List SyntaxTree) (ids : List NodeId) → nat_eq (length ids) 1 ≡ is_lone (parts_at ts ids)
lone-one ts [] = refl
lone-one ts (x ∷ []) = refl
lone-one ts (x ∷ y ∷ ids) = ne_eqb (length (x ∷ y ∷ ids)) 1 (λ h. omega arith)

pub three-or_more : (ts : List SyntaxTree) (ids : List NodeId) → ltb 2 (length ids) ≡ has_three (parts_at ts ids)
three-or_more ts [] = refl
three-or_more ts (x ∷ []) = refl
three-or_more ts (x ∷ y ∷ []) = refl
three-or_more ts (x ∷ y ∷ z ∷ ids) = lt-ltb 2 (length (x ∷ y ∷ z ∷ ids)) (omega arith)

-- ---- names

pub names-first : (r : Role) (k : NodeKind) (at : Span) (s : Said) (ts : List SyntaxTree) (ids : List NodeId) (t : SyntaxTree) (old new : List (List ℕ)) → t ≡ node k at s (parts_at ts ids) → new ≡ old ++ (if is_name k then found r s else []) → new ++ names_of_parts r k 0 (parts_at ts ids) ≡ old ++ names_in r t
names-first r k at s ts ids t old new e f = rw (e, f) (append_assoc old (if is_name k then found r s else []) (names_of_parts r k 0 (parts_at ts ids)))

pub names-next : (r : Role) (k : NodeKind) (ts : List SyntaxTree) (ids : List NodeId) (i : ℕ) (d : NodeId) (old new : List (List ℕ)) → i < length ids → new ≡ old ++ names_in (role_of_part r k i (nat_eq (i + 1) (length ids))) (tree_at ts (get_or ids i d)) → new ++ names_of_parts r k (i + 1) (parts_at ts (drop (i + 1) ids)) ≡ old ++ names_of_parts r k i (parts_at ts (drop i ids))
names-next r k ts ids i d old new lt e =
    let t = tree_at ts (get_or ids i d) in
    let rest = parts_at ts (drop (i + 1) ids) in
    let f : new ≡ old ++ names_in (role_of_part r k i (is_none rest)) t = e ∙ ap (λ b. old ++ names_in (role_of_part r k i b) t) (is_none-drop ts ids i lt) in
    ap (λ ns. ns ++ names_of_parts r k (i + 1) rest) f ∙ (append_assoc old (names_in (role_of_part r k i (is_none rest)) t) (names_of_parts r k (i + 1) rest) ∙ ap (λ us. old ++ names_of_parts r k i us) (sym (parts_at-drop ts ids i d lt)))

pub names-end : (r : Role) (k : NodeKind) (ts : List SyntaxTree) (ids : List NodeId) (i : ℕ) (old new : List (List ℕ)) → length ids ≤ i → old ++ names_of_parts r k i (parts_at ts (drop i ids)) ≡ new → old ≡ new
names-end r k ts ids i old new le e = sym (append-nil old) ∙ (ap (λ us. old ++ names_of_parts r k i us) (sym (parts_at-end ts ids i le)) ∙ e)

-- ---- defaults

pub ordered-stop : (seen : Bool) → ordered_after seen [] ≡ true
ordered-stop true = refl
ordered-stop false = refl

pub ordered-next : (seen after : Bool) (d : Option Bool) (bs : List Bool) → seen_after seen d ≡ Some after → ordered_after seen (with_default d bs) ≡ ordered_after after bs
ordered-next seen after None bs e = let f : seen ≡ after = cc in rw f refl
ordered-next true after (Some true) bs e = let f : true ≡ after = cc in rw (← f) refl
ordered-next false after (Some true) bs e = let f : true ≡ after = cc in rw (← f) refl
ordered-next true after (Some false) bs e = cc
ordered-next false after (Some false) bs e = let f : false ≡ after = cc in rw (← f) refl

pub ordered-bad : (seen : Bool) (d : Option Bool) (bs : List Bool) → seen_after seen d ≡ None → ordered_after seen (with_default d bs) ≡ false
ordered-bad seen None bs e = cc
ordered-bad true (Some true) bs e = cc
ordered-bad false (Some true) bs e = cc
ordered-bad true (Some false) bs e = refl
ordered-bad false (Some false) bs e = cc

-- the defaults from a place on
pub defaults-stop : (lambda : Bool) (k : NodeKind) (at : Span) (s : Said) (us : SyntaxTrees) (ts : List SyntaxTree) (ids : List NodeId) (i : ℕ) (d : NodeId) → i < length ids → tree_at ts (get_or ids i d) ≡ node k at s us → (lambda && nat_eq (i + 1) (length ids) || is_star k) ≡ true → defaults lambda (parts_at ts (drop i ids)) ≡ []
defaults-stop lambda k at s us ts ids i d lt e stop =
    let rest = parts_at ts (drop (i + 1) ids) in
    let f : (lambda && is_none rest || is_star k) ≡ true = ap (λ b. lambda && b || is_star k) (sym (is_none-drop ts ids i lt)) ∙ stop in
    ap (defaults lambda) (parts_at-drop ts ids i d lt) ∙ (ap (λ t. defaults lambda (with_part t rest)) e ∙ ap (λ b. if b then [] else with_default (default_of k us) (defaults lambda rest)) f)

pub defaults-more : (lambda : Bool) (k : NodeKind) (at : Span) (s : Said) (us : SyntaxTrees) (ts : List SyntaxTree) (ids : List NodeId) (i : ℕ) (d : NodeId) → i < length ids → tree_at ts (get_or ids i d) ≡ node k at s us → (lambda && nat_eq (i + 1) (length ids) || is_star k) ≡ false → defaults lambda (parts_at ts (drop i ids)) ≡ with_default (default_of k us) (defaults lambda (parts_at ts (drop (i + 1) ids)))
defaults-more lambda k at s us ts ids i d lt e stop =
    let rest = parts_at ts (drop (i + 1) ids) in
    let f : (lambda && is_none rest || is_star k) ≡ false = ap (λ b. lambda && b || is_star k) (sym (is_none-drop ts ids i lt)) ∙ stop in
    ap (defaults lambda) (parts_at-drop ts ids i d lt) ∙ (ap (λ t. defaults lambda (with_part t rest)) e ∙ ap (λ b. if b then [] else with_default (default_of k us) (defaults lambda rest)) f)

-- ---- captures, and each node

pub alike-bad : (ns : List (List ℕ)) (ts : List SyntaxTree) (ids : List NodeId) (i : ℕ) (d : NodeId) → i < length ids → capture_alike ns (parts_at ts (drop i ids)) ≡ capture_alike ns (parts_at ts ids) → (are_alike ns (captures (tree_at ts (get_or ids i d))) && are_distinct (captures (tree_at ts (get_or ids i d)))) ≡ false → capture_alike ns (parts_at ts ids) ≡ false
alike-bad ns ts ids i d lt same bad = sym same ∙ (ap (capture_alike ns) (parts_at-drop ts ids i d lt) ∙ ap (λ b. b && capture_alike ns (parts_at ts (drop (i + 1) ids))) bad)

pub alike-next : (ns : List (List ℕ)) (ts : List SyntaxTree) (ids : List NodeId) (i : ℕ) (d : NodeId) → i < length ids → capture_alike ns (parts_at ts (drop i ids)) ≡ capture_alike ns (parts_at ts ids) → (are_alike ns (captures (tree_at ts (get_or ids i d))) && are_distinct (captures (tree_at ts (get_or ids i d)))) ≡ true → capture_alike ns (parts_at ts (drop (i + 1) ids)) ≡ capture_alike ns (parts_at ts ids)
alike-next ns ts ids i d lt same good = sym (ap (capture_alike ns) (parts_at-drop ts ids i d lt) ∙ ap (λ b. b && capture_alike ns (parts_at ts (drop (i + 1) ids))) good) ∙ same

pub alike-end : (ns : List (List ℕ)) (ts : List SyntaxTree) (ids : List NodeId) (i : ℕ) → length ids ≤ i → capture_alike ns (parts_at ts (drop i ids)) ≡ capture_alike ns (parts_at ts ids) → capture_alike ns (parts_at ts ids) ≡ true
alike-end ns ts ids i le same = sym same ∙ ap (capture_alike ns) (parts_at-end ts ids i le)

pub fits-bad : (ts : List SyntaxTree) (ids : List NodeId) (i : ℕ) (d : NodeId) → i < length ids → trees_fit (parts_at ts (drop i ids)) ≡ trees_fit (parts_at ts ids) → tree_fits (tree_at ts (get_or ids i d)) ≡ false → trees_fit (parts_at ts ids) ≡ false
fits-bad ts ids i d lt same bad = sym same ∙ (ap trees_fit (parts_at-drop ts ids i d lt) ∙ ap (λ b. b && trees_fit (parts_at ts (drop (i + 1) ids))) bad)

pub fits-next : (ts : List SyntaxTree) (ids : List NodeId) (i : ℕ) (d : NodeId) → i < length ids → trees_fit (parts_at ts (drop i ids)) ≡ trees_fit (parts_at ts ids) → tree_fits (tree_at ts (get_or ids i d)) ≡ true → trees_fit (parts_at ts (drop (i + 1) ids)) ≡ trees_fit (parts_at ts ids)
fits-next ts ids i d lt same good = sym (ap trees_fit (parts_at-drop ts ids i d lt) ∙ ap (λ b. b && trees_fit (parts_at ts (drop (i + 1) ids))) good) ∙ same

pub fits-end : (ts : List SyntaxTree) (ids : List NodeId) (i : ℕ) → length ids ≤ i → trees_fit (parts_at ts (drop i ids)) ≡ trees_fit (parts_at ts ids) → trees_fit (parts_at ts ids) ≡ true
fits-end ts ids i le same = sym same ∙ ap trees_fit (parts_at-end ts ids i le)

-- a node whose own test and parts are known
pub fits-node : (k : NodeKind) (at : Span) (s : Said) (us : SyntaxTrees) (t : SyntaxTree) (b : Bool) → t ≡ node k at s us → node_fits t ≡ true → trees_fit us ≡ b → tree_fits t ≡ b
fits-node k at s us t b e own parts =
    let mine : node_fits (node k at s us) ≡ true = ap node_fits (sym e) ∙ own in
    ap tree_fits e ∙ (ap (λ x. x && trees_fit us) mine ∙ parts)

pub fits-own : (t : SyntaxTree) → node_fits t ≡ false → tree_fits t ≡ false
fits-own (node k at s us) own = ap (λ x. x && trees_fit us) own

-- ---- what a word says

pub found-name : (r : Role) (names : List (List ℕ)) (w : Word) (id : NameId) (n : List ℕ) → w ≡ words.Name id → slice_get names id.0 ≡ Some n → found r (said names w) ≡ (if finds r n then n ∷ [] else [])
found-name r names w id n e f = rw (e, get_or_from_slice_get names id.0 n [] f) refl
