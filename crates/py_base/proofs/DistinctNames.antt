-- No name of the language stands twice.
use Rattle.std.proofs.Common.{◌≡◌, ℕ, zero, suc, ◌+◌, ◌<◌, Bool, true, false, not, ◌&&◌, List, [], ◌∷◌, ◌++◌, length, map, get_or, take, fold, refl, ◌≤◌, length-append, if◌then◌else◌, sym, ◌∙◌, arith, append_assoc, append-nil, Bor}
use Rattle.std.specs.Prelude.{bytes_eq}
use Rattle.std.specs.List.{list_any}
use Rattle.std.proofs.Math.Seq.{take-length}
use Rattle.std.proofs.lemmas.Bool.{and_parts}
use Rattle.py_base.specs.declared.node.Node.{Node}
use Rattle.py_base.specs.LanguageNames.{language_names, builtin_names}
use Rattle.py_base.specs.Tree.{Arena, with_name, with_names}
use Rattle.py_base.specs.declared.language_names.TheConstants.{LANGUAGE_NAMES, BUILTIN_NAMES}

-- one name more at most
pub one_more : (names more : List (List ℕ)) (text : List ℕ) → more ≡ with_name names text → length more ≤ length names + 1
one_more names more text is = rw is (go (list_any (bytes_eq text) names))
  where
    go : (known : Bool) → length (if known then names else names ++ text ∷ []) ≤ length names + 1
    go true = omega arith
    go false = omega (arith, length-append names (text ∷ []))

-- none of the texts is one of those before it
abbrev pub are_new : List (List ℕ) → List (List ℕ) → Bool
are_new seen [] = true
are_new seen (x ∷ xs) = not (list_any (bytes_eq x) seen) && are_new (seen ++ x ∷ []) xs

pub names_are_new : are_new [] (map (λ n. n.now) LANGUAGE_NAMES) ≡ true
names_are_new = refl

-- the constant has the names of the language
pub names_are_listed : map (λ n. n.now) LANGUAGE_NAMES ≡ language_names
unfolding language_names
names_are_listed = refl

pub builtins_are_listed : map (λ n. n.now) BUILTIN_NAMES ≡ builtin_names
unfolding builtin_names
builtins_are_listed = refl

false_from : (b : Bool) → not b ≡ true → b ≡ false
false_from true h = cc
false_from false h = refl

-- names that differ are kept as they stand
kept : (seen xs : List (List ℕ)) → are_new seen xs ≡ true → fold with_name seen xs ≡ seen ++ xs
kept seen [] h = sym (append-nil seen)
kept seen (x ∷ xs) h =
    let p = and_parts (not (list_any (bytes_eq x) seen)) (are_new (seen ++ x ∷ []) xs) h in
    rw (false_from _ p.0) (kept (seen ++ x ∷ []) xs p.1 ∙ append_assoc seen (x ∷ []) xs)

pub all_kept : (xs : List (List ℕ)) → are_new [] xs ≡ true → fold with_name [] xs ≡ xs
all_kept xs h = kept [] xs h

pub fold-next : (names : List (List ℕ)) (bs : List (Bor (List ℕ))) (i : ℕ) (d : Bor (List ℕ)) → i < length bs → fold with_name names (map (λ n. n.now) (take (i + 1) bs)) ≡ with_name (fold with_name names (map (λ n. n.now) (take i bs))) (get_or bs i d).now
fold-next names [] i d h = absurd (omega arith)
fold-next names (b ∷ bs) zero d h = refl
fold-next names (b ∷ bs) (suc i) d h =
    let less : i < length bs = omega arith in
    let one : suc i + 1 ≡ suc (i + 1) = omega arith in
    rw one (fold-next (with_name names b.now) bs i d less)

pub started : (a : Arena) (names : List (List ℕ)) (nodes : List Node) (xs : List (List ℕ)) → a ≡ record { names = with_names names xs; nodes = nodes } → names ≡ [] → nodes ≡ [] → are_new [] xs ≡ true → a ≡ record { names = xs; nodes = [] }
unfolding with_names
started a names nodes xs e f g h = rw (e, f, g, all_kept xs h) refl

-- each of the texts was wanted
pub with_names-whole : (names : List (List ℕ)) (bs : List (Bor (List ℕ))) (i : ℕ) → i ≡ length bs → fold with_name names (map (λ n. n.now) (take i bs)) ≡ with_names names (map (λ n. n.now) bs)
unfolding with_names
with_names-whole names bs i e = rw (e, take-length bs) refl
