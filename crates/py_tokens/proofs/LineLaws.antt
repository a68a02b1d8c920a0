-- Lines of pieces.
use Rattle.std.proofs.Common.{◌≡◌, ℕ, Bool, true, false, List, [], ◌∷◌, ◌++◌, length, drop, filter_map, ◌≤◌, ap, ◌∙◌, append_assoc, Option, Some, cond, find, IfSome, refl, sym}
use Rattle.std.proofs.lemmas.List.Elements.{All-head, All-tail}
use Rattle.std.proofs.lemmas.List.{append-nil, drop_all}
use Rattle.std.proofs.lemmas.Bool.{cond-true, cond-false}
use Rattle.std.specs.List.{All}
use Rattle.py_tokens.specs.Lines.{Group, with_all, groups, is_line_end, mark, line_of, placed}
use Rattle.py_tokens.specs.BlockStack.{told, mark_in}
use Rattle.py_tokens.proofs.BlockLaws.{mark_same}
use Rattle.py_tokens.specs.declared.kinds.Piece.{Piece}
use Rattle.py_tokens.specs.declared.lines.LogicalLine.{LogicalLine}
use Rattle.py_tokens.specs.declared.lines.Placed.{Placed}

found_in : {X : Type 0} (P : X → Type 0) (b : Bool) (x : X) (o : Option X) → P x → IfSome o P → IfSome (cond b (Some x) o) P
found_in P true x o p q = p
found_in P false x o p q = q

pub found_within : {X : Type 0} (P : X → Type 0) (test : X → Bool) (xs : List X) → All P xs → IfSome (find test xs) P
found_within P test [] all = tt
found_within P test (x ∷ xs) all = found_in P (test x) x (find test xs) (All-head P x xs all) (found_within P test xs (All-tail P x xs all))

-- ---- groups

-- a group that begins there has no pieces before it
with_none_all : (start : ℕ) (xs : List Placed) (gs : List Group) → with_all start [] (with_all start xs gs) ≡ with_all start xs gs
with_none_all start xs [] = refl
with_none_all start xs (g ∷ gs) = refl

with_none_piece : (ends : Bool) (start : ℕ) (x : Placed) (gs : List Group) → with_all start [] (cond ends (record { start = start; pieces = [] } ∷ gs) (with_all start (x ∷ []) gs)) ≡ cond ends (record { start = start; pieces = [] } ∷ gs) (with_all start (x ∷ []) gs)
with_none_piece true start x gs = refl
with_none_piece false start x gs = with_none_all start (x ∷ []) gs

with_none : (start : ℕ) (xs : List Placed) → with_all start [] (groups start xs) ≡ groups start xs
with_none start [] = refl
with_none start (x ∷ xs) = with_none_piece (is_line_end x.kind) start x (groups x.to xs)

pub ends_group : (start at : ℕ) (line : List Placed) (x : Placed) (xs : List Placed) → is_line_end x.kind ≡ true → with_all start line (groups at (x ∷ xs)) ≡ record { start = start; pieces = line } ∷ with_all x.to [] (groups x.to xs)
ends_group start at line x xs e =
    ap (with_all start line) (cond-true _ _ _ e)
    ∙ ap (λ (ps : List Placed). record { start = start; pieces = ps } ∷ groups x.to xs) (append-nil line)
    ∙ ap (λ (gs : List Group). record { start = start; pieces = line } ∷ gs) (sym (with_none x.to xs))

joined : (start at : ℕ) (line : List Placed) (x : Placed) (gs : List Group) → with_all start line (with_all at (x ∷ []) gs) ≡ with_all start (line ++ (x ∷ [])) gs
joined start at line x [] = refl
joined start at line x (g ∷ gs) = ap (λ (ps : List Placed). record { start = start; pieces = ps } ∷ gs) (sym (append_assoc line (x ∷ []) g.pieces))

pub joins_group : (start at : ℕ) (line : List Placed) (x : Placed) (xs : List Placed) → is_line_end x.kind ≡ false → with_all start line (groups at (x ∷ xs)) ≡ with_all start (line ++ (x ∷ [])) (groups x.to xs)
joins_group start at line x xs e = ap (with_all start line) (cond-false _ _ _ e) ∙ joined start at line x (groups x.to xs)

-- ---- the lines of the pieces so far, before the first and behind the last

pub told_none : (text : List ℕ) (done : List LogicalLine) (blocks : List ℕ) (start : ℕ) (line xs : List Placed) → done ≡ [] → blocks ≡ [] → line ≡ [] → told text done blocks start line start xs ≡ mark [] (filter_map (line_of text) (groups start xs))
told_none text done blocks start line xs d b l =
    ap (λ (x : List LogicalLine). told text x blocks start line start xs) d
    ∙ ap (λ (x : List ℕ). told text [] x start line start xs) b
    ∙ ap (λ (x : List Placed). told text [] [] start x start xs) l
    ∙ ap (λ (gs : List Group). mark_in [] (filter_map (line_of text) gs)) (with_none start xs)
    ∙ mark_same (filter_map (line_of text) (groups start xs))

pub told_all : (text : List ℕ) (done new all : List LogicalLine) (blocks after : List ℕ) (start at : ℕ) (line : List Placed) (pieces : List Piece) (i : ℕ) → length pieces ≤ i → told text done blocks start line at (placed at (drop i pieces)) ≡ all → new ++ mark_in after [] ≡ done ++ mark_in blocks (filter_map (line_of text) (record { start = start; pieces = line } ∷ [])) → new ≡ all
told_all text done new all blocks after start at line pieces i h e m =
    sym (append-nil new) ∙ m
    ∙ ap (λ (ps : List Placed). done ++ mark_in blocks (filter_map (line_of text) (record { start = start; pieces = ps } ∷ []))) (sym (append-nil line))
    ∙ ap (λ (ps : List Piece). told text done blocks start line at (placed at ps)) (sym (drop_all i pieces h))
    ∙ e
