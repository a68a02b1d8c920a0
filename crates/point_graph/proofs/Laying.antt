-- One more list behind the others.
use Rattle.std.proofs.Common.{◌≡◌, ℕ, ◌<◌, ◌≤◌, ◌+◌, ◌-◌, List, [], ◌∷◌, ◌++◌, suc, refl, ap, sym, ◌∙◌, subst, inl, inr, arith, length, length-append, Some, slice_get, get_or, map, take, drop}
use Rattle.std.proofs.lemmas.List.{take_more, take-append-le, drop-append-le, length-drop, length-map, map-append}
use Rattle.std.proofs.Math.Seq.{drop-append_seam, take-length}
use Rattle.smallvec.specs.SmallVec.{SmallVec}
use Rattle.point_graph.specs.declared.incoming.Way.{Way}
use Rattle.point_graph.specs.declared.runs.Run.{Run}
use Rattle.point_graph.specs.Numbers.{lists}
use Rattle.point_graph.specs.Runs.{part, parts, AreRuns}
use Rattle.point_graph.proofs.Keys.{push_cases}

part_stays : {A : Type 0} (xs ys : List A) (r : Run) → r.from ≤ r.to → r.to ≤ length xs → part (xs ++ ys) r ≡ part xs r
part_stays xs ys r le within =
    ap (take (r.to - r.from)) (drop-append-le r.from xs ys (omega (arith, le, within)))
    ∙ take-append-le (r.to - r.from) (drop r.from xs) ys (rw (length-drop r.from xs) (omega (arith, le, within)))

parts_stay : {A : Type 0} (xs ys : List A) (runs : List Run) → AreRuns (length xs) runs → parts (xs ++ ys) runs ≡ parts xs runs
parts_stay xs ys [] within = refl
parts_stay {A} xs ys (r ∷ runs) within =
    let here = within 0 r refl in
    ap (λ (l : List A). l ∷ parts (xs ++ ys) runs) (part_stays xs ys r here.0 here.1)
    ∙ ap (λ (ls : List (List A)). part xs r ∷ ls) (parts_stay xs ys runs (λ j q h. within (suc j) q h))

part_last : {A : Type 0} (xs ys : List A) → part (xs ++ ys) (record { from = length xs; to = length (xs ++ ys) }) ≡ ys
part_last xs ys =
    let n : length (xs ++ ys) - length xs ≡ length ys = rw (length-append xs ys) (omega arith) in
    ap (take (length (xs ++ ys) - length xs)) (drop-append_seam xs ys)
    ∙ ap (λ (k : ℕ). take k ys) n ∙ take-length ys

pub parts_more : {A : Type 0} (f : Way → A) (ways : List (SmallVec Way)) (i : ℕ) (v : SmallVec Way) (xs new : List A) (runs new_runs : List Run) (from to : ℕ)
    → i < length ways → v ≡ get_or ways i v → AreRuns (length xs) runs
    → new ≡ xs ++ map f v.items → from ≡ length xs → to ≡ length new → new_runs ≡ runs ++ record { from = from; to = to } ∷ []
    → parts xs runs ≡ map (λ (ws : List Way). map f ws) (lists (take i ways))
    → parts new new_runs ≡ map (λ (ws : List Way). map f ws) (lists (take (i + 1) ways))
parts_more {A} f ways i v xs new runs new_runs from to lt at within is here there pushed so_far =
    let row : List A = map f v.items in
    let r : Run = record { from = length xs; to = length (xs ++ row) } in
    let last : record { from = from; to = to } ≡ r = ap (λ (k : ℕ). record { from = k; to = to }) here
    ∙ ap (λ (k : ℕ). record { from = length xs; to = k }) (there ∙ ap (λ (l : List A). length l) is) in
    let grown : take (i + 1) ways ≡ take i ways ++ v ∷ [] = take_more ways i v lt ∙ ap (λ (x : SmallVec Way). take i ways ++ x ∷ []) (sym at) in
    let left : parts new new_runs ≡ parts xs runs ++ row ∷ [] =
    ap (λ (l : List A). parts l new_runs) is
    ∙ ap (λ (l : List Run). parts (xs ++ row) l) (pushed ∙ ap (λ (q : Run). runs ++ q ∷ []) last)
    ∙ map-append (part (xs ++ row)) runs (r ∷ [])
    ∙ ap (λ (l : List (List A)). l ++ part (xs ++ row) r ∷ []) (parts_stay xs row runs within)
    ∙ ap (λ (l : List A). parts xs runs ++ l ∷ []) (part_last xs row) in
    let right : map (λ (ws : List Way). map f ws) (lists (take (i + 1) ways)) ≡ map (λ (ws : List Way). map f ws) (lists (take i ways)) ++ row ∷ [] =
    ap (λ (l : List (SmallVec Way)). map (λ (ws : List Way). map f ws) (lists l)) grown
    ∙ ap (λ (l : List (List Way)). map (λ (ws : List Way). map f ws) l) (map-append (λ (x : SmallVec Way). x.items) (take i ways) (v ∷ []))
    ∙ map-append (λ (ws : List Way). map f ws) (lists (take i ways)) (v.items ∷ []) in
    left ∙ ap (λ (l : List (List A)). l ++ row ∷ []) so_far ∙ sym right

pub runs_more : (runs new_runs : List Run) (old_count count from to : ℕ) → AreRuns old_count runs → old_count ≤ count → from ≤ to → to ≤ count
    → new_runs ≡ runs ++ record { from = from; to = to } ∷ [] → AreRuns count new_runs
runs_more runs new_runs old_count count from to within le a b is j r h =
    elim (push_cases runs (record { from = from; to = to }) r j (subst (λ (l : List Run). slice_get l j ≡ Some r) is h)) [
      | inl old ↦ let w = within j r old in (w.0, omega (arith, w.1, le))
      | inr new ↦ subst (λ (q : Run). (q.from ≤ q.to) × (q.to ≤ count)) new.1 (a, b)
    ]

pub longer : {A B : Type 0} (f : Way → A) (g : Way → B) (ws : List Way) (xs new_xs : List A) (ys new_ys : List B) → length xs ≡ length ys
    → new_xs ≡ xs ++ map f ws → new_ys ≡ ys ++ map g ws → length new_xs ≡ length new_ys
longer {A} {B} f g ws xs new_xs ys new_ys long one two =
    ap (λ (l : List A). length l) one ∙ length-append xs (map f ws)
    ∙ ap (λ (n : ℕ). n + length (map f ws)) long ∙ ap (λ (n : ℕ). length ys + n) (length-map ws f ∙ sym (length-map ws g))
    ∙ sym (ap (λ (l : List B). length l) two ∙ length-append ys (map g ws))

pub no_shorter : {A : Type 0} (xs ys new : List A) → new ≡ xs ++ ys → length xs ≤ length new
no_shorter {A} xs ys new is = let n : length new ≡ length xs + length ys = ap (λ (l : List A). length l) is ∙ length-append xs ys in omega (arith, n)
