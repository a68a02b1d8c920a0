-- What a term gives and names where its keys are answered by terms.
use Rattle.std.proofs.Common.{◌≡◌, List, [], ◌∷◌, refl, sym, append-nil}
use Rattle.std.specs.List.{flat_map}
use Rattle.std.proofs.Math.Path.{fun_ext}
use Rattle.std.proofs.lemmas.Grind.{flat_map-append}
use Rattle.value_terms.specs.Term.{Term, Assignment, fixed, read, join, given, each, eval, reads, where_some}
use Rattle.value_terms.specs.Laws.{IsWell}
use Rattle.value_terms.specs.Answering.{answered, GivesByAnswers, NamesByAnswers}

module _ {K L A : Type 0} where
  pub gives_by_answers : GivesByAnswers K L A
  gives_by_answers f (fixed type) s = refl
  gives_by_answers f (read k) s = refl
  gives_by_answers f (join x y) s = rw (gives_by_answers f x s, gives_by_answers f y s) refl
  gives_by_answers f (given x y) s = rw (gives_by_answers f x s, gives_by_answers f y s) refl
  gives_by_answers f (each x row) s =
      let rows : (λ a. eval (answered f (row a)) s) ≡ (λ a. eval (row a) (λ k. eval (f k) s)) = fun_ext (λ a. gives_by_answers f (row a) s) in
      rw (gives_by_answers f x s, rows) refl

  flat_where : (names : K → List L) (there : List A) (keys : List K) → where_some there (flat_map names keys) ≡ flat_map names (where_some there keys)
  flat_where names [] keys = refl
  flat_where names (a ∷ there) keys = refl

  flat_flat : (names : K → List L) (rows : A → List K) (members : List A)
      → flat_map (λ a. flat_map names (rows a)) members ≡ flat_map names (flat_map rows members)
  flat_flat names rows [] = refl
  flat_flat names rows (a ∷ members) = rw (flat_flat names rows members) (sym (flat_map-append names (rows a) (flat_map rows members)))

  pub names_by_answers : NamesByAnswers K L A
  names_by_answers f (fixed type) s = refl
  names_by_answers f (read k) s = sym (append-nil (reads (f k) s))
  names_by_answers f (join x y) s =
      rw (names_by_answers f x s, names_by_answers f y s)
      (sym (flat_map-append (λ k. reads (f k) s) (reads x (λ k. eval (f k) s)) (reads y (λ k. eval (f k) s))))
  names_by_answers f (given x y) s =
      let t : Assignment K A = λ k. eval (f k) s in
      rw (names_by_answers f x s, names_by_answers f y s, gives_by_answers f x s, flat_where (λ k. reads (f k) s) (eval x t) (reads y t))
      (sym (flat_map-append (λ k. reads (f k) s) (reads x t) (where_some (eval x t) (reads y t))))
  names_by_answers f (each x row) s =
      let t : Assignment K A = λ k. eval (f k) s in
      let rows : (λ a. reads (answered f (row a)) s) ≡ (λ a. flat_map (λ k. reads (f k) s) (reads (row a) t)) = fun_ext (λ a. names_by_answers f (row a) s) in
      rw (names_by_answers f x s, rows, gives_by_answers f x s, flat_flat (λ k. reads (f k) s) (λ a. reads (row a) t) (eval x t))
      (sym (flat_map-append (λ k. reads (f k) s) (reads x t) (flat_map (λ a. reads (row a) t) (eval x t))))

  -- a term that is well over keys whose answers are well is well
  pub well_by_answers : (Keys : K → Type 0) (Named : L → Type 0) (Universe : A → Type 0) (f : K → Term L A) → ((k : K) → Keys k → IsWell Named Universe (f k))
      → (x : Term K A) → IsWell Keys Universe x → IsWell Named Universe (answered f x)
  well_by_answers Keys Named Universe f h (fixed type) w = w
  well_by_answers Keys Named Universe f h (read k) w = h k w
  well_by_answers Keys Named Universe f h (join x y) w = (well_by_answers Keys Named Universe f h x w.0, well_by_answers Keys Named Universe f h y w.1)
  well_by_answers Keys Named Universe f h (given x y) w = (well_by_answers Keys Named Universe f h x w.0, well_by_answers Keys Named Universe f h y w.1)
  well_by_answers Keys Named Universe f h (each x row) w =
      (well_by_answers Keys Named Universe f h x w.0, λ a u. well_by_answers Keys Named Universe f h (row a) (w.1 a u))
