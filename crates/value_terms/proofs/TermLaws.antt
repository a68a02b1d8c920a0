-- The laws of terms, by induction over terms.
use Rattle.std.proofs.Common.{◌≡◌, List, [], ◌++◌, inl, inr, refl, ap, subst, ◌∙◌}
use Rattle.std.specs.List.{Contains, flat_map}
use Rattle.std.proofs.lemmas.List.Elements.{Contains-append_left, Contains-append_right}
use Rattle.value_terms.specs.Term.{Term, fixed, read, join, given, each, Assignment, eval, reads, where_some}
use Rattle.value_terms.specs.Laws.{IsInside, Below, AgreeAt, IsWithin, IsWell}
use Rattle.value_terms.specs.System.{Lawful, system_of}
use Rattle.value_terms.proofs.ListLemmas.{none_in, first_in, in_cases, flat_in, flat_all, flat_mono, flat_same, some_in, some_all, some_same, append_mono, append_all}

module _ {K A : Type 0} where
  pub eval_mono : (x : Term K A) (s t : Assignment K A) → Below s t → IsInside (eval x s) (eval x t)
  eval_mono (fixed type) s t h = λ a i. i
  eval_mono (read key) s t h = h key
  eval_mono (join x y) s t h = append_mono (eval x s) (eval y s) (eval x t) (eval y t) (eval_mono x s t h) (eval_mono y s t h)
  eval_mono (given x y) s t h = λ b. some_all (λ c. Contains (where_some (eval x t) (eval y t)) c) (eval x s) (eval y s) (λ a c i k. some_in (eval x t) (eval y t) a c (eval_mono x s t h a i) (eval_mono y s t h c k)) b
  eval_mono (each x row) s t h = flat_mono (λ a. eval (row a) s) (λ a. eval (row a) t) (eval x s) (eval x t) (eval_mono x s t h) (λ a b. eval_mono (row a) s t h b)

  pub reads_mono : (x : Term K A) (s t : Assignment K A) → Below s t → IsInside (reads x s) (reads x t)
  reads_mono (fixed type) s t h = λ a i. i
  reads_mono (read key) s t h = λ a i. i
  reads_mono (join x y) s t h = append_mono (reads x s) (reads y s) (reads x t) (reads y t) (reads_mono x s t h) (reads_mono y s t h)
  reads_mono (given x y) s t h =
      append_mono (reads x s) (where_some (eval x s) (reads y s)) (reads x t) (where_some (eval x t) (reads y t)) (reads_mono x s t h)
      (λ b. some_all (λ c. Contains (where_some (eval x t) (reads y t)) c) (eval x s) (reads y s) (λ a c i k. some_in (eval x t) (reads y t) a c (eval_mono x s t h a i) (reads_mono y s t h c k)) b)
  reads_mono (each x row) s t h =
      append_mono (reads x s) (flat_map (λ a. reads (row a) s) (eval x s)) (reads x t) (flat_map (λ a. reads (row a) t) (eval x t)) (reads_mono x s t h)
      (flat_mono (λ a. reads (row a) s) (λ a. reads (row a) t) (eval x s) (eval x t) (eval_mono x s t h) (λ a b. reads_mono (row a) s t h b))

  left_at : (xs ys : List K) (s t : Assignment K A) → AgreeAt (xs ++ ys) s t → AgreeAt xs s t
  left_at xs ys s t h k i = h k (Contains-append_left xs ys k i)

  right_at : (xs ys : List K) (s t : Assignment K A) → AgreeAt (xs ++ ys) s t → AgreeAt ys s t
  right_at xs ys s t h k i = h k (Contains-append_right xs ys k i)

  some_at : (xs : List A) (ys : List K) (s t : Assignment K A) → AgreeAt (where_some xs ys) s t → (a : A) → Contains xs a → AgreeAt ys s t
  some_at xs ys s t h a i k j = h k (some_in xs ys a k i j)

  row_at : (f : A → List K) (xs : List A) (s t : Assignment K A) → AgreeAt (flat_map f xs) s t → (a : A) → Contains xs a → AgreeAt (f a) s t
  row_at f xs s t h a i k j = h k (flat_in f xs a k i j)

  pub eval_local : (x : Term K A) (s t : Assignment K A) → AgreeAt (reads x s) s t → eval x s ≡ eval x t
  eval_local (fixed type) s t h = refl
  eval_local (read key) s t h = h key (first_in key [])
  eval_local (join x y) s t h =
      ap (λ xs. xs ++ eval y s) (eval_local x s t (left_at (reads x s) (reads y s) s t h))
      ∙ ap (λ ys. eval x t ++ ys) (eval_local y s t (right_at (reads x s) (reads y s) s t h))
  eval_local (given x y) s t h =
      let more = where_some (eval x s) (reads y s) in
      let first = eval_local x s t (left_at (reads x s) more s t h) in
      let second = some_same (eval x s) (eval y s) (eval y t) (λ a i. eval_local y s t (some_at (eval x s) (reads y s) s t (right_at (reads x s) more s t h) a i)) in
      second ∙ ap (λ xs. where_some xs (eval y t)) first
  eval_local (each x row) s t h =
      let more = flat_map (λ a. reads (row a) s) (eval x s) in
      let first = eval_local x s t (left_at (reads x s) more s t h) in
      let second = flat_same (λ a. eval (row a) s) (λ a. eval (row a) t) (eval x s) (λ a i. eval_local (row a) s t (row_at (λ b. reads (row b) s) (eval x s) s t (right_at (reads x s) more s t h) a i)) in
      second ∙ ap (flat_map (λ a. eval (row a) t)) first

  pub reads_local : (x : Term K A) (s t : Assignment K A) → AgreeAt (reads x s) s t → reads x s ≡ reads x t
  reads_local (fixed type) s t h = refl
  reads_local (read key) s t h = refl
  reads_local (join x y) s t h =
      ap (λ xs. xs ++ reads y s) (reads_local x s t (left_at (reads x s) (reads y s) s t h))
      ∙ ap (λ ys. reads x t ++ ys) (reads_local y s t (right_at (reads x s) (reads y s) s t h))
  reads_local (given x y) s t h =
      let more = where_some (eval x s) (reads y s) in
      let at = left_at (reads x s) more s t h in
      let second = some_same (eval x s) (reads y s) (reads y t) (λ a i. reads_local y s t (some_at (eval x s) (reads y s) s t (right_at (reads x s) more s t h) a i)) in
      ap (λ xs. xs ++ more) (reads_local x s t at) ∙ ap (λ ys. reads x t ++ ys) (second ∙ ap (λ xs. where_some xs (reads y t)) (eval_local x s t at))
  reads_local (each x row) s t h =
      let more = flat_map (λ a. reads (row a) s) (eval x s) in
      let at = left_at (reads x s) more s t h in
      let second = flat_same (λ a. reads (row a) s) (λ a. reads (row a) t) (eval x s) (λ a i. reads_local (row a) s t (row_at (λ b. reads (row b) s) (eval x s) s t (right_at (reads x s) more s t h) a i)) in
      ap (λ xs. xs ++ more) (reads_local x s t at) ∙ ap (λ ys. reads x t ++ ys) (second ∙ ap (flat_map (λ a. reads (row a) t)) (eval_local x s t at))

  pub eval_within : (Keys : K → Type 0) (Universe : A → Type 0) (x : Term K A) (s : Assignment K A) → IsWell Keys Universe x → IsWithin Keys Universe s → (a : A) → Contains (eval x s) a → Universe a
  eval_within Keys Universe (fixed type) s well h = well
  eval_within Keys Universe (read key) s well h = h key well
  eval_within Keys Universe (join x y) s well h = append_all Universe (eval x s) (eval y s) (eval_within Keys Universe x s well.0 h) (eval_within Keys Universe y s well.1 h)
  eval_within Keys Universe (given x y) s well h = some_all Universe (eval x s) (eval y s) (λ a b i k. eval_within Keys Universe y s well.1 h b k)
  eval_within Keys Universe (each x row) s well h = flat_all Universe (λ a. eval (row a) s) (eval x s) (λ a b i k. eval_within Keys Universe (row a) s (well.1 a (eval_within Keys Universe x s well.0 h a i)) h b k)

  pub reads_within : (Keys : K → Type 0) (Universe : A → Type 0) (x : Term K A) (s : Assignment K A) → IsWell Keys Universe x → IsWithin Keys Universe s → (k : K) → Contains (reads x s) k → Keys k
  reads_within Keys Universe (fixed type) s well h = λ k i. absurd (none_in k i)
  reads_within Keys Universe (read key) s well h = λ k i. elim (in_cases key [] k i) [ inl same ↦ subst Keys same well | inr none ↦ absurd (none_in k none) ]
  reads_within Keys Universe (join x y) s well h = append_all Keys (reads x s) (reads y s) (reads_within Keys Universe x s well.0 h) (reads_within Keys Universe y s well.1 h)
  reads_within Keys Universe (given x y) s well h =
      append_all Keys (reads x s) (where_some (eval x s) (reads y s)) (reads_within Keys Universe x s well.0 h)
      (some_all Keys (eval x s) (reads y s) (λ a b i k. reads_within Keys Universe y s well.1 h b k))
  reads_within Keys Universe (each x row) s well h =
      append_all Keys (reads x s) (flat_map (λ a. reads (row a) s) (eval x s)) (reads_within Keys Universe x s well.0 h)
      (flat_all Keys (λ a. reads (row a) s) (eval x s) (λ a b i k. reads_within Keys Universe (row a) s (well.1 a (eval_within Keys Universe x s well.0 h a i)) h b k))

  -- the rules of terms keep the laws, if the form in which a type is kept has just its members
  pub terms_are_lawful : (keys : List K) (universe : List A) (type : List A → List A) (rule : K → Term K A)
      → ((xs : List A) → IsInside xs (type xs)) → ((xs : List A) → IsInside (type xs) xs)
      → ((k : K) → Contains keys k → IsWell (Contains keys) (Contains universe) (rule k))
      → Lawful (system_of keys universe type rule)
  terms_are_lawful keys universe type rule more fewer well = record {
    monotone = λ s t h k a i. more (eval (rule k) t) a (eval_mono (rule k) s t h a (fewer (eval (rule k) s) a i));
    reads_grow = λ s t h k. reads_mono (rule k) s t h;
    next_local = λ s t k h. ap type (eval_local (rule k) s t h);
    reads_local = λ s t k h. reads_local (rule k) s t h;
    reads_within = λ s h k r i. reads_within (Contains keys) (Contains universe) (rule k) s (well k i) h r;
    within = λ s h k c a i. eval_within (Contains keys) (Contains universe) (rule k) s (well k c) h a (fewer (eval (rule k) s) a i);
  }
