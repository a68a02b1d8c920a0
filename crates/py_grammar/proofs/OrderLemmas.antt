-- Entries in order, read from left to right.
use Rattle.std.proofs.Common.{◌≡◌, ℕ, max, Bool, true, false, not, ◌&&◌, ◌||◌, ◌-◌, nat_lt, List, [], ◌∷◌, length, take, map, refl, sym, ◌∙◌, arith}
use Rattle.std.proofs.lemmas.List.{take-map, length-map}
use Rattle.std.specs.List.{list_all}
use Rattle.std.proofs.lemmas.Bool.{ltb-true, ltb-false, lt-ltb, le-ltb}
use Rattle.std.proofs.lemmas.List.Folds.{list_all-map}
use Rattle.py_base.specs.declared.node.NodeKind.{NodeKind}
use Rattle.py_base.specs.declared.node.NodeKind.TheVariants as kinds
use Rattle.py_grammar.specs.declared.found.Found.{Found}
use Rattle.py_grammar.specs.declared.order.Order.{Order}
use Rattle.py_grammar.specs.declared.order.Order.TheVariants as orders
use Rattle.py_grammar.specs.Proper.{are_ordered, grade_for, bar_for, parameters_fit, without_last, entries_fit, is_neutral, is_dict_entry}

-- the entries are in order behind others of which the highest has this grade
abbrev pub scan : (NodeKind → ℕ) → (NodeKind → ℕ) → ℕ → List NodeKind → Bool
scan grade bar m [] = true
scan grade bar m (k ∷ ks) = nat_lt m (bar k) && scan grade bar (max (grade k) m) ks

max_less : (m n b : ℕ) → nat_lt (max m n) b ≡ (nat_lt m b && nat_lt n b)
max_less m n b = go (nat_lt m b) (nat_lt n b) refl refl
  where
    go : (x y : Bool) → nat_lt m b ≡ x → nat_lt n b ≡ y → nat_lt (max m n) b ≡ (x && y)
    go true true e f = let p = ltb-true m b e in let q = ltb-true n b f in lt-ltb (max m n) b (omega arith)
    go true false e f = let q = ltb-false n b f in le-ltb (max m n) b (omega arith)
    go false y e f = let p = ltb-false m b e in le-ltb (max m n) b (omega arith)

swap : (a b c d : Bool) → ((a && b) && (c && d)) ≡ ((a && c) && (b && d))
swap true true c d = refl
swap true false true d = refl
swap true false false d = refl
swap false b c d = refl

all_max : (bar : NodeKind → ℕ) (m n : ℕ) (ks : List NodeKind) → list_all (λ l. nat_lt (max m n) (bar l)) ks ≡ (list_all (λ l. nat_lt m (bar l)) ks && list_all (λ l. nat_lt n (bar l)) ks)
all_max bar m n [] = refl
all_max bar m n (k ∷ ks) = rw (max_less m n (bar k), all_max bar m n ks) (swap (nat_lt m (bar k)) (nat_lt n (bar k)) (list_all (λ l. nat_lt m (bar l)) ks) (list_all (λ l. nat_lt n (bar l)) ks))

shuffle : (a b c d : Bool) → (a && ((b && c) && d)) ≡ ((a && c) && (b && d))
shuffle true true true d = refl
shuffle true true false d = refl
shuffle true false true d = refl
shuffle true false false d = refl
shuffle false b c d = refl

pub scan_all : (grade bar : NodeKind → ℕ) (m : ℕ) (ks : List NodeKind) → scan grade bar m ks ≡ (list_all (λ l. nat_lt m (bar l)) ks && are_ordered grade bar ks)
scan_all grade bar m [] = refl
scan_all grade bar m (k ∷ ks) =
    rw (scan_all grade bar (max (grade k) m) ks, all_max bar (grade k) m ks) (shuffle (nat_lt m (bar k)) (list_all (λ l. nat_lt (grade k) (bar l)) ks) (list_all (λ l. nat_lt m (bar l)) ks) (are_ordered grade bar ks))

bar_positive : (o : Order) (k : NodeKind) → nat_lt 0 (bar_for o k) ≡ true
bar_positive orders.Arguments kinds.Fault = refl
bar_positive orders.Arguments _ = refl
bar_positive orders.Parameters kinds.Fault = refl
bar_positive orders.Parameters _ = refl
bar_positive orders.SequencePatterns kinds.Fault = refl
bar_positive orders.SequencePatterns _ = refl
bar_positive orders.ClassPatterns kinds.Fault = refl
bar_positive orders.ClassPatterns _ = refl

all_positive : (o : Order) (ks : List NodeKind) → list_all (λ l. nat_lt 0 (bar_for o l)) ks ≡ true
all_positive o [] = refl
all_positive o (k ∷ ks) = rw (bar_positive o k) (all_positive o ks)

pub scan_whole : (o : Order) (ks : List NodeKind) → scan (grade_for o) (bar_for o) 0 ks ≡ are_ordered (grade_for o) (bar_for o) ks
scan_whole o ks = scan_all (grade_for o) (bar_for o) 0 ks ∙ rw (all_positive o ks) refl

pub entries-dict : (x : Found) (xs all : List Found) → all ≡ x ∷ xs → is_dict_entry x.kind ≡ true → list_all (λ y. is_neutral y.kind || is_dict_entry y.kind) xs ≡ entries_fit (map (λ y. y.kind) all)
entries-dict x xs all first e = rw (first, e) (sym (list_all-map (λ l. is_neutral l || is_dict_entry l) (λ (y : Found). y.kind) xs))

pub entries-set : (x : Found) (xs all : List Found) → all ≡ x ∷ xs → is_dict_entry x.kind ≡ false → list_all (λ y. is_neutral y.kind || not (is_dict_entry y.kind)) xs ≡ entries_fit (map (λ y. y.kind) all)
entries-set x xs all first e = rw (first, e) (sym (list_all-map (λ l. is_neutral l || not (is_dict_entry l)) (λ (y : Found). y.kind) xs))

pub lambda-empty : (xs : List Found) → length xs ≡ 0 → true ≡ parameters_fit (without_last (map (λ x. x.kind) xs))
lambda-empty [] e = refl
lambda-empty (x ∷ xs) e = absurd (omega arith)

pub lambda-some : (xs : List Found) → parameters_fit (map (λ x. x.kind) (take (length xs - 1) xs)) ≡ parameters_fit (without_last (map (λ x. x.kind) xs))
lambda-some xs = rw (length-map xs (λ (x : Found). x.kind), take-map (λ (x : Found). x.kind) (length xs - 1) xs) refl
