-- What parts of the simplest shapes say.
use Rattle.std.proofs.Common.{◌≡◌, ℕ, Bool, true, false, ◌||◌, List, [], ◌∷◌, ◌++◌, map, Option, Some, None, refl, sym, ap, subst, ◌∙◌, arith, suc, zero-le, length, ◌≤◌}
use Rattle.std.specs.List.{flat_map, list_any}
use Rattle.std.proofs.lemmas.List.{append-nil, map-append}
use Rattle.py_base.specs.declared.key.Key.{Key}
use Rattle.py_base.specs.declared.key.Key.TheVariants as key
use Rattle.py_base.specs.declared.ids.FuncId.{FuncId}
use Rattle.py_base.specs.declared.ids.SiteId.{SiteId}
use Rattle.py_base.specs.declared.ids.SymId.{SymId}
use Rattle.type_terms.specs.declared.atom.Atom.{Atom, out-Atom}
use Rattle.type_terms.specs.declared.atom.Atom.TheVariants as atom
use Rattle.type_terms.specs.Types.{type_of}
use Rattle.value_terms.specs.Laws.{IsInside}
use Rattle.value_terms.specs.Asks.{asked, with_arguments}
use Rattle.value_terms.specs.Answering.{answered}
use Rattle.value_terms.specs.Term.{Term, Assignment, eval, reads, fixed, read, join, each, never, member}
use Rattle.value_terms.specs.Outcome.{Outcome, gives, nothing}
use Rattle.value_terms.specs.Told.{Told, Says, IsAlike, told, SaysSame, all_told, both_told, parts_told, part_told}
use Rattle.value_terms.specs.Ranks.{ReachAtMost}
use Rattle.value_terms.specs.Chain.{chain_rank, chain_rule, told_of_each}
use Rattle.value_terms.specs.declared.ask.Ask.TheVariants as ask
use Rattle.value_terms.specs.declared.part.Part.{Part}
use Rattle.value_terms.specs.declared.part.Part.TheVariants.{Members, Fault, Read, Each}
use Rattle.value_terms.proofs.ToldLemmas.{alike_itself, alike_is, alike_then}
use Rattle.value_terms.proofs.BindLemmas.{same_then, same_both, same_alone, same_turned, told_and_then, each_left, each_right, each_each, read_on, same_appended}
use Rattle.op_rules.specs.World.{World, Rule, Value, or_else, first_of, ruled, refused, none_refused, with_faults, or_fault, level_fault}
use Rattle.op_rules.specs.Bindings.{bound_on_instance, bound_on_class, through_instance, through_class}
use Rattle.op_rules.specs.Members.{through_all, unhidden, with_behind}
use Rattle.op_rules.specs.Protocols.{by_symbol, called_once}
use Rattle.op_rules.specs.Steps.{step_rule, step_weight, IsCall, IsRule, IsValue, IsOwn, path_steps, path_value}
use Rattle.op_rules.specs.declared.step.Path.{Path}
use Rattle.op_rules.specs.declared.step.Path.TheVariants as path
use Rattle.op_rules.specs.declared.step.Step.{Step}
use Rattle.op_rules.specs.declared.step.Step.TheVariants as step

pub any_arguments : (w : World) (args : List (List Atom)) (parts : List (Part (List Step))) (rule : Rule) → IsRule w parts rule → IsCall w args parts rule
unfolding IsRule IsCall
any_arguments w args parts rule h = h.says args

pub is_members : (w : World) (type : List Atom) → IsRule w (Members type ∷ []) (gives (fixed type))
unfolding IsRule
is_members w type = record { says = λ args s. record { gives = alike_is (type ++ []) type (append-nil type); fails = refl; names = alike_itself [] }; reach = (zero-le, tt) }

-- a type with the members of a list
pub is_alike : (w : World) (type xs : List Atom) → IsAlike type xs → IsRule w (Members type ∷ []) (gives (fixed xs))
unfolding IsRule
is_alike w type xs h = record {
  says = λ args s. record { gives = alike_then (type ++ []) type xs (alike_is (type ++ []) type (append-nil type)) h; fails = refl; names = alike_itself [] };
  reach = (zero-le, tt);
}

pub is_never : (w : World) → IsRule w [] (gives never)
unfolding IsRule
is_never w = record { says = λ args s. record { gives = alike_itself []; fails = refl; names = alike_itself [] }; reach = tt }

pub is_refused : (w : World) → IsRule w (Members (atom.Unknown ∷ []) ∷ Fault ∷ []) refused
unfolding IsRule
is_refused w = record { says = λ args s. record { gives = alike_itself (atom.Unknown ∷ []); fails = refl; names = alike_itself [] }; reach = (zero-le, (zero-le, tt)) }

pub is_none_refused : (w : World) → IsRule w (Fault ∷ []) none_refused
unfolding IsRule
is_none_refused w = record { says = λ args s. record { gives = alike_itself []; fails = refl; names = alike_itself [] }; reach = (zero-le, tt) }

-- the type of a key, whatever the rows
key_says : (rule : List Step → Atom → Outcome Key Atom) (k : Key) → Says rule (Read k ∷ []) (gives (read k))
key_says rule k s = record { gives = alike_is (s k ++ []) (s k) (append-nil (s k)); fails = refl; names = alike_itself (k ∷ []) }

pub is_ret : (w : World) (func : FuncId) → IsRule w (Read (key.Ret func) ∷ []) (gives (read (ask.Ret func)))
unfolding IsRule
is_ret w func = record { says = λ args. key_says (chain_rule (step_rule w args)) (key.Ret func); reach = (zero-le, tt) }

pub is_sym : (w : World) (symbol : SymId) → IsRule w (Read (key.Sym symbol) ∷ []) (gives (read (ask.Sym symbol)))
unfolding IsRule
is_sym w symbol = record { says = λ args. key_says (chain_rule (step_rule w args)) (key.Sym symbol); reach = (zero-le, tt) }

pub is_elem : (w : World) (site : SiteId) (place : ℕ) → IsRule w (Read (key.Elem site place) ∷ []) (gives (read (ask.Elem site place)))
unfolding IsRule
is_elem w site place = record { says = λ args. key_says (chain_rule (step_rule w args)) (key.Elem site place); reach = (zero-le, tt) }

flat_itself : (xs : List Atom) → flat_map (λ a. a ∷ []) xs ≡ xs
flat_itself [] = refl
flat_itself (x ∷ xs) = ap (λ ys. x ∷ ys) (flat_itself xs)

none_fails : (xs : List Atom) → list_any (λ a. false) xs ≡ false
none_fails [] = refl
none_fails (x ∷ xs) = none_fails xs

none_named : (xs : List Atom) → flat_map {X = Atom} {A = Key} (λ a. []) xs ≡ []
none_named [] = refl
none_named (x ∷ xs) = none_named xs

or_none : (a : Bool) → (a || false) ≡ a
or_none true = refl
or_none false = refl

same_names : (f : Atom → Term Key Atom) (s : Assignment Key Atom) (xs : List Atom) → flat_map (λ a. reads (f a) s ++ []) xs ≡ flat_map (λ a. reads (f a) s) xs
same_names f s [] = refl
same_names f s (y ∷ xs) = ap (λ ks. ks ++ flat_map (λ a. reads (f a) s ++ []) xs) (append-nil (reads (f y) s)) ∙ ap (λ ks. reads (f y) s ++ ks) (same_names f s xs)

-- a member of each, and nothing more
step_alone : (t : Told) (s : Assignment Key Atom) → SaysSame (told_of_each t (λ a. told (gives (member a)) s)) t
step_alone t s = record {
  gives = alike_is (flat_map (λ a. a ∷ []) t.gives) t.gives (flat_itself t.gives);
  fails = ap (λ b. t.fails || b) (none_fails t.gives) ∙ or_none t.fails;
  names = alike_is (t.names ++ flat_map (λ a. []) t.gives) t.names (ap (λ ks. t.names ++ ks) (none_named t.gives) ∙ append-nil t.names);
}

-- what a value gives for each member of another
pub each_value : (x : Term Key Atom) (f : Atom → Term Key Atom) (s : Assignment Key Atom) → SaysSame (told_of_each (told (gives x) s) (λ a. told (gives (f a)) s)) (told (gives (each x f)) s)
each_value x f s = record {
  gives = alike_itself (flat_map (λ a. eval (f a) s) (eval x s));
  fails = none_fails (eval x s);
  names = alike_is ((reads x s ++ []) ++ flat_map (λ a. reads (f a) s ++ []) (eval x s)) ((reads x s ++ flat_map (λ a. reads (f a) s) (eval x s)) ++ [])
      (ap (λ ks. ks ++ flat_map (λ a. reads (f a) s ++ []) (eval x s)) (append-nil (reads x s)) ∙ ap (λ ks. reads x s ++ ks) (same_names f s (eval x s)) ∙ sym (append-nil (reads x s ++ flat_map (λ a. reads (f a) s) (eval x s))));
}

-- a chain of one step
last_step : (rule : Step → Atom → Outcome Key Atom) (one : Step) (f : Atom → Term Key Atom) (s : Assignment Key Atom) (a : Atom) → rule one a ≡ gives (f a)
    → SaysSame (told (chain_rule rule (one ∷ []) a) s) (told (gives (f a)) s)
last_step rule one f s a is = subst (λ o. SaysSame (told (chain_rule rule (one ∷ []) a) s) (told o s)) is
    (same_then (told (chain_rule rule (one ∷ []) a) s) (told_of_each (told (rule one a) s) (λ b. told (gives (member b)) s)) (told (rule one a) s)
    (told_and_then (rule one a) (chain_rule rule []) s) (step_alone (told (rule one a) s) s))

read_is : (rule : List Step → Atom → Outcome Key Atom) (k : Key) (s : Assignment Key Atom) → SaysSame (part_told rule (Read k) s) (told (gives (read k)) s)
read_is rule k s = record { gives = alike_itself (s k); fails = refl; names = alike_itself (k ∷ []) }

-- a key whose members take one step
each_says : (rule : Step → Atom → Outcome Key Atom) (k : Key) (one : Step) (f : Atom → Term Key Atom) → ((a : Atom) → rule one a ≡ gives (f a))
    → Says (chain_rule rule) (Each k (one ∷ []) ∷ []) (gives (each (read k) f))
each_says rule k one f is s =
    let here = part_told (chain_rule rule) (Read k) s in
    let row = λ (a : Atom). told (chain_rule rule (one ∷ []) a) s in
    let direct = λ (a : Atom). told (gives (f a)) s in
    same_then (parts_told (chain_rule rule) (Each k (one ∷ []) ∷ []) s) (part_told (chain_rule rule) (Each k (one ∷ [])) s) (told (gives (each (read k) f)) s)
    (same_alone (part_told (chain_rule rule) (Each k (one ∷ [])) s))
    (same_then (part_told (chain_rule rule) (Each k (one ∷ [])) s) (told_of_each here row) (told (gives (each (read k) f)) s) (read_on rule s k (one ∷ []))
    (same_then (told_of_each here row) (told_of_each here direct) (told (gives (each (read k) f)) s) (each_right here row direct (λ a. last_step rule one f s a (is a)))
    (same_then (told_of_each here direct) (told_of_each (told (gives (read k)) s) direct) (told (gives (each (read k) f)) s)
    (each_left here (told (gives (read k)) s) direct (read_is (chain_rule rule) k s))
    (each_value (read k) f s))))

-- a key whose members take a step, and what that gives another
each_then_says : (rule : Step → Atom → Outcome Key Atom) (k : Key) (one two : Step) (f g : Atom → Term Key Atom) → ((a : Atom) → rule one a ≡ gives (f a)) → ((a : Atom) → rule two a ≡ gives (g a))
    → Says (chain_rule rule) (Each k (one ∷ two ∷ []) ∷ []) (gives (each (each (read k) f) g))
each_then_says rule k one two f g first second s =
    let here = part_told (chain_rule rule) (Read k) s in
    let row = λ (a : Atom). told (chain_rule rule (one ∷ two ∷ []) a) s in
    let last = λ (b : Atom). told (chain_rule rule (two ∷ []) b) s in
    let direct_one = λ (a : Atom). told (gives (f a)) s in
    let direct_two = λ (b : Atom). told (gives (g b)) s in
    let whole = told (gives (each (each (read k) f) g)) s in
    let row_is : (a : Atom) → SaysSame (row a) (told_of_each (direct_one a) direct_two) = λ a.
    subst (λ o. SaysSame (row a) (told_of_each (told o s) direct_two)) (first a)
    (same_then (row a) (told_of_each (told (rule one a) s) last) (told_of_each (told (rule one a) s) direct_two) (told_and_then (rule one a) (chain_rule rule (two ∷ [])) s)
    (each_right (told (rule one a) s) last direct_two (λ b. last_step rule two g s b (second b)))) in
    let near = told_of_each here direct_one in
    let inner : SaysSame near (told (gives (each (read k) f)) s) =
    same_then near (told_of_each (told (gives (read k)) s) direct_one) (told (gives (each (read k) f)) s) (each_left here (told (gives (read k)) s) direct_one (read_is (chain_rule rule) k s)) (each_value (read k) f s) in
    let outer : SaysSame (told_of_each near direct_two) whole =
    same_then (told_of_each near direct_two) (told_of_each (told (gives (each (read k) f)) s) direct_two) whole (each_left near (told (gives (each (read k) f)) s) direct_two inner) (each_value (each (read k) f) g s) in
    same_then (parts_told (chain_rule rule) (Each k (one ∷ two ∷ []) ∷ []) s) (part_told (chain_rule rule) (Each k (one ∷ two ∷ [])) s) whole (same_alone (part_told (chain_rule rule) (Each k (one ∷ two ∷ [])) s))
    (same_then (part_told (chain_rule rule) (Each k (one ∷ two ∷ [])) s) (told_of_each here row) whole (read_on rule s k (one ∷ two ∷ []))
    (same_then (told_of_each here row) (told_of_each here (λ a. told_of_each (direct_one a) direct_two)) whole (each_right here row (λ a. told_of_each (direct_one a) direct_two) row_is)
    (same_then (told_of_each here (λ a. told_of_each (direct_one a) direct_two)) (told_of_each near direct_two) whole
    (same_turned (told_of_each near direct_two) (told_of_each here (λ a. told_of_each (direct_one a) direct_two)) (each_each here direct_one direct_two))
    outer)))

-- a type has just the elements of its list
pub is_slot : ((xs : List Atom) → IsInside xs (type_of xs)) → ((xs : List Atom) → IsInside (type_of xs) xs) → (w : World) (xs : List Atom) → IsRule w (Members (type_of xs) ∷ []) (gives (fixed xs))
is_slot more fewer w xs = is_alike w (type_of xs) xs (fewer xs, more xs)

-- a symbol by a path
is_path : (w : World) (p : Path) (symbol : SymId) → IsRule w (Each (key.Sym symbol) (path_steps p) ∷ []) (gives (path_value w p symbol))
unfolding IsRule
is_path w path.OnInstance symbol = record {
  says = λ args. each_says (step_rule w args) (key.Sym symbol) step.OnInstance (λ a. answered (asked args) (bound_on_instance w a)) (λ a. refl);
  reach = (omega arith, tt);
}
is_path w path.OnClass symbol = record {
  says = λ args. each_says (step_rule w args) (key.Sym symbol) step.OnClass (λ a. answered (asked args) (bound_on_class w a)) (λ a. refl);
  reach = (omega arith, tt);
}
is_path w path.Called symbol = record {
  says = λ args. each_then_says (step_rule w args) (key.Sym symbol) step.OnInstance step.Called (λ a. answered (asked args) (bound_on_instance w a)) (λ a. answered (asked args) (called_once w a)) (λ a. refl) (λ a. refl);
  reach = (omega arith, tt);
}

-- parts of two terms one after another
pub join_says : (rule : List Step → Atom → Outcome Key Atom) (ps qs : List (Part (List Step))) (x y : Term Key Atom) → Says rule ps (gives x) → Says rule qs (gives y) → Says rule (ps ++ qs) (gives (join x y))
join_says rule ps qs x y h k s =
    let part = λ (p : Part (List Step)). part_told rule p s in
    let one = told (gives x) s in
    let other = told (gives y) s in
    let whole = told (gives (join x y)) s in
    let names : (reads x s ++ []) ++ (reads y s ++ []) ≡ (reads x s ++ reads y s) ++ [] =
    ap (λ ks. ks ++ (reads y s ++ [])) (append-nil (reads x s)) ∙ ap (λ ks. reads x s ++ ks) (append-nil (reads y s)) ∙ sym (append-nil (reads x s ++ reads y s)) in
    let both : SaysSame (both_told one other) whole =
    record { gives = alike_itself (eval x s ++ eval y s); fails = refl; names = alike_is ((reads x s ++ []) ++ (reads y s ++ [])) ((reads x s ++ reads y s) ++ []) names } in
    subst (λ ts. SaysSame (all_told ts) whole) (sym (map-append part ps qs))
    (same_then (all_told (map part ps ++ map part qs)) (both_told (all_told (map part ps)) (all_told (map part qs))) whole (same_appended (map part ps) (map part qs))
    (same_then (both_told (all_told (map part ps)) (all_told (map part qs))) (both_told one other) whole (same_both (all_told (map part ps)) (all_told (map part qs)) one other (h s) (k s)) both))

reach_both : {R : Type 0} (rank : R → ℕ) (most : ℕ) (ps qs : List (Part R)) → ReachAtMost rank most ps → ReachAtMost rank most qs → ReachAtMost rank most (ps ++ qs)
reach_both rank most [] qs h k = k
reach_both rank most (p ∷ ps) qs h k = (h.0, reach_both rank most ps qs h.1 k)

pub is_join : (w : World) (ps qs : List (Part (List Step))) (x y : Value) → IsRule w ps (gives x) → IsRule w qs (gives y) → IsRule w (ps ++ qs) (gives (join x y))
unfolding IsRule
is_join w ps qs x y h k = record {
  says = λ args. join_says (chain_rule (step_rule w args)) ps qs (answered (asked args) x) (answered (asked args) y) (h.says args) (k.says args);
  reach = reach_both (chain_rank step_weight) 3 ps qs h.reach k.reach;
}

pub is_all : (w : World) (p : Path) (symbols : List SymId) → IsRule w (map (λ symbol. Each (key.Sym symbol) (path_steps p)) symbols) (gives (through_all (path_value w p) symbols))
is_all w p [] = is_never w
is_all w p (symbol ∷ symbols) =
    is_join w (Each (key.Sym symbol) (path_steps p) ∷ []) (map (λ symbol. Each (key.Sym symbol) (path_steps p)) symbols) (path_value w p symbol) (through_all (path_value w p) symbols) (is_path w p symbol) (is_all w p symbols)

pub is_with : (w : World) (ps : List (Part (List Step))) (x : Value) (type : List Atom) → IsRule w ps (gives x) → IsRule w (ps ++ Members type ∷ []) (gives (join x (fixed type)))
is_with w ps x type h = is_join w ps (Members type ∷ []) x (fixed type) h (is_members w type)

pub flat_with : (rank : List Step → ℕ) (ps : List (Part (List Step))) (type : List Atom) → ReachAtMost rank 0 ps → ReachAtMost rank 0 (ps ++ Members type ∷ [])
flat_with rank [] type h = (omega arith, tt)
flat_with rank (p ∷ ps) type h = (h.0, flat_with rank ps type h.1)

-- what goes on by no chain reaches no deeper than anything
pub flat_reaches : {R : Type 0} (rank : R → ℕ) (most : ℕ) (parts : List (Part R)) → ReachAtMost rank 0 parts → ReachAtMost rank most parts
flat_reaches rank most [] h = tt
flat_reaches rank most (part ∷ parts) h = (let low = h.0 in omega (arith, low), flat_reaches rank most parts h.1)

-- the deepest is an iterator
pub rule_reaches : (w : World) (parts : List (Part (List Step))) (rule : Rule) → IsRule w parts rule → ReachAtMost (chain_rank step_weight) 3 parts
unfolding IsRule
rule_reaches w parts rule is = is.reach

pub says : (w : World) (args : List (List Atom)) (parts : List (Part (List Step))) (rule : Rule) → IsRule w parts rule → Says (chain_rule (step_rule w args)) parts (with_arguments args rule)
unfolding IsRule
says w args parts rule is = is.says args

-- parts that are there come first
pub own_first : (w : World) (ps : List (Part (List Step))) (own : Option Value) (rest : Rule) → IsOwn w (Some ps) own → IsRule w ps (or_else (ruled own) rest)
own_first w ps None rest h = absurd h
own_first w ps (Some x) rest h = h

pub own_none : (w : World) (ps : List (Part (List Step))) (own : Option Value) (rest : Rule) → IsOwn w None own → IsRule w ps rest → IsRule w ps (or_else (ruled own) rest)
own_none w ps None rest h k = k
own_none w ps (Some x) rest h k = absurd h

pub first_here : (w : World) (ps : List (Part (List Step))) (own rest : Option Value) → IsOwn w (Some ps) own → IsOwn w (Some ps) (first_of own rest)
first_here w ps None rest h = absurd h
first_here w ps (Some x) rest h = h

pub first_behind : (w : World) (qs : Option (List (Part (List Step)))) (own rest : Option Value) → IsOwn w None own → IsOwn w qs rest → IsOwn w qs (first_of own rest)
first_behind w qs None rest h k = k
first_behind w qs (Some x) rest h k = absurd h

-- a value is no fault, told or not
pub own_told : (w : World) (ps : List (Part (List Step))) (own : Option Value) (a : Atom) (told : Bool) → IsOwn w (Some ps) own → IsRule w ps (with_faults told (or_fault a own))
own_told w ps None a told h = absurd h
own_told w ps (Some x) a true h = h
own_told w ps (Some x) a false h = h

pub none_told : (w : World) (ps : List (Part (List Step))) (own : Option Value) (a : Atom) (told : Bool) → IsOwn w None own → IsRule w ps (with_faults told (level_fault (out-Atom a))) → IsRule w ps (with_faults told (or_fault a own))
none_told w ps None a told h k = k
none_told w ps (Some x) a told h k = absurd h

-- members that hide nothing, with what stands behind them
pub own_unhidden : (w : World) (through : SymId → Value) (symbols : List SymId) (behind other : Option Value) (all : List (Part (List Step))) → 1 ≤ length symbols
    → IsRule w all (gives (with_behind (through_all through symbols) behind)) → IsOwn w (Some all) (unhidden through symbols behind other)
own_unhidden w through [] behind other all some h = absurd (omega (arith, some))
own_unhidden w through (symbol ∷ symbols) behind other all some h = h
