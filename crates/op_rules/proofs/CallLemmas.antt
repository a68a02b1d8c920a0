-- What parts say that go on by steps, and where the arguments of a call have types.
use Rattle.std.proofs.Common.{◌≡◌, ℕ, Bool, true, false, true≢false, ◌<◌, ◌≤◌, List, [], ◌∷◌, ◌++◌, map, Option, Some, None, refl, sym, ap, subst, ◌∙◌, arith, suc, length, get_or, take, ◌+◌, slice_get, nat_lt, if◌then◌else◌}
use Rattle.std.specs.List.{flat_map}
use Rattle.std.proofs.Math.Seq.{take-suc}
use Rattle.std.proofs.lemmas.List.{append-nil, take_all}
use Rattle.std.proofs.lemmas.Bool.{ltb-false}
use Rattle.std.proofs.lemmas.Grind.{flat_map-append}
use Rattle.std.proofs.lemmas.Option.{slice_get_past}
use Rattle.py_base.specs.declared.key.Key.{Key}
use Rattle.type_terms.specs.declared.atom.Atom.{Atom, out-Atom}
use Rattle.value_terms.specs.Asks.{asked, or_unknown, with_arguments}
use Rattle.value_terms.specs.Answering.{answered}
use Rattle.value_terms.specs.Term.{Term, Assignment, eval, reads, fixed, read, join, each, never}
use Rattle.value_terms.specs.Outcome.{Outcome, gives, for_each}
use Rattle.value_terms.specs.Told.{Told, Says, told, SaysSame, parts_told}
use Rattle.value_terms.specs.Chain.{chain_rule, told_of_each}
use Rattle.value_terms.specs.declared.ask.Ask.TheVariants as ask
use Rattle.value_terms.specs.declared.part.Part.{Part}
use Rattle.value_terms.specs.declared.part.Part.TheVariants.{Members}
use Rattle.value_terms.proofs.ToldLemmas.{alike_is, alike_itself}
use Rattle.value_terms.proofs.BindLemmas.{same_then, same_turned, told_and_then, each_left, each_right, last_alone}
use Rattle.op_rules.specs.Iterations.{iterated_by, iterator}
use Rattle.op_rules.specs.Results.{argument, iterated_argument, slot_or}
use Rattle.op_rules.specs.Slots.{slot}
use Rattle.op_rules.specs.World.{World, Rule, Value, with_faults, or_fault, level_fault, unknown}
use Rattle.op_rules.specs.Steps.{step_rule, step_says, IsCall, IsOwn, IsOwnCall, IsRule, IsValue}
use Rattle.op_rules.specs.declared.step.Step.{Step}
use Rattle.op_rules.specs.declared.step.Step.TheVariants as step
use Rattle.op_rules.proofs.RuleLemmas.{any_arguments, each_value, is_members, is_never, join_says}

-- what parts say that go on by a chain
abbrev pub GoesOn : World → List (List Atom) → List (Part (List Step)) → List Step → List (Part (List Step)) → Type 0
GoesOn w args ps chain all =
    (s : Assignment Key Atom) → SaysSame (parts_told (chain_rule (step_rule w args)) all s) (told_of_each (parts_told (chain_rule (step_rule w args)) ps s) (λ a. told (chain_rule (step_rule w args) chain a) s))

-- by the step alone
by_step : (w : World) (args : List (List Atom)) (ps all : List (Part (List Step))) (one : Step) (x : Value) (r : Atom → Rule) → ((a : Atom) → step_says w one a ≡ r a)
    → Says (chain_rule (step_rule w args)) ps (with_arguments args (gives x)) → GoesOn w args ps (one ∷ []) all
    → (s : Assignment Key Atom) → SaysSame (parts_told (chain_rule (step_rule w args)) all s) (told_of_each (told (with_arguments args (gives x)) s) (λ a. told (with_arguments args (r a)) s))
by_step w args ps all one x r is says on s =
    let rule = step_rule w args in
    let before = parts_told (chain_rule rule) ps s in
    let first = told (with_arguments args (gives x)) s in
    let chain = λ (a : Atom). told (chain_rule rule (one ∷ []) a) s in
    let step = λ (a : Atom). told (rule one a) s in
    let last = λ (a : Atom). told (with_arguments args (r a)) s in
    let alone : (a : Atom) → SaysSame (chain a) (last a) = λ a. subst (λ o. SaysSame (chain a) (told (with_arguments args o) s)) (is a) (same_turned (step a) (chain a) (last_alone rule s one a)) in
    same_then (parts_told (chain_rule rule) all s) (told_of_each before chain) (told_of_each first last) (on s)
    (same_then (told_of_each before chain) (told_of_each first chain) (told_of_each first last) (each_left before first chain (says s)) (each_right first chain last alone))

pub goes_on_value : (w : World) (args : List (List Atom)) (ps all : List (Part (List Step))) (one : Step) (x : Value) (f : Atom → Value) → ((a : Atom) → step_says w one a ≡ gives (f a))
    → IsCall w args ps (gives x) → GoesOn w args ps (one ∷ []) all → IsCall w args all (gives (each x f))
unfolding IsCall
goes_on_value w args ps all one x f is says on s =
    let first = answered (asked args) x in
    let row = λ (a : Atom). answered (asked args) (f a) in
    same_then (parts_told (chain_rule (step_rule w args)) all s) (told_of_each (told (gives first) s) (λ a. told (gives (row a)) s)) (told (gives (each first row)) s)
    (by_step w args ps all one x (λ a. gives (f a)) is says on s) (each_value first row s)

pub goes_on_rule : (w : World) (args : List (List Atom)) (ps all : List (Part (List Step))) (one : Step) (x : Value) (r : Atom → Rule) → ((a : Atom) → step_says w one a ≡ r a)
    → IsCall w args ps (gives x) → GoesOn w args ps (one ∷ []) all → IsCall w args all (for_each x r)
unfolding IsCall
goes_on_rule w args ps all one x r is says on s =
    let first = answered (asked args) x in
    let row = λ (a : Atom). with_arguments args (r a) in
    same_then (parts_told (chain_rule (step_rule w args)) all s) (told_of_each (told (gives first) s) (λ a. told (row a) s)) (told (for_each first row) s)
    (by_step w args ps all one x r is says on s) (same_turned (told (for_each first row) s) (told_of_each (told (gives first) s) (λ a. told (row a) s)) (told_and_then (gives first) row s))

-- values that may be there, where the arguments have types
pub any_own : (w : World) (args : List (List Atom)) (ps : Option (List (Part (List Step)))) (own : Option Value) → IsOwn w ps own → IsOwnCall w args ps own
any_own w args None None h = tt
any_own w args None (Some x) h = h
any_own w args (Some ps) None h = h
any_own w args (Some ps) (Some x) h = any_arguments w args ps (gives x) h

pub own_call : (w : World) (args : List (List Atom)) (ps : List (Part (List Step))) (own : Option Value) (a : Atom) (told : Bool) → IsOwnCall w args (Some ps) own → IsCall w args ps (with_faults told (or_fault a own))
own_call w args ps None a told h = absurd h
own_call w args ps (Some x) a true h = h
own_call w args ps (Some x) a false h = h

pub none_call : (w : World) (args : List (List Atom)) (ps : List (Part (List Step))) (own : Option Value) (a : Atom) (told : Bool) → IsOwnCall w args None own → IsRule w ps (with_faults told (level_fault (out-Atom a)))
    → IsCall w args ps (with_faults told (or_fault a own))
none_call w args ps None a told h k = any_arguments w args ps (with_faults told (level_fault (out-Atom a))) k
none_call w args ps (Some x) a told h k = absurd h

-- an iterator, whose faults count or don't
pub goes_on_iterator : (w : World) (args : List (List Atom)) (ps all : List (Part (List Step))) (x : Value) (told : Bool) → IsCall w args ps (gives x) → GoesOn w args ps (step.Iterator told ∷ []) all
    → IsCall w args all (with_faults told (for_each x (iterator w)))
goes_on_iterator w args ps all x true says on = goes_on_rule w args ps all (step.Iterator true) x (iterator w) (λ a. refl) says on
goes_on_iterator w args ps all x false says on = goes_on_value w args ps all (step.Iterator false) x (λ a. (iterator w a).gives) (λ a. refl) says on

-- what `__iter__` gives, where it is there
pub iter_some : (w : World) (args : List (List Atom)) (ps all : List (Part (List Step))) (own other : Option Value) (a : Atom) (told : Bool) → IsOwn w (Some ps) own
    → ((x : Value) → IsRule w ps (gives x) → IsCall w args all (with_faults told (for_each x (iterator w)))) → IsCall w args all (with_faults told (iterated_by w a own other))
iter_some w args ps all None other a told h k = absurd h
iter_some w args ps all (Some x) other a told h k = k x h

pub iter_none : (w : World) (args : List (List Atom)) (all : List (Part (List Step))) (own other : Option Value) (a : Atom) (told : Bool) → IsOwn w None own
    → IsRule w all (with_faults told (or_fault a other)) → IsCall w args all (with_faults told (iterated_by w a own other))
iter_none w args all None other a told h k = any_arguments w args all (with_faults told (or_fault a other)) k
iter_none w args all (Some x) other a told h k = absurd h

-- an argument as its type
by_place : (args : List (List Atom)) (place : ℕ) (b : Bool) → nat_lt place (length args) ≡ b
    → answered (asked args) (if b then read (ask.Argument place) else unknown) ≡ fixed (or_unknown (slice_get args place))
by_place args place true is = refl
by_place args place false is = sym (ap (λ o. fixed (or_unknown o)) (slice_get_past args place (ltb-false place (length args) is)))

argument_is : (args : List (List Atom)) (place : ℕ) → answered (asked args) (argument (length args) place) ≡ fixed (or_unknown (slice_get args place))
argument_is args place = by_place args place (nat_lt place (length args)) refl

is_type : (w : World) (args : List (List Atom)) (type : List Atom) → IsCall w args (Members type ∷ []) (gives (fixed type))
is_type w args type = any_arguments w args (Members type ∷ []) (gives (fixed type)) (is_members w type)

pub is_argument : (w : World) (args : List (List Atom)) (place : ℕ) (type : List Atom) → type ≡ or_unknown (slice_get args place)
    → IsCall w args (Members type ∷ []) (gives (argument (length args) place))
unfolding IsCall
is_argument w args place type is =
    subst (λ t. Says (chain_rule (step_rule w args)) (Members type ∷ []) (gives t)) (ap fixed is ∙ sym (argument_is args place)) (is_type w args type)

-- parts and an argument
pub is_call_join : (w : World) (args : List (List Atom)) (ps : List (Part (List Step))) (x : Value) (place : ℕ) (type : List Atom) → type ≡ or_unknown (slice_get args place)
    → IsCall w args ps (gives x) → IsCall w args (ps ++ Members type ∷ []) (gives (join x (read (ask.Argument place))))
unfolding IsCall
is_call_join w args ps x place type is h =
    join_says (chain_rule (step_rule w args)) ps (Members type ∷ []) (answered (asked args) x) (fixed (or_unknown (slice_get args place))) h
    (subst (λ t. Says (chain_rule (step_rule w args)) (Members type ∷ []) (gives (fixed t))) is (is_type w args type))

-- what each member of an argument gives
pub each_argument : (w : World) (args : List (List Atom)) (ps : List (Part (List Step))) (type : List Atom) (f : Atom → Value) → type ≡ or_unknown (slice_get args 0)
    → IsCall w args ps (gives (each (fixed type) f)) → IsCall w args ps (gives (iterated_argument f (length args) 0))
unfolding IsCall
each_argument w args ps type f is h =
    subst (λ t. Says (chain_rule (step_rule w args)) ps (gives (each t (λ a. answered (asked args) (f a))))) (ap fixed is ∙ sym (argument_is args 0)) h

-- a member more
one_more : (f : Atom → Term Key Atom) (xs : List Atom) (x : Atom) (s : Assignment Key Atom) → SaysSame (told (gives (join (each (fixed xs) f) (f x))) s) (told (gives (each (fixed (xs ++ x ∷ [])) f)) s)
one_more f xs x s =
    let members : flat_map (λ a. eval (f a) s) xs ++ eval (f x) s ≡ flat_map (λ a. eval (f a) s) (xs ++ x ∷ []) =
    ap (λ ys. flat_map (λ a. eval (f a) s) xs ++ ys) (sym (append-nil (eval (f x) s))) ∙ sym (flat_map-append (λ a. eval (f a) s) xs (x ∷ [])) in
    let keys : flat_map (λ a. reads (f a) s) xs ++ reads (f x) s ≡ flat_map (λ a. reads (f a) s) (xs ++ x ∷ []) =
    ap (λ ys. flat_map (λ a. reads (f a) s) xs ++ ys) (sym (append-nil (reads (f x) s))) ∙ sym (flat_map-append (λ a. reads (f a) s) xs (x ∷ [])) in
    record {
      gives = alike_is (flat_map (λ a. eval (f a) s) xs ++ eval (f x) s) (flat_map (λ a. eval (f a) s) (xs ++ x ∷ [])) members;
      fails = refl;
      names = alike_is ((flat_map (λ a. reads (f a) s) xs ++ reads (f x) s) ++ []) (flat_map (λ a. reads (f a) s) (xs ++ x ∷ []) ++ []) (ap (λ ks. ks ++ []) keys);
    }

pub each_more : (w : World) (args : List (List Atom)) (ps qs : List (Part (List Step))) (f : Atom → Value) (xs : List Atom) (x : Atom) → IsCall w args ps (gives (each (fixed xs) f)) → IsCall w args qs (gives (f x))
    → IsCall w args (ps ++ qs) (gives (each (fixed (xs ++ x ∷ [])) f))
unfolding IsCall
each_more w args ps qs f xs x h k s =
    let row = λ (a : Atom). answered (asked args) (f a) in
    let rule = chain_rule (step_rule w args) in
    same_then (parts_told rule (ps ++ qs) s) (told (gives (join (each (fixed xs) row) (row x))) s) (told (gives (each (fixed (xs ++ x ∷ [])) row)) s)
    (join_says rule ps qs (each (fixed xs) row) (row x) h k s) (one_more row xs x s)

pub call_says : (w : World) (args : List (List Atom)) (ps : List (Part (List Step))) (rule : Rule) → IsCall w args ps rule → Says (chain_rule (step_rule w args)) ps (with_arguments args rule)
unfolding IsCall
call_says w args ps rule is = is

pub call_never : (w : World) (args : List (List Atom)) (ps : List (Part (List Step))) → ps ≡ [] → IsCall w args ps (gives never)
call_never w args ps none = subst (λ qs. IsCall w args qs (gives never)) (sym none) (any_arguments w args [] (gives never) (is_never w))

pub is_call_with : (w : World) (args : List (List Atom)) (ps : List (Part (List Step))) (x : Value) (type : List Atom) → IsCall w args ps (gives x) → IsCall w args (ps ++ Members type ∷ []) (gives (join x (fixed type)))
unfolding IsCall
is_call_with w args ps x type h = join_says (chain_rule (step_rule w args)) ps (Members type ∷ []) (answered (asked args) x) (fixed type) h (is_type w args type)

pub each_none : (w : World) (args : List (List Atom)) (ps : List (Part (List Step))) (f : Atom → Value) → ps ≡ [] → IsCall w args ps (gives (each (fixed []) f))
unfolding IsCall
each_none w args ps f none = subst (λ qs. Says (chain_rule (step_rule w args)) qs (gives (each (fixed []) (λ a. answered (asked args) (f a))))) (sym none) (λ s. record { gives = alike_itself []; fails = refl; names = alike_itself [] })

pub each_all : (w : World) (args : List (List Atom)) (ps : List (Part (List Step))) (f : Atom → Value) (xs : List Atom) (i : ℕ) → length xs ≤ i → IsCall w args ps (gives (each (fixed (take i xs)) f)) → IsCall w args ps (gives (each (fixed xs) f))
each_all w args ps f xs i past h = subst (λ ys. IsCall w args ps (gives (each (fixed ys) f))) (take_all i xs past) h

pub each_next : (w : World) (args : List (List Atom)) (ps qs all : List (Part (List Step))) (f : Atom → Value) (xs : List Atom) (x : Atom) (i : ℕ) → i < length xs → x ≡ get_or xs i x → all ≡ ps ++ qs
    → IsCall w args ps (gives (each (fixed (take i xs)) f)) → IsCall w args qs (gives (f x)) → IsCall w args all (gives (each (fixed (take (i + 1) xs)) f))
each_next w args ps qs all f xs x i within is list h k =
    let next : i + 1 ≡ suc i = omega arith in
    let more : take (i + 1) xs ≡ take i xs ++ x ∷ [] = ap (λ n. take n xs) next ∙ take-suc xs i x within ∙ ap (λ y. take i xs ++ y ∷ []) (sym is) in
    subst (λ ys. IsCall w args all (gives (each (fixed ys) f))) (sym more) (subst (λ rs. IsCall w args rs (gives (each (fixed (take i xs ++ x ∷ [])) f))) (sym list) (each_more w args ps qs f (take i xs) x h k))

-- parts that are as the callee's
pub goes_on_as : (w : World) (args : List (List Atom)) (list ps all : List (Part (List Step))) (chain row : List Step) → list ≡ ps → chain ≡ row → GoesOn w args list chain all → GoesOn w args ps row all
goes_on_as w args list ps all chain row same is h = subst (λ c. GoesOn w args ps c all) is (subst (λ qs. GoesOn w args qs chain all) same h)

pub call_nothing : (w : World) (args : List (List Atom)) (ps : List (Part (List Step))) → IsRule w ps (gives never) → IsCall w args ps (gives never)
call_nothing w args ps h = any_arguments w args ps (gives never) h

-- a slot without a second argument
alone_says : (rule : List Step → Atom → Outcome Key Atom) (ps : List (Part (List Step))) (x : Term Key Atom) → Says rule ps (gives x) → Says rule ps (gives (join x never))
alone_says rule ps x h s = same_then (parts_told rule ps s) (told (gives x) s) (told (gives (join x never)) s) (h s)
    (record {
      gives = alike_is (eval x s) (eval x s ++ []) (sym (append-nil (eval x s)));
      fails = refl;
      names = alike_is (reads x s ++ []) ((reads x s ++ []) ++ []) (sym (append-nil (reads x s ++ [])));
    })

call_alone : (w : World) (args : List (List Atom)) (ps : List (Part (List Step))) (x : Value) → IsCall w args ps (gives x) → IsCall w args ps (gives (join x never))
unfolding IsCall
call_alone w args ps x h = alone_says (chain_rule (step_rule w args)) ps (answered (asked args) x) h

slot_by : (w : World) (args : List (List Atom)) (ps : List (Part (List Step))) (receiver : Atom) (place : ℕ) (b : Bool) → b ≡ false → IsRule w ps (gives (slot w receiver place))
    → IsCall w args ps (gives (join (slot w receiver place) (if b then read (ask.Argument 1) else never)))
slot_by w args ps receiver place true few h = absurd (true≢false few)
slot_by w args ps receiver place false few h = call_alone w args ps (slot w receiver place) (any_arguments w args ps (gives (slot w receiver place)) h)

pub slot_alone : (w : World) (args : List (List Atom)) (ps : List (Part (List Step))) (receiver : Atom) (place : ℕ) → nat_lt 1 (length args) ≡ false → IsRule w ps (gives (slot w receiver place))
    → IsCall w args ps (gives (slot_or w receiver never place (length args)))
slot_alone w args ps receiver place few h = slot_by w args ps receiver place (nat_lt 1 (length args)) few h
