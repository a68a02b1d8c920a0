-- What may follow: the tests of the grammar that make its reading exact.
use Rattle.std.proofs.Common.{◌≡◌, Bool, true, false, not, ◌&&◌, ◌||◌, List, [], ◌∷◌, Option, Some, None, refl, ◌⊎◌, inl, inr, is_some, is_none, cond}
use Rattle.std.specs.List.{list_any}
use Rattle.std.specs.Prelude.{find}
use Rattle.std.proofs.lemmas.Bool.{and_parts, or_cases}
use Rattle.py_grammar.specs.declared.words.Terminal.{Terminal}
use Rattle.py_grammar.specs.declared.words.Terminal.TheVariants as terminals
use Rattle.py_grammar.specs.declared.words.Form.{Form}
use Rattle.py_grammar.specs.declared.words.Need.{Need}
use Rattle.py_grammar.specs.declared.words.Need.TheVariants as needs
use Rattle.py_grammar.specs.declared.words.State.{State}
use Rattle.py_grammar.specs.declared.words.State.TheVariants as states
use Rattle.py_grammar.specs.declared.words.Opening.{Opening}
use Rattle.py_grammar.specs.declared.words.Joint.{Joint}
use Rattle.py_grammar.specs.declared.words.Place.{Place}
use Rattle.py_grammar.specs.Table.{meets, opens, joins, edge, places, is_last}
use Rattle.py_grammar.specs.Reading.{Among, here, there}
use Rattle.py_grammar.specs.Parse.{reaches, begins, goes_on, place_at}
use Rattle.py_grammar.proofs.Finite.{every, every_at, implies, if_some, all_terminals, all_forms, all_needs, all_states, each_terminal, each_form, each_need, each_state, implied, at_some}

-- The tokens with which an expression goes on, or its right edge, by how tightly they bind.
abbrev goes_on_atom : Terminal → Bool
goes_on_atom terminals.Str = true
goes_on_atom terminals.BytesStr = true
goes_on_atom terminals.FStart = true
goes_on_atom _ = false

abbrev goes_on_primary : Terminal → Bool
goes_on_primary terminals.OpenRound = true
goes_on_primary terminals.OpenSquare = true
goes_on_primary terminals.Dot = true
goes_on_primary k = goes_on_atom k

abbrev goes_on_power : Terminal → Bool
goes_on_power terminals.DoubleStar = true
goes_on_power k = goes_on_primary k

abbrev goes_on_product : Terminal → Bool
goes_on_product terminals.Star = true
goes_on_product terminals.Slash = true
goes_on_product terminals.Times = true
goes_on_product terminals.At = true
goes_on_product k = goes_on_power k

abbrev goes_on_sum : Terminal → Bool
goes_on_sum terminals.Plus = true
goes_on_sum terminals.Minus = true
goes_on_sum k = goes_on_product k

abbrev goes_on_shift : Terminal → Bool
goes_on_shift terminals.Shift = true
goes_on_shift k = goes_on_sum k

abbrev goes_on_bit_and : Terminal → Bool
goes_on_bit_and terminals.Ampersand = true
goes_on_bit_and k = goes_on_shift k

abbrev goes_on_bit_xor : Terminal → Bool
goes_on_bit_xor terminals.Caret = true
goes_on_bit_xor k = goes_on_bit_and k

abbrev goes_on_bit_or : Terminal → Bool
goes_on_bit_or terminals.Bar = true
goes_on_bit_or k = goes_on_bit_xor k

abbrev goes_on_comparison : Terminal → Bool
goes_on_comparison terminals.In = true
goes_on_comparison terminals.Is = true
goes_on_comparison terminals.Not = true
goes_on_comparison terminals.Compare = true
goes_on_comparison k = goes_on_bit_or k

abbrev goes_on_and : Terminal → Bool
goes_on_and terminals.And = true
goes_on_and k = goes_on_comparison k

abbrev goes_on_or : Terminal → Bool
goes_on_or terminals.Or = true
goes_on_or k = goes_on_and k

abbrev goes_on_conditional : Terminal → Bool
goes_on_conditional terminals.If = true
goes_on_conditional k = goes_on_or k

abbrev goes_on_named : Terminal → Bool
goes_on_named terminals.Walrus = true
goes_on_named k = goes_on_conditional k

-- The tokens that stand behind other parts.
-- behind a line or a header
abbrev ends_line : Terminal → Bool
ends_line terminals.End = true
ends_line _ = false

-- behind a simple statement
abbrev ends_statement : Terminal → Bool
ends_statement terminals.Semicolon = true
ends_statement terminals.End = true
ends_statement _ = false

-- behind an entry in brackets
abbrev ends_entry : Terminal → Bool
ends_entry terminals.CloseRound = true
ends_entry terminals.CloseSquare = true
ends_entry terminals.CloseCurly = true
ends_entry terminals.Comma = true
ends_entry terminals.End = true
ends_entry _ = false

-- behind expressions without brackets
abbrev ends_value : Terminal → Bool
ends_value terminals.FConversion = true
ends_value terminals.CloseRound = true
ends_value terminals.CloseCurly = true
ends_value terminals.Colon = true
ends_value terminals.Semicolon = true
ends_value terminals.Assign = true
ends_value terminals.End = true
ends_value _ = false

-- behind an item of a header or an import
abbrev ends_item : Terminal → Bool
ends_item terminals.CloseRound = true
ends_item terminals.Comma = true
ends_item terminals.Colon = true
ends_item terminals.Semicolon = true
ends_item terminals.End = true
ends_item _ = false

-- behind the pattern of a case
abbrev ends_case : Terminal → Bool
ends_case terminals.If = true
ends_case terminals.Colon = true
ends_case terminals.End = true
ends_case _ = false

-- behind targets
abbrev ends_targets : Terminal → Bool
ends_targets terminals.In = true
ends_targets terminals.Semicolon = true
ends_targets terminals.End = true
ends_targets _ = false

-- behind an operator of a chain stands all but `not`
abbrev ends_link : Terminal → Bool
ends_link terminals.Not = false
ends_link _ = true

-- behind an argument
abbrev ends_argument : Terminal → Bool
ends_argument terminals.Async = true
ends_argument terminals.For = true
ends_argument terminals.CloseRound = true
ends_argument terminals.Comma = true
ends_argument terminals.End = true
ends_argument _ = false

-- behind a pattern in a sequence
abbrev ends_pattern : Terminal → Bool
ends_pattern terminals.If = true
ends_pattern terminals.CloseRound = true
ends_pattern terminals.CloseSquare = true
ends_pattern terminals.Comma = true
ends_pattern terminals.Colon = true
ends_pattern terminals.End = true
ends_pattern _ = false

-- behind an entry in curly brackets
abbrev ends_element : Terminal → Bool
ends_element terminals.Async = true
ends_element terminals.For = true
ends_element terminals.CloseCurly = true
ends_element terminals.Comma = true
ends_element terminals.End = true
ends_element _ = false

-- behind an index
abbrev ends_index : Terminal → Bool
ends_index terminals.CloseSquare = true
ends_index terminals.End = true
ends_index _ = false

-- behind the format of a field
abbrev ends_format : Terminal → Bool
ends_format terminals.CloseCurly = true
ends_format terminals.End = true
ends_format _ = false

-- behind the source of an import
abbrev ends_source : Terminal → Bool
ends_source terminals.Import = true
ends_source terminals.End = true
ends_source _ = false

-- behind a parameter of a lambda
abbrev ends_parameter : Terminal → Bool
ends_parameter terminals.Comma = true
ends_parameter terminals.Colon = true
ends_parameter terminals.End = true
ends_parameter _ = false

-- a token behind a tree that was read for a need, which ends it
abbrev pub stops : Need → Terminal → Bool
stops needs.Expressions k = ends_value k
stops needs.Named k = not (goes_on_named k)
stops needs.Expression k = not (goes_on_conditional k)
stops needs.Disjunction k = not (goes_on_or k)
stops needs.Conjunction k = not (goes_on_and k)
stops needs.Inversion k = not (goes_on_comparison k)
stops needs.Comparison k = not (goes_on_comparison k)
stops needs.BitOr k = not (goes_on_bit_or k)
stops needs.BitXor k = not (goes_on_bit_xor k)
stops needs.BitAnd k = not (goes_on_bit_and k)
stops needs.Shift k = not (goes_on_shift k)
stops needs.Sum k = not (goes_on_sum k)
stops needs.Term k = not (goes_on_product k)
stops needs.Factor k = not (goes_on_power k)
stops needs.Power k = not (goes_on_power k)
stops needs.Await k = not (goes_on_primary k)
stops needs.Primary k = not (goes_on_primary k)
stops needs.Atom k = not (goes_on_atom k)
stops needs.Entry k = not (goes_on_conditional k)
stops needs.StarredEntry k = not (goes_on_bit_or k)
stops needs.StarOperand k = not (goes_on_bit_or k)
stops needs.Element k = not (goes_on_named k)
stops needs.CurlyEntry k = ends_element k
stops needs.DoubleStarredEntry k = not (goes_on_bit_or k)
stops needs.CurlyElement k = ends_entry k
stops needs.Argument k = ends_argument k
stops needs.UnpackedArgument k = not (goes_on_conditional k)
stops needs.AnyArgument k = ends_entry k
stops needs.Index k = ends_index k
stops needs.IndexEntry k = ends_entry k
stops needs.Target k = not (goes_on_bit_or k)
stops needs.TargetList k = ends_targets k
stops needs.Clause k = not (goes_on_or k)
stops needs.FurtherClause k = not (goes_on_or k)
stops needs.Parameter k = ends_parameter k
stops needs.Link k = ends_link k
stops needs.YieldValue k = ends_value k
stops needs.Format k = ends_format k
stops needs.Line k = ends_line k
stops needs.KeywordLine k = ends_line k
stops needs.SimpleStatement k = ends_statement k
stops needs.AssignedPart k = ends_value k
stops needs.AssignedValue k = ends_statement k
stops needs.Reference k = not (goes_on_primary k)
stops needs.DottedName k = not (goes_on_primary k)
stops needs.Source k = ends_source k
stops needs.ImportItem k = ends_item k
stops needs.FromItem k = ends_item k
stops needs.TypeParameter k = ends_entry k
stops needs.Suite k = ends_line k
stops needs.WithEntry k = ends_item k
stops needs.DefParameter k = ends_entry k
stops needs.Result k = not (goes_on_conditional k)
stops needs.AsyncHeader k = ends_line k
stops needs.BracketedWith k = ends_line k
stops needs.Subject k = ends_value k
stops needs.PatternName k = not (goes_on_primary k)
stops needs.ClosedPattern k = not (goes_on_sum k)
stops needs.Alternatives k = not (goes_on_bit_or k)
stops needs.Pattern k = ends_entry k
stops needs.PatternEntry k = ends_pattern k
stops needs.CasePattern k = ends_case k
stops needs.PatternKey k = not (goes_on_sum k)
stops needs.PatternItem k = ends_entry k
stops needs.ClassEntry k = ends_entry k
stops _ k = true

-- a token behind the form that continues no part at its right edge, from a place on
abbrev pub quiet : State → Terminal → Bool
quiet states.LastExpression k = not (goes_on_conditional k)
quiet states.LastDisjunction k = not (goes_on_or k)
quiet states.LastConjunction k = not (goes_on_and k)
quiet states.LastInversion k = not (goes_on_comparison k)
quiet states.LastBitOr k = not (goes_on_bit_or k)
quiet states.LastBitXor k = not (goes_on_bit_xor k)
quiet states.LastBitAnd k = not (goes_on_bit_and k)
quiet states.LastShift k = not (goes_on_shift k)
quiet states.LastSum k = not (goes_on_sum k)
quiet states.LastTerm k = not (goes_on_product k)
quiet states.LastFactor k = not (goes_on_power k)
quiet states.LastPrimary k = not (goes_on_primary k)
quiet states.LastStarOperand k = not (goes_on_bit_or k)
quiet states.EntryNext k = ends_value k
quiet states.EntryMore k = ends_value k
quiet states.TargetNext k = ends_targets k
quiet states.TargetMore k = ends_targets k
quiet states.ConditionalTest k = not (goes_on_conditional k)
quiet states.ConditionalElse k = not (goes_on_conditional k)
quiet states.Compared k = not (goes_on_comparison k)
quiet states.ComparedNot k = not (goes_on_comparison k)
quiet states.ComparedIs k = not (goes_on_comparison k)
quiet states.ComparedMore k = not (goes_on_comparison k)
quiet states.LinkOperand k = not (goes_on_comparison k)
quiet states.LinkIs k = ends_link k
quiet states.IndexNext k = ends_index k
quiet states.IndexMore k = ends_index k
quiet states.LambdaNext k = not (goes_on_conditional k)
quiet states.LambdaMore k = not (goes_on_conditional k)
quiet states.StarParameterName k = ends_parameter k
quiet states.AsyncFor k = not (goes_on_or k)
quiet states.ForTargets k = not (goes_on_or k)
quiet states.ForIn k = not (goes_on_or k)
quiet states.SliceFirst k = ends_entry k
quiet states.SliceSecond k = ends_entry k
quiet states.SliceStep k = ends_entry k
quiet states.YieldFirst k = ends_value k
quiet states.FormatNext k = ends_format k
quiet states.FBody k = not (goes_on_atom k)
quiet states.StringsMore k = not (goes_on_atom k)
quiet states.BytesMore k = not (goes_on_atom k)
quiet states.StatementNext k = ends_line k
quiet states.StatementMore k = ends_line k
quiet states.AssignNext k = ends_statement k
quiet states.AssignMore k = ends_statement k
quiet states.AnnotationFirst k = ends_statement k
quiet states.AnnotationMore k = ends_statement k
quiet states.LastAssigned k = ends_statement k
quiet states.ReturnFirst k = ends_statement k
quiet states.RaiseFirst k = ends_statement k
quiet states.RaiseMore k = ends_statement k
quiet states.NameNext k = ends_statement k
quiet states.NameMore k = ends_statement k
quiet states.LastTargets k = ends_statement k
quiet states.AssertFirst k = ends_statement k
quiet states.AssertMore k = ends_statement k
quiet states.ImportNext k = ends_statement k
quiet states.ImportMore k = ends_statement k
quiet states.FromSource k = ends_statement k
quiet states.FromImport k = ends_statement k
quiet states.FromFirst k = ends_statement k
quiet states.FromNext k = ends_statement k
quiet states.FromMore k = ends_statement k
quiet states.DotsMore k = ends_source k
quiet states.DottedNext k = not (goes_on_primary k)
quiet states.DottedMore k = not (goes_on_primary k)
quiet states.AliasParameters k = not (goes_on_conditional k)
quiet states.AliasAssign k = not (goes_on_conditional k)
quiet states.SuiteFirst k = ends_line k
quiet states.SuiteNext k = ends_line k
quiet states.SuiteMore k = ends_line k
quiet states.LastSuite k = ends_line k
quiet states.HeaderTest k = ends_line k
quiet states.LoopTargets k = ends_line k
quiet states.LoopIn k = ends_line k
quiet states.LoopOver k = ends_line k
quiet states.ExceptFirst k = ends_line k
quiet states.ExceptClass k = ends_line k
quiet states.ExceptMore k = ends_line k
quiet states.ExceptName k = ends_line k
quiet states.WithNext k = ends_line k
quiet states.WithMore k = ends_line k
quiet states.BracketedWithFirst k = ends_line k
quiet states.BracketedItem k = ends_line k
quiet states.BracketedItemNext k = ends_line k
quiet states.BracketedItemMore k = ends_line k
quiet states.LastTarget k = not (goes_on_bit_or k)
quiet states.DefName k = ends_line k
quiet states.DefParameters k = ends_line k
quiet states.DefBracket k = ends_line k
quiet states.DefResult k = ends_line k
quiet states.ParameterAnnotation k = ends_entry k
quiet states.ParameterDefault k = ends_entry k
quiet states.DefStarName k = ends_entry k
quiet states.DefDoubleStarName k = ends_entry k
quiet states.StarAnnotation k = ends_entry k
quiet states.ClassName k = ends_line k
quiet states.ClassParameters k = ends_line k
quiet states.ClassBracket k = ends_line k
quiet states.AsyncFirst k = ends_line k
quiet states.BracketedAsyncFirst k = ends_line k
quiet states.LastNamed k = not (goes_on_named k)
quiet states.CaseFirst k = ends_line k
quiet states.CaseGuard k = ends_line k
quiet states.LastPattern k = ends_entry k
quiet states.PatternsNext k = ends_case k
quiet states.PatternsMore k = ends_case k
quiet states.OrNext k = not (goes_on_bit_or k)
quiet states.OrMore k = not (goes_on_bit_or k)
quiet _ k = true

-- The tests. What reaches a need at the left edge of its trees:
abbrev pub meets_reach : Bool
meets_reach = every (λ n. every (λ f. implies (meets n f) (reaches n f)) all_forms) all_needs

abbrev pub left_reaches : Bool
left_reaches = every (λ k. every (λ j. every (λ n. implies (reaches n j.form) (every (λ g. implies (meets j.left g) (reaches n g)) all_forms)) all_needs) (joins k)) all_terminals

-- at most one passes the test
abbrev pub at_most_one : {A : Type 0} → (A → Bool) → List A → Bool
at_most_one P [] = true
at_most_one P (x ∷ xs) = (not (P x) && at_most_one P xs) || (P x && not (list_any P xs))

-- for each need, a token opens and joins one form at most
abbrev pub opens_once : Bool
opens_once = every (λ k. every (λ n. at_most_one (λ o. reaches n o.form) (opens k)) all_needs) all_terminals

abbrev pub joins_once : Bool
joins_once = every (λ k. every (λ n. at_most_one (λ j. reaches n j.form) (joins k)) all_needs) all_terminals

-- what ends a tree keeps the right edge of its form
abbrev pub keeps_edge : Form → State → Bool
keeps_edge f s = every (λ n. implies (meets n f) (every (λ k. implies (stops n k) (quiet s k)) all_terminals)) all_needs

abbrev pub opened_ends : Bool
opened_ends = every (λ w. every (λ o. keeps_edge o.form o.after) (opens w)) all_terminals

abbrev pub joined_ends : Bool
joined_ends = every (λ w. every (λ j. keeps_edge j.form j.after) (joins w)) all_terminals

-- a joint's token ends the right edge of the tree on its left
abbrev pub ends_opened : Need → Terminal → Bool
ends_opened n k = every (λ w. every (λ o. implies (meets n o.form) (quiet o.after k)) (opens w)) all_terminals

abbrev pub ends_joined : Need → Terminal → Bool
ends_joined n k = every (λ w. every (λ j. implies (meets n j.form) (quiet j.after k)) (joins w)) all_terminals

abbrev pub opened_left : Bool
opened_left = every (λ k. every (λ i. ends_opened i.left k) (joins k)) all_terminals

abbrev pub joined_left : Bool
joined_left = every (λ k. every (λ i. ends_joined i.left k) (joins k)) all_terminals

-- a tree that meets its need goes on by no token that ends it
abbrev pub never_left : Need → Joint → Bool
never_left n j = every (λ g. implies (meets n g) (not (meets j.left g))) all_forms

abbrev pub stops_joints : Bool
stops_joints = every (λ n. every (λ k. implies (stops n k) (if_some (goes_on n k) (λ j. never_left n j))) all_terminals) all_needs

abbrev pub quiet_edges : Bool
quiet_edges = every (λ s. every (λ w. if_some (edge s w) (λ t. every (λ k. implies (quiet s k) (quiet t k)) all_terminals)) all_terminals) all_states

abbrev pub quiet_part : State → Place → Terminal → Bool
quiet_part s p k = implies (quiet s k) (quiet p.after k && implies (is_last p.after) (stops p.need k))

abbrev pub quiet_places : Bool
quiet_places = every (λ s. every (λ p. every (λ k. quiet_part s p k) all_terminals) (places s)) all_states

abbrev pub begins_part : State → Terminal → Bool
begins_part s k = is_some (place_at s k)

abbrev pub quiet_ends : Bool
quiet_ends = every (λ s. implies (is_last s) (every (λ k. implies (quiet s k) (is_none (edge s k) && not (begins_part s k))) all_terminals)) all_states

-- what stands behind a part ends it
abbrev pub parts_end : Bool
parts_end = every (λ s. every (λ p. every (λ w. implies (is_some (edge p.after w) || begins_part p.after w) (stops p.need w)) all_terminals) (places s)) all_states

-- no token both begins the part and stands in its place
abbrev pub parts_begin : Bool
parts_begin = every (λ s. every (λ p. every (λ w. implies (is_some (begins p.need w)) (is_none (edge s w))) all_terminals) (places s)) all_states

-- a token begins one part of a state at most
abbrev pub places_once : Bool
places_once = every (λ s. every (λ w. at_most_one (λ p. is_some (begins p.need w)) (places s)) all_terminals) all_states

meets_reach_holds : meets_reach ≡ true
meets_reach_holds = refl

left_reaches_holds : left_reaches ≡ true
left_reaches_holds = refl

opens_once_holds : opens_once ≡ true
opens_once_holds = refl

joins_once_holds : joins_once ≡ true
joins_once_holds = refl

opened_ends_holds : opened_ends ≡ true
opened_ends_holds = refl

joined_ends_holds : joined_ends ≡ true
joined_ends_holds = refl

opened_left_holds : opened_left ≡ true
opened_left_holds = refl

joined_left_holds : joined_left ≡ true
joined_left_holds = refl

stops_joints_holds : stops_joints ≡ true
stops_joints_holds = refl

quiet_edges_holds : quiet_edges ≡ true
quiet_edges_holds = refl

quiet_places_holds : quiet_places ≡ true
quiet_places_holds = refl

quiet_ends_holds : quiet_ends ≡ true
quiet_ends_holds = refl

parts_end_holds : parts_end ≡ true
parts_end_holds = refl

parts_begin_holds : parts_begin ≡ true
parts_begin_holds = refl

places_once_holds : places_once ≡ true
places_once_holds = refl

-- What the tests say.
none_from : {A : Type 0} (o : Option A) → is_none o ≡ true → o ≡ None
none_from None h = refl
none_from (Some x) h = cc

none_begun : {A : Type 0} (o : Option A) → is_some o ≡ false → o ≡ None
none_begun None h = refl
none_begun (Some x) h = cc

some_at : {A : Type 0} (o : Option A) (x : A) → o ≡ Some x → is_some o ≡ true
some_at o x e = rw e refl

or_left : (x y : Bool) → x ≡ true → (x || y) ≡ true
or_left x y e = rw e refl

or_right : (x y : Bool) → y ≡ true → (x || y) ≡ true
or_right true y e = refl
or_right false y e = e

false_from : (b : Bool) → not b ≡ true → b ≡ false
false_from true h = cc
false_from false h = refl

any_at : {A : Type 0} (P : A → Bool) {x : A} {xs : List A} → Among x xs → P x ≡ true → list_any P xs ≡ true
any_at P (here {x = x} {xs = xs}) e = or_left (P x) (list_any P xs) e
any_at P (there {y = y} {xs = xs} i) e = or_right (P y) (list_any P xs) (any_at P i e)

-- the one that passes is the one that is found
one_found : {A : Type 0} (P : A → Bool) {x : A} {xs : List A} → Among x xs → at_most_one P xs ≡ true → P x ≡ true → find P xs ≡ Some x
one_found P (here {x = x} {xs = xs}) once e = rw e refl
one_found P (there {x = x} {y = y} {xs = xs} i) once e = go (λ h. one_found P i h e) (or_cases (not (P y) && at_most_one P xs) (P y && not (list_any P xs)) once)
  where
    go : (at_most_one P xs ≡ true → find P xs ≡ Some x) → ((not (P y) && at_most_one P xs) ≡ true) ⊎ ((P y && not (list_any P xs)) ≡ true) → cond (P y) (Some y) (find P xs) ≡ Some x
    go later (inl l) =
        let a = and_parts (not (P y)) (at_most_one P xs) l in
        rw (false_from (P y) a.0) (later a.1)
    go later (inr r) =
        let a = and_parts (P y) (not (list_any P xs)) r in
        let no = false_from (list_any P xs) a.1 in
        let yes = any_at P i e in
        cc

pub meets_reaches : (n : Need) (f : Form) → meets n f ≡ true → reaches n f ≡ true
meets_reaches n f m =
    implied _ _ (each_form (λ f. implies (meets n f) (reaches n f)) f (each_need (λ n. every (λ f. implies (meets n f) (reaches n f)) all_forms) n meets_reach_holds)) m

pub reaches_left : (k : Terminal) (j : Joint) (n : Need) (g : Form) → Among j (joins k) → reaches n j.form ≡ true → meets j.left g ≡ true → reaches n g ≡ true
reaches_left k j n g i r m =
    let a = each_terminal (λ k. every (λ j. every (λ n. implies (reaches n j.form) (every (λ g. implies (meets j.left g) (reaches n g)) all_forms)) all_needs) (joins k)) k left_reaches_holds in
    let b = every_at (λ j. every (λ n. implies (reaches n j.form) (every (λ g. implies (meets j.left g) (reaches n g)) all_forms)) all_needs) i a in
    let c = implied _ _ (each_need (λ n. implies (reaches n j.form) (every (λ g. implies (meets j.left g) (reaches n g)) all_forms)) n b) r in
    implied _ _ (each_form (λ g. implies (meets j.left g) (reaches n g)) g c) m

pub opening_found : (k : Terminal) (o : Opening) (n : Need) → Among o (opens k) → reaches n o.form ≡ true → begins n k ≡ Some o
opening_found k o n i r =
    let a = each_terminal (λ k. every (λ n. at_most_one (λ o. reaches n o.form) (opens k)) all_needs) k opens_once_holds in
    one_found (λ o. reaches n o.form) i (each_need (λ n. at_most_one (λ o. reaches n o.form) (opens k)) n a) r

pub joint_found : (k : Terminal) (j : Joint) (n : Need) → Among j (joins k) → reaches n j.form ≡ true → goes_on n k ≡ Some j
joint_found k j n i r =
    let a = each_terminal (λ k. every (λ n. at_most_one (λ j. reaches n j.form) (joins k)) all_needs) k joins_once_holds in
    one_found (λ j. reaches n j.form) i (each_need (λ n. at_most_one (λ j. reaches n j.form) (joins k)) n a) r

kept : (f : Form) (s : State) (n : Need) (k : Terminal) → keeps_edge f s ≡ true → meets n f ≡ true → stops n k ≡ true → quiet s k ≡ true
kept f s n k h m e =
    let a = implied _ _ (each_need (λ n. implies (meets n f) (every (λ k. implies (stops n k) (quiet s k)) all_terminals)) n h) m in
    implied _ _ (each_terminal (λ k. implies (stops n k) (quiet s k)) k a) e

pub opened_end : (w k : Terminal) (o : Opening) (n : Need) → Among o (opens w) → meets n o.form ≡ true → stops n k ≡ true → quiet o.after k ≡ true
opened_end w k o n i m e =
    kept o.form o.after n k (every_at (λ o. keeps_edge o.form o.after) i (each_terminal (λ w. every (λ o. keeps_edge o.form o.after) (opens w)) w opened_ends_holds)) m e

pub joined_end : (w k : Terminal) (j : Joint) (n : Need) → Among j (joins w) → meets n j.form ≡ true → stops n k ≡ true → quiet j.after k ≡ true
joined_end w k j n i m e =
    kept j.form j.after n k (every_at (λ j. keeps_edge j.form j.after) i (each_terminal (λ w. every (λ j. keeps_edge j.form j.after) (joins w)) w joined_ends_holds)) m e

pub left_opened : (k w : Terminal) (i : Joint) (o : Opening) → Among i (joins k) → Among o (opens w) → meets i.left o.form ≡ true → quiet o.after k ≡ true
left_opened k w i o ik ow m =
    let a = every_at (λ i. ends_opened i.left k) ik (each_terminal (λ k. every (λ i. ends_opened i.left k) (joins k)) k opened_left_holds) in
    let b = each_terminal (λ w. every (λ o. implies (meets i.left o.form) (quiet o.after k)) (opens w)) w a in
    implied _ _ (every_at (λ o. implies (meets i.left o.form) (quiet o.after k)) ow b) m

pub left_joined : (k w : Terminal) (i j : Joint) → Among i (joins k) → Among j (joins w) → meets i.left j.form ≡ true → quiet j.after k ≡ true
left_joined k w i j ik jw m =
    let a = every_at (λ i. ends_joined i.left k) ik (each_terminal (λ k. every (λ i. ends_joined i.left k) (joins k)) k joined_left_holds) in
    let b = each_terminal (λ w. every (λ j. implies (meets i.left j.form) (quiet j.after k)) (joins w)) w a in
    implied _ _ (every_at (λ j. implies (meets i.left j.form) (quiet j.after k)) jw b) m

pub stop_joint : (n : Need) (k : Terminal) (j : Joint) (g : Form) → stops n k ≡ true → goes_on n k ≡ Some j → meets n g ≡ true → meets j.left g ≡ false
stop_joint n k j g e r m =
    let a = each_terminal (λ k. implies (stops n k) (if_some (goes_on n k) (λ j. never_left n j))) k (each_need (λ n. every (λ k. implies (stops n k) (if_some (goes_on n k) (λ j. never_left n j))) all_terminals) n stops_joints_holds) in
    let b = at_some (goes_on n k) (λ j. never_left n j) j (implied _ _ a e) r in
    false_from _ (implied _ _ (each_form (λ g. implies (meets n g) (not (meets j.left g))) g b) m)

pub quiet_edge : (s t : State) (w k : Terminal) → edge s w ≡ Some t → quiet s k ≡ true → quiet t k ≡ true
quiet_edge s t w k e q =
    let a = each_state (λ s. every (λ w. if_some (edge s w) (λ t. every (λ k. implies (quiet s k) (quiet t k)) all_terminals)) all_terminals) s quiet_edges_holds in
    let b = each_terminal (λ w. if_some (edge s w) (λ t. every (λ k. implies (quiet s k) (quiet t k)) all_terminals)) w a in
    let c = at_some (edge s w) (λ t. every (λ k. implies (quiet s k) (quiet t k)) all_terminals) t b e in
    implied _ _ (each_terminal (λ k. implies (quiet s k) (quiet t k)) k c) q

pub quiet_place : (s : State) (k : Terminal) (p : Place) → Among p (places s) → quiet s k ≡ true → (quiet p.after k ≡ true) × (is_last p.after ≡ true → stops p.need k ≡ true)
quiet_place s k p i q =
    let a = each_state (λ s. every (λ p. every (λ k. quiet_part s p k) all_terminals) (places s)) s quiet_places_holds in
    let b = every_at (λ p. every (λ k. quiet_part s p k) all_terminals) i a in
    let c = implied _ _ (each_terminal (λ k. quiet_part s p k) k b) q in
    let d = and_parts (quiet p.after k) (implies (is_last p.after) (stops p.need k)) c in
    (d.0, λ l. implied _ _ d.1 l)

pub quiet_end : (s : State) (k : Terminal) → is_last s ≡ true → quiet s k ≡ true → (edge s k ≡ None) × (place_at s k ≡ None)
quiet_end s k l q =
    let a = each_state (λ s. implies (is_last s) (every (λ k. implies (quiet s k) (is_none (edge s k) && not (begins_part s k))) all_terminals)) s quiet_ends_holds in
    let c = implied _ _ (each_terminal (λ k. implies (quiet s k) (is_none (edge s k) && not (begins_part s k))) k (implied _ _ a l)) q in
    let d = and_parts (is_none (edge s k)) (not (begins_part s k)) c in
    (none_from _ d.0, none_begun (place_at s k) (false_from _ d.1))

parts_end_at : (s : State) (w : Terminal) (p : Place) → Among p (places s) → implies (is_some (edge p.after w) || begins_part p.after w) (stops p.need w) ≡ true
parts_end_at s w p i =
    let a = each_state (λ s. every (λ p. every (λ w. implies (is_some (edge p.after w) || begins_part p.after w) (stops p.need w)) all_terminals) (places s)) s parts_end_holds in
    each_terminal (λ w. implies (is_some (edge p.after w) || begins_part p.after w) (stops p.need w)) w (every_at (λ p. every (λ w. implies (is_some (edge p.after w) || begins_part p.after w) (stops p.need w)) all_terminals) i a)

pub edge_ends : (s t : State) (w : Terminal) (p : Place) → Among p (places s) → edge p.after w ≡ Some t → stops p.need w ≡ true
edge_ends s t w p i h = implied _ _ (parts_end_at s w p i) (or_left _ _ (some_at _ t h))

-- the place of a part that a token begins
pub place_found : (s : State) (w : Terminal) (p : Place) (o : Opening) → Among p (places s) → begins p.need w ≡ Some o → place_at s w ≡ Some p
place_found s w p o i e =
    let a = each_state (λ s. every (λ w. at_most_one (λ p. is_some (begins p.need w)) (places s)) all_terminals) s places_once_holds in
    one_found (λ p. is_some (begins p.need w)) i (each_terminal (λ w. at_most_one (λ p. is_some (begins p.need w)) (places s)) w a) (some_at _ o e)

pub place_ends : (s : State) (w : Terminal) (p q : Place) (o : Opening) → Among p (places s) → Among q (places p.after) → begins q.need w ≡ Some o → stops p.need w ≡ true
place_ends s w p q o i j ew =
    let some : begins_part p.after w ≡ true = rw (place_found p.after w q o j ew) refl in
    implied _ _ (parts_end_at s w p i) (or_right (is_some (edge p.after w)) _ some)

pub part_begins : (s : State) (w : Terminal) (p : Place) (o : Opening) → Among p (places s) → begins p.need w ≡ Some o → edge s w ≡ None
part_begins s w p o i ew =
    let a = each_state (λ s. every (λ p. every (λ w. implies (is_some (begins p.need w)) (is_none (edge s w))) all_terminals) (places s)) s parts_begin_holds in
    let b = every_at (λ p. every (λ w. implies (is_some (begins p.need w)) (is_none (edge s w))) all_terminals) i a in
    none_from _ (implied _ _ (each_terminal (λ w. implies (is_some (begins p.need w)) (is_none (edge s w))) w b) (some_at _ o ew))
