-- Runs of names: they stay as names come behind them, and a longer run is a reference's attribute.
use Rattle.std.proofs.Common.{◌≡◌, ℕ, zero, suc, ◌+◌, ◌-◌, ◌<◌, ◌≤◌, List, [], ◌∷◌, ◌++◌, length, take, drop, refl, ap, sym, ◌∙◌, subst, Some, slice_get, arith, append_assoc, append-nil}
use Rattle.std.specs.Prelude.{Result, Ok, Err, OnErr}
use Rattle.std.proofs.lemmas.List.{drop-append-le, take-append-le, take_rest, take_more, length-drop, length-append, map-append}
use Rattle.std.proofs.Math.Seq.{drop-append_seam}
use Rattle.std.proofs.lemmas.Option.{slice_get_within, get_or_from_slice_get}
use Rattle.py_base.specs.declared.ids.NameId.{NameId}
use Rattle.node_references.specs.declared.reference_list.Chain.{Chain}
use Rattle.node_references.specs.Reference.{Reference, reference}
use Rattle.node_references.specs.References.{member}
use Rattle.node_references.specs.Chains.{between, stored, references_of, AreRuns, IsLonger}

-- a run stays as names come behind it
pub between_kept : (from to : ℕ) (names more : List NameId) → from ≤ to → to ≤ length names → between from to (names ++ more) ≡ between from to names
between_kept from to names more h g =
    let long = length-drop from names in
    ap (λ (l : List NameId). take (to - from) l) (drop-append-le from names more (omega arith))
    ∙ take-append-le (to - from) (drop from names) more (omega (arith, long))

pub kept : (chains : List Chain) (names more : List NameId) → AreRuns (length names) chains → references_of (names ++ more) chains ≡ references_of names chains
kept [] names more h = refl
kept (c ∷ chains) names more h =
    ap (λ (l : List NameId). reference c.root l ∷ references_of (names ++ more) chains) (between_kept c.from c.to names more h.0 h.1)
    ∙ ap (λ (l : List Reference). stored names c ∷ l) (kept chains names more h.2)

pub kept_longer : (chains : List Chain) (names new : List NameId) → AreRuns (length names) chains → IsLonger names new → references_of new chains ≡ references_of names chains
kept_longer chains names new h (more, e) = ap (λ (l : List NameId). references_of l chains) e ∙ kept chains names more h

pub runs_more : (chains : List Chain) (m n : ℕ) → m ≤ n → AreRuns m chains → AreRuns n chains
runs_more [] m n le h = tt
runs_more (c ∷ chains) m n le h = (h.0, omega (arith, h.1), runs_more chains m n le h.2)

longer_length : (old new : List NameId) → IsLonger old new → length old ≤ length new
longer_length old new (more, e) = rw (e, length-append old more) (omega arith)

pub runs_longer : (chains : List Chain) (names new : List NameId) → AreRuns (length names) chains → IsLonger names new → AreRuns (length new) chains
runs_longer chains names new h more = runs_more chains (length names) (length new) (longer_length names new more) h

pub runs_snoc : (chains : List Chain) (c : Chain) (n : ℕ) → AreRuns n chains → c.from ≤ c.to → c.to ≤ n → AreRuns n (chains ++ c ∷ [])
runs_snoc [] c n h lo hi = (lo, hi, tt)
runs_snoc (d ∷ chains) c n h lo hi = (h.0, h.1, runs_snoc chains c n h.2 lo hi)

pub runs_at : (chains : List Chain) (n i : ℕ) (c : Chain) → AreRuns n chains → slice_get chains i ≡ Some c → (c.from ≤ c.to) × (c.to ≤ n)
runs_at [] n i c h e = absurd (cc e)
runs_at (d ∷ chains) n zero c h e = let same : d ≡ c = cc e in subst (λ (x : Chain). (x.from ≤ x.to) × (x.to ≤ n)) same (h.0, h.1)
runs_at (d ∷ chains) n (suc i) c h e = runs_at chains n i c h.2 e

pub stored_at : (chains : List Chain) (names : List NameId) (i : ℕ) (c : Chain) → slice_get chains i ≡ Some c → slice_get (references_of names chains) i ≡ Some (stored names c)
stored_at [] names i c e = absurd (cc e)
stored_at (d ∷ chains) names zero c e = let same : d ≡ c = cc e in ap (λ (x : Chain). Some (stored names x)) same
stored_at (d ∷ chains) names (suc i) c e = stored_at chains names i c e

-- one more reference
pub stored_snoc : (chains new : List Chain) (c : Chain) (names : List NameId) → new ≡ chains ++ c ∷ [] → references_of names new ≡ references_of names chains ++ stored names c ∷ []
stored_snoc chains new c names e = ap (references_of names) e ∙ map-append (stored names) chains (c ∷ [])

-- the attribute of a reference, with a run that ends with the names
pub member_pushed : (chains more : List Chain) (names new : List NameId) (c : Chain) (name : NameId) (from to : ℕ) → AreRuns (length names) chains → IsLonger names new
    → drop from new ≡ between c.from c.to names ++ name ∷ [] → to ≡ length new → more ≡ chains ++ record { root = c.root; from = from; to = to } ∷ []
    → references_of new more ≡ references_of names chains ++ member (stored names c) name ∷ []
member_pushed chains more names new c name from to runs longer is ends pushed =
    let here : between from to new ≡ between c.from c.to names ++ name ∷ [] = ap (λ (k : ℕ). between from k new) ends ∙ take_rest new from ∙ is in
    stored_snoc chains more (record { root = c.root; from = from; to = to }) new pushed
    ∙ ap (λ (l : List NameId). references_of new chains ++ reference c.root l ∷ []) here
    ∙ ap (λ (l : List Reference). l ++ member (stored names c) name ∷ []) (kept_longer chains names new runs longer)

pub on_err : {T E P : Type 0} (r : Result T E) → P → OnErr r P
on_err (Ok x) p = tt
on_err (Err e) p = p

drop_get : {A : Type 0} (xs : List A) (from k : ℕ) → slice_get (drop from xs) k ≡ slice_get xs (from + k)
drop_get xs zero k = let e : 0 + k ≡ k = omega arith in rw e refl
drop_get [] (suc from) k = refl
drop_get (x ∷ xs) (suc from) k = let e : suc from + k ≡ suc (from + k) = omega arith in rw e (drop_get xs from k)

old_get : {A : Type 0} (xs ys : List A) (i : ℕ) → i < length xs → slice_get (xs ++ ys) i ≡ slice_get xs i
old_get [] ys i h = absurd (omega arith)
old_get (x ∷ xs) ys zero h = refl
old_get (x ∷ xs) ys (suc i) h = old_get xs ys i (omega arith)

take_next : {A : Type 0} (xs : List A) (k : ℕ) (x : A) → slice_get xs k ≡ Some x → take (k + 1) xs ≡ take k xs ++ x ∷ []
take_next xs k x e = take_more xs k x (slice_get_within xs k x e) ∙ ap (λ y. take k xs ++ y ∷ []) (get_or_from_slice_get xs k x x e)

between_next : (from at : ℕ) (names : List NameId) (name : NameId) → from ≤ at → slice_get names at ≡ Some name
    → between from (at + 1) names ≡ between from at names ++ name ∷ []
between_next from at names name low e =
    let here : from + (at - from) ≡ at = omega arith in
    let next : (at + 1) - from ≡ (at - from) + 1 = omega arith in
    ap (λ (k : ℕ). take k (drop from names)) next
    ∙ take_next (drop from names) (at - from) name (drop_get names from (at - from) ∙ ap (slice_get names) here ∙ e)

-- one more name of a run is copied
pub copied_next : (old now new : List NameId) (from to at : ℕ) (name : NameId) → from ≤ at → at < to → to ≤ length old → now ≡ old ++ between from at old
    → slice_get now at ≡ Some name → new ≡ now ++ name ∷ [] → new ≡ old ++ between from (at + 1) old
copied_next old now new from to at name low high within so_far found pushed =
    let e : slice_get old at ≡ Some name = sym (old_get old (between from at old) at (omega arith)) ∙ ap (λ (l : List NameId). slice_get l at) (sym so_far) ∙ found in
    pushed ∙ ap (λ (l : List NameId). l ++ name ∷ []) so_far ∙ append_assoc old (between from at old) (name ∷ [])
    ∙ ap (λ (l : List NameId). old ++ l) (sym (between_next from at old name low e))

-- the names of a run that ends with the list
pub last_names : (names : List NameId) (from to : ℕ) → to ≡ length names → drop from names ≡ between from to names
last_names names from to e = sym (take_rest names from) ∙ ap (λ (k : ℕ). between from k names) (sym e)

pub copied_none : (from : ℕ) (names : List NameId) → names ≡ names ++ between from from names
copied_none from names = let e : from - from ≡ 0 = omega arith in rw e (sym (append-nil names))

pub copied_all : (old now : List NameId) (from to at : ℕ) → to ≤ at → at ≤ to → now ≡ old ++ between from at old → now ≡ old ++ between from to old
copied_all old now from to at past high so_far = let e : at ≡ to = omega arith in so_far ∙ ap (λ (k : ℕ). old ++ between from k old) e

pub longer_self : (names : List NameId) → IsLonger names names
longer_self names = ([], sym (append-nil names))

pub longer_by : (old mid new more : List NameId) → IsLonger old mid → new ≡ mid ++ more → IsLonger old new
longer_by old mid new more (first, e) f = (first ++ more, f ∙ ap (λ (l : List NameId). l ++ more) e ∙ append_assoc old first more)

-- a run that ends with the list, and one name more
pub run_longer : (mid new run : List NameId) (start : ℕ) (name : NameId) → drop start mid ≡ run → start ≤ length mid → new ≡ mid ++ name ∷ [] → drop start new ≡ run ++ name ∷ []
run_longer mid new run start name is within pushed =
    ap (drop start) pushed ∙ drop-append-le start mid (name ∷ []) within ∙ ap (λ (l : List NameId). l ++ name ∷ []) is

pub start_within : (mid new : List NameId) (start : ℕ) (name : NameId) → start ≤ length mid → new ≡ mid ++ name ∷ [] → start ≤ length new
start_within mid new start name within pushed = let long = length-append mid (name ∷ []) in rw pushed (omega (arith, long, within))

-- a run that is copied begins where the list ended
pub copy_start : (old new run : List NameId) → new ≡ old ++ run → drop (length old) new ≡ run
copy_start old new run e = ap (drop (length old)) e ∙ drop-append_seam old run

pub copy_within : (old new run : List NameId) → new ≡ old ++ run → length old ≤ length new
copy_within old new run e = longer_length old new (run, e)

pub up_to : (m n : ℕ) → m ≡ n → m ≤ n
up_to m n e = omega (arith, e)
