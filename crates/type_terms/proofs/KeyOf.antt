-- The key of each kind of atom.
use Rattle.std.proofs.Common.{◌≡◌, ◌≢◌, ℕ, List, refl, sym, ap, ◌∙◌, subst, arith}
use Rattle.py_base.specs.declared.ids.ClassId.{ClassId}
use Rattle.py_base.specs.declared.ids.FuncId.{FuncId}
use Rattle.py_base.specs.declared.ids.NameId.{NameId}
use Rattle.py_base.specs.declared.ids.SiteId.{SiteId}
use Rattle.type_terms.specs.declared.literal.Literal.{Literal}
use Rattle.type_terms.specs.declared.atom.Slots.{Slots}
use Rattle.type_terms.specs.declared.atom.Slots.TheVariants.{Each, Endless, AnyArguments, Arguments}
use Rattle.type_terms.specs.declared.atom.Atom.{Atom, fold-Atom, fold-roll-Atom, map-Atom, out-Atom, roll-Atom, roll-out-Atom}
use Rattle.type_terms.specs.declared.atom.Atom.TheVariants as atom
use Rattle.type_terms.specs.declared.atom.Atom.TheOpen.{Atom-F}
use Rattle.type_terms.specs.SortKey.{SortKey, end}
use Rattle.type_terms.specs.Order.{key, key_step, keyed, kind_in, rest_in}

pub key-Lit : (value : Literal) → key (atom.Lit value) ≡ key_step (Atom-F.Lit value)
unfolding key
key-Lit value = ap (fold-Atom SortKey key_step) (sym (atom.rolls-Lit value)) ∙ fold-roll-Atom SortKey key_step (Atom-F.Lit value)

pub key-Inst : (class : ClassId) → key (atom.Inst class) ≡ key_step (Atom-F.Inst class)
unfolding key
key-Inst class = ap (fold-Atom SortKey key_step) (sym (atom.rolls-Inst class)) ∙ fold-roll-Atom SortKey key_step (Atom-F.Inst class)

pub key-Site : (site : SiteId) → key (atom.Site site) ≡ key_step (Atom-F.Site site)
unfolding key
key-Site site = ap (fold-Atom SortKey key_step) (sym (atom.rolls-Site site)) ∙ fold-roll-Atom SortKey key_step (Atom-F.Site site)

pub key-Class : (class : ClassId) → key (atom.Class class) ≡ key_step (Atom-F.Class class)
unfolding key
key-Class class = ap (fold-Atom SortKey key_step) (sym (atom.rolls-Class class)) ∙ fold-roll-Atom SortKey key_step (Atom-F.Class class)

pub key-Func : (func : FuncId) → key (atom.Func func) ≡ key_step (Atom-F.Func func)
unfolding key
key-Func func = ap (fold-Atom SortKey key_step) (sym (atom.rolls-Func func)) ∙ fold-roll-Atom SortKey key_step (Atom-F.Func func)

pub key-Bound : (func : FuncId) → key (atom.Bound func) ≡ key_step (Atom-F.Bound func)
unfolding key
key-Bound func = ap (fold-Atom SortKey key_step) (sym (atom.rolls-Bound func)) ∙ fold-roll-Atom SortKey key_step (Atom-F.Bound func)

pub key-BuiltFunc : (row : ℕ) → key (atom.BuiltFunc row) ≡ key_step (Atom-F.BuiltFunc row)
unfolding key
key-BuiltFunc row = ap (fold-Atom SortKey key_step) (sym (atom.rolls-BuiltFunc row)) ∙ fold-roll-Atom SortKey key_step (Atom-F.BuiltFunc row)

pub key-Super : (class : ClassId) → key (atom.Super class) ≡ key_step (Atom-F.Super class)
unfolding key
key-Super class = ap (fold-Atom SortKey key_step) (sym (atom.rolls-Super class)) ∙ fold-roll-Atom SortKey key_step (Atom-F.Super class)

pub key-Mod : (name : NameId) → key (atom.Mod name) ≡ key_step (Atom-F.Mod name)
unfolding key
key-Mod name = ap (fold-Atom SortKey key_step) (sym (atom.rolls-Mod name)) ∙ fold-roll-Atom SortKey key_step (Atom-F.Mod name)

pub key-Special : (name : NameId) → key (atom.Special name) ≡ key_step (Atom-F.Special name)
unfolding key
key-Special name = ap (fold-Atom SortKey key_step) (sym (atom.rolls-Special name)) ∙ fold-roll-Atom SortKey key_step (Atom-F.Special name)

pub key-Unknown : key atom.Unknown ≡ key_step Atom-F.Unknown
unfolding key
key-Unknown = ap (fold-Atom SortKey key_step) (sym atom.rolls-Unknown) ∙ fold-roll-Atom SortKey key_step Atom-F.Unknown

pub key-None : key atom.None ≡ key_step Atom-F.None
unfolding key
key-None = ap (fold-Atom SortKey key_step) (sym atom.rolls-None) ∙ fold-roll-Atom SortKey key_step Atom-F.None

pub key-Unbound : key atom.Unbound ≡ key_step Atom-F.Unbound
unfolding key
key-Unbound = ap (fold-Atom SortKey key_step) (sym atom.rolls-Unbound) ∙ fold-roll-Atom SortKey key_step Atom-F.Unbound

pub key-Open : key atom.Open ≡ key_step Atom-F.Open
unfolding key
key-Open = ap (fold-Atom SortKey key_step) (sym atom.rolls-Open) ∙ fold-roll-Atom SortKey key_step Atom-F.Open

pub key-Here : key atom.Here ≡ key_step Atom-F.Here
unfolding key
key-Here = ap (fold-Atom SortKey key_step) (sym atom.rolls-Here) ∙ fold-roll-Atom SortKey key_step Atom-F.Here

pub keyed-is : (class : ClassId) (slots : Slots (List Atom)) → key_step (map-Atom Atom SortKey key (Atom-F.Gen class slots)) ≡ key_step (Atom-F.Gen class (keyed slots))
keyed-is class (Each types) = refl
keyed-is class (Endless type) = refl
keyed-is class (AnyArguments type) = refl
keyed-is class (Arguments types type) = refl

pub key-Gen : (class : ClassId) (slots : Slots (List Atom)) → key (atom.Gen class slots) ≡ key_step (Atom-F.Gen class (keyed slots))
unfolding key
key-Gen class slots = ap (fold-Atom SortKey key_step) (sym (atom.rolls-Gen class slots)) ∙ fold-roll-Atom SortKey key_step (Atom-F.Gen class slots) ∙ keyed-is class slots

pub key-BuiltMethod : (row : ℕ) (receiver : Atom) → key (atom.BuiltMethod row receiver) ≡ key_step (Atom-F.BuiltMethod row (key receiver))
unfolding key
key-BuiltMethod row receiver = ap (fold-Atom SortKey key_step) (sym (atom.rolls-BuiltMethod row receiver)) ∙ fold-roll-Atom SortKey key_step (Atom-F.BuiltMethod row receiver)

pub ruleset keys = (key-Lit, key-Inst, key-Site, key-Class, key-Func, key-Bound, key-BuiltFunc, key-Super, key-Mod, key-Special, key-Unknown, key-None, key-Unbound, key-Open, key-Here, key-Gen, key-BuiltMethod)

-- the key of one level
pub key-roll : (x : Atom-F Atom) → key (roll-Atom x) ≡ key_step (map-Atom Atom SortKey key x)
unfolding key
key-roll x = fold-roll-Atom SortKey key_step x

abbrev kind_at : Atom-F Atom → ℕ
kind_at x = kind_in (key_step (map-Atom Atom SortKey key x))

abbrev rest_at : Atom-F Atom → SortKey
rest_at x = rest_in (key_step (map-Atom Atom SortKey key x))

Lit-at : (x : Atom-F Atom) → kind_at x ≡ 1 → ((value : Literal) → roll-Atom x ≡ atom.Lit value → ⊥) → ⊥
Lit-at (Atom-F.Lit value) e other = other value (atom.rolls-Lit value)
Lit-at _ e other = omega arith

Gen-at : (x : Atom-F Atom) → kind_at x ≡ 3 → ((class : ClassId) (slots : Slots (List Atom)) → roll-Atom x ≡ atom.Gen class slots → ⊥) → ⊥
Gen-at (Atom-F.Gen class slots) e other = other class slots (atom.rolls-Gen class slots)
Gen-at _ e other = omega arith

BuiltMethod-at : (x : Atom-F Atom) → kind_at x ≡ 8 → ((row : ℕ) (receiver : Atom) → roll-Atom x ≡ atom.BuiltMethod row receiver → ⊥) → ⊥
BuiltMethod-at (Atom-F.BuiltMethod row receiver) e other = other row receiver (atom.rolls-BuiltMethod row receiver)
BuiltMethod-at _ e other = omega arith

flat-at : (x : Atom-F Atom) → kind_at x ≢ 1 → kind_at x ≢ 3 → kind_at x ≢ 8 → rest_at x ≡ end
flat-at (Atom-F.Lit value) a b c = absurd (a refl)
flat-at (Atom-F.Gen class slots) a b c = absurd (b refl)
flat-at (Atom-F.BuiltMethod row receiver) a b c = absurd (c refl)
flat-at _ a b c = refl

-- an atom is one level over the atoms in it
level : (P : Atom → Type 0) → ((x : Atom-F Atom) → P (roll-Atom x)) → (a : Atom) → P a
level P each a = subst P (roll-out-Atom a) (each (out-Atom a))

pub kind-Lit : (b : Atom) → ((value : Literal) → b ≡ atom.Lit value → ⊥) → kind_in (key b) ≢ 1
kind-Lit = level (λ b. ((value : Literal) → b ≡ atom.Lit value → ⊥) → kind_in (key b) ≢ 1) (λ x other e. Lit-at x (sym (ap kind_in (key-roll x)) ∙ e) other)

pub kind-Gen : (b : Atom) → ((class : ClassId) (slots : Slots (List Atom)) → b ≡ atom.Gen class slots → ⊥) → kind_in (key b) ≢ 3
kind-Gen = level (λ b. ((class : ClassId) (slots : Slots (List Atom)) → b ≡ atom.Gen class slots → ⊥) → kind_in (key b) ≢ 3) (λ x other e. Gen-at x (sym (ap kind_in (key-roll x)) ∙ e) other)

pub kind-BuiltMethod : (b : Atom) → ((row : ℕ) (receiver : Atom) → b ≡ atom.BuiltMethod row receiver → ⊥) → kind_in (key b) ≢ 8
kind-BuiltMethod = level (λ b. ((row : ℕ) (receiver : Atom) → b ≡ atom.BuiltMethod row receiver → ⊥) → kind_in (key b) ≢ 8) (λ x other e. BuiltMethod-at x (sym (ap kind_in (key-roll x)) ∙ e) other)

pub rest-flat : (a : Atom) → kind_in (key a) ≢ 1 → kind_in (key a) ≢ 3 → kind_in (key a) ≢ 8 → rest_in (key a) ≡ end
rest-flat = level (λ a. kind_in (key a) ≢ 1 → kind_in (key a) ≢ 3 → kind_in (key a) ≢ 8 → rest_in (key a) ≡ end)
    (λ x a b c. ap rest_in (key-roll x) ∙ flat-at x (λ e. a (ap kind_in (key-roll x) ∙ e)) (λ e. b (ap kind_in (key-roll x) ∙ e)) (λ e. c (ap kind_in (key-roll x) ∙ e)))
