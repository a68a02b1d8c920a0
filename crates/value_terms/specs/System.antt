-- The least fixed point of rules that give each key a type (Kleene's iteration of a monotone map over finite sets). The rules are terms, or anything else that keeps
-- the same laws.
use Rattle.std.specs.Prelude.{◌≡◌, ℕ, zero, suc, ◌*◌, List, [], length}
use Rattle.std.specs.List.{Contains}
use Rattle.value_terms.specs.Term.{Term, Assignment, eval, reads}
use Rattle.value_terms.specs.Laws.{IsInside, Below, AgreeAt, IsWithin}

-- the keys, the universe, what each key gets from the types of the keys, and which keys that names
pub record System (K A : Type 0) : Type 0 where
  pub keys : List K
  pub universe : List A
  pub next : Assignment K A → Assignment K A
  pub reads : Assignment K A → K → List K

module _ {K A : Type 0} where
  pub record Lawful (p : System K A) : Type 0 where
    pub monotone : (s t : Assignment K A) → Below s t → Below (p.next s) (p.next t)
    pub reads_grow : (s t : Assignment K A) → Below s t → (k : K) → IsInside (p.reads s k) (p.reads t k)
    pub next_local : (s t : Assignment K A) (k : K) → AgreeAt (p.reads s k) s t → p.next s k ≡ p.next t k
    pub reads_local : (s t : Assignment K A) (k : K) → AgreeAt (p.reads s k) s t → p.reads s k ≡ p.reads t k
    pub reads_within : (s : Assignment K A) → IsWithin (Contains p.keys) (Contains p.universe) s → (k r : K) → Contains p.keys k → Contains (p.reads s k) r → Contains p.keys r
    pub within : (s : Assignment K A) → IsWithin (Contains p.keys) (Contains p.universe) s → IsWithin (Contains p.keys) (Contains p.universe) (p.next s)

  abbrev pub no_types : Assignment K A
  no_types k = []

  -- the types after so many rounds over all keys, from nothing
  abbrev pub rounds : (Assignment K A → Assignment K A) → ℕ → Assignment K A
  rounds next zero = no_types
  rounds next (suc n) = next (rounds next n)

  -- as many rounds as there are members to find
  unfoldable pub lfp : System K A → Assignment K A
  lfp p = rounds p.next (length p.keys * length p.universe)

  -- the rules of terms, one for each key; `type` puts a list of members into the form in which a type is kept
  abbrev pub system_of : List K → List A → (List A → List A) → (K → Term K A) → System K A
  system_of keys universe type rule = record { keys = keys; universe = universe; next = λ s k. type (eval (rule k) s); reads = λ s k. reads (rule k) s }
