-- Lines up to the first that ends the session, and the mark of a source that has ended.
use Rattle.std.proofs.Common.{◌≡◌, ◌∙◌, ◌⊎◌, inl, inr, sym, ap, ℕ, Bool, true, false, cond, ◌||◌, List, [], ◌∷◌, ◌++◌, refl}
use Rattle.std.proofs.lemmas.List.Folds.{list_any-append}
use Rattle.serial_session.specs.Journal.{is_end_line, until_end, has_end}
use Rattle.serial_session.specs.Served.{IsMarked}

-- behind lines of which none ends the session the others follow
pub until_end-going : (line : List ℕ) (more : List (List ℕ)) → is_end_line line ≡ false → until_end (line ∷ more) ≡ line ∷ until_end more
until_end-going line more is = rw is refl

pub until_end-at : (line : List ℕ) (more : List (List ℕ)) → is_end_line line ≡ true → until_end (line ∷ more) ≡ line ∷ []
until_end-at line more is = rw is refl

pub until_end-first : (line : List ℕ) (more : List (List ℕ)) → (rest : List (List ℕ)) × (until_end (line ∷ more) ≡ line ∷ rest)
until_end-first line more = elim (is_end_line line) as (λ b. (rest : List (List ℕ)) × (cond b (line ∷ []) (line ∷ until_end more) ≡ line ∷ rest)) [ true ↦ ([], refl) | false ↦ (until_end more, refl) ]

pub has_end-more : (lines : List (List ℕ)) (line : List ℕ) → has_end lines ≡ false → has_end (lines ++ line ∷ []) ≡ is_end_line line
has_end-more lines line none = list_any-append is_end_line lines (line ∷ []) ∙ rw none (or_false (is_end_line line))
  where
    or_false : (b : Bool) → (b || false) ≡ b
    or_false true = refl
    or_false false = refl

-- a call of the reader keeps what the source's mark says
pub marks : {X : Type 0} (ended : X → Bool) (first old new : X) (at_end at_end' : Bool) → IsMarked (ended first) (ended old) at_end → ((new ≡ old) × (at_end' ≡ at_end)) ⊎ (ended new ≡ at_end') → IsMarked (ended first) (ended new) at_end'
marks ended first old new at_end at_end' before (inr now) = inr now
marks ended first old new at_end at_end' (inl (as_first, going)) (inl (same, kept)) = inl (ap ended same ∙ as_first, kept ∙ going)
marks ended first old new at_end at_end' (inr marked) (inl (same, kept)) = inr (ap ended same ∙ marked ∙ sym kept)
