-- The jobs of the versions that wait, one file after another.
use Rattle.std.proofs.Common.{◌≡◌, ◌∙◌, ℕ, ◌+◌, Bool, true, false, cond, Some, None, List, [], ◌∷◌, ◌++◌, map, filter, filter_map, option_map, slice_get, drop, refl, ap, sym, append_assoc}
use Rattle.std.proofs.lemmas.List.{map-append}
use Rattle.std.specs.List.{cons_option}
use Rattle.session_core.specs.Doc.{Doc, Docs}
use Rattle.session_core.specs.Jobs.{Handed, publishing_job, handed_job, list_job, is_waiting, waits, waiting_lists}
use Rattle.session_core.proofs.Lists.{drops_at}

-- the job of a version comes before those of the files behind it, where it waits
first_waits : (handed : ℕ) (back : List ℕ) (file : List ℕ) (doc : Doc) (rest : Docs) → is_waiting handed back doc.job ≡ true
    → waiting_lists handed back ((file, doc) ∷ rest) ≡ cons_option (option_map handed_job (list_job (file, doc))) (waiting_lists handed back rest)
first_waits handed back file doc rest is = by_test doc.published
  where
    by_test : (b : Bool) → map handed_job (filter (waits handed back) (cons_option (cond b None (Some (publishing_job file doc))) (filter_map list_job rest))) ≡ cons_option (option_map handed_job (cond b None (Some (publishing_job file doc)))) (waiting_lists handed back rest)
    by_test true = refl
    by_test false = rw is refl

first_other : (handed : ℕ) (back : List ℕ) (file : List ℕ) (doc : Doc) (rest : Docs) → is_waiting handed back doc.job ≡ false → waiting_lists handed back ((file, doc) ∷ rest) ≡ waiting_lists handed back rest
first_other handed back file doc rest is = by_test doc.published
  where
    by_test : (b : Bool) → map handed_job (filter (waits handed back) (cons_option (cond b None (Some (publishing_job file doc))) (filter_map list_job rest))) ≡ waiting_lists handed back rest
    by_test true = refl
    by_test false = rw is refl

module _ (handed : ℕ) (back : List ℕ) (docs : Docs) (i : ℕ) (file : List ℕ) (doc : Doc) (at : slice_get docs i ≡ Some (file, doc)) where
  here : waiting_lists handed back (drop i docs) ≡ waiting_lists handed back ((file, doc) ∷ drop (i + 1) docs)
  here = ap (waiting_lists handed back) (drops_at docs i (file, doc) at)

  pub past_other : is_waiting handed back doc.job ≡ false → waiting_lists handed back (drop (i + 1) docs) ≡ waiting_lists handed back (drop i docs)
  past_other is = sym (here ∙ first_other handed back file doc (drop (i + 1) docs) is)

  pub past_published : is_waiting handed back doc.job ≡ true → None ≡ option_map handed_job (list_job (file, doc)) → waiting_lists handed back (drop (i + 1) docs) ≡ waiting_lists handed back (drop i docs)
  past_published is none = sym (here ∙ first_waits handed back file doc (drop (i + 1) docs) is ∙ ap (λ o. cons_option o (waiting_lists handed back (drop (i + 1) docs))) (sym none))

  pub past_waiting : {J : Type 0} (view : J → Handed) (jobs : List J) (job : J) → is_waiting handed back doc.job ≡ true → Some (view job) ≡ option_map handed_job (list_job (file, doc))
      → map view (jobs ++ job ∷ []) ++ waiting_lists handed back (drop (i + 1) docs) ≡ map view jobs ++ waiting_lists handed back (drop i docs)
  past_waiting view jobs job is some =
      ap (λ hs. hs ++ waiting_lists handed back (drop (i + 1) docs)) (map-append view jobs (job ∷ []))
      ∙ append_assoc (map view jobs) (view job ∷ []) (waiting_lists handed back (drop (i + 1) docs))
      ∙ ap (λ hs. map view jobs ++ hs) (sym (here ∙ first_waits handed back file doc (drop (i + 1) docs) is ∙ ap (λ o. cons_option o (waiting_lists handed back (drop (i + 1) docs))) (sym some)))
