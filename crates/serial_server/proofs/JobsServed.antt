-- The one open job, done.
use Rattle.std.proofs.Common.{◌≡◌, ◌∙◌, inl, inr, ℕ, true, Option, Some, Result, Ok, Err, OnOk, OnErr, List, [], ◌∷◌, ◌++◌, refl, ap, sym, subst}
use Rattle.std.proofs.lemmas.Bool.{eq-eqb}
use Rattle.edge_io.specs.Stream.{behind}
use Rattle.py_base.specs.declared.diag.Diag.{Diag}
use Rattle.py_base.specs.declared.span.Place.{Place}
use Rattle.wire_json.specs.declared.reply.Out.{Out}
use Rattle.session_core.specs.declared.entry.Entry.{Entry}
use Rattle.session_core.specs.declared.job.Work.{Work}
use Rattle.session_core.specs.declared.job.Work.TheVariants.{Hover, Check, Publish}
use Rattle.session_core.specs.declared.job.Outcome.{Outcome}
use Rattle.session_core.specs.declared.job.Outcome.TheVariants.{Listed, Hovered, Cancelled, NoMemory}
use Rattle.session_core.specs.Finished.{Finished}
use Rattle.session_core.specs.Machine.{State}
use Rattle.session_core.specs.Journal.{Run}
use Rattle.session_core.specs.Jobs.{OpenJob, Handed, open_jobs, open_job, handed_job, is_answer, IsDone, entry_of, close_work}
use Rattle.session_core.specs.Calls.{Serving, Finishes, GoesOn}
use Rattle.serial_server.specs.Bytes.{texts}
use Rattle.serial_server.specs.Worked.{is_found, IsWorked}
use Rattle.serial_server.specs.OneJob.{serial_entry}
use Rattle.serial_server.specs.Parts.{PutsPart, Enters, EntersPart}
use Rattle.serial_server.proofs.Entering.{enters_all}

same_front : (xs ys zs : List Entry) → xs ++ ys ≡ xs ++ zs → ys ≡ zs
same_front [] ys zs e = e
same_front (x ∷ xs) ys zs e = same_front xs ys zs (cc)

found_entry : (work : Work) (outcome : Outcome) → is_found outcome ≡ true → entry_of work outcome ≡ serial_entry work
found_entry (Hover id place) (Listed list) found = refl
found_entry (Hover id place) (Hovered type) found = refl
found_entry (Check id) (Listed list) found = refl
found_entry (Check id) (Hovered type) found = refl
found_entry (Publish file version) (Listed list) found = refl
found_entry (Publish file version) (Hovered type) found = refl
found_entry work Cancelled found = cc
found_entry work NoMemory found = cc

found_answers : (outcome : Outcome) → is_found outcome ≡ true → is_answer outcome ≡ true
found_answers (Listed list) found = refl
found_answers (Hovered type) found = refl
found_answers Cancelled found = cc
found_answers NoMemory found = cc

-- the job alone is found by its number
alone_found : (s : State) (number : ℕ) (j : OpenJob) → open_jobs s ≡ j ∷ [] → j.number ≡ number → open_job s number ≡ Some j
alone_found s number j alone same = rw (alone, eq-eqb j.number number same) refl

served_by : (old new : Serving) (done : Finished) (outs : List Out) (j : OpenJob) → open_job old.state done.number ≡ Some j → IsDone done j → is_found done.outcome ≡ true → Finishes old done outs new
    → new ≡ record old { state = close_work old.state j.work; journal = old.journal ++ serial_entry j.work ∷ [] }
served_by old new done outs j is is_done found (inl dropped) = cc (dropped.no_job)
served_by old new done outs j is is_done found (inr (inl back)) =
    let same : back.job ≡ j = cc (back.is_open) in
    absurd (back.undone (subst (λ (k : OpenJob). IsDone done k) (sym same) is_done))
served_by old new done outs j is is_done found (inr (inr taken)) =
    let entry : entry_of done.work done.outcome ≡ serial_entry j.work = found_entry done.work done.outcome found ∙ ap serial_entry is_done.work in
    taken.leads ∙ ap (λ (w : Work). record old { state = close_work old.state w; journal = old.journal ++ entry_of done.work done.outcome ∷ [] }) is_done.work ∙ ap (λ (e : Entry). record old { state = close_work old.state j.work; journal = old.journal ++ e ∷ [] }) entry

worked_done : (j : OpenJob) (job : Handed) (done : Finished) → job ≡ handed_job j → IsWorked job done → IsDone done j
worked_done j job done is worked = record {
  text = worked.text ∙ ap (λ (h : Handed). h.text) is;
  work = worked.work ∙ ap (λ (h : Handed). h.work) is;
  answer = found_answers done.outcome worked.found;
}

pub job_leads : (old new : Serving) (job : Handed) (done : Finished) (outs : List Out) (j : OpenJob) → open_jobs old.state ≡ j ∷ [] → job ≡ handed_job j → IsWorked job done → Finishes old done outs new
    → new ≡ record old { state = close_work old.state j.work; journal = old.journal ++ serial_entry j.work ∷ [] }
job_leads old new job done outs j alone is worked finishes =
    served_by old new done outs j (alone_found old.state done.number j alone (sym (worked.number ∙ ap (λ (h : Handed). h.number) is))) (worked_done j job done is worked) worked.found finishes

-- ---- the accounts of one job

-- of a job that is known to be alone, whatever it is called
pub the_job : (s : State) (job : Handed) → ((k : OpenJob) × (open_jobs s ≡ k ∷ []) × (job ≡ handed_job k)) → (j : OpenJob) → open_jobs s ≡ j ∷ [] → job ≡ handed_job j
the_job s job known j alone =
    let same : known.0 ≡ j = cc (known.1) in
    known.2 ∙ ap handed_job same

pub on_ok : {A E P Q : Type 0} (r : Result A E) → OnOk r P → (P → Q) → OnOk r Q
on_ok (Ok x) p f = f p
on_ok (Err e) p f = p

pub on_err : {A E P Q : Type 0} (r : Result A E) → OnErr r P → (P → Q) → OnErr r Q
on_err (Ok x) p f = p
on_err (Err e) p f = f p

module _ (HasList : List ℕ → List Diag → Type 0) (HasHover : List ℕ → Place → Option (List ℕ) → Type 0) (old new : Serving) (outs : List Out) (j : OpenJob)
    (leads : new ≡ record old { state = close_work old.state j.work; journal = old.journal ++ serial_entry j.work ∷ [] }) (goes : GoesOn HasList HasHover old [] outs new) where
  journal_is : new.journal ≡ old.journal ++ serial_entry j.work ∷ []
  journal_is = ap (λ (v : Serving). v.journal) leads

  job_runs : Run HasList HasHover old.state (serial_entry j.work ∷ []) [] outs new.state
  job_runs =
      let entries : goes.entries ≡ serial_entry j.work ∷ [] = same_front old.journal goes.entries (serial_entry j.work ∷ []) (sym goes.journal ∙ journal_is) in
      subst (λ (es : List Entry). Run HasList HasHover old.state es [] outs new.state) entries goes.run

  pub job_enters : (w w' : Option (List ℕ)) → w' ≡ behind w (texts outs) → Enters HasList HasHover (serial_entry j.work ∷ []) [] old new w w'
  job_enters w w' put = record { outs = outs; run = job_runs; journal = journal_is; written_is = put }

  pub job_breaks : (w w' : Option (List ℕ)) → PutsPart outs w w' → EntersPart HasList HasHover (serial_entry j.work ∷ []) [] old new w w'
  job_breaks w w' put = enters_all HasList HasHover (serial_entry j.work ∷ []) [] outs old new w w' job_runs journal_is put
