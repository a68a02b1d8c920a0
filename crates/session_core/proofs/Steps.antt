-- What the session's calls do are steps of the machine.
use Rattle.std.proofs.Common.{◌≡◌, ◌⊎◌, inl, inr, ℕ, suc, Bool, true, false, cond, Option, Some, None, List, [], ◌∷◌, ◌++◌, refl, ap, sym, subst, arith, option_map, filter_map, Contains}
use Rattle.std.proofs.lemmas.List.{append-nil}
use Rattle.std.specs.List.{find, cons_option}
use Rattle.py_base.specs.declared.diag.Diag.{Diag}
use Rattle.py_base.specs.declared.span.Place.{Place}
use Rattle.wire_json.specs.declared.message.WireStep.{WireStep}
use Rattle.wire_json.specs.declared.reply.Out.{Out}
use Rattle.session_core.specs.declared.entry.Entry.{Entry}
use Rattle.session_core.specs.declared.entry.Entry.TheVariants.{Line}
use Rattle.session_core.specs.declared.request.Request.{Request}
use Rattle.session_core.specs.declared.request.Question.{Question}
use Rattle.session_core.specs.declared.request.Question.TheVariants.{TypeAt, Diagnostics}
use Rattle.session_core.specs.declared.job.Work.{Work}
use Rattle.session_core.specs.declared.job.Work.TheVariants.{Publish}
use Rattle.session_core.specs.declared.job.Outcome.{Outcome}
use Rattle.session_core.specs.declared.job.Outcome.TheVariants.{Listed, Hovered, Cancelled, NoMemory}
use Rattle.session_core.specs.Doc.{Doc, Docs}
use Rattle.session_core.specs.Finished.{Finished, IsOutcomeOf}
use Rattle.session_core.specs.Machine.{State, doc_of, take_line}
use Rattle.session_core.specs.Journal.{Step, Run}
use Rattle.session_core.specs.Jobs.{OpenJob, asked_work, asked_job, publishing_job, request_job, list_job, open_jobs_of, open_job, has_number, IsDone, entry_of, IsOutOf, close_work}
use Rattle.session_core.specs.Calls.{Serving, GoesOn}

-- ---- runs

-- a step is a run
pub one_step : (HasList : List ℕ → List Diag → Type 0) (HasHover : List ℕ → Place → Option (List ℕ) → Type 0) (s : State) (entry : Entry) (lines : List WireStep) (outs : List Out) (t : State) → Step HasList HasHover s entry lines outs t → Run HasList HasHover s (entry ∷ []) lines outs t
one_step HasList HasHover s entry lines outs t step = record {
  state = t;
  first_lines = lines;
  first_outs = outs;
  first = step;
  rest_lines = [];
  rest_outs = [];
  rest = (refl, refl, refl);
  lines_are = sym (append-nil lines);
  outs_are = sym (append-nil outs);
}

-- ---- a line

pub line_goes_on : (HasList : List ℕ → List Diag → Type 0) (HasHover : List ℕ → Place → Option (List ℕ) → Type 0) (old new : Serving) (line : WireStep) (outs : List Out) → old.state.ended ≡ false → new.state ≡ (take_line old.state line).state → outs ≡ (take_line old.state line).outs → new.journal ≡ old.journal ++ Line old.state.taken ∷ []
    → GoesOn HasList HasHover old (line ∷ []) outs new
line_goes_on HasList HasHover old new line outs going leads writes noted = record {
  entries = Line old.state.taken ∷ [];
  journal = noted;
  run = one_step HasList HasHover old.state (Line old.state.taken) (line ∷ []) outs new.state (record { line = line; lines_are = refl; in_turn = refl; going = going; writes = writes; leads = leads });
}

-- ---- a finished job

-- where an open job comes from: a request and the open file that it is about
pub record IsOfRequest (docs : Docs) (requests : List Request) (job : OpenJob) : Type 0 where
  pub request : Request
  pub doc : Doc
  pub is_open : Contains requests request
  pub doc_is : doc_of docs request.file ≡ Some doc
  pub job_is : asked_job request doc ≡ job

-- or a version that waits for its list
pub record IsOfDoc (docs : Docs) (job : OpenJob) : Type 0 where
  pub file : List ℕ
  pub doc : Doc
  pub is_open : Contains docs (file, doc)
  pub waits : doc.published ≡ false
  pub job_is : publishing_job file doc ≡ job

abbrev the_request : ℕ → ℕ → List ℕ → Question → Request
the_request number id file question = record { job = number; id = id; file = file; question = question }

contains_first : {A : Type 0} (x : A) (xs : List A) → Contains (x ∷ xs) x
contains_first x xs = (0, omega arith, refl)

contains_later : {A : Type 0} (x y : A) (xs : List A) → Contains xs y → Contains (x ∷ xs) y
contains_later x y xs (k, within, is) = (suc k, omega arith, is)

doc_later : (docs : Docs) (d : List ℕ × Doc) (job : OpenJob) → IsOfDoc docs job → IsOfDoc (d ∷ docs) job
doc_later docs d job o = record { file = o.file; doc = o.doc; is_open = contains_later d (o.file, o.doc) docs o.is_open; waits = o.waits; job_is = o.job_is }

request_later : (docs : Docs) (r : Request) (rs : List Request) (job : OpenJob) → IsOfRequest docs rs job → IsOfRequest docs (r ∷ rs) job
request_later docs r rs job o = record { request = o.request; doc = o.doc; is_open = contains_later r o.request rs o.is_open; doc_is = o.doc_is; job_is = o.job_is }

-- the job that is found is the first, or one behind it
first_or_later : (number : ℕ) (o : Option OpenJob) (more rest : List OpenJob) (job : OpenJob) → find (has_number number) (cons_option o more ++ rest) ≡ Some job → (o ≡ Some job) ⊎ (find (has_number number) (more ++ rest) ≡ Some job)
first_or_later number None more rest job found = inr found
first_or_later number (Some first) more rest job found = by_test (has_number number first) found
  where
    by_test : (b : Bool) → cond b (Some first) (find (has_number number) (more ++ rest)) ≡ Some job → (Some first ≡ Some job) ⊎ (find (has_number number) (more ++ rest) ≡ Some job)
    by_test true e = inl e
    by_test false e = inr e

doc_first : (docs : Docs) (file : List ℕ) (d : Doc) (job : OpenJob) (b : Bool) → d.published ≡ b → cond b None (Some (publishing_job file d)) ≡ Some job → IsOfDoc ((file, d) ∷ docs) job
doc_first docs file d job true is e = cc
doc_first docs file d job false is e = record { file = file; doc = d; is_open = contains_first (file, d) docs; waits = is; job_is = cc }

of_doc : (number : ℕ) (docs : Docs) (job : OpenJob) → find (has_number number) (filter_map list_job docs) ≡ Some job → IsOfDoc docs job
of_doc number [] job found = cc
of_doc number ((file, d) ∷ docs) job found = elim (first_or_later number (list_job (file, d)) (filter_map list_job docs) [] job (rw append-nil found)) [
  | inl e ↦ doc_first docs file d job d.published refl e
  | inr e ↦ doc_later docs (file, d) job (of_doc number docs job (rw append-nil at e))
]

request_first : (docs : Docs) (r : Request) (rs : List Request) (job : OpenJob) (o : Option Doc) → doc_of docs r.file ≡ o → option_map (asked_job r) o ≡ Some job → IsOfRequest docs (r ∷ rs) job
request_first docs r rs job None is e = cc
request_first docs r rs job (Some doc) is e = record { request = r; doc = doc; is_open = contains_first r rs; doc_is = is; job_is = cc }

pub of_open : (number : ℕ) (docs : Docs) (requests : List Request) (job : OpenJob) → find (has_number number) (open_jobs_of docs requests) ≡ Some job → IsOfRequest docs requests job ⊎ IsOfDoc docs job
of_open number docs [] job found = inr (of_doc number docs job found)
of_open number docs (r ∷ rs) job found = elim (first_or_later number (request_job docs r) (filter_map (request_job docs) rs) (filter_map list_job docs) job found) [
  | inl e ↦ inl (request_first docs r rs job (doc_of docs r.file) refl e)
  | inr e ↦ later (of_open number docs rs job e)
]
  where
    later : IsOfRequest docs rs job ⊎ IsOfDoc docs job → IsOfRequest docs (r ∷ rs) job ⊎ IsOfDoc docs job
    later (inl o) = inl (request_later docs r rs job o)
    later (inr o) = inr o

-- an answer of a request is the machine's step
answers : (HasList : List ℕ → List Diag → Type 0) (HasHover : List ℕ → Place → Option (List ℕ) → Type 0) (s : State) (number id : ℕ) (file : List ℕ) (question : Question) (doc : Doc) (outcome : Outcome) (out : Out)
    → Contains s.requests (the_request number id file question) → doc_of s.docs file ≡ Some doc
    → IsOutcomeOf HasList HasHover doc.text (asked_work id question) outcome → IsOutOf doc.version (asked_work id question) outcome out
    → Step HasList HasHover s (entry_of (asked_work id question) outcome) [] (out ∷ []) (close_work s (asked_work id question))
answers HasList HasHover s number id file (TypeAt place) doc (Hovered type) out is_open doc_is right out_is =
    (refl, record { request = the_request number id file (TypeAt place); doc = doc; asked = record { is_open = is_open; id_is = refl; doc_is = doc_is }; out = out; reply = (type, right, out_is); writes = refl; leads = refl })
answers HasList HasHover s number id file (TypeAt place) doc NoMemory out is_open doc_is right out_is =
    (refl, record { request = the_request number id file (TypeAt place); doc = doc; asked = record { is_open = is_open; id_is = refl; doc_is = doc_is }; writes = ap (λ o. o ∷ []) out_is; leads = refl })
answers HasList HasHover s number id file (TypeAt place) doc (Listed list) out is_open doc_is right out_is = absurd right
answers HasList HasHover s number id file (TypeAt place) doc Cancelled out is_open doc_is right out_is = absurd out_is
answers HasList HasHover s number id file Diagnostics doc (Listed list) out is_open doc_is right out_is =
    (refl, record { request = the_request number id file Diagnostics; doc = doc; asked = record { is_open = is_open; id_is = refl; doc_is = doc_is }; out = out; reply = (list, right, out_is); writes = refl; leads = refl })
answers HasList HasHover s number id file Diagnostics doc NoMemory out is_open doc_is right out_is =
    (refl, record { request = the_request number id file Diagnostics; doc = doc; asked = record { is_open = is_open; id_is = refl; doc_is = doc_is }; writes = ap (λ o. o ∷ []) out_is; leads = refl })
answers HasList HasHover s number id file Diagnostics doc (Hovered type) out is_open doc_is right out_is = absurd right
answers HasList HasHover s number id file Diagnostics doc Cancelled out is_open doc_is right out_is = absurd out_is

-- so is a publication
publishes : (HasList : List ℕ → List Diag → Type 0) (HasHover : List ℕ → Place → Option (List ℕ) → Type 0) (s : State) (file : List ℕ) (doc : Doc) (outcome : Outcome) (out : Out)
    → Contains s.docs (file, doc) → doc.published ≡ false
    → IsOutcomeOf HasList HasHover doc.text (Publish file doc.version) outcome → IsOutOf doc.version (Publish file doc.version) outcome out
    → Step HasList HasHover s (entry_of (Publish file doc.version) outcome) [] (out ∷ []) (close_work s (Publish file doc.version))
publishes HasList HasHover s file doc (Listed list) out is_open waits right out_is =
    (refl, record { doc = doc; waiting = record { is_open = is_open; version_is = refl; waits = waits }; list = list; list_is = right; writes = ap (λ o. o ∷ []) out_is; leads = refl })
publishes HasList HasHover s file doc NoMemory out is_open waits right out_is =
    (refl, record { doc = doc; waiting = record { is_open = is_open; version_is = refl; waits = waits }; writes = ap (λ o. o ∷ []) out_is; leads = refl })
publishes HasList HasHover s file doc (Hovered type) out is_open waits right out_is = absurd right
publishes HasList HasHover s file doc Cancelled out is_open waits right out_is = absurd out_is

-- an open job of the machine's, done
job_step : (HasList : List ℕ → List Diag → Type 0) (HasHover : List ℕ → Place → Option (List ℕ) → Type 0) (s : State) (job : OpenJob) (outcome : Outcome) (out : Out)
    → IsOfRequest s.docs s.requests job ⊎ IsOfDoc s.docs job
    → IsOutcomeOf HasList HasHover job.text job.work outcome → IsOutOf job.version job.work outcome out
    → Step HasList HasHover s (entry_of job.work outcome) [] (out ∷ []) (close_work s job.work)
job_step HasList HasHover s job outcome out (inl o) right out_is =
    let Goal : OpenJob → Type 0 = λ j. IsOutcomeOf HasList HasHover j.text j.work outcome → IsOutOf j.version j.work outcome out → Step HasList HasHover s (entry_of j.work outcome) [] (out ∷ []) (close_work s j.work) in
    subst Goal o.job_is (answers HasList HasHover s o.request.job o.request.id o.request.file o.request.question o.doc outcome out o.is_open o.doc_is) right out_is
job_step HasList HasHover s job outcome out (inr o) right out_is =
    let Goal : OpenJob → Type 0 = λ j. IsOutcomeOf HasList HasHover j.text j.work outcome → IsOutOf j.version j.work outcome out → Step HasList HasHover s (entry_of j.work outcome) [] (out ∷ []) (close_work s j.work) in
    subst Goal o.job_is (publishes HasList HasHover s o.file o.doc outcome out o.is_open o.waits) right out_is

pub done_goes_on : (HasList : List ℕ → List Diag → Type 0) (HasHover : List ℕ → Place → Option (List ℕ) → Type 0) (old new : Serving) (done : Finished) (job : OpenJob) (out : Out) (outs : List Out)
    → open_job old.state done.number ≡ Some job → IsDone done job → IsOutcomeOf HasList HasHover done.text done.work done.outcome → IsOutOf job.version done.work done.outcome out → outs ≡ out ∷ []
    → new.state ≡ close_work old.state done.work → new.journal ≡ old.journal ++ entry_of done.work done.outcome ∷ []
    → GoesOn HasList HasHover old [] outs new
done_goes_on HasList HasHover old new done job out outs open_is is right out_is writes leads noted =
    let right' : IsOutcomeOf HasList HasHover job.text job.work done.outcome = subst (λ (w : Work). IsOutcomeOf HasList HasHover job.text w done.outcome) is.work (subst (λ (t : List ℕ). IsOutcomeOf HasList HasHover t done.work done.outcome) is.text right) in
    let out_is' : IsOutOf job.version job.work done.outcome out = subst (λ (w : Work). IsOutOf job.version w done.outcome out) is.work out_is in
    let step : Step HasList HasHover old.state (entry_of job.work done.outcome) [] (out ∷ []) (close_work old.state job.work) = job_step HasList HasHover old.state job done.outcome out (of_open done.number old.state.docs old.state.requests job open_is) right' out_is' in
    let step' : Step HasList HasHover old.state (entry_of done.work done.outcome) [] (out ∷ []) (close_work old.state done.work) = subst (λ (w : Work). Step HasList HasHover old.state (entry_of w done.outcome) [] (out ∷ []) (close_work old.state w)) (sym is.work) step in
    record {
      entries = entry_of done.work done.outcome ∷ [];
      journal = noted;
      run = one_step HasList HasHover old.state (entry_of done.work done.outcome) [] outs new.state (subst (λ (os : List Out). Step HasList HasHover old.state (entry_of done.work done.outcome) [] os new.state) (sym writes) (subst (λ (t : State). Step HasList HasHover old.state (entry_of done.work done.outcome) [] (out ∷ []) t) (sym leads) step'));
    }
