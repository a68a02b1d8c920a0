-- The open jobs, looked through one request after another.
use Rattle.std.proofs.Common.{slice_get, cond, ◌∙◌, ◌≡◌, ◌≢◌, ◌<◌, ◌+◌, ℕ, length, get_or, drop, Bool, true, false, Option, Some, None, List, ◌∷◌, ◌++◌, refl, ap, option_map, filter_map}
use Rattle.std.proofs.lemmas.Bool.{eq-eqb, ne_eqb}
use Rattle.std.specs.List.{find, cons_option}
use Rattle.session_core.specs.declared.request.Request.{Request}
use Rattle.session_core.specs.Doc.{Doc, Docs}
use Rattle.session_core.specs.Machine.{doc_of}
use Rattle.session_core.proofs.Lists.{drops, drops_at}
use Rattle.session_core.specs.Jobs.{OpenJob, asked_job, publishing_job, request_job, list_job, open_jobs_of, has_number}

-- the job of this number among those of these requests and of the lists
abbrev pub found_job : ℕ → Docs → List Request → Option OpenJob
found_job number docs requests = find (has_number number) (open_jobs_of docs requests)

pub found_first : (number : ℕ) (docs : Docs) (r : Request) (rs : List Request) (doc : Doc) → r.job ≡ number → doc_of docs r.file ≡ Some doc → found_job number docs (r ∷ rs) ≡ Some (asked_job r doc)
found_first number docs r rs doc same is = rw (is, eq-eqb r.job number same) refl

pub found_later : (number : ℕ) (docs : Docs) (r : Request) (rs : List Request) → r.job ≢ number → found_job number docs (r ∷ rs) ≡ found_job number docs rs
found_later number docs r rs other = elim (doc_of docs r.file) as (λ o. find (has_number number) (cons_option (option_map (asked_job r) o) (filter_map (request_job docs) rs) ++ filter_map list_job docs) ≡ found_job number docs rs) [
  | None ↦ refl
  | Some doc ↦ rw (ne_eqb r.job number other) refl
]

pub found_behind : (number : ℕ) (docs : Docs) (r : Request) (rs : List Request) → doc_of docs r.file ≡ None → found_job number docs (r ∷ rs) ≡ found_job number docs rs
found_behind number docs r rs none = rw none refl

-- ---- at a place of the requests

pub found_at_place : (number : ℕ) (docs : Docs) (rs : List Request) (i : ℕ) (r : Request) (doc : Doc) → i < length rs → r ≡ get_or rs i r → r.job ≡ number → doc_of docs r.file ≡ Some doc → found_job number docs (drop i rs) ≡ Some (asked_job r doc)
found_at_place number docs rs i r doc within is same open_is = rw (drops rs i r within is) (found_first number docs r (drop (i + 1) rs) doc same open_is)

pub found_past_other : (number : ℕ) (docs : Docs) (rs : List Request) (i : ℕ) (r : Request) → i < length rs → r ≡ get_or rs i r → r.job ≢ number → found_job number docs (drop i rs) ≡ found_job number docs (drop (i + 1) rs)
found_past_other number docs rs i r within is other = rw (drops rs i r within is) (found_later number docs r (drop (i + 1) rs) other)

pub found_past_none : (number : ℕ) (docs : Docs) (rs : List Request) (i : ℕ) (r : Request) → i < length rs → r ≡ get_or rs i r → doc_of docs r.file ≡ None → found_job number docs (drop i rs) ≡ found_job number docs (drop (i + 1) rs)
found_past_none number docs rs i r within is none = rw (drops rs i r within is) (found_behind number docs r (drop (i + 1) rs) none)

-- ---- at a place of the files

-- the job of this number among those of the lists
abbrev pub found_list : ℕ → Docs → Option OpenJob
found_list number docs = find (has_number number) (filter_map list_job docs)

pub list_at_place : (number : ℕ) (docs : Docs) (i : ℕ) (file : List ℕ) (doc : Doc) → slice_get docs i ≡ Some (file, doc) → doc.published ≡ false → doc.job ≡ number → found_list number (drop i docs) ≡ Some (publishing_job file doc)
list_at_place number docs i file doc at waits same = rw (drops_at docs i (file, doc) at, waits, eq-eqb doc.job number same) refl

pub list_past_published : (number : ℕ) (docs : Docs) (i : ℕ) (file : List ℕ) (doc : Doc) → slice_get docs i ≡ Some (file, doc) → doc.published ≡ true → found_list number (drop i docs) ≡ found_list number (drop (i + 1) docs)
list_past_published number docs i file doc at published = rw (drops_at docs i (file, doc) at, published) refl

pub list_past_other : (number : ℕ) (docs : Docs) (i : ℕ) (file : List ℕ) (doc : Doc) → slice_get docs i ≡ Some (file, doc) → doc.job ≢ number → found_list number (drop i docs) ≡ found_list number (drop (i + 1) docs)
list_past_other number docs i file doc at other = ap (found_list number) (drops_at docs i (file, doc) at) ∙ by_test doc.published
  where
    by_test : (b : Bool) → find (has_number number) (cons_option (cond b None (Some (publishing_job file doc))) (filter_map list_job (drop (i + 1) docs))) ≡ found_list number (drop (i + 1) docs)
    by_test true = refl
    by_test false = rw (ne_eqb doc.job number other) refl
