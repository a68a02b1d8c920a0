-- A session at rest: a line that it takes opens at most one job.
use Rattle.std.proofs.Common.{◌≡◌, ◌∙◌, inl, inr, ℕ, ◌+◌, ◌<◌, Bool, true, false, not, cond, ◌&&◌, Option, Some, None, is_some, List, [], ◌∷◌, ◌++◌, refl, ap, sym, arith, map, filter_map, bytes_eq}
use Rattle.std.proofs.lemmas.Bool.{eq-eqb}
use Rattle.std.proofs.lemmas.Slice.Eq.{bytes_eq-Decides}
use Rattle.std.proofs.lemmas.List.{append-nil}
use Rattle.std.specs.List.{list_all}
use Rattle.std.specs.Map.{values_of, set_value}
use Rattle.std.specs.Option.{option_map_or}
use Rattle.wire_json.specs.declared.message.Msg.{Msg}
use Rattle.wire_json.specs.declared.message.Msg.TheVariants.{Open, Edit, Close, Hover, Check, Cancel, End}
use Rattle.wire_json.specs.declared.message.WireStep.{WireStep}
use Rattle.wire_json.specs.declared.message.WireStep.TheVariants as steps
use Rattle.wire_json.specs.declared.reply.SessionRefusal.{SessionRefusal}
use Rattle.session_core.specs.declared.entry.Entry.{Entry}
use Rattle.session_core.specs.declared.entry.Entry.TheVariants.{Answer}
use Rattle.session_core.specs.declared.request.Request.{Request}
use Rattle.session_core.specs.declared.request.Question.{Question}
use Rattle.session_core.specs.declared.request.Question.TheVariants.{TypeAt, Diagnostics}
use Rattle.session_core.specs.Doc.{Doc, Docs}
use Rattle.session_core.specs.Machine.{State, doc_of, is_open, version_of, refusal_of, open_refusal, close_refusal, edit_refusal, request_refusal, new_doc, put_doc, close_doc, mark_published, published_doc, take_line, unless_refused, accept, ask, close_requests, close_request, has_id}
use Rattle.session_core.specs.Journal.{IsAtRest, unpublished, settled, says_end, is_end}
use Rattle.session_core.specs.Jobs.{asked_work, asked_job, publishing_job, list_job, close_work}
use Rattle.serial_server.specs.OneJob.{serial_entry, IsIdle, IsBusy, HasOneJob}

abbrev pub are_published : Docs → Bool
are_published docs = list_all (λ doc. doc.published) (values_of docs)

abbrev pub all_marked : Docs → Docs
all_marked docs = map (λ entry. (entry.0, published_doc entry.1)) docs

-- ---- files whose versions are published

and_first : (a b : Bool) → (a && b) ≡ true → a ≡ true
and_first true b e = refl
and_first false b e = cc

and_rest : (a b : Bool) → (a && b) ≡ true → b ≡ true
and_rest true b e = e
and_rest false b e = cc

first_published : (d : List ℕ × Doc) (docs : Docs) → are_published (d ∷ docs) ≡ true → d.1.published ≡ true
first_published d docs all = and_first d.1.published (are_published docs) all

rest_published : (d : List ℕ × Doc) (docs : Docs) → are_published (d ∷ docs) ≡ true → are_published docs ≡ true
rest_published d docs all = and_rest d.1.published (are_published docs) all

lists_behind : (docs more : Docs) → are_published docs ≡ true → filter_map list_job (docs ++ more) ≡ filter_map list_job more
lists_behind [] more all = refl
lists_behind (d ∷ docs) more all = rw (first_published d docs all) (lists_behind docs more (rest_published d docs all))

unpublished_behind : (docs more : Docs) → are_published docs ≡ true → unpublished (docs ++ more) ≡ unpublished more
unpublished_behind [] more all = refl
unpublished_behind (d ∷ docs) more all = rw (first_published d docs all) (unpublished_behind docs more (rest_published d docs all))

marked_same : (d : List ℕ × Doc) → d.1.published ≡ true → (d.0, published_doc d.1) ≡ d
marked_same (file, doc) is = ap (λ (b : Bool). (file, record doc { published = b })) (sym is)

marked_behind : (docs more : Docs) → are_published docs ≡ true → all_marked (docs ++ more) ≡ docs ++ all_marked more
marked_behind [] more all = refl
marked_behind (d ∷ docs) more all = rw (marked_same d (first_published d docs all), marked_behind docs more (rest_published d docs all)) refl

no_lists : (docs : Docs) → are_published docs ≡ true → filter_map list_job docs ≡ []
no_lists docs all = ap (λ ds. filter_map list_job ds) (sym (append-nil docs)) ∙ lists_behind docs [] all

none_unpublished : (docs : Docs) → are_published docs ≡ true → unpublished docs ≡ []
none_unpublished docs all = ap unpublished (sym (append-nil docs)) ∙ unpublished_behind docs [] all

all_marked-same : (docs : Docs) → are_published docs ≡ true → all_marked docs ≡ docs
all_marked-same docs all = ap all_marked (sym (append-nil docs)) ∙ marked_behind docs [] all ∙ append-nil docs

all_marked-published : (docs : Docs) → are_published (all_marked docs) ≡ true
all_marked-published [] = refl
all_marked-published (d ∷ docs) = all_marked-published docs

closed_published : (docs : Docs) (file : List ℕ) → are_published docs ≡ true → are_published (close_doc docs file) ≡ true
closed_published [] file all = refl
closed_published (d ∷ docs) file all = elim (bytes_eq file d.0) as (λ b. are_published (cond b docs (d ∷ close_doc docs file)) ≡ true) [
  | true ↦ rest_published d docs all
  | false ↦ rw (first_published d docs all) (closed_published docs file (rest_published d docs all))
]

-- ---- files of which one version waits

-- the file of this name has this new version, and every other version is published
pub record HasNew (docs : Docs) (file : List ℕ) (new : Doc) : Type 0 where
  pub front : Docs
  pub back : Docs
  pub docs_are : docs ≡ front ++ (file, new) ∷ back
  pub front_published : are_published front ≡ true
  pub back_published : are_published back ≡ true
  pub first : doc_of front file ≡ None
  pub waits : new.published ≡ false

same_bytes : (xs : List ℕ) → bytes_eq xs xs ≡ true
same_bytes xs = (bytes_eq-Decides xs xs).1 refl

none_first : (b : Bool) (doc : Doc) (rest : Option Doc) → cond b (Some doc) rest ≡ None → b ≡ false
none_first true doc rest e = cc
none_first false doc rest e = refl

none_rest : (b : Bool) (doc : Doc) (rest : Option Doc) → cond b (Some doc) rest ≡ None → rest ≡ None
none_rest true doc rest e = cc
none_rest false doc rest e = e

found_behind : (file : List ℕ) (front more : Docs) → doc_of front file ≡ None → doc_of (front ++ more) file ≡ doc_of more file
found_behind file [] more none = refl
found_behind file (d ∷ front) more none = rw (none_first (bytes_eq file d.0) d.1 (doc_of front file) none) (found_behind file front more (none_rest (bytes_eq file d.0) d.1 (doc_of front file) none))

set_behind : (file : List ℕ) (front more : Docs) (doc : Doc) → doc_of front file ≡ None → set_value (bytes_eq file) (front ++ more) doc ≡ front ++ set_value (bytes_eq file) more doc
set_behind file [] more doc none = refl
set_behind file (d ∷ front) more doc none = rw (none_first (bytes_eq file d.0) d.1 (doc_of front file) none) (ap (λ (ds : Docs). d ∷ ds) (set_behind file front more doc (none_rest (bytes_eq file d.0) d.1 (doc_of front file) none)))

new_lists : (docs : Docs) (file : List ℕ) (new : Doc) → HasNew docs file new → filter_map list_job docs ≡ publishing_job file new ∷ []
new_lists docs file new h = rw h.docs_are (lists_behind h.front ((file, new) ∷ h.back) h.front_published ∙ rw h.waits (ap (λ js. publishing_job file new ∷ js) (no_lists h.back h.back_published)))

first_unpublished : (file : List ℕ) (new : Doc) (docs : Docs) → new.published ≡ false → unpublished ((file, new) ∷ docs) ≡ (file, new) ∷ unpublished docs
first_unpublished file new docs waits = ap (λ b. cond (not b) ((file, new) ∷ unpublished docs) (unpublished docs)) waits

new_unpublished : (docs : Docs) (file : List ℕ) (new : Doc) → HasNew docs file new → unpublished docs ≡ (file, new) ∷ []
new_unpublished docs file new h = rw h.docs_are (unpublished_behind h.front ((file, new) ∷ h.back) h.front_published ∙ first_unpublished file new h.back h.waits ∙ ap (λ (ds : Docs). (file, new) ∷ ds) (none_unpublished h.back h.back_published))

marks_new : (file : List ℕ) (new : Doc) (front back : Docs) → doc_of front file ≡ None → mark_published (front ++ (file, new) ∷ back) file ≡ front ++ (file, published_doc new) ∷ back
marks_new file new front back none =
    let found : doc_of (front ++ (file, new) ∷ back) file ≡ Some new = found_behind file front ((file, new) ∷ back) none ∙ rw (same_bytes file) refl in
    ap (λ (o : Option Doc). option_map_or (λ doc. set_value (bytes_eq file) (front ++ (file, new) ∷ back) (published_doc doc)) o (front ++ (file, new) ∷ back)) found
    ∙ set_behind file front ((file, new) ∷ back) (published_doc new) none
    ∙ rw (same_bytes file) refl

new_marked : (docs : Docs) (file : List ℕ) (new : Doc) → HasNew docs file new → all_marked docs ≡ mark_published docs file
new_marked docs file new h =
    rw h.docs_are (marked_behind h.front ((file, new) ∷ h.back) h.front_published ∙ ap (λ (ds : Docs). h.front ++ (file, published_doc new) ∷ ds) (all_marked-same h.back h.back_published) ∙ sym (marks_new file new h.front h.back h.first))

new_later : (d : List ℕ × Doc) (docs : Docs) (file : List ℕ) (new : Doc) → d.1.published ≡ true → bytes_eq file d.0 ≡ false → HasNew docs file new → HasNew (d ∷ docs) file new
new_later d docs file new is other h = record {
  front = d ∷ h.front;
  back = h.back;
  docs_are = ap (λ (ds : Docs). d ∷ ds) h.docs_are;
  front_published = rw is h.front_published;
  back_published = h.back_published;
  first = rw other h.first;
  waits = h.waits;
}

put_first : (d : List ℕ × Doc) (docs changed : Docs) (file : List ℕ) (new : Doc) (b : Bool) → bytes_eq file d.0 ≡ b → are_published (d ∷ docs) ≡ true → new.published ≡ false → HasNew changed file new → HasNew (cond b ((d.0, new) ∷ docs) (d ∷ changed)) file new
put_first d docs changed file new true is all waits later =
    let same : file ≡ d.0 = (bytes_eq-Decides file d.0).0 is in
    record { front = []; back = docs; docs_are = ap (λ (f : List ℕ). (f, new) ∷ docs) (sym same); front_published = refl; back_published = rest_published d docs all; first = refl; waits = waits }
put_first d docs changed file new false is all waits later = new_later d changed file new (first_published d docs all) is later

-- a new version stands in the place of the old one, or last
put_new : (docs : Docs) (file : List ℕ) (new : Doc) → are_published docs ≡ true → new.published ≡ false → HasNew (put_doc docs file new) file new
put_new [] file new all waits = record { front = []; back = []; docs_are = refl; front_published = refl; back_published = refl; first = refl; waits = waits }
put_new (d ∷ docs) file new all waits = put_first d docs (put_doc docs file new) file new (bytes_eq file d.0) refl all waits (put_new docs file new (rest_published d docs all) waits)

-- ---- states

rest_idle : (t : State) → IsAtRest t → IsIdle t
rest_idle t at_rest = record {
  jobs = rw (at_rest.answered, no_lists t.docs at_rest.published) refl;
  entries = rw (at_rest.answered, none_unpublished t.docs at_rest.published) refl;
  rests = ap (λ (ds : Docs). record t { docs = ds; requests = [] }) (all_marked-same t.docs at_rest.published) ∙ ap (λ (rs : List Request). record t { requests = rs }) (sym at_rest.answered);
}

pub settled_rests : (t : State) → IsAtRest (settled t)
settled_rests t = record { answered = refl; published = all_marked-published t.docs }

list_busy : (made : ℕ) (t : State) (file : List ℕ) (new : Doc) → t.requests ≡ [] → HasNew t.docs file new → made < new.job → IsBusy made t (publishing_job file new)
list_busy made t file new none h above = record {
  jobs = rw (none, new_lists t.docs file new h) refl;
  entries = rw (none, new_unpublished t.docs file new h) refl;
  rests = ap (λ (ds : Docs). record t { docs = ds; requests = [] }) (new_marked t.docs file new h) ∙ ap (λ (rs : List Request). record t { docs = mark_published t.docs file; requests = rs }) (sym none);
  above = above;
}

asked_entry : (id : ℕ) (question : Question) → Answer id ≡ serial_entry (asked_work id question)
asked_entry id (TypeAt place) = refl
asked_entry id Diagnostics = refl

close_asked : (t : State) (id : ℕ) (question : Question) → close_work t (asked_work id question) ≡ close_request t id
close_asked t id (TypeAt place) = refl
close_asked t id Diagnostics = refl

close_only : (r : Request) → close_requests (has_id r.id) (r ∷ []) ≡ []
close_only r = rw (eq-eqb r.id r.id refl) refl

request_busy : (made : ℕ) (t : State) (r : Request) (doc : Doc) → t.requests ≡ r ∷ [] → are_published t.docs ≡ true → doc_of t.docs r.file ≡ Some doc → made < r.job → IsBusy made t (asked_job r doc)
request_busy made t r doc one all is above = record {
  jobs = rw (one, is, no_lists t.docs all) refl;
  entries = rw (one, none_unpublished t.docs all) (ap (λ (e : Entry). e ∷ []) (asked_entry r.id r.question));
  rests = ap (λ (ds : Docs). record t { docs = ds; requests = [] }) (all_marked-same t.docs all)
      ∙ ap (λ (rs : List Request). record t { requests = rs }) (sym (close_only r))
      ∙ ap (λ (rs : List Request). record t { requests = close_requests (has_id r.id) rs }) (sym one)
      ∙ sym (close_asked t r.id r.question);
  above = above;
}

-- ---- what is not refused

asked_open : (b : Bool) (x : SessionRefusal) (y : Option SessionRefusal) → cond (not b) (Some x) y ≡ None → b ≡ true
asked_open true x y e = refl
asked_open false x y e = cc

is_there : (o : Option Doc) → is_some o ≡ true → (doc : Doc) × (o ≡ Some doc)
is_there None found = cc
is_there (Some doc) found = (doc, refl)

-- ---- a line, taken at rest, opens at most one job

above_made : (made : ℕ) → made < made + 1
above_made made = omega arith

still_rests : (s : State) (taken : ℕ) (ended : Bool) (docs : Docs) (requests : List Request) → requests ≡ [] → are_published docs ≡ true → HasOneJob s.made (record { taken = taken; ended = ended; made = s.made; docs = docs; requests = requests })
still_rests s taken ended docs requests none all = inl (rest_idle (record { taken = taken; ended = ended; made = s.made; docs = docs; requests = requests }) (record { answered = none; published = all }))

ask_one : (s : State) (id : ℕ) (file : List ℕ) (question : Question) → IsAtRest s → request_refusal s.docs s.requests id file ≡ None → HasOneJob s.made (ask s id file question).state
ask_one s id file question at_rest taken =
    let found = is_there (doc_of s.docs file) (asked_open (is_open s.docs file) _ _ taken) in
    inr (_, request_busy s.made (ask s id file question).state (record { job = s.made + 1; id = id; file = file; question = question }) found.0 (rw at_rest.answered refl) at_rest.published found.1 (above_made s.made))

accept_one : (s : State) (message : Msg) → IsAtRest s → refusal_of s.docs s.requests message ≡ None → HasOneJob s.made (accept s message).state
accept_one s (Open file version text) at_rest taken =
    inr (_, list_busy s.made (accept s (Open file version text)).state file (new_doc (s.made + 1) version text) at_rest.answered (put_new s.docs file (new_doc (s.made + 1) version text) at_rest.published refl) (above_made s.made))
accept_one s (Edit file version text) at_rest taken =
    inr (_, list_busy s.made (accept s (Edit file version text)).state file (new_doc (s.made + 1) version text) (rw at_rest.answered refl) (put_new s.docs file (new_doc (s.made + 1) version text) at_rest.published refl) (above_made s.made))
accept_one s (Close file) at_rest taken = still_rests s _ _ (close_doc s.docs file) _ (rw at_rest.answered refl) (closed_published s.docs file at_rest.published)
accept_one s (Hover id file place) at_rest taken = ask_one s id file (TypeAt place) at_rest taken
accept_one s (Check id file) at_rest taken = ask_one s id file Diagnostics at_rest taken
accept_one s (Cancel id) at_rest taken = still_rests s _ _ s.docs _ (rw at_rest.answered refl) at_rest.published
accept_one s End at_rest taken = still_rests s _ _ s.docs s.requests at_rest.answered at_rest.published

message_one : (s : State) (message : Msg) (o : Option SessionRefusal) → IsAtRest s → refusal_of s.docs s.requests message ≡ o → HasOneJob s.made (unless_refused s message o).state
message_one s message (Some refusal) at_rest is = still_rests s _ _ s.docs s.requests at_rest.answered at_rest.published
message_one s message None at_rest is = accept_one s message at_rest is

pub line_one : (s : State) (line : WireStep) → IsAtRest s → HasOneJob s.made (take_line s line).state
line_one s (steps.Message message) at_rest = message_one s message (refusal_of s.docs s.requests message) at_rest refl
line_one s (steps.Refused refusal) at_rest = still_rests s _ _ s.docs s.requests at_rest.answered at_rest.published
line_one s (steps.Reply bytes) at_rest = still_rests s _ _ s.docs s.requests at_rest.answered at_rest.published

-- ---- counts

message_taken : (s : State) (message : Msg) (o : Option SessionRefusal) → (unless_refused s message o).state.taken ≡ s.taken + 1
message_taken s message (Some refusal) = refl
message_taken s (Open file version text) None = refl
message_taken s (Edit file version text) None = refl
message_taken s (Close file) None = refl
message_taken s (Hover id file place) None = refl
message_taken s (Check id file) None = refl
message_taken s (Cancel id) None = refl
message_taken s End None = refl

pub line_taken : (s : State) (line : WireStep) → (take_line s line).state.taken ≡ s.taken + 1
line_taken s (steps.Message message) = message_taken s message (refusal_of s.docs s.requests message)
line_taken s (steps.Refused refusal) = refl
line_taken s (steps.Reply bytes) = refl

-- a message that doesn't end the session leaves it going, refused or not
message_goes : (s : State) (message : Msg) (o : Option SessionRefusal) → s.ended ≡ false → is_end message ≡ false → (unless_refused s message o).state.ended ≡ false
message_goes s message (Some refusal) going is = going
message_goes s (Open file version text) None going is = going
message_goes s (Edit file version text) None going is = going
message_goes s (Close file) None going is = going
message_goes s (Hover id file place) None going is = going
message_goes s (Check id file) None going is = going
message_goes s (Cancel id) None going is = going
message_goes s End None going is = cc

-- a session goes on behind each line but one that ends it
pub line_ended : (s : State) (line : WireStep) → s.ended ≡ false → (take_line s line).state.ended ≡ says_end line
line_ended s (steps.Message (Open file version text)) going = message_goes s (Open file version text) (open_refusal s.docs file) going refl
line_ended s (steps.Message (Edit file version text)) going = message_goes s (Edit file version text) (edit_refusal (version_of s.docs file) version) going refl
line_ended s (steps.Message (Close file)) going = message_goes s (Close file) (close_refusal s.docs file) going refl
line_ended s (steps.Message (Hover id file place)) going = message_goes s (Hover id file place) (request_refusal s.docs s.requests id file) going refl
line_ended s (steps.Message (Check id file)) going = message_goes s (Check id file) (request_refusal s.docs s.requests id file) going refl
line_ended s (steps.Message (Cancel id)) going = going
line_ended s (steps.Message End) going = refl
line_ended s (steps.Refused refusal) going = going
line_ended s (steps.Reply bytes) going = going
