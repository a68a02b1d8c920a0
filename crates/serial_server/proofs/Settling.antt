-- What is open behind a line, answered.
use Rattle.std.proofs.Common.{◌≡◌, ◌∙◌, ◌⊎◌, inl, inr, ℕ, ◌+◌, ◌<◌, length, arith, true, false, cond, ◌||◌, Option, List, [], ◌∷◌, ◌++◌, refl, ap, sym, subst, map, filter, filter_map}
use Rattle.std.proofs.lemmas.Bool.{lt-ltb}
use Rattle.std.proofs.lemmas.List.{append-nil}
use Rattle.py_base.specs.declared.diag.Diag.{Diag}
use Rattle.py_base.specs.declared.span.Place.{Place}
use Rattle.session_core.specs.declared.entry.Entry.{Entry}
use Rattle.session_core.specs.Machine.{State}
use Rattle.session_core.specs.Journal.{Run, settling, settled}
use Rattle.session_core.specs.Jobs.{OpenJob, Handed, open_jobs, request_job, list_job, handed_job, close_work, waits, is_back}
use Rattle.session_core.specs.Calls.{Serving, hand_out, waiting_jobs}
use Rattle.serial_server.specs.OneJob.{IsIdle, IsBusy, HasOneJob, serial_entry}
use Rattle.serial_server.specs.Parts.{Enters, EntersPart, Settles}
use Rattle.serial_server.proofs.Streams.{behind-nil}

-- ---- which jobs wait

both_parts : (handed : ℕ) (back : List ℕ) (xs ys : List OpenJob) → map handed_job (filter (waits handed back) xs) ++ map handed_job (filter (waits handed back) ys) ≡ map handed_job (filter (waits handed back) (xs ++ ys))
both_parts handed back [] ys = refl
both_parts handed back (x ∷ xs) ys = elim (waits handed back x) as (λ b. map handed_job (cond b (x ∷ filter (waits handed back) xs) (filter (waits handed back) xs)) ++ map handed_job (filter (waits handed back) ys) ≡ map handed_job (cond b (x ∷ filter (waits handed back) (xs ++ ys)) (filter (waits handed back) (xs ++ ys)))) [
  | true ↦ ap (λ (hs : List Handed). handed_job x ∷ hs) (both_parts handed back xs ys)
  | false ↦ both_parts handed back xs ys
]

waiting_is : (v : Serving) → waiting_jobs v ≡ map handed_job (filter (waits v.handed v.back) (open_jobs v.state))
waiting_is v = both_parts v.handed v.back (filter_map (request_job v.state.docs) v.state.requests) (filter_map list_job v.state.docs)

waiting_idle : (v : Serving) → IsIdle v.state → waiting_jobs v ≡ []
waiting_idle v idle = waiting_is v ∙ ap (λ (js : List OpenJob). map handed_job (filter (waits v.handed v.back) js)) idle.jobs

newer_waits : (handed : ℕ) (back : List ℕ) (job : OpenJob) → handed < job.number → map handed_job (filter (waits handed back) (job ∷ [])) ≡ handed_job job ∷ []
newer_waits handed back job above = ap (λ b. map handed_job (cond (b || is_back back job.number) (job ∷ []) [])) (lt-ltb handed job.number above)

waiting_busy : (v : Serving) (job : OpenJob) → IsBusy v.handed v.state job → waiting_jobs v ≡ handed_job job ∷ []
waiting_busy v job busy = waiting_is v ∙ ap (λ (js : List OpenJob). map handed_job (filter (waits v.handed v.back) js)) busy.jobs ∙ newer_waits v.handed v.back job busy.above

-- ---- one job, or none

-- jobs were handed out: none is done yet and these are left,
pub record NotYet (v0 v : Serving) (rest : List Handed) (w0 w : Option (List ℕ)) : Type 0 where
  pub session : v ≡ hand_out v0
  pub left : rest ≡ waiting_jobs v0
  pub written_is : w ≡ w0

module _ (HasList : List ℕ → List Diag → Type 0) (HasHover : List ℕ → Place → Option (List ℕ) → Type 0) where
  -- or all are done and none is left
  pub record AllDone (v0 v : Serving) (rest : List Handed) (w0 w : Option (List ℕ)) : Type 0 where
    pub settles : Settles HasList HasHover v0 v w0 w
    pub left : rest ≡ []

  -- the job that comes next is the one that is open, and none is left behind it
  pub next_job : (v0 v : Serving) (h : Handed) (rest : List Handed) (w0 w : Option (List ℕ)) → HasOneJob v0.handed v0.state → NotYet v0 v (h ∷ rest) w0 w ⊎ AllDone v0 v (h ∷ rest) w0 w
      → (j : OpenJob) × IsBusy v0.handed v0.state j × (open_jobs v.state ≡ j ∷ []) × (h ≡ handed_job j) × (rest ≡ []) × (v ≡ hand_out v0) × (w ≡ w0)
  next_job v0 v h rest w0 w (inl idle) (inl yet) = cc (yet.left, waiting_idle v0 idle)
  next_job v0 v h rest w0 w (inr (j, busy)) (inl yet) =
      let left : h ∷ rest ≡ handed_job j ∷ [] = yet.left ∙ waiting_busy v0 j busy in
      let first : h ≡ handed_job j = cc in
      let none : rest ≡ [] = cc in
      (j, busy, ap (λ (u : Serving). open_jobs u.state) yet.session ∙ busy.jobs, first, none, yet.session, yet.written_is)
  next_job v0 v h rest w0 w one (inr done) = cc (done.left)

  settles_idle : (v0 v : Serving) (w0 w : Option (List ℕ)) → IsIdle v0.state → v ≡ hand_out v0 → w ≡ w0 → Settles HasList HasHover v0 v w0 w
  settles_idle v0 v w0 w idle is written = record {
    enters = record {
      outs = [];
      run = subst (λ (es : List Entry). Run HasList HasHover v0.state es [] [] v.state) (sym idle.entries) (refl, refl, ap (λ (u : Serving). u.state) is);
      journal = ap (λ (u : Serving). u.journal) is ∙ sym (append-nil v0.journal) ∙ ap (λ (es : List Entry). v0.journal ++ es) (sym idle.entries);
      written_is = written ∙ sym (behind-nil w0);
    };
    state = ap (λ (u : Serving). u.state) is ∙ sym idle.rests;
    fresh = record { handed = ap (λ (u : Serving). u.handed) is ∙ sym (ap (λ (u : Serving). u.state.made) is); back = ap (λ (u : Serving). u.back) is };
  }

  -- no job is left: all is settled
  pub none_left : (v0 v : Serving) (rest : List Handed) (w0 w : Option (List ℕ)) → HasOneJob v0.handed v0.state → rest ≡ [] → NotYet v0 v rest w0 w ⊎ AllDone v0 v rest w0 w → Settles HasList HasHover v0 v w0 w
  none_left v0 v rest w0 w (inl idle) none (inl yet) = settles_idle v0 v w0 w idle yet.session yet.written_is
  none_left v0 v rest w0 w (inr (j, busy)) none (inl yet) = cc (yet.left, waiting_busy v0 j busy)
  none_left v0 v rest w0 w one none (inr done) = done.settles

  module _ (v0 v v' : Serving) (j : OpenJob) (w0 w w' : Option (List ℕ)) (busy : IsBusy v0.handed v0.state j) (is : v ≡ hand_out v0) (written : w ≡ w0) where
    -- the job was done: all is settled
    pub job_settles : v' ≡ record v { state = close_work v.state j.work; journal = v.journal ++ serial_entry j.work ∷ [] } → Enters HasList HasHover (serial_entry j.work ∷ []) [] v v' w w' → Settles HasList HasHover v0 v' w0 w'
    job_settles leads enters =
        let old : v.state ≡ v0.state = ap (λ (u : Serving). u.state) is in
        let new : v'.state ≡ settled v0.state = ap (λ (u : Serving). u.state) leads ∙ ap (λ (s : State). close_work s j.work) old ∙ sym busy.rests in
        record {
          enters = record {
            outs = enters.outs;
            run = subst (λ (es : List Entry). Run HasList HasHover v0.state es [] enters.outs v'.state) (sym busy.entries) (subst (λ (s : State). Run HasList HasHover s (serial_entry j.work ∷ []) [] enters.outs v'.state) old enters.run);
            journal = enters.journal ∙ ap (λ (u : Serving). u.journal ++ serial_entry j.work ∷ []) is ∙ ap (λ (es : List Entry). v0.journal ++ es) (sym busy.entries);
            written_is = rw (← written) enters.written_is;
          };
          state = new;
          fresh = record { handed = ap (λ (u : Serving). u.handed) leads ∙ ap (λ (u : Serving). u.handed) is ∙ sym (ap (λ (s : State). s.made) new); back = ap (λ (u : Serving). u.back) leads ∙ ap (λ (u : Serving). u.back) is };
        }

    -- it was broken off
    pub job_cut : EntersPart HasList HasHover (serial_entry j.work ∷ []) [] v v' w w' → EntersPart HasList HasHover (settling v0.state) [] v0 v' w0 w'
    job_cut part = record {
      done = part.done;
      undone = part.undone;
      entries_are = busy.entries ∙ part.entries_are;
      outs = part.outs;
      state = part.state;
      run = subst (λ (s : State). Run HasList HasHover s part.done [] part.outs part.state) (ap (λ (u : Serving). u.state) is) part.run;
      journal = part.journal ∙ ap (λ (u : Serving). u.journal ++ part.done) is;
      put = rw (← written) part.put;
    }

pub nothing_left : {X : Type 0} (xs : List X) → length xs ≡ 0 → xs ≡ []
nothing_left [] is = refl
nothing_left (x ∷ xs) is = absurd (omega arith)

-- one fewer is left
pub one_fewer : {X : Type 0} (x : X) (xs ys : List X) (m n : ℕ) → ys ≡ x ∷ xs → n + 1 ≡ m → length ys ≡ m → length xs ≡ n
one_fewer x xs ys m n is fewer whole = let e : length ys ≡ length (x ∷ xs) = ap length is in omega arith
