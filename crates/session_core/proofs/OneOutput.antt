-- A journal writes one list of replies: ids of open requests and names of open files are distinct, and a text has one list, a place one hover.
use Rattle.std.proofs.Common.{◌≡◌, ◌∙◌, ◌⊎◌, inl, inr, ℕ, zero, suc, ◌+◌, Bool, true, false, not, cond, ◌||◌, Option, Some, None, List, [], ◌∷◌, ◌++◌, refl, ap, sym, subst, arith, filter, bytes_eq, Contains}
use Rattle.std.proofs.lemmas.Bool.{eq-eqb}
use Rattle.std.proofs.lemmas.Slice.Eq.{bytes_eq-Decides}
use Rattle.std.proofs.lemmas.List.Elements.{Contains-append_cases}
use Rattle.std.specs.Map.{set_value}
use Rattle.std.specs.Option.{option_map_or}
use Rattle.py_base.specs.declared.diag.Diag.{Diag}
use Rattle.py_base.specs.declared.span.Place.{Place}
use Rattle.wire_json.specs.declared.message.Msg.{Msg}
use Rattle.wire_json.specs.declared.message.Msg.TheVariants.{Open, Edit, Close, Hover, Check, Cancel, End}
use Rattle.wire_json.specs.declared.message.WireStep.{WireStep}
use Rattle.wire_json.specs.declared.message.WireStep.TheVariants as steps
use Rattle.wire_json.specs.declared.reply.SessionRefusal.{SessionRefusal}
use Rattle.wire_json.specs.declared.reply.Out.{Out}
use Rattle.wire_json.specs.declared.reply.Out.TheVariants.{Listed, Hovered, Checked}
use Rattle.session_core.specs.declared.entry.Entry.{Entry}
use Rattle.session_core.specs.declared.entry.Entry.TheVariants.{Line, Answer, Publish, NoMemoryAnswer, NoMemoryPublish}
use Rattle.session_core.specs.declared.request.Request.{Request}
use Rattle.session_core.specs.declared.request.Question.{Question}
use Rattle.session_core.specs.declared.request.Question.TheVariants.{TypeAt, Diagnostics}
use Rattle.session_core.specs.Doc.{Doc, Docs}
use Rattle.session_core.specs.Machine.{State, beginning, doc_of, is_open, has_id, is_in_use, refusal_of, request_refusal, put_doc, close_doc, mark_published, published_doc, take_line, unless_refused, accept, ask}
use Rattle.session_core.specs.Journal.{Step, Run, Legal, IsReply}

-- ---- names of open files

-- no name stands twice
abbrev pub AreNamed : Docs → Type 0
AreNamed [] = Unit {0}
AreNamed (d ∷ docs) = (doc_of docs d.0 ≡ None) × AreNamed docs

same_bytes : (xs : List ℕ) → bytes_eq xs xs ≡ true
same_bytes xs = (bytes_eq-Decides xs xs).1 refl

by_bytes : (xs ys : List ℕ) → bytes_eq xs ys ≡ true → xs ≡ ys
by_bytes xs ys is = (bytes_eq-Decides xs ys).0 is

other_bytes : (xs ys : List ℕ) → bytes_eq xs ys ≡ false → bytes_eq ys xs ≡ false
other_bytes xs ys other = by_test (bytes_eq ys xs) refl
  where
    by_test : (b : Bool) → bytes_eq ys xs ≡ b → b ≡ false
    by_test false is = refl
    by_test true is =
        let same : ys ≡ xs = by_bytes ys xs is in
        let e : bytes_eq xs ys ≡ true = subst (λ (zs : List ℕ). bytes_eq xs zs ≡ true) (sym same) (same_bytes xs) in
        cc

-- a file that is there is the one that is found
found_named : (docs : Docs) (file : List ℕ) (doc : Doc) → AreNamed docs → Contains docs (file, doc) → doc_of docs file ≡ Some doc
found_named [] file doc named (k, within, is) = absurd (omega arith)
found_named (d ∷ docs) file doc named (zero, within, is) =
    let name : d.0 ≡ file = ap (λ (e : List ℕ × Doc). e.0) is in
    let value : d.1 ≡ doc = ap (λ (e : List ℕ × Doc). e.1) is in
    let test : bytes_eq file d.0 ≡ true = subst (λ (xs : List ℕ). bytes_eq file xs ≡ true) (sym name) (same_bytes file) in
    rw (test, value) refl
found_named (d ∷ docs) file doc named (suc k, within, is) = later (bytes_eq file d.0) refl (found_named docs file doc named.1 (k, omega arith, is))
  where
    later : (b : Bool) → bytes_eq file d.0 ≡ b → doc_of docs file ≡ Some doc → cond b (Some d.1) (doc_of docs file) ≡ Some doc
    later false test found = found
    later true test found =
        let same : file ≡ d.0 = by_bytes file d.0 test in
        let none : doc_of docs file ≡ None = subst (λ (xs : List ℕ). doc_of docs xs ≡ None) (sym same) named.0 in
        cc

none_first : (b : Bool) (doc : Doc) (rest : Option Doc) → cond b (Some doc) rest ≡ None → b ≡ false
none_first true doc rest e = cc
none_first false doc rest e = refl

none_rest : (b : Bool) (doc : Doc) (rest : Option Doc) → cond b (Some doc) rest ≡ None → rest ≡ None
none_rest true doc rest e = cc
none_rest false doc rest e = e

-- a name that isn't there is none that is put, left or marked
put_none : (docs : Docs) (file other : List ℕ) (new : Doc) → doc_of docs other ≡ None → bytes_eq other file ≡ false → doc_of (put_doc docs file new) other ≡ None
put_none [] file other new none apart = rw apart refl
put_none (d ∷ docs) file other new none apart = by_test (bytes_eq file d.0) (put_none docs file other new (none_rest (bytes_eq other d.0) d.1 (doc_of docs other) none) apart)
  where
    by_test : (b : Bool) → doc_of (put_doc docs file new) other ≡ None → doc_of (cond b ((d.0, new) ∷ docs) (d ∷ put_doc docs file new)) other ≡ None
    by_test true later = rw (none_first (bytes_eq other d.0) d.1 (doc_of docs other) none) (none_rest (bytes_eq other d.0) d.1 (doc_of docs other) none)
    by_test false later = rw (none_first (bytes_eq other d.0) d.1 (doc_of docs other) none) later

put_named : (docs : Docs) (file : List ℕ) (new : Doc) → AreNamed docs → AreNamed (put_doc docs file new)
put_named [] file new named = (refl, tt)
put_named (d ∷ docs) file new named = by_test (bytes_eq file d.0) refl (put_named docs file new named.1)
  where
    by_test : (b : Bool) → bytes_eq file d.0 ≡ b → AreNamed (put_doc docs file new) → AreNamed (cond b ((d.0, new) ∷ docs) (d ∷ put_doc docs file new))
    by_test true test later = (named.0, named.1)
    by_test false test later = (put_none docs file d.0 new named.0 (other_bytes file d.0 test), later)

close_none : (docs : Docs) (file other : List ℕ) → doc_of docs other ≡ None → doc_of (close_doc docs file) other ≡ None
close_none [] file other none = refl
close_none (d ∷ docs) file other none = by_test (bytes_eq file d.0) (close_none docs file other (none_rest (bytes_eq other d.0) d.1 (doc_of docs other) none))
  where
    by_test : (b : Bool) → doc_of (close_doc docs file) other ≡ None → doc_of (cond b docs (d ∷ close_doc docs file)) other ≡ None
    by_test true later = none_rest (bytes_eq other d.0) d.1 (doc_of docs other) none
    by_test false later = rw (none_first (bytes_eq other d.0) d.1 (doc_of docs other) none) later

close_named : (docs : Docs) (file : List ℕ) → AreNamed docs → AreNamed (close_doc docs file)
close_named [] file named = tt
close_named (d ∷ docs) file named = by_test (bytes_eq file d.0) (close_named docs file named.1)
  where
    by_test : (b : Bool) → AreNamed (close_doc docs file) → AreNamed (cond b docs (d ∷ close_doc docs file))
    by_test true later = named.1
    by_test false later = (close_none docs file d.0 named.0, later)

set_none : (docs : Docs) (file other : List ℕ) (new : Doc) → doc_of docs other ≡ None → doc_of (set_value (bytes_eq file) docs new) other ≡ None
set_none [] file other new none = refl
set_none (d ∷ docs) file other new none = by_test (bytes_eq file d.0) (set_none docs file other new (none_rest (bytes_eq other d.0) d.1 (doc_of docs other) none))
  where
    by_test : (b : Bool) → doc_of (set_value (bytes_eq file) docs new) other ≡ None → doc_of (cond b ((d.0, new) ∷ docs) (d ∷ set_value (bytes_eq file) docs new)) other ≡ None
    by_test true later = rw (none_first (bytes_eq other d.0) d.1 (doc_of docs other) none) (none_rest (bytes_eq other d.0) d.1 (doc_of docs other) none)
    by_test false later = rw (none_first (bytes_eq other d.0) d.1 (doc_of docs other) none) later

set_named : (docs : Docs) (file : List ℕ) (new : Doc) → AreNamed docs → AreNamed (set_value (bytes_eq file) docs new)
set_named [] file new named = tt
set_named (d ∷ docs) file new named = by_test (bytes_eq file d.0) (set_named docs file new named.1)
  where
    by_test : (b : Bool) → AreNamed (set_value (bytes_eq file) docs new) → AreNamed (cond b ((d.0, new) ∷ docs) (d ∷ set_value (bytes_eq file) docs new))
    by_test true later = (named.0, named.1)
    by_test false later = (set_none docs file d.0 new named.0, later)

mark_named : (docs : Docs) (file : List ℕ) → AreNamed docs → AreNamed (mark_published docs file)
mark_named docs file named = by_found (doc_of docs file)
  where
    by_found : (o : Option Doc) → AreNamed (option_map_or (λ doc. set_value (bytes_eq file) docs (published_doc doc)) o docs)
    by_found None = named
    by_found (Some doc) = set_named docs file (published_doc doc) named

-- ---- ids of open requests

abbrev pub HaveIds : List Request → Type 0
HaveIds requests = (r q : Request) → Contains requests r → Contains requests q → r.id ≡ q.id → r ≡ q

-- an element of what a test leaves is one of all
kept_contained : (test : Request → Bool) (rs : List Request) (r : Request) → Contains (filter test rs) r → Contains rs r
kept_contained test [] r h = h
kept_contained test (x ∷ rs) r h = by_test (test x) (kept_contained test rs r) h
  where
    later : Contains rs r → Contains (x ∷ rs) r
    later (k, within, is) = (suc k, omega arith, is)

    by_test : (b : Bool) → (Contains (filter test rs) r → Contains rs r) → Contains (cond b (x ∷ filter test rs) (filter test rs)) r → Contains (x ∷ rs) r
    by_test false rest g = later (rest g)
    by_test true rest (zero, within, is) = (zero, omega arith, is)
    by_test true rest (suc k, within, is) = later (rest (k, omega arith, is))

kept_ids : (test : Request → Bool) (rs : List Request) → HaveIds rs → HaveIds (filter test rs)
kept_ids test rs ids r q first second same = ids r q (kept_contained test rs r first) (kept_contained test rs q second) same

-- an id that isn't in use is that of no open request
unused : (rs : List Request) (id : ℕ) (r : Request) → is_in_use rs id ≡ false → Contains rs r → r.id ≡ id → ⊥
unused [] id r none (k, within, is) same = absurd (omega arith)
unused (x ∷ rs) id r none (zero, within, is) same =
    let same' : x.id ≡ id = ap (λ (y : Request). y.id) is ∙ same in
    let e : has_id id x ≡ true = eq-eqb x.id id same' in
    used (has_id id x) (is_in_use rs id) e none
  where
    used : (a b : Bool) → a ≡ true → (a || b) ≡ false → ⊥
    used true b e f = cc
    used false b e f = cc
unused (x ∷ rs) id r none (suc k, within, is) same = unused rs id r (rest (has_id id x) (is_in_use rs id) none) (k, omega arith, is) same
  where
    rest : (a b : Bool) → (a || b) ≡ false → b ≡ false
    rest true b f = cc
    rest false b f = f

only_one : (y r : Request) → Contains (y ∷ []) r → y ≡ r
only_one y r (zero, within, is) = is
only_one y r (suc k, within, is) = absurd (omega arith)

asked_ids : (rs : List Request) (y : Request) → is_in_use rs y.id ≡ false → HaveIds rs → HaveIds (rs ++ y ∷ [])
asked_ids rs y none ids r q first second same = by_cases (Contains-append_cases rs (y ∷ []) r first) (Contains-append_cases rs (y ∷ []) q second)
  where
    by_cases : Contains rs r ⊎ Contains (y ∷ []) r → Contains rs q ⊎ Contains (y ∷ []) q → r ≡ q
    by_cases (inl a) (inl b) = ids r q a b same
    by_cases (inl a) (inr b) = absurd (unused rs y.id r none a (same ∙ sym (ap (λ (x : Request). x.id) (only_one y q b))))
    by_cases (inr a) (inl b) = absurd (unused rs y.id q none b (sym same ∙ sym (ap (λ (x : Request). x.id) (only_one y r a))))
    by_cases (inr a) (inr b) = sym (only_one y r a) ∙ only_one y q b

-- ---- states

pub record IsSingle (docs : Docs) (requests : List Request) : Type 0 where
  pub named : AreNamed docs
  pub ids : HaveIds requests

not_refused : (a b c : Bool) (x y z : SessionRefusal) → cond (not a) (Some x) (cond b (Some y) (cond c (Some z) None)) ≡ None → b ≡ false
not_refused true false c x y z e = refl
not_refused true true c x y z e = cc
not_refused false b c x y z e = cc

ask_single : (s : State) (id : ℕ) (file : List ℕ) (question : Question) → IsSingle s.docs s.requests → request_refusal s.docs s.requests id file ≡ None → IsSingle (ask s id file question).state.docs (ask s id file question).state.requests
ask_single s id file question single taken = record {
  named = single.named;
  ids = asked_ids s.requests (record { job = s.made + 1; id = id; file = file; question = question }) (not_refused (is_open s.docs file) (is_in_use s.requests id) _ _ _ _ taken) single.ids;
}

accept_single : (s : State) (message : Msg) → IsSingle s.docs s.requests → refusal_of s.docs s.requests message ≡ None → IsSingle (accept s message).state.docs (accept s message).state.requests
accept_single s (Open file version text) single taken = record { named = put_named s.docs file _ single.named; ids = single.ids }
accept_single s (Edit file version text) single taken = record { named = put_named s.docs file _ single.named; ids = kept_ids _ s.requests single.ids }
accept_single s (Close file) single taken = record { named = close_named s.docs file single.named; ids = kept_ids _ s.requests single.ids }
accept_single s (Hover id file place) single taken = ask_single s id file (TypeAt place) single taken
accept_single s (Check id file) single taken = ask_single s id file Diagnostics single taken
accept_single s (Cancel id) single taken = record { named = single.named; ids = kept_ids _ s.requests single.ids }
accept_single s End single taken = single

line_single : (s : State) (line : WireStep) → IsSingle s.docs s.requests → IsSingle (take_line s line).state.docs (take_line s line).state.requests
line_single s (steps.Message message) single = by_refusal (refusal_of s.docs s.requests message) refl
  where
    by_refusal : (o : Option SessionRefusal) → refusal_of s.docs s.requests message ≡ o → IsSingle (unless_refused s message o).state.docs (unless_refused s message o).state.requests
    by_refusal (Some refusal) is = single
    by_refusal None is = accept_single s message single is
line_single s (steps.Refused refusal) single = single
line_single s (steps.Reply bytes) single = single

-- ---- steps

module _ (HasList : List ℕ → List Diag → Type 0) (HasHover : List ℕ → Place → Option (List ℕ) → Type 0)
    (one_list : (text : List ℕ) (one other : List Diag) → HasList text one → HasList text other → one ≡ other)
    (one_hover : (text : List ℕ) (place : Place) (one other : Option (List ℕ)) → HasHover text place one → HasHover text place other → one ≡ other) where
  one_reply : (doc : Doc) (id : ℕ) (question : Question) (one other : Out) → IsReply HasList HasHover doc id question one → IsReply HasList HasHover doc id question other → one ≡ other
  one_reply doc id (TypeAt place) one other (type, is, out) (type', is', out') = out ∙ ap (λ (t : Option (List ℕ)). Hovered id t doc.version) (one_hover doc.text place type type' is is') ∙ sym out'
  one_reply doc id Diagnostics one other (list, is, out) (list', is', out') = out ∙ ap (λ (l : List Diag). Checked id l doc.version) (one_list doc.text list list' is is') ∙ sym out'

  -- two steps by one entry, with what comes behind each
  pub record AreOne (rest rest' : List WireStep) (outs outs' : List Out) (t t' : State) : Type 0 where
    pub lines : rest ≡ rest'
    pub replies : outs ≡ outs'
    pub states : t ≡ t'
    pub single : IsSingle t.docs t.requests

  same_first : (x y : WireStep) (xs ys : List WireStep) → x ∷ xs ≡ y ∷ ys → x ≡ y
  same_first x y xs ys e = cc

  same_rest : (x y : WireStep) (xs ys : List WireStep) → x ∷ xs ≡ y ∷ ys → xs ≡ ys
  same_rest x y xs ys e = cc

  some_same : (x y : Doc) (o : Option Doc) → o ≡ Some x → o ≡ Some y → x ≡ y
  some_same x y o e f = cc

  -- what two steps took, if they took nothing
  none_taken : (l l' rest rest' : List WireStep) → l ≡ [] → l' ≡ [] → l ++ rest ≡ l' ++ rest' → rest ≡ rest'
  none_taken l l' rest rest' none none' e = sym (ap (λ (ls : List WireStep). ls ++ rest) none) ∙ e ∙ ap (λ (ls : List WireStep). ls ++ rest') none'

  one_step : (s : State) (entry : Entry) (l l' rest rest' : List WireStep) (o o' : List Out) (t t' : State) → IsSingle s.docs s.requests → l ++ rest ≡ l' ++ rest' → Step HasList HasHover s entry l o t → Step HasList HasHover s entry l' o' t' → AreOne rest rest' o o' t t'
  one_step s (Line k) l l' rest rest' o o' t t' single e a b =
      let lines : a.line ∷ rest ≡ b.line ∷ rest' = sym (ap (λ (ls : List WireStep). ls ++ rest) a.lines_are) ∙ e ∙ ap (λ (ls : List WireStep). ls ++ rest') b.lines_are in
      let line : a.line ≡ b.line = same_first a.line b.line rest rest' lines in
      record {
        lines = same_rest a.line b.line rest rest' lines;
        replies = a.writes ∙ ap (λ (x : WireStep). (take_line s x).outs) line ∙ sym b.writes;
        states = a.leads ∙ ap (λ (x : WireStep). (take_line s x).state) line ∙ sym b.leads;
        single = subst (λ (u : State). IsSingle u.docs u.requests) (sym a.leads) (line_single s a.line single);
      }
  one_step s (Answer id) l l' rest rest' o o' t t' single e (none, a) (none', b) =
      let request : a.request ≡ b.request = single.ids a.request b.request a.asked.is_open b.asked.is_open (a.asked.id_is ∙ sym b.asked.id_is) in
      let doc : a.doc ≡ b.doc = some_same a.doc b.doc (doc_of s.docs a.request.file) a.asked.doc_is (ap (λ (r : Request). doc_of s.docs r.file) request ∙ b.asked.doc_is) in
      let reply : IsReply HasList HasHover a.doc id a.request.question b.out = subst (λ (d : Doc). IsReply HasList HasHover d id a.request.question b.out) (sym doc) (subst (λ (r : Request). IsReply HasList HasHover b.doc id r.question b.out) (sym request) b.reply) in
      record {
        lines = none_taken l l' rest rest' none none' e;
        replies = a.writes ∙ ap (λ (x : Out). x ∷ []) (one_reply a.doc id a.request.question a.out b.out a.reply reply) ∙ sym b.writes;
        states = a.leads ∙ sym b.leads;
        single = subst (λ (u : State). IsSingle u.docs u.requests) (sym a.leads) (record { named = single.named; ids = kept_ids _ s.requests single.ids });
      }
  one_step s (Publish file version) l l' rest rest' o o' t t' single e (none, a) (none', b) =
      let doc : a.doc ≡ b.doc = some_same a.doc b.doc (doc_of s.docs file) (found_named s.docs file a.doc single.named a.waiting.is_open) (found_named s.docs file b.doc single.named b.waiting.is_open) in
      let list : HasList a.doc.text b.list = subst (λ (d : Doc). HasList d.text b.list) (sym doc) b.list_is in
      record {
        lines = none_taken l l' rest rest' none none' e;
        replies = a.writes ∙ ap (λ (x : List Diag). Listed file x version ∷ []) (one_list a.doc.text a.list b.list a.list_is list) ∙ sym b.writes;
        states = a.leads ∙ sym b.leads;
        single = subst (λ (u : State). IsSingle u.docs u.requests) (sym a.leads) (record { named = mark_named s.docs file single.named; ids = single.ids });
      }
  one_step s (NoMemoryAnswer id) l l' rest rest' o o' t t' single e (none, a) (none', b) = record {
    lines = none_taken l l' rest rest' none none' e;
    replies = a.writes ∙ sym b.writes;
    states = a.leads ∙ sym b.leads;
    single = subst (λ (u : State). IsSingle u.docs u.requests) (sym a.leads) (record { named = single.named; ids = kept_ids _ s.requests single.ids });
  }
  one_step s (NoMemoryPublish file version) l l' rest rest' o o' t t' single e (none, a) (none', b) = record {
    lines = none_taken l l' rest rest' none none' e;
    replies = a.writes ∙ sym b.writes;
    states = a.leads ∙ sym b.leads;
    single = subst (λ (u : State). IsSingle u.docs u.requests) (sym a.leads) (record { named = mark_named s.docs file single.named; ids = single.ids });
  }

  -- ---- runs

  one_run : (journal : List Entry) (s : State) (lines : List WireStep) (o o' : List Out) (t t' : State) → IsSingle s.docs s.requests → Run HasList HasHover s journal lines o t → Run HasList HasHover s journal lines o' t' → o ≡ o'
  one_run [] s lines o o' t t' single a b = a.1 ∙ sym b.1
  one_run (entry ∷ journal) s lines o o' t t' single a b =
      let one = one_step s entry a.first_lines b.first_lines a.rest_lines b.rest_lines a.first_outs b.first_outs a.state b.state single (sym a.lines_are ∙ b.lines_are) a.first b.first in
      let rest : Run HasList HasHover a.state journal a.rest_lines b.rest_outs t' =
      subst (λ (u : State). Run HasList HasHover u journal a.rest_lines b.rest_outs t') (sym one.states) (subst (λ (ls : List WireStep). Run HasList HasHover b.state journal ls b.rest_outs t') (sym one.lines) b.rest) in
      a.outs_are ∙ ap (λ (os : List Out). os ++ a.rest_outs) one.replies ∙ ap (λ (os : List Out). b.first_outs ++ os) (one_run journal a.state a.rest_lines a.rest_outs b.rest_outs t t' one.single a.rest rest) ∙ sym b.outs_are

  pub one_output : (lines : List WireStep) (journal : List Entry) (one other : List Out) → Legal HasList HasHover lines journal one → Legal HasList HasHover lines journal other → one ≡ other
  one_output lines journal one other a b = one_run journal beginning lines one other a.state b.state (record { named = tt; ids = λ r q first second same. none_there r first }) a.run b.run
    where
      none_there : {X : Type 0} (r : Request) → Contains [] r → X
      none_there r (k, within, is) = absurd (omega arith)
