-- What a reader of lines has done in the midst of a call, and the answers that follow.
use Rattle.std.proofs.Common.{◌≡◌, ◌∙◌, ◌+◌, ◌<◌, ◌≤◌, ℕ, Bool, true, false, List, [], ◌∷◌, ◌++◌, ◌⊎◌, inl, inr, Option, Some, None, Result, Ok, Err, length, refl, ap, sym, subst, arith, append_assoc, length-append}
use Rattle.std.proofs.lemmas.List.{append-nil}
use Rattle.edge_io.specs.declared.line.Line.{Line}
use Rattle.edge_io.specs.declared.reader.LineFault.{LineFault}
use Rattle.edge_io.specs.declared.reader.LineFault.TheVariants.{ReadFault, TooLong, Memory}
use Rattle.edge_io.specs.Stream.{before}
use Rattle.edge_io.specs.Line.{IsLine, IsLineOf, lines_of, ended}
use Rattle.edge_io.specs.Reading.{Reading}
use Rattle.edge_io.specs.Cutting.{Answers, IsCut, IsBegun, IsReady, IsFull}
use Rattle.edge_io.specs.Buffer.{Moves, Gives, Fills}
use Rattle.edge_io.proofs.Lines.{IsLine-append, lf_in_none, lines_of-begun, plain_if_none}
use Rattle.edge_io.proofs.Streams.{before-before, before-nil}
use Rattle.edge_io.proofs.Cuts.{cut_ended, cut_last, cut_end, cut_begun, cut_broken}

-- nothing was taken yet
pub record IsUntouched {S : Type 0} (more : List ℕ) (first now : Reading) (source source' : S) : Type 0 where
  pub same : source' ≡ source
  pub taken : now.taken ≡ first.taken
  pub none : more ≡ []

-- bytes were taken, since no whole line waited and more might be taken
pub record HasTaken (first : Reading) : Type 0 where
  pub plain : IsLine first.waiting
  pub at_end : first.at_end ≡ false
  pub less : first.taken < first.most

-- these bytes, of those that waited and more that were taken, make the line so far
pub record SoFar {S : Type 0} (line : Line) (first now : Reading) (left left' : Option (List ℕ)) (source source' : S) : Type 0 where
  pub bytes : List ℕ
  pub plain : IsLine bytes
  pub is : IsLineOf line bytes
  pub more : List ℕ
  pub taken_is : left ≡ before more left'
  pub counted : now.taken ≡ first.taken + length more
  pub joined : first.waiting ++ more ≡ bytes ++ now.waiting
  pub most : now.most ≡ first.most
  pub at_end : now.at_end ≡ first.at_end
  pub fault : now.fault ≡ first.fault
  pub within : now.taken ≤ now.most
  pub begun : IsUntouched more first now source source' ⊎ HasTaken first

-- a call begins
pub begins : {S : Type 0} (line : Line) (first : Reading) (left : Option (List ℕ)) (source : S) → IsLineOf line [] → first.taken ≤ first.most → SoFar line first first left left source source
begins line first left source is within = record {
  bytes = [];
  plain = refl;
  is = is;
  more = [];
  taken_is = sym (before-nil left);
  counted = omega arith;
  joined = append-nil first.waiting;
  most = refl;
  at_end = refl;
  fault = refl;
  within = within;
  begun = inl (record { same = refl; taken = refl; none = refl });
}

-- nothing is taken behind the end
still : {S : Type 0} (line : Line) (first now : Reading) (left left' : Option (List ℕ)) (source source' : S) → (far : SoFar line first now left left' source source') → first.at_end ≡ true → far.more ≡ []
still line first now left left' source source' far is =
    elim far.begun as (λ _. far.more ≡ []) [
      | inl u ↦ u.none
      | inr t ↦ (let e : true ≡ false = sym is ∙ t.at_end in cc)
    ]

-- no LF waited, and all that waited went to the line
pub moves_all : {S : Type 0} (line longer : Line) (first now new : Reading) (left left' : Option (List ℕ)) (source source' : S) → SoFar line first now left left' source source' → Moves line longer false now new
    → SoFar longer first new left left' source source'
moves_all line longer first now new left left' source source' far moves =
    let split : now.waiting ≡ moves.run ++ new.waiting = moves.split ∙ ap (λ xs. moves.run ++ xs) (sym (moves.rest refl)) in
    record {
      bytes = far.bytes ++ moves.run;
      plain = IsLine-append far.bytes moves.run far.plain moves.plain;
      is = moves.joined far.bytes far.is;
      more = far.more;
      taken_is = far.taken_is;
      counted = moves.kept.taken ∙ far.counted;
      joined = far.joined ∙ (ap (λ xs. far.bytes ++ xs) split ∙ sym (append_assoc far.bytes moves.run new.waiting));
      most = moves.kept.most ∙ far.most;
      at_end = moves.kept.at_end ∙ far.at_end;
      fault = moves.kept.fault ∙ far.fault;
      within = (let w = far.within in let t = moves.kept.taken in let m = moves.kept.most in omega arith);
      begun = elim far.begun [
        | inl u ↦ inl (record { same = u.same; taken = moves.kept.taken ∙ u.taken; none = u.none })
        | inr t ↦ inr t
      ];
    }

-- all that waited makes the line
all_is : {S : Type 0} (line : Line) (first now : Reading) (left left' : Option (List ℕ)) (source source' : S) → (far : SoFar line first now left left' source source') → now.waiting ≡ [] → first.waiting ++ far.more ≡ far.bytes
all_is line first now left left' source source' far nothing = far.joined ∙ (ap (λ xs. far.bytes ++ xs) nothing ∙ append-nil far.bytes)

-- bytes came behind all that waited
pub fills_more : {S : Type 0} (line : Line) (first now new : Reading) (left left' left'' : Option (List ℕ)) (source source' source'' : S) → SoFar line first now left left' source source' → now.waiting ≡ []
    → Gives now new left' left'' → Fills (Ok true) now new → new.fault ≡ now.fault → new.taken ≤ new.most → SoFar line first new left left'' source source''
fills_more line first now new left left' left'' source source' source'' far nothing given fills fault within = record {
  bytes = far.bytes;
  plain = far.plain;
  is = far.is;
  more = far.more ++ new.waiting;
  taken_is = far.taken_is ∙ (ap (before far.more) given.taken_is ∙ before-before far.more new.waiting left'');
  counted = (let c = far.counted in let d = given.counted in omega (arith, length-append far.more new.waiting));
  joined = sym (append_assoc first.waiting far.more new.waiting) ∙ ap (λ xs. xs ++ new.waiting) (all_is line first now left left' source source' far nothing);
  most = given.most ∙ far.most;
  at_end = fills.2 ∙ (sym fills.1 ∙ far.at_end);
  fault = fault ∙ far.fault;
  within = within;
  begun = elim far.begun [
    | inl u ↦ inr (record {
      plain = subst IsLine (sym (sym (append-nil first.waiting) ∙ (ap (λ xs. first.waiting ++ xs) (sym u.none) ∙ all_is line first now left left' source source' far nothing))) far.plain;
      at_end = sym far.at_end ∙ fills.1;
      less = (let t = u.taken in let m = given.most in let n = far.most in let f = fills.0 in omega arith);
    })
    | inr t ↦ inr t
  ];
}

-- an LF ended the line
pub gives_line : {S : Type 0} (line longer : Line) (first now new : Reading) (left left' : Option (List ℕ)) (source source' : S) → SoFar line first now left left' source source' → Moves line longer true now new
    → Answers lines_of (Ok (Some longer)) first new left left'
gives_line line longer first now new left left' source source' far moves =
    let bytes = far.bytes ++ moves.run in
    let regroup : first.waiting ++ far.more ≡ ended bytes ++ new.waiting =
    far.joined ∙ (ap (λ xs. far.bytes ++ xs) moves.split ∙ (sym (append_assoc far.bytes moves.run (10 ∷ new.waiting)) ∙ sym (append_assoc bytes (10 ∷ []) new.waiting))) in
    record {
      more = far.more;
      taken_is = far.taken_is;
      cuts = λ taken given was. (
        bytes,
        moves.joined far.bytes far.is,
        cut_ended bytes far.more first new taken given (IsLine-append far.bytes moves.run far.plain moves.plain) (still line first now left left' source source' far) regroup
            (moves.kept.at_end ∙ far.at_end) (moves.kept.taken ∙ far.counted) was,
      );
    }

-- a line that waited whole: nothing was taken, unless none waited
pub lf_met : {S : Type 0} (line longer : Line) (first now new : Reading) (left left' : Option (List ℕ)) (source source' : S) → SoFar line first now left left' source source' → Moves line longer true now new → IsFull lines_of first → ⊥
lf_met line longer first now new left left' source source' far moves full =
    elim far.begun as (λ _. ⊥) [
      | inl u ↦ lf_in_none (far.bytes ++ moves.run) new.waiting (subst IsLine (sym (append-nil first.waiting) ∙ (ap (λ xs. first.waiting ++ xs) (sym u.none)
          ∙ (far.joined ∙ (ap (λ xs. far.bytes ++ xs) moves.split ∙ sym (append_assoc far.bytes moves.run (10 ∷ new.waiting)))))) (plain_if_none first.waiting full.none))
      | inr t ↦ (let l = t.less in let e = full.taken in omega arith)
    ]

-- bytes are taken only where the answer needs some
not_ready : (first : Reading) → HasTaken first → IsReady lines_of first → ⊥
not_ready first taken ready = elim ready as (λ _. ⊥) [ inl some ↦ some (lines_of-begun first.waiting taken.plain) | inr at_end ↦ (let e : true ≡ false = sym at_end ∙ taken.at_end in cc) ]

-- where the answer needed no byte, none was taken
pub ready_still : {S : Type 0} (line : Line) (first now : Reading) (left left' : Option (List ℕ)) (source source' : S) → SoFar line first now left left' source source' → IsReady lines_of first → source' ≡ source
ready_still line first now left left' source source' far ready =
    elim far.begun as (λ _. source' ≡ source) [
      | inl u ↦ u.same
      | inr t ↦ absurd (not_ready first t ready)
    ]

pub ready_fills : {S : Type 0} (line : Line) (first now : Reading) (left left' : Option (List ℕ)) (source source' source'' : S) → SoFar line first now left left' source source' → now.waiting ≡ [] → (now.at_end ≡ true → source'' ≡ source')
    → IsReady lines_of first → source'' ≡ source
ready_fills line first now left left' source source' source'' far nothing same ready =
    elim far.begun as (λ _. source'' ≡ source) [
      | inl u ↦ elim ready as (λ _. source'' ≡ source) [
        | inl some ↦ absurd (some (lines_of-begun first.waiting (subst IsLine (sym (sym (append-nil first.waiting) ∙ (ap (λ xs. first.waiting ++ xs) (sym u.none) ∙ all_is line first now left left' source source' far nothing))) far.plain)))
        | inr at_end ↦ same (far.at_end ∙ at_end) ∙ u.same
      ]
      | inr t ↦ absurd (not_ready first t ready)
    ]

-- where no byte may be taken, none is
pub full_fills : {S : Type 0} (line : Line) (first now : Reading) (left left' : Option (List ℕ)) (source source' : S) (answer : Result Bool LineFault) → SoFar line first now left left' source source'
    → (now.taken ≡ now.most → now.at_end ≡ false → answer ≡ Err TooLong) → IsFull lines_of first → answer ≡ Err TooLong
full_fills line first now left left' source source' answer far full is =
    elim far.begun as (λ _. answer ≡ Err TooLong) [
      | inl u ↦ full (u.taken ∙ (is.taken ∙ sym far.most)) (far.at_end ∙ is.at_end)
      | inr t ↦ absurd (let l = t.less in let e = is.taken in omega arith)
    ]

-- nothing came behind what was taken
record EndsIn (first new : Reading) (left left' : Option (List ℕ)) (more bytes : List ℕ) : Type 0 where
  pub taken_is : left ≡ before more left'
  pub counted : new.taken ≡ first.taken + length more
  pub most : new.most ≡ first.most
  pub joined : first.waiting ++ more ≡ bytes

fills_none : {S : Type 0} (line : Line) (first now new : Reading) (left left' left'' : Option (List ℕ)) (source source' : S) → (far : SoFar line first now left left' source source') → now.waiting ≡ []
    → Gives now new left' left'' → new.waiting ≡ [] → EndsIn first new left left'' far.more far.bytes
fills_none line first now new left left' left'' source source' far nothing given none = record {
  taken_is = far.taken_is ∙ ap (before far.more) (given.taken_is ∙ (ap (λ xs. before xs left'') none ∙ before-nil left''));
  counted = (let c = far.counted in let d = given.counted in let e : length new.waiting ≡ 0 = ap length none in omega arith);
  most = given.most ∙ far.most;
  joined = all_is line first now left left' source source' far nothing;
}

-- the input ended, and the line has a byte
pub gives_last : {S : Type 0} (line : Line) (first now new : Reading) (left left' left'' : Option (List ℕ)) (source source' : S) → (far : SoFar line first now left left' source source') → now.waiting ≡ []
    → Gives now new left' left'' → Fills (Ok false) now new → (far.bytes ≡ [] → ⊥) → Answers lines_of (Ok (Some line)) first new left left''
gives_last line first now new left left' left'' source source' far nothing given fills some =
    let end = fills_none line first now new left left' left'' source source' far nothing given fills.1 in
    record {
      more = far.more;
      taken_is = end.taken_is;
      cuts = λ taken handed was.
          (far.bytes, far.is, cut_last far.bytes far.more first new taken handed far.plain some (still line first now left left' source source' far) end.joined fills.1 fills.0 end.counted was);
    }

-- the input ended, and the line has none
pub gives_end : {S : Type 0} (line : Line) (first now new : Reading) (left left' left'' : Option (List ℕ)) (source source' : S) → (far : SoFar line first now left left' source source') → now.waiting ≡ []
    → Gives now new left' left'' → Fills (Ok false) now new → far.bytes ≡ [] → Answers lines_of (Ok None) first new left left''
gives_end line first now new left left' left'' source source' far nothing given fills none =
    let end = fills_none line first now new left left' left'' source source' far nothing given fills.1 in
    record {
      more = far.more;
      taken_is = end.taken_is;
      cuts = λ taken handed was. (
        fills.0,
        (let c = end.counted in let d = was.counted in omega (arith, length-append taken far.more)),
        cut_end far.more first taken handed (still line first now left left' source source' far) (end.joined ∙ none) was,
      );
    }

-- the source failed, or no byte may be taken
pub breaks_line : {S : Type 0} (fault : LineFault) (line : Line) (first now new : Reading) (left left' left'' : Option (List ℕ)) (source source' : S) → SoFar line first now left left' source source' → now.waiting ≡ []
    → Gives now new left' left'' → Fills (Err fault) now new → Answers lines_of (Err fault) first new left left''
breaks_line fault line first now new left left' left'' source source' far nothing given fills = by_fault fault fills
  where
    begun : new.waiting ≡ [] → now.at_end ≡ false → new.at_end ≡ false → (taken : List ℕ) (handed : List (List ℕ)) → IsCut lines_of first taken handed → IsBegun lines_of new (taken ++ far.more) handed
    begun none going at_end taken handed was =
        let end = fills_none line first now new left left' left'' source source' far nothing given none in
        record {
          counted = (let c = end.counted in let d = was.counted in omega (arith, length-append taken far.more));
          all = cut_begun far.more first taken handed (sym far.at_end ∙ going) (subst IsLine (sym end.joined) far.plain) was;
          at_end = at_end;
        }

    by_fault : (f : LineFault) → Fills (Err f) now new → Answers lines_of (Err f) first new left left''
    by_fault ReadFault (none, going, at_end, less) =
        let end = fills_none line first now new left left' left'' source source' far nothing given none in
        record { more = far.more; taken_is = end.taken_is; cuts = λ taken handed was. (begun none going at_end taken handed was, less) }
    by_fault TooLong (none, going, at_end, full) =
        let end = fills_none line first now new left left' left'' source source' far nothing given none in
        record { more = far.more; taken_is = end.taken_is; cuts = λ taken handed was. (begun none going at_end taken handed was, full) }
    by_fault Memory h = absurd h

-- memory was not had for the line
pub breaks_off : {S : Type 0} (line : Line) (first now : Reading) (left left' : Option (List ℕ)) (source source' : S) → SoFar line first now left left' source source' → Answers lines_of (Err Memory) first now left left'
breaks_off line first now left left' source source' far = record {
  more = far.more;
  taken_is = far.taken_is;
  cuts = λ taken handed was.
      (let (others, cut) = cut_broken far.more first now.at_end taken handed (λ is. (far.at_end ∙ is, still line first now left left' source source' far is)) was in
      ((let c = far.counted in let d = was.counted in omega (arith, length-append taken far.more)), others, cut));
}

-- the input has ended, and nothing waits
pub is_over : (reader : Reading) (left : Option (List ℕ)) → reader.at_end ≡ true → reader.waiting ≡ [] → Answers lines_of (Ok None) reader reader left left
is_over reader left at_end nothing = record {
  more = [];
  taken_is = sym (before-nil left);
  cuts = λ taken handed was.
      (at_end, (let c = was.counted in omega (arith, length-append taken [])), cut_end [] reader taken handed (λ _. refl) (append-nil reader.waiting ∙ nothing) was);
}

-- the fault is kept
pub is_kept : (fault : LineFault) (first now new : Reading) (left left' : Option (List ℕ)) → new.taken ≡ now.taken → new.most ≡ now.most → new.at_end ≡ now.at_end → Answers lines_of (Err fault) first now left left'
    → Answers lines_of (Err fault) first new left left'
is_kept ReadFault first now new left left' taken most at_end answer = record {
  more = answer.more;
  taken_is = answer.taken_is;
  cuts = λ bytes handed was.
      (let (begun, less) = answer.cuts bytes handed was in
      (record { counted = taken ∙ begun.counted; all = begun.all; at_end = at_end ∙ begun.at_end }, omega (arith, less, taken, most)));
}
is_kept TooLong first now new left left' taken most at_end answer = record {
  more = answer.more;
  taken_is = answer.taken_is;
  cuts = λ bytes handed was.
      (let (begun, full) = answer.cuts bytes handed was in
      (record { counted = taken ∙ begun.counted; all = begun.all; at_end = at_end ∙ begun.at_end }, taken ∙ (full ∙ sym most)));
}
is_kept Memory first now new left left' taken most at_end answer = record {
  more = answer.more;
  taken_is = answer.taken_is;
  cuts = λ bytes handed was.
      (let (counted, others, cut) = answer.cuts bytes handed was in
      (taken ∙ counted, others, ap (λ e. lines_of e (bytes ++ answer.more)) at_end ∙ cut));
}
