-- The bytes of a source, one piece behind another.
use Rattle.std.proofs.Common.{◌≡◌, ◌∙◌, ℕ, ◌+◌, ◌-◌, ◌<◌, ◌≤◌, ◌==◌, nat_lt, Bool, true, false, Result, Ok, Err, Option, Some, None, List, [], ◌∷◌, ◌++◌, length, take, drop, replicate, refl, ap, sym, append_assoc, arith, length-append}
use Rattle.std.proofs.lemmas.Bool.{ltb-true, ltb-false, eq-eqb}
use Rattle.std.proofs.Math.Seq.{take-add, take-append_seam}
use Rattle.std.proofs.lemmas.List.{append-nil, length-take-le, length-drop, length-replicate}
use Rattle.edge_io.specs.Stream.{before}
use Rattle.text_commands.specs.declared.whole.WholeFault.{WholeFault}
use Rattle.text_commands.specs.declared.whole.WholeFault.TheVariants.{ReadFault, TooLong, Memory}
use Rattle.text_commands.specs.Whole.{TakesWhole, SaysEnd, TakesSome}

before-nil : (left : Option (List ℕ)) → before [] left ≡ left
before-nil None = refl
before-nil (Some rest) = refl

before-before : (xs ys : List ℕ) (left : Option (List ℕ)) → before xs (before ys left) ≡ before (xs ++ ys) left
before-before xs ys None = refl
before-before xs ys (Some rest) = ap Some (sym (append_assoc xs ys rest))

-- what stood before a piece stays as the buffer grows for it
kept_is : (xs zs : List ℕ) (room : ℕ) → take (length xs) zs ≡ take (length xs) (xs ++ replicate room 0) → take (length xs) zs ≡ xs
kept_is xs zs room same = same ∙ take-append_seam xs (replicate room 0)

-- the buffer is grown, a piece goes into its end, and what is left of the end goes
module _ (xs zs new : List ℕ) (room : ℕ) (kept : take (length xs) zs ≡ take (length xs) (xs ++ replicate room 0)) (whole : length zs ≡ length (xs ++ replicate room 0)) where
  grown : length zs ≡ length xs + room
  grown = whole ∙ length-append xs (replicate room 0) ∙ ap (λ (n : ℕ). length xs + n) (length-replicate room 0)

  pub takes_piece : (count : ℕ) (ended : Bool) (m r : Option (List ℕ)) → length xs + count ≤ length (xs ++ replicate room 0) → m ≡ before (take count (drop (length xs) zs)) r → ended ≡ (count == 0) → new ≡ take (length xs + count) zs → TakesSome (Ok (nat_lt 0 count)) room xs new ended m r
  takes_piece count ended m r within taken ends cut =
      let fits : length xs + count ≤ length xs + room = (let e : length (xs ++ replicate room 0) ≡ length xs + room = sym whole ∙ grown in omega arith) in
      let rest : length (drop (length xs) zs) ≡ length zs - length xs = length-drop (length xs) zs in
      let size : length (take count (drop (length xs) zs)) ≡ count = length-take-le count (drop (length xs) zs) (omega (arith, grown)) in
      record {
        more = take count (drop (length xs) zs);
        behind_are = cut ∙ take-add (length xs) count zs ∙ ap (λ (ys : List ℕ). ys ++ take count (drop (length xs) zs)) (kept_is xs zs room kept);
        taken_is = taken;
        few = omega arith;
        says = says count (nat_lt 0 count) refl ended (take count (drop (length xs) zs)) size ends;
      }
    where
      empty : (more : List ℕ) → length more ≡ 0 → more ≡ []
      empty [] is = refl
      empty (x ∷ rest) is = absurd (omega arith)

      says : (n : ℕ) (b : Bool) → nat_lt 0 n ≡ b → (e : Bool) (more : List ℕ) → length more ≡ n → e ≡ (n == 0) → SaysEnd (Ok b) more e
      says n true is e more size' ends' = let some : 0 < n = ltb-true 0 n is in omega arith
      says n false is e more size' ends' = let none : n ≤ 0 = ltb-false 0 n is in (empty more (omega arith), ends' ∙ eq-eqb n 0 (omega arith))

  pub takes_none : (ended : Bool) (m r : Option (List ℕ)) → r ≡ m → ended ≡ false → new ≡ take (length xs) zs → TakesSome (Err ReadFault) room xs new ended m r
  takes_none ended m r same ends cut = record {
    more = [];
    behind_are = cut ∙ kept_is xs zs room kept ∙ sym (append-nil xs);
    taken_is = sym same ∙ sym (before-nil r);
    few = omega arith;
    says = (refl, ends);
  }

-- ---- pieces, one behind another

module _ (result : Result Bool WholeFault) (room : ℕ) (old new : List ℕ) (ended : Bool) (l m r : Option (List ℕ)) (takes : TakesSome result room old new ended m r) where
  pub takes_on : l ≡ before old m → l ≡ before new r
  takes_on so_far = so_far ∙ ap (before old) takes.taken_is ∙ before-before old takes.more r ∙ ap (λ (xs : List ℕ). before xs r) (sym takes.behind_are)

  pub longer : length new ≡ length old + length takes.more
  longer = ap length takes.behind_are ∙ length-append old takes.more

  pub no_longer : takes.more ≡ [] → length new ≡ length old
  no_longer none = longer ∙ (let e : length takes.more ≡ 0 = ap length none in omega arith)

pub goes_on : (room : ℕ) (old new : List ℕ) (ended : Bool) (m r : Option (List ℕ)) → TakesSome (Ok true) room old new ended m r → length old < length new
goes_on room old new ended m r takes =
    let e = longer (Ok true) room old new ended m m r takes in
    let some : 0 < length takes.more = takes.says in
    omega arith

pub within_room : (result : Result Bool WholeFault) (room : ℕ) (old new : List ℕ) (ended : Bool) (m r : Option (List ℕ)) → TakesSome result room old new ended m r → length new ≤ length old + room
within_room result room old new ended m r takes =
    let e = longer result room old new ended m m r takes in
    let few = takes.few in
    omega arith

pub ends_whole : {T : Type 0} (done : T) (room : ℕ) (old new : List ℕ) (ended : Bool) (m r : Option (List ℕ)) → length old ≤ 4194304 → TakesSome (Ok false) room old new ended m r → TakesWhole (Ok done) (length new) ended
ends_whole done room old new ended m r few takes =
    let e = no_longer (Ok false) room old new ended m m r takes takes.says.0 in
    (omega arith, takes.says.1)

pub ends_by : (T : Type 0) (fault : WholeFault) (room : ℕ) (old new : List ℕ) (ended : Bool) (m r : Option (List ℕ)) → length old ≤ 4194304 → TakesSome (Err fault) room old new ended m r → TakesWhole {T = T} (Err fault) (length new) ended
ends_by T ReadFault room old new ended m r few takes =
    let e = no_longer (Err ReadFault) room old new ended m m r takes takes.says.0 in
    (omega arith, takes.says.1)
ends_by T TooLong room old new ended m r few takes = absurd takes.says
ends_by T Memory room old new ended m r few takes =
    let e = no_longer (Err Memory) room old new ended m m r takes takes.says in
    omega arith
