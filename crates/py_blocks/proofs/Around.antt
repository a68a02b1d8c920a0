-- What is noted of the blocks around a line are the lines around it.
use Rattle.std.proofs.Common.{◌≡◌, ℕ, suc, ◌+◌, ◌<◌, ◌≤◌, ◌⊎◌, inl, inr, nat_lt, nat_le, Bool, true, false, not, ◌&&◌, ◌||◌, if◌then◌else◌, List, [], ◌∷◌, refl, sym, ◌∙◌, ap, arith}
use Rattle.std.specs.List.{list_any}
use Rattle.std.proofs.lemmas.Bool.{lt-ltb, le-ltb, le-leb, cases_lt}
use Rattle.py_blocks.specs.declared.line.Line.{Line}
use Rattle.py_blocks.specs.declared.line.LineKind.{LineKind}
use Rattle.py_blocks.specs.Rules.{is_match, is_def, is_loop, is_scope, is_finally, around, is_directly_in, is_in_loop, count_of, is_astray_in}
use Rattle.py_blocks.specs.Settings.{within, setting_of, setting_around, finallys_within, is_astray_by}

pub around-same : (before : List Line) (column : ℕ) → setting_around before column ≡ setting_of (around before column)
around-same [] column = refl
around-same (y ∷ ys) column = go (nat_lt y.column column) refl (around-same ys y.column) (around-same ys column)
  where
    go : (b : Bool) → nat_lt y.column column ≡ b → setting_around ys y.column ≡ setting_of (around ys y.column) → setting_around ys column ≡ setting_of (around ys column) → setting_around (y ∷ ys) column ≡ setting_of (around (y ∷ ys) column)
    go true e inner other = rw e (ap (within y.kind) inner)
    go false e inner other = rw e other

told-match : (ks : List LineKind) → (setting_of ks).in_match ≡ is_directly_in is_match ks
told-match [] = refl
told-match (k ∷ ks) = refl

told-def : (ks : List LineKind) → (setting_of ks).in_def ≡ list_any is_def ks
told-def [] = refl
told-def (k ∷ ks) = ap (λ b. is_def k || b) (told-def ks)

told-loop : (ks : List LineKind) → (setting_of ks).in_loop ≡ is_in_loop ks
told-loop [] = refl
told-loop (k ∷ ks) = ap (λ b. is_loop k || not (is_scope k) && b) (told-loop ks)

-- ---- at most four are counted

abbrev capped : ℕ → ℕ
capped n = if nat_lt n 4 then n else 4

capped-low : (n : ℕ) → n < 4 → capped n ≡ n
capped-low n lt = rw (lt-ltb n 4 lt) refl

capped-full : (n : ℕ) → 4 ≤ n → capped n ≡ 4
capped-full n le = rw (le-ltb n 4 le) refl

one-more : (n : ℕ) → (if nat_lt (capped n) 4 then capped n + 1 else capped n) ≡ capped (suc n)
one-more n = go (cases_lt n 4) (cases_lt (suc n) 4)
  where
    go : ((n < 4) ⊎ (4 ≤ n)) → ((suc n < 4) ⊎ (4 ≤ suc n)) → (if nat_lt (capped n) 4 then capped n + 1 else capped n) ≡ capped (suc n)
    go (inl lt) (inl more) =
        let same : n + 1 ≡ suc n = omega arith in
        rw (capped-low n lt, lt-ltb n 4 lt, capped-low (suc n) more) same
    go (inl lt) (inr le) =
        let same : n + 1 ≡ 4 = omega arith in
        rw (capped-low n lt, lt-ltb n 4 lt, capped-full (suc n) le) same
    go (inr le) h =
        let more : 4 ≤ suc n = omega arith in
        rw (capped-full n le, capped-full (suc n) more) refl

told-count : (ks : List LineKind) → (setting_of ks).finallys ≡ capped (count_of is_finally ks)
told-count [] = refl
told-count (k ∷ ks) = go (is_finally k) refl (told-count ks)
  where
    go : (b : Bool) → is_finally k ≡ b → (setting_of ks).finallys ≡ capped (count_of is_finally ks) → finallys_within k (setting_of ks).finallys ≡ capped (count_of is_finally (k ∷ ks))
    go true e h = rw (e, h) (one-more (count_of is_finally ks))
    go false e h = rw e h

capped-deep : (n : ℕ) → nat_le 4 (capped n) ≡ nat_le 4 n
capped-deep n = go (cases_lt n 4)
  where
    go : ((n < 4) ⊎ (4 ≤ n)) → nat_le 4 (capped n) ≡ nat_le 4 n
    go (inl lt) = ap (nat_le 4) (capped-low n lt)
    go (inr le) = ap (nat_le 4) (capped-full n le) ∙ sym (le-leb 4 n le)

told-deep : (ks : List LineKind) → nat_le 4 (setting_of ks).finallys ≡ nat_le 4 (count_of is_finally ks)
told-deep ks = ap (nat_le 4) (told-count ks) ∙ capped-deep (count_of is_finally ks)

-- ---- together

pub astray-told : (ks : List LineKind) (x : Line) → is_astray_by (setting_of ks) x ≡ is_astray_in ks x
astray-told ks x = rw (told-match ks, told-def ks, told-loop ks, told-deep ks) refl
