-- How the inside of a string is decoded, character by character.
use Rattle.std.proofs.Common.{◌≡◌, ℕ, zero, suc, ◌+◌, ◌-◌, ◌<◌, ◌≤◌, Bool, List, [], ◌∷◌, ◌++◌, length, drop, get_or, refl, sym, ◌∙◌, ap, arith, Option, Some, None, append_assoc, ne_eqb}
use Rattle.std.proofs.lemmas.List.{append-nil, drop_more, drop_all}
use Rattle.std.proofs.lemmas.Bool.{cond-false}
use Rattle.py_tokens.specs.Escapes.{escape_at}
use Rattle.py_tokens.specs.Literals.{append_known, escape_text, escape_len, decode, IsStep}
use Rattle.py_tokens.specs.declared.escapes.Escape.{Escape}
use Rattle.py_tokens.specs.declared.escapes.Escape.TheVariants.{Joined, Unknown}

known_assoc : (xs ys : List ℕ) (o : Option (List ℕ)) → append_known (Some xs) (append_known (Some ys) o) ≡ append_known (Some (xs ++ ys)) o
known_assoc xs ys None = refl
known_assoc xs ys (Some zs) = ap Some (sym (append_assoc xs ys zs))

pub known_nil : (o : Option (List ℕ)) → append_known (Some []) o ≡ o
known_nil None = refl
known_nil (Some xs) = refl

pub skips : (bytes : Bool) (skip c : ℕ) (rest before : List ℕ) → 0 < skip → IsStep bytes skip c rest before before (Some (skip - 1))
skips bytes zero c rest before h = absurd (omega arith)
skips bytes (suc k) c rest before h = ap (λ n. append_known (Some before) (decode bytes n rest)) (let e : k ≡ suc k - 1 = omega arith in e)

pub char_adds : (bytes : Bool) (c : ℕ) (rest before behind : List ℕ) → (c ≡ 92 → ⊥) → behind ≡ before ++ c ∷ [] → IsStep bytes 0 c rest before behind (Some 0)
char_adds bytes c rest before behind n e =
    ap (append_known (Some before)) (cond-false _ _ _ (ne_eqb c 92 n)) ∙ known_assoc before (c ∷ []) (decode bytes 0 rest) ∙ ap (λ xs. append_known (Some xs) (decode bytes 0 rest)) (sym e)

pub escape_adds : (bytes : Bool) (rest before behind text : List ℕ) (found : Escape) → found ≡ escape_at bytes rest → escape_text found ≡ Some text → behind ≡ before ++ text → IsStep bytes 0 92 rest before behind (Some (escape_len found))
escape_adds bytes rest before behind text found f t e =
    ap (λ x. append_known (Some before) (append_known (escape_text x) (decode bytes (escape_len x) rest))) (sym f)
    ∙ ap (λ o. append_known (Some before) (append_known o (decode bytes (escape_len found) rest))) t
    ∙ known_assoc before text (decode bytes (escape_len found) rest)
    ∙ ap (λ xs. append_known (Some xs) (decode bytes (escape_len found) rest)) (sym e)

pub escape_joins : (bytes : Bool) (rest before : List ℕ) (n : ℕ) → Joined n ≡ escape_at bytes rest → IsStep bytes 0 92 rest before before (Some n)
escape_joins bytes rest before n f = escape_adds bytes rest before before [] (Joined n) f refl (sym (append-nil before))

pub escape_unknown : (bytes : Bool) (rest before : List ℕ) → Unknown ≡ escape_at bytes rest → IsStep bytes 0 92 rest before before None
escape_unknown bytes rest before f = ap (λ x. append_known (escape_text x) (decode bytes (escape_len x) rest)) (sym f)

pub no_step : (bytes : Bool) (body out : List ℕ) (whole : Option (List ℕ)) (i skip c : ℕ) → i < length body → c ≡ get_or body i c → append_known (Some out) (decode bytes skip (drop i body)) ≡ whole → decode bytes skip (c ∷ drop (i + 1) body) ≡ None → None ≡ whole
no_step bytes body out whole i skip c h is inv n =
    sym (ap (append_known (Some out)) n)
    ∙ ap (λ xs. append_known (Some out) (decode bytes skip xs)) (ap (λ x. x ∷ drop (i + 1) body) is ∙ sym (drop_more body i c h))
    ∙ inv

pub a_step : (bytes : Bool) (body out more : List ℕ) (whole : Option (List ℕ)) (i skip next c : ℕ) → i < length body → c ≡ get_or body i c → append_known (Some out) (decode bytes skip (drop i body)) ≡ whole → append_known (Some out) (decode bytes skip (c ∷ drop (i + 1) body)) ≡ append_known (Some more) (decode bytes next (drop (i + 1) body)) → append_known (Some more) (decode bytes next (drop (i + 1) body)) ≡ whole
a_step bytes body out more whole i skip next c h is inv s =
    sym s
    ∙ ap (λ xs. append_known (Some out) (decode bytes skip xs)) (ap (λ x. x ∷ drop (i + 1) body) is ∙ sym (drop_more body i c h))
    ∙ inv

pub all_steps : (bytes : Bool) (body out : List ℕ) (whole : Option (List ℕ)) (i skip : ℕ) → length body ≤ i → append_known (Some out) (decode bytes skip (drop i body)) ≡ whole → Some out ≡ whole
all_steps bytes body out whole i skip h inv =
    ap Some (sym (append-nil out)) ∙ ap (λ xs. append_known (Some out) (decode bytes skip xs)) (sym (drop_all i body h)) ∙ inv
