-- What a string can't begin with.
use Rattle.std.proofs.Common.{◌≡◌, ℕ, Bool, true, false, ◌&&◌, ◌||◌, cond, refl}
use Rattle.std.proofs.lemmas.Bool.{both_ways}
use Rattle.py_tokens.specs.Strings.{is_letter, is_f, is_prefix, is_prefix_pair}

no_pair : (r u b f x y : Bool) → (((r || u) || b) || f) ≡ false → cond r x ((b || f) && y) ≡ false
no_pair true u b f x y n = absurd (both_ways _ n refl)
no_pair false true b f x y n = absurd (both_ways _ n refl)
no_pair false false true f x y n = absurd (both_ways _ n refl)
no_pair false false false true x y n = absurd (both_ways _ n refl)
no_pair false false false false x y n = refl

-- what is no prefix begins no prefix of two letters
pub no_prefix_pair : (c d : ℕ) → is_prefix c ≡ false → is_prefix_pair c d ≡ false
no_prefix_pair c d n = no_pair (is_letter 114 82 c) (is_letter 117 85 c) (is_letter 98 66 c) (is_f c) _ _ n
