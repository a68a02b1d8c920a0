-- The numbers of the names that narrowing asks classes for.
use Rattle.std.proofs.Common.{◌≡◌, refl}
use Rattle.std.specs.Prelude.{codes}
use Rattle.py_base.specs.LanguageNames.{language_names}
use Rattle.narrow_rules.specs.Ground.{named}

pub bool_named : named (codes "__bool__") ≡ (record { 0 = 120 })
unfolding language_names
bool_named = refl

pub call_named : named (codes "__call__") ≡ (record { 0 = 122 })
unfolding language_names
call_named = refl

pub len_named : named (codes "__len__") ≡ (record { 0 = 139 })
unfolding language_names
len_named = refl
