use Rattle.std.proofs.Common.{◌≢◌}
use Rattle.type_terms.specs.Order.{literal_kind}
use Rattle.type_terms.proofs.KeyLemmas.{key_cmp-bytes_key, key_cmp-apart, kind-Int, kind-Bool, kind-Str, kind-Bytes, kind-Member}
use Rattle.type_terms.proofs.literal.Literal.compare.Goals as goal
use Rattle.type_terms.proofs.literal.Literal.compare.Goals.{in_default-via-in-Int+in_default, in_default-via-in-Bool+in_default, in_default-via-in-Str+in_default, in_default-via-in-Bytes+in_default, in_default-via-in-Member+in_default}

pub returns-in-Str-Str : goal.returns-in-Str-Str
returns-in-Str-Str c =
    let same = key_cmp-bytes_key c.in-Str-Str.a c.in-Str-Str.b in
    rw (c.in-Str-Str.is-0, c.in-Str-Str.is-1) (cc)

pub returns-in-Bytes-Bytes : goal.returns-in-Bytes-Bytes
returns-in-Bytes-Bytes c =
    let same = key_cmp-bytes_key c.in-Bytes-Bytes.a c.in-Bytes-Bytes.b in
    rw (c.in-Bytes-Bytes.is-0, c.in-Bytes-Bytes.is-1) (cc)

pub returns-in_default : goal.returns-in_default
returns-in_default c =
    let a = c.args.self.now in
    let b = c.args.other.now in
    let apart : literal_kind a ≢ literal_kind b = elim c.in_default.branch [
      | in_default-via-in-Int+in_default w ↦ rw w.in_default.is-0 (kind-Int b w.in_default.not-Int-1)
      | in_default-via-in-Bool+in_default w ↦ rw w.in_default.is-0 (kind-Bool b w.in_default.not-Bool-1)
      | in_default-via-in-Str+in_default w ↦ rw w.in_default.is-0 (kind-Str b w.in_default.not-Str-1)
      | in_default-via-in-Bytes+in_default w ↦ rw w.in_default.is-0 (kind-Bytes b w.in_default.not-Bytes-1)
      | in_default-via-in-Member+in_default w ↦ rw w.in_default.is-0 (kind-Member b w.in_default.not-Member-1)
    ] in
    let decided = key_cmp-apart a b apart in
    cc
