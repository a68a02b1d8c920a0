-- What the command `check` has come to, by its status.
use Rattle.std.proofs.Common.{◌≡◌, ◌≢◌, ◌∙◌, ℕ, ◌≤◌, arith, Bool, Option, Some, None, List, [], length, take, drop, refl, ap, sym, subst}
use Rattle.std.proofs.lemmas.List.{append-nil, take-append-drop}
use Rattle.py_base.specs.declared.diag.Diag.{Diag}
use Rattle.edge_io.specs.Stream.{behind}
use Rattle.serial_server.specs.declared.status.Status.{Status}
use Rattle.serial_server.specs.declared.status.Status.TheVariants.{Done, Found, Usage, ReadFault, WriteFault, NoMemory, TooLong, NotText}
use Rattle.serial_server.specs.Served.{IsPrefix, code_of}
use Rattle.text_commands.specs.CheckText.{check_text}
use Rattle.text_commands.specs.Checked.{IsInput, CheckOutcome, Comes}
use Rattle.text_commands.specs.Sampled.{Shows}
use Rattle.text_commands.specs.Sample.{sample_module, summary}
use Rattle.text_commands.specs.Parts.{ChecksBytes, PutsAll}

pub behind-nil : (written : Option (List ℕ)) → behind written [] ≡ written
behind-nil None = refl
behind-nil (Some bytes) = ap Some (append-nil bytes)

first_bytes : (n : ℕ) (xs : List ℕ) → IsPrefix (take n xs) xs
first_bytes n xs = (drop n xs, sym (take-append-drop n xs))

nothing_put : (HasList : List ℕ → List Diag → Type 0) (status : Status) (bytes : List ℕ) (ended : Bool) (w : Option (List ℕ)) → CheckOutcome HasList status bytes ended [] → Comes HasList status bytes ended w w
nothing_put HasList status bytes ended w outcome = record { put = []; written_is = sym (behind-nil w); outcome = outcome }

-- the input was not read to its end
pub comes_to_fault : (HasList : List ℕ → List Diag → Type 0) (bytes : List ℕ) (ended : Bool) (w : Option (List ℕ)) → length bytes ≤ 4194304 → Comes HasList ReadFault bytes ended w w
comes_to_fault HasList bytes ended w few = nothing_put HasList ReadFault bytes ended w (few, refl)

pub comes_too_long : (HasList : List ℕ → List Diag → Type 0) (bytes : List ℕ) (ended : Bool) (w : Option (List ℕ)) → length bytes ≡ 4194305 → Comes HasList TooLong bytes ended w w
comes_too_long HasList bytes ended w is = nothing_put HasList TooLong bytes ended w (omega arith, refl)

pub comes_to_memory : (HasList : List ℕ → List Diag → Type 0) (bytes : List ℕ) (ended : Bool) (w : Option (List ℕ)) → length bytes ≤ 4194304 → Comes HasList NoMemory bytes ended w w
comes_to_memory HasList bytes ended w few = nothing_put HasList NoMemory bytes ended w (few, refl)

-- `check` has no other status
pub no_usage : (HasList : List ℕ → List Diag → Type 0) (status : Status) (code : ℕ) (bytes : List ℕ) (ended : Bool) (w w' : Option (List ℕ)) → code ≡ code_of status → Comes HasList status bytes ended w w' → code ≢ 2
no_usage HasList Done code bytes ended w w' is comes = λ two. omega arith
no_usage HasList Found code bytes ended w w' is comes = λ two. omega arith
no_usage HasList Usage code bytes ended w w' is comes = λ two. absurd comes.outcome
no_usage HasList ReadFault code bytes ended w w' is comes = λ two. omega arith
no_usage HasList WriteFault code bytes ended w w' is comes = λ two. omega arith
no_usage HasList NoMemory code bytes ended w w' is comes = λ two. omega arith
no_usage HasList TooLong code bytes ended w w' is comes = λ two. omega arith
no_usage HasList NotText code bytes ended w w' is comes = λ two. omega arith

pub comes_of : (HasList : List ℕ → List Diag → Type 0) (status : Status) (bytes : List ℕ) (ended : Bool) (w w' : Option (List ℕ)) → IsInput bytes ended → ChecksBytes HasList status bytes w w' → Comes HasList status bytes ended w w'
comes_of HasList Done bytes ended w w' input checks =
    let (none, same) = checks.writes in
    record {
      put = [];
      written_is = same ∙ sym (behind-nil w);
      outcome = (record { input = input; is_text = checks.is_text; list_is = subst (λ (ds : List Diag). HasList bytes ds) none checks.list_is }, refl);
    }
comes_of HasList Found bytes ended w w' input checks =
    let (some, put) = checks.writes in
    record { put = check_text checks.list; written_is = put; outcome = (checks.list, record { input = input; is_text = checks.is_text; list_is = checks.list_is }, some, refl) }
comes_of HasList WriteFault bytes ended w w' input checks =
    let (n, put) = checks.writes in
    record { put = take n (check_text checks.list); written_is = put; outcome = (checks.list, record { input = input; is_text = checks.is_text; list_is = checks.list_is }, first_bytes n (check_text checks.list)) }
comes_of HasList NoMemory bytes ended w w' input same = record { put = []; written_is = same ∙ sym (behind-nil w); outcome = (input.few, refl) }
comes_of HasList NotText bytes ended w w' input (no_text, same) = record { put = []; written_is = same ∙ sym (behind-nil w); outcome = (input, no_text, refl) }
comes_of HasList Usage bytes ended w w' input checks = absurd checks.writes
comes_of HasList ReadFault bytes ended w w' input checks = absurd checks.writes
comes_of HasList TooLong bytes ended w w' input checks = absurd checks.writes

-- ---- a sample

pub no_usage_shown : (HasList : List ℕ → List Diag → Type 0) (status : Status) (code n : ℕ) (w w' : Option (List ℕ)) → code ≡ code_of status → Shows HasList status n w w' → code ≢ 2
no_usage_shown HasList Done code n w w' is shows = λ two. omega arith
no_usage_shown HasList Found code n w w' is shows = λ two. omega arith
no_usage_shown HasList Usage code n w w' is shows = λ two. absurd shows.outcome
no_usage_shown HasList ReadFault code n w w' is shows = λ two. omega arith
no_usage_shown HasList WriteFault code n w w' is shows = λ two. omega arith
no_usage_shown HasList NoMemory code n w w' is shows = λ two. omega arith
no_usage_shown HasList TooLong code n w w' is shows = λ two. omega arith
no_usage_shown HasList NotText code n w w' is shows = λ two. omega arith

pub shows_of : (HasList : List ℕ → List Diag → Type 0) (status : Status) (n : ℕ) (text : List ℕ) (w w' : Option (List ℕ)) → ((list : List Diag) × HasList (sample_module n) list × (text ≡ summary n (sample_module n) list)) → PutsAll status text w w' → Shows HasList status n w w'
shows_of HasList Done n text w w' (list, is, shown) puts = record { put = text; written_is = puts; outcome = (list, is, shown) }
shows_of HasList WriteFault n text w w' (list, is, shown) (k, puts) = record { put = take k text; written_is = puts; outcome = (list, is, subst (λ (xs : List ℕ). IsPrefix (take k text) xs) shown (first_bytes k text)) }
shows_of HasList Found n text w w' made puts = absurd puts
shows_of HasList Usage n text w w' made puts = absurd puts
shows_of HasList ReadFault n text w w' made puts = absurd puts
shows_of HasList NoMemory n text w w' made puts = absurd puts
shows_of HasList TooLong n text w w' made puts = absurd puts
shows_of HasList NotText n text w w' made puts = absurd puts

pub shows_nothing : (HasList : List ℕ → List Diag → Type 0) (n : ℕ) (w : Option (List ℕ)) → Shows HasList NoMemory n w w
shows_nothing HasList n w = record { put = []; written_is = sym (behind-nil w); outcome = refl }
