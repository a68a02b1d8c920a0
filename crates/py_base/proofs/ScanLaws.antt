-- The loop over the characters of a text makes the table of its lines.
use Rattle.std.proofs.Common.{◌≡◌, ℕ, ◌+◌, ◌≤◌, List, [], ◌∷◌, ◌++◌, length, map, true, false, refl, sym, ap, ◌∙◌, arith, chars, IsUtf8}
use Rattle.std.proofs.lemmas.List.{append-nil, append_assoc, nil_from_length}
use Rattle.std.proofs.lemmas.Str.{chars-nil, chars_past_char, IsUtf8-past_char, encodes-chars, length-le-encodes}
use Rattle.std.specs.Char.{encode_utf8}
use Rattle.py_base.specs.Lines.{physical_lines, ends_line}
use Rattle.py_base.specs.LineStarts.{lengths_between, AreStarts}
use Rattle.py_base.proofs.StartLaws.{next_starts, next_starts-at_end, next_starts-within, AreStarts-next_starts, lengths_of_starts}

abbrev pub line_lengths : List ℕ → List ℕ
line_lengths bytes = map length (physical_lines (chars bytes))

-- the starts so far, with those that the rest of the text adds, are those of the text
pub record IsScanned (text starts : List ℕ) (count : ℕ) (rest : List ℕ) : Type 0 where
  pub table : starts ++ next_starts count (line_lengths rest) ≡ 0 ∷ next_starts 0 (line_lengths text)
  pub passed : count + length (chars rest) ≡ length (chars text)
  pub is_text : IsUtf8 rest

pub scanned_none : (text : List ℕ) → IsUtf8 text → IsScanned text (0 ∷ []) 0 text
scanned_none text u = record { table = refl; passed = omega arith; is_text = u }

pub scanned_line : (text starts rest more : List ℕ) (count c : ℕ) → IsScanned text starts count rest → rest ≡ encode_utf8 c ++ more → ends_line c (chars more) ≡ true → IsScanned text (starts ++ (count + 1) ∷ []) (count + 1) more
scanned_line text starts rest more count c h front ends =
    let step = chars_past_char rest more c h.is_text front in
    record {
      table = append_assoc starts ((count + 1) ∷ []) (next_starts (count + 1) (line_lengths more)) ∙ ap (λ xs. starts ++ xs) (sym (ap (λ cs. next_starts count (map length (physical_lines cs))) step ∙ next_starts-at_end count c (chars more) ends)) ∙ h.table;
      passed = omega (arith, h.passed, ap length step);
      is_text = IsUtf8-past_char rest more c h.is_text front;
    }

pub scanned_character : (text starts rest more : List ℕ) (count c : ℕ) → IsScanned text starts count rest → rest ≡ encode_utf8 c ++ more → ends_line c (chars more) ≡ false → IsScanned text starts (count + 1) more
scanned_character text starts rest more count c h front ends =
    let step = chars_past_char rest more c h.is_text front in
    record {
      table = ap (λ xs. starts ++ xs) (sym (ap (λ cs. next_starts count (map length (physical_lines cs))) step ∙ next_starts-within count c (chars more) ends)) ∙ h.table;
      passed = omega (arith, h.passed, ap length step);
      is_text = IsUtf8-past_char rest more c h.is_text front;
    }

chars_fit : (text : List ℕ) → IsUtf8 text → length (chars text) ≤ length text
chars_fit text u = omega (arith, length-le-encodes (chars text), ap length (encodes-chars text u))

-- the next character can be counted
pub count_fits : (text starts rest more : List ℕ) (count c : ℕ) → IsUtf8 text → length text ≤ 4_194_304 → IsScanned text starts count rest → rest ≡ encode_utf8 c ++ more → count + 1 ≤ 4_194_304
count_fits text starts rest more count c u short h front =
    omega (arith, h.passed, ap length (chars_past_char rest more c h.is_text front), chars_fit text u)

all_scanned : (text starts rest : List ℕ) (count : ℕ) → IsScanned text starts count rest → length rest ≡ 0 → (starts ≡ 0 ∷ next_starts 0 (line_lengths text)) × (count ≡ length (chars text))
unfolding physical_lines
all_scanned text starts rest count h end =
    let none : chars rest ≡ [] = ap chars (nil_from_length rest end) ∙ chars-nil in
    (sym (append-nil starts) ∙ ap (λ cs. starts ++ next_starts count (map length (physical_lines cs))) (sym none) ∙ h.table, omega (arith, h.passed, ap length none))

pub scanned_table : (text starts rest : List ℕ) (count : ℕ) → IsUtf8 text → length text ≤ 4_194_304 → IsScanned text starts count rest → length rest ≡ 0 → AreStarts starts count
scanned_table text starts rest count u short h end =
    let all = all_scanned text starts rest count h end in
    rw (all.0, all.1) (AreStarts-next_starts (chars text) (omega (arith, chars_fit text u)))

pub scanned_lengths : (text starts rest : List ℕ) (count : ℕ) → IsScanned text starts count rest → length rest ≡ 0 → lengths_between starts count ≡ line_lengths text
scanned_lengths text starts rest count h end =
    let all = all_scanned text starts rest count h end in
    rw (all.0, all.1) (lengths_of_starts (chars text))
