-- Classes of characters: those that begin and go on in names, blanks, line ends, quotes and brackets.
-- Python 3.12 language reference, 2.1 "Line structure" and 2.3 "Identifiers and keywords"; a name's characters are
-- those of Unicode Standard Annex 31, and the underscore.
use Rattle.std.specs.Prelude.{ℕ, Bool, true, not, ◌&&◌, ◌||◌, List, [], ◌∷◌, if◌then◌else◌, ◌==◌}
use Rattle.unicode_ident.specs.Ident.{is_xid_start, is_xid_continue}
use Rattle.py_tokens.specs.declared.chars.Class.{Class}
use Rattle.py_tokens.specs.declared.chars.Class.TheVariants.{NamePart, Blank, InLine}

abbrev pub starts_name : ℕ → Bool
starts_name c = is_xid_start c || (c == 95)

-- space, tab, form feed
abbrev pub is_blank : ℕ → Bool
is_blank c = ((c == 32) || (c == 9)) || (c == 12)

abbrev pub ends_line : ℕ → Bool
ends_line c = (c == 10) || (c == 13)

abbrev pub is_quote : ℕ → Bool
is_quote c = (c == 39) || (c == 34)

abbrev pub opens_bracket : ℕ → Bool
opens_bracket c = ((c == 40) || (c == 91)) || (c == 123)

abbrev pub closes_bracket : ℕ → Bool
closes_bracket c = ((c == 41) || (c == 93)) || (c == 125)

-- a line end is LF, CR LF or CR: how many characters it has, by its first and the one behind; 0 where it is none
abbrev pub end_len : ℕ → ℕ → ℕ
end_len c d = if (c == 13) && (d == 10) then 2 else (if ends_line c then 1 else 0)

abbrev pub has : Class → ℕ → Bool
has NamePart c = is_xid_continue c
has Blank c = is_blank c
has InLine c = not (ends_line c)

-- each character of the text passes
abbrev pub every : (ℕ → Bool) → List ℕ → Bool
every p [] = true
every p (c ∷ cs) = p c && every p cs

-- the longest front whose characters pass
abbrev pub run : (ℕ → Bool) → List ℕ → List ℕ
run p [] = []
run p (c ∷ cs) = if p c then c ∷ run p cs else []
