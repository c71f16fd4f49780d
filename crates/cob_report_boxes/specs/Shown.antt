-- How the words of a copybook are written in HTML.
use Rattle.std.specs.Prelude.{ℕ, List, encode_utf8_all}
use Rattle.std.specs.List.{flat_map}
use Rattle.cob_report_html.specs.Escapes.{escaped_character}

-- the bytes of a character, or of the escape that stands for it
abbrev pub shown_character : ℕ → List ℕ
shown_character c = encode_utf8_all (escaped_character c)

-- the same of characters, one behind another
abbrev pub shown : List ℕ → List ℕ
shown cs = flat_map shown_character cs
