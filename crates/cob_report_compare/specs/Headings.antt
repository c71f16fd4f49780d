-- What names the records that are told.
use Rattle.std.specs.Prelude.{◌≡◌, List, ℕ, length, map}
use Rattle.cob_report_show.specs.Elements.{named_item}
use Rattle.cob_report_compare.specs.declared.headings.Heading.{Heading}
use Rattle.cob_report_compare.specs.declared.headings.Numbers.{Numbers}
use Rattle.cob_report_compare.specs.declared.headings.Numbers.TheVariants.{Pair, Alone}
use Rattle.cob_report_compare.specs.Keys.{key_size}
use Rattle.cob_report_compare.specs.Lines.{IsHeading, number_text, numbers_text}

-- the numbers of records, as they are printed
abbrev pub heading_numbers : Numbers → List ℕ
heading_numbers (Pair left right) = numbers_text left right
heading_numbers (Alone side number) = number_text side number

-- a heading has as many bytes as its key
abbrev pub IsPlainHeading : Heading → Type 0
IsPlainHeading h = length h.key.now ≡ key_size (map named_item h.keys.now)

-- what is printed of it
abbrev pub heading_text : Heading → List ℕ → Type 0
heading_text h text = IsHeading (heading_numbers h.numbers) (map named_item h.keys.now) h.key.now text
