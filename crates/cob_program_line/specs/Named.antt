-- What options name.
use Rattle.std.specs.Prelude.{◌≡◌, ◌⊎◌, ◌≤◌, ℕ, Bool, true, false, Some, None, Option, if◌then◌else◌, codes}
use Rattle.std.specs.Str.{bytes_eq}
use Rattle.clap.specs.Words.{Text}
use Rattle.cob_codec.specs.Readings.{reads_whole, takes_any_zones}
use Rattle.cob_codec.specs.declared.reading.Reading.{Reading}
use Rattle.cob_records.specs.declared.records.Form.{Form}
use Rattle.cob_records.specs.declared.records.Form.TheVariants.{Fixed, Variable, Blocked}
use Rattle.cob_records.specs.BlockSize.{SaysBlockSize}
use Rattle.cob_limits.specs.Limits.{longest_block}
use Rattle.cob_program_options.specs.Looks.{Look}
use Rattle.cob_program_line.specs.Numbers.{SaysNumber}
use Rattle.cob_program_line.specs.declared.line.Listing.{Listing}
use Rattle.cob_program_line.specs.declared.line.Listing.TheVariants as listing
use Rattle.cob_program_line.specs.declared.line.Measure.{Measure}
use Rattle.cob_program_line.specs.declared.line.Measure.TheVariants as measure

-- the letter of a form
abbrev pub letter_of : Form → Text
letter_of Fixed = codes "f"
letter_of Variable = codes "v"
letter_of (Blocked most) = codes "b"

-- the form of a letter, with the longest blocks where it has blocks
abbrev pub form_by_letter : Text → Option Form
form_by_letter letter = if bytes_eq letter (codes "f") then Some Fixed
    else (if bytes_eq letter (codes "v") then Some Variable
    else (if bytes_eq letter (codes "b") then Some (Blocked longest_block) else None))

-- the form with blocks of at most this size, where it has blocks
abbrev pub sized_by : ℕ → Form → Form
sized_by size Fixed = Fixed
sized_by size Variable = Variable
sized_by size (Blocked most) = Blocked size

-- the word for whether binary items are read whole
abbrev pub word_of_binary : Bool → Text
word_of_binary false = codes "pictured"
word_of_binary true = codes "whole"

-- the word for whether items are read by any zones
abbrev pub word_of_zones : Bool → Text
word_of_zones false = codes "strict"
word_of_zones true = codes "any"

-- what a word says of binary items: whether they are read whole
abbrev pub binary_by_word : Text → Option Bool
binary_by_word word = if bytes_eq word (codes "pictured") then Some false
    else (if bytes_eq word (codes "whole") then Some true else None)

-- what a word says of zones: whether items are read by any
abbrev pub zones_by_word : Text → Option Bool
zones_by_word word = if bytes_eq word (codes "strict") then Some false
    else (if bytes_eq word (codes "any") then Some true else None)

-- The options for the reading of senders name this one.
pub record NamesReading (look : Look) (reading : Reading) : Type 0 where
  pub binary : look (codes "binary") ≡ Some (word_of_binary (reads_whole reading))
  pub zones : look (codes "zones") ≡ Some (word_of_zones (takes_any_zones reading))

-- the word of a listing of values
abbrev pub word_of_listing : Listing → Text
word_of_listing listing.Text = codes "text"
word_of_listing listing.Json = codes "json"
word_of_listing listing.Csv = codes "csv"

-- the listing of a word
abbrev pub listing_by_word : Text → Option Listing
listing_by_word word = if bytes_eq word (codes "text") then Some listing.Text
    else (if bytes_eq word (codes "json") then Some listing.Json
    else (if bytes_eq word (codes "csv") then Some listing.Csv else None))

-- the word of a measure of a comparison
abbrev pub word_of_measure : Measure → Text
word_of_measure measure.Value = codes "value"
word_of_measure measure.Bytes = codes "bytes"

-- the measure of a word
abbrev pub measure_by_word : Text → Option Measure
measure_by_word word = if bytes_eq word (codes "value") then Some measure.Value
    else (if bytes_eq word (codes "bytes") then Some measure.Bytes else None)

-- The option for the form of the records on the right names it, whose blocks may be the longest; where it is not there, these stand as those on the left.
abbrev pub NamesRightForm : Look → (left right : Form) → Type 0
NamesRightForm look left right =
    ((look (codes "right-form") ≡ None) × (right ≡ left))
    ⊎ ((look (codes "right-form") ≡ Some (letter_of right)) × (right ≡ sized_by longest_block right))

-- An option names the greatest size of blocks, where the form has blocks; beside another form its word isn't read, and the size is the longest.
abbrev pub NamesBlock : Look → Text → Form → ℕ → Type 0
NamesBlock look name Fixed size = size ≡ longest_block
NamesBlock look name Variable size = size ≡ longest_block
NamesBlock look name (Blocked most) size = (word : Text) × (look name ≡ Some word) × SaysBlockSize word size

-- an option names a number that is this at least
abbrev pub NamesNumber : Look → Text → (least number : ℕ) → Type 0
NamesNumber look name least number = (word : Text) × (look name ≡ Some word) × SaysNumber word number × (least ≤ number)

-- an option names a number, or all
abbrev pub NamesBound : Look → Text → Option ℕ → Type 0
NamesBound look name None = look name ≡ Some (codes "all")
NamesBound look name (Some number) = NamesNumber look name 0 number

-- the option for the record length of the input names one from 1 on, or is not there
abbrev pub NamesLrecl : Look → Option ℕ → Type 0
NamesLrecl look None = look (codes "lrecl") ≡ None
NamesLrecl look (Some lrecl) = NamesNumber look (codes "lrecl") 1 lrecl
