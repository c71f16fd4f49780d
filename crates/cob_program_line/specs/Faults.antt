-- What is wrong with words that are no command line.
use Rattle.std.specs.Prelude.{◌≡◌, ◌⊎◌, ◌≤◌, ℕ, Bool, true, false, List, Some, None, codes}
use Rattle.clap.specs.Words.{IsAmong, Text, fault_of, kind_of}
use Rattle.clap.specs.declared.error.Error.{Error}
use Rattle.clap.specs.declared.error.kind.ErrorKind.{ErrorKind}
use Rattle.clap.specs.declared.error.kind.ErrorKind.TheVariants as kind
use Rattle.cob_records.specs.BlockSize.{SaysBlockSize}
use Rattle.cob_records.specs.declared.records.Form.{Form}
use Rattle.cob_records.specs.declared.records.Form.TheVariants.{Fixed, Variable, Blocked}
use Rattle.cob_program_options.specs.Options.{Given, Options, taken}
use Rattle.cob_program_options.specs.Commands.{Spells}
use Rattle.cob_program_line.specs.Numbers.{SaysNumber}
use Rattle.cob_program_options.specs.Looks.{Look}
use Rattle.cob_program_line.specs.Named.{binary_by_word, form_by_letter, letter_of, listing_by_word, measure_by_word, zones_by_word}
use Rattle.cob_program_options.specs.Program.{program_app}
use Rattle.cob_program_line.specs.declared.fault.LineFault.{LineFault}
use Rattle.cob_program_line.specs.declared.fault.LineFault.TheVariants as fault

-- what an error of the parser is: want of memory, or a fault of the words
abbrev pub fault_by_kind : ErrorKind → Error → LineFault
fault_by_kind kind.OutOfMemory error = fault.Memory
fault_by_kind _ error = fault.Words error

-- what an error of the parser is for the command line
abbrev pub words_fault : Error → LineFault
words_fault error = fault_by_kind (kind_of error) error

-- the parser's answer is the help or the version
abbrev pub is_answer_kind : ErrorKind → Bool
is_answer_kind kind.DisplayHelp = true
is_answer_kind kind.DisplayVersion = true
is_answer_kind _ = false

-- the words ask for the help or the version
abbrev pub is_answer : LineFault → Bool
is_answer (fault.Words error) = is_answer_kind (kind_of error)
is_answer _ = false

-- the name is that of an option for a form
abbrev pub IsFormName : Text → Type 0
IsFormName name = (name ≡ codes "form") ⊎ (name ≡ codes "in-form") ⊎ (name ≡ codes "out-form") ⊎ (name ≡ codes "right-form")

-- an option of this name has a letter that is none of a form
abbrev pub LacksForm : Look → Text → Type 0
LacksForm look name = (letter : Text) × (look name ≡ Some letter) × (form_by_letter letter ≡ None)

-- an option for a form has a letter that is none of a form
abbrev pub LacksAForm : Look → Type 0
LacksAForm look = (name : Text) × IsFormName name × LacksForm look name

-- the option for the reading of binary items has a word that says none
abbrev pub LacksBinary : Look → Type 0
LacksBinary look = (word : Text) × (look (codes "binary") ≡ Some word) × (binary_by_word word ≡ None)

-- the option for the reading of zones has a word that says none
abbrev pub LacksZones : Look → Type 0
LacksZones look = (word : Text) × (look (codes "zones") ≡ Some word) × (zones_by_word word ≡ None)

-- an option for the reading of senders has a word that says none
abbrev pub LacksReading : Look → Type 0
LacksReading look = LacksBinary look ⊎ LacksZones look

-- the option for a listing of values has a word that is none of a listing
abbrev pub LacksListing : Look → Type 0
LacksListing look = (word : Text) × (look (codes "as") ≡ Some word) × (listing_by_word word ≡ None)

-- the option for the size of blocks beside a form has a word that says none
abbrev pub LacksSize : Look → Text → Form → Type 0
LacksSize look name Fixed = ⊥
LacksSize look name Variable = ⊥
LacksSize look name (Blocked most) = (word : Text) × (look name ≡ Some word) × ((size : ℕ) → SaysBlockSize word size → ⊥)

-- beside the option for a form, that for the size of its blocks has a word that says none
abbrev pub LacksBlock : Look → (form_name block_name : Text) → Type 0
LacksBlock look form_name block_name = (form : Form) × (look form_name ≡ Some (letter_of form)) × LacksSize look block_name form

-- one of the options for the sizes of blocks has a word that says none
abbrev pub LacksABlock : Look → Type 0
LacksABlock look = LacksBlock look (codes "in-form") (codes "in-block") ⊎ LacksBlock look (codes "out-form") (codes "out-block")

-- an option has a word that says no number which is this at least
abbrev pub LacksNumber : Look → Text → (least : ℕ) → Type 0
LacksNumber look name least = (word : Text) × (look name ≡ Some word) × ((number : ℕ) → SaysNumber word number → least ≤ number → ⊥)

-- an option has a word that says no number, and isn't all
abbrev pub LacksBound : Look → Text → Type 0
LacksBound look name = (word : Text) × (look name ≡ Some word) × (word ≡ codes "all" → ⊥) × ((number : ℕ) → SaysNumber word number → ⊥)

-- one of the options for a piece of the input has a word that says no number
abbrev pub LacksPiece : Look → Type 0
LacksPiece look = LacksNumber look (codes "from") 0 ⊎ LacksBound look (codes "bytes") ⊎ LacksNumber look (codes "record") 1

-- one of the options that choose among records, or bound those that are set aside or told, has a word that says no number
abbrev pub LacksCount : Look → Type 0
LacksCount look = LacksNumber look (codes "skip") 0 ⊎ LacksBound look (codes "records") ⊎ LacksBound look (codes "most-rejects") ⊎ LacksBound look (codes "most")

-- the option for a number of pieces has a word that says none, or 0
abbrev pub LacksPieces : Look → Type 0
LacksPieces look = LacksNumber look (codes "pieces") 1

-- the option for the record length of the input has a word that says none, or 0
abbrev pub LacksLrecl : Look → Type 0
LacksLrecl look = LacksNumber look (codes "lrecl") 1

-- the option for the measure of a comparison has a word that is none of a measure
abbrev pub LacksMeasure : Look → Type 0
LacksMeasure look = (word : Text) × (look (codes "by") ≡ Some word) × (measure_by_word word ≡ None)

-- no option for a form names none
abbrev pub HasForms : Look → Type 0
HasForms look = LacksAForm look → ⊥

-- and none names a reading that is none
abbrev pub HasReading : Look → Type 0
HasReading look = HasForms look × (LacksReading look → ⊥)

-- and none a size of blocks
abbrev pub HasSizes : Look → Type 0
HasSizes look = HasReading look × (LacksABlock look → ⊥)

-- and none a listing
abbrev pub HasListing : Look → Type 0
HasListing look = HasSizes look × (LacksListing look → ⊥)

-- and none a piece of the input
abbrev pub HasPiece : Look → Type 0
HasPiece look = HasListing look × (LacksPiece look → ⊥)

-- and none a number of records
abbrev pub HasCounts : Look → Type 0
HasCounts look = HasPiece look × (LacksCount look → ⊥)

-- and none a number of pieces
abbrev pub HasPieces : Look → Type 0
HasPieces look = HasCounts look × (LacksPieces look → ⊥)

-- and none a record length
abbrev pub HasLrecl : Look → Type 0
HasLrecl look = HasPieces look × (LacksLrecl look → ⊥)

-- An option names what is none, and none names that which is told before: a form first, then a reading, a size of blocks, a listing, a piece of the
-- input, a number of records, a number of pieces, a record length, and a measure.
abbrev pub IsFaultIn : Look → LineFault → Type 0
IsFaultIn look (fault.Words error) = ⊥
IsFaultIn look fault.Form = LacksAForm look
IsFaultIn look fault.Reading = HasForms look × LacksReading look
IsFaultIn look fault.Block = HasReading look × LacksABlock look
IsFaultIn look fault.Listing = HasSizes look × LacksListing look
IsFaultIn look fault.Piece = HasListing look × LacksPiece look
IsFaultIn look fault.Number = HasPiece look × LacksCount look
IsFaultIn look fault.Pieces = HasCounts look × LacksPieces look
IsFaultIn look fault.Lrecl = HasPieces look × LacksLrecl look
IsFaultIn look fault.Measure = HasLrecl look × LacksMeasure look
IsFaultIn look fault.NotText = ⊥
IsFaultIn look fault.Memory = ⊥

-- The fault of words that are no command line, by the first rule that they break: they spell no command with its options, and the parser says
-- what they are in place of that; or they spell one, and an option names what is none.
abbrev pub IsFaultOf : List Text → LineFault → Type 0
IsFaultOf words (fault.Words error) = ((options : Options) (given : Given) → Spells words options given → ⊥) × IsAmong (kind_of error) (fault_of program_app words)
IsFaultOf words other = (options : Options) × (given : Given) × Spells words options given × IsFaultIn (taken options given) other
