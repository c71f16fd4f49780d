-- The text of a job: marks, each on a line of its own, and behind each its part. Two copybooks with the forms of their records, a paragraph, and data.
use Rattle.std.specs.Prelude.{◌≡◌, ℕ, zero, suc, ◌-◌, ◌^◌, ◌<◌, Bool, true, false, ◌==◌, ◌&&◌, if◌then◌else◌, List, [], ◌∷◌, ◌++◌, length, codes, ◌⊎◌}
use Rattle.std.specs.List.{AllByRecursion}
use Rattle.cob_records.specs.declared.records.Form.{Form}
use Rattle.cob_records.specs.declared.records.Form.TheVariants.{Fixed, Variable, Blocked}
use Rattle.cob_limits.specs.Limits.{longest_block}
use Rattle.cob_records.specs.BlockSize.{SaysBlockSize}
use Rattle.cob_source.specs.Lines.{lines}
use Rattle.cob_program_job.specs.declared.job_text.Lines.{Lines}
use Rattle.cob_program_job.specs.JobData.{line_number_behind}

-- behind the letter b, and a space, stands the greatest size of blocks
abbrev pub SaysSize : List ℕ → ℕ → Type 0
SaysSize said most = (word : List ℕ) × SaysBlockSize word most × (said ≡ codes "b " ++ word)

-- The letter of a form; behind the letter b may stand the greatest size of blocks, which is else that of the longest.
abbrev pub SaysForm : List ℕ → Form → Type 0
SaysForm said Fixed = said ≡ codes "f"
SaysForm said Variable = said ≡ codes "v"
SaysForm said (Blocked most) =
    ((said ≡ codes "b") × (most ≡ longest_block)) ⊎ SaysSize said most

-- a mark with this front that says a form
abbrev pub IsFormMark : List ℕ → Form → List ℕ → Type 0
IsFormMark front form mark = (said : List ℕ) × SaysForm said form × (mark ≡ front ++ said)

-- the mark before the copybook of the input record, which says the form of the input's records
abbrev pub IsInMark : Form → List ℕ → Type 0
IsInMark form mark = IsFormMark (codes "=IN ") form mark

-- the mark before the copybook of the output record
abbrev pub IsOutMark : Form → List ℕ → Type 0
IsOutMark form mark = IsFormMark (codes "=OUT ") form mark

-- the mark before the paragraph
abbrev pub moves_mark : List ℕ
moves_mark = codes "=MOVE"

-- the mark before the data
abbrev pub data_mark : List ℕ
data_mark = codes "=DATA"

-- a line that begins with `=` is a mark
abbrev pub begins_mark : List ℕ → Bool
begins_mark [] = false
begins_mark (c ∷ line) = c == 61

-- none of these lines is a mark
abbrev pub HoldNoMark : List (List ℕ) → Type 0
HoldNoMark ls = AllByRecursion (λ line. begins_mark line ≡ false) ls

-- the end of a line: a line feed, with a carriage return before it or without
abbrev pub IsLineEnd : List ℕ → Type 0
IsLineEnd end = (end ≡ 10 ∷ []) ⊎ (end ≡ 13 ∷ 10 ∷ [])

-- the end of a line behind which this follows: it may lack where nothing does
abbrev pub IsEndBefore : List ℕ → List ℕ → Type 0
IsEndBefore end rest = IsLineEnd end ⊎ ((end ≡ []) × (rest ≡ []))

-- The last byte is a line feed; where there is none, it is as the flag says.
abbrev pub ends_in_feed : Bool → List ℕ → Bool
ends_in_feed flag [] = flag
ends_in_feed flag (b ∷ bs) = ends_in_feed (b == 10) bs

-- each line of a text has its end
abbrev pub has_whole_lines : List ℕ → Bool
has_whole_lines text = ends_in_feed true text

-- the part behind a mark: whole lines, none of which is a mark
pub record IsPart (part : List ℕ) : Type 0 where
  pub whole : has_whole_lines part ≡ true
  pub none : HoldNoMark (lines part)

-- a mark's line and its part
pub record IsSection (mark part section : List ℕ) : Type 0 where
  pub end : List ℕ
  pub end_is : IsLineEnd end
  pub part_is : IsPart part
  pub section_is : section ≡ mark ++ (end ++ part)

-- the parts of a job, and the forms of its records
pub record Parts : Type 0 where
  pub in_form : Form
  pub out_form : Form
  pub in_book : List ℕ
  pub out_book : List ℕ
  pub moves : List ℕ
  pub digits : List ℕ

-- The text is a job of these parts: the four marks in their order, each with its part, the first on the first line.
pub record IsJobOf (text : List ℕ) (job : Parts) : Type 0 where
  pub in_mark : List ℕ
  pub out_mark : List ℕ
  pub input : List ℕ
  pub output : List ℕ
  pub paragraph : List ℕ
  pub end : List ℕ
  pub in_mark_is : IsInMark job.in_form in_mark
  pub out_mark_is : IsOutMark job.out_form out_mark
  pub input_is : IsSection in_mark job.in_book input
  pub output_is : IsSection out_mark job.out_book output
  pub paragraph_is : IsSection moves_mark job.moves paragraph
  pub end_is : IsEndBefore end job.digits
  pub text_is : text ≡ input ++ (output ++ (paragraph ++ (data_mark ++ (end ++ job.digits))))

-- a line is the mark behind so many others
abbrev pub IsMarkBehind : ℕ → List ℕ → Type 0
IsMarkBehind zero line = (form : Form) × IsInMark form line
IsMarkBehind (suc zero) line = (form : Form) × IsOutMark form line
IsMarkBehind (suc (suc zero)) line = line ≡ moves_mark
IsMarkBehind (suc (suc (suc zero))) line = line ≡ data_mark
IsMarkBehind count line = ⊥

-- these lines begin a job with so many of its marks, each with its part
abbrev pub BeginsJob : ℕ → List (List ℕ) → Type 0
BeginsJob zero ls = ls ≡ []
BeginsJob (suc count) ls = (before : List (List ℕ)) × (mark : List ℕ) × (part : List (List ℕ)) × BeginsJob count before × IsMarkBehind count mark
    × HoldNoMark part × (ls ≡ before ++ mark ∷ part)

-- the text ends before all four marks came
pub record LacksMark (text : List ℕ) : Type 0 where
  pub count : ℕ
  pub few : count < 4
  pub begins : BeginsJob count (lines text)

-- The line of this number stands where the next mark must stand, as the first line or as a mark, and is another.
pub record IsFirstBadMark (text : List ℕ) (number : ℕ) : Type 0 where
  pub count : ℕ
  pub before : List (List ℕ)
  pub line : List ℕ
  pub after : List (List ℕ)
  pub few : count < 4
  pub begins : BeginsJob count before
  pub lines_are : lines text ≡ before ++ line ∷ after
  pub here : (count ≡ 0) ⊎ (begins_mark line ≡ true)
  pub bad : IsMarkBehind count line → ⊥
  pub number_is : number ≡ line_number_behind 1 (length before)

-- a text is no job for the mark that lacks, which is told as line 0, or for a line that is not the next mark
abbrev pub IsNoJob : List ℕ → ℕ → Type 0
IsNoJob text number = (LacksMark text × (number ≡ 0)) ⊎ IsFirstBadMark text number

-- the number of the first line of what stands at the end of a text
abbrev pub first_line_of : List ℕ → List ℕ → ℕ
first_line_of text rest = line_number_behind 1 (length (lines text) - length (lines rest))

-- ---- how a reader goes through a text

-- what follows the first line
abbrev pub behind_line : List ℕ → List ℕ
behind_line [] = []
behind_line (b ∷ bs) = if b == 10 then bs else behind_line bs

-- the text from its first mark on; the flag says whether a line begins here
abbrev pub from_mark : Bool → List ℕ → List ℕ
from_mark begins [] = []
from_mark begins (b ∷ bs) = if begins && (b == 61) then b ∷ bs else from_mark (b == 10) bs

-- A line with its number was taken from the front of a text: what follows it is left, and the next number.
pub record IsNextLine (text : List ℕ) (number : ℕ) (line rest : List ℕ) (next : ℕ) : Type 0 where
  pub lines_are : lines text ≡ line ∷ lines rest
  pub behind : rest ≡ behind_line text
  pub number_is : next ≡ line_number_behind number 1

-- No line is left, which is told as line 0; or the next one, with its number, is none of those that are wanted.
abbrev pub IsOtherLine : (List ℕ → Type 0) → List ℕ → ℕ → ℕ → Type 0
IsOtherLine IsWanted text number told = ((text ≡ []) × (told ≡ 0))
    ⊎ ((line : List ℕ) × (more : List (List ℕ)) × (lines text ≡ line ∷ more) × (IsWanted line → ⊥) × (told ≡ number))

-- A part was taken from the front of a text, up to its first mark or to its end: its lines, what is left, and the next number.
pub record IsPartBefore (text : List ℕ) (number : ℕ) (part rest : List ℕ) (next : ℕ) : Type 0 where
  pub all : text ≡ part ++ rest
  pub rest_is : rest ≡ from_mark true text
  pub lines_are : lines text ≡ lines part ++ lines rest
  pub none : HoldNoMark (lines part)
  pub ends : (rest ≡ []) ⊎ ((has_whole_lines part ≡ true) × (begins_mark rest ≡ true))
  pub number_is : number < 2 ^ 32 → next ≡ line_number_behind number (length (lines part))

-- a part ends here: at a mark, or where the text does
abbrev pub is_part_end : List ℕ → Bool
is_part_end [] = true
is_part_end (b ∷ bs) = b == 61

-- the next line is a mark that ends in this form
abbrev pub TakesFormMark : List ℕ → Form → (before after : Lines) → Type 0
TakesFormMark front form before after =
    (mark : List ℕ) × IsFormMark front form mark × IsNextLine before.rest.now before.number mark after.rest.now after.number
