-- The lines of a text, and the one text that they are joined to.
use Rattle.std.specs.Prelude.{◌≡◌, ℕ, ◌+◌, ◌-◌, Bool, true, false, ◌==◌, ◌||◌, ◌&&◌, not, if◌then◌else◌, List, [], ◌∷◌, ◌++◌, length, take, drop, replicate, slice_index_or, codes, Option, Some, None}
use Rattle.std.specs.List.{list_all, prefix_len}
use Rattle.std.specs.Char.{to_ascii_uppercase}
use Rattle.cob_source.specs.declared.token.Cell.{Cell}
use Rattle.cob_source.specs.declared.lines.LineKind.{LineKind}
use Rattle.cob_source.specs.declared.lines.LineKind.TheVariants.{Skipped, Plain, Continuation}
use Rattle.cob_source.specs.Cuts.{is_quote, open_quote}
use Rattle.cob_source.specs.Comments.{written}

-- a line feed comes first
abbrev pub feed_first : List ℕ → Bool
feed_first [] = false
feed_first (b ∷ bs) = b == 10

-- the lines with this character before their first one
abbrev pub led_by : ℕ → List (List ℕ) → List (List ℕ)
led_by b [] = (b ∷ []) ∷ []
led_by b (line ∷ more) = (b ∷ line) ∷ more

-- the lines of a text without their ends: a line feed ends a line, one carriage return directly before it belongs to the end,
-- and the last line may lack its end
abbrev pub lines : List ℕ → List (List ℕ)
lines [] = []
lines (b ∷ bs) =
    let more = lines bs in
    if b == 10 then [] ∷ more else
    if (b == 13) && feed_first bs then more else led_by b more

-- nothing is left, or a line feed comes first
abbrev pub FeedFirst : List ℕ → Type 0
FeedFirst [] = Unit {0}
FeedFirst (b ∷ bs) = b ≡ 10

-- there are no characters
abbrev pub is_empty : List ℕ → Bool
is_empty [] = true
is_empty (b ∷ bs) = false

-- without one carriage return at the end
abbrev pub cut_return : List ℕ → List ℕ
cut_return [] = []
cut_return (b ∷ bs) = if (b == 13) && is_empty bs then [] else b ∷ cut_return bs

-- what is written in columns 8 to 72, without a comment
abbrev pub program_text : List ℕ → List ℕ
program_text line = drop 7 (written line)

-- filled with spaces to 65 columns
abbrev pub filled : List ℕ → List ℕ
filled bs = bs ++ replicate (65 - length bs) 32

-- the 65 columns from 8 to 72: a line that is shorter is filled with spaces
abbrev pub area : List ℕ → List ℕ
area line = filled (program_text line)

-- column 7; a line that doesn't reach it has a space there
abbrev pub indicator : List ℕ → ℕ
indicator line = slice_index_or line 6 32

-- an asterisk, a slash, or D in either case makes a comment of a line
abbrev pub is_comment : ℕ → Bool
is_comment i = (i == 42) || (i == 47) || (i == 68) || (i == 100)

-- all are spaces
abbrev pub is_blank : List ℕ → Bool
is_blank bs = list_all (λ b. b == 32) bs

-- how many spaces stand in front
abbrev pub spaces : List ℕ → ℕ
spaces bs = prefix_len (λ b. b == 32) bs

-- what follows the spaces in front
abbrev pub behind_spaces : List ℕ → List ℕ
behind_spaces bs = drop (spaces bs) bs

-- the same letters, where the second are capitals
abbrev pub same_letters : List ℕ → List ℕ → Bool
same_letters [] [] = true
same_letters [] (c ∷ cs) = false
same_letters (b ∷ bs) [] = false
same_letters (b ∷ bs) (c ∷ cs) = (to_ascii_uppercase b == c) && same_letters bs cs

-- a word that only arranges a printed listing
abbrev pub is_listing_word : List ℕ → Bool
is_listing_word w = same_letters w (codes "EJECT") || same_letters w (codes "SKIP1") || same_letters w (codes "SKIP2") || same_letters w (codes "SKIP3")

-- nothing, or one period
abbrev pub is_period_or_nothing : List ℕ → Bool
is_period_or_nothing [] = true
is_period_or_nothing (b ∷ bs) = (b == 46) && is_blank bs

-- only such a word, with or without a period
abbrev pub is_listing : List ℕ → Bool
is_listing bs = let w = behind_spaces bs in is_listing_word (take 5 w) && is_period_or_nothing (behind_spaces (drop 5 w))

-- what stands in a title behind its quote, and whether the character before it was such a quote: the literal closes, and nothing
-- stands behind it but perhaps a period
abbrev pub closes_title : ℕ → Bool → List ℕ → Bool
closes_title q behind_quote [] = behind_quote
closes_title q false (b ∷ bs) = closes_title q (b == q) bs
closes_title q true (b ∷ bs) = if b == q then closes_title q false bs else is_period_or_nothing (behind_spaces (b ∷ bs))

-- a quoted literal, with or without a period
abbrev pub is_title_literal : List ℕ → Bool
is_title_literal [] = false
is_title_literal (b ∷ bs) = is_quote b && closes_title b false bs

-- only TITLE and a quoted literal, with or without a period
abbrev pub is_title : List ℕ → Bool
is_title bs = let w = behind_spaces bs in same_letters (take 5 w) (codes "TITLE") && is_title_literal (behind_spaces (drop 5 w))

-- nothing is left, or a space or a period comes first
abbrev pub ends_word : List ℕ → Bool
ends_word [] = true
ends_word (b ∷ bs) = (b == 32) || (b == 46)

-- this word comes first
abbrev pub is_first_word : List ℕ → List ℕ → Bool
is_first_word word bs = same_letters (take (length word) bs) word && ends_word (drop (length word) bs)

-- *CBL, *CONTROL or $SET, whatever follows on the line: settings of a compiler
abbrev pub is_setting : List ℕ → Bool
is_setting bs =
    let w = behind_spaces bs in is_first_word (codes "*CBL") w || is_first_word (codes "*CONTROL") w || is_first_word (codes "$SET") w

-- nothing is left, or a period comes first
abbrev pub is_period_first : List ℕ → Bool
is_period_first [] = true
is_period_first (b ∷ bs) = b == 46

-- a space comes first
abbrev pub is_space_first : List ℕ → Bool
is_space_first [] = false
is_space_first (b ∷ bs) = b == 32

-- this word comes first, and behind a space something that is no period
abbrev pub has_options : List ℕ → List ℕ → Bool
has_options word bs =
    same_letters (take (length word) bs) word && is_space_first (drop (length word) bs) && not (is_period_first (behind_spaces (drop (length word) bs)))

-- CBL or PROCESS, and options of a compiler
abbrev pub is_options : List ℕ → Bool
is_options bs = let w = behind_spaces bs in has_options (codes "CBL") w || has_options (codes "PROCESS") w

-- a line that is for the compiler from its first columns on: $SET in column 7, or CBL or PROCESS before it
abbrev pub is_for_compiler : List ℕ → Bool
is_for_compiler line = is_first_word (codes "$SET") (drop 6 (written line)) || is_options (written line)

-- what is only for a compiler or its listing
abbrev pub is_direction : List ℕ → Bool
is_direction bs = is_listing bs || is_title bs || is_setting bs

-- the kind of a line by its indicator and what is written in columns 8 to 72
abbrev pub kind_by : ℕ → List ℕ → LineKind
kind_by i text =
    if is_comment i || is_blank text then Skipped else
    if i == 45 then Continuation else
    if (i == 32) && not (is_direction text) then Plain else Skipped

-- what kind of line it is
abbrev pub kind_of_line : List ℕ → LineKind
kind_of_line line = kind_by (indicator line) (program_text line)

-- characters with their places, from this line and column on
abbrev pub cells_from : ℕ → ℕ → List ℕ → List Cell
cells_from n k [] = []
cells_from n k (b ∷ bs) = record { byte = b; line = n; column = k } ∷ cells_from n (k + 1) bs

-- columns 8 to 72 of line n without the first k of them
abbrev pub cells_behind : ℕ → ℕ → List ℕ → List Cell
cells_behind n k line = cells_from n (8 + k) (drop k (area line))

-- these cells, and behind them the columns of line n from 8 on, with this text and the first k left out
abbrev pub with_columns : ℕ → ℕ → List ℕ → List Cell → List Cell
with_columns n k text cells = cells ++ cells_from n (8 + k) (drop k (filled text))

-- the line's end that stands before line n in the joined text
abbrev pub line_end : ℕ → Cell
line_end n = record { byte = 10; line = n; column = 7 }

-- there are no characters
abbrev pub is_nil : List Cell → Bool
is_nil [] = true
is_nil (c ∷ cells) = false

-- without the spaces at the end
abbrev pub trim_end : List Cell → List Cell
trim_end [] = []
trim_end (c ∷ cells) = let rest = trim_end cells in if (c.byte == 32) && is_nil rest then [] else c ∷ rest

-- what a continuation line is joined to: an open literal with all its columns to 72, else the text to its last character that is
-- no space
abbrev pub continued_text : Option ℕ → List Cell → List Cell
continued_text None joined = trim_end joined
continued_text (Some q) joined = joined

-- how many columns from 8 on a continuation line leaves out: its spaces in front, and in an open literal the quote behind them
abbrev pub left_out : Option ℕ → List ℕ → ℕ
left_out None text = spaces text
left_out (Some q) text = spaces text + 1

-- a continuation line joined directly behind a text at whose end this quote's literal is open, or none
abbrev pub continued : Option ℕ → ℕ → List Cell → List ℕ → List Cell
continued q n joined line = continued_text q joined ++ cells_behind n (left_out q (program_text line)) line

-- line n joined to the text of the lines before it
abbrev pub join_by : LineKind → ℕ → List Cell → List ℕ → List Cell
join_by Skipped n joined line = joined
join_by Plain n joined line = joined ++ line_end n ∷ cells_behind n 0 line
join_by Continuation n joined line = continued (open_quote joined) n joined line

-- a kind of line, but that a plain one is skipped where it only has options
abbrev pub kind_with : Bool → LineKind → LineKind
kind_with has Skipped = Skipped
kind_with has Plain = if has then Skipped else Plain
kind_with has Continuation = Continuation

-- what kind of line it is behind the text that the lines before it are joined to: options of a compiler stand before all else
abbrev pub kind_behind : List Cell → List ℕ → LineKind
kind_behind joined line = kind_with (is_nil joined && is_options (program_text line)) (kind_of_line line)

-- the text that is joined so far, and line n
abbrev pub join : ℕ → List Cell → List ℕ → List Cell
join n joined line = join_by (kind_behind joined line) n joined line

-- the text that is joined so far, and these lines, from number n on
abbrev pub joined_from : ℕ → List Cell → List (List ℕ) → List Cell
joined_from n joined [] = joined
joined_from n joined (line ∷ more) = joined_from (n + 1) (join n joined line) more

-- the one text that these lines are joined to: columns 8 to 72 of their plain and continuation lines
abbrev pub joined_of : List (List ℕ) → List Cell
joined_of ls = joined_from 1 [] ls

-- the number of the last line that is joined
abbrev pub last_by : LineKind → ℕ → ℕ → ℕ
last_by Skipped n k = k
last_by Plain n k = n
last_by Continuation n k = n

-- the last line that is joined, from number n on, where line k was the last before, and this is the text so far
abbrev pub last_from : ℕ → ℕ → List Cell → List (List ℕ) → ℕ
last_from n k joined [] = k
last_from n k joined (line ∷ more) = last_from (n + 1) (last_by (kind_behind joined line) n k) (join n joined line) more

-- the last line that is joined; 0 where none is
abbrev pub last_joined : List (List ℕ) → ℕ
last_joined ls = last_from 1 0 [] ls
