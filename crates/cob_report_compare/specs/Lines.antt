-- The lines that are printed of two files that are compared.
use Rattle.std.specs.Prelude.{◌≡◌, ℕ, ◌+◌, ◌-◌, ◌<◌, ◌≤◌, ◌==◌, ◌⊎◌, List, [], ◌∷◌, ◌++◌, length, map, take, drop, flat_map, Some, if◌then◌else◌, codes, decimal}
use Rattle.cob_copybook_tree.specs.declared.node.Item.{Item}
use Rattle.cob_copybook_tree.specs.Lengths.{item_size}
use Rattle.cob_layout.specs.Fields.{field_of}
use Rattle.cob_records.specs.Hex.{byte_text}
use Rattle.cob_report_show.specs.Elements.{NamedItem}
use Rattle.cob_report_show.specs.Lines.{subscripts_text}
use Rattle.cob_report_show.specs.Values.{IsByteShown, IsValueShown}
use Rattle.cob_report_compare.specs.Differences.{PlainDifference, plain_difference}
use Rattle.cob_report_compare.specs.declared.bytes.ByteDifference.{ByteDifference}
use Rattle.cob_report_compare.specs.declared.bytes.FirstBytes.{FirstBytes}
use Rattle.cob_report_compare.specs.declared.differences.FirstDifferences.{FirstDifferences}
use Rattle.cob_report_compare.specs.declared.counted.PairCounts.{PairCounts}
use Rattle.cob_report_compare.specs.declared.files.FileSide.{FileSide}
use Rattle.cob_report_compare.specs.declared.files.FileSide.TheVariants.{Left, Right}
use Rattle.cob_report_compare.specs.declared.records.Comparison.{Comparison}
use Rattle.cob_report_compare.specs.declared.records.Comparison.TheVariants.{Same, Equal, Differ, Unlike}

-- bytes as characters, one behind another
abbrev pub AreBytesShown : List ℕ → List ℕ → Type 0
AreBytesShown [] text = text ≡ []
AreBytesShown (byte ∷ bytes) text = (first : List ℕ) × (rest : List ℕ) × IsByteShown byte first × AreBytesShown bytes rest × (text ≡ first ++ rest)

-- the lengths of two records, where they have not one length
abbrev pub lengths_text : (left right : ℕ) → List ℕ
lengths_text left right = if left == right then [] else codes ": length " ++ (decimal left ++ (codes " | " ++ decimal right))

-- what names two records: their number, or both where they have not one
abbrev pub numbers_text : (left right : ℕ) → List ℕ
numbers_text left right = codes "record " ++ (decimal left ++ (if left == right then [] else codes " | " ++ decimal right))

-- what names a record that stands alone
abbrev pub number_text : FileSide → ℕ → List ℕ
number_text Left number = codes "record " ++ decimal number
number_text Right number = codes "record | " ++ decimal number

-- the items of a key of these bytes, each behind a comma: its name, and its value as the listing of values shows it
abbrev pub AreKeysShown : List NamedItem → List ℕ → List ℕ → Type 0
AreKeysShown [] bytes text = text ≡ []
AreKeysShown (x ∷ xs) bytes text =
    (value : List ℕ) × (rest : List ℕ) × IsValueShown x.item (take (item_size x.item) bytes) value × AreKeysShown xs (drop (item_size x.item) bytes) rest
    × (text ≡ codes ", " ++ (x.name ++ 32 ∷ (value ++ rest)))

-- what names records, and behind it their key
abbrev pub IsHeading : List ℕ → List NamedItem → List ℕ → List ℕ → Type 0
IsHeading numbers keys key_bytes text = (shown : List ℕ) × AreKeysShown keys key_bytes shown × (text ≡ numbers ++ shown)

-- the end of the line before the differences of two records of these lengths
abbrev pub header_end : (left right : ℕ) → List ℕ
header_end left right = lengths_text left right ++ 10 ∷ []

-- the line that says how many differences of two records are not told
abbrev pub more_line : ℕ → List ℕ
more_line n = if n == 0 then [] else codes "  and " ++ (decimal n ++ codes " more\n")

-- what stands of an element before its values: its name with its subscripts, and its offset on the left
abbrev pub place_text : List ℕ → List ℕ → ℕ → List ℕ
place_text name subscripts offset = name ++ (subscripts_text subscripts ++ 32 ∷ (decimal offset ++ codes ": "))

-- both values of an element of an item, each as the listing of values shows it, with a bar between them, and the end of their line
abbrev pub AreValuesShown : Item → List ℕ → List ℕ → List ℕ → Type 0
AreValuesShown i l r text =
    (left : List ℕ) × (right : List ℕ) × IsValueShown i l left × IsValueShown i r right × (text ≡ left ++ (codes " | " ++ (right ++ 10 ∷ [])))

-- the line of an element of an item that differs: what stands before its values, and both of them
abbrev pub IsDifferenceLine : List ℕ → List ℕ → PlainDifference → List ℕ → Type 0
IsDifferenceLine l r d line =
    (item : NamedItem) × (values : List ℕ) × (d.item ≡ Some item) × AreValuesShown item.item (field_of d.left l) (field_of d.right r) values
    × (line ≡ codes "  " ++ (place_text item.name d.subscripts d.left.offset ++ values))

-- the lines of elements that differ
abbrev pub AreDifferenceLines : List ℕ → List ℕ → List PlainDifference → List ℕ → Type 0
AreDifferenceLines l r [] text = text ≡ []
AreDifferenceLines l r (d ∷ ds) text = (front : List ℕ) × (rest : List ℕ) × IsDifferenceLine l r d front × AreDifferenceLines l r ds rest × (text ≡ front ++ rest)

-- the line of a byte that differs: its offset, and what stands there on both sides
abbrev pub byte_line : ByteDifference → List ℕ
byte_line d = codes "  byte " ++ (decimal d.offset ++ (codes ": " ++ (byte_text d.left ++ (codes " | " ++ (byte_text d.right ++ 10 ∷ [])))))

-- the lines behind the heading of two records that are not equal by value
abbrev pub AreComparedElementLines : List ℕ → List ℕ → FirstDifferences → List ℕ → Type 0
AreComparedElementLines l r told text =
    (lines : List ℕ) × AreDifferenceLines l r (map plain_difference told.first.items) lines
    × (text ≡ header_end (length l) (length r) ++ (lines ++ more_line (told.count - length told.first.items)))

-- the lines behind the heading of two records that have not the same bytes
abbrev pub unlike_lines : List ℕ → List ℕ → FirstBytes → List ℕ
unlike_lines l r told =
    header_end (length l) (length r) ++ (flat_map byte_line told.first.items ++ more_line (told.count - length told.first.items))

-- what stands behind the heading, where there is one
abbrev pub IsHeaded : (List ℕ → Type 0) → (List ℕ → Type 0) → List ℕ → Type 0
IsHeaded heading is text = (front : List ℕ) × (rest : List ℕ) × heading front × is rest × (text ≡ front ++ rest)

-- The lines of two records that were compared: none where they are equal, and else a line with the heading, one for each of the first differences, and how
-- many more there are.
abbrev pub AreComparedRecordLines : (List ℕ → Type 0) → List ℕ → List ℕ → Comparison → List ℕ → Type 0
AreComparedRecordLines heading l r Same text = text ≡ []
AreComparedRecordLines heading l r Equal text = text ≡ []
AreComparedRecordLines heading l r (Differ told) text = IsHeaded heading (AreComparedElementLines l r told) text
AreComparedRecordLines heading l r (Unlike told) text = IsHeaded heading (λ rest. rest ≡ unlike_lines l r told) text

-- what is printed of a record, of which so many were told before: its text, where they are fewer than are told at most
abbrev pub IfTold : (most told : ℕ) → (List ℕ → Type 0) → List ℕ → Type 0
IfTold most told is text = ((told < most) × is text) ⊎ ((most ≤ told) × (text ≡ []))

-- the end of the line of a record that stands alone
abbrev pub alone_end : FileSide → List ℕ
alone_end Left = codes ": left alone\n"
alone_end Right = codes ": right alone\n"

-- the line of a record that stands alone
abbrev pub IsAloneLine : FileSide → (List ℕ → Type 0) → List ℕ → Type 0
IsAloneLine side heading text = IsHeaded heading (λ rest. rest ≡ alone_end side) text

-- The line with the counts at the end: how many records there are on either side, how many are equal and how many of these not byte for byte, how many
-- differ, and how many stand alone.
abbrev pub counts_line : PairCounts → List ℕ
counts_line c =
    codes "left " ++ (decimal (c.same + c.equal + c.differ + c.left_alone) ++ (codes " right " ++ (decimal (c.same + c.equal + c.differ + c.right_alone)
    ++ (codes ": equal " ++ (decimal (c.same + c.equal) ++ (codes ", of which " ++ (decimal c.equal ++ (codes " not byte for byte; differ " ++ (decimal c.differ
    ++ (codes "; left alone " ++ (decimal c.left_alone ++ (codes "; right alone " ++ (decimal c.right_alone ++ 10 ∷ [])))))))))))))
