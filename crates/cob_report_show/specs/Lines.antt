-- The lines that are printed of a record.
use Rattle.std.specs.Prelude.{◌≡◌, ℕ, zero, suc, ◌<◌, ◌⊎◌, List, [], ◌∷◌, ◌++◌, map, codes, decimal, Result}
use Rattle.cob_layout.specs.declared.fields.Place.{Place}
use Rattle.cob_layout.specs.Fields.{field_of}
use Rattle.cob_layout_places.specs.declared.reference.Ref.{Ref}
use Rattle.cob_records.specs.declared.records.RecordFault.{RecordFault}
use Rattle.cob_report_show.specs.declared.elements.Contents.{Contents}
use Rattle.cob_report_show.specs.declared.named.ListedItem.{ListedItem}
use Rattle.cob_report_show.specs.Elements.{NamedItem, Printed, ElementStandsAt, named_in, named_item, printed_record, table_times}
use Rattle.cob_report_show.specs.Sent.{BeginsOne, IsBeginning, Sends, SendsOne}
use Rattle.cob_report_show.specs.Values.{IsValueShown}

-- further subscripts, each behind a comma
abbrev pub further_text : List ℕ → List ℕ
further_text [] = []
further_text (s ∷ subscripts) = 44 ∷ (decimal s ++ further_text subscripts)

-- subscripts in brackets, parted by commas, where there are some
abbrev pub subscripts_text : List ℕ → List ℕ
subscripts_text [] = []
subscripts_text (s ∷ subscripts) = 40 ∷ (decimal s ++ (further_text subscripts ++ 41 ∷ []))

-- the front of the line of an element: its name with its subscripts, its offset, and a space
abbrev pub front_text : List ℕ → List ℕ → ℕ → List ℕ
front_text name subscripts offset = name ++ (subscripts_text subscripts ++ 32 ∷ (decimal offset ++ 32 ∷ []))

-- a line with this front, and behind it a value that is so
abbrev pub IsLineWith : List ℕ → (List ℕ → Type 0) → List ℕ → Type 0
IsLineWith front is line = (value : List ℕ) × is value × (line ≡ front ++ (value ++ 10 ∷ []))

-- the line of an element of an item: its name with its subscripts, its offset, and its value
abbrev pub IsElementLine : Printed → NamedItem → List ℕ → List ℕ → Type 0
IsElementLine r x subscripts line =
    (place : Place) × ElementStandsAt r x subscripts place
    × IsLineWith (front_text x.name subscripts place.offset) (IsValueShown x.item (field_of place r.bytes)) line

-- so many texts one behind another, each so by its number from 1 on
abbrev pub AreInTurn : (ℕ → List ℕ → Type 0) → ℕ → List ℕ → Type 0
AreInTurn is zero text = text ≡ []
AreInTurn is (suc n) text = (front : List ℕ) × (last : List ℕ) × AreInTurn is n front × is (suc n) last × (text ≡ front ++ last)

-- some of these, and a beginning of the next one
abbrev pub AreBegunInTurn : (ℕ → List ℕ → Type 0) → (ℕ → List ℕ → Type 0) → ℕ → List ℕ → Type 0
AreBegunInTurn is begun n part =
    (k : ℕ) × (front : List ℕ) × (last : List ℕ) × (k < n) × AreInTurn is k front × begun (suc k) last × (part ≡ front ++ last)

-- the lines of the elements of an item under these subscripts of its outer tables, the last subscript the fastest: those of each element of the
-- tables that are left, which occur so often
abbrev pub AreElementLines : Printed → NamedItem → List ℕ → List ℕ → List ℕ → Type 0
AreElementLines r x [] subscripts text = IsElementLine r x subscripts text
AreElementLines r x (n ∷ ns) subscripts text = AreInTurn (λ s lines. AreElementLines r x ns (subscripts ++ s ∷ []) lines) n text

-- a beginning of these lines
abbrev pub BeginElementLines : Printed → NamedItem → List ℕ → List ℕ → List ℕ → Type 0
BeginElementLines r x [] subscripts part = BeginsOne (IsElementLine r x subscripts) part
BeginElementLines r x (n ∷ ns) subscripts part =
    AreBegunInTurn (λ s lines. AreElementLines r x ns (subscripts ++ s ∷ []) lines)
    (λ s begun. BeginElementLines r x ns (subscripts ++ s ∷ []) begun) n part

-- the lines of items, each with all its elements, one item behind another
abbrev pub AreItemLines : Printed → List NamedItem → List ℕ → Type 0
AreItemLines r [] text = text ≡ []
AreItemLines r (x ∷ xs) text =
    (front : List ℕ) × (rest : List ℕ) × AreElementLines r x (table_times r x.tables) [] front × AreItemLines r xs rest × (text ≡ front ++ rest)

-- a beginning of these lines
abbrev pub BeginItemLines : Printed → List NamedItem → List ℕ → Type 0
BeginItemLines r [] part = ⊥
BeginItemLines r (x ∷ xs) part =
    BeginElementLines r x (table_times r x.tables) [] part
    ⊎ ((front : List ℕ) × (rest : List ℕ) × AreElementLines r x (table_times r x.tables) [] front × BeginItemLines r xs rest × (part ≡ front ++ rest))

-- the line with the number of a record
abbrev pub number_line : ℕ → List ℕ
number_line number = codes "record " ++ (decimal number ++ 10 ∷ [])

-- the lines of a record: its number, and the lines of its named elementary items
abbrev pub AreRecordLines : Printed → ℕ → List ℕ → Type 0
AreRecordLines r number text = (lines : List ℕ) × AreItemLines r (named_in [] r.tree) lines × (text ≡ number_line number ++ lines)

-- a beginning of these lines
abbrev pub BeginRecordLines : Printed → ℕ → List ℕ → Type 0
BeginRecordLines r number part =
    IsBeginning part (number_line number)
    ⊎ ((lines : List ℕ) × BeginItemLines r (named_in [] r.tree) lines × (part ≡ number_line number ++ lines))

-- the line of the element of an item that this reference names went out
abbrev pub SendsElement : Contents → ListedItem → Ref → ℕ → ℕ → Result (Unit {0}) RecordFault → List ℕ → Type 0
SendsElement c x reference before after answer part =
    SendsOne (IsElementLine (printed_record c) (named_item x) reference.subscripts.items) before after answer part

-- the lines of the elements of an item went out: under the subscripts of the reference, which are those of its outer tables, those of each element
-- of these tables, which are left
abbrev pub SendsElements : Contents → ListedItem → List ℕ → Ref → ℕ → ℕ → Result (Unit {0}) RecordFault → List ℕ → Type 0
SendsElements c x tables reference before after answer part =
    Sends (AreElementLines (printed_record c) (named_item x) (table_times (printed_record c) tables) reference.subscripts.items)
    (BeginElementLines (printed_record c) (named_item x) (table_times (printed_record c) tables) reference.subscripts.items) before after answer part

-- the lines of these items went out
abbrev pub SendsItems : Contents → List ListedItem → ℕ → ℕ → Result (Unit {0}) RecordFault → List ℕ → Type 0
SendsItems c items before after answer part =
    Sends (AreItemLines (printed_record c) (map named_item items)) (BeginItemLines (printed_record c) (map named_item items)) before after answer part

-- the lines of a record went out
abbrev pub SendsRecord : Printed → ℕ → ℕ → ℕ → Result (Unit {0}) RecordFault → List ℕ → Type 0
SendsRecord r number before after answer part = Sends (AreRecordLines r number) (BeginRecordLines r number) before after answer part
