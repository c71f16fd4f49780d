-- What is printed, text behind text.
use Rattle.std.proofs.Common.{◌≡◌, ◌∙◌, ℕ, ◌+◌, ◌-◌, ◌<◌, ◌≤◌, true≢false, List, [], ◌∷◌, ◌++◌, length, take, drop, map, refl, sym, ap, subst, append_assoc, append-nil, arith, Option, Some, None, is_some, codes, get_or, Ok, Err, Result}
use Rattle.std.specs.Prelude.{OnOk, flat_map}
use Rattle.std.specs.Io.KnownBytes.{append_known}
use Rattle.std.proofs.lemmas.List.{drop_all, drop_more, length-append}
use Rattle.cob_copybook_tree.specs.declared.node.Item.{Item}
use Rattle.cob_copybook_tree.specs.Lengths.{item_size}
use Rattle.cob_layout.specs.Fields.{field_of}
use Rattle.cob_report_show.specs.declared.named.ListedItem.{ListedItem}
use Rattle.cob_report_show.specs.Elements.{NamedItem, named_item}
use Rattle.cob_report_show.specs.Values.{AreQuoted, AreUnknown, IsByteShown, IsValueShown}
use Rattle.cob_records.specs.declared.records.RecordFault.{RecordFault}
use Rattle.cob_records.specs.Device.{Took}
use Rattle.cob_records.specs.Frame.{Puts}
use Rattle.cob_records.specs.Hex.{byte_text}
use Rattle.cob_report_show.proofs.SentLemmas.{append_none, append_twice, took_as, took_both}
use Rattle.cob_report_compare.specs.Differences.{PlainDifference, plain_difference}
use Rattle.cob_report_compare.specs.Lines.{AreDifferenceLines, AreComparedElementLines, AreBytesShown, AreKeysShown, AreValuesShown, IsDifferenceLine, IsHeaded, IsHeading, byte_line, header_end, more_line, place_text, unlike_lines}
use Rattle.cob_report_compare.specs.Printable.{ArePrintable, IsPrintable}
use Rattle.cob_report_compare.specs.declared.bytes.ByteDifference.{ByteDifference}
use Rattle.cob_report_compare.specs.declared.bytes.FirstBytes.{FirstBytes}
use Rattle.cob_report_compare.specs.declared.differences.Difference.{Difference}
use Rattle.cob_report_compare.specs.declared.differences.FirstDifferences.{FirstDifferences}

-- where a call that prints succeeds, what it took is so, and it is so too
pub on_ok : (answer : Result (Unit {0}) RecordFault) (P Q : Type 0) → (P → Q) → OnOk answer P → OnOk answer Q
on_ok (Ok done) P Q become is = become is
on_ok (Err fault) P Q become is = tt

-- a text that was put whole
pub put_whole : (text : List ℕ) (answer : Result (Unit {0}) RecordFault) (w0 w1 : Option (List ℕ)) → Took w0 w1 (Puts text answer) → OnOk answer (Took w0 w1 (λ part. part ≡ text))
put_whole text (Ok done) w0 w1 took = took
put_whole text (Err fault) w0 w1 took = tt

-- nothing was printed
pub took_none : (is : List ℕ → Type 0) (w : Option (List ℕ)) → is [] → Took w w is
took_none is w none = ([], none, append_none w)

-- a text, and behind it one that is so
pub took_front : (a : List ℕ) (is so : List ℕ → Type 0) (w0 w1 w2 : Option (List ℕ)) → ((q : List ℕ) → is q → so (a ++ q)) → Took w0 w1 (λ part. part ≡ a) → Took w1 w2 is → Took w0 w2 so
took_front a is so w0 w1 w2 become one other =
    took_both w0 w1 w2 (λ part. part ≡ a) is so one other (λ p q e f. subst (λ (x : List ℕ). so (x ++ q)) (sym e) (become q f))

-- a text that is so, and one behind it
pub took_end : (b : List ℕ) (is so : List ℕ → Type 0) (w0 w1 w2 : Option (List ℕ)) → ((p : List ℕ) → is p → so (p ++ b)) → Took w0 w1 is → Took w1 w2 (λ part. part ≡ b) → Took w0 w2 so
took_end b is so w0 w1 w2 become one other =
    took_both w0 w1 w2 is (λ part. part ≡ b) so one other (λ p q e f. subst (λ (x : List ℕ). so (p ++ x)) (sym f) (become p e))

-- ---- what is printed of the elements of a list

-- of the first elements of a list it was printed, and what it is of those that are left makes it of all
pub record PrintedSoFar {X : Type 0} (is : List X → List ℕ → Type 0) (all left : List X) (w0 w : Option (List ℕ)) : Type 0 where
  pub text : List ℕ
  pub whole : (rest : List ℕ) → is left rest → is all (text ++ rest)
  pub took : w ≡ append_known w0 text

pub none_printed : {X : Type 0} (is : List X → List ℕ → Type 0) (all : List X) (w : Option (List ℕ)) → PrintedSoFar is all all w w
none_printed is all w = record { text = []; whole = λ rest are. are; took = append_none w }

pub one_printed : {X : Type 0} (is : List X → List ℕ → Type 0) (one : List ℕ → Type 0) (all xs : List X) (i : ℕ) (d : X) (w0 w1 w2 : Option (List ℕ)) → i < length xs
    → ((piece rest : List ℕ) → one piece → is (drop (i + 1) xs) rest → is (get_or xs i d ∷ drop (i + 1) xs) (piece ++ rest))
    → PrintedSoFar is all (drop i xs) w0 w1 → Took w1 w2 one → PrintedSoFar is all (drop (i + 1) xs) w0 w2
one_printed is one all xs i d w0 w1 w2 low more so_far (piece, so, took) = record {
  text = so_far.text ++ piece;
  whole = λ rest are. subst (is all) (sym (append_assoc so_far.text piece rest))
      (so_far.whole (piece ++ rest) (subst (λ left. is left (piece ++ rest)) (sym (drop_more xs i d low)) (more piece rest so are)));
  took = append_twice so_far.text piece w0 w1 w2 so_far.took took;
}

pub all_printed : {X : Type 0} (is : List X → List ℕ → Type 0) (all xs : List X) (i : ℕ) (w0 w : Option (List ℕ)) → length xs ≤ i → is [] [] → PrintedSoFar is all (drop i xs) w0 w
    → Took w0 w (is all)
all_printed is all xs i w0 w end none so_far = (
  so_far.text,
  subst (is all) (append-nil so_far.text) (so_far.whole [] (subst (λ left. is left []) (sym (drop_all i xs end)) none)),
  so_far.took,
)

-- ---- values

-- a text that is so, by an equal one
pub took_is : (is : List ℕ → Type 0) (a b : List ℕ) (w0 w1 : Option (List ℕ)) → a ≡ b → is b → Took w0 w1 (λ part. part ≡ a) → Took w0 w1 is
took_is is a b w0 w1 same so took = took_as w0 w1 (λ part. part ≡ a) is took (λ part e. subst is (sym (e ∙ same)) so)

pub took_so : (is so : List ℕ → Type 0) (w0 w1 : Option (List ℕ)) → ((part : List ℕ) → is part → so part) → Took w0 w1 is → Took w0 w1 so
took_so is so w0 w1 become took = took_as w0 w1 is so took become

-- bytes that are shown one behind another, in quotation marks
quoted_more : (b : ℕ) (bytes first rest : List ℕ) → IsByteShown b first → AreQuoted bytes (34 ∷ (rest ++ 34 ∷ [])) → AreQuoted (b ∷ bytes) (34 ∷ ((first ++ rest) ++ 34 ∷ []))
quoted_more b bytes first rest is (inner, pieces, e) = (
  first ++ inner,
  (first, inner, is, pieces, refl),
  ap (λ (t : List ℕ). 34 ∷ t) (append_assoc first rest (34 ∷ []) ∙ ap (λ (t : List ℕ). first ++ t) (ap behind_first e) ∙ sym (append_assoc first inner (34 ∷ []))),
)
  where
    behind_first : List ℕ → List ℕ
    behind_first [] = []
    behind_first (x ∷ xs) = xs

shown_quoted : (bytes inner : List ℕ) → AreBytesShown bytes inner → AreQuoted bytes (34 ∷ (inner ++ 34 ∷ []))
shown_quoted [] inner none = (inner, none, refl)
shown_quoted (b ∷ bytes) inner (first, rest, is, are, e) =
    subst (λ (t : List ℕ). AreQuoted (b ∷ bytes) (34 ∷ (t ++ 34 ∷ []))) (sym e) (quoted_more b bytes first rest is (shown_quoted bytes rest are))

pub quoted : (bytes : List ℕ) (w0 w1 w2 w3 : Option (List ℕ)) → Took w0 w1 (λ part. part ≡ 34 ∷ []) → Took w1 w2 (AreBytesShown bytes) → Took w2 w3 (λ part. part ≡ 34 ∷ [])
    → Took w0 w3 (AreQuoted bytes)
quoted bytes w0 w1 w2 w3 front pieces last =
    took_front (34 ∷ []) (λ text. (inner : List ℕ) × AreBytesShown bytes inner × (text ≡ inner ++ 34 ∷ [])) (AreQuoted bytes) w0 w1 w3
    (λ q is. subst (λ (t : List ℕ). AreQuoted bytes (34 ∷ t)) (sym is.2) (shown_quoted bytes is.0 is.1)) front
    (took_end (34 ∷ []) (AreBytesShown bytes) (λ text. (inner : List ℕ) × AreBytesShown bytes inner × (text ≡ inner ++ 34 ∷ [])) w1 w2 w3 (λ p are. (p, are, refl)) pieces last)

-- the digits of bytes
abbrev pub digit_lines : List ℕ → List ℕ → Type 0
digit_lines bytes text = text ≡ flat_map byte_text bytes

pub digits_more : (b : ℕ) (bytes piece rest : List ℕ) → piece ≡ byte_text b → rest ≡ flat_map byte_text bytes → piece ++ rest ≡ flat_map byte_text (b ∷ bytes)
digits_more b bytes piece rest is are = ap (λ (t : List ℕ). t ++ rest) is ∙ ap (λ (t : List ℕ). byte_text b ++ t) are

digits_unknown : (bytes : List ℕ) → AreUnknown bytes (63 ∷ flat_map byte_text bytes)
digits_unknown [] = ([], refl, refl)
digits_unknown (b ∷ bytes) = more (digits_unknown bytes)
  where
    behind_first : List ℕ → List ℕ
    behind_first [] = []
    behind_first (x ∷ xs) = xs

    more : AreUnknown bytes (63 ∷ flat_map byte_text bytes) → AreUnknown (b ∷ bytes) (63 ∷ (byte_text b ++ flat_map byte_text bytes))
    more (inner, pieces, e) = (byte_text b ++ inner, (byte_text b, inner, refl, pieces, refl), ap (λ (t : List ℕ). 63 ∷ (byte_text b ++ t)) (ap behind_first e))

pub unknown : (bytes : List ℕ) (w0 w1 w2 : Option (List ℕ)) → Took w0 w1 (λ part. part ≡ 63 ∷ []) → Took w1 w2 (λ part. part ≡ flat_map byte_text bytes) → Took w0 w2 (AreUnknown bytes)
unknown bytes w0 w1 w2 mark digits =
    took_front (63 ∷ []) (λ part. part ≡ flat_map byte_text bytes) (AreUnknown bytes) w0 w1 w2
    (λ q is. subst (λ (t : List ℕ). AreUnknown bytes (63 ∷ t)) (sym is) (digits_unknown bytes)) mark digits

pub both_values : (i : Item) (l r : List ℕ) (w0 w1 w2 w3 w4 : Option (List ℕ)) → Took w0 w1 (IsValueShown i l) → Took w1 w2 (λ part. part ≡ codes " | ") → Took w2 w3 (IsValueShown i r)
    → Took w3 w4 (λ part. part ≡ 10 ∷ []) → Took w0 w4 (AreValuesShown i l r)
both_values i l r w0 w1 w2 w3 w4 one bar other last =
    took_both w0 w1 w4 (IsValueShown i l) (λ text. (right : List ℕ) × IsValueShown i r right × (text ≡ codes " | " ++ (right ++ 10 ∷ []))) (AreValuesShown i l r) one
    (took_front (codes " | ") (λ text. (right : List ℕ) × IsValueShown i r right × (text ≡ right ++ 10 ∷ [])) (λ text. (right : List ℕ) × IsValueShown i r right × (text ≡ codes " | " ++ (right ++ 10 ∷ [])))
    w1 w2 w4 (λ q is. (is.0, is.1, ap (λ (t : List ℕ). codes " | " ++ t) is.2)) bar
    (took_end (10 ∷ []) (IsValueShown i r) (λ text. (right : List ℕ) × IsValueShown i r right × (text ≡ right ++ 10 ∷ [])) w2 w3 w4 (λ p is. (p, is, refl)) other last))
    (λ p q is so. (p, so.0, is, so.1, ap (λ (t : List ℕ). p ++ t) so.2))

-- ---- the line of an element

pub difference_line : (l r : List ℕ) (d : PlainDifference) (x : NamedItem) (place here there : List ℕ) (w0 w1 w2 w3 : Option (List ℕ)) → d.item ≡ Some x
    → place ≡ place_text x.name d.subscripts d.left.offset → here ≡ field_of d.left l → there ≡ field_of d.right r → Took w0 w1 (λ part. part ≡ codes "  ") → Took w1 w2 (λ part. part ≡ place)
    → Took w2 w3 (AreValuesShown x.item here there) → Took w0 w3 (IsDifferenceLine l r d)
difference_line l r d x place here there w0 w1 w2 w3 item is left right front middle values =
    let are : Took w2 w3 (AreValuesShown x.item (field_of d.left l) (field_of d.right r)) =
    subst (λ (bs : List ℕ). Took w2 w3 (AreValuesShown x.item bs (field_of d.right r))) left (subst (λ (bs : List ℕ). Took w2 w3 (AreValuesShown x.item here bs)) right values) in
    took_front (codes "  ") (λ text. (values : List ℕ) × AreValuesShown x.item (field_of d.left l) (field_of d.right r) values × (text ≡ place ++ values)) (IsDifferenceLine l r d) w0 w1 w3
    (λ q so. (x, so.0, item, so.1, ap (λ (t : List ℕ). codes "  " ++ t) (so.2 ∙ ap (λ (t : List ℕ). t ++ so.0) is))) front
    (took_front place (AreValuesShown x.item (field_of d.left l) (field_of d.right r)) (λ text. (values : List ℕ) × AreValuesShown x.item (field_of d.left l) (field_of d.right r) values × (text ≡ place ++ values))
    w1 w2 w3 (λ q so. (q, so, refl)) middle are)

-- a difference that can be printed has its item
pub has_item : (l r : List ℕ) (d : PlainDifference) → IsPrintable l r d → d.item ≡ None → ⊥
has_item l r d is none = true≢false (ap is_some (sym is.item_is ∙ none))

-- ---- the lines of a record

abbrev pub lines_of : List ℕ → List ℕ → List Difference → List ℕ → Type 0
lines_of l r ds text = AreDifferenceLines l r (map plain_difference ds) text

pub first_can : (l r : List ℕ) (ds : List Difference) (i : ℕ) (d : Difference) → i < length ds → d ≡ get_or ds i d → ArePrintable l r (map plain_difference (drop i ds))
    → IsPrintable l r (plain_difference d) × ArePrintable l r (map plain_difference (drop (i + 1) ds))
first_can l r ds i d low is all =
    let cut = subst (λ (es : List Difference). ArePrintable l r (map plain_difference es)) (drop_more ds i d low) all in
    (subst (λ (e : Difference). IsPrintable l r (plain_difference e)) (sym is) cut.0, cut.1)

pub line_by : (l r : List ℕ) (d e : Difference) (text : List ℕ) → d ≡ e → IsDifferenceLine l r (plain_difference d) text → IsDifferenceLine l r (plain_difference e) text
line_by l r d e text is line = subst (λ (x : Difference). IsDifferenceLine l r (plain_difference x) text) is line

abbrev pub byte_lines : List ByteDifference → List ℕ → Type 0
byte_lines ds text = text ≡ flat_map byte_line ds

pub line_more : (d e : ByteDifference) (ds : List ByteDifference) (piece rest : List ℕ) → d ≡ e → piece ≡ byte_line d → rest ≡ flat_map byte_line ds → piece ++ rest ≡ flat_map byte_line (e ∷ ds)
line_more d e ds piece rest is line lines = ap (λ (t : List ℕ). t ++ rest) (line ∙ ap byte_line is) ∙ ap (λ (t : List ℕ). byte_line e ++ t) lines

pub more_none : (n : ℕ) → n ≡ 0 → [] ≡ more_line n
more_none n is = subst (λ (k : ℕ). [] ≡ more_line k) (sym is) refl

pub element_lines : (l r : List ℕ) (told : FirstDifferences) (shown : List Difference) (more : ℕ) (w0 w1 w2 w3 : Option (List ℕ)) → shown ≡ told.first.items
    → more ≡ told.count - length shown → Took w0 w1 (λ part. part ≡ header_end (length l) (length r)) → Took w1 w2 (AreDifferenceLines l r (map plain_difference shown))
    → Took w2 w3 (λ part. part ≡ more_line more) → Took w0 w3 (AreComparedElementLines l r told)
element_lines l r told shown more w0 w1 w2 w3 all is header lines last =
    let ds = map plain_difference told.first.items in
    let end = more_line (told.count - length told.first.items) in
    let rest : more ≡ told.count - length told.first.items = is ∙ ap (λ (es : List Difference). told.count - length es) all in
    took_front (header_end (length l) (length r)) (λ text. (lines : List ℕ) × AreDifferenceLines l r ds lines × (text ≡ lines ++ end)) (AreComparedElementLines l r told) w0 w1 w3
    (λ q is. (is.0, is.1, ap (λ (t : List ℕ). header_end (length l) (length r) ++ t) is.2)) header
    (took_end end (AreDifferenceLines l r ds) (λ text. (lines : List ℕ) × AreDifferenceLines l r ds lines × (text ≡ lines ++ end)) w1 w2 w3 (λ p are. (p, are, refl))
    (subst (λ (es : List Difference). Took w1 w2 (AreDifferenceLines l r (map plain_difference es))) all lines) (subst (λ (n : ℕ). Took w2 w3 (λ part. part ≡ more_line n)) rest last))

pub unlike_is : (l r : List ℕ) (told : FirstBytes) (shown : List ByteDifference) (more : ℕ) (w0 w1 w2 w3 : Option (List ℕ)) → shown ≡ told.first.items
    → more ≡ told.count - length shown → Took w0 w1 (λ part. part ≡ header_end (length l) (length r)) → Took w1 w2 (λ part. part ≡ flat_map byte_line shown)
    → Took w2 w3 (λ part. part ≡ more_line more) → Took w0 w3 (λ part. part ≡ unlike_lines l r told)
unlike_is l r told shown more w0 w1 w2 w3 all is header lines last =
    let bytes = flat_map byte_line told.first.items in
    let end = more_line (told.count - length told.first.items) in
    let rest : more ≡ told.count - length told.first.items = is ∙ ap (λ (ds : List ByteDifference). told.count - length ds) all in
    took_front (header_end (length l) (length r)) (λ text. text ≡ bytes ++ end) (λ text. text ≡ unlike_lines l r told) w0 w1 w3
    (λ q is. ap (λ (t : List ℕ). header_end (length l) (length r) ++ t) is) header
    (took_end end (λ text. text ≡ bytes) (λ text. text ≡ bytes ++ end) w1 w2 w3 (λ p is. ap (λ (t : List ℕ). t ++ end) is)
    (subst (λ (ds : List ByteDifference). Took w1 w2 (λ part. part ≡ flat_map byte_line ds)) all lines) (subst (λ (n : ℕ). Took w2 w3 (λ part. part ≡ more_line n)) rest last))

-- a heading, and what stands behind it
pub headed : (heading is : List ℕ → Type 0) (w0 w1 w2 : Option (List ℕ)) → Took w0 w1 heading → Took w1 w2 is → Took w0 w2 (IsHeaded heading is)
headed heading is w0 w1 w2 front rest = took_both w0 w1 w2 heading is (IsHeaded heading is) front rest (λ p q h i. (p, q, h, i, refl))

-- the items of a key, the first one and those behind it
pub keys_printed : (x : NamedItem) (xs : List NamedItem) (key bytes behind : List ℕ) (w0 w1 w2 w3 : Option (List ℕ)) → bytes ≡ take (item_size x.item) key → behind ≡ drop (item_size x.item) key
    → Took w0 w1 (λ part. part ≡ codes ", " ++ (x.name ++ 32 ∷ [])) → Took w1 w2 (IsValueShown x.item bytes) → Took w2 w3 (AreKeysShown xs behind) → Took w0 w3 (AreKeysShown (x ∷ xs) key)
keys_printed x xs key bytes behind w0 w1 w2 w3 is also name value rest =
    took_both w0 w1 w3 (λ part. part ≡ codes ", " ++ (x.name ++ 32 ∷ [])) both (AreKeysShown (x ∷ xs) key) name
    (took_both w1 w2 w3 (IsValueShown x.item bytes) (AreKeysShown xs behind) both value rest (λ p q shown are. (p, q, shown, are, refl)))
    (λ p q e more. (
      more.0,
      more.1,
      subst (λ (bs : List ℕ). IsValueShown x.item bs more.0) is more.2,
      subst (λ (bs : List ℕ). AreKeysShown xs bs more.1) also more.3,
      ap (λ (t : List ℕ). t ++ q) e ∙ append_assoc (codes ", ") (x.name ++ 32 ∷ []) q ∙ ap (λ (t : List ℕ). codes ", " ++ t) (append_assoc x.name (32 ∷ []) q)
          ∙ ap (λ (t : List ℕ). codes ", " ++ (x.name ++ 32 ∷ t)) more.4,
    ))
  where
    both : List ℕ → Type 0
    both text = (value : List ℕ) × (rest : List ℕ) × IsValueShown x.item bytes value × AreKeysShown xs behind rest × (text ≡ value ++ rest)

pub first_key_printed : (keys : List ListedItem) (key : ListedItem) (further : List ListedItem) (all bytes behind : List ℕ) (w0 w1 w2 w3 : Option (List ℕ)) → keys ≡ key ∷ further
    → bytes ≡ take (item_size key.item) all → behind ≡ drop (item_size key.item) all → Took w0 w1 (λ part. part ≡ codes ", " ++ ((named_item key).name ++ 32 ∷ []))
    → Took w1 w2 (IsValueShown key.item bytes) → Took w2 w3 (AreKeysShown (map named_item further) behind) → Took w0 w3 (AreKeysShown (map named_item keys) all)
first_key_printed keys key further all bytes behind w0 w1 w2 w3 same is also name value rest =
    subst (λ (ks : List ListedItem). Took w0 w3 (AreKeysShown (map named_item ks) all)) (sym same)
    (keys_printed (named_item key) (map named_item further) all bytes behind w0 w1 w2 w3 is also name value rest)

pub no_keys_printed : (keys : List ListedItem) (all : List ℕ) (w : Option (List ℕ)) → length keys ≡ 0 → Took w w (AreKeysShown (map named_item keys) all)
no_keys_printed [] all w none = took_none (AreKeysShown [] all) w refl
no_keys_printed (k ∷ ks) all w none = absurd (omega (arith, none))

-- numbers, and the items of a key behind them
pub heading_printed : (numbers : List ℕ) (keys : List NamedItem) (key : List ℕ) (w0 w1 w2 : Option (List ℕ)) → Took w0 w1 (λ part. part ≡ numbers) → Took w1 w2 (AreKeysShown keys key)
    → Took w0 w2 (IsHeading numbers keys key)
heading_printed numbers keys key w0 w1 w2 front rest =
    took_front numbers (AreKeysShown keys key) (IsHeading numbers keys key) w0 w1 w2 (λ q are. (q, are, refl)) front rest

-- a text with another one behind it that is not empty
pub not_empty : (a b text : List ℕ) → text ≡ a ++ b → 0 < length b → 0 < length text
not_empty a b text is some = omega (arith, ap length is, length-append a b, some)

-- ---- the line with the counts

-- words and a number that come behind a line, and what stands behind these
one_count : (before line words number rest : List ℕ) → line ≡ before ++ (words ++ number) → line ++ rest ≡ before ++ (words ++ (number ++ rest))
one_count before line words number rest is =
    ap (λ (t : List ℕ). t ++ rest) is ∙ append_assoc before (words ++ number) rest ∙ ap (λ (t : List ℕ). before ++ t) (append_assoc words number rest)

pub seven_counts : (l0 l1 l2 l3 l4 l5 l6 l7 line w1 n1 w2 n2 w3 n3 w4 n4 w5 n5 w6 n6 w7 n7 : List ℕ) → l0 ≡ [] → l1 ≡ l0 ++ (w1 ++ n1) → l2 ≡ l1 ++ (w2 ++ n2) → l3 ≡ l2 ++ (w3 ++ n3)
    → l4 ≡ l3 ++ (w4 ++ n4) → l5 ≡ l4 ++ (w5 ++ n5) → l6 ≡ l5 ++ (w6 ++ n6) → l7 ≡ l6 ++ (w7 ++ n7) → line ≡ l7 ++ 10 ∷ []
    → line ≡ w1 ++ (n1 ++ (w2 ++ (n2 ++ (w3 ++ (n3 ++ (w4 ++ (n4 ++ (w5 ++ (n5 ++ (w6 ++ (n6 ++ (w7 ++ (n7 ++ 10 ∷ [])))))))))))))
seven_counts l0 l1 l2 l3 l4 l5 l6 l7 line w1 n1 w2 n2 w3 n3 w4 n4 w5 n5 w6 n6 w7 n7 e0 e1 e2 e3 e4 e5 e6 e7 e =
    let r7 = w7 ++ (n7 ++ 10 ∷ []) in
    let r6 = w6 ++ (n6 ++ r7) in
    let r5 = w5 ++ (n5 ++ r6) in
    let r4 = w4 ++ (n4 ++ r5) in
    let r3 = w3 ++ (n3 ++ r4) in
    let r2 = w2 ++ (n2 ++ r3) in
    e ∙ one_count l6 l7 w7 n7 (10 ∷ []) e7 ∙ one_count l5 l6 w6 n6 r7 e6 ∙ one_count l4 l5 w5 n5 r6 e5 ∙ one_count l3 l4 w4 n4 r5 e4 ∙ one_count l2 l3 w3 n3 r4 e3
    ∙ one_count l1 l2 w2 n2 r3 e2 ∙ one_count l0 l1 w1 n1 r2 e1 ∙ ap (λ (t : List ℕ). t ++ (w1 ++ (n1 ++ r2))) e0
