-- Bytes that are written one behind another, and the lines that they end.
use Rattle.std.proofs.Common.{◌≡◌, ℕ, ◌+◌, ◌<◌, ◌≤◌, ◌==◌, ◌⊎◌, Bool, true, false, List, [], ◌∷◌, ◌++◌, length, drop, get_or, Option, refl, sym, ap, subst, ◌∙◌, append_assoc, append-nil, arith, inl, inr, Ok, Err, Result}
use Rattle.std.proofs.lemmas.Bool.Decides.{nat_tests}
use Rattle.std.proofs.lemmas.List.{length-append, drop_all, drop_more}
use Rattle.std.specs.Io.KnownBytes.{append_known}
use Rattle.cob_cp037.specs.Table.{IsCoded, IsPairOf, table}
use Rattle.cob_records.specs.declared.records.RecordFault.{RecordFault}
use Rattle.cob_records.specs.Device.{Took}
use Rattle.cob_records.specs.Hex.{byte_text}
use Rattle.cob_report_show.specs.declared.values.Notation.{Notation}
use Rattle.cob_report_show.specs.declared.values.Notation.TheVariants.{Characters, Digits}
use Rattle.cob_report_show.specs.Lines.{IsLineWith}
use Rattle.cob_report_show.specs.Sent.{CountsSent, BeginsOne, IsAddedTo, IsBeginning, IsBehindFront, Sends, Wrote}
use Rattle.cob_report_show.specs.Values.{ArePieces, AreQuoted, AreUnknown, IsBytePiece, escaped, is_escaped}
use Rattle.cob_report_show.proofs.SentLemmas.{append_none, append_twice, begins_within, none_sent, sent_twice}

-- ---- each byte has a piece

found_by : (pair : ℕ × ℕ) (pairs : List (ℕ × ℕ)) (byte : ℕ) (b : Bool) → (byte == pair.1) ≡ b
    → (((c : ℕ) × IsPairOf pairs c byte) ⊎ ((c : ℕ) → IsPairOf pairs c byte → ⊥))
    → (((c : ℕ) × IsPairOf (pair ∷ pairs) c byte) ⊎ ((c : ℕ) → IsPairOf (pair ∷ pairs) c byte → ⊥))
found_by pair pairs byte true is further = inl (pair.0, inl (refl, equal byte pair.1 is))
  where
    equal : (a b : ℕ) → (a == b) ≡ true → a ≡ b
    equal a b h = grind (arith, nat_tests)
found_by pair pairs byte false is (inl found) = inl (found.0, inr found.1)
found_by pair pairs byte false is (inr none) = inr (λ c found. elim found [
  | inl here ↦ differs byte pair.1 is here.1
  | inr there ↦ none c there
])
  where
    differs : (a b : ℕ) → (a == b) ≡ false → a ≡ b → ⊥
    differs a b h e = grind (arith, nat_tests)

found_or_not : (pairs : List (ℕ × ℕ)) (byte : ℕ) → ((c : ℕ) × IsPairOf pairs c byte) ⊎ ((c : ℕ) → IsPairOf pairs c byte → ⊥)
found_or_not [] byte = inr (λ c found. found)
found_or_not (pair ∷ pairs) byte = found_by pair pairs byte (byte == pair.1) refl (found_or_not pairs byte)

shown_there : (byte : ℕ) (b : Bool) → is_escaped byte ≡ b → (pairs : List (ℕ × ℕ)) → ((c : ℕ) → IsPairOf pairs c byte → IsCoded c byte)
    → ((c : ℕ) → IsCoded c byte → IsPairOf pairs c byte) → (text : List ℕ) × IsBytePiece Characters byte text
shown_there byte true is pairs to from = (escaped byte, inr (λ c coded. is, refl))
shown_there byte false is pairs to from = elim (found_or_not pairs byte) [
  | inl found ↦ (found.0 ∷ [], inl (found.0, to found.0 found.1, is, refl))
  | inr none ↦ (escaped byte, inr (λ c coded. absurd (none c (from c coded)), refl))
]

piece_there : (notation : Notation) (byte : ℕ) → (text : List ℕ) × IsBytePiece notation byte text
piece_there Characters byte = shown_there byte (is_escaped byte) refl table (λ c found. record { in_table = found }) (λ c coded. coded.in_table)
piece_there Digits byte = (byte_text byte, refl)

pieces_there : (notation : Notation) (bytes : List ℕ) → (text : List ℕ) × ArePieces notation bytes text
pieces_there notation [] = ([], refl)
pieces_there notation (byte ∷ bytes) =
    let first = piece_there notation byte in
    let rest = pieces_there notation bytes in
    (first.0 ++ rest.0, (first.0, rest.0, first.1, rest.1, refl))

pub escaped_if : (b : Bool) → (b ≡ false → ⊥) → b ≡ true
escaped_if true never = refl
escaped_if false never = absurd (never refl)

-- ---- bytes so far

-- pieces of the first i bytes went out or are in the line, behind its front
pub record PiecesSoFar (notation : Notation) (front now bytes : List ℕ) (i before sent : ℕ) (w0 w : Option (List ℕ)) : Type 0 where
  pub part : List ℕ
  pub done : List ℕ
  pub pieces : (rest : List ℕ) → ArePieces notation (drop i bytes) rest → ArePieces notation bytes (done ++ rest)
  pub is : part ++ now ≡ front ++ done
  pub sum : CountsSent before sent part
  pub took : w ≡ append_known w0 part

pub no_pieces : (notation : Notation) (front bytes : List ℕ) (before : ℕ) (w : Option (List ℕ)) → PiecesSoFar notation front front bytes 0 before before w w
no_pieces notation front bytes before w = record {
  part = [];
  done = [];
  pieces = λ rest are. are;
  is = sym (append-nil front);
  sum = none_sent before;
  took = append_none w;
}

pub one_piece : (notation : Notation) (front now left next piece bytes : List ℕ) (i byte before sent after : ℕ) (w0 w w1 : Option (List ℕ))
    → PiecesSoFar notation front now bytes i before sent w0 w
    → Took w w1 (Sends (λ part. part ++ left ≡ now) (λ part. IsBeginning part now) sent after (Ok tt))
    → i < length bytes → IsBytePiece notation (get_or bytes i byte) piece → next ≡ left ++ piece
    → PiecesSoFar notation front next bytes (i + 1) before after w0 w1
one_piece notation front now left next piece bytes i byte before sent after w0 w w1 so_far (p, (out, sum), took) low is at = record {
  part = so_far.part ++ p;
  done = so_far.done ++ piece;
  pieces = λ rest are. subst (λ (xs : List ℕ). ArePieces notation bytes xs) (sym (append_assoc so_far.done piece rest))
      (so_far.pieces (piece ++ rest) (subst (λ (bs : List ℕ). ArePieces notation bs (piece ++ rest)) (sym (drop_more bytes i byte low)) (piece, rest, is, are, refl)));
  is = ap (λ (xs : List ℕ). (so_far.part ++ p) ++ xs) at ∙ append_assoc so_far.part p (left ++ piece)
      ∙ ap (λ (xs : List ℕ). so_far.part ++ xs) (sym (append_assoc p left piece)) ∙ ap (λ (xs : List ℕ). so_far.part ++ (xs ++ piece)) out
      ∙ sym (append_assoc so_far.part now piece) ∙ ap (λ (xs : List ℕ). xs ++ piece) so_far.is ∙ append_assoc front so_far.done piece;
  sum = sent_twice before sent after so_far.part p so_far.sum sum;
  took = append_twice so_far.part p w0 w w1 so_far.took took;
}

pub all_pieces : (notation : Notation) (front now bytes : List ℕ) (i before sent : ℕ) (w0 w : Option (List ℕ)) (begun : List ℕ → Type 0)
    → PiecesSoFar notation front now bytes i before sent w0 w → length bytes ≤ i
    → Took w0 w (Sends (IsAddedTo front now (ArePieces notation bytes)) begun before sent (Ok tt))
all_pieces notation front now bytes i before sent w0 w begun so_far end =
    let none : ArePieces notation (drop i bytes) [] = subst (λ (bs : List ℕ). ArePieces notation bs []) (sym (drop_all i bytes end)) refl in
    (so_far.part, ((so_far.done, subst (λ (xs : List ℕ). ArePieces notation bytes xs) (append-nil so_far.done) (so_far.pieces [] none), so_far.is), so_far.sum), so_far.took)

pub cut_pieces : (notation : Notation) (front now left bytes : List ℕ) (i before sent after : ℕ) (fault : RecordFault) (w0 w w1 : Option (List ℕ)) (is : List ℕ → Type 0)
    → PiecesSoFar notation front now bytes i before sent w0 w
    → Took w w1 (Sends (λ part. part ++ left ≡ now) (λ part. IsBeginning part now) sent after (Err fault))
    → Took w0 w1 (Sends is (BeginsOne (IsBehindFront front (ArePieces notation bytes))) before after (Err fault))
cut_pieces notation front now left bytes i before sent after fault w0 w w1 is so_far (p, (begun, sum), took) =
    let rest = pieces_there notation (drop i bytes) in
    let whole : so_far.part ++ (now ++ rest.0) ≡ front ++ (so_far.done ++ rest.0) =
    sym (append_assoc so_far.part now rest.0) ∙ ap (λ (xs : List ℕ). xs ++ rest.0) so_far.is ∙ append_assoc front so_far.done rest.0 in (
      so_far.part ++ p,
      (
        (
          front ++ (so_far.done ++ rest.0),
          (so_far.done ++ rest.0, so_far.pieces rest.0 rest.1, refl),
          subst (λ (xs : List ℕ). IsBeginning (so_far.part ++ p) xs) whole (begins_within so_far.part p now rest.0 begun),
        ),
        sent_twice before sent after so_far.part p so_far.sum sum,
      ),
      append_twice so_far.part p w0 w w1 so_far.took took,
    )

-- ---- a line that is ended behind pieces

-- a value with its line's end, behind a front that is longer by its first mark
pub record EndsLine (front begun tail : List ℕ) (are is : List ℕ → Type 0) : Type 0 where
  pub value : List ℕ → List ℕ
  pub so : (added : List ℕ) → are added → is (value added)
  pub whole : (added : List ℕ) → front ++ (value added ++ 10 ∷ []) ≡ (begun ++ added) ++ tail

pub cut_line : (front begun tail : List ℕ) (are is other : List ℕ → Type 0) (before after : ℕ) (fault : RecordFault) (w0 w1 : Option (List ℕ)) → EndsLine front begun tail are is
    → Took w0 w1 (Sends other (BeginsOne (IsBehindFront begun are)) before after (Err fault))
    → Took w0 w1 (Sends (IsLineWith front is) (BeginsOne (IsLineWith front is)) before after (Err fault))
cut_line front begun tail are is other before after fault w0 w1 ends (p, ((text, (added, so, at), (rest, cut, some)), sum), took) = (
  p,
  (
    (
      front ++ (ends.value added ++ 10 ∷ []),
      (ends.value added, ends.so added so, refl),
      (rest ++ tail, ends.whole added ∙ ap (λ (xs : List ℕ). xs ++ tail) (sym at ∙ cut) ∙ append_assoc p rest tail, omega (arith, some, length-append rest tail)),
    ),
    sum,
  ),
  took,
)

pub end_line : (front begun tail now text : List ℕ) (are is other : List ℕ → Type 0) (before between after : ℕ) (answer : Result (Unit {0}) RecordFault) (w0 w1 w2 : Option (List ℕ))
    → EndsLine front begun tail are is → text ≡ now ++ tail
    → Took w0 w1 (Sends (IsAddedTo begun now are) other before between (Ok tt))
    → Took w1 w2 (Sends (λ part. part ≡ text) (λ part. IsBeginning part text) between after answer)
    → Took w0 w2 (Sends (IsLineWith front is) (BeginsOne (IsLineWith front is)) before after answer)
end_line front begun tail now text are is other before between after answer w0 w1 w2 ends at (p, ((added, so, out), sum), took) (q, (wrote, more), further) = (
  p ++ q,
  (by_answer answer wrote, sent_twice before between after p q sum more),
  append_twice p q w0 w1 w2 took further,
)
  where
    whole : p ++ text ≡ front ++ (ends.value added ++ 10 ∷ [])
    whole = ap (λ (xs : List ℕ). p ++ xs) at ∙ sym (append_assoc p now tail) ∙ ap (λ (xs : List ℕ). xs ++ tail) out ∙ sym (ends.whole added)

    by_answer : (answer : Result (Unit {0}) RecordFault) → Wrote (λ part. part ≡ text) (λ part. IsBeginning part text) answer q
        → Wrote (IsLineWith front is) (BeginsOne (IsLineWith front is)) answer (p ++ q)
    by_answer (Ok done) same = (ends.value added, ends.so added so, ap (λ (xs : List ℕ). p ++ xs) same ∙ whole)
    by_answer (Err fault) (rest, cut, some) = (
      front ++ (ends.value added ++ 10 ∷ []),
      (ends.value added, ends.so added so, refl),
      (rest, sym whole ∙ ap (λ (xs : List ℕ). p ++ xs) cut ∙ sym (append_assoc p q rest), some),
    )

-- ---- facts that follow

pub sends_as : (is so begun cut : List ℕ → Type 0) (before after : ℕ) (answer : Result (Unit {0}) RecordFault) (w0 w1 : Option (List ℕ))
    → ((text : List ℕ) → is text → so text) → ((part : List ℕ) → begun part → cut part)
    → Took w0 w1 (Sends is begun before after answer) → Took w0 w1 (Sends so cut before after answer)
sends_as is so begun cut before after (Ok done) w0 w1 f h (p, (wrote, sum), took) = (p, (f p wrote, sum), took)
sends_as is so begun cut before after (Err fault) w0 w1 f h (p, (wrote, sum), took) = (p, (h p wrote, sum), took)

pub begins_as : (is so : List ℕ → Type 0) → ((text : List ℕ) → is text → so text) → (part : List ℕ) → BeginsOne is part → BeginsOne so part
begins_as is so f part (text, one, begun) = (text, f text one, begun)

pub line_as : (is so : List ℕ → Type 0) (front : List ℕ) → ((value : List ℕ) → is value → so value) → (line : List ℕ) → IsLineWith front is line → IsLineWith front so line
line_as is so front f line (value, one, at) = (value, f value one, at)

-- a line whose value is so is one whose value is also so
pub lines_as : (is so : List ℕ → Type 0) (front : List ℕ) (before after : ℕ) (answer : Result (Unit {0}) RecordFault) (w0 w1 : Option (List ℕ))
    → ((value : List ℕ) → is value → so value)
    → Took w0 w1 (Sends (IsLineWith front is) (BeginsOne (IsLineWith front is)) before after answer)
    → Took w0 w1 (Sends (IsLineWith front so) (BeginsOne (IsLineWith front so)) before after answer)
lines_as is so front before after answer w0 w1 f took =
    sends_as (IsLineWith front is) (IsLineWith front so) (BeginsOne (IsLineWith front is)) (BeginsOne (IsLineWith front so)) before after answer w0 w1
    (line_as is so front f) (begins_as (IsLineWith front is) (IsLineWith front so) (line_as is so front f)) took

-- ---- the two lines whose values are pieces

pub room_left : (next left piece : List ℕ) → next ≡ left ++ piece → length left + 6 ≤ 256 → length piece ≤ 4 → length next + 2 ≤ 256
room_left next left piece is room long = omega (arith, ap length is, length-append left piece, room, long)

pub quoted_ends : (front begun bytes : List ℕ) → begun ≡ front ++ 34 ∷ [] → EndsLine front begun (34 ∷ 10 ∷ []) (ArePieces Characters bytes) (AreQuoted bytes)
quoted_ends front begun bytes is = record {
  value = λ added. 34 ∷ (added ++ 34 ∷ []);
  so = λ added are. (added, are, refl);
  whole = λ added. ap (λ (xs : List ℕ). front ++ 34 ∷ xs) (append_assoc added (34 ∷ []) (10 ∷ []))
      ∙ sym (append_assoc front (34 ∷ []) (added ++ 34 ∷ 10 ∷ []))
      ∙ sym (append_assoc (front ++ 34 ∷ []) added (34 ∷ 10 ∷ []))
      ∙ ap (λ (xs : List ℕ). (xs ++ added) ++ 34 ∷ 10 ∷ []) (sym is);
}

pub unknown_ends : (front begun bytes : List ℕ) → begun ≡ front ++ 63 ∷ [] → EndsLine front begun (10 ∷ []) (ArePieces Digits bytes) (AreUnknown bytes)
unknown_ends front begun bytes is = record {
  value = λ added. 63 ∷ added;
  so = λ added are. (added, are, refl);
  whole = λ added. sym (append_assoc front (63 ∷ []) (added ++ 10 ∷ []))
      ∙ sym (append_assoc (front ++ 63 ∷ []) added (10 ∷ []))
      ∙ ap (λ (xs : List ℕ). (xs ++ added) ++ 10 ∷ []) (sym is);
}

-- a text with two marks behind it, and with one behind another
pub two_behind : (now one two text : List ℕ) (a b : ℕ) → one ≡ now ++ a ∷ [] → two ≡ one ++ b ∷ [] → text ≡ two → text ≡ now ++ a ∷ b ∷ []
two_behind now one two text a b first second is = is ∙ second ∙ ap (λ (xs : List ℕ). xs ++ b ∷ []) first ∙ append_assoc now (a ∷ []) (b ∷ [])

pub value_behind : (front with_value two text value : List ℕ) → with_value ≡ front ++ value → two ≡ with_value ++ 10 ∷ [] → text ≡ two → text ≡ front ++ (value ++ 10 ∷ [])
value_behind front with_value two text value first second is = is ∙ second ∙ ap (λ (xs : List ℕ). xs ++ 10 ∷ []) first ∙ append_assoc front value (10 ∷ [])
