-- A text that goes out part by part.
use Rattle.std.proofs.Common.{◌≡◌, ℕ, ◌+◌, ◌<◌, ◌≤◌, List, [], ◌++◌, length, drop, get_or, map, Option, refl, sym, ap, subst, ◌∙◌, append_assoc, append-nil, Ok, Err, Result}
use Rattle.std.specs.List.{flat_map}
use Rattle.std.proofs.lemmas.List.{drop_all, drop_more}
use Rattle.std.specs.Io.KnownBytes.{append_known}
use Rattle.cob_records.specs.declared.records.RecordFault.{RecordFault}
use Rattle.cob_records.specs.Device.{Took}
use Rattle.cob_report_show.specs.Sent.{CountsSent, IsBeginning, SendsText}
use Rattle.cob_report_show.proofs.SentLemmas.{append_none, append_twice, begins_within, none_sent, sent_twice}

-- a part of the whole text went out, and the rest is left
pub record TextSoFar (whole rest : List ℕ) (before sent : ℕ) (w0 w : Option (List ℕ)) : Type 0 where
  pub part : List ℕ
  pub is : part ++ rest ≡ whole
  pub sum : CountsSent before sent part
  pub took : w ≡ append_known w0 part

pub no_text : (whole : List ℕ) (before : ℕ) (w : Option (List ℕ)) → TextSoFar whole whole before before w w
no_text whole before w = record { part = []; is = refl; sum = none_sent before; took = append_none w }

pub more_text : (whole rest text left : List ℕ) (before sent after : ℕ) (w0 w w1 : Option (List ℕ)) → TextSoFar whole rest before sent w0 w
    → rest ≡ text ++ left → Took w w1 (SendsText text sent after (Ok tt)) → TextSoFar whole left before after w0 w1
more_text whole rest text left before sent after w0 w w1 so_far cut (p, (out, sum), took) = record {
  part = so_far.part ++ p;
  is = append_assoc so_far.part p left ∙ ap (λ (xs : List ℕ). so_far.part ++ (xs ++ left)) out ∙ ap (λ (xs : List ℕ). so_far.part ++ xs) (sym cut) ∙ so_far.is;
  sum = sent_twice before sent after so_far.part p so_far.sum sum;
  took = append_twice so_far.part p w0 w w1 so_far.took took;
}

pub cut_text : (whole rest text left : List ℕ) (before sent after : ℕ) (fault : RecordFault) (w0 w w1 : Option (List ℕ)) → TextSoFar whole rest before sent w0 w
    → rest ≡ text ++ left → Took w w1 (SendsText text sent after (Err fault)) → Took w0 w1 (SendsText whole before after (Err fault))
cut_text whole rest text left before sent after fault w0 w w1 so_far cut (p, (begun, sum), took) = (
  so_far.part ++ p,
  (
    subst (λ (xs : List ℕ). IsBeginning (so_far.part ++ p) xs) (ap (λ (xs : List ℕ). so_far.part ++ xs) (sym cut) ∙ so_far.is)
        (begins_within so_far.part p text left begun),
    sent_twice before sent after so_far.part p so_far.sum sum,
  ),
  append_twice so_far.part p w0 w w1 so_far.took took,
)

pub all_text : (whole rest : List ℕ) (before sent : ℕ) (w0 w : Option (List ℕ)) → TextSoFar whole rest before sent w0 w → rest ≡ []
    → Took w0 w (SendsText whole before sent (Ok tt))
all_text whole rest before sent w0 w so_far end =
    (so_far.part, (sym (append-nil so_far.part) ∙ ap (λ (xs : List ℕ). so_far.part ++ xs) (sym end) ∙ so_far.is, so_far.sum), so_far.took)

-- two texts, one behind the other
pub both_sent : (text more a b : List ℕ) (before between after : ℕ) (answer : Result (Unit {0}) RecordFault) (w0 w1 w2 : Option (List ℕ)) → text ≡ a → more ≡ b
    → Took w0 w1 (SendsText text before between (Ok tt)) → Took w1 w2 (SendsText more between after answer) → Took w0 w2 (SendsText (a ++ b) before after answer)
both_sent text more a b before between after (Ok done) w0 w1 w2 e f first second =
    all_text (a ++ b) [] before after w0 w2
    (more_text (a ++ b) b more [] before between after w0 w1 w2
    (more_text (a ++ b) (a ++ b) text b before before between w0 w0 w1 (no_text (a ++ b) before w0) (ap (λ (t : List ℕ). t ++ b) (sym e)) first) (sym f ∙ sym (append-nil more)) second) refl
both_sent text more a b before between after (Err fault) w0 w1 w2 e f first second =
    cut_text (a ++ b) b more [] before between after fault w0 w1 w2
    (more_text (a ++ b) (a ++ b) text b before before between w0 w0 w1 (no_text (a ++ b) before w0) (ap (λ (t : List ℕ). t ++ b) (sym e)) first) (sym f ∙ sym (append-nil more)) second

-- the first of them was cut off
pub first_cut : (text a b : List ℕ) (before after : ℕ) (fault : RecordFault) (w0 w1 : Option (List ℕ)) → text ≡ a → Took w0 w1 (SendsText text before after (Err fault))
    → Took w0 w1 (SendsText (a ++ b) before after (Err fault))
first_cut text a b before after fault w0 w1 e first =
    cut_text (a ++ b) (a ++ b) text b before before after fault w0 w0 w1 (no_text (a ++ b) before w0) (ap (λ (t : List ℕ). t ++ b) (sym e)) first

-- nothing went out of a text that is empty
pub nothing_sent : (text : List ℕ) (before : ℕ) (w : Option (List ℕ)) → text ≡ [] → Took w w (SendsText text before before (Ok tt))
nothing_sent text before w none = all_text text text before before w w (no_text text before w) none

-- of the texts of a list the next one, and those that are left behind it
pub texts_left : {X Y : Type 0} (view : X → Y) (f : Y → List ℕ) (xs : List X) (i : ℕ) (x : X) → i < length xs → x ≡ get_or xs i x
    → flat_map f (map view (drop i xs)) ≡ f (view x) ++ flat_map f (map view (drop (i + 1) xs))
texts_left view f xs i x low is =
    ap (λ ys. flat_map f (map view ys)) (drop_more xs i x low) ∙ ap (λ y. f (view y) ++ flat_map f (map view (drop (i + 1) xs))) (sym is)

-- no text is left
pub no_texts_left : {X Y : Type 0} (view : X → Y) (f : Y → List ℕ) (xs : List X) (i : ℕ) → length xs ≤ i → flat_map f (map view (drop i xs)) ≡ []
no_texts_left view f xs i end = ap (λ ys. flat_map f (map view ys)) (drop_all i xs end)
