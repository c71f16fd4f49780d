-- The lines of a record: its number, and those of its items.
use Rattle.std.proofs.Common.{◌≡◌, ℕ, List, [], ◌++◌, Option, ap, subst, inl, inr, Ok, Err, Result}
use Rattle.cob_records.specs.declared.records.RecordFault.{RecordFault}
use Rattle.cob_records.specs.Device.{Took}
use Rattle.cob_report_show.specs.Elements.{NamedItem, Printed, named_in}
use Rattle.cob_report_show.specs.Lines.{AreItemLines, AreRecordLines, BeginItemLines, BeginRecordLines, number_line}
use Rattle.cob_report_show.specs.Sent.{IsBeginning, Sends, Wrote}
use Rattle.cob_report_show.proofs.SentLemmas.{append_twice, sent_twice}

pub cut_number : (r : Printed) (number before after : ℕ) (fault : RecordFault) (w0 w1 : Option (List ℕ))
    → Took w0 w1 (Sends (λ part. part ≡ number_line number) (λ part. IsBeginning part (number_line number)) before after (Err fault))
    → Took w0 w1 (Sends (AreRecordLines r number) (BeginRecordLines r number) before after (Err fault))
cut_number r number before after fault w0 w1 (p, (cut, sum), took) = (p, (inl cut, sum), took)

pub number_and_items : (r : Printed) (xs : List NamedItem) (number before between after : ℕ) (answer : Result (Unit {0}) RecordFault) (w0 w1 w2 : Option (List ℕ)) → xs ≡ named_in [] r.tree
    → Took w0 w1 (Sends (λ part. part ≡ number_line number) (λ part. IsBeginning part (number_line number)) before between (Ok tt))
    → Took w1 w2 (Sends (AreItemLines r xs) (BeginItemLines r xs) between after answer)
    → Took w0 w2 (Sends (AreRecordLines r number) (BeginRecordLines r number) before after answer)
number_and_items r xs number before between after answer w0 w1 w2 are (p, (is, sum), took) (q, (wrote, more), further) =
    (p ++ q, (by_answer answer wrote, sent_twice before between after p q sum more), append_twice p q w0 w1 w2 took further)
  where
    by_answer : (answer : Result (Unit {0}) RecordFault) → Wrote (AreItemLines r xs) (BeginItemLines r xs) answer q → Wrote (AreRecordLines r number) (BeginRecordLines r number) answer (p ++ q)
    by_answer (Ok done) lines = (q, subst (λ (ys : List NamedItem). AreItemLines r ys q) are lines, ap (λ (t : List ℕ). t ++ q) is)
    by_answer (Err fault) cut = inr (q, subst (λ (ys : List NamedItem). BeginItemLines r ys q) are cut, ap (λ (t : List ℕ). t ++ q) is)
