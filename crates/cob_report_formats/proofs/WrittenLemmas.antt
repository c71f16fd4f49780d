-- A text that goes to a sink piece by piece.
use Rattle.std.proofs.Common.{◌≡◌, ℕ, List, [], ◌++◌, Option, Ok, refl, sym, ap, ◌∙◌, append_assoc, append-nil}
use Rattle.std.specs.Io.KnownBytes.{append_known}
use Rattle.cob_records.specs.Device.{Took}
use Rattle.cob_report_show.proofs.SentLemmas.{append_none, append_twice}
use Rattle.cob_report_show.specs.Sent.{SendsText}

-- A sink took the text but for this rest.
pub record WrittenSoFar (text rest : List ℕ) (before now : Option (List ℕ)) : Type 0 where
  pub part : List ℕ
  pub whole : text ≡ part ++ rest
  pub taken : now ≡ append_known before part

pub none_written : (text : List ℕ) (before : Option (List ℕ)) → WrittenSoFar text text before before
none_written text before = record { part = []; whole = refl; taken = append_none before }

pub piece_written : (text rest piece behind : List ℕ) (sent after : ℕ) (before mid now : Option (List ℕ)) → WrittenSoFar text rest before mid → rest ≡ piece ++ behind
    → Took mid now (SendsText piece sent after (Ok tt)) → WrittenSoFar text behind before now
piece_written text rest piece behind sent after before mid now so_far cut (bytes, (is, counted), took) = record {
  part = so_far.part ++ piece;
  whole = so_far.whole ∙ ap (λ xs. so_far.part ++ xs) cut ∙ sym (append_assoc so_far.part piece behind);
  taken = append_twice so_far.part piece before mid now so_far.taken (took ∙ ap (append_known mid) is);
}

pub all_written : (text rest : List ℕ) (before now : Option (List ℕ)) → WrittenSoFar text rest before now → rest ≡ [] → now ≡ append_known before text
all_written text rest before now so_far none =
    so_far.taken ∙ ap (append_known before) (sym (so_far.whole ∙ ap (λ xs. so_far.part ++ xs) none ∙ append-nil so_far.part))
