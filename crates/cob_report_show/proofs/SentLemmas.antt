-- What a sink took, call behind call.
use Rattle.std.proofs.Common.{◌≡◌, ℕ, ◌+◌, ◌-◌, ◌^◌, ◌<◌, ◌≤◌, min, List, [], ◌++◌, length, take, drop, Option, Some, None, refl, sym, ap, ◌∙◌, append_assoc, append-nil, arith, subst, Ok, Err, Result}
use Rattle.std.proofs.lemmas.Grind.{common_steps}
use Rattle.std.proofs.lemmas.List.{length-append, take-append-drop}
use Rattle.std.specs.Io.KnownBytes.{append_known}
use Rattle.cob_records.specs.declared.records.RecordFault.{RecordFault}
use Rattle.cob_records.specs.declared.records.RecordFault.TheVariants.{WriteFailed, TookNothing}
use Rattle.cob_records.specs.Device.{Took}
use Rattle.cob_records.specs.Frame.{Puts}
use Rattle.cob_report_show.specs.Sent.{CountsSent, BeginsOne, IsBeginning, Sends, Wrote, taken_by}

pub append_none : (w : Option (List ℕ)) → w ≡ append_known w []
append_none None = refl
append_none (Some xs) = ap Some (sym (append-nil xs))

pub append_twice : (a b : List ℕ) (w0 w1 w2 : Option (List ℕ)) → w1 ≡ append_known w0 a → w2 ≡ append_known w1 b → w2 ≡ append_known w0 (a ++ b)
append_twice a b None w1 w2 e1 e2 = rw e1 at e2
append_twice a b (Some xs) w1 w2 e1 e2 = (rw e1 at e2) ∙ ap Some (append_assoc xs a b)

-- a fact that follows of what was taken
pub took_as : (w0 w1 : Option (List ℕ)) (P Q : List ℕ → Type 0) → Took w0 w1 P → ((part : List ℕ) → P part → Q part) → Took w0 w1 Q
took_as w0 w1 P Q (part, is, at) f = (part, f part is, at)

-- what was taken in two calls
pub took_both : (w0 w1 w2 : Option (List ℕ)) (P Q R : List ℕ → Type 0) → Took w0 w1 P → Took w1 w2 Q
    → ((p q : List ℕ) → P p → Q q → R (p ++ q)) → Took w0 w2 R
took_both w0 w1 w2 P Q R (p, is, at) (q, also, behind) f = (p ++ q, f p q is also, append_twice p q w0 w1 w2 at behind)

-- what was sent, counted in two calls
pub sent_twice : (before between after : ℕ) (p q : List ℕ) → CountsSent before between p → CountsSent between after q → CountsSent before after (p ++ q)
sent_twice before between after p q e f = λ low. let first = e low in
    let second = f (omega (arith, first)) in omega (arith, first, second, length-append p q)

-- nothing was sent
pub none_sent : (before : ℕ) → CountsSent before before []
none_sent before = λ low. omega (arith, low)

-- a part of a text went out, less than the whole
part_of : (text part : List ℕ) (taken : ℕ) → taken < length text → part ≡ take taken text → IsBeginning part text × (length part ≡ taken)
part_of text part taken low is =
    let long : length (take taken text) ≡ taken = grind (arith, common_steps) in
    let left : 0 < length (drop taken text) = grind (arith, common_steps) in
    ((drop taken text, sym (ap (λ (xs : List ℕ). xs ++ drop taken text) is ∙ take-append-drop taken text), left), ap length is ∙ long)

-- one text that is put
pub put_sends : (text : List ℕ) (answer : Result (Unit {0}) RecordFault) (w0 w1 : Option (List ℕ)) (before after : ℕ)
    → Took w0 w1 (Puts text answer) → after ≡ min (before + taken_by answer (length text)) (2 ^ 64 - 1)
    → Took w0 w1 (Sends (λ part. part ≡ text) (λ part. IsBeginning part text) before after answer)
put_sends text (Ok done) w0 w1 before after (part, is, at) sum = (part, (is, λ low. omega (arith, sum, ap length is)), at)
put_sends text (Err (WriteFailed taken)) w0 w1 before after (part, is, at) sum =
    let begun = part_of text part taken is.0 is.1 in
    (part, (begun.0, λ low. omega (arith, sum, begun.1)), at)
put_sends text (Err (TookNothing taken)) w0 w1 before after (part, is, at) sum =
    let begun = part_of text part taken is.0 is.1 in
    (part, (begun.0, λ low. omega (arith, sum, begun.1)), at)
put_sends text (Err _) w0 w1 before after (part, is, at) sum = absurd is

-- no more bytes went out than the text has
pub put_few : (text : List ℕ) (answer : Result (Unit {0}) RecordFault) (w0 w1 : Option (List ℕ)) → Took w0 w1 (Puts text answer) → taken_by answer (length text) ≤ length text
put_few text (Ok done) w0 w1 (part, is, at) = omega arith
put_few text (Err (WriteFailed taken)) w0 w1 (part, is, at) = omega (arith, is.0)
put_few text (Err (TookNothing taken)) w0 w1 (part, is, at) = omega (arith, is.0)
put_few text (Err _) w0 w1 (part, is, at) = absurd is

-- what is begun of a text is begun of the same behind a front and with more behind it
pub begins_within : (front part text behind : List ℕ) → IsBeginning part text → IsBeginning (front ++ part) (front ++ (text ++ behind))
begins_within front part text behind (rest, is, some) = (
  rest ++ behind,
  ap (λ (xs : List ℕ). front ++ (xs ++ behind)) is ∙ ap (λ (xs : List ℕ). front ++ xs) (append_assoc part rest behind) ∙ sym (append_assoc front part (rest ++ behind)),
  omega (arith, some, length-append rest behind),
)

-- one whole text that is put and is so
pub put_is : (is : List ℕ → Type 0) (text : List ℕ) (answer : Result (Unit {0}) RecordFault) (w0 w1 : Option (List ℕ)) (before after : ℕ) → is text
    → Took w0 w1 (Sends (λ part. part ≡ text) (λ part. IsBeginning part text) before after answer)
    → Took w0 w1 (Sends is (BeginsOne is) before after answer)
put_is is text answer w0 w1 before after so took =
    took_as w0 w1 (Sends (λ part. part ≡ text) (λ part. IsBeginning part text) before after answer) (Sends is (BeginsOne is) before after answer) took
    (λ part sends. (by_answer answer part sends.0, sends.1))
  where
    by_answer : (answer : Result (Unit {0}) RecordFault) (part : List ℕ) → Wrote (λ part. part ≡ text) (λ part. IsBeginning part text) answer part → Wrote is (BeginsOne is) answer part
    by_answer (Ok done) part same = subst is (sym same) so
    by_answer (Err fault) part begun = (text, so, begun)
