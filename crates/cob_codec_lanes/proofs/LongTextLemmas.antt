-- Texts of digits in two vectors.
use Rattle.std.proofs.Common.{◌≡◌, ℕ, ◌+◌, ◌-◌, ◌%◌, ◌<◌, ◌≤◌, Bool, cond, List, ◌++◌, length, get_or, take, drop, sym, ap, ◌∙◌, arith, length-append, length-drop, length-take-le}
use Rattle.std.proofs.lemmas.List.{take_at}
use Rattle.std.proofs.Math.Seq.{take-append-add}
use borrow.Rule.Slice.PartMut.{put_mid}
use Rattle.cob_codec_lanes.specs.Lanes.{picked_at}
use Rattle.cob_codec_lanes.specs.LongTexts.{AreShownOfBoth}
use Rattle.cob_codec_lanes.specs.declared.long_text.PairText.{PairText}
use Rattle.cob_codec_lanes.proofs.DigitWriting.{put_end}

pub shown_of_both : (t : PairText) (minus : Bool) (front back a b digits base bytes : List ℕ) → length bytes ≡ 16
    → ((i : ℕ) → i < 16 → get_or a i 0 ≡ picked_at front (get_or t.front.lanes i 0)) → ((i : ℕ) → i < 16 → get_or b i 0 ≡ picked_at back (get_or t.back.lanes i 0))
    → ((i : ℕ) → i < 16 → get_or digits i 0 ≡ (get_or a i 0 + get_or b i 0) % 256) → base ≡ cond minus t.minus t.plus
    → ((i : ℕ) → i < 16 → get_or bytes i 0 ≡ (get_or digits i 0 + get_or base i 0) % 256) → AreShownOfBoth t minus front back bytes
shown_of_both t minus front back a b digits base bytes long first last sum is each = record {
  long = long;
  each = λ i lt. omega (arith, each i lt, sum i lt, first i lt, last i lt, ap (λ xs. get_or xs i 0) is);
}

-- thirty-two bytes in front, and the others behind them
pub all_put : (out lead back new rest : List ℕ) → 32 < length out → length out ≤ 48 → length lead ≡ 32 → length back ≡ 16 → new ≡ lead ++ drop 32 out → rest ≡ take (length out - 32) back
    → put_mid 32 (length new - 32) new rest ≡ take (length out) (lead ++ back)
all_put out lead back new rest more room lead_long back_long is rest_is =
    let n : ℕ = length out in
    let all : length new ≡ n = omega (arith, ap length is, length-append lead (drop 32 out), length-drop 32 out) in
    let rest_long : length rest ≡ n - 32 = ap length rest_is ∙ length-take-le (n - 32) back (omega arith) in
    let sum : length lead + (n - 32) ≡ n = omega arith in
    put_end 32 new rest (omega arith) (omega arith) ∙ ap (λ xs. xs ++ rest) (ap (take 32) is ∙ take_at lead (drop 32 out) 32 lead_long) ∙ ap (λ xs. lead ++ xs) rest_is
    ∙ sym (take-append-add lead back (n - 32)) ∙ ap (λ m. take m (lead ++ back)) sum

-- so many bytes stand behind the first thirty-two
pub room_left : (out lead : List ℕ) → length lead ≡ 32 → 32 < length out → length (take (length (lead ++ drop 32 out) - 32) (drop 32 (lead ++ drop 32 out))) ≡ length out - 32
room_left out lead long more =
    let w : List ℕ = lead ++ drop 32 out in
    let all : length w ≡ length out = omega (arith, length-append lead (drop 32 out), length-drop 32 out) in
    omega (arith, length-take-le (length w - 32) (drop 32 w) (omega (arith, length-drop 32 w)), all)
