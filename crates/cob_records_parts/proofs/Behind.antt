-- A part of a file behind the first bytes of another.
use Rattle.std.proofs.Common.{◌≡◌, ◌∙◌, ℕ, ◌+◌, ◌-◌, ◌*◌, ◌<◌, ◌≤◌, List, length, take, drop, sym, ap, subst, arith, None, Some, Option}
use Rattle.std.proofs.lemmas.Grind.{common_steps}
use Rattle.std.proofs.lemmas.List.{drop-drop, drop-take}
use Rattle.cob_records_parts.specs.Choices.{AreInFront}
use Rattle.cob_records_parts.specs.Parts.{IsBehindWhole, less_by, piece_of}
use Rattle.cob_records_parts.specs.declared.part.StreamPart.{StreamPart}

piece_less : (from count : ℕ) (bytes : Option ℕ) (file : List ℕ) → count ≤ length (piece_of from bytes file)
    → piece_of (from + count) (less_by count bytes) file ≡ drop count (piece_of from bytes file)
piece_less from count None file within = sym (drop-drop count from file)
piece_less from count (Some n) file within =
    let fits : count ≤ n = few n (drop from file) within in
    let sum : n ≡ count + (n - count) = omega (arith, fits) in
    sym (ap (λ (k : ℕ). drop count (take k (drop from file))) sum ∙ drop-take count (n - count) (drop from file)
    ∙ ap (take (n - count)) (drop-drop count from file))
  where
    few : (m : ℕ) (xs : List ℕ) → count ≤ length (take m xs) → count ≤ m
    few m xs h = grind (arith, common_steps)

dropped : (count : ℕ) (xs : List ℕ) → length (drop count xs) ≡ length xs - count
dropped count xs = grind (arith, common_steps)

pub behind_whole : (greatest records total size : ℕ) (before now : StreamPart) (file : List ℕ) → length (piece_of before.from before.bytes file) ≡ size → total ≡ records * greatest
    → total ≤ size → records ≤ before.skip → (records < before.skip → size < total + greatest)
    → AreInFront greatest records total (piece_of before.from before.bytes file)
    → now ≡ record { from = before.from + total; bytes = less_by total before.bytes; skip = before.skip - records } → IsBehindWhole greatest before now file
behind_whole greatest records total size before now file long is within few most front same =
    let piece : List ℕ = piece_of before.from before.bytes file in
    let behind : piece_of (before.from + total) (less_by total before.bytes) file ≡ drop total piece =
    piece_less before.from total before.bytes file (omega (arith, long, within)) in
    subst (λ (part : StreamPart). IsBehindWhole greatest before part file) (sym same) record {
      records = records;
      front = subst (λ (n : ℕ). AreInFront greatest records n piece) is front;
      behind = behind ∙ ap (λ (n : ℕ). drop n piece) is;
      skips = omega (arith, few);
      most = λ some. omega (arith, ap (length {A = ℕ}) behind, dropped total piece, long, within, few, some, most (omega (arith, some, few)));
    }
