use Rattle.std.proofs.Common.{◌≡◌, ℕ, ◌-◌, ◌/◌, ◌%◌, List, ◌∷◌, length, take, drop, get_or, length-drop, ap, sym, ◌∙◌, arith}
use Rattle.std.proofs.lemmas.List.{take_all}
use Rattle.cob_codec.specs.Packed.{bytes_of_halves}
use Rattle.cob_codec.proofs.PackedLaws.{length-joined}
use Rattle.cob_codec.proofs.PackedLemmas.{odd_front}
use Rattle.cob_codec.proofs.SliceLemmas.{after_first}
use Rattle.cob_codec.proofs.packed.put_front.Goals as goal

pub returns-else-digits-eq0 : goal.returns-else-digits-eq0
returns-else-digits-eq0 c =
    let odd : length c.args.digits.now % 2 ≡ 1 = omega arith in
    let ds : List ℕ = c.args.digits.now in
    let rest : take (length ds - 1) (drop 1 ds) ≡ drop 1 ds = take_all (length ds - 1) (drop 1 ds) (omega (arith, length-drop 1 ds)) in
    let new : c.put_halves-else-digits-eq0.new.bytes ≡ bytes_of_halves (drop 1 ds) = c.put_halves-else-digits-eq0.ensures ∙ ap bytes_of_halves rest in
    let count : length c.put_halves-else-digits-eq0.new.bytes ≡ length (drop 1 ds) / 2 = ap length new ∙ length-joined (drop 1 ds) in
    let many : length (drop 1 ds) ≡ length ds - 1 = length-drop 1 ds in
    after_first c.args.bytes.now c.put_halves-else-digits-eq0.new.bytes (get_or c.args.digits.now 0 0) (omega arith)
    ∙ ap (λ xs. get_or c.args.digits.now 0 0 ∷ xs) new
    ∙ sym (odd_front c.args.digits.now odd)
