use Rattle.std.proofs.Common.{◌≡◌, ℕ, ◌%◌, ◌<◌, length, get_or, replicate, arith, rules}
use Rattle.std.proofs.lemmas.Bool.Decides.{nat_tests}
use Rattle.std.proofs.lemmas.List.{nil_from_length}
use Rattle.cob_cp037.proofs.TableLemmas.{one_to_one}
use Rattle.cob_move_receive.specs.Characters.{IsByteOf}
use Rattle.cob_move_receive.proofs.CharacterLemmas.{one_more, nothing_repeated, repeated_is}
use Rattle.cob_move_receive.proofs.constants.repeat_literal.Goals as goal

pub returns-then-is_empty : goal.returns-then-is_empty
returns-then-is_empty c =
    let spaces : c.fill.new.self ≡ replicate (length c.args.bytes.now) 0x40 = search rules in
    let none : length c.args.text.now ≡ 0 = grind (arith, nat_tests) in
    rw (spaces, nil_from_length c.args.text.now none) (nothing_repeated (length c.args.bytes.now))

pub loop-at-preserved : goal.loop-at-preserved
loop-at-preserved c =
    one_more (λ (k byte : ℕ). IsByteOf (get_or c.args.text.now (k % length c.args.text.now) 0) byte) c.loop-at.bytes c.loop-at.at c.byte_of.result (omega arith) c.loop-at.invariant c.byte_of.ensures

pub returns : goal.returns
returns c =
    let some : 0 < length c.args.text.now = grind (arith, nat_tests) in
    repeated_is one_to_one c.args.text.now c.loop-at.bytes (length c.args.bytes.now) (omega arith) some (λ k lt. c.loop-at.invariant k (omega arith))
