use Rattle.std.proofs.Common.{◌≡◌, ◌∙◌, ◌++◌, IsTrue, List, arith, drop, length, subst, sym, take, ℕ}
use Rattle.std.proofs.lemmas.List.{take_at}
use Rattle.cob_copybook_entry.specs.Described.{PlainValue, plain_value}
use Rattle.cob_move_receive.specs.Characters.{GivesConstant, padded}
use Rattle.cob_move_constants.specs.LaidOut.{IsLaidOut}
use Rattle.cob_move_constants.proofs.LaidOutLemmas.{laid_is}
use Rattle.cob_move_constants.proofs.laying.laid_out.Goals as goal

pub returns : goal.returns
returns c =
    let held = c.in_ok-laid.laid in
    let now = c.put_constant.new.bytes in
    let constant : PlainValue = plain_value c.args.value.now in
    let (text, gives, is) = c.put_constant.ensures in
    let written : take held.len (now ++ drop (length now) held.items) ≡ now = take_at now _ held.len (c.put_constant.auto.bytes ∙ c.deref_mut.ensures.len) in
    let long : length c.deref_mut.result.now ≡ c.args.size = omega (arith, c.deref_mut.ensures.len, c.in_ok-laid.ensures.len) in
    let room : IsTrue c.has_room.result = search in
    let gives_so : GivesConstant constant c.args.size text = subst (λ (n : ℕ). GivesConstant constant n text) long gives in
    let is_so : now ≡ padded c.args.size text = subst (λ (n : ℕ). now ≡ padded n text) long is in
    record { laid = subst (λ (bytes : List ℕ). IsLaidOut constant c.args.size bytes) (sym written) (laid_is constant c.args.size text now gives_so is_so (c.has_room.ensures room text gives_so)) }
