use Rattle.std.proofs.Common.{Some, length, refl}
use Rattle.cob_move_receive.specs.Received.{outcome}
use Rattle.cob_move_apply.proofs.LocatedLemmas.{read_by_picture}
use Rattle.cob_move_apply.proofs.WithinLemmas.{between, characters_of, got_always, got_characters, got_pictured, least}
use Rattle.cob_move_apply.proofs.located_within.run_between_bytes.Goals as goal

pub run_characters-requires : goal.run_characters-requires
run_characters-requires c =
    let gives = rw c.in-Characters.is at c.requires.carries in (
      between c.args.kinds.now.sender.now c.args.kinds.now.receiver.now (length c.args.from.now) (length c.args.to.now),
      characters_of c.args.plan.now.prepared c.args.kinds.now.sender.now c.args.kinds.now.receiver.now c.in-Characters.right (length c.args.from.now) (length c.args.to.now) gives c.requires.sent c.requires.received,
      least (length c.args.from.now),
      refl,
    )

pub returns-in-Characters-clause-gets : goal.returns-in-Characters-clause-gets
returns-in-Characters-clause-gets c =
    let gives = rw c.in-Characters.is at c.requires.carries in
    got_characters c.args.plan.now.prepared c.args.kinds.now.sender.now c.args.kinds.now.receiver.now c.in-Characters.right c.args.from.now (length c.args.to.now) (Some c.run_characters.new.to) c.args.reading c.requires.keeps gives
    c.requires.sent c.requires.received c.run_characters.ensures

pub run-requires : goal.run-requires
run-requires c =
    let carries = rw c.in-Always.is at c.requires.carries in (
      between c.args.kinds.now.sender.now c.args.kinds.now.receiver.now (length c.args.from.now) (length c.args.to.now),
      carries (length c.args.from.now) (length c.args.to.now) c.requires.sent c.requires.received,
      least (length c.args.from.now),
      refl,
    )

pub returns-in-Always-clause-gets : goal.returns-in-Always-clause-gets
returns-in-Always-clause-gets c =
    let carries = rw c.in-Always.is at c.requires.carries in
    got_always c.args.plan.now.prepared c.args.kinds.now.sender.now c.args.kinds.now.receiver.now c.in-Always.step c.args.from.now (length c.args.to.now) (outcome c.run.result c.run.new.to) c.args.reading c.requires.keeps carries
    c.requires.sent c.requires.received c.run.ensures.gets

pub run-requires-in-Pictured : goal.run-requires-in-Pictured
run-requires-in-Pictured c =
    let carries = rw c.in-Pictured.is at c.requires.carries in (
      between c.args.kinds.now.sender.now c.args.kinds.now.receiver.now (length c.args.from.now) (length c.args.to.now),
      carries (length c.args.from.now) (length c.args.to.now) c.requires.sent c.requires.received,
      least (length c.args.from.now),
      refl,
    )

pub returns-in-Pictured-clause-gets : goal.returns-in-Pictured-clause-gets
returns-in-Pictured-clause-gets c =
    let carries = rw c.in-Pictured.is at c.requires.carries in
    got_pictured c.args.plan.now.pictured c.args.kinds.now.sender.now c.args.kinds.now.receiver.now c.in-Pictured.step c.args.from.now (length c.args.to.now) (outcome c.run-in-Pictured.result c.run-in-Pictured.new.to) c.args.reading
    (read_by_picture c.args.step c.in-Pictured.step c.args.reading c.in-Pictured.is c.requires.serves) carries c.requires.sent c.requires.received c.run-in-Pictured.ensures.gets
