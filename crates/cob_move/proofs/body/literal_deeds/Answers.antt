use Rattle.std.proofs.Common.{subst, sym}
use Rattle.std.proofs.lemmas.Result.{err_from_is_err_and}
use Rattle.cob_source.specs.Tokens.{lexemes}
use Rattle.cob_move_deeds.specs.Deeds.{Deeds}
use Rattle.cob_move_deeds.specs.Tests.{Test}
use Rattle.cob_move.specs.DeedsRead.{SaysDeeds}
use Rattle.cob_move.proofs.BodyLemmas.{memory_refuses}
use Rattle.cob_move.proofs.ParagraphLemmas.{body_are_moves, literal_refused, says_literal}
use Rattle.cob_move.proofs.body.literal_deeds.Goals as goal

pub returns-in_err-list-clause-fault : goal.returns-in_err-list-clause-fault
returns-in_err-list-clause-fault c =
    let p = err_from_is_err_and c.from_residual.result c.from_residual.ensures.1 in
    rw (p.1, p.2) (literal_refused c.in_err-list.field-0.0 c.args.entries.now (lexemes c.args.body.now) c.requires.literal c.in_err-list.ensures.fault)

pub straight_deeds-requires : goal.straight_deeds-requires
straight_deeds-requires c = record {
  given = body_are_moves c.meant_are_moves.ensures c.args.entries.now (lexemes c.args.body.now) c.in_ok-list.list.items c.root.ensures.record c.root-2.ensures.record c.requires.named c.in_ok-list.ensures.found;
}

pub returns-clause-found : goal.returns-clause-found
returns-clause-found c =
    subst (λ (d : Deeds Test). SaysDeeds c.args.entries.now (lexemes c.args.body.now) d) (sym c.in_ok-deeds.ensures.deeds)
    (says_literal c.args.entries.now (lexemes c.args.body.now) c.in_ok-list.list.items c.requires.named c.requires.literal c.in_ok-list.ensures.found)
