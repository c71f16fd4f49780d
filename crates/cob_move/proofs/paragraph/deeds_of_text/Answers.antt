use Rattle.std.proofs.Common.{List, subst, sym}
use Rattle.cob_move_deeds.specs.Deeds.{Deeds}
use Rattle.cob_move_deeds.specs.Tests.{Test}
use Rattle.cob_move_names.specs.Valued.{plain_names}
use Rattle.cob_move.specs.Paragraphs.{IsParagraphOf}
use Rattle.cob_move.proofs.ParagraphLemmas.{are_moves, says_moves}
use Rattle.cob_move.proofs.paragraph.deeds_of_text.Goals as goal

pub straight_deeds-requires : goal.straight_deeds-requires
straight_deeds-requires c = record {
  given = are_moves c.meant_are_moves.ensures c.args.text.now c.args.input.now c.args.output.now c.in-Some.meant.items c.root.ensures.record c.root-2.ensures.record (rw c.in-Some.is at c.in_ok-meant.ensures.found);
}

pub returns-clause-found : goal.returns-clause-found
returns-clause-found c =
    subst (λ (d : Deeds Test). IsParagraphOf c.args.text.now c.args.input.now c.args.output.now (plain_names c.args.names) d) (sym c.in_ok-deeds.ensures.deeds)
    (says_moves c.args.text.now c.args.input.now c.args.output.now (plain_names c.args.names) c.in-Some.meant.items (rw c.in-Some.is at c.in_ok-meant.ensures.found))
