use Rattle.std.proofs.Common.{◌∙◌, [], List, ap, length, map, subst}
use Rattle.cob_source.specs.Tokens.{lexemes}
use Rattle.cob_move_deeds.specs.declared.flow.Asked.{Asked}
use Rattle.cob_move_deeds.specs.declared.flow.Bound.{Bound}
use Rattle.cob_move_deeds.specs.declared.flow.Flow.{Flow}
use Rattle.cob_move_loops.specs.declared.parts.Place.TheVariants as standing
use Rattle.cob_report_lossless.specs.Turned.{TellPassage, ToldLines, plain_condition, told_lines, told_loop, unknown_lines}
use Rattle.cob_report_lossless.proofs.TurnedLemmas.{nothing_told, told_parts}
use Rattle.cob_report_lossless.proofs.turned.tested_lines.Goals as goal

pub returns : goal.returns
returns c =
    let bounds = length c.args.deeds.now.bounds.items in
    let conditions = length c.args.deeds.now.asked.conditions.items in
    let has = c.in_ok-body.ensures.found in
    let start = nothing_told c.new.result.items (map told_loop c.in_ok-unknown_loops.field-0.items) (map plain_condition c.in_ok-unknown_conditions.field-0.items) (length c.bounds.result.now) bounds
    c.len.result conditions c.new.ensures.items
    c.in_ok-unknown_loops.ensures (ap (λ (bs : List Bound). length bs) c.bounds.ensures) c.in_ok-unknown_conditions.ensures (c.len.ensures ∙ c.asked.result.now.conditions.ok.0 ∙ ap (λ (a : Asked). length a.conditions.items) c.asked.ensures) in record {
      words = lexemes c.as_slice.result.now;
      body = lexemes c.in_ok-body.body.now;
      left = c.in_ok-read_passage.field-0.now;
      are_words = rw c.as_slice.ensures.value c.in_ok-words.ensures.words;
      has = has;
      told = subst (λ (fs : List Flow). TellPassage [] standing.Statements has.passage fs (unknown_lines bounds conditions) c.in_ok-read_passage.field-0.now (told_lines c.read_passage.new.lines)) c.flows.ensures
          (subst (λ (lines : ToldLines). TellPassage [] standing.Statements has.passage c.flows.result.now lines c.in_ok-read_passage.field-0.now (told_lines c.read_passage.new.lines)) start
          (c.in_ok-read_passage.ensures.told has.passage has.says));
    }
