use Rattle.std.proofs.Common.{arith, subst, sym}
use Rattle.std.specs.List.{AllByRecursion}
use Rattle.std.proofs.lemmas.Grind.{common_steps}
use Rattle.cob_source.specs.Tokens.{lexemes}
use Rattle.cob_copybook_entries.proofs.Endings.{front_cut, not_empty, shorter}
use Rattle.cob_report_refusals.proofs.Walking.{all_pushed, goes_on, more_before, none_before, ok_wider, open_told, sentence_told, starts}
use Rattle.cob_report_refusals.specs.Refused.{IsRefusedText}
use Rattle.cob_report_refusals.proofs.sentences.sentence_refusals.Goals as goal

pub loop-sentence-init : goal.loop-sentence-init
loop-sentence-init c = (
  starts (lexemes c.args.words.now),
  λ text are. subst (AllByRecursion (IsRefusedText text)) (sym c.new-out.ensures.items) tt,
  none_before (lexemes c.args.words.now),
)

pub loop-sentence-smaller : goal.loop-sentence-smaller
loop-sentence-smaller c = shorter _ _ _ c.in-Some.ensures.found

pub loop-sentence-preserved : goal.loop-sentence-preserved
loop-sentence-preserved c =
    let words = lexemes c.args.words.now in
    let rest = lexemes c.loop-sentence.rest.now in
    let sentence = lexemes c.in-Some.sentence.now in
    let behind = lexemes c.in-Some.behind.now in
    let is = front_cut rest sentence behind c.in-Some.ensures.found in
    let far = c.loop-sentence.invariant.0 in (
      goes_on words rest sentence behind far is,
      λ text are. c.in_ok-more.ensures text (λ r from h. sentence_told text words rest sentence behind c.loop-sentence.from r far c.loop-sentence.invariant.2 c.in-Some.ensures.found is are from h) (c.loop-sentence.invariant.1 text are),
      more_before c.loop-sentence.from c.saturating_sub-from.result c.args.words.now c.in-Some.behind.now rest sentence c.loop-sentence.invariant.2 c.in-Some.ensures.found (grind (arith, common_steps)),
    )

pub returns : goal.returns
returns c =
    let r = c.refusal_of.result in
    ok_wider c.pushed.result (λ v e text are.
    all_pushed text c.loop-sentence.out.items r v.items e (c.loop-sentence.invariant.1 text are)
    (open_told text (lexemes c.args.words.now) (lexemes c.loop-sentence.rest.now) c.loop-sentence.from r c.loop-sentence.invariant.0 c.loop-sentence.invariant.2 c.in_default.ensures.none are c.refusal_of.ensures.entry c.refusal_of.ensures.rule (not_empty c.loop-sentence.rest.now (λ e. grind (arith, common_steps))))) c.pushed.ensures
