use Rattle.std.proofs.Common.{◌≡◌, [], map, sym, ◌∙◌, subst, inl, arith}
use Rattle.std.proofs.lemmas.Grind.{common_steps}
use Rattle.std.proofs.lemmas.List.{length-map, nil_from_length}
use Rattle.cob_source.specs.Tokens.{lexemes}
use Rattle.cob_copybook_entry.specs.declared.fault.BookRule.{BookRule}
use Rattle.cob_copybook_entry.specs.Described.{plain_entry}
use Rattle.cob_copybook_entries.specs.Books.{BreaksEntryRule}
use Rattle.cob_copybook_entries.proofs.Reading.{SoFar, goes_on}
use Rattle.cob_copybook_entries.proofs.Endings.{front_cut, shorter, sentence_broken, sentence_only, open_end, not_empty, all_read}
use Rattle.cob_copybook_entries.proofs.reader.entries.Goals as goal

pub returns-in-Err-clause-only : goal.returns-in-Err-clause-only
returns-in-Err-clause-only c = λ ds w.
    let is = front_cut _ _ _ c.in-Some.ensures.found in
    (tt, c.on-in-Err.ensures.rule ∙ sentence_only _ _ _ (lexemes c.in-Some.behind.now) _ _ ds c.loop-sentence.invariant is (λ d h. (c.in-Err.ensures.only d h).1) w)

pub returns-in-Err-clause-fault : goal.returns-in-Err-clause-fault
returns-in-Err-clause-fault c =
    let is = front_cut _ _ _ c.in-Some.ensures.found in
    subst (λ (r : BookRule). BreaksEntryRule r (lexemes c.args.tokens.now)) (sym c.on-in-Err.ensures.rule) (sentence_broken _ _ _ (lexemes c.in-Some.behind.now) _ _ c.loop-sentence.invariant is c.in-Err.ensures.fault)

pub loop-sentence-smaller : goal.loop-sentence-smaller
loop-sentence-smaller c = shorter _ _ _ c.in-Some.ensures.found

pub loop-sentence-preserved : goal.loop-sentence-preserved
loop-sentence-preserved c =
    let is = front_cut _ _ _ c.in-Some.ensures.found in
    let count = length-map c.add_sentence.new.entries.items plain_entry in
    let few = c.in_default-add_sentence.ensures.few in
    goes_on _ _ _ _ _ _ c.loop-sentence.invariant is c.in_default-add_sentence.ensures.found (λ d h. (c.in_default-add_sentence.ensures.only d h).0) (omega (arith, count, few))

pub returns-then-not-is_empty-clause-only : goal.returns-then-not-is_empty-clause-only
returns-then-not-is_empty-clause-only c = λ ds w.
    let left = open_end _ _ _ c.loop-sentence.invariant c.in_default.ensures.none in
    absurd (not_empty c.loop-sentence.rest.now (λ e. grind (arith, common_steps)) (sym left ∙ w.ended))

pub returns-then-not-is_empty-clause-fault : goal.returns-then-not-is_empty-clause-fault
returns-then-not-is_empty-clause-fault c =
    let left = open_end _ _ _ c.loop-sentence.invariant c.in_default.ensures.none in
    subst (λ (r : BookRule). BreaksEntryRule r (lexemes c.args.tokens.now)) (sym c.on-then-not-is_empty.ensures.rule)
    (inl (λ e. not_empty c.loop-sentence.rest.now (λ e. grind (arith, common_steps)) (sym left ∙ e)))

pub returns-clause-found : goal.returns-clause-found
returns-clause-found c =
    let empty : c.loop-sentence.rest.now ≡ [] = nil_from_length c.loop-sentence.rest.now (grind (arith, common_steps)) in
    let read = subst (λ ts. SoFar (lexemes c.args.tokens.now) (lexemes ts) (map plain_entry c.loop-sentence.entries.items)) empty c.loop-sentence.invariant in
    all_read _ _ read (not_empty c.args.tokens.now (λ e. grind (arith, common_steps)))
