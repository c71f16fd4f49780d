use Rattle.std.proofs.Common.{List, ℕ}
use Rattle.std.proofs.lemmas.Result.{IfErr-weaker, IfOk-weaker, err_from_is_err_and}
use Rattle.cob_source.specs.Tokens.{lexemes}
use Rattle.cob_source.specs.Words.{AreParagraphWordsOf}
use Rattle.cob_move_data.specs.Moves.{Records}
use Rattle.cob_move_deeds.specs.Prepared.{deeds_of}
use Rattle.cob_move_names.specs.Valued.{plain_names}
use Rattle.cob_move.specs.Paragraphs.{IsParagraphOf, IsRefusalOf}
use Rattle.cob_move.proofs.ParagraphLemmas.{source_refused}
use Rattle.cob_move.proofs.paragraph.deeds_of_whole.Goals as goal

pub returns-in_err-words-clause-fault : goal.returns-in_err-words-clause-fault
returns-in_err-words-clause-fault c =
    let p = err_from_is_err_and c.from_residual.result c.from_residual.ensures.1 in
    rw (p.1, p.2) (source_refused c.in_err-words.field-0.0.rule c.in_err-words.field-0.0.line c.args.text.now c.args.input.now c.args.output.now (plain_names c.args.names) c.in_err-words.ensures.refused)

pub returns-clause-found : goal.returns-clause-found
returns-clause-found c =
    let r : Records = record { input = c.args.input.now; output = c.args.output.now } in
    let are : AreParagraphWordsOf c.args.text.now (lexemes c.as_slice.result.now) = rw c.as_slice.ensures.value c.in_ok-words.ensures.words in
    IfOk-weaker c.deeds_of_words.result (λ d. (text : List ℕ) → AreParagraphWordsOf text (lexemes c.as_slice.result.now) → IsParagraphOf text c.args.input.now c.args.output.now (plain_names c.args.names) (deeds_of r d))
    (λ d. IsParagraphOf c.args.text.now c.args.input.now c.args.output.now (plain_names c.args.names) (deeds_of r d)) (λ d says. says c.args.text.now are) c.deeds_of_words.ensures.found

pub returns-clause-fault : goal.returns-clause-fault
returns-clause-fault c =
    let are : AreParagraphWordsOf c.args.text.now (lexemes c.as_slice.result.now) = rw c.as_slice.ensures.value c.in_ok-words.ensures.words in
    IfErr-weaker c.deeds_of_words.result (λ f. (text : List ℕ) → AreParagraphWordsOf text (lexemes c.as_slice.result.now) → IsRefusalOf f text c.args.input.now c.args.output.now (plain_names c.args.names))
    (λ f. IsRefusalOf f c.args.text.now c.args.input.now c.args.output.now (plain_names c.args.names)) (λ f says. says c.args.text.now are) c.deeds_of_words.ensures.fault
