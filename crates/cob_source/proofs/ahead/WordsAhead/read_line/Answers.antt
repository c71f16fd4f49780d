use Rattle.std.proofs.Common.{ℕ, List, [], ◌∷◌, ◌++◌, ap, ◌∙◌}
use Rattle.std.proofs.lemmas.Result.{err_from_is_err_and}
use Rattle.cob_source.specs.Lines.{lines}
use Rattle.cob_source.proofs.AheadLemmas.{line_read, number_more}
use Rattle.cob_source.proofs.ReadingLemmas.{refusal_at}
use Rattle.cob_source.proofs.ahead.WordsAhead.read_line.Goals as goal

pub returns-then-len-ge-LEAST_WORDS-clause-read : goal.returns-then-len-ge-LEAST_WORDS-clause-read
returns-then-len-ge-LEAST_WORDS-clause-read c = λ text front is. record {
  short = is.short;
  before = is.before ++ c.next_line.result.0.now ∷ [];
  lines_are = line_read text c.args.self.now.rest.now c.next_line.result.1.now c.next_line.result.0.now is.before is.lines_are c.next_line.ensures.line;
  number_is = number_more c.args.self.now.number is.before c.next_line.result.0.now is.number_is;
  read = c.in_ok-take_line.ensures.ok front is.before is.number_is is.read;
}

pub returns-else-len-ge-LEAST_WORDS-clause-read : goal.returns-else-len-ge-LEAST_WORDS-clause-read
returns-else-len-ge-LEAST_WORDS-clause-read c = λ text front is. record {
  short = is.short;
  before = is.before ++ c.next_line.result.0.now ∷ [];
  lines_are = line_read text c.args.self.now.rest.now c.next_line.result.1.now c.next_line.result.0.now is.before is.lines_are c.next_line.ensures.line;
  number_is = number_more c.args.self.now.number is.before c.next_line.result.0.now is.number_is;
  read = c.in_ok-take_line.ensures.ok front is.before is.number_is is.read;
}

pub returns-in_err-take_line-clause-refused : goal.returns-in_err-take_line-clause-refused
returns-in_err-take_line-clause-refused c =
    let p = err_from_is_err_and c.from_residual.result c.from_residual.ensures.1 in
    rw (p.1, p.2)
    (λ text front is. refusal_at text _ _ is.before c.next_line.result.0.now (lines c.next_line.result.1.now) (is.lines_are ∙ ap (λ (l : List (List ℕ)). is.before ++ l) c.next_line.ensures.line) (c.in_err-take_line.ensures.fault front is.before is.number_is is.read))
