use Rattle.std.proofs.Common.{[], refl}
use Rattle.cob_source.proofs.ReadingLemmas.{nothing_read}
use Rattle.cob_source.proofs.ahead.WordsAhead.new.Goals as goal

pub returns-clause-begins : goal.returns-clause-begins
returns-clause-begins c = record {
  short = c.if-text-gt-MAX_TEXT_BYTES.false;
  before = [];
  lines_are = refl;
  number_is = refl;
  read = rw c.new.ensures.items nothing_read;
}
