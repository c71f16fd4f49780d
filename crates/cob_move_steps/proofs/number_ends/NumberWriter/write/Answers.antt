use Rattle.std.proofs.Common.{ap, subst, take, ◌∙◌}
use Rattle.cob_picture.specs.Counts.{signed}
use Rattle.cob_move_steps.specs.Steps.{IsWriterFor}
use Rattle.cob_move_steps.specs.Ends.{IsOwnWriter, IsWordWriterFor, item_digits}
use Rattle.cob_move_steps.proofs.AnyNumberLemmas.{size_is, word_written}
use Rattle.cob_move_steps.proofs.number_ends.NumberWriter.write.Goals as goal

pub returns-in-Lanes : goal.returns-in-Lanes
returns-in-Lanes c = λ item is size tens some.
    let own : IsWriterFor item c.in-Lanes.writer = subst (λ w. IsOwnWriter item w) c.in-Lanes.is is.own in
    let made = c.write.ensures.made in
    made.2 ∙ ap (λ n. take n made.0) size ∙ own.writes c.args.minus c.args.digits made.0 c.fits-digits.0 tens made.1

pub returns-in-Binary : goal.returns-in-Binary
returns-in-Binary c = λ item is size tens some.
    let own : IsWordWriterFor item c.in-Binary.writer = subst (λ w. IsOwnWriter item w) c.in-Binary.is is.own in
    word_written item c.args.minus (take (item_digits item) c.args.digits) c.write_word.new.to own.binary
    (c.write_word.ensures (item_digits item) (signed item.picture.positions) own.writes (size ∙ size_is item own.binary) tens some)
