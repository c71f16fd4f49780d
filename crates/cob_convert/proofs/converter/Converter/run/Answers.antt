use Rattle.cob_convert.proofs.Headline.{headline_of, not_raised, not_unread}
use Rattle.cob_convert.proofs.converter.Converter.run.Goals as goal

pub returns-clause-headline : goal.returns-clause-headline
returns-clause-headline g c = λ unread unwritten.
    let wrote = not_raised _ _ _ c.run_over.ensures.writes unwritten in
    headline_of c.args.self.now c.run_over.result (g.R.Source.coming c.args.source.now) (g.R.Source.coming c.run_over.new.source)
    (g.W.Sink.taken c.args.sink.now) (g.W.Sink.taken c.run_over.new.sink) (rw c.self.view_is at c.run_over.ensures.ran)
    (not_unread _ _ _ _ c.run_over.ensures.reads unread) wrote
