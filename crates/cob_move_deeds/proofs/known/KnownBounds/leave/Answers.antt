use Rattle.cob_move_deeds.proofs.SteadyLemmas.{left_known}
use Rattle.cob_move_deeds.proofs.known.KnownBounds.leave.Goals as goal

pub returns : goal.returns
returns c = λ r on input before after known long within applied. record {
  last = left_known c.one_outcome_of_counts.ensures.needed r on c.args.self.now.last c.known_behind-self.result c.args.from c.args.to input before after c.requires.rises within long applied c.known_behind-self.ensures known.last;
  before = left_known c.one_outcome_of_counts.ensures.needed r on c.args.self.now.before c.known_behind-self-2.result c.args.from c.args.to input before after c.requires.rises within long applied c.known_behind-self-2.ensures known.before;
}
