use Rattle.std.proofs.Common.{drop, rules}
use Rattle.cob_records_parts.proofs.Resting.{given_front}
use Rattle.cob_records_parts.proofs.rest.RestSource.read.Goals as goal

pub returns-clause-bytes : goal.returns-clause-bytes
returns-clause-bytes g c =
    let coming = g.R.Source.coming in
    given_front c.args.self.now.bytes c.less_by-self.result c.in_ok-count.count c.most-most.result c.read.new.piece
    (drop c.most-most.result c.args.piece.now) (coming c.args.self.now.inner) (coming c.read.new.self) c.in_ok-count.ensures.count (search rules)
    c.most-most.ensures.within c.less_by-self.ensures c.in_ok-count.ensures.bytes
