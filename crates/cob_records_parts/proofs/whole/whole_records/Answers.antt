use Rattle.std.proofs.Common.{◌≤◌, ◌*◌, rules}
use Rattle.cob_records_parts.proofs.InFront.{whole_in_front}
use Rattle.cob_records_parts.proofs.whole.whole_records.Goals as goal

pub returns-clause-front : goal.returns-clause-front
returns-clause-front c = λ bytes long.
    let within : c.min-records.result * c.from-2.result ≤ c.args.size = search rules in
    whole_in_front c.min-records.result c.from-2.result c.args.greatest bytes (search rules) (rw long within)
