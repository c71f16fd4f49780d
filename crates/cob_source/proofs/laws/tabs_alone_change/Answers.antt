use Rattle.cob_source.proofs.TabLemmas.{untabbed_same}
use Rattle.cob_source.proofs.laws.tabs_alone_change.Goals as goal

pub returns : goal.returns
returns c = λ width text e. untabbed_same width 0 text e
