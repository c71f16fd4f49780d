use Rattle.cob_layout.proofs.KeptLemmas as law
use Rattle.cob_layout.proofs.WritingLemmas as writing
use Rattle.cob_layout.proofs.laws.kept_give_needed.Goals as goal

pub returns-clause-needed : goal.returns-clause-needed
returns-clause-needed c = law.kept_give_needed c.one_place.ensures

pub returns-clause-kept : goal.returns-clause-kept
returns-clause-kept c = law.kept_after_reading c.one_place.ensures

pub returns-clause-once : goal.returns-clause-once
returns-clause-once c = law.read_once

pub returns-clause-writes : goal.returns-clause-writes
returns-clause-writes c = writing.writes_keep
