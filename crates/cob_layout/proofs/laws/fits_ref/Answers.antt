use Rattle.cob_layout.proofs.ReferLemmas as law
use Rattle.cob_layout.proofs.laws.fits_ref.Goals as goal

pub returns : goal.returns
returns c = law.fits_ref c.records_are_sound.ensures
