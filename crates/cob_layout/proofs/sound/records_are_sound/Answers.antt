use Rattle.cob_layout.proofs.SoundLaw as law
use Rattle.cob_layout.proofs.sound.records_are_sound.Goals as goal

pub returns : goal.returns
returns c = law.sound
