use Rattle.cob_picture.proofs.RunLaws.{first_leads}
use Rattle.cob_picture.proofs.laws.first_leads.Goals as goal

pub returns : goal.returns
returns c = first_leads
