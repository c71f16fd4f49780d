use Rattle.cob_copybook_record.proofs.RecordNameLemmas.{given_name_is_borne}
use Rattle.cob_copybook_record.proofs.laws.given_name_is_borne.Goals as goal

pub returns : goal.returns
returns c = λ name level w ws is. given_name_is_borne name level w ws is
