use Rattle.cob_program_faults.proofs.EndLemmas.{ends_among}
use Rattle.cob_program_texts.specs.DraftEnds.{MayEndDraft}
use Rattle.cob_program_texts.proofs.draft.do_draft.Goals as goal

pub returns : goal.returns
returns g c = ends_among MayEndDraft _ _ c.drafted.ensures c.tell_draft.ensures
