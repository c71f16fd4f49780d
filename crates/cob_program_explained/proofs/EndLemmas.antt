-- How a command ends that prints one line more.
use Rattle.std.proofs.Common.{inl, inr, ◌∙◌}
use Rattle.cob_convert.specs.declared.status.Status.{Status}
use Rattle.cob_program_faults.specs.Ends.{EndsAs}

-- what ends as a command that ends so does ends so
pub ends_behind : (told status end : Status) → EndsAs told status → EndsAs status end → EndsAs told end
ends_behind told status end (inl same) (inl is) = inl (is ∙ same)
ends_behind told status end (inr device) (inl is) = inr (is ∙ device)
ends_behind told status end first (inr is) = inr is
