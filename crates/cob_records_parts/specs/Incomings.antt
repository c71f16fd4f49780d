-- The records that come of a source, of which some are chosen.
use Rattle.std.specs.Prelude.{◌≡◌, ℕ, List, [], None, Option, option_map}
use Rattle.cob_records.specs.declared.records.Form.{Form}
use Rattle.cob_records_parts.specs.Choices.{last_chosen}
use Rattle.cob_records_parts.specs.Comings.{coming_of, given_by}
use Rattle.cob_records_parts.specs.Gives.{HasGiven, IsPassedTo}
use Rattle.cob_records_parts.specs.declared.choice.Choice.{Choice}
use Rattle.cob_records_parts.specs.declared.chosen.Chosen.{Chosen}
use Rattle.cob_records_parts.specs.declared.incoming.Incoming.{Incoming}
use Rattle.cob_records_parts.specs.declared.incoming.Incoming.TheVariants as incoming

-- It gives the records of this choice, of a source that first told these bytes and tells those now, and none is given yet: what comes of it is what is
-- given of all these bytes.
pub record GivesAllBehind {R : Type 0} (form : Form) (greatest : ℕ) (choice : Choice) (first now : Option (List ℕ)) (source : Chosen R) : Type 0 where
  pub form_is : source.walk.form ≡ form
  pub greatest_is : source.walk.greatest ≡ greatest
  pub skip_is : source.walk.skip ≡ choice.skip
  pub last_is : source.walk.last ≡ last_chosen choice
  pub none : HasGiven first now [] source
  pub passed : IsPassedTo first now source
  pub runs : source.stopped ≡ None
  pub unfailed : source.failures ≡ 0
  pub comes : coming_of now source ≡ option_map (given_by form greatest choice) first

-- it gives just the records of this choice
abbrev pub GivesChosen : {R : Type 0} → (R → Option (List ℕ)) → Form → (greatest : ℕ) → Choice → (first : Option (List ℕ)) → Incoming R → Type 0
GivesChosen coming form greatest choice first (incoming.All source) = ⊥
GivesChosen coming form greatest choice first (incoming.Some source) = GivesAllBehind form greatest choice first (coming source.inner) source
