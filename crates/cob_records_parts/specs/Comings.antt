-- What a source that gives the chosen records of another tells to come.
use Rattle.std.specs.Prelude.{ℕ, List, ◌++◌, Option, option_map}
use Rattle.cob_records.specs.declared.records.Form.{Form}
use Rattle.cob_records_parts.specs.Choices.{last_chosen}
use Rattle.cob_records_parts.specs.Helds.{held_bytes}
use Rattle.cob_records_parts.specs.StillGiven.{given_behind, given_of, told_by}
use Rattle.cob_records_parts.specs.declared.choice.Choice.{Choice}
use Rattle.cob_records_parts.specs.declared.chosen.Chosen.{Chosen}

-- what is given of the bytes of a stream of which this choice is taken
abbrev pub given_by : Form → (greatest : ℕ) → Choice → List ℕ → List ℕ
given_by form greatest choice = given_of form greatest choice.skip (last_chosen choice) 0

-- What is still given, where no read fails and these bytes are to come of the source inside: what is held, and behind it what is given of them.
abbrev pub still_given : {R : Type 0} → Option (List ℕ) → Chosen R → Option (List ℕ)
still_given now source = option_map (λ bytes. held_bytes source.held ++ given_behind source.walk bytes) now

-- what is still to come of it, where these bytes are to come of the source inside
abbrev pub coming_of : {R : Type 0} → Option (List ℕ) → Chosen R → Option (List ℕ)
coming_of now source = told_by source.stopped source.told.bytes (still_given now source)

-- what it tells to come
abbrev pub chosen_coming : {R : Type 0} → (R → Option (List ℕ)) → Chosen R → Option (List ℕ)
chosen_coming coming source = coming_of (coming source.inner) source
