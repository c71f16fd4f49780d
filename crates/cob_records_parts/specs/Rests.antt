-- What is left of a source, or the first bytes of it; and which chosen records are just that.
use Rattle.std.specs.Prelude.{◌≡◌, ℕ, Bool, true, false, List, length, None, Some, Option, option_map, Ok, Err, Result, IfOk}
use Rattle.std.specs.List.{AllByRecursion}
use Rattle.cob_records.specs.Forms.{Come}
use Rattle.cob_records.specs.Frame.{IsRecord}
use Rattle.cob_records.specs.declared.records.Form.{Form}
use Rattle.cob_records_parts.specs.Aheads.{chosen_ahead_of}
use Rattle.cob_records_parts.specs.Helds.{holds_none}
use Rattle.cob_records_parts.specs.Incomings.{GivesAllBehind}
use Rattle.cob_records_parts.specs.Parts.{at_most}
use Rattle.cob_records_parts.specs.declared.ahead.Ahead.{Ahead}
use Rattle.cob_records_parts.specs.declared.ahead.Ahead.TheVariants as ahead
use Rattle.cob_records_parts.specs.declared.choice.Choice.{Choice}
use Rattle.cob_records_parts.specs.declared.choice.Stopped.{Stopped}
use Rattle.cob_records_parts.specs.declared.chosen.Chosen.{Chosen}
use Rattle.cob_records_parts.specs.declared.rest.Rest.{Rest}
use Rattle.cob_records_parts.specs.declared.walk.Walk.{Walk}

-- ---- what is left

-- the source inside
abbrev pub rest_inner : {R : Type 0} → Rest R → R
rest_inner rest = rest.inner

-- of what the source inside tells to come, as many bytes as are given
abbrev pub rest_coming : {R : Type 0} → (R → Option (List ℕ)) → Rest R → Option (List ℕ)
rest_coming coming rest = option_map (at_most rest.bytes) (coming rest.inner)

-- ---- chosen records that are that

-- the same of a source that stopped so, or did not, and holds nothing, or a part of a record
abbrev pub ahead_behind : Option Stopped → (is_spent : Bool) → Walk → Ahead
ahead_behind None true walk = chosen_ahead_of walk
ahead_behind None false walk = ahead.Apart
ahead_behind (Some stop) is_spent walk = ahead.Apart

-- how much of what is left of the source inside is still given, where it did not stop and holds no part of a record
abbrev pub chosen_ahead : {R : Type 0} → Chosen R → Ahead
chosen_ahead source = ahead_behind source.stopped (holds_none source.held) source.walk

-- so much of the source inside; or itself, where its records are given apart
abbrev pub rest_by : {R : Type 0} → Ahead → Chosen R → Result (Rest R) (Chosen R)
rest_by ahead.All source = Ok (record { inner = source.inner; bytes = None })
rest_by (ahead.Bytes count) source = Ok (record { inner = source.inner; bytes = Some count })
rest_by ahead.Apart source = Err source

-- what is still given of the source inside, where that is all that is left of it, or its first bytes
abbrev pub rest_inside : {R : Type 0} → Chosen R → Result (Rest R) (Chosen R)
rest_inside source = rest_by (chosen_ahead source) source

-- ---- what that is

-- What is given of a stream of which so many records are passed over: of what is behind them all, or so many bytes.
pub record IsGivenBehind (form : Form) (greatest skip : ℕ) (bound : Option ℕ) (stream given : List ℕ) : Type 0 where
  pub passed : List (List ℕ)
  pub behind : List ℕ
  pub each : AllByRecursion (IsRecord form greatest) passed
  pub come : Come form 0 passed stream 0 behind
  pub many : length passed ≡ skip
  pub all : given ≡ at_most bound behind

-- what a rest still gives is what is behind so many records of this stream
abbrev pub RestGives : {R : Type 0} → (R → Option (List ℕ)) → Form → (greatest skip : ℕ) → (stream : List ℕ) → Rest R → Type 0
RestGives coming form greatest skip stream rest =
    (given : List ℕ) × (rest_coming coming rest ≡ Some given) × IsGivenBehind form greatest skip rest.bytes stream given

-- Where a source gives the records of a choice of a stream, and these are all that is left of it, or its first bytes, then that is what is behind the
-- records that are passed over.
abbrev pub RestIsBehind : {R : Type 0} → (R → Option (List ℕ)) → Chosen R → Type 0
RestIsBehind coming source = (form : Form) (greatest : ℕ) (choice : Choice) (stream : List ℕ)
    → GivesAllBehind form greatest choice (Some stream) (coming source.inner) source → IfOk (rest_inside source) (RestGives coming form greatest choice.skip stream)
