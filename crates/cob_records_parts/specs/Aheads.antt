-- How much of what is left of a stream is chosen.
use Rattle.std.specs.Prelude.{ℕ, ◌*◌, ◌-◌, ◌==◌, nat_lt, Bool, true, false, if◌then◌else◌}
use Rattle.cob_records.specs.Device.{count_modulus, greatest_count}
use Rattle.cob_records.specs.declared.records.Form.{Form}
use Rattle.cob_records.specs.declared.records.Form.TheVariants.{Fixed, Variable, Blocked}
use Rattle.cob_records_parts.specs.declared.ahead.Ahead.{Ahead}
use Rattle.cob_records_parts.specs.declared.ahead.Ahead.TheVariants as ahead
use Rattle.cob_records_parts.specs.declared.walk.Walk.{Walk}

-- so many records of this length are ahead, where their bytes can be counted
abbrev pub bytes_ahead : (greatest count : ℕ) → Ahead
bytes_ahead greatest count = if nat_lt (count * greatest) count_modulus then ahead.Bytes (count * greatest) else ahead.Apart

-- How much of a stream in this form, behind the records that are passed over, is chosen: all of it, where no number of records is asked for; of records
-- of one length the bytes of so many; else what descriptors say, and in blocks each record is given apart.
abbrev pub ahead_in : Form → (greatest : ℕ) → (is_all : Bool) → (count : ℕ) → Ahead
ahead_in Fixed greatest true count = ahead.All
ahead_in Fixed greatest false count = bytes_ahead greatest count
ahead_in Variable greatest true count = ahead.All
ahead_in Variable greatest false count = ahead.Apart
ahead_in (Blocked most) greatest is_all count = ahead.Apart

-- how much of what is left of a stream is chosen; nothing is said where records are still to be passed over
abbrev pub chosen_ahead_of : Walk → Ahead
chosen_ahead_of walk =
    if nat_lt walk.number walk.skip then ahead.Apart
    else ahead_in walk.form walk.greatest (walk.last == greatest_count) (walk.last - walk.number)
