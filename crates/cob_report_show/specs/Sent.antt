-- What a sink took of a text that is written in parts.
use Rattle.std.specs.Prelude.{◌≡◌, ℕ, ◌+◌, ◌<◌, ◌≤◌, min, List, ◌++◌, length, Ok, Err, Result}
use Rattle.cob_records.specs.declared.records.RecordFault.{RecordFault}
use Rattle.cob_records.specs.Device.{greatest_count}
use Rattle.cob_records.specs.Frame.{taken_of}

-- the part is a beginning of the text, and less than the whole
abbrev pub IsBeginning : List ℕ → List ℕ → Type 0
IsBeginning part text = (rest : List ℕ) × (text ≡ part ++ rest) × (0 < length rest)

-- the part is such a beginning of a text that is so
abbrev pub BeginsOne : (List ℕ → Type 0) → List ℕ → Type 0
BeginsOne is part = (text : List ℕ) × is text × IsBeginning part text

-- what a call that writes says of the part that the sink took: it is so, or where the sink failed so begun
abbrev pub Wrote : (List ℕ → Type 0) → (List ℕ → Type 0) → Result (Unit {0}) RecordFault → List ℕ → Type 0
Wrote is begun (Ok done) part = is part
Wrote is begun (Err fault) part = begun part

-- how many bytes were sent when these are added, up to the greatest count
abbrev pub sent_after : ℕ → List ℕ → ℕ
sent_after sent part = min (sent + length part) greatest_count

-- the bytes of the part were counted among those that were sent, where these are a count
abbrev pub CountsSent : ℕ → ℕ → List ℕ → Type 0
CountsSent before after part = before ≤ greatest_count → after ≡ sent_after before part

-- so written, and counted among the bytes that were sent
abbrev pub Sends : (List ℕ → Type 0) → (List ℕ → Type 0) → ℕ → ℕ → Result (Unit {0}) RecordFault → List ℕ → Type 0
Sends is begun before after answer part = Wrote is begun answer part × CountsSent before after part

-- just this text went out
abbrev pub SendsText : List ℕ → ℕ → ℕ → Result (Unit {0}) RecordFault → List ℕ → Type 0
SendsText text before after answer part = Sends (λ part. part ≡ text) (λ part. IsBeginning part text) before after answer part

-- a text that is so went out
abbrev pub SendsOne : (List ℕ → Type 0) → ℕ → ℕ → Result (Unit {0}) RecordFault → List ℕ → Type 0
SendsOne is before after answer part = Sends is (BeginsOne is) before after answer part

-- of what a line held its front went out, and this is left in it
abbrev pub SendsFront : List ℕ → List ℕ → ℕ → ℕ → Result (Unit {0}) RecordFault → List ℕ → Type 0
SendsFront held left before after answer part = Sends (λ part. part ++ left ≡ held) (λ part. IsBeginning part held) before after answer part

-- how many bytes of a text of so many went out
abbrev pub taken_by : Result (Unit {0}) RecordFault → ℕ → ℕ
taken_by (Ok done) long = long
taken_by (Err fault) long = taken_of fault

-- a text of which this is true, behind a front
abbrev pub IsBehindFront : List ℕ → (List ℕ → Type 0) → List ℕ → Type 0
IsBehindFront front is text = (added : List ℕ) × is added × (text ≡ front ++ added)

-- a line held the front, and holds this now: what went out with what it holds is a text of which this is true, behind the front
abbrev pub IsAddedTo : List ℕ → List ℕ → (List ℕ → Type 0) → List ℕ → Type 0
IsAddedTo front now is part = IsBehindFront front is (part ++ now)

-- a text that is so was added to the front that a line held, of which the line holds this now, and the rest went out
abbrev pub SendsAdded : List ℕ → List ℕ → (List ℕ → Type 0) → ℕ → ℕ → Result (Unit {0}) RecordFault → List ℕ → Type 0
SendsAdded front now is before after answer part = Sends (IsAddedTo front now is) (BeginsOne (IsBehindFront front is)) before after answer part
