-- Which record of a stream has a number: the one behind so many that come whole.
use Rattle.std.specs.Prelude.{◌≡◌, ◌<◌, ◌≤◌, ◌+◌, ⊤, ℕ, List, [], length, take, Option, Result, Ok, Err}
use Rattle.std.specs.List.{AllByRecursion}
use Rattle.cob_records.specs.Device.{Told}
use Rattle.cob_records.specs.Forms.{Come, ComesFirst, ReadsInForm}
use Rattle.cob_records.specs.Frame.{IsRecord}
use Rattle.cob_records.specs.declared.records.Form.{Form}
use Rattle.cob_records_parts.specs.Walks.{HasWalkedTo}
use Rattle.cob_records_parts.specs.declared.choice.Stopped.{Stopped}
use Rattle.cob_records_parts.specs.declared.numbered.Numbered.{Numbered}
use Rattle.cob_records_parts.specs.declared.numbered.Numbered.TheVariants.{Fewer, Record}
use Rattle.cob_records_parts.specs.declared.walk.Walk.{Walk}

-- ---- which of the records that come it is

-- So many records came whole, and so much of the open block is left behind them.
pub record HavePassed (form : Form) (greatest count opened : ℕ) (bytes left : List ℕ) : Type 0 where
  pub bodies : List (List ℕ)
  pub each : AllByRecursion (IsRecord form greatest) bodies
  pub come : Come form 0 bodies bytes opened left
  pub many : length bodies ≡ count

-- Only so many records come: behind them no byte is left, and no block is open.
pub record AreOnly (form : Form) (greatest count : ℕ) (bytes rest : List ℕ) : Type 0 where
  pub passed : HavePassed form greatest count 0 bytes []
  pub none : rest ≡ []

-- The record with this number comes, and its bytes are these.
pub record HasNumber (form : Form) (greatest number : ℕ) (body bytes rest : List ℕ) : Type 0 where
  pub earlier : ℕ
  pub opened : ℕ
  pub left : List ℕ
  pub after : ℕ
  pub next : number ≡ earlier + 1
  pub passed : HavePassed form greatest earlier opened bytes left
  pub frame : ComesFirst form opened body left after rest

-- Behind records that came whole, the frame of one up to that with this number can't be read.
pub record IsUnreadUpTo (form : Form) (greatest number : ℕ) (stop : Stopped) (bytes rest : List ℕ) : Type 0 where
  pub earlier : ℕ
  pub opened : ℕ
  pub left : List ℕ
  pub after : ℕ
  pub next : stop.number ≡ earlier + 1
  pub most : stop.number ≤ number
  pub passed : HavePassed form greatest earlier opened bytes left
  pub reads : ReadsInForm form greatest opened [] (Err stop.fault) after left rest

-- ---- what is answered

-- What the answer says where the record with a number is looked for: it comes, and stands at the front of the slice; only so many come; or a frame up to its
-- own can't be read.
abbrev pub FindsNumbered : Form → (greatest number : ℕ) → List ℕ → Result Numbered Stopped → List ℕ → List ℕ → Type 0
FindsNumbered form greatest number slice (Ok (Record count)) bytes rest = HasNumber form greatest number (take count slice) bytes rest
FindsNumbered form greatest number slice (Ok (Fewer there)) bytes rest = AreOnly form greatest there bytes rest
FindsNumbered form greatest number slice (Err stop) bytes rest = IsUnreadUpTo form greatest number stop bytes rest

-- a record that may stand in a frame stands at the front of the slice, where one is found
abbrev pub StandsInFront : Form → (greatest : ℕ) → List ℕ → Numbered → Type 0
StandsInFront form greatest slice (Record count) = (count ≤ length slice) × IsRecord form greatest (take count slice)
StandsInFront form greatest slice (Fewer there) = ⊤

-- where there is none with this number, there are fewer
abbrev pub AreFewer : ℕ → Numbered → Type 0
AreFewer number (Record count) = ⊤
AreFewer number (Fewer there) = there < number

-- ---- on the way there

-- Whatever was chosen of what came before, only the records come that have come now.
abbrev pub OnlyPassed : Walk → Walk → (coming left : Option (List ℕ)) → Type 0
OnlyPassed before now coming left =
    (first : Option (List ℕ)) (chosen : List ℕ) → Told first coming (HasWalkedTo before chosen) → Told first left (AreOnly now.form now.greatest now.number)
