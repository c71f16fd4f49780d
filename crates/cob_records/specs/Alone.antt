-- A record that is written by itself.
use Rattle.std.specs.Prelude.{◌≡◌, ℕ, ◌+◌, ◌≤◌, List, [], ◌∷◌, ◌++◌, length}
use Rattle.std.specs.List.{AllByRecursion}
use Rattle.cob_records.specs.declared.records.Form.{Form}
use Rattle.cob_records.specs.declared.records.Form.TheVariants.{Fixed, Variable, Blocked}
use Rattle.cob_records.specs.Frame.{framed}
use Rattle.cob_records.specs.Blocks.{block}
use Rattle.cob_records.specs.Forms.{Come, ComesFirst, written_of}

-- a record as it stands by itself in a stream of this form: its frame, and in blocks a block that holds just it
abbrev pub framed_alone : Form → List ℕ → List ℕ
framed_alone Fixed body = framed Fixed body
framed_alone Variable body = framed Variable body
framed_alone (Blocked most) body = block (framed Variable body)

-- in blocks, one that holds just this record has no more bytes than a block may have
abbrev pub HasRoomAlone : Form → List ℕ → Type 0
HasRoomAlone Fixed body = Unit {0}
HasRoomAlone Variable body = Unit {0}
HasRoomAlone (Blocked most) body = 8 + length body ≤ most

-- A record by itself is all that is written of just this one in its form. Where it stands first it is the record that comes, and no block is open
-- behind it, if a block has room for it, as it has for each record that came in one.
pub record AloneIsOneRecord : Type 0 where
  pub written : (form : Form) (body : List ℕ) → framed_alone form body ≡ written_of form (body ∷ [])
  pub comes : (form : Form) (body rest : List ℕ) → HasRoomAlone form body → ComesFirst form 0 body (framed_alone form body ++ rest) 0 rest
  pub room : (form : Form) (bodies : List (List ℕ)) (bytes : List ℕ) (after : ℕ) (rest : List ℕ) → Come form 0 bodies bytes after rest
      → AllByRecursion (HasRoomAlone form) bodies
