-- A record that is written by itself.
use Rattle.std.proofs.Common.{◌≡◌, ℕ, ◌+◌, ◌-◌, ◌≤◌, Bool, true, false, List, [], ◌∷◌, ◌++◌, length, take, drop, refl, sym, ap, ◌∙◌, arith, append_assoc, append-nil, inl, inr, ◌⊎◌, zero, suc, Option, Ok, Err, Result}
use Rattle.std.proofs.Math.ListN.{length-append}
use Rattle.std.proofs.Math.Seq.{take-append-add}
use Rattle.std.proofs.lemmas.Grind.{common_steps}
use Rattle.std.proofs.lemmas.List.{take-append-drop, take-append-le}
use Rattle.std.specs.Io.KnownBytes.{append_known}
use Rattle.std.specs.List.{AllByRecursion}
use Rattle.cob_records.specs.declared.records.Form.{Form}
use Rattle.cob_records.specs.declared.records.Form.TheVariants.{Fixed, Variable, Blocked}
use Rattle.cob_records.specs.declared.records.RecordFault.{RecordFault}
use Rattle.cob_records.specs.declared.records.RecordFault.TheVariants.{WriteFailed, TookNothing}
use Rattle.cob_records.specs.Alone.{AloneIsOneRecord, HasRoomAlone, framed_alone}
use Rattle.cob_records.specs.Blocks.{closed_block, closed_by, empty, fits, with_frame}
use Rattle.cob_records.specs.Forms.{Come, ComesFirst, written_of}
use Rattle.cob_records.specs.Frame.{PutsPart, descriptor, framed}
use Rattle.cob_records.proofs.FormsLaw.{written_blocks}
use Rattle.cob_records.proofs.Greedy.{closed_some}
use Rattle.cob_records.proofs.Steps.{append_twice}

-- ---- the end of a frame in two parts

-- a beginning of the first part
pub puts_first : (head body : List ℕ) (sent : ℕ) (fault : RecordFault) (before now : Option (List ℕ)) → PutsPart sent head (Err fault) before now
    → PutsPart sent (head ++ body) (Err fault) before now
puts_first head body sent (WriteFailed taken) before now (count, sum, low, is) =
    (count, sum, omega (arith, low, length-append head body), is ∙ ap (append_known before) (sym (take-append-le count head body (omega (arith, low)))))
puts_first head body sent (TookNothing taken) before now (count, sum, low, is) =
    (count, sum, omega (arith, low, length-append head body), is ∙ ap (append_known before) (sym (take-append-le count head body (omega (arith, low)))))
puts_first head body sent _ before now p = absurd p

-- the first part whole, and the second
pub puts_second : (head body : List ℕ) (sent behind : ℕ) (result : Result (Unit {0}) RecordFault) (before mid now : Option (List ℕ)) → behind ≡ sent + length head
    → mid ≡ append_known before head → PutsPart behind body result mid now → PutsPart sent (head ++ body) result before now
puts_second head body sent behind (Ok done) before mid now size e p = (rw e at p) ∙ append_twice before head body
puts_second head body sent behind (Err (WriteFailed taken)) before mid now size e (count, sum, low, is) = (
  length head + count,
  omega (arith, size, sum),
  omega (arith, low, length-append head body),
  (rw e at is) ∙ append_twice before head (take count body) ∙ ap (append_known before) (sym (take-append-add head body count)),
)
puts_second head body sent behind (Err (TookNothing taken)) before mid now size e (count, sum, low, is) = (
  length head + count,
  omega (arith, size, sum),
  omega (arith, low, length-append head body),
  (rw e at is) ∙ append_twice before head (take count body) ∙ ap (append_known before) (sym (take-append-add head body count)),
)
puts_second head body sent behind (Err _) before mid now size e p = absurd p

-- the front of a part, and then what is left of it
pub puts_behind : (count sent : ℕ) (bytes : List ℕ) (result : Result (Unit {0}) RecordFault) (before mid now : Option (List ℕ)) → count ≤ length bytes
    → mid ≡ append_known before (take count bytes) → PutsPart (sent + count) (take (length bytes - count) (drop count bytes)) result mid now
    → PutsPart sent bytes result before now
puts_behind count sent bytes result before mid now few e p =
    let rest : take (length bytes - count) (drop count bytes) ≡ drop count bytes = grind (arith, common_steps) in
    let size : sent + count ≡ sent + length (take count bytes) = grind (arith, common_steps) in
    let whole = puts_second (take count bytes) (drop count bytes) sent (sent + count) result before mid now size e (rw rest at p) in
    rw (take-append-drop count bytes) at whole

-- ---- one record

-- the frame of a record has four bytes before it
pub framed_size : (body : List ℕ) → length (framed Variable body) ≡ 4 + length body
framed_size body = length-append (descriptor (length body)) body

-- behind an empty block just the frame is pending
one_pending : (most : ℕ) (frame : List ℕ) (yes : Bool) → fits (empty most) frame ≡ yes
    → closed_by (empty most) frame ++ closed_block (with_frame (empty most) frame).frames ≡ closed_block frame
one_pending most frame true e = rw e refl
one_pending most frame false e = rw e refl

written : (form : Form) (body : List ℕ) → framed_alone form body ≡ written_of form (body ∷ [])
written Fixed body = sym (append-nil (framed Fixed body ++ []) ∙ append-nil (framed Fixed body))
written Variable body = sym (append-nil (framed Variable body ++ []) ∙ append-nil (framed Variable body))
written (Blocked most) body =
    sym (written_blocks (empty most) (body ∷ []) ∙ one_pending most (framed Variable body) (fits (empty most) (framed Variable body)) refl
    ∙ closed_some (framed Variable body) (omega (arith, framed_size body)))

comes : (form : Form) (body rest : List ℕ) → HasRoomAlone form body → ComesFirst form 0 body (framed_alone form body ++ rest) 0 rest
comes Fixed body rest room = (refl, refl)
comes Variable body rest room = (refl, refl)
comes (Blocked most) body rest room = (
  length (framed Variable body),
  descriptor (length (framed Variable body)),
  (refl, omega (arith, framed_size body), omega (arith, framed_size body, room)),
  append_assoc (descriptor (length (framed Variable body))) (framed Variable body) rest,
  omega (arith, framed_size body),
)

-- ---- records that came in blocks

-- the open block of a form may still hold so many bytes
abbrev MayBeOpen : Form → ℕ → Type 0
MayBeOpen Fixed left = Unit {0}
MayBeOpen Variable left = Unit {0}
MayBeOpen (Blocked most) left = (left ≡ 0) ⊎ (4 + left ≤ most)

room_of_one : (form : Form) (left : ℕ) (body bytes : List ℕ) (after : ℕ) (rest : List ℕ) → MayBeOpen form left → ComesFirst form left body bytes after rest
    → HasRoomAlone form body × MayBeOpen form after
room_of_one Fixed left body bytes after rest may comes = (tt, tt)
room_of_one Variable left body bytes after rest may comes = (tt, tt)
room_of_one (Blocked most) zero body bytes after rest may (room, lead, (is, low, high), frame, sum) =
    (omega (arith, high, sum), inr (omega (arith, high, sum)))
room_of_one (Blocked most) (suc n) body bytes after rest (inl none) (room, lead, (gone, is), frame, sum) = absurd (omega (arith, none))
room_of_one (Blocked most) (suc n) body bytes after rest (inr high) (room, lead, (gone, is), frame, sum) =
    (omega (arith, high, is, sum), inr (omega (arith, high, is, sum)))

room_of_all : (form : Form) (left : ℕ) (bodies : List (List ℕ)) (bytes : List ℕ) (after : ℕ) (rest : List ℕ) → MayBeOpen form left → Come form left bodies bytes after rest
    → AllByRecursion (HasRoomAlone form) bodies
room_of_all form left [] bytes after rest may come = tt
room_of_all form left (body ∷ bodies) bytes after rest may (mid, more, first, come) =
    let (one, next) = room_of_one form left body bytes mid more may first in
    (one, room_of_all form mid bodies more after rest next come)

open_at_first : (form : Form) → MayBeOpen form 0
open_at_first Fixed = tt
open_at_first Variable = tt
open_at_first (Blocked most) = inl refl

pub alone_is_one_record : AloneIsOneRecord
alone_is_one_record = record {
  written = written;
  comes = comes;
  room = λ form bodies bytes after rest come. room_of_all form 0 bodies bytes after rest (open_at_first form) come;
}
