-- What comes next of a stream, from what a reading of the next record says.
use Rattle.std.proofs.Common.{◌≡◌, ◌∙◌, ℕ, zero, suc, ◌+◌, ◌≤◌, ◌==◌, Bool, true, false, eqb-true, List, ◌++◌, length, take, [], refl, sym, ap, ap₂, append_assoc, append-nil, arith, None, Some, Option, Ok, Err}
use Rattle.std.specs.Prelude.{if◌then◌else◌}
use Rattle.std.proofs.Math.ListN.{length-append}
use Rattle.std.proofs.lemmas.Grind.{common_steps}
use Rattle.cob_records.specs.declared.records.Form.{Form}
use Rattle.cob_records.specs.declared.records.Form.TheVariants.{Fixed, Variable, Blocked}
use Rattle.cob_records.specs.declared.records.RecordFault.{RecordFault}
use Rattle.cob_records.specs.declared.records.RecordFault.TheVariants.{Truncated}
use Rattle.cob_records.specs.BlockReads.{Leads}
use Rattle.cob_records.specs.Device.{Told}
use Rattle.cob_records.specs.Forms.{ReadsInForm}
use Rattle.cob_records.specs.Frame.{IsLength, IsSeen, framed}
use Rattle.cob_limits.specs.Limits.{longest_record}
use Rattle.cob_records_parts.specs.Reading.{ComesFrame, Finds, size_behind}
use Rattle.cob_records_parts.specs.declared.stream.Next.TheVariants.{Whole, Last}

pub told_as : (r0 r : Option (List ℕ)) (P Q : List ℕ → List ℕ → Type 0) → Told r0 r P → ((bytes rest : List ℕ) → P bytes rest → Q bytes rest) → Told r0 r Q
told_as None r P Q p f = tt
told_as (Some xs) None P Q p f = absurd p
told_as (Some xs) (Some rest) P Q p f = f xs rest p

taken : (count : ℕ) (slice : List ℕ) → count ≤ length slice → length (take count slice) ≡ count
taken count slice h = grind (arith, common_steps)

-- how long the descriptor of a block is, where one begins
lead_long : (most left room : ℕ) (lead : List ℕ) → Leads most left room lead → length lead ≡ (if left == 0 then 4 else 0)
lead_long most zero room lead leads = ap (length {A = ℕ}) leads.0
lead_long most (suc left) room lead leads = go (suc left == 0) refl
  where
    go : (b : Bool) → (suc left == 0) ≡ b → length lead ≡ (if b then 4 else 0)
    go true e = absurd (omega (arith, eqb-true (suc left) 0 e))
    go false e = ap (length {A = ℕ}) leads.0

framed_long : (body : List ℕ) (count : ℕ) → length body ≡ count → length (framed Variable body) ≡ 4 + count
framed_long body count e = omega (arith, e)

-- a whole frame
pub whole : (form : Form) (greatest left : ℕ) (slice : List ℕ) (count after : ℕ) (bytes rest : List ℕ) → ReadsInForm form greatest left slice (Ok (Some count)) after bytes rest
    → ComesFrame form greatest left (size_behind form left count) after bytes rest
whole Fixed greatest left slice count after bytes rest ((within, is, frame), same) = record {
  body = take count slice;
  frame = take count slice;
  is = is;
  first = (sym (append-nil (take count slice)), same);
  all = frame;
  long = taken count slice within;
}
whole Variable greatest left slice count after bytes rest ((within, is, frame), same) = record {
  body = take count slice;
  frame = framed Variable (take count slice);
  is = is;
  first = (sym (append-nil (framed Variable (take count slice))), same);
  all = frame;
  long = framed_long (take count slice) count (taken count slice within);
}
whole (Blocked most) greatest left slice count after bytes rest (within, is, (room, lead, leads, frame, sum)) = record {
  body = take count slice;
  frame = lead ++ framed Variable (take count slice);
  is = is;
  first = (room, lead, leads, ap (λ (xs : List ℕ). lead ++ xs) (sym (append-nil (framed Variable (take count slice)))), sum);
  all = frame ∙ sym (append_assoc lead (framed Variable (take count slice)) rest);
  long = length-append lead (framed Variable (take count slice))
      ∙ ap₂ (λ (m n : ℕ). m + n) (lead_long most left room lead leads) (framed_long (take count slice) count (taken count slice within));
}

pub found_whole : (form : Form) (greatest left : ℕ) (slice : List ℕ) (count size after : ℕ) (r0 r : Option (List ℕ)) → size ≡ size_behind form left count
    → Told r0 r (ReadsInForm form greatest left slice (Ok (Some count)) after) → Told r0 r (Finds form greatest left (Ok (Whole size)) after)
found_whole form greatest left slice count size after r0 r e told =
    told_as r0 r _ _ told (λ bytes rest h. rw e (whole form greatest left slice count after bytes rest h))

-- nothing, at the end
at_end : (form : Form) (greatest left : ℕ) (slice : List ℕ) (after : ℕ) (bytes rest : List ℕ) → ReadsInForm form greatest left slice (Ok None) after bytes rest
    → (length bytes ≡ 0) × (rest ≡ [])
at_end Fixed greatest left slice after bytes rest ((none, end), same) = (ap length none, end)
at_end Variable greatest left slice after bytes rest ((none, end), same) = (ap length none, end)
at_end (Blocked most) greatest left slice after bytes rest (closed, done, none, end) = (ap length none, end)

pub found_end : (form : Form) (greatest left : ℕ) (slice : List ℕ) (after : ℕ) (r0 r : Option (List ℕ)) → Told r0 r (ReadsInForm form greatest left slice (Ok None) after)
    → Told r0 r (Finds form greatest left (Ok (Last 0)) after)
found_end form greatest left slice after r0 r told = told_as r0 r _ _ told (λ bytes rest h. at_end form greatest left slice after bytes rest h)

-- less than a frame, up to the end
in_frame : (form : Form) (greatest left seen : ℕ) (slice : List ℕ) (after : ℕ) (bytes rest : List ℕ) → ReadsInForm form greatest left slice (Err (Truncated seen)) after bytes rest
    → (length bytes ≡ seen) × (rest ≡ [])
in_frame Fixed greatest left seen slice after bytes rest ((some, long, cut, end), same) = (long, end)
in_frame Variable greatest left seen slice after bytes rest ((some, long, cut, end), same) = (long, end)
in_frame (Blocked most) greatest left seen slice after bytes rest (closed, some, long, cut, end) = (long, end)

pub found_cut : (form : Form) (greatest left seen : ℕ) (slice : List ℕ) (after : ℕ) (r0 r : Option (List ℕ)) → Told r0 r (ReadsInForm form greatest left slice (Err (Truncated seen)) after)
    → Told r0 r (Finds form greatest left (Ok (Last seen)) after)
found_cut form greatest left seen slice after r0 r told = told_as r0 r _ _ told (λ bytes rest h. in_frame form greatest left seen slice after bytes rest h)

-- a frame that can't be read
pub found_fault : (form : Form) (greatest left : ℕ) (slice : List ℕ) (fault : RecordFault) (after : ℕ) (r0 r : Option (List ℕ))
    → Told r0 r (ReadsInForm form greatest left slice (Err fault) after) → Told r0 r (Finds form greatest left (Err fault) after)
found_fault form greatest left slice fault after r0 r told = told_as r0 r _ _ told (λ bytes rest h. (slice, h))

-- ---- how long it is

pub length_most : (form : Form) (greatest count : ℕ) → IsLength form greatest count → greatest ≤ longest_record → count ≤ longest_record
length_most Fixed greatest count is most = omega (arith, is, most)
length_most Variable greatest count is most = omega (arith, is.1, most)
length_most (Blocked size) greatest count is most = omega (arith, is.1, most)

pub seen_most : (form : Form) (greatest seen : ℕ) → IsSeen form greatest (Truncated seen) → greatest ≤ longest_record → seen ≤ longest_record + 8
seen_most Fixed greatest seen is most = omega (arith, is.1, most)
seen_most Variable greatest seen is most = omega (arith, is.1, most)
seen_most (Blocked size) greatest seen is most = omega (arith, is, most)
