-- The record with a number, behind those that are passed over.
use Rattle.std.proofs.Common.{◌≡◌, ◌∙◌, ℕ, ◌+◌, ◌≤◌, List, [], ◌∷◌, length, take, refl, subst, None, Some, Option, Ok, Err}
use Rattle.cob_records.specs.Device.{Told}
use Rattle.cob_records.specs.Forms.{Come, ReadsInForm}
use Rattle.cob_records.specs.declared.records.Form.{Form}
use Rattle.cob_records.specs.declared.records.Form.TheVariants.{Fixed, Variable, Blocked}
use Rattle.cob_records.specs.declared.records.RecordFault.{RecordFault}
use Rattle.cob_records_parts.specs.Choices.{HasCome, HasStopped}
use Rattle.cob_records_parts.specs.Numbering.{AreOnly, HasNumber, HavePassed, IsUnreadUpTo}
use Rattle.cob_records_parts.specs.Walks.{HasWalkedTo}
use Rattle.cob_records_parts.specs.declared.choice.Stopped.{Stopped}
use Rattle.cob_records_parts.specs.declared.walk.Walk.{Walk}
use Rattle.cob_records_parts.proofs.Stepping.{read_one, told_then}

-- at the end of the bytes no block is open
closed_at_end : (form : Form) (bodies : List (List ℕ)) (bytes : List ℕ) (opened : ℕ) (left slice rest : List ℕ) (after greatest start : ℕ) → start ≡ 0
    → Come form start bodies bytes opened left → ReadsInForm form greatest opened slice (Ok None) after left rest → (opened ≡ 0) × (left ≡ []) × (rest ≡ [])
closed_at_end Fixed [] bytes opened left slice rest after greatest start zero (same, is) reads = (is ∙ zero, reads.0.0, reads.0.1)
closed_at_end Fixed (b ∷ bodies) bytes opened left slice rest after greatest start zero (mid, more, (frame, is), come) reads =
    closed_at_end Fixed bodies more opened left slice rest after greatest mid (is ∙ zero) come reads
closed_at_end Variable [] bytes opened left slice rest after greatest start zero (same, is) reads = (is ∙ zero, reads.0.0, reads.0.1)
closed_at_end Variable (b ∷ bodies) bytes opened left slice rest after greatest start zero (mid, more, (frame, is), come) reads =
    closed_at_end Variable bodies more opened left slice rest after greatest mid (is ∙ zero) come reads
closed_at_end (Blocked most) bodies bytes opened left slice rest after greatest start zero come (none, done, is, end) = (none, is, end)

-- a frame that can't be read, whatever the slice holds
unread : (form : Form) (greatest left : ℕ) (slice other : List ℕ) (fault : RecordFault) (after : ℕ) (bytes rest : List ℕ)
    → ReadsInForm form greatest left slice (Err fault) after bytes rest → ReadsInForm form greatest left other (Err fault) after bytes rest
unread Fixed greatest left slice other fault after bytes rest reads = reads
unread Variable greatest left slice other fault after bytes rest reads = reads
unread (Blocked most) greatest left slice other fault after bytes rest reads = reads

-- records that came were passed over
passed_by : (form : Form) (greatest skip number left : ℕ) (chosen bytes rest : List ℕ) → HasCome form greatest skip number left chosen bytes rest
    → HavePassed form greatest number left bytes rest
passed_by form greatest skip number left chosen bytes rest come = record { bodies = come.bodies; each = come.each; come = come.come; many = come.many }

-- no other comes
pub told_only : (form : Form) (greatest skip number left after : ℕ) (slice : List ℕ) (r1 r2 : Option (List ℕ))
    → Told r1 r2 (ReadsInForm form greatest left slice (Ok None) after) → (r0 : Option (List ℕ)) (chosen : List ℕ)
    → Told r0 r1 (HasCome form greatest skip number left chosen) → Told r0 r2 (AreOnly form greatest number)
told_only form greatest skip number left after slice r1 r2 reads r0 chosen come =
    told_then r0 r1 r2 _ _ _ come reads (λ bytes mid rest p q. let (closed, none, end) = closed_at_end form p.bodies bytes left mid slice rest after greatest 0 refl p.come q in
    record {
      passed = subst (λ (k : ℕ). HavePassed form greatest number k bytes []) closed
          (subst (λ (xs : List ℕ). HavePassed form greatest number left bytes xs) none (passed_by form greatest skip number left chosen bytes mid p));
      none = end;
    })

-- the one with the number comes
pub told_numbered : (form : Form) (greatest skip count number left after read : ℕ) (slice : List ℕ) (r0 r1 r2 : Option (List ℕ)) → number ≡ count + 1
    → Told r0 r1 (HasCome form greatest skip count left []) → Told r1 r2 (ReadsInForm form greatest left slice (Ok (Some read)) after)
    → Told r0 r2 (HasNumber form greatest number (take read slice))
told_numbered form greatest skip count number left after read slice r0 r1 r2 next come reads =
    told_then r0 r1 r2 _ _ _ come reads (λ bytes mid rest p q. record {
      earlier = count;
      opened = left;
      left = mid;
      after = after;
      next = next;
      passed = passed_by form greatest skip count left [] bytes mid p;
      frame = (read_one form greatest left slice read after mid rest q).1;
    })

-- its frame can't be read
pub told_unread : (form : Form) (greatest skip count number left after : ℕ) (stop : Stopped) (slice : List ℕ) (r0 r1 r2 : Option (List ℕ)) → stop.number ≡ count + 1
    → stop.number ≤ number → Told r0 r1 (HasCome form greatest skip count left []) → Told r1 r2 (ReadsInForm form greatest left slice (Err stop.fault) after)
    → Told r0 r2 (IsUnreadUpTo form greatest number stop)
told_unread form greatest skip count number left after stop slice r0 r1 r2 next most come reads =
    told_then r0 r1 r2 _ _ _ come reads (λ bytes mid rest p q. record {
      earlier = count;
      opened = left;
      left = mid;
      after = after;
      next = next;
      most = most;
      passed = passed_by form greatest skip count left [] bytes mid p;
      reads = unread form greatest left slice [] stop.fault after mid rest q;
    })

-- that of one before it can't be read
pub told_before : (form : Form) (greatest skip number : ℕ) (stop : Stopped) (r0 r1 : Option (List ℕ)) → stop.number ≤ number
    → Told r0 r1 (HasStopped form greatest skip stop []) → Told r0 r1 (IsUnreadUpTo form greatest number stop)
told_before form greatest skip number stop None r1 most stopped = tt
told_before form greatest skip number stop (Some bytes) None most stopped = absurd stopped
told_before form greatest skip number stop (Some bytes) (Some rest) most stopped = record {
  earlier = length stopped.bodies;
  opened = stopped.opened;
  left = stopped.left;
  after = stopped.after;
  next = stopped.next;
  most = most;
  passed = record { bodies = stopped.bodies; each = stopped.each; come = stopped.come; many = refl };
  reads = unread form greatest stopped.opened stopped.slice [] stop.fault stopped.after stopped.left rest stopped.reads;
}

-- a walk in this form
pub come_in : (form : Form) (greatest : ℕ) (walk : Walk) (r0 r1 : Option (List ℕ)) → walk.form ≡ form → walk.greatest ≡ greatest
    → Told r0 r1 (HasWalkedTo walk []) → Told r0 r1 (HasCome form greatest walk.skip walk.number walk.left [])
come_in form greatest walk r0 r1 same long come = subst (λ (f : Form). Told r0 r1 (HasCome f greatest walk.skip walk.number walk.left [])) same
    (subst (λ (n : ℕ). Told r0 r1 (HasCome walk.form n walk.skip walk.number walk.left [])) long come)

pub only_in : (form : Form) (greatest : ℕ) (walk : Walk) (r0 r1 : Option (List ℕ)) → walk.form ≡ form → walk.greatest ≡ greatest
    → Told r0 r1 (AreOnly walk.form walk.greatest walk.number) → Told r0 r1 (AreOnly form greatest walk.number)
only_in form greatest walk r0 r1 same long only = subst (λ (f : Form). Told r0 r1 (AreOnly f greatest walk.number)) same
    (subst (λ (n : ℕ). Told r0 r1 (AreOnly walk.form n walk.number)) long only)
