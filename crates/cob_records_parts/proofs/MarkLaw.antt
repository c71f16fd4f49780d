-- The mark of a frame that can't be read is no whole frame: where it stands, the bytes are not all records.
use Rattle.std.proofs.Common.{◌≡◌, ◌∙◌, ℕ, zero, suc, ◌<◌, ◌≤◌, false, List, [], ◌∷◌, ◌++◌, length, drop, refl, sym, ap, subst, arith, append_assoc, Some, Ok, Err}
use Rattle.std.proofs.Math.ListN.{length-append}
use Rattle.std.specs.List.{AllByRecursion}
use Rattle.cob_limits.specs.Limits.{longest_record}
use Rattle.cob_records.specs.Alone.{AloneIsOneRecord, HasRoomAlone, framed_alone}
use Rattle.cob_records.specs.Forms.{Come, ComesFirst, HasBlockSize, ReadsInForm}
use Rattle.cob_records.specs.Frame.{IsRecord, descriptor, framed, is_read_failure}
use Rattle.cob_records.specs.declared.records.Form.{Form}
use Rattle.cob_records.specs.declared.records.Form.TheVariants.{Fixed, Variable, Blocked}
use Rattle.cob_records.specs.declared.records.RecordFault.{RecordFault}
use Rattle.cob_records.specs.declared.records.RecordFault.TheVariants.{Truncated, ReadFailed}
use Rattle.cob_records_parts.specs.Choices.{all_alone}
use Rattle.cob_records_parts.specs.Firsts.{First}
use Rattle.cob_records_parts.specs.StillGiven.{MarkEndsNothing, fault_mark, fault_number}
use Rattle.cob_records_parts.proofs.FirstLaw.{first_is}
use Rattle.cob_records_parts.proofs.GivenLaw.{reads_first}

-- one number is no whole frame
too_short : (form : Form) (greatest : ℕ) (body : List ℕ) (mark mid : ℕ) (more : List ℕ) → (form ≡ Fixed → 1 < greatest) → IsRecord form greatest body
    → ComesFirst form 0 body (mark ∷ []) mid more → ⊥
too_short Fixed greatest body mark mid more long is (frame, same) = omega (arith, long refl, is, ap length frame, length-append body more)
too_short Variable greatest body mark mid more long is (frame, same) =
    omega (arith, ap length frame, length-append (framed Variable body) more, length-append (descriptor (length body)) body)
too_short (Blocked most) greatest body mark mid more long is (room, lead, (leads, low, high), frame, left) =
    omega (arith, ap length leads, ap length frame, length-append lead (framed Variable body ++ more))

-- what comes first in bytes is one record
one_first : (form : Form) (greatest left : ℕ) (a b bytes : List ℕ) (mid after : ℕ) (more rest : List ℕ) → HasBlockSize form → 0 < greatest → greatest ≤ longest_record
    → IsRecord form greatest a → IsRecord form greatest b → ComesFirst form left a bytes mid more → ComesFirst form left b bytes after rest → (mid ≡ after) × (more ≡ rest)
one_first form greatest left a b bytes mid after more rest block low high is_a is_b first second =
    let same = sym (first_is form greatest left a (Ok (Some (length a))) mid bytes more block low high (reads_first form greatest left a bytes mid more is_a first) refl)
    ∙ first_is form greatest left b (Ok (Some (length b))) after bytes rest block low high (reads_first form greatest left b bytes after rest is_b second) refl in
    (ap (λ (f : First). f.after) same, ap (λ (f : First). f.rest) same)

never_all : (form : Form) (greatest mark : ℕ) (alone bodies : List (List ℕ)) → AloneIsOneRecord → HasBlockSize form → 0 < greatest → greatest ≤ longest_record
    → (form ≡ Fixed → 1 < greatest) → AllByRecursion (IsRecord form greatest) alone → AllByRecursion (HasRoomAlone form) alone
    → AllByRecursion (IsRecord form greatest) bodies → Come form 0 bodies (all_alone form alone ++ mark ∷ []) 0 [] → ⊥
never_all form greatest mark [] [] law block low high long each room all (none, same) = omega (arith, ap length none)
never_all form greatest mark (a ∷ alone) [] law block low high long each room all (none, same) =
    omega (arith, ap length none, length-append (all_alone form (a ∷ alone)) (mark ∷ []))
never_all form greatest mark [] (b ∷ bodies) law block low high long each room (is, all) (mid, more, first, come) = too_short form greatest b mark mid more long is first
never_all form greatest mark (a ∷ alone) (b ∷ bodies) law block low high long (is_a, each) (fits, room) (is_b, all) (mid, more, first, come) =
    let behind : List ℕ = all_alone form alone ++ mark ∷ [] in
    let stands : all_alone form (a ∷ alone) ++ mark ∷ [] ≡ framed_alone form a ++ behind = append_assoc (framed_alone form a) (all_alone form alone) (mark ∷ []) in
    let here : ComesFirst form 0 b (framed_alone form a ++ behind) mid more = subst (λ (xs : List ℕ). ComesFirst form 0 b xs mid more) stands first in
    let (closed, rest) = one_first form greatest 0 b a (framed_alone form a ++ behind) mid 0 more behind block low high is_b is_a here (law.comes form a behind fits) in
    never_all form greatest mark alone bodies law block low high long each room all
    (subst (λ (k : ℕ). Come form k bodies behind 0 []) closed (subst (λ (xs : List ℕ). Come form mid bodies xs 0 []) rest come))

-- a record of one length that can't be read has more than one byte
cut_long : (form : Form) (greatest left : ℕ) (slice : List ℕ) (fault : RecordFault) (after : ℕ) (bytes rest : List ℕ) → ReadsInForm form greatest left slice (Err fault) after bytes rest
    → is_read_failure (Err fault) ≡ false → form ≡ Fixed → 1 < greatest
cut_long Fixed greatest left slice (Truncated seen) after bytes rest ((some, size, few, end), same) works e = omega (arith, some, size, few)
cut_long Fixed greatest left slice ReadFailed after bytes rest reads works e = absurd (cc)
cut_long Fixed greatest left slice _ after bytes rest reads works e = absurd reads.0
cut_long Variable greatest left slice fault after bytes rest reads works e = absurd (cc)
cut_long (Blocked most) greatest left slice fault after bytes rest reads works e = absurd (cc)

all_dropped : {X : Type 0} (P : X → Type 0) (n : ℕ) (xs : List X) → AllByRecursion P xs → AllByRecursion P (drop n xs)
all_dropped P zero xs all = all
all_dropped P (suc n) [] all = tt
all_dropped P (suc n) (x ∷ xs) (one, all) = all_dropped P n xs all

pub mark_ends_nothing : AloneIsOneRecord → MarkEndsNothing
mark_ends_nothing law form greatest skip stop chosen bytes rest bodies block low high works stops all come =
    never_all form greatest (fault_number stop.fault) (drop skip stops.bodies) bodies law block low high
    (cut_long form greatest stops.opened stops.slice stop.fault stops.after stops.left rest stops.reads works)
    (all_dropped (IsRecord form greatest) skip stops.bodies stops.each)
    (all_dropped (HasRoomAlone form) skip stops.bodies (law.room form stops.bodies bytes stops.opened stops.left stops.come)) all
    (subst (λ (xs : List ℕ). Come form 0 bodies (xs ++ fault_mark stop.fault) 0 []) stops.those come)
