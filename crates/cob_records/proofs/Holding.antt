-- How many whole frames stand at the front of what has passed.
use Rattle.std.proofs.Common.{◌≡◌, ◌∙◌, ℕ, zero, suc, ◌+◌, ◌<◌, ◌≤◌, true, false, List, [], ◌∷◌, ◌++◌, length, take, sym, ap, subst, append-nil, arith}
use Rattle.std.proofs.lemmas.Grind.{common_steps}
use Rattle.std.proofs.lemmas.Bool.Decides.{nat_tests}
use Rattle.std.proofs.Math.ListN.{length-append}
use Rattle.cob_records.specs.declared.records.Form.{Form}
use Rattle.cob_records.specs.declared.records.Form.TheVariants.{Fixed, Variable, Blocked}
use Rattle.cob_records.specs.declared.place.StreamPlace.{StreamPlace}
use Rattle.cob_records.specs.declared.place.StreamPlace.TheVariants as place
use Rattle.cob_limits.specs.Limits.{longest_record}
use Rattle.cob_records.specs.BlockReads.{Leads}
use Rattle.cob_records.specs.Forms.{HasBlockSize}
use Rattle.cob_records.specs.Frame.{descriptor, framed, is_unblocked, number_in}
use Rattle.cob_records.specs.Place.{is_place}
use Rattle.cob_records.specs.Progress.{BeginsWithFrame, IsAt, IsBefore, IsBegun}
use Rattle.cob_records.proofs.BlockUnique.{number_front}

-- how many bytes lead to a record's descriptor: those of a block's, where no block is open
abbrev lead_length : ℕ → ℕ
lead_length zero = 4
lead_length (suc n) = 0

lead_size : (most left room : ℕ) (lead : List ℕ) → Leads most left room lead → length lead ≡ lead_length left
lead_size most zero room lead leads = ap length leads.0
lead_size most (suc n) room lead leads = ap length leads.0

-- two descriptors that begin the same bytes are one
same_descriptor : (n m : ℕ) (xs ys : List ℕ) → 4 + n < 65536 → 4 + m < 65536 → descriptor n ++ xs ≡ descriptor m ++ ys → n ≡ m
same_descriptor n m xs ys small few same =
    let numbers : 4 + n ≡ 4 + m = sym (number_front n xs small) ∙ ap number_in same ∙ number_front m ys few in omega (arith, numbers)

-- what leads to a record's descriptor is one
same_lead : (most left room other : ℕ) (lead front xs ys : List ℕ) → most ≤ 32760 → Leads most left room lead → Leads most left other front → lead ++ xs ≡ front ++ ys
    → lead ≡ front
same_lead most zero room other lead front xs ys small (is, low, high) (also, least, great) same =
    let rooms : room ≡ other = same_descriptor room other xs ys (omega (arith, small, high)) (omega (arith, small, great)) (ap (λ zs. zs ++ xs) (sym is) ∙ same ∙ ap (λ zs. zs ++ ys) also) in
    is ∙ ap descriptor rooms ∙ sym also
same_lead most (suc n) room other lead front xs ys small (is, size) (also, great) same = is ∙ sym also

cut_front : (lead xs ys : List ℕ) → lead ++ xs ≡ lead ++ ys → xs ≡ ys
cut_front [] xs ys same = same
cut_front (b ∷ bs) xs ys same = cut_front bs xs ys cc

-- a frame of a record doesn't stand where only a part of it does
cut_record : (greatest size n : ℕ) (part body more : List ℕ) → greatest ≤ longest_record → 0 < n → size ≤ greatest → length part + n ≡ size → length body ≤ greatest
    → descriptor size ++ part ≡ framed Variable body ++ more → ⊥
cut_record greatest size n part body more fits low high sum most same =
    let sizes : size ≡ length body = same_descriptor size (length body) part (body ++ more) (omega (arith, fits, high)) (omega (arith, fits, most)) same in
    omega (arith, sizes, sum, low, ap length same, length-append (descriptor size) part, length-append (framed Variable body) more, length-append (descriptor (length body)) body)

-- a block's descriptor doesn't hold a frame
block_cut : (form : Form) (greatest left seen : ℕ) (head rest : List ℕ) → left ≡ 0 → is_unblocked form ≡ false → length head ≡ 4 → seen < 4 → rest ≡ take seen head
    → BeginsWithFrame form greatest left rest → ⊥
block_cut Fixed greatest left seen head rest none blocked size few is begins = absurd cc
block_cut Variable greatest left seen head rest none blocked size few is begins = absurd cc
block_cut (Blocked most) greatest left seen head rest none blocked size few is (body, after, more, whole, (room, lead, leads, same, fit)) =
    let leading : length lead ≡ 4 = lead_size most left room lead leads ∙ ap lead_length none in
    let seen_is : length (take seen head) ≡ seen = grind (arith, common_steps) in
    omega (arith, leading, few, seen_is, ap length is, ap length same, length-append lead (framed Variable body ++ more))

-- neither does a part of a record's descriptor
descriptor_cut : (form : Form) (greatest left room seen : ℕ) (head lead rest : List ℕ) → length head ≡ 4 → seen < 4 → IsBefore form left room lead → rest ≡ lead ++ take seen head
    → BeginsWithFrame form greatest left rest → ⊥
descriptor_cut Fixed greatest left room seen head lead rest size few before is begins = absurd before
descriptor_cut Variable greatest left room seen head lead rest size few (none, same) is (body, after, more, whole, (frame, kept)) =
    let seen_is : length (take seen head) ≡ seen = grind (arith, common_steps) in
    omega (arith, few, seen_is, ap length none, ap length is, length-append lead (take seen head), ap length frame, length-append (framed Variable body) more)
descriptor_cut (Blocked most) greatest left room seen head lead rest size few (leads, four) is (body, after, more, whole, (other, front, fronts, same, fit)) =
    let seen_is : length (take seen head) ≡ seen = grind (arith, common_steps) in
    omega (
      arith,
      few,
      seen_is,
      lead_size most left room lead leads,
      lead_size most left other front fronts,
      ap length is,
      length-append lead (take seen head),
      ap length same,
      length-append front (framed Variable body ++ more),
      length-append (framed Variable body) more,
    )

-- nor a part of a record
record_cut : (form : Form) (greatest left n after : ℕ) (rest : List ℕ) → HasBlockSize form → greatest ≤ longest_record → 0 < n → IsBegun form greatest left n after rest
    → BeginsWithFrame form greatest left rest → ⊥
record_cut Fixed greatest left n after rest block fits low (sum, same) (body, later, more, whole, (frame, kept)) =
    omega (arith, low, sum, whole, ap length frame, length-append body more)
record_cut Variable greatest left n after rest block fits low (room, size, lead, part, (none, same), some, high, is, sum, within) (body, later, more, (least, most), (frame, kept)) =
    cut_record greatest size n part body more fits low high sum most (ap (λ xs. xs ++ (descriptor size ++ part)) (sym none) ∙ sym is ∙ frame)
record_cut (Blocked top) greatest left n after rest block fits low (room, size, lead, part, (leads, four), some, high, is, sum, within) (body, later, more, (least, most), (other, front, fronts, frame, fit)) =
    let both : lead ++ (descriptor size ++ part) ≡ front ++ (framed Variable body ++ more) = sym is ∙ frame in
    let one : lead ≡ front = same_lead top left room other lead front (descriptor size ++ part) (framed Variable body ++ more) block.1 leads fronts both in
    cut_record greatest size n part body more fits low high sum most
    (cut_front lead (descriptor size ++ part) (framed Variable body ++ more) (both ∙ ap (λ xs. xs ++ (framed Variable body ++ more)) (sym one)))

-- behind the last whole frame none stands
pub no_more : (form : Form) (greatest left : ℕ) (at : StreamPlace) (rest : List ℕ) → HasBlockSize form → greatest ≤ longest_record → is_place at ≡ true
    → IsAt form greatest left at rest → BeginsWithFrame form greatest left rest → ⊥
no_more form greatest left (place.Block head seen) rest block fits within (none, blocked, is) begins =
    let (size, few) = block_place head seen within in block_cut form greatest left seen head rest none blocked size few is begins
  where
    block_place : (head : List ℕ) (seen : ℕ) → is_place (place.Block head seen) ≡ true → (length head ≡ 4) × (seen < 4)
    block_place head seen e = grind (arith, nat_tests)
no_more form greatest left (place.Descriptor head seen room) rest block fits within (lead, before, is) begins =
    let (size, few) = descriptor_place head seen room within in descriptor_cut form greatest left room seen head lead rest size few before is begins
  where
    descriptor_place : (head : List ℕ) (seen room : ℕ) → is_place (place.Descriptor head seen room) ≡ true → (length head ≡ 4) × (seen < 4)
    descriptor_place head seen room e = grind (arith, nat_tests)
no_more form greatest left (place.Record n after) rest block fits within begun begins =
    record_cut form greatest left n after rest block fits (record_place n after within) begun begins
  where
    record_place : (n after : ℕ) → is_place (place.Record n after) ≡ true → 0 < n
    record_place n after e = grind (arith, nat_tests)
no_more form greatest left place.Lost rest block fits within lost begins = lost [] (subst (BeginsWithFrame form greatest left) (sym (append-nil rest)) begins)
