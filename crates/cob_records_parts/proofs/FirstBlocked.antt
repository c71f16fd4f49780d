-- What stands first in blocks is the answer of a reading that does not fail.
use Rattle.std.proofs.Common.{◌≡◌, ◌⊎◌, ℕ, zero, suc, ◌+◌, ◌-◌, ◌<◌, ◌≤◌, true, false, nat_lt, List, [], ◌∷◌, ◌++◌, length, take, drop, None, Some, Ok, Err, Result, Option, refl, sym, ap, ◌∙◌, arith, inl, inr}
use Rattle.std.proofs.Math.ListN.{length-append}
use Rattle.std.proofs.Math.Seq.{take-append_seam, drop-append_seam}
use Rattle.std.proofs.lemmas.Bool.Decides.{nat_tests}
use Rattle.std.proofs.lemmas.Grind.{common_steps}
use Rattle.cob_records.specs.declared.records.Form.TheVariants.{Variable}
use Rattle.cob_records.specs.declared.records.RecordFault.{RecordFault}
use Rattle.cob_records.specs.declared.records.RecordFault.TheVariants.{Truncated, Descriptor, Spanned, Length, ReadFailed, WriteFailed, TookNothing, BlockDescriptor, PastBlock}
use Rattle.cob_records.specs.Frame.{descriptor, framed, is_read_failure, number_in, refusal}
use Rattle.cob_records.specs.Unique.{record_in}
use Rattle.cob_records.specs.BlockReads.{IsCutFrame, Leads, PassesBlock, ReadsInBlock, RefusesInBlock, is_no_block}
use Rattle.cob_records_parts.specs.Firsts.{by_refusal, first, first_blocked, in_block, of_frame}

-- ---- tests

pub less : (a b : ℕ) → a < b → nat_lt a b ≡ true
less a b h = grind (arith, nat_tests)

pub not_less : (a b : ℕ) → b ≤ a → nat_lt a b ≡ false
not_less a b h = grind (arith, nat_tests)

front_four : (head rest : List ℕ) → length head ≡ 4 → (take 4 (head ++ rest) ≡ head) × (drop 4 (head ++ rest) ≡ rest)
front_four head rest e = (
  ap (λ (n : ℕ). take n (head ++ rest)) (sym e) ∙ take-append_seam head rest,
  ap (λ (n : ℕ). drop n (head ++ rest)) (sym e) ∙ drop-append_seam head rest,
)

pub number_front : (n : ℕ) (rest : List ℕ) → 4 + n < 65536 → number_in (descriptor n ++ rest) ≡ 4 + n
number_front n rest h = omega arith

-- a record's descriptor is not refused
refusal-descriptor : (greatest n : ℕ) → 0 < n → n ≤ greatest → greatest ≤ 32752 → refusal greatest (descriptor n) ≡ None
refusal-descriptor greatest n low high most = grind (arith, nat_tests)

-- ---- frames

small_room : (greatest room lead : ℕ) (part : List ℕ) → room < 4 → in_block greatest room lead part ≡ first (Err PastBlock) [] 0 part
small_room greatest room lead part h = rw (less room 4 h) refl

pub few_bytes : (greatest room lead : ℕ) (part : List ℕ) → 4 ≤ room → length part < 4 → in_block greatest room lead part ≡ first (Err (Truncated (lead + length part))) [] 0 []
few_bytes greatest room lead part h k = rw (not_less room 4 h, less (length part) 4 k) refl

pub refused : (greatest room lead : ℕ) (fault : RecordFault) (head part rest : List ℕ) → 4 ≤ room → length head ≡ 4 → refusal greatest head ≡ Some fault → part ≡ head ++ rest
    → in_block greatest room lead part ≡ first (Err fault) [] 0 rest
refused greatest room lead fault head part rest four size is e =
    let (front, behind) = front_four head rest size in
    let long : 4 ≤ length (head ++ rest) = omega (arith, length-append head rest, size) in
    let opens : in_block greatest room lead (head ++ rest) ≡ by_refusal room lead (head ++ rest) (refusal greatest (take 4 (head ++ rest))) =
    rw (not_less room 4 four, not_less (length (head ++ rest)) 4 long) refl in
    ap (in_block greatest room lead) e ∙ opens ∙ ap (λ (x : List ℕ). by_refusal room lead (head ++ rest) (refusal greatest x)) front
    ∙ ap (by_refusal room lead (head ++ rest)) is ∙ ap (first (Err fault) [] 0) behind

accepted : (greatest room lead n : ℕ) (part behind : List ℕ) → 4 ≤ room → 0 < n → n ≤ greatest → greatest ≤ 32752 → part ≡ descriptor n ++ behind
    → in_block greatest room lead part ≡ of_frame room lead n (descriptor n ++ behind)
accepted greatest room lead n part behind four low high most e =
    let (front, rest) = front_four (descriptor n) behind refl in
    let long : 4 ≤ length (descriptor n ++ behind) = omega arith in
    let opens : in_block greatest room lead (descriptor n ++ behind) ≡ by_refusal room lead (descriptor n ++ behind) (refusal greatest (take 4 (descriptor n ++ behind))) =
    rw (not_less room 4 four, not_less (length (descriptor n ++ behind)) 4 long) refl in
    let none : refusal greatest (descriptor n) ≡ None = refusal-descriptor greatest n low high most in
    let number : number_in (descriptor n ++ behind) - 4 ≡ n = omega (arith, number_front n behind (omega (arith, high, most))) in
    ap (in_block greatest room lead) e ∙ opens ∙ ap (λ (x : List ℕ). by_refusal room lead (descriptor n ++ behind) (refusal greatest x)) front
    ∙ ap (by_refusal room lead (descriptor n ++ behind)) none ∙ ap (λ (k : ℕ). of_frame room lead k (descriptor n ++ behind)) number

pub past_block : (greatest room lead n : ℕ) (part rest : List ℕ) → 4 ≤ room → 0 < n → n ≤ greatest → greatest ≤ 32752 → room < 4 + n → part ≡ descriptor n ++ rest
    → in_block greatest room lead part ≡ first (Err PastBlock) [] 0 rest
past_block greatest room lead n part rest four low high most past e =
    accepted greatest room lead n part rest four low high most e ∙ rw (less room (4 + n) past) (ap (first (Err PastBlock) [] 0) (front_four (descriptor n) rest refl).1)

cut_frame : (greatest room lead n : ℕ) (part behind : List ℕ) → 0 < n → n ≤ greatest → greatest ≤ 32752 → 4 + n ≤ room → part ≡ descriptor n ++ behind → length behind < n
    → in_block greatest room lead part ≡ first (Err (Truncated (lead + length part))) [] 0 []
cut_frame greatest room lead n part behind low high most fits e short =
    let less_than : nat_lt (length (descriptor n ++ behind)) (4 + n) ≡ true = less (length (descriptor n ++ behind)) (4 + n) (omega arith) in
    accepted greatest room lead n part behind (omega (arith, fits)) low high most e
    ∙ rw (not_less room (4 + n) fits, less_than) (ap (λ (xs : List ℕ). first (Err (Truncated (lead + length xs))) [] 0 []) (sym e))

pub whole_frame : (greatest room lead after : ℕ) (part body rest : List ℕ) → 0 < length body → length body ≤ greatest → greatest ≤ 32752 → room ≡ 4 + length body + after
    → part ≡ framed Variable body ++ rest → in_block greatest room lead part ≡ first (Ok (Some (length body))) body after rest
whole_frame greatest room lead after part body rest low high most e is =
    let n : ℕ = length body in
    let there : part ≡ descriptor n ++ (body ++ rest) = is in
    let enough : nat_lt (length (descriptor n ++ (body ++ rest))) (4 + n) ≡ false = not_less (length (descriptor n ++ (body ++ rest))) (4 + n) (omega (arith, length-append body rest)) in
    let behind : drop 4 (descriptor n ++ (body ++ rest)) ≡ body ++ rest = (front_four (descriptor n) (body ++ rest) refl).1 in
    let left : room - (4 + n) ≡ after = omega (arith, e) in
    let parts : first (Ok (Some n)) (take n (drop 4 (descriptor n ++ (body ++ rest)))) (room - (4 + n)) (drop n (drop 4 (descriptor n ++ (body ++ rest)))) ≡ first (Ok (Some n)) body after rest =
    ap (λ (xs : List ℕ). first (Ok (Some n)) (take n xs) (room - (4 + n)) (drop n xs)) behind
    ∙ ap (λ (xs : List ℕ). first (Ok (Some n)) xs (room - (4 + n)) (drop n (body ++ rest))) (take-append_seam body rest)
    ∙ ap (λ (k : ℕ). first (Ok (Some n)) body k (drop n (body ++ rest))) left
    ∙ ap (first (Ok (Some n)) body after) (drop-append_seam body rest) in
    accepted greatest room lead n part (body ++ rest) (omega (arith, e, low)) low high most there ∙ rw (not_less room (4 + n) (omega (arith, e)), enough) parts

-- ---- blocks

block_there : (most room : ℕ) → 4 ≤ room → 4 + room ≤ most → most ≤ 32760 → is_no_block most (descriptor room) ≡ false
block_there most room low high small = grind (arith, nat_tests)

-- where a block's descriptor stands first
opened : (most greatest room : ℕ) (bytes part : List ℕ) → most ≤ 32760 → 4 ≤ room → 4 + room ≤ most → bytes ≡ descriptor room ++ part
    → first_blocked most greatest 0 bytes ≡ in_block greatest room 4 part
opened most greatest room bytes part small low high e =
    let behind : drop 4 (descriptor room ++ part) ≡ part = (front_four (descriptor room) part refl).1 in
    let front : take 4 (descriptor room ++ part) ≡ descriptor room = (front_four (descriptor room) part refl).0 in
    let long : nat_lt (length (descriptor room ++ part)) 4 ≡ false = not_less (length (descriptor room ++ part)) 4 (omega arith) in
    let there : is_no_block most (take 4 (descriptor room ++ part)) ≡ false = ap (is_no_block most) front ∙ block_there most room low high small in
    let number : number_in (descriptor room ++ part) - 4 ≡ room = omega (arith, number_front room part (omega (arith, high, small))) in
    ap (first_blocked most greatest 0) e ∙ rw (long, there) refl ∙ ap (λ (k : ℕ). in_block greatest k 4 (drop 4 (descriptor room ++ part))) number ∙ ap (in_block greatest room 4) behind

-- behind what leads, a frame is one of a block
pub led : (most greatest left room : ℕ) (bytes lead part : List ℕ) → most ≤ 32760 → Leads most left room lead → bytes ≡ lead ++ part
    → (first_blocked most greatest left bytes ≡ in_block greatest room (length lead) part) × (length bytes ≡ length lead + length part)
led most greatest zero room bytes lead part small (is, low, high) e =
    let all : bytes ≡ descriptor room ++ part = e ∙ ap (λ (xs : List ℕ). xs ++ part) is in
    let four : length lead ≡ 4 = ap length is in
    (opened most greatest room bytes part small low high all ∙ ap (λ (k : ℕ). in_block greatest room k part) (sym four), ap length e ∙ length-append lead part)
led most greatest (suc n) room bytes lead part small (is, same) e =
    let all : bytes ≡ part = e ∙ ap (λ (xs : List ℕ). xs ++ part) is in
    let none : length lead ≡ 0 = ap length is in
    (ap (first_blocked most greatest (suc n)) all ∙ ap (λ (k : ℕ). in_block greatest k 0 part) (sym same) ∙ ap (λ (k : ℕ). in_block greatest room k part) (sym none), ap length e ∙ length-append lead part)

truncated_at : (n m : ℕ) → n ≡ m → first (Err (Truncated n)) [] 0 [] ≡ first (Err (Truncated m)) [] 0 []
truncated_at n m e = ap (λ (k : ℕ). first (Err (Truncated k)) [] 0 []) e

refuses : (most greatest left : ℕ) (fault : RecordFault) (bytes rest : List ℕ) → most ≤ 32760 → RefusesInBlock most greatest left fault bytes rest
    → first_blocked most greatest left bytes ≡ first (Err fault) [] 0 rest
refuses most greatest left fault bytes rest small (room, lead, head, leads, four, size, is, e) =
    (led most greatest left room bytes lead (head ++ rest) small leads e).0 ∙ refused greatest room (length lead) fault head (head ++ rest) rest four size is refl

-- a reading comes to this
pub comes_to : (most greatest left : ℕ) (slice : List ℕ) (answer : Result (Option ℕ) RecordFault) (after : ℕ) (bytes rest : List ℕ) → most ≤ 32760 → greatest ≤ 32752
    → ReadsInBlock most greatest left slice answer after bytes rest → is_read_failure answer ≡ false → first_blocked most greatest left bytes ≡ first answer (record_in slice answer) after rest
comes_to most greatest left slice (Ok None) after bytes rest small fits (none, done, is, end) works =
    ap (λ (k : ℕ). first_blocked most greatest k bytes) none ∙ ap (first_blocked most greatest 0) is ∙ ap (λ (k : ℕ). first (Ok None) [] k []) (sym done) ∙ ap (first (Ok None) [] after) (sym end)
comes_to most greatest left slice (Ok (Some count)) after bytes rest small fits (within, (low, high), (room, lead, leads, is, left_is)) works =
    let size : length (take count slice) ≡ count = grind (arith, common_steps) in
    (led most greatest left room bytes lead (framed Variable (take count slice) ++ rest) small leads is).0
    ∙ whole_frame greatest room (length lead) after (framed Variable (take count slice) ++ rest) (take count slice) rest low high fits left_is refl
    ∙ ap (λ (k : ℕ). first (Ok (Some k)) (take count slice) after rest) size
comes_to most greatest left slice (Err (Truncated seen)) after bytes rest small fits (done, some, size, cut, end) works =
    cut_at cut ∙ truncated_at (length bytes) seen size ∙ ap (λ (k : ℕ). first (Err (Truncated seen)) [] k []) (sym done) ∙ ap (first (Err (Truncated seen)) [] after) (sym end)
  where
    few : (bytes : List ℕ) → 0 < length bytes → length bytes < 4 → first_blocked most greatest 0 bytes ≡ first (Err (Truncated (length bytes))) [] 0 []
    few [] low high = absurd (omega (arith, low))
    few (b ∷ bs) low high = rw (less (length (b ∷ bs)) 4 high) refl

    cut_at : ((left ≡ 0) × (length bytes < 4))
        ⊎ ((room : ℕ) × (lead part : List ℕ) × Leads most left room lead × (4 ≤ room) × (bytes ≡ lead ++ part) × IsCutFrame greatest room part)
        → first_blocked most greatest left bytes ≡ first (Err (Truncated (length bytes))) [] 0 []
    cut_at (inl (none, short)) = ap (λ (k : ℕ). first_blocked most greatest k bytes) none ∙ few bytes (omega (arith, some none, size)) short
    cut_at (inr (room, lead, part, leads, four, is, inl short)) =
        let (begins, long) = led most greatest left room bytes lead part small leads is in
        begins ∙ few_bytes greatest room (length lead) part four short ∙ truncated_at (length lead + length part) (length bytes) (sym long)
    cut_at (inr (room, lead, part, leads, four, is, inr (n, behind, low, high, holds, same, short))) =
        let (begins, long) = led most greatest left room bytes lead part small leads is in
        begins ∙ cut_frame greatest room (length lead) n part behind low high fits holds same short ∙ truncated_at (length lead + length part) (length bytes) (sym long)
comes_to most greatest left slice (Err BlockDescriptor) after bytes rest small fits (done, none, (head, size, is, e)) works =
    ap (λ (k : ℕ). first_blocked most greatest k bytes) none ∙ ap (first_blocked most greatest 0) e ∙ no_block head size is ∙ ap (λ (k : ℕ). first (Err BlockDescriptor) [] k rest) (sym done)
  where
    no_block : (head : List ℕ) → length head ≡ 4 → is_no_block most head ≡ true → first_blocked most greatest 0 (head ++ rest) ≡ first (Err BlockDescriptor) [] 0 rest
    no_block [] size is = absurd (omega (arith, size))
    no_block (b ∷ bs) size is =
        let (front, behind) = front_four (b ∷ bs) rest size in
        let long : nat_lt (length ((b ∷ bs) ++ rest)) 4 ≡ false = not_less (length ((b ∷ bs) ++ rest)) 4 (omega (arith, size, length-append (b ∷ bs) rest)) in
        let there : is_no_block most (take 4 ((b ∷ bs) ++ rest)) ≡ true = ap (is_no_block most) front ∙ is in
        rw (long, there) (ap (first (Err BlockDescriptor) [] 0) behind)
comes_to most greatest left slice (Err PastBlock) after bytes rest small fits (done, (room, lead, part, leads, is, passes)) works =
    (led most greatest left room bytes lead part small leads is).0 ∙ past_at passes ∙ ap (λ (k : ℕ). first (Err PastBlock) [] k rest) (sym done)
  where
    past_at : PassesBlock greatest room part rest → in_block greatest room (length lead) part ≡ first (Err PastBlock) [] 0 rest
    past_at (inl (low, same)) = small_room greatest room (length lead) part low ∙ ap (first (Err PastBlock) [] 0) (sym same)
    past_at (inr (n, low, high, past, four, same)) = past_block greatest room (length lead) n part rest four low high fits past same
comes_to most greatest left slice (Err Descriptor) after bytes rest small fits (done, h) works =
    refuses most greatest left Descriptor bytes rest small h ∙ ap (λ (k : ℕ). first (Err Descriptor) [] k rest) (sym done)
comes_to most greatest left slice (Err Spanned) after bytes rest small fits (done, h) works =
    refuses most greatest left Spanned bytes rest small h ∙ ap (λ (k : ℕ). first (Err Spanned) [] k rest) (sym done)
comes_to most greatest left slice (Err Length) after bytes rest small fits (done, h) works =
    refuses most greatest left Length bytes rest small h ∙ ap (λ (k : ℕ). first (Err Length) [] k rest) (sym done)
comes_to most greatest left slice (Err ReadFailed) after bytes rest small fits h works = absurd (cc)
comes_to most greatest left slice (Err (WriteFailed taken)) after bytes rest small fits h works = absurd h
comes_to most greatest left slice (Err (TookNothing taken)) after bytes rest small fits h works = absurd h
