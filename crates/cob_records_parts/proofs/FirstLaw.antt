-- What stands first in the bytes of a stream is the answer of a reading that does not fail.
use Rattle.std.proofs.Common.{◌≡◌, ◌⊎◌, ℕ, ◌+◌, ◌-◌, ◌<◌, ◌≤◌, false, nat_lt, List, [], ◌∷◌, ◌++◌, length, take, drop, None, Some, Ok, Err, Result, Option, refl, sym, ap, ◌∙◌, arith, inl, inr}
use Rattle.std.proofs.Math.ListN.{length-append}
use Rattle.std.proofs.Math.Seq.{take-append_seam, drop-append_seam}
use Rattle.std.proofs.lemmas.Grind.{common_steps}
use Rattle.cob_limits.specs.Limits.{longest_record}
use Rattle.cob_records.specs.declared.records.Form.{Form}
use Rattle.cob_records.specs.declared.records.Form.TheVariants.{Fixed, Variable, Blocked}
use Rattle.cob_records.specs.declared.records.RecordFault.{RecordFault}
use Rattle.cob_records.specs.declared.records.RecordFault.TheVariants.{Truncated, Descriptor, Spanned, Length, ReadFailed}
use Rattle.cob_records.specs.Forms.{HasBlockSize, ReadsInForm}
use Rattle.cob_records.specs.Frame.{Reads, Refuses, descriptor, framed, is_read_failure, number_in, refusal}
use Rattle.cob_records.specs.Unique.{record_in}
use Rattle.cob_records_parts.specs.Firsts.{by_refusal, first, first_fixed, first_frame_in, first_variable, in_block, leaving}
use Rattle.cob_records_parts.proofs.FirstBlocked.{comes_to, few_bytes, less, not_less, number_front, refused, whole_frame}

-- ---- records of one length

few_fixed : (greatest left : ℕ) (bytes : List ℕ) → 0 < length bytes → length bytes < greatest
    → first_fixed greatest left bytes ≡ first (Err (Truncated (length bytes))) [] left []
few_fixed greatest left [] some few = absurd (omega (arith, some))
few_fixed greatest left (b ∷ bs) some few = rw (less (length (b ∷ bs)) greatest few) refl

whole_fixed : (greatest left : ℕ) (body rest : List ℕ) → 0 < greatest → length body ≡ greatest
    → first_fixed greatest left (body ++ rest) ≡ first (Ok (Some greatest)) body left rest
whole_fixed greatest left [] rest some is = absurd (omega (arith, some, is))
whole_fixed greatest left (b ∷ bs) rest some is =
    let body : List ℕ = b ∷ bs in
    let enough : nat_lt (length (body ++ rest)) greatest ≡ false = not_less (length (body ++ rest)) greatest (omega (arith, length-append body rest, is)) in
    let front : take greatest (body ++ rest) ≡ body = ap (λ (n : ℕ). take n (body ++ rest)) (sym is) ∙ take-append_seam body rest in
    let behind : drop greatest (body ++ rest) ≡ rest = ap (λ (n : ℕ). drop n (body ++ rest)) (sym is) ∙ drop-append_seam body rest in
    rw enough (ap (λ (xs : List ℕ). first (Ok (Some greatest)) xs left (drop greatest (body ++ rest))) front
    ∙ ap (first (Ok (Some greatest)) body left) behind)

fixed : (greatest left : ℕ) (slice : List ℕ) (answer : Result (Option ℕ) RecordFault) (after : ℕ) (bytes rest : List ℕ) → 0 < greatest
    → Reads Fixed greatest slice answer bytes rest → after ≡ left → is_read_failure answer ≡ false
    → first_fixed greatest left bytes ≡ first answer (record_in slice answer) after rest
fixed greatest left slice (Ok None) after bytes rest some (none, end) same works =
    ap (first_fixed greatest left) none ∙ ap (λ (k : ℕ). first (Ok None) [] k []) (sym same) ∙ ap (first (Ok None) [] after) (sym end)
fixed greatest left slice (Ok (Some count)) after bytes rest some (within, is, frame) same works =
    let size : length (take count slice) ≡ count = grind (arith, common_steps) in
    ap (first_fixed greatest left) frame ∙ whole_fixed greatest left (take count slice) rest some is
    ∙ ap (λ (n : ℕ). first (Ok (Some n)) (take count slice) left rest) (sym is ∙ size)
    ∙ ap (λ (k : ℕ). first (Ok (Some count)) (take count slice) k rest) (sym same)
fixed greatest left slice (Err (Truncated seen)) after bytes rest some (seen_some, size, few, end) same works =
    few_fixed greatest left bytes (omega (arith, seen_some, size)) few ∙ ap (λ (n : ℕ). first (Err (Truncated n)) [] left []) size
    ∙ ap (λ (k : ℕ). first (Err (Truncated seen)) [] k []) (sym same) ∙ ap (first (Err (Truncated seen)) [] after) (sym end)
fixed greatest left slice (Err ReadFailed) after bytes rest some reads same works = absurd (cc)
fixed greatest left slice (Err _) after bytes rest some reads same works = absurd reads

-- ---- records with a descriptor

-- a frame that stands without a block
alone : (greatest left : ℕ) (bytes : List ℕ) → 0 < length bytes
    → first_variable greatest left bytes ≡ leaving left (in_block greatest (4 + number_in bytes) 0 bytes)
alone greatest left [] some = absurd (omega (arith, some))
alone greatest left (b ∷ bs) some = refl

nothing_led : (bytes : List ℕ) → first (Err (Truncated (0 + length bytes))) [] 0 [] ≡ first (Err (Truncated (length bytes))) [] 0 []
nothing_led bytes = ap (λ (n : ℕ). first (Err (Truncated n)) [] 0 []) (omega arith)

cut_variable : (greatest : ℕ) (bytes : List ℕ) → refusal greatest (take 4 bytes) ≡ None → 4 ≤ length bytes → length bytes < number_in bytes
    → in_block greatest (4 + number_in bytes) 0 bytes ≡ first (Err (Truncated (length bytes))) [] 0 []
cut_variable greatest bytes none four few =
    let room : ℕ = 4 + number_in bytes in
    let n : ℕ = number_in bytes - 4 in
    let opens : in_block greatest room 0 bytes ≡ by_refusal room 0 bytes (refusal greatest (take 4 bytes)) =
    rw (not_less room 4 (omega arith), not_less (length bytes) 4 four) refl in
    opens ∙ ap (by_refusal room 0 bytes) none
    ∙ rw (not_less room (4 + n) (omega arith), less (length bytes) (4 + n) (omega (arith, four, few))) (nothing_led bytes)

refused_variable : (greatest left : ℕ) (fault : RecordFault) (bytes rest : List ℕ) → Refuses Variable greatest fault bytes rest
    → first_variable greatest left bytes ≡ first (Err fault) [] left rest
refused_variable greatest left fault bytes rest (head, size, is, same) =
    alone greatest left bytes (omega (arith, ap length same, length-append head rest, size))
    ∙ ap (leaving left) (refused greatest (4 + number_in bytes) 0 fault head bytes rest (omega arith) size is same)

at_left : (fault : RecordFault) (left after : ℕ) (rest : List ℕ) → after ≡ left → first (Err fault) [] left rest ≡ first (Err fault) [] after rest
at_left fault left after rest same = ap (λ (k : ℕ). first (Err fault) [] k rest) (sym same)

variable : (greatest left : ℕ) (slice : List ℕ) (answer : Result (Option ℕ) RecordFault) (after : ℕ) (bytes rest : List ℕ) → greatest ≤ 32752
    → Reads Variable greatest slice answer bytes rest → after ≡ left → is_read_failure answer ≡ false
    → first_variable greatest left bytes ≡ first answer (record_in slice answer) after rest
variable greatest left slice (Ok None) after bytes rest high (none, end) same works =
    ap (first_variable greatest left) none ∙ ap (λ (k : ℕ). first (Ok None) [] k []) (sym same) ∙ ap (first (Ok None) [] after) (sym end)
variable greatest left slice (Ok (Some count)) after bytes rest high (within, (some, most), frame) same works =
    let body : List ℕ = take count slice in
    let size : length (take count slice) ≡ count = grind (arith, common_steps) in
    let number : number_in bytes ≡ 4 + length body =
    ap number_in frame ∙ number_front (length body) (body ++ rest) (omega (arith, high, most)) in
    alone greatest left bytes (omega (arith, ap length frame, length-append (framed Variable body) rest, length-append (descriptor (length body)) body))
    ∙ ap (leaving left) (whole_frame greatest (4 + number_in bytes) 0 4 bytes body rest some most high (omega (arith, number)) frame)
    ∙ ap (λ (n : ℕ). first (Ok (Some n)) body left rest) size ∙ ap (λ (k : ℕ). first (Ok (Some count)) body k rest) (sym same)
variable greatest left slice (Err (Truncated seen)) after bytes rest high (some, size, cut, end) same works =
    alone greatest left bytes (omega (arith, some, size)) ∙ ap (leaving left) (cut_at cut)
    ∙ ap (λ (n : ℕ). first (Err (Truncated n)) [] left []) size ∙ at_left (Truncated seen) left after [] same
    ∙ ap (first (Err (Truncated seen)) [] after) (sym end)
  where
    cut_at : (length bytes < 4) ⊎ ((refusal greatest (take 4 bytes) ≡ None) × (4 ≤ length bytes) × (length bytes < number_in bytes))
        → in_block greatest (4 + number_in bytes) 0 bytes ≡ first (Err (Truncated (length bytes))) [] 0 []
    cut_at (inl few) = few_bytes greatest (4 + number_in bytes) 0 bytes (omega arith) few ∙ nothing_led bytes
    cut_at (inr (none, four, few)) = cut_variable greatest bytes none four few
variable greatest left slice (Err Descriptor) after bytes rest high reads same works =
    refused_variable greatest left Descriptor bytes rest reads ∙ at_left Descriptor left after rest same
variable greatest left slice (Err Spanned) after bytes rest high reads same works =
    refused_variable greatest left Spanned bytes rest reads ∙ at_left Spanned left after rest same
variable greatest left slice (Err Length) after bytes rest high reads same works =
    refused_variable greatest left Length bytes rest reads ∙ at_left Length left after rest same
variable greatest left slice (Err ReadFailed) after bytes rest high reads same works = absurd (cc)
variable greatest left slice (Err _) after bytes rest high reads same works = absurd reads

-- ---- in any form

pub first_is : (form : Form) (greatest left : ℕ) (slice : List ℕ) (answer : Result (Option ℕ) RecordFault) (after : ℕ) (bytes rest : List ℕ)
    → HasBlockSize form → 0 < greatest → greatest ≤ longest_record → ReadsInForm form greatest left slice answer after bytes rest
    → is_read_failure answer ≡ false → first_frame_in form greatest left bytes ≡ first answer (record_in slice answer) after rest
first_is Fixed greatest left slice answer after bytes rest block some high (reads, same) works =
    fixed greatest left slice answer after bytes rest some reads same works
first_is Variable greatest left slice answer after bytes rest block some high (reads, same) works =
    variable greatest left slice answer after bytes rest high reads same works
first_is (Blocked size) greatest left slice answer after bytes rest (low, most) some high reads works =
    comes_to size greatest left slice answer after bytes rest most high reads works
