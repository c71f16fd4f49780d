-- Where no frame comes any more: behind what is refused, or does not fit into its block.
use Rattle.std.proofs.Common.{◌≡◌, ◌∙◌, ℕ, ◌+◌, ◌<◌, ◌≤◌, List, [], ◌∷◌, ◌++◌, length, take, slice_set, refl, sym, ap, subst, append_assoc, append-nil, arith, Some, Ok, Err}
use Rattle.std.proofs.lemmas.Grind.{common_steps}
use Rattle.cob_limits.specs.Limits.{longest_block, longest_record}
use Rattle.cob_records.specs.declared.records.Form.{Form}
use Rattle.cob_records.specs.declared.records.Form.TheVariants.{Fixed, Variable, Blocked}
use Rattle.cob_records.specs.declared.records.RecordFault.{RecordFault}
use Rattle.cob_records.specs.declared.records.RecordFault.TheVariants.{PastBlock}
use Rattle.cob_records.specs.BlockReads.{ComesInBlock, Leads, ReadsInBlock}
use Rattle.cob_records.specs.Forms.{HasBlockSize}
use Rattle.cob_records.specs.Frame.{IsRecord, descriptor}
use Rattle.cob_records.specs.Progress.{BeginsWithFrame, IsBefore, IsBegun, IsLost, IsPast, IsWithin}
use Rattle.cob_records.proofs.BlockUnique.{Outcome, comes_to, led, next, outcome, past_block}

-- a frame that comes first is read
read_first : (most greatest left after : ℕ) (body bytes rest : List ℕ) → IsRecord Variable greatest body → ComesInBlock most left body bytes after rest
    → ReadsInBlock most greatest left body (Ok (Some (length body))) after bytes rest
read_first most greatest left after body bytes rest is comes =
    let whole : take (length body) body ≡ body = grind (arith, common_steps) in rw whole (omega arith, is, comes)

-- what comes to a fault begins with no frame
no_frame : (most greatest left : ℕ) (fault : RecordFault) (bytes rest : List ℕ) → most ≤ longest_block → greatest ≤ longest_record
    → next most greatest left bytes ≡ outcome (Err fault) [] 0 rest → BeginsWithFrame (Blocked most) greatest left bytes → ⊥
no_frame most greatest left fault bytes rest small fits refused (body, after, more, is, first) =
    let read = comes_to most greatest left body (Ok (Some (length body))) after bytes more small fits (read_first most greatest left after body bytes more is first) refl in
    let same = ap (λ (o : Outcome). o.answer) (sym refused ∙ read) in cc

-- a frame that is longer than the rest of its block
pub passed_lost : (most greatest left room size : ℕ) (lead head : List ℕ) → most ≤ longest_block → greatest ≤ longest_record → Leads most left room lead → 4 ≤ room
    → head ≡ descriptor size → 0 < size → size ≤ greatest → room < 4 + size → IsLost (Blocked most) greatest left (lead ++ head)
passed_lost most greatest left room size lead head small fits leads four is low high past more =
    no_frame most greatest left PastBlock ((lead ++ head) ++ more) more small fits
    ((led most greatest left room ((lead ++ head) ++ more) lead (head ++ more) small leads (append_assoc lead head more)).0
    ∙ past_block greatest room (length lead) size (head ++ more) more four low high fits past (ap (λ xs. xs ++ more) is))

pub past_lost : (form : Form) (greatest left room size : ℕ) (lead head : List ℕ) → greatest ≤ longest_record → HasBlockSize form → IsBefore form left room lead
    → head ≡ descriptor size → 0 < size → size ≤ greatest → IsPast form size room → IsLost form greatest left (lead ++ head)
past_lost Fixed greatest left room size lead head fits block before is low high past = absurd past
past_lost Variable greatest left room size lead head fits block before is low high past = absurd past
past_lost (Blocked most) greatest left room size lead head fits block (leads, four) is low high past =
    passed_lost most greatest left room size lead head block.1 fits leads four is low high past

-- ---- behind the last byte of a descriptor

-- the byte behind those of a descriptor that were seen
pub byte_more : (seen byte : ℕ) (lead bytes head now : List ℕ) → bytes ≡ lead ++ take seen head → take seen head ++ byte ∷ [] ≡ now → bytes ++ byte ∷ [] ≡ lead ++ now
byte_more seen byte lead bytes head now is whole =
    ap (λ xs. xs ++ byte ∷ []) is ∙ append_assoc lead (take seen head) (byte ∷ []) ∙ ap (λ xs. lead ++ xs) whole

-- the last byte of a descriptor makes it whole
pub set_last : (seen byte : ℕ) (head : List ℕ) → seen < 4 → 4 ≤ seen + 1 → length head ≡ 4 → take seen head ++ byte ∷ [] ≡ slice_set head seen byte
set_last seen byte [] few last size = absurd (omega (arith, size))
set_last seen byte (a ∷ []) few last size = absurd (omega (arith, size))
set_last seen byte (a ∷ b ∷ []) few last size = absurd (omega (arith, size))
set_last seen byte (a ∷ b ∷ c ∷ []) few last size = absurd (omega (arith, size))
set_last seen byte (a ∷ b ∷ c ∷ d ∷ []) few last size =
    let three : seen ≡ 3 = omega (arith, few, last) in
    subst (λ (n : ℕ). take n (a ∷ b ∷ c ∷ d ∷ []) ++ byte ∷ [] ≡ slice_set (a ∷ b ∷ c ∷ d ∷ []) n byte) (sym three) refl
set_last seen byte (a ∷ b ∷ c ∷ d ∷ e ∷ es) few last size = absurd (omega (arith, size))

-- behind that of a block a record's descriptor is to come
pub block_opens : (form : Form) (most left room : ℕ) (lead : List ℕ) → form ≡ Blocked most → left ≡ 0 → lead ≡ descriptor room → 4 ≤ room → 4 + room ≤ most
    → IsBefore form left room lead
block_opens form most left room lead blocked none is low high = rw (blocked, none) ((is, low, high), low)

-- behind that of a record the record is to come
pub record_begins : (form : Form) (greatest left room size after : ℕ) (lead bytes : List ℕ) → IsBefore form left room lead → 0 < size → size ≤ greatest
    → bytes ≡ lead ++ descriptor size → IsWithin form size room after → IsBegun form greatest left size after bytes
record_begins Fixed greatest left room size after lead bytes before low high is within = absurd before
record_begins Variable greatest left room size after lead bytes before low high is within =
    (room, size, lead, [], before, low, high, is ∙ ap (λ xs. lead ++ xs) (sym (append-nil (descriptor size))), omega arith, within)
record_begins (Blocked most) greatest left room size after lead bytes before low high is within =
    (room, size, lead, [], before, low, high, is ∙ ap (λ xs. lead ++ xs) (sym (append-nil (descriptor size))), omega arith, within)
