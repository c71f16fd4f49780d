-- What the tables of signs say.
use Rattle.std.proofs.Common.{◌≡◌, ◌&&◌, ◌+◌, ◌<◌, ℕ, zero, suc, Bool, true, false, Some, None, List, [], ◌∷◌, drop, get_or, refl, sym, ap, ◌∙◌, arith}
use Rattle.std.specs.Prelude.{Option}
use Rattle.std.proofs.lemmas.List.{get_or-drop}
use Rattle.cob_codec_lanes.specs.Signs.{byte_meaning, number_meaning, table_start}
use Rattle.cob_codec_lanes.specs.declared.signs.SignByte.{SignByte}
use Rattle.cob_codec_lanes.specs.declared.signs.SignByte.TheVariants.{Zone, LowHalf, Own}
use Rattle.cob_codec_lanes.specs.declared.signs.TheConstants.{SIGNS}

-- whether two say the same
abbrev same_said : Option Bool → Option Bool → Bool
same_said None None = true
same_said (Some true) (Some true) = true
same_said (Some false) (Some false) = true
same_said None (Some b) = false
same_said (Some b) None = false
same_said (Some true) (Some false) = false
same_said (Some false) (Some true) = false

said_same : (a b : Option Bool) → same_said a b ≡ true → a ≡ b
said_same None None h = refl
said_same (Some true) (Some true) h = refl
said_same (Some false) (Some false) h = refl
said_same None (Some b) h = absurd (cc)
said_same (Some b) None h = absurd (cc)
said_same (Some true) (Some false) h = absurd (cc)
said_same (Some false) (Some true) h = absurd (cc)

-- whether each of so many numbers says what the byte does, from this byte on
abbrev all_say : (sign : SignByte) → (signed : Bool) → (from count : ℕ) → List ℕ → Bool
all_say sign signed from zero ns = true
all_say sign signed from (suc count) [] = false
all_say sign signed from (suc count) (n ∷ ns) = same_said (number_meaning n) (byte_meaning sign signed from) && all_say sign signed (from + 1) count ns

both_true : (a b : Bool) → (a && b) ≡ true → (a ≡ true) × (b ≡ true)
both_true true b h = (refl, h)
both_true false b h = absurd (cc)

says_at : (sign : SignByte) (signed : Bool) (from count : ℕ) (ns : List ℕ) (k : ℕ) → all_say sign signed from count ns ≡ true → k < count
    → number_meaning (get_or ns k 0) ≡ byte_meaning sign signed (from + k)
says_at sign signed from zero ns k all lt = absurd (omega arith)
says_at sign signed from (suc count) [] k all lt = absurd (cc)
says_at sign signed from (suc count) (n ∷ ns) zero all lt =
    let e : from ≡ from + 0 = omega arith in
    said_same (number_meaning n) (byte_meaning sign signed from) (both_true _ (all_say sign signed (from + 1) count ns) all).0 ∙ ap (λ k. byte_meaning sign signed k) e
says_at sign signed from (suc count) (n ∷ ns) (suc k) all lt =
    let e : from + 1 + k ≡ from + suc k = omega arith in
    says_at sign signed (from + 1) count ns k (both_true (same_said (number_meaning n) (byte_meaning sign signed from)) (all_say sign signed (from + 1) count ns) all).1 (omega arith)
    ∙ ap (λ j. byte_meaning sign signed j) e

-- a table that begins there
says : (sign : SignByte) (signed : Bool) (start byte : ℕ) → all_say sign signed 0 256 (drop start SIGNS) ≡ true → byte < 256
    → number_meaning (get_or SIGNS (start + byte) 0) ≡ byte_meaning sign signed byte
says sign signed start byte all lt =
    let e : 0 + byte ≡ byte = omega arith in
    sym (ap (λ n. number_meaning n) (get_or-drop start SIGNS byte 0)) ∙ says_at sign signed 0 256 (drop start SIGNS) byte all lt ∙ ap (λ j. byte_meaning sign signed j) e

-- the table for each sign
pub table_says : (sign : SignByte) (signed : Bool) (byte : ℕ) → byte < 256 → number_meaning (get_or SIGNS (table_start sign signed + byte) 0) ≡ byte_meaning sign signed byte
table_says Zone true byte lt = says Zone true 0 byte refl lt
table_says Zone false byte lt = says Zone false 256 byte refl lt
table_says LowHalf true byte lt = says LowHalf true 512 byte refl lt
table_says LowHalf false byte lt = says LowHalf false 768 byte refl lt
table_says Own true byte lt = says Own true 1024 byte refl lt
table_says Own false byte lt = says Own false 1024 byte refl lt

-- the same, where other numbers stand for where it begins and for the byte
pub said_by : (table at byte : ℕ) → at ≡ byte → byte < 256 → (sign : SignByte) (signed : Bool) → table ≡ table_start sign signed
    → number_meaning (get_or SIGNS (table + at) 0) ≡ byte_meaning sign signed byte
said_by table at byte same lt sign signed is =
    ap (λ k. number_meaning (get_or SIGNS (table + k) 0)) same ∙ ap (λ t. number_meaning (get_or SIGNS (t + byte) 0)) is ∙ table_says sign signed byte lt
