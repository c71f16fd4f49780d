-- What is written of a text is read as the text, and in one way.
use Rattle.std.proofs.Common.{◌≡◌, ◌≢◌, ◌==◌, ℕ, List, [], ◌∷◌, ◌++◌, Bool, true, false, refl, ap, sym, ◌∙◌, subst, arith, if◌then◌else◌, get_or, drop, length, encode_utf8_all}
use Rattle.std.proofs.lemmas.Bool.{eqb-true, eqb-false}
use Rattle.std.proofs.lemmas.Str.{chars_past_char, encodes-append}
use Rattle.std.proofs.Math.Utf8.{encode}
use Rattle.std.specs.Str.{chars, IsUtf8}
use Rattle.cob_report_html.specs.Escapes.{Mark, Less, Greater, Ampersand, Quotation, character_of, escape_of, escaped_character, written_text, IsUnmarked, ReadsAs, Nothing, Plain, Escape}

-- a character that is none of the four is plain
no_mark : (c : ℕ) → (c == 60) ≡ false → (c == 62) ≡ false → (c == 38) ≡ false → (c == 34) ≡ false → (mark : Mark) → c ≢ character_of mark
no_mark c less greater ampersand quotation Less is = eqb-false c 60 less is
no_mark c less greater ampersand quotation Greater is = eqb-false c 62 greater is
no_mark c less greater ampersand quotation Ampersand is = eqb-false c 38 ampersand is
no_mark c less greater ampersand quotation Quotation is = eqb-false c 34 quotation is

-- an escape before what is read as the rest is read as its character before the rest
reads_mark : (mark : Mark) (c : ℕ) (shown text : List ℕ) → c ≡ character_of mark → ReadsAs shown text → ReadsAs (escape_of mark ++ shown) (c ∷ text)
reads_mark mark c shown text is reads = subst (λ k. ReadsAs (escape_of mark ++ shown) (k ∷ text)) (sym is) (Escape mark shown text reads)

-- what is written of one character, before what is read as the rest, is read as the character before the rest
reads_by : (c : ℕ) (less greater ampersand quotation : Bool) (shown text : List ℕ)
    → (c == 60) ≡ less → (c == 62) ≡ greater → (c == 38) ≡ ampersand → (c == 34) ≡ quotation → ReadsAs shown text
    → ReadsAs ((if less then escape_of Less else
    (if greater then escape_of Greater else (if ampersand then escape_of Ampersand else (if quotation then escape_of Quotation else c ∷ [])))) ++ shown) (c ∷ text)
reads_by c true greater ampersand quotation shown text l g a q reads = reads_mark Less c shown text (eqb-true c 60 l) reads
reads_by c false true ampersand quotation shown text l g a q reads = reads_mark Greater c shown text (eqb-true c 62 g) reads
reads_by c false false true quotation shown text l g a q reads = reads_mark Ampersand c shown text (eqb-true c 38 a) reads
reads_by c false false false true shown text l g a q reads = reads_mark Quotation c shown text (eqb-true c 34 q) reads
reads_by c false false false false shown text l g a q reads = Plain c shown text (record { other = no_mark c l g a q }) reads

pub reads_back : (text : List ℕ) → ReadsAs (written_text text) text
reads_back [] = Nothing
reads_back (c ∷ cs) = reads_by c (c == 60) (c == 62) (c == 38) (c == 34) (written_text cs) cs refl refl refl refl (reads_back cs)

-- escapes of which one begins what the other one begins are of one mark
one_mark : (mark other : Mark) (shown more : List ℕ) → escape_of mark ++ shown ≡ escape_of other ++ more
    → (character_of mark ≡ character_of other) × (shown ≡ more)
one_mark Less Less shown more is = (refl, ap (λ t. drop 4 t) is)
one_mark Greater Greater shown more is = (refl, ap (λ t. drop 4 t) is)
one_mark Ampersand Ampersand shown more is = (refl, ap (λ t. drop 5 t) is)
one_mark Quotation Quotation shown more is = (refl, ap (λ t. drop 6 t) is)
one_mark Less Greater shown more is = let e = ap (λ t. get_or t 1 0) is in absurd (omega arith)
one_mark Less Ampersand shown more is = let e = ap (λ t. get_or t 1 0) is in absurd (omega arith)
one_mark Less Quotation shown more is = let e = ap (λ t. get_or t 1 0) is in absurd (omega arith)
one_mark Greater Less shown more is = let e = ap (λ t. get_or t 1 0) is in absurd (omega arith)
one_mark Greater Ampersand shown more is = let e = ap (λ t. get_or t 1 0) is in absurd (omega arith)
one_mark Greater Quotation shown more is = let e = ap (λ t. get_or t 1 0) is in absurd (omega arith)
one_mark Ampersand Less shown more is = let e = ap (λ t. get_or t 1 0) is in absurd (omega arith)
one_mark Ampersand Greater shown more is = let e = ap (λ t. get_or t 1 0) is in absurd (omega arith)
one_mark Ampersand Quotation shown more is = let e = ap (λ t. get_or t 1 0) is in absurd (omega arith)
one_mark Quotation Less shown more is = let e = ap (λ t. get_or t 1 0) is in absurd (omega arith)
one_mark Quotation Greater shown more is = let e = ap (λ t. get_or t 1 0) is in absurd (omega arith)
one_mark Quotation Ampersand shown more is = let e = ap (λ t. get_or t 1 0) is in absurd (omega arith)

-- each escape begins with the mark `&`
begins : (mark : Mark) (shown : List ℕ) → get_or (escape_of mark ++ shown) 0 0 ≡ 38
begins Less shown = refl
begins Greater shown = refl
begins Ampersand shown = refl
begins Quotation shown = refl

-- no plain character begins what an escape begins
not_both : (c : ℕ) (mark : Mark) (shown more : List ℕ) → IsUnmarked c → c ∷ shown ≡ escape_of mark ++ more → ⊥
not_both c mark shown more plain is = plain.other Ampersand (ap (λ t. get_or t 0 0) is ∙ begins mark more)

-- two lists are one where their first elements and the rest of them are
both : (c d : ℕ) (text other : List ℕ) → c ≡ d → text ≡ other → c ∷ text ≡ d ∷ other
both c d text other head rest = ap (λ k. k ∷ text) head ∙ ap (λ t. d ∷ t) rest

-- something is not nothing
not_nothing : (c : ℕ) (rest : List ℕ) → c ∷ rest ≡ [] → ⊥
not_nothing c rest is = let e = ap (λ (l : List ℕ). length l) is in absurd (omega arith)

-- an escape is not nothing
not_none : (mark : Mark) (rest : List ℕ) → escape_of mark ++ rest ≡ [] → ⊥
not_none mark rest is = let e = sym (begins mark rest) ∙ ap (λ t. get_or t 0 0) is in absurd (omega arith)

one_of : (shown same : List ℕ) (text other : List ℕ) → shown ≡ same → ReadsAs shown text → ReadsAs same other → text ≡ other
one_of _ _ _ _ is Nothing Nothing = refl
one_of _ _ _ _ is Nothing (Plain d s t plain two) = absurd (not_nothing d s (sym is))
one_of _ _ _ _ is Nothing (Escape mark s t two) = absurd (not_none mark s (sym is))
one_of _ _ _ _ is (Plain c s t plain one) Nothing = absurd (not_nothing c s is)
one_of _ _ _ _ is (Plain c s t plain one) (Plain d s₂ t₂ plain₂ two) =
    both c d t t₂ (ap (λ l. get_or l 0 0) is) (one_of s s₂ t t₂ (ap (λ l. drop 1 l) is) one two)
one_of _ _ _ _ is (Plain c s t plain one) (Escape mark s₂ t₂ two) = absurd (not_both c mark s s₂ plain is)
one_of _ _ _ _ is (Escape mark s t one) Nothing = absurd (not_none mark s is)
one_of _ _ _ _ is (Escape mark s t one) (Plain d s₂ t₂ plain₂ two) = absurd (not_both d mark s₂ s plain₂ (sym is))
one_of _ _ _ _ is (Escape mark s t one) (Escape mark₂ s₂ t₂ two) =
    let same = one_mark mark mark₂ s s₂ is in
    both (character_of mark) (character_of mark₂) t t₂ same.0 (one_of s s₂ t t₂ same.1 one two)

pub one_reading : (shown text other : List ℕ) → ReadsAs shown text → ReadsAs shown other → text ≡ other
one_reading shown text other one two = one_of shown shown text other refl one two

-- A text whose first character is this: what is written of it is what is written of the character, before what is written of the rest.
pub written_past : (text rest : List ℕ) (c : ℕ) → IsUtf8 text → text ≡ encode c ++ rest
    → encode_utf8_all (escaped_character c) ++ encode_utf8_all (written_text (chars rest)) ≡ encode_utf8_all (written_text (chars text))
written_past text rest c utf8 is =
    sym (encodes-append (escaped_character c) _) ∙ ap (λ cs. encode_utf8_all (written_text cs)) (sym (chars_past_char text rest c utf8 is))
