-- Words are one list of entries at most.
use Rattle.std.proofs.Common.{◌≡◌, ℕ, List, [], ◌∷◌, Bool, true, false, Option, Some, None, refl, ap, sym, ◌∙◌, subst}
use Rattle.cob_source.specs.Tokens.{Lexeme}
use Rattle.cob_picture.specs.Positions.{PlainPicture}
use Rattle.cob_picture.specs.Pictures.{IsPictureOf}
use Rattle.cob_picture.proofs.OnePicture.{one_picture}
use Rattle.cob_copybook_entry.specs.declared.kinds.Usage.{Usage}
use Rattle.cob_copybook_entry.specs.declared.kinds.Sign.{Sign}
use Rattle.cob_copybook_clauses.specs.Written.{WrittenValue, Word, Quoted as QuotedText, Figure as FigureWord, Repeated as RepeatedText, WrittenName, WrittenOccurs, WrittenEntry}
use Rattle.cob_copybook_clauses.specs.Entries.{is_condition}
use Rattle.cob_copybook_clauses.specs.Laws.{OneEntry}
use Rattle.cob_copybook_entry.specs.Described.{PlainValue, Numeric, Quoted, Figure, Repeated, PlainOccurs, Fixed, Varying, PlainEntry}
use Rattle.cob_copybook_entries.specs.Meaning.{IsIntegerText, IsLeastOf, IsTimesBy, IsOccursOf, IsConstantOf, IsOption, IsNameText, EntryMeans}
use Rattle.cob_copybook_entries.specs.Books.{IsSentence, AreDescribed}
use Rattle.cob_copybook_entries.proofs.Constants.{one_numeric}

-- what means one thing at most, means one thing at most where it may be missing
one_option : {A B : Type 0} (P : A → B → Type 0) → ((a : A) (x y : B) → P a x → P a y → x ≡ y) → (a : Option A) (x y : Option B) → IsOption P a x → IsOption P a y → x ≡ y
one_option P one None None None h k = refl
one_option P one None None (Some y) h k = absurd k
one_option P one None (Some x) y h k = absurd h
one_option P one (Some a) None y h k = absurd h
one_option P one (Some a) (Some x) None h k = absurd k
one_option P one (Some a) (Some x) (Some y) h k = ap (λ z. Some z) (one a x y h k)

one_name : (text a b : List ℕ) → IsNameText text a → IsNameText text b → a ≡ b
one_name text a b h k = sym h.1 ∙ k.1

one_whole : (most : ℕ) (text : List ℕ) (a b : ℕ) → IsIntegerText most text a → IsIntegerText most text b → a ≡ b
one_whole most text a b h k = h.value ∙ sym k.value

one_least : (text : Option (List ℕ)) (a b : ℕ) → IsLeastOf text a → IsLeastOf text b → a ≡ b
one_least None a b h k = h ∙ sym k
one_least (Some text) a b h k = one_whole 9 text a b h k

one_times_by : (count : Option WrittenName) (a b m n : ℕ) (s t : PlainOccurs) → a ≡ b → m ≡ n → IsTimesBy count a m s → IsTimesBy count b n t → s ≡ t
one_times_by None a b m n s t e f h k = h ∙ ap (λ i. Fixed i) f ∙ sym k
one_times_by (Some name) a b m n s t e f h k =
    h.1 ∙ ap (λ i. Varying i m name.name name.qualifiers) e ∙ ap (λ i. Varying b i name.name name.qualifiers) f ∙ sym k.1

one_times : (t : WrittenOccurs) (a b : PlainOccurs) → IsOccursOf t a → IsOccursOf t b → a ≡ b
one_times t a b h k =
    one_times_by t.count h.least k.least h.most k.most a b
    (one_least t.least h.least k.least h.numbers.least_is k.numbers.least_is)
    (one_whole 9 t.most h.most k.most h.numbers.most_is k.numbers.most_is) h.is k.is

one_quoted : (text cs : List ℕ) (c : PlainValue) → text ≡ cs → IsConstantOf (QuotedText text) c → Quoted cs ≡ c
one_quoted text cs (Numeric s m ds a) e k = absurd k
one_quoted text cs (Quoted ds) e k = ap (λ t. Quoted t) (sym e ∙ k.1)
one_quoted text cs (Figure f) e k = absurd k
one_quoted text cs (Repeated ds) e k = absurd k

pub one_constant : (w : WrittenValue) (a b : PlainValue) → IsConstantOf w a → IsConstantOf w b → a ≡ b
one_constant (Word text) (Numeric s m ds i) b h k = one_numeric text s m ds i b h k
one_constant (Word text) (Quoted cs) b h k = absurd h
one_constant (Word text) (Figure f) b h k = absurd h
one_constant (Word text) (Repeated cs) b h k = absurd h
one_constant (QuotedText text) (Numeric s m ds i) b h k = absurd h
one_constant (QuotedText text) (Quoted cs) b h k = one_quoted text cs b h.1 k
one_constant (QuotedText text) (Figure f) b h k = absurd h
one_constant (QuotedText text) (Repeated cs) b h k = absurd h
one_constant (FigureWord f) (Numeric s m ds i) b h k = absurd h
one_constant (FigureWord f) (Quoted cs) b h k = absurd h
one_constant (FigureWord f) (Figure g) (Numeric s m ds i) h k = absurd k
one_constant (FigureWord f) (Figure g) (Quoted cs) h k = absurd k
one_constant (FigureWord f) (Figure g) (Figure i) h k = ap (λ j. Figure j) (sym h ∙ k)
one_constant (FigureWord f) (Figure g) (Repeated cs) h k = absurd k
one_constant (FigureWord f) (Repeated cs) b h k = absurd h
one_constant (RepeatedText text) (Numeric s m ds i) b h k = absurd h
one_constant (RepeatedText text) (Quoted cs) b h k = absurd h
one_constant (RepeatedText text) (Figure f) b h k = absurd h
one_constant (RepeatedText text) (Repeated cs) (Numeric s m ds i) h k = absurd k
one_constant (RepeatedText text) (Repeated cs) (Quoted ds) h k = absurd k
one_constant (RepeatedText text) (Repeated cs) (Figure f) h k = absurd k
one_constant (RepeatedText text) (Repeated cs) (Repeated ds) h k = ap (λ t. Repeated t) (sym h.2 ∙ k.2)

-- an entry as a tuple of its parts
abbrev Parts : Type 0
Parts = ℕ × Option (List ℕ) × Option (List ℕ) × Option PlainPicture × Option Usage × Option Sign × Option PlainOccurs × Option PlainValue × Bool × Bool

abbrev parts : PlainEntry → Parts
parts d = (d.level, d.name, d.redefines, d.picture, d.usage, d.sign, d.occurs, d.value, d.justified, d.blank)

abbrev described_by : Parts → PlainEntry
described_by p = record { level = p.0; name = p.1; redefines = p.2; picture = p.3; usage = p.4; sign = p.5; occurs = p.6; value = p.7; justified = p.8; blank = p.9 }

-- a written entry means one thing
one_meaning : (w : WrittenEntry) (a b : PlainEntry) → EntryMeans w a → EntryMeans w b → a ≡ b
one_meaning w a b h k =
    let level = one_whole 2 w.level a.level b.level h.level k.level in
    let name = one_option IsNameText one_name w.name a.name b.name h.name k.name in
    let redefines = one_option IsNameText one_name w.clauses.redefines a.redefines b.redefines h.redefines k.redefines in
    let picture = one_option IsPictureOf one_picture w.clauses.picture a.picture b.picture h.picture k.picture in
    let usage : a.usage ≡ b.usage = sym h.usage ∙ k.usage in
    let sign : a.sign ≡ b.sign = sym h.sign ∙ k.sign in
    let occurs = one_option IsOccursOf one_times w.clauses.occurs a.occurs b.occurs h.occurs k.occurs in
    let value = one_option IsConstantOf one_constant w.clauses.value a.value b.value h.value k.value in
    let justified : a.justified ≡ b.justified = sym h.justified ∙ k.justified in
    let blank : a.blank ≡ b.blank = sym h.blank ∙ k.blank in
    let all : parts a ≡ parts b = cc in
    ap described_by all

one_sentence : OneEntry → (c : Bool) (s : List Lexeme) (xs ys more rest : List PlainEntry) → IsSentence c s xs more → IsSentence c s ys rest → more ≡ rest → xs ≡ ys
one_sentence one true s xs ys more rest h k e = h.1 ∙ e ∙ sym k.1
one_sentence one false s xs ys more rest h k e =
    let same : h.1.written ≡ k.1.written = one s h.1.written k.1.written h.1.is k.1.is in
    let d : h.0 ≡ k.0 = one_meaning h.1.written h.0 k.0 h.1.means (subst (λ (w : WrittenEntry). EntryMeans w k.0) (sym same) k.1.means) in
    h.2 ∙ ap (λ x. x ∷ more) d ∙ ap (λ t. k.0 ∷ t) e ∙ sym k.2

pub one_list : OneEntry → (ss : List (List Lexeme)) (xs ys : List PlainEntry) → AreDescribed ss xs → AreDescribed ss ys → xs ≡ ys
one_list one [] xs ys h k = h ∙ sym k
one_list one (s ∷ ss) xs ys h k =
    one_sentence one (is_condition s) s xs ys h.1.0 k.1.0 h.1.1 k.1.1 (one_list one ss h.1.0 k.1.0 h.1.2 k.1.2)
