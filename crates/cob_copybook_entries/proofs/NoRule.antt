-- Words that are entries break no rule.
use Rattle.std.proofs.Common.{◌≡◌, inl, inr, ℕ, ◌+◌, List, [], ◌∷◌, ◌++◌, length, Bool, true, false, Option, Some, None, refl, ap, sym, ◌∙◌, subst, arith, cond}
use Rattle.std.specs.Prelude.{not, option_map}
use Rattle.std.proofs.lemmas.Bool.{true≢false}
use Rattle.std.proofs.lemmas.List.Sums.{sum_by-cons}
use Rattle.cob_source.specs.Tokens.{Lexeme}
use Rattle.cob_picture.specs.declared.fault.PictureFault.{PictureFault}
use Rattle.cob_picture.specs.Positions.{PlainPicture}
use Rattle.cob_picture.specs.Pictures.{IsPictureOf, BreaksPictureRule as IsBrokenPicture}
use Rattle.cob_picture.proofs.OnePicture.{breaks_no_rule}
use Rattle.cob_decimal.specs.Literals.{Literal, literal_text, characters, fraction_text, AreDigits}
use Rattle.cob_decimal.proofs.LiteralLemmas.{digits_same}
use Rattle.cob_copybook_clauses.specs.Names.{IsName}
use Rattle.cob_copybook_clauses.specs.Written.{WrittenValue, Word, Quoted as QuotedText, Figure as FigureWord, Repeated as RepeatedText, WrittenName, WrittenOccurs, WrittenEntry}
use Rattle.cob_copybook_clauses.specs.Entries.{IsWritten, IsCondition, is_condition, sentences}
use Rattle.cob_copybook_clauses.specs.Laws.{OneEntry}
use Rattle.cob_copybook_entry.specs.declared.fault.BookRule.{BookRule}
use Rattle.cob_copybook_entry.specs.declared.fault.BookRule.TheVariants as rule
use Rattle.cob_copybook_entry.specs.Described.{PlainValue, Numeric, Quoted, Figure, Repeated, PlainOccurs, PlainEntry}
use Rattle.cob_copybook_entries.specs.Meaning.{IsLeastOf, AreNumbers, IsTimesBy, IsOccursOf, IsConstantOf, IsOption, IsNameText, EntryMeans}
use Rattle.cob_copybook_entries.specs.Parts.{count_digits, behind_sign}
use Rattle.cob_copybook_entries.specs.Books.{HasNoLeftOut, IsEntry, IsConditionEntry, IsSentence, AreDescribed, BeginsWithData, AreEntriesOf, BreaksNumber, BreaksNumbers, BreaksConstant, BreaksValue, BreaksTable, IsNoName, count_name, BreaksEntry, BreaksCondition, BreaksData, BreaksBy, BreaksSentence, OneBreaks, BeginsWithCondition, data_entries, BreaksEntryRule}
use Rattle.cob_copybook_entries.proofs.Literals.{sign_off}
use Rattle.cob_copybook_entries.proofs.Reading.{one}

-- ---- the parts of an entry

no_number : (o : Option (List ℕ)) (least : ℕ) (text : List ℕ) → o ≡ Some text → IsLeastOf o least → AreDigits text
no_number None least text e h = absurd cc
no_number (Some t) least text e h = let same : t ≡ text = cc in subst AreDigits same h.digits

numbers_hold : (t : WrittenOccurs) (least most : ℕ) → AreNumbers t least most → BreaksNumber t → ⊥
numbers_hold t least most h (inl b) = b h.most_is.digits
numbers_hold t least most h (inr b) = b.2 (no_number t.least least b.0 b.1 h.least_is)

no_numbers : (o : Option WrittenOccurs) (d : Option PlainOccurs) → IsOption IsOccursOf o d → BreaksNumbers o → ⊥
no_numbers None d h b = b
no_numbers (Some t) None h b = h
no_numbers (Some t) (Some times) h b = numbers_hold t h.least h.most h.numbers b

no_table : (o : Option WrittenOccurs) (d : Option PlainOccurs) → IsOption IsOccursOf o d → BreaksTable o → ⊥
no_table None d h b = b
no_table (Some t) None h b = h
no_table (Some t) (Some times) h b = b.1 h.least h.most h.numbers

pub no_constant : (o : Option WrittenValue) (d : Option PlainValue) → IsOption IsConstantOf o d → BreaksConstant o → ⊥
no_constant None d h b = b
no_constant (Some w) None h b = h
no_constant (Some (Word text)) (Some (Numeric s n ds a)) h b = b h.0 (record { whole = h.1.whole; fraction = h.1.fraction; some = h.1.some }, h.2)
no_constant (Some (Word text)) (Some (Quoted cs)) h b = h
no_constant (Some (Word text)) (Some (Figure f)) h b = h
no_constant (Some (Word text)) (Some (Repeated cs)) h b = h
no_constant (Some (QuotedText text)) (Some c) h b = b
no_constant (Some (FigureWord f)) (Some c) h b = b
no_constant (Some (RepeatedText text)) (Some c) h b = b

-- a word is a literal of so many digits in one way
same_count : (l m : Literal) → literal_text l ≡ literal_text m → count_digits l ≡ count_digits m
same_count l m e =
    let off : characters l.whole ++ fraction_text l.fraction ≡ characters m.whole ++ fraction_text m.fraction =
    sym (sign_off l.sign l.whole l.fraction) ∙ ap behind_sign e ∙ sign_off m.sign m.whole m.fraction in
    let same : (l.whole ≡ m.whole) × (l.fraction ≡ m.fraction) = digits_same l.whole m.whole l.fraction m.fraction off in
    omega (arith, ap (length {A = ℕ}) same.0, ap (length {A = ℕ}) same.1)

pub no_value : (o : Option WrittenValue) (d : Option PlainValue) → IsOption IsConstantOf o d → BreaksValue o → ⊥
no_value None d h b = b
no_value (Some w) None h b = h
no_value (Some (Word text)) (Some (Numeric s n ds a)) h b = omega (arith, same_count h.0 b.0 (sym h.2 ∙ b.1.1), h.1.most, b.2)
no_value (Some (Word text)) (Some (Quoted cs)) h b = h
no_value (Some (Word text)) (Some (Figure f)) h b = h
no_value (Some (Word text)) (Some (Repeated cs)) h b = h
no_value (Some (QuotedText text)) (Some (Numeric s n ds a)) h b = h
no_value (Some (QuotedText text)) (Some (Quoted cs)) h b = omega (arith, h.0, b)
no_value (Some (QuotedText text)) (Some (Figure f)) h b = h
no_value (Some (QuotedText text)) (Some (Repeated cs)) h b = h
no_value (Some (FigureWord f)) (Some c) h b = b
no_value (Some (RepeatedText text)) (Some (Numeric s n ds a)) h b = h
no_value (Some (RepeatedText text)) (Some (Quoted cs)) h b = h
no_value (Some (RepeatedText text)) (Some (Figure f)) h b = h
no_value (Some (RepeatedText text)) (Some (Repeated cs)) h (inl b) = omega (arith, h.0, b)
no_value (Some (RepeatedText text)) (Some (Repeated cs)) h (inr b) = omega (arith, h.1, b)

is_named : (o d : Option (List ℕ)) → IsOption IsNameText o d → IsNoName o → ⊥
is_named None d h b = b
is_named (Some text) None h b = h
is_named (Some text) (Some name) h b = b h.0

named_by : (c : Option WrittenName) (least most : ℕ) (times : PlainOccurs) → IsTimesBy c least most times → IsNoName (option_map (λ c. c.name) c) → ⊥
named_by None least most times h b = b
named_by (Some name) least most times h b = b h.0

count_named : (o : Option WrittenOccurs) (d : Option PlainOccurs) → IsOption IsOccursOf o d → IsNoName (count_name o) → ⊥
count_named None d h b = b
count_named (Some t) None h b = h
count_named (Some t) (Some times) h b = named_by t.count h.least h.most times h.is b

no_picture : (f : PictureFault) (o : Option (List ℕ)) (d : Option PlainPicture) (text : List ℕ) → IsOption IsPictureOf o d → o ≡ Some text → IsBrokenPicture f text → ⊥
no_picture f None d text h e b = cc
no_picture f (Some t) None text h e b = h
no_picture f (Some t) (Some p) text h e b = let same : t ≡ text = cc in breaks_no_rule text p f (subst (λ (x : List ℕ). IsPictureOf x p) same h) b

-- ---- entries

no_entry : (r : BookRule) (w : WrittenEntry) (d : PlainEntry) → EntryMeans w d → BreaksEntry r w → ⊥
no_entry rule.Grammar w d h (inl b) = b d.level h.level
no_entry rule.Grammar w d h (inr (inl b)) = no_numbers w.clauses.occurs d.occurs h.occurs b
no_entry rule.Grammar w d h (inr (inr b)) = no_constant w.clauses.value d.value h.value b
no_entry (rule.Picture f) w d h b = no_picture f w.clauses.picture d.picture b.0 h.picture b.1 b.2
no_entry rule.Table w d h b = no_table w.clauses.occurs d.occurs h.occurs b
no_entry rule.Value w d h b = no_value w.clauses.value d.value h.value b
no_entry rule.Name w d h (inl b) = is_named w.name d.name h.name b
no_entry rule.Name w d h (inr (inl b)) = is_named w.clauses.redefines d.redefines h.redefines b
no_entry rule.Name w d h (inr (inr b)) = count_named w.clauses.occurs d.occurs h.occurs b
no_entry (rule.Source f) w d h b = b
no_entry rule.NoEntry w d h b = b
no_entry rule.Level w d h b = b
no_entry rule.Usage w d h b = b
no_entry rule.Sign w d h b = b
no_entry rule.Redefinition w d h b = b
no_entry rule.Count w d h b = b
no_entry rule.Placement w d h b = b
no_entry (rule.LeftOut word) w d h b = b
no_entry rule.TooLong w d h b = b
no_entry rule.TooMany w d h b = b
no_entry rule.Memory w d h b = b

written_once : OneEntry → (r : BookRule) (s : List Lexeme) (d : PlainEntry) → IsEntry s d → (w : WrittenEntry) × IsWritten s w × BreaksEntry r w → ⊥
written_once law r s d h b =
    let same : h.written ≡ b.0 = law s h.written b.0 h.is b.1 in
    no_entry r b.0 d (subst (λ (w : WrittenEntry). EntryMeans w d) same h.means) b.2

no_data : OneEntry → (r : BookRule) (s : List Lexeme) (d : PlainEntry) → IsEntry s d → BreaksData r s → ⊥
no_data law rule.Grammar s d h (inl b) = b h.written h.is
no_data law rule.Grammar s d h (inr b) = written_once law rule.Grammar s d h b
no_data law (rule.Source f) s d h b = written_once law (rule.Source f) s d h b
no_data law rule.NoEntry s d h b = written_once law rule.NoEntry s d h b
no_data law rule.Level s d h b = written_once law rule.Level s d h b
no_data law (rule.Picture f) s d h b = written_once law (rule.Picture f) s d h b
no_data law rule.Usage s d h b = written_once law rule.Usage s d h b
no_data law rule.Sign s d h b = written_once law rule.Sign s d h b
no_data law rule.Redefinition s d h b = written_once law rule.Redefinition s d h b
no_data law rule.Table s d h b = written_once law rule.Table s d h b
no_data law rule.Count s d h b = written_once law rule.Count s d h b
no_data law rule.Value s d h b = written_once law rule.Value s d h b
no_data law rule.Placement s d h b = written_once law rule.Placement s d h b
no_data law (rule.LeftOut word) s d h b = written_once law (rule.LeftOut word) s d h b
no_data law rule.Name s d h b = written_once law rule.Name s d h b
no_data law rule.TooLong s d h b = written_once law rule.TooLong s d h b
no_data law rule.TooMany s d h b = written_once law rule.TooMany s d h b
no_data law rule.Memory s d h b = written_once law rule.Memory s d h b

one_condition : (s : List Lexeme) (a b : List ℕ) → IsCondition s a → IsCondition s b → a ≡ b
one_condition s a b h k =
    let both : h.level ∷ (h.named ∷ (h.value ∷ h.more)) ≡ k.level ∷ (k.named ∷ (k.value ∷ k.more)) = sym h.words ∙ k.words in
    let same : h.named ≡ k.named = cc in
    sym h.name_is.same ∙ ap (λ (w : Lexeme). w.text) same ∙ k.name_is.same

no_condition : (r : BookRule) (s : List Lexeme) → IsConditionEntry s → BreaksCondition r s → ⊥
no_condition rule.Grammar s h b = b h.0 h.1
no_condition rule.Name s h b = b.2 (subst IsName (one_condition s h.0 b.0 h.1 b.1) h.2)
no_condition (rule.Source f) s h b = b
no_condition rule.NoEntry s h b = b
no_condition rule.Level s h b = b
no_condition (rule.Picture f) s h b = b
no_condition rule.Usage s h b = b
no_condition rule.Sign s h b = b
no_condition rule.Redefinition s h b = b
no_condition rule.Table s h b = b
no_condition rule.Count s h b = b
no_condition rule.Value s h b = b
no_condition rule.Placement s h b = b
no_condition (rule.LeftOut word) s h b = b
no_condition rule.TooLong s h b = b
no_condition rule.TooMany s h b = b
no_condition rule.Memory s h b = b

no_by : OneEntry → (c : Bool) (r : BookRule) (s : List Lexeme) (ds more : List PlainEntry) → IsSentence c s ds more → BreaksBy c r s → ⊥
no_by law true r s ds more h b = no_condition r s h.0 b
no_by law false r s ds more h b = no_data law r s h.0 h.1 b

no_sentence : OneEntry → (r : BookRule) (s : List Lexeme) (ds more : List PlainEntry) → HasNoLeftOut s → IsSentence (is_condition s) s ds more → BreaksSentence r s → ⊥
no_sentence law (rule.LeftOut word) s ds more none h b = none word.bytes b
no_sentence law (rule.Source f) s ds more none h b = no_by law (is_condition s) (rule.Source f) s ds more h b.1
no_sentence law rule.NoEntry s ds more none h b = no_by law (is_condition s) rule.NoEntry s ds more h b.1
no_sentence law rule.Level s ds more none h b = no_by law (is_condition s) rule.Level s ds more h b.1
no_sentence law (rule.Picture f) s ds more none h b = no_by law (is_condition s) (rule.Picture f) s ds more h b.1
no_sentence law rule.Usage s ds more none h b = no_by law (is_condition s) rule.Usage s ds more h b.1
no_sentence law rule.Sign s ds more none h b = no_by law (is_condition s) rule.Sign s ds more h b.1
no_sentence law rule.Redefinition s ds more none h b = no_by law (is_condition s) rule.Redefinition s ds more h b.1
no_sentence law rule.Table s ds more none h b = no_by law (is_condition s) rule.Table s ds more h b.1
no_sentence law rule.Count s ds more none h b = no_by law (is_condition s) rule.Count s ds more h b.1
no_sentence law rule.Value s ds more none h b = no_by law (is_condition s) rule.Value s ds more h b.1
no_sentence law rule.Placement s ds more none h b = no_by law (is_condition s) rule.Placement s ds more h b.1
no_sentence law rule.Name s ds more none h b = no_by law (is_condition s) rule.Name s ds more h b.1
no_sentence law rule.TooLong s ds more none h b = no_by law (is_condition s) rule.TooLong s ds more h b.1
no_sentence law rule.TooMany s ds more none h b = no_by law (is_condition s) rule.TooMany s ds more h b.1
no_sentence law rule.Memory s ds more none h b = no_by law (is_condition s) rule.Memory s ds more h b.1
no_sentence law rule.Grammar s ds more none h b = no_by law (is_condition s) rule.Grammar s ds more h b.1

-- ---- the words

none_break : OneEntry → (r : BookRule) (ss : List (List Lexeme)) (ds : List PlainEntry) → AreDescribed ss ds → OneBreaks r ss → ⊥
none_break law r [] ds h b = b
none_break law r (s ∷ ss) ds h (inl b) = no_sentence law r s ds h.1.0 h.0 h.1.1 b
none_break law r (s ∷ ss) ds h (inr b) = none_break law r ss h.1.0 h.1.2 b

counted_by : (c : Bool) (s : List Lexeme) (ds more : List PlainEntry) → is_condition s ≡ c → IsSentence c s ds more → one s + length more ≡ length ds
counted_by true s ds more e h = let none : one s ≡ 0 = ap (λ b. cond (not b) 1 0) e in omega (arith, none, ap (length {A = PlainEntry}) h.1)
counted_by false s ds more e h = let some : one s ≡ 1 = ap (λ b. cond (not b) 1 0) e in omega (arith, some, ap (length {A = PlainEntry}) h.2)

counted : (ss : List (List Lexeme)) (ds : List PlainEntry) → AreDescribed ss ds → data_entries ss ≡ length ds
counted [] ds h = sym (ap (length {A = PlainEntry}) h)
counted (s ∷ ss) ds h =
    let total : data_entries (s ∷ ss) ≡ one s + data_entries ss = sum_by-cons one s ss in
    omega (arith, total, counted ss h.1.0 h.1.2, counted_by (is_condition s) s ds h.1.0 refl h.1.1)

not_both : (ss : List (List Lexeme)) → BeginsWithData ss → BeginsWithCondition ss → ⊥
not_both [] h b = b
not_both (s ∷ ss) h b = let e : true ≡ false = sym b ∙ h in true≢false e

pub no_rule : OneEntry → (ws : List Lexeme) (ds : List PlainEntry) (r : BookRule) → AreEntriesOf ws ds → BreaksEntryRule r ws → r ≡ rule.Memory
no_rule law ws ds rule.Memory h b = refl
no_rule law ws ds rule.NoEntry h b = absurd (subst (λ (v : List Lexeme). BeginsWithData (sentences v).ended) b h.begins)
no_rule law ws ds rule.TooMany h b = absurd (omega (arith, counted (sentences ws).ended ds h.entries, h.few, b))
no_rule law ws ds rule.Grammar h (inl b) = absurd (b h.ended)
no_rule law ws ds rule.Grammar h (inr (inl b)) = absurd (not_both (sentences ws).ended h.begins b)
no_rule law ws ds rule.Grammar h (inr (inr b)) = absurd (none_break law rule.Grammar (sentences ws).ended ds h.entries b)
no_rule law ws ds (rule.Source f) h b = absurd (none_break law (rule.Source f) (sentences ws).ended ds h.entries b)
no_rule law ws ds rule.Level h b = absurd (none_break law rule.Level (sentences ws).ended ds h.entries b)
no_rule law ws ds (rule.Picture f) h b = absurd (none_break law (rule.Picture f) (sentences ws).ended ds h.entries b)
no_rule law ws ds rule.Usage h b = absurd (none_break law rule.Usage (sentences ws).ended ds h.entries b)
no_rule law ws ds rule.Sign h b = absurd (none_break law rule.Sign (sentences ws).ended ds h.entries b)
no_rule law ws ds rule.Redefinition h b = absurd (none_break law rule.Redefinition (sentences ws).ended ds h.entries b)
no_rule law ws ds rule.Table h b = absurd (none_break law rule.Table (sentences ws).ended ds h.entries b)
no_rule law ws ds rule.Count h b = absurd (none_break law rule.Count (sentences ws).ended ds h.entries b)
no_rule law ws ds rule.Value h b = absurd (none_break law rule.Value (sentences ws).ended ds h.entries b)
no_rule law ws ds rule.Placement h b = absurd (none_break law rule.Placement (sentences ws).ended ds h.entries b)
no_rule law ws ds (rule.LeftOut word) h b = absurd (none_break law (rule.LeftOut word) (sentences ws).ended ds h.entries b)
no_rule law ws ds rule.Name h b = absurd (none_break law rule.Name (sentences ws).ended ds h.entries b)
no_rule law ws ds rule.TooLong h b = absurd (none_break law rule.TooLong (sentences ws).ended ds h.entries b)
