-- The name that a record is given.
use Rattle.std.proofs.Common.{◌≡◌, Bool, true, false, ◌&&◌, ◌||◌, if◌then◌else◌, ℕ, List, ◌∷◌, refl, sym, subst}
use Rattle.std.specs.Cmp.Derive.{both_true}
use Rattle.std.proofs.lemmas.Slice.Eq.{bytes_eq-Decides}
use Rattle.cob_source.specs.Tokens.{Lexeme}
use Rattle.cob_copybook_clauses.specs.Entries.{is_word_kind, starts_clause}
use Rattle.cob_copybook_clauses.specs.Terms.{word_class}
use Rattle.cob_copybook_record.specs.Laws.{GivenNameIsBorne}
use Rattle.cob_copybook_record.specs.OneRecord.{is_record_level, is_record_named, is_text_of}
use Rattle.cob_copybook_record.specs.RecordName.{is_entry_name, named_behind, requalified, with_text}

-- one of two texts of a word asks that it is a word
of_word : (k a b : Bool) → ((k && a) || (k && b)) ≡ true → k ≡ true
of_word true a b h = refl
of_word false a b h = h

-- and so does the first of two
first_of : (a b : Bool) → (a && b) ≡ true → a ≡ true
first_of true b h = refl
first_of false b h = h

-- a word has the text that it is given
bears : (name : List ℕ) (w : Lexeme) → is_word_kind w.kind ≡ true → is_text_of name (with_text name w) ≡ true
bears name w k = both_true k ((bytes_eq-Decides name name).1 refl)

-- by whether the word behind the level is a name
borne_by : (b : Bool) (name : List ℕ) (level w : Lexeme) (ws : List Lexeme) → is_record_level level ≡ true → is_word_kind level.kind ≡ true
    → (b ≡ true → is_word_kind w.kind ≡ true)
    → is_record_named name (level ∷ (if b then with_text name w ∷ requalified w.text name false ws else with_text name level ∷ w ∷ ws)) ≡ true
borne_by true name level w ws is k named = both_true is (bears name w (named refl))
borne_by false name level w ws is k named = both_true is (bears name level k)

pub given_name_is_borne : GivenNameIsBorne
given_name_is_borne name level w ws is =
    let kind = of_word (is_word_kind level.kind) _ _ is in
    let borne = borne_by (is_entry_name w) name level w ws is kind (first_of (is_word_kind w.kind) _) in
    subst (λ (c : Bool). is_record_named name (if c then level ∷ named_behind name level (w ∷ ws) else level ∷ w ∷ ws) ≡ true) (sym is) borne
