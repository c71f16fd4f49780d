-- What a name is.
use Rattle.std.specs.Prelude.{◌≡◌, ◌≢◌, ℕ, ◌≤◌, Bool, true, nat_le, ◌&&◌, ◌||◌, ◌==◌, List, [], ◌∷◌, length}
use Rattle.std.specs.List.{AllByRecursion, list_any}
use Rattle.cob_limits.specs.Limits.{longest_name}
use Rattle.cob_copybook_clauses.specs.declared.term.WordClass.TheVariants as term
use Rattle.cob_copybook_clauses.specs.Terms.{term_of_word}

-- a capital, A to Z
abbrev pub is_letter : ℕ → Bool
is_letter c = nat_le 65 c && nat_le c 90

-- a capital, a digit, a hyphen or an underscore
abbrev pub is_name_character : ℕ → Bool
is_name_character c = is_letter c || (nat_le 48 c && nat_le c 57) || (c == 45) || (c == 95)

-- neither a hyphen nor an underscore comes first
abbrev pub BeginsAsName : List ℕ → Type 0
BeginsAsName [] = ⊥
BeginsAsName (c ∷ cs) = (c ≢ 45) × (c ≢ 95)

-- no hyphen comes last
abbrev pub EndsAsName : List ℕ → Type 0
EndsAsName [] = ⊥
EndsAsName (c ∷ []) = c ≢ 45
EndsAsName (c ∷ d ∷ cs) = EndsAsName (d ∷ cs)

-- a name: 1 to 30 characters, a letter among them, and not reserved
pub record IsName (text : List ℕ) : Type 0 where
  pub short : length text ≤ longest_name
  pub characters : AllByRecursion (λ c. is_name_character c ≡ true) text
  pub letter : list_any is_letter text ≡ true
  pub begins : BeginsAsName text
  pub ends : EndsAsName text
  pub free : term_of_word text ≡ term.Plain
