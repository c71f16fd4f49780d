-- Relations: which words begin which.
use Rattle.std.proofs.Common.{◌≡◌, inl, inr, Bool, true, false, List, [], ◌∷◌, ◌++◌, sym, ap, subst, ◌∙◌, append_assoc, Option, Some, None}
use Rattle.std.specs.declared.cmp.Ordering.{Ordering}
use Rattle.cob_source.specs.Tokens.{Lexeme}
use Rattle.cob_copybook_clauses.specs.Reading.{EachCut, StandInFront}
use Rattle.cob_move_conditions.specs.declared.relations.Relation.{Relation}
use Rattle.cob_move_conditions.specs.declared.words.ConditionWord.{ConditionWord}
use Rattle.cob_move_conditions.specs.declared.words.ConditionWord.TheVariants as word
use Rattle.cob_move_conditions.specs.Words.{IsConditionWord, IsPerhapsWord, condition_word}
use Rattle.cob_move_conditions.specs.Fronts.{OperandFirst}
use Rattle.cob_move_conditions.proofs.WordLemmas.{nothing_is_some}
use Rattle.cob_move_conditions.specs.Relations.{IsBehindOpposite, IsBehindOrder, IsNotOrder, IsOppositeWritten, IsOrEqual, IsOrderWritten, IsRelationBy, order_of_word, opposite_of_word}

-- no word is this one of conditions and another
pub two_words : (c d : ConditionWord) (w : Lexeme) → (c ≡ d → ⊥) → IsConditionWord c w → IsConditionWord d w → ⊥
two_words c d w other a b = let e : Some c ≡ Some d = sym a ∙ b in other cc

-- no word of conditions begins an operand
pub no_first : (c : ConditionWord) (w : Lexeme) (ws more : List Lexeme) → IsConditionWord c w → OperandFirst more → more ≡ w ∷ ws → ⊥
no_first c w ws more is fit e = let first : OperandFirst (w ∷ ws) = subst OperandFirst e fit in nothing_is_some c (sym first.0 ∙ is)

-- NOT names no order, and no opposite of one
pub not_order : (w : Lexeme) (order : Ordering) → IsConditionWord word.Not w → order_of_word (condition_word w) ≡ Some order → ⊥
not_order w order is e = nothing_is_some order (ap order_of_word (sym is) ∙ e)

pub not_opposite : (w : Lexeme) (order : Ordering) → IsConditionWord word.Not w → opposite_of_word (condition_word w) ≡ Some order → ⊥
not_opposite w order is e = nothing_is_some order (ap opposite_of_word (sym is) ∙ e)

pub behind_not_no_order : (order other : Ordering) (words ws more vs rest : List Lexeme) → IsNotOrder order ws → words ≡ ws ++ more → IsOrderWritten other vs → words ≡ vs ++ rest → ⊥
behind_not_no_order order other words ws more vs rest (w, own, is, ordered, e) cut (v, behind, named, goes, f) cut_again =
    let both : w ∷ (own ++ more) ≡ v ∷ (behind ++ rest) = ap (λ (t : List Lexeme). t ++ more) (sym e) ∙ sym cut ∙ cut_again ∙ ap (λ (t : List Lexeme). t ++ rest) f in
    let same : w ≡ v = cc in
    not_order v other (subst (IsConditionWord word.Not) same is) named

pub behind_not_no_opposite : (order other : Ordering) (words ws more vs rest : List Lexeme) → IsNotOrder order ws → words ≡ ws ++ more → IsOppositeWritten other vs → words ≡ vs ++ rest → ⊥
behind_not_no_opposite order other words ws more vs rest (w, own, is, ordered, e) cut (v, behind, named, goes, f) cut_again =
    let both : w ∷ (own ++ more) ≡ v ∷ (behind ++ rest) = ap (λ (t : List Lexeme). t ++ more) (sym e) ∙ sym cut ∙ cut_again ∙ ap (λ (t : List Lexeme). t ++ rest) f in
    let same : w ≡ v = cc in
    not_opposite v other (subst (IsConditionWord word.Not) same is) named

-- perhaps THAN and an operand are other words than perhaps THAN and OR
than_apart : (than more other left : List Lexeme) (w : Lexeme) → IsPerhapsWord word.Than than → OperandFirst more → IsPerhapsWord word.Than other → IsConditionWord word.Or w
    → than ++ more ≡ other ++ (w ∷ left) → ⊥
than_apart [] more [] left w a fit b is cut = no_first word.Or w left more is fit cut
than_apart [] more (u ∷ []) left w a fit b is cut = no_first word.Than u (w ∷ left) more b fit cut
than_apart [] more (u ∷ v ∷ other) left w a fit b is cut = absurd b
than_apart (t ∷ []) more [] left w a fit b is cut = let same : t ≡ w = cc in two_words word.Than word.Or w (λ e. cc) (subst (IsConditionWord word.Than) same a) is
than_apart (t ∷ []) more (u ∷ []) left w a fit b is cut = let tail : more ≡ w ∷ left = cc in no_first word.Or w left more is fit tail
than_apart (t ∷ []) more (u ∷ v ∷ other) left w a fit b is cut = absurd b
than_apart (t ∷ s ∷ than) more other left w a fit b is cut = absurd a

than_no_or : (than more behind rest : List Lexeme) → IsPerhapsWord word.Than than → OperandFirst more → IsOrEqual behind → than ++ more ≡ behind ++ rest → ⊥
than_no_or than more behind rest is fit or cut = than_apart than more or.than (or.equal ∷ (or.to ++ rest)) or.either is fit or.is_than or.is_either
    (cut ∙ ap (λ (t : List Lexeme). t ++ rest) or.words ∙ append_assoc or.than (or.either ∷ or.equal ∷ or.to) rest)

-- what has to stand behind the word of an opposite is no operand
behind_apart : (c : Option ConditionWord) (order other : Ordering) (behind more own rest : List Lexeme)
    → opposite_of_word c ≡ Some order → IsBehindOpposite c behind → order_of_word c ≡ Some other → IsBehindOrder c own → OperandFirst rest → own ++ rest ≡ behind ++ more → ⊥
behind_apart None order other behind more own rest a is b goes fit cut = nothing_is_some order a
behind_apart (Some word.And) order other behind more own rest a is b goes fit cut = nothing_is_some order a
behind_apart (Some word.Or) order other behind more own rest a is b goes fit cut = nothing_is_some order a
behind_apart (Some word.Not) order other behind more own rest a is b goes fit cut = nothing_is_some order a
behind_apart (Some word.Equals) order other behind more own rest a is b goes fit cut = nothing_is_some order a
behind_apart (Some word.Equal) order other behind more own rest a is b goes fit cut = nothing_is_some order a
behind_apart (Some word.LessSign) order other behind more own rest a is b goes fit cut = nothing_is_some order a
behind_apart (Some word.Less) order other behind more own rest a is b goes fit cut = than_no_or own rest behind more goes fit is cut
behind_apart (Some word.GreaterSign) order other behind more own rest a is b goes fit cut = nothing_is_some order a
behind_apart (Some word.Greater) order other behind more own rest a is b goes fit cut = than_no_or own rest behind more goes fit is cut
behind_apart (Some word.AtMost) order other behind more own rest a is b goes fit cut = nothing_is_some other b
behind_apart (Some word.AtLeast) order other behind more own rest a is b goes fit cut = nothing_is_some other b
behind_apart (Some word.Than) order other behind more own rest a is b goes fit cut = nothing_is_some order a
behind_apart (Some word.Numeric) order other behind more own rest a is b goes fit cut = nothing_is_some order a
behind_apart (Some word.Alphabetic) order other behind more own rest a is b goes fit cut = nothing_is_some order a
behind_apart (Some word.AlphabeticLower) order other behind more own rest a is b goes fit cut = nothing_is_some order a
behind_apart (Some word.AlphabeticUpper) order other behind more own rest a is b goes fit cut = nothing_is_some order a
behind_apart (Some word.Positive) order other behind more own rest a is b goes fit cut = nothing_is_some order a
behind_apart (Some word.Negative) order other behind more own rest a is b goes fit cut = nothing_is_some order a

pub opposite_no_order : (order other : Ordering) (words ws more vs rest : List Lexeme) → IsOppositeWritten order ws → words ≡ ws ++ more → IsOrderWritten other vs → OperandFirst rest → words ≡ vs ++ rest → ⊥
opposite_no_order order other words ws more vs rest (w, behind, named, goes, e) cut (v, own, ordered, is, f) fit cut_again =
    let both : v ∷ (own ++ rest) ≡ w ∷ (behind ++ more) = ap (λ (t : List Lexeme). t ++ rest) (sym f) ∙ sym cut_again ∙ cut ∙ ap (λ (t : List Lexeme). t ++ more) e in
    let same : v ≡ w = cc in
    let tail : own ++ rest ≡ behind ++ more = cc in
    behind_apart (condition_word w) order other behind more own rest named goes (subst (λ x. order_of_word (condition_word x) ≡ Some other) same ordered) (subst (λ x. IsBehindOrder (condition_word x) own) same is) fit tail

-- ---- a relation, by which reader answers

-- however the words are cut into words of this kind and an operand, they are this order, and these are left
abbrev pub ReadsOrder : (Ordering → List Lexeme → Type 0) → List Lexeme → Ordering → List Lexeme → Type 0
ReadsOrder Is words order behind = (o : Ordering) → EachCut (Is o) OperandFirst words (λ more. (order ≡ o) × (behind ≡ more))

-- they are never cut so
abbrev pub NoOrder : (Ordering → List Lexeme → Type 0) → List Lexeme → Type 0
NoOrder Is words = (o : Ordering) → EachCut (Is o) OperandFirst words (λ more. ⊥)

pub by_not : (words behind : List Lexeme) (order : Ordering) → StandInFront (IsNotOrder order) words behind → ReadsOrder IsNotOrder words order behind
    → (b : Bool) (o : Ordering) (ws more : List Lexeme) → IsRelationBy b o ws → OperandFirst more → words ≡ ws ++ more
    → ◌≡◌ {A = Relation} record { opposite = true; order = order } record { opposite = b; order = o } × (behind ≡ more)
by_not words behind order (own, is, e) reads false o ws more by fit cut = absurd (behind_not_no_order order o words own behind ws more is e by cut)
by_not words behind order (own, is, e) reads true o ws more (inl by) fit cut =
    let (a, b) = reads o ws more by fit cut in (ap {B = Relation} (λ x. record { opposite = true; order = x }) a, b)
by_not words behind order (own, is, e) reads true o ws more (inr by) fit cut = absurd (behind_not_no_opposite order o words own behind ws more is e by cut)

pub by_opposite : (words behind : List Lexeme) (order : Ordering) → NoOrder IsNotOrder words → StandInFront (IsOppositeWritten order) words behind → ReadsOrder IsOppositeWritten words order behind
    → (b : Bool) (o : Ordering) (ws more : List Lexeme) → IsRelationBy b o ws → OperandFirst more → words ≡ ws ++ more
    → ◌≡◌ {A = Relation} record { opposite = true; order = order } record { opposite = b; order = o } × (behind ≡ more)
by_opposite words behind order never (own, is, e) reads false o ws more by fit cut = absurd (opposite_no_order order o words own behind ws more is e by fit cut)
by_opposite words behind order never (own, is, e) reads true o ws more (inl by) fit cut = absurd (never o ws more by fit cut)
by_opposite words behind order never (own, is, e) reads true o ws more (inr by) fit cut =
    let (a, b) = reads o ws more by fit cut in (ap {B = Relation} (λ x. record { opposite = true; order = x }) a, b)

pub by_order : (words behind : List Lexeme) (order : Ordering) → NoOrder IsNotOrder words → NoOrder IsOppositeWritten words → ReadsOrder IsOrderWritten words order behind
    → (b : Bool) (o : Ordering) (ws more : List Lexeme) → IsRelationBy b o ws → OperandFirst more → words ≡ ws ++ more
    → ◌≡◌ {A = Relation} record { opposite = false; order = order } record { opposite = b; order = o } × (behind ≡ more)
by_order words behind order never nor reads false o ws more by fit cut =
    let (a, b) = reads o ws more by fit cut in (ap {B = Relation} (λ x. record { opposite = false; order = x }) a, b)
by_order words behind order never nor reads true o ws more (inl by) fit cut = absurd (never o ws more by fit cut)
by_order words behind order never nor reads true o ws more (inr by) fit cut = absurd (nor o ws more by fit cut)

pub by_none : (words : List Lexeme) → NoOrder IsNotOrder words → NoOrder IsOppositeWritten words → NoOrder IsOrderWritten words
    → (b : Bool) (o : Ordering) (ws more : List Lexeme) → IsRelationBy b o ws → OperandFirst more → words ≡ ws ++ more → ⊥
by_none words never nor neither false o ws more by fit cut = neither o ws more by fit cut
by_none words never nor neither true o ws more (inl by) fit cut = never o ws more by fit cut
by_none words never nor neither true o ws more (inr by) fit cut = nor o ws more by fit cut
