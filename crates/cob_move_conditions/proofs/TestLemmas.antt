-- Simple conditions: where each of their pieces ends.
use Rattle.std.proofs.Common.{◌≡◌, inl, inr, Bool, true, false, List, [], ◌∷◌, ◌++◌, refl, sym, ap, subst, ◌∙◌, append_assoc, Option, Some, None}
use Rattle.std.specs.declared.cmp.Ordering.{Ordering}
use Rattle.std.specs.declared.cmp.Ordering.TheVariants.{Equal}
use Rattle.std.specs.Prelude.{IfSome}
use Rattle.cob_source.specs.Tokens.{Lexeme}
use Rattle.cob_copybook_clauses.specs.declared.term.WordClass.{WordClass}
use Rattle.cob_copybook_clauses.specs.declared.term.WordClass.TheVariants as term
use Rattle.cob_copybook_clauses.specs.Terms.{word_class}
use Rattle.cob_copybook_clauses.specs.Clauses.{IsOptionalWord}
use Rattle.cob_copybook_clauses.specs.Reading.{NotFirstWord, StandInFront}
use Rattle.cob_move_statements.specs.Written.{SentReference, WrittenReference, WrittenSender}
use Rattle.cob_move_conditions.specs.declared.phrases.Quality.{Quality}
use Rattle.cob_move_conditions.specs.declared.phrases.Quality.TheVariants as quality
use Rattle.cob_move_conditions.specs.declared.relations.Relation.{Relation}
use Rattle.cob_move_conditions.specs.declared.words.ConditionWord.{ConditionWord}
use Rattle.cob_move_conditions.specs.declared.words.ConditionWord.TheVariants as word
use Rattle.cob_move_conditions.specs.Words.{IsConditionWord, condition_word}
use Rattle.cob_move_conditions.specs.Fronts.{NotConditionWordFirst}
use Rattle.cob_move_conditions.specs.Relations.{IsOrderWritten, IsRelationBy, opposite_of_word, order_of_word}
use Rattle.cob_move_conditions.specs.Conditions.{BeginsWithOperand, IsNegation, IsQualified, IsQualityWord, IsRelated, GoesBehind, quality_of_word}
use Rattle.cob_move_conditions.specs.Reading.{EndsTest, QualifiedBehind, goes_on_by_class}
use Rattle.cob_move_conditions.specs.Written.{WrittenTest, Relates, RelatesTo, StandsAlone, Has}
use Rattle.cob_move_conditions.proofs.RelationLemmas.{not_opposite, not_order}
use Rattle.cob_move_conditions.proofs.WordLemmas.{BeginsOperand, begins_no_end, begins_not, false_is_true, no_operand, nothing_is_some, operand_first, opposite_goes, order_goes, plain_goes, plain_word, qualified_first, quality_goes, related_first, relation_goes}

-- three pieces, before the rest
pub three_found : (words a behind b left d more : List Lexeme) → words ≡ a ++ behind → behind ≡ b ++ left → left ≡ d ++ more → words ≡ (a ++ (b ++ d)) ++ more
three_found words a behind b left d more e f g =
    e ∙ ap (λ (t : List Lexeme). a ++ t) (f ∙ ap (λ (t : List Lexeme). b ++ t) g ∙ sym (append_assoc b d more)) ∙ sym (append_assoc a (b ++ d) more)

pub three_split : (words ws a b d more : List Lexeme) → words ≡ ws ++ more → ws ≡ a ++ (b ++ d) → words ≡ a ++ (b ++ (d ++ more))
three_split words ws a b d more e f =
    e ∙ ap (λ (t : List Lexeme). t ++ more) f ∙ append_assoc a (b ++ d) more ∙ ap (λ (t : List Lexeme). a ++ t) (append_assoc b d more)

-- one word is in front of the same words
pub same_front : (w v : Lexeme) (ws vs : List Lexeme) → w ∷ ws ≡ v ∷ vs → w ≡ v
same_front w v ws vs e = cc

pub same_behind : (w v : Lexeme) (ws vs : List Lexeme) → w ∷ ws ≡ v ∷ vs → ws ≡ vs
same_behind w v ws vs e = cc

-- two pieces in front of the same words begin with one word
pub same_first : (words ws more vs rest xs ys : List Lexeme) (w v : Lexeme) → words ≡ ws ++ more → words ≡ vs ++ rest → ws ≡ w ∷ xs → vs ≡ v ∷ ys → w ≡ v
same_first words ws more vs rest xs ys w v e f g h =
    same_front w v (xs ++ more) (ys ++ rest) (ap (λ (t : List Lexeme). t ++ more) (sym g) ∙ sym e ∙ f ∙ ap (λ (t : List Lexeme). t ++ rest) h)

-- ---- relations and their operands

pub relation_no_is : (b : Bool) (o : Ordering) (relation more : List Lexeme) → IsRelationBy b o relation → NotFirstWord term.Is (relation ++ more)
relation_no_is b o relation more is =
    let (w, rest, e, goes) = relation_goes b o relation is in
    subst (λ (t : List Lexeme). NotFirstWord term.Is (t ++ more)) (sym e) (λ f. let never : term.Plain ≡ term.Is = sym (plain_goes w goes) ∙ f in cc)

pub ends_not : (t : WordClass) (more : List Lexeme) → goes_on_by_class t ≡ true → EndsTest more → NotFirstWord t more
ends_not t [] goes ends = tt
ends_not t (w ∷ more) goes ends = λ e. false_is_true (sym ends.0 ∙ ap goes_on_by_class e ∙ goes)

pub related_not : (t : WordClass) (r : Relation) (s : WrittenSender) (ws more : List Lexeme) → (term.Is ≡ t → ⊥) → (term.Plain ≡ t → ⊥) → (term.Zero ≡ t → ⊥) → IsRelated r s ws → NotFirstWord t (ws ++ more)
related_not t r s ws more a b c is =
    let (w, rest, e, begins) = related_first r s ws is in
    subst (λ (x : List Lexeme). NotFirstWord t (x ++ more)) (sym e) (λ f. begins_not t w (inl begins) a b c f)

pub qualified_not : (t : WordClass) (opposite : Bool) (q : Quality) (ws more : List Lexeme) → (term.Is ≡ t → ⊥) → (term.Plain ≡ t → ⊥) → (term.Zero ≡ t → ⊥) → IsQualified opposite q ws → NotFirstWord t (ws ++ more)
qualified_not t opposite q ws more a b c is =
    let (w, rest, e, begins) = qualified_first opposite q ws is in
    subst (λ (x : List Lexeme). NotFirstWord t (x ++ more)) (sym e) (λ f. begins_not t w begins a b c f)

-- ---- classes and signs

pub quality_no_class : (t : WordClass) (q : Quality) (w : Lexeme) → IsQualityWord q w → (term.Plain ≡ t → ⊥) → (term.Zero ≡ t → ⊥) → word_class w ≡ t → ⊥
quality_no_class t q w (inl named) a b e = a (sym (plain_goes w (quality_goes (condition_word w) q named)) ∙ e)
quality_no_class t q w (inr (zero, same)) a b e = b (sym zero ∙ e)

pub quality_no_not : (q : Quality) (w : Lexeme) → IsQualityWord q w → IsConditionWord word.Not w → ⊥
quality_no_not q w (inl named) is = nothing_is_some q (ap quality_of_word (sym is) ∙ named)
quality_no_not q w (inr (zero, same)) is = let never : term.Plain ≡ term.Zero = sym (plain_word w word.Not is) ∙ zero in cc

pub negation_no_is : (opposite : Bool) (q : Quality) (negation more : List Lexeme) (named : Lexeme) → IsNegation opposite negation → IsQualityWord q named → NotFirstWord term.Is (negation ++ named ∷ more)
negation_no_is false q negation more named negates names =
    subst (λ (t : List Lexeme). NotFirstWord term.Is (t ++ named ∷ more)) (sym negates) (λ f. quality_no_class term.Is q named names (λ e. cc) (λ e. cc) f)
negation_no_is true q negation more named (n, is, e) names =
    subst (λ (t : List Lexeme). NotFirstWord term.Is (t ++ named ∷ more)) (sym e) (λ f. let never : term.Plain ≡ term.Is = sym (plain_word n word.Not is) ∙ f in cc)

-- no word names an order and a class
order_no_quality : (c : Option ConditionWord) (o : Ordering) (q : Quality) → order_of_word c ≡ Some o → quality_of_word c ≡ Some q → ⊥
order_no_quality None o q a b = nothing_is_some o a
order_no_quality (Some word.And) o q a b = nothing_is_some o a
order_no_quality (Some word.Or) o q a b = nothing_is_some o a
order_no_quality (Some word.Not) o q a b = nothing_is_some o a
order_no_quality (Some word.Equals) o q a b = nothing_is_some q b
order_no_quality (Some word.Equal) o q a b = nothing_is_some q b
order_no_quality (Some word.LessSign) o q a b = nothing_is_some q b
order_no_quality (Some word.Less) o q a b = nothing_is_some q b
order_no_quality (Some word.GreaterSign) o q a b = nothing_is_some q b
order_no_quality (Some word.Greater) o q a b = nothing_is_some q b
order_no_quality (Some word.AtMost) o q a b = nothing_is_some o a
order_no_quality (Some word.AtLeast) o q a b = nothing_is_some o a
order_no_quality (Some word.Than) o q a b = nothing_is_some o a
order_no_quality (Some word.Numeric) o q a b = nothing_is_some o a
order_no_quality (Some word.Alphabetic) o q a b = nothing_is_some o a
order_no_quality (Some word.AlphabeticLower) o q a b = nothing_is_some o a
order_no_quality (Some word.AlphabeticUpper) o q a b = nothing_is_some o a
order_no_quality (Some word.Positive) o q a b = nothing_is_some o a
order_no_quality (Some word.Negative) o q a b = nothing_is_some o a

opposite_no_quality : (c : Option ConditionWord) (o : Ordering) (q : Quality) → opposite_of_word c ≡ Some o → quality_of_word c ≡ Some q → ⊥
opposite_no_quality None o q a b = nothing_is_some o a
opposite_no_quality (Some word.And) o q a b = nothing_is_some o a
opposite_no_quality (Some word.Or) o q a b = nothing_is_some o a
opposite_no_quality (Some word.Not) o q a b = nothing_is_some o a
opposite_no_quality (Some word.Equals) o q a b = nothing_is_some o a
opposite_no_quality (Some word.Equal) o q a b = nothing_is_some o a
opposite_no_quality (Some word.LessSign) o q a b = nothing_is_some o a
opposite_no_quality (Some word.Less) o q a b = nothing_is_some q b
opposite_no_quality (Some word.GreaterSign) o q a b = nothing_is_some o a
opposite_no_quality (Some word.Greater) o q a b = nothing_is_some q b
opposite_no_quality (Some word.AtMost) o q a b = nothing_is_some q b
opposite_no_quality (Some word.AtLeast) o q a b = nothing_is_some q b
opposite_no_quality (Some word.Than) o q a b = nothing_is_some o a
opposite_no_quality (Some word.Numeric) o q a b = nothing_is_some o a
opposite_no_quality (Some word.Alphabetic) o q a b = nothing_is_some o a
opposite_no_quality (Some word.AlphabeticLower) o q a b = nothing_is_some o a
opposite_no_quality (Some word.AlphabeticUpper) o q a b = nothing_is_some o a
opposite_no_quality (Some word.Positive) o q a b = nothing_is_some o a
opposite_no_quality (Some word.Negative) o q a b = nothing_is_some o a

order_word_no_quality : (o : Ordering) (q : Quality) (w : Lexeme) → order_of_word (condition_word w) ≡ Some o → IsQualityWord q w → ⊥
order_word_no_quality o q w named (inl names) = order_no_quality (condition_word w) o q named names
order_word_no_quality o q w named (inr (zero, same)) = let never : term.Plain ≡ term.Zero = sym (plain_goes w (order_goes (condition_word w) o named)) ∙ zero in cc

opposite_word_no_quality : (o : Ordering) (q : Quality) (w : Lexeme) → opposite_of_word (condition_word w) ≡ Some o → IsQualityWord q w → ⊥
opposite_word_no_quality o q w named (inl names) = opposite_no_quality (condition_word w) o q named names
opposite_word_no_quality o q w named (inr (zero, same)) = let never : term.Plain ≡ term.Zero = sym (plain_goes w (opposite_goes (condition_word w) o named)) ∙ zero in cc

-- an order is neither a class nor a sign
order_no_named : (o : Ordering) (q : Quality) (relation t rest : List Lexeme) (named : Lexeme) → IsOrderWritten o relation → IsQualityWord q named → relation ++ t ≡ named ∷ rest → ⊥
order_no_named o q relation t rest named (w, behind, orders, goes, e) names cut =
    let both : w ∷ (behind ++ t) ≡ named ∷ rest = ap (λ (x : List Lexeme). x ++ t) (sym e) ∙ cut in
    order_word_no_quality o q named (subst (λ x. order_of_word (condition_word x) ≡ Some o) (same_front w named (behind ++ t) rest both) orders) names

-- a relation is neither
relation_no_quality : (b opposite : Bool) (o : Ordering) (q : Quality) (relation t negation rest : List Lexeme) (named : Lexeme) → IsRelationBy b o relation → IsNegation opposite negation
    → IsQualityWord q named → relation ++ t ≡ negation ++ named ∷ rest → ⊥
relation_no_quality false false o q relation t negation rest named orders negates names cut =
    order_no_named o q relation t rest named orders names (cut ∙ ap (λ (x : List Lexeme). x ++ named ∷ rest) negates)
relation_no_quality false true o q relation t negation rest named (w, behind, orders, goes, e) (n, is, f) names cut =
    let both : w ∷ (behind ++ t) ≡ n ∷ (named ∷ rest) = ap (λ (x : List Lexeme). x ++ t) (sym e) ∙ cut ∙ ap (λ (x : List Lexeme). x ++ named ∷ rest) f in
    not_order n o is (subst (λ x. order_of_word (condition_word x) ≡ Some o) (same_front w n (behind ++ t) (named ∷ rest) both) orders)
relation_no_quality true false o q relation t negation rest named (inl (w, own, is, ordered, e)) negates names cut =
    let both : w ∷ (own ++ t) ≡ named ∷ rest = ap (λ (x : List Lexeme). x ++ t) (sym e) ∙ cut ∙ ap (λ (x : List Lexeme). x ++ named ∷ rest) negates in
    quality_no_not q named names (subst (IsConditionWord word.Not) (same_front w named (own ++ t) rest both) is)
relation_no_quality true true o q relation t negation rest named (inl (w, own, is, ordered, e)) (n, is_not, f) names cut =
    let both : w ∷ (own ++ t) ≡ n ∷ (named ∷ rest) = ap (λ (x : List Lexeme). x ++ t) (sym e) ∙ cut ∙ ap (λ (x : List Lexeme). x ++ named ∷ rest) f in
    order_no_named o q own t rest named ordered names (same_behind w n (own ++ t) (named ∷ rest) both)
relation_no_quality true false o q relation t negation rest named (inr (w, behind, orders, goes, e)) negates names cut =
    let both : w ∷ (behind ++ t) ≡ named ∷ rest = ap (λ (x : List Lexeme). x ++ t) (sym e) ∙ cut ∙ ap (λ (x : List Lexeme). x ++ named ∷ rest) negates in
    opposite_word_no_quality o q named (subst (λ x. opposite_of_word (condition_word x) ≡ Some o) (same_front w named (behind ++ t) rest both) orders) names
relation_no_quality true true o q relation t negation rest named (inr (w, behind, orders, goes, e)) (n, is, f) names cut =
    let both : w ∷ (behind ++ t) ≡ n ∷ (named ∷ rest) = ap (λ (x : List Lexeme). x ++ t) (sym e) ∙ cut ∙ ap (λ (x : List Lexeme). x ++ named ∷ rest) f in
    not_opposite n o is (subst (λ x. opposite_of_word (condition_word x) ≡ Some o) (same_front w n (behind ++ t) (named ∷ rest) both) orders)

-- IS in front of a word that is none
is_first : (v : Lexeme) (xs ys : List Lexeme) → word_class v ≡ term.Is → NotFirstWord term.Is ys → v ∷ xs ≡ ys → ⊥
is_first v xs ys is none e = let first : word_class v ≡ term.Is → ⊥ = subst (NotFirstWord term.Is) (sym e) none in first is

related_no_quality_by : (is other relation t negation rest : List Lexeme) (named : Lexeme) (b opposite : Bool) (o : Ordering) (q : Quality)
    → IsOptionalWord term.Is is → IsOptionalWord term.Is other → IsRelationBy b o relation → IsNegation opposite negation → IsQualityWord q named
    → is ++ (relation ++ t) ≡ other ++ (negation ++ named ∷ rest) → ⊥
related_no_quality_by [] [] relation t negation rest named b opposite o q x y related negates names cut = relation_no_quality b opposite o q relation t negation rest named related negates names cut
related_no_quality_by [] (v ∷ []) relation t negation rest named b opposite o q x y related negates names cut =
    is_first v (negation ++ named ∷ rest) (relation ++ t) y (relation_no_is b o relation t related) (sym cut)
related_no_quality_by (u ∷ []) [] relation t negation rest named b opposite o q x y related negates names cut =
    is_first u (relation ++ t) (negation ++ named ∷ rest) x (negation_no_is opposite q negation rest named negates names) cut
related_no_quality_by (u ∷ []) (v ∷ []) relation t negation rest named b opposite o q x y related negates names cut =
    relation_no_quality b opposite o q relation t negation rest named related negates names (same_behind u v (relation ++ t) (negation ++ named ∷ rest) cut)
related_no_quality_by (u ∷ w ∷ is) other relation t negation rest named b opposite o q x y related negates names cut = absurd x
related_no_quality_by [] (v ∷ w ∷ other) relation t negation rest named b opposite o q x y related negates names cut = absurd y
related_no_quality_by (u ∷ []) (v ∷ w ∷ other) relation t negation rest named b opposite o q x y related negates names cut = absurd y

pub related_no_quality : (r : Relation) (s : WrittenSender) (opposite : Bool) (q : Quality) (words ws more vs rest : List Lexeme) → IsRelated r s ws → words ≡ ws ++ more → IsQualified opposite q vs → words ≡ vs ++ rest → ⊥
related_no_quality r s opposite q words ws more vs rest is cut named cut_again =
    related_no_quality_by is.is named.is is.relation (is.operand ++ more) named.negation rest named.named r.opposite opposite r.order q is.noise named.noise is.related named.negates named.names
    (sym (three_split words ws is.is is.relation is.operand more cut is.words) ∙ three_split words vs named.is named.negation (named.named ∷ []) rest cut_again named.words)

pub related_no_end : (r : Relation) (s : WrittenSender) (words ws more : List Lexeme) → IsRelated r s ws → words ≡ ws ++ more → EndsTest words → ⊥
related_no_end r s words ws more is cut ends =
    let (w, rest, e, begins) = related_first r s ws is in
    begins_no_end w (rest ++ more) (inl begins) (subst EndsTest (cut ∙ ap (λ (t : List Lexeme). t ++ more) e) ends)

qualified_no_end : (opposite : Bool) (q : Quality) (words ws more : List Lexeme) → IsQualified opposite q ws → words ≡ ws ++ more → EndsTest words → ⊥
qualified_no_end opposite q words ws more is cut ends =
    let (w, rest, e, begins) = qualified_first opposite q ws is in
    begins_no_end w (rest ++ more) begins (subst EndsTest (cut ∙ ap (λ (t : List Lexeme). t ++ more) e) ends)

pub quality_no_end : (a : WrittenSender) (t : WrittenTest) (words ws more : List Lexeme) → QualifiedBehind a t ws → words ≡ ws ++ more → EndsTest words → ⊥
quality_no_end a (Has r opposite q) words ws more (e, is) cut ends = qualified_no_end opposite q words ws more is cut ends
quality_no_end a (Relates b r c) words ws more is cut ends = is
quality_no_end a (RelatesTo r c) words ws more is cut ends = is
quality_no_end a (StandsAlone b) words ws more is cut ends = is

-- ---- simple conditions, by which reader answers

-- however the words are cut into a relation with its operand and words behind it, they are this one, and these are left
abbrev pub ReadsRelated : List Lexeme → Relation → WrittenSender → List Lexeme → Type 0
ReadsRelated words r s left = (relation : Relation) (operand : WrittenSender) (ws more : List Lexeme) → IsRelated relation operand ws → NotFirstWord term.Of more → NotFirstWord term.OpenBracket more
    → words ≡ ws ++ more → (r ≡ relation) × (s ≡ operand) × (left ≡ more)

-- they are never cut so
abbrev pub NoRelated : List Lexeme → Type 0
NoRelated words = (relation : Relation) (operand : WrittenSender) (ws more : List Lexeme) → IsRelated relation operand ws → NotFirstWord term.Of more → NotFirstWord term.OpenBracket more
    → words ≡ ws ++ more → ⊥

abbrev pub NoQuality : WrittenSender → List Lexeme → Type 0
NoQuality a words = (t : WrittenTest) (ws more : List Lexeme) → QualifiedBehind a t ws → words ≡ ws ++ more → ⊥

-- a class or a sign of an entry, by what its words say
pub no_quality_of : (a : WrittenSender) (words : List Lexeme) → ((opposite : Bool) (q : Quality) (ws more : List Lexeme) → IsQualified opposite q ws → words ≡ ws ++ more → ⊥)
    → (t : WrittenTest) (ws more : List Lexeme) → QualifiedBehind a t ws → words ≡ ws ++ more → ⊥
no_quality_of a words never (Has r opposite q) ws more (e, is) cut = never opposite q ws more is cut
no_quality_of a words never (Relates b r c) ws more is cut = absurd is
no_quality_of a words never (RelatesTo r c) ws more is cut = absurd is
no_quality_of a words never (StandsAlone b) ws more is cut = absurd is

same_reference : (r s : WrittenReference) → SentReference r ≡ SentReference s → r ≡ s
same_reference r s e = cc

pub one_quality_of : (a : WrittenSender) (entry : WrittenReference) (opposite : Bool) (q : Quality) (words left : List Lexeme) → SentReference entry ≡ a
    → ((other : Bool) (p : Quality) (ws more : List Lexeme) → IsQualified other p ws → words ≡ ws ++ more → (opposite ≡ other) × (q ≡ p) × (left ≡ more))
    → (t : WrittenTest) (ws more : List Lexeme) → QualifiedBehind a t ws → words ≡ ws ++ more → (Has entry opposite q ≡ t) × (left ≡ more)
one_quality_of a entry opposite q words left is_a reads (Has r other p) ws more (e, is) cut =
    let (x, y, z) = reads other p ws more is cut in
    let same : entry ≡ r = same_reference entry r (is_a ∙ sym e) in
    let whole : Has entry opposite q ≡ Has r other p = cc in
    (whole, z)
one_quality_of a entry opposite q words left is_a reads (Relates b r c) ws more is cut = absurd is
one_quality_of a entry opposite q words left is_a reads (RelatesTo r c) ws more is cut = absurd is
one_quality_of a entry opposite q words left is_a reads (StandsAlone b) ws more is cut = absurd is

pub by_related : (words : List Lexeme) (a s : WrittenSender) (r : Relation) (left : List Lexeme) → StandInFront (IsRelated r s) words left → ReadsRelated words r s left
    → (t : WrittenTest) (ws more : List Lexeme) → GoesBehind a t ws → EndsTest more → words ≡ ws ++ more → (Relates a r s ≡ t) × (left ≡ more)
by_related words a s r left found reads (Relates b q c) ws more (e, is) ends cut =
    let (x, y, z) = reads q c ws more is (ends_not term.Of more refl ends) (ends_not term.OpenBracket more refl ends) cut in
    let same : a ≡ b = sym e in
    let whole : Relates a r s ≡ Relates b q c = cc in
    (whole, z)
by_related words a s r left (own, is, f) reads (StandsAlone b) ws more (e, none) ends cut =
    absurd (related_no_end r s words own left is f (subst EndsTest (sym (cut ∙ ap (λ (t : List Lexeme). t ++ more) none)) ends))
by_related words a s r left (own, is, f) reads (Has b opposite q) ws more (e, named) ends cut = absurd (related_no_quality r s opposite q words own left ws more is f named cut)
by_related words a s r left found reads (RelatesTo q c) ws more is ends cut = absurd is

pub by_quality : (words : List Lexeme) (a : WrittenSender) (t : WrittenTest) (left : List Lexeme) → NoRelated words → StandInFront (QualifiedBehind a t) words left
    → ((u : WrittenTest) (ws more : List Lexeme) → QualifiedBehind a u ws → words ≡ ws ++ more → (t ≡ u) × (left ≡ more))
    → (u : WrittenTest) (ws more : List Lexeme) → GoesBehind a u ws → EndsTest more → words ≡ ws ++ more → (t ≡ u) × (left ≡ more)
by_quality words a t left never found reads (Relates b q c) ws more (e, is) ends cut =
    absurd (never q c ws more is (ends_not term.Of more refl ends) (ends_not term.OpenBracket more refl ends) cut)
by_quality words a t left never (own, is, f) reads (StandsAlone b) ws more (e, none) ends cut =
    absurd (quality_no_end a t words own left is f (subst EndsTest (sym (cut ∙ ap (λ (x : List Lexeme). x ++ more) none)) ends))
by_quality words a t left never found reads (Has b opposite q) ws more is ends cut = reads (Has b opposite q) ws more is cut
by_quality words a t left never found reads (RelatesTo q c) ws more is ends cut = absurd is

pub by_none : (words : List Lexeme) (a : WrittenSender) → NoRelated words → NoQuality a words
    → (t : WrittenTest) (ws more : List Lexeme) → GoesBehind a t ws → EndsTest more → words ≡ ws ++ more → (StandsAlone a ≡ t) × (words ≡ more)
by_none words a never nor (Relates b q c) ws more (e, is) ends cut =
    absurd (never q c ws more is (ends_not term.Of more refl ends) (ends_not term.OpenBracket more refl ends) cut)
by_none words a never nor (StandsAlone b) ws more (e, none) ends cut = (ap StandsAlone (sym e), cut ∙ ap (λ (t : List Lexeme). t ++ more) none)
by_none words a never nor (Has b opposite q) ws more is ends cut = absurd (nor (Has b opposite q) ws more is cut)
by_none words a never nor (RelatesTo q c) ws more is ends cut = absurd is

-- what stands behind an operand does not go on with it
pub behind_not : (u : WordClass) (a : WrittenSender) (t : WrittenTest) (ws more : List Lexeme) → goes_on_by_class u ≡ true → (term.Is ≡ u → ⊥) → (term.Plain ≡ u → ⊥) → (term.Zero ≡ u → ⊥)
    → GoesBehind a t ws → EndsTest more → NotFirstWord u (ws ++ more)
behind_not u a (Relates b r c) ws more goes x y z (e, is) ends = related_not u r c ws more x y z is
behind_not u a (StandsAlone b) ws more goes x y z (e, none) ends = subst (λ (t : List Lexeme). NotFirstWord u (t ++ more)) (sym none) (ends_not u more goes ends)
behind_not u a (Has b opposite q) ws more goes x y z (e, is) ends = qualified_not u opposite q ws more x y z is
behind_not u a (RelatesTo r c) ws more goes x y z is ends = absurd is

-- a relation is no operand
pub related_no_begin : (r : Relation) (s : WrittenSender) (t : WrittenTest) (words ws more vs rest : List Lexeme) → IsRelated r s ws → words ≡ ws ++ more → BeginsWithOperand t vs → words ≡ vs ++ rest → ⊥
related_no_begin r s t words ws more vs rest is cut begins cut_again =
    let (w, xs, e, relates) = related_first r s ws is in
    let (v, ys, f, operand) = operand_first begins.first begins.operand begins.compared in
    let same = same_first words ws more vs rest xs (ys ++ begins.behind) w v cut cut_again e (begins.words ∙ ap (λ (x : List Lexeme). x ++ begins.behind) f) in
    no_operand w relates (subst BeginsOperand (sym same) operand)

-- ---- NOT in front

pub one_negation : (words left : List Lexeme) (w : Lexeme) → IsConditionWord word.Not w → words ≡ w ∷ left
    → (opposite : Bool) (ws more : List Lexeme) → IsNegation opposite ws → NotConditionWordFirst word.Not more → words ≡ ws ++ more → (true ≡ opposite) × (left ≡ more)
one_negation words left w is e false ws more none fit cut =
    let same : more ≡ w ∷ left = sym (cut ∙ ap (λ (t : List Lexeme). t ++ more) none) ∙ e in
    let never : IsConditionWord word.Not w → ⊥ = subst (NotConditionWordFirst word.Not) same fit in
    absurd (never is)
one_negation words left w is e true ws more (n, is_not, f) fit cut =
    (refl, same_behind w n left more (sym e ∙ cut ∙ ap (λ (t : List Lexeme). t ++ more) f))

pub no_negation : (words : List Lexeme) → ((w : Lexeme) (more : List Lexeme) → IsConditionWord word.Not w → words ≡ w ∷ more → ⊥)
    → (opposite : Bool) (ws more : List Lexeme) → IsNegation opposite ws → words ≡ ws ++ more → (false ≡ opposite) × (words ≡ more)
no_negation words never false ws more none cut = (refl, cut ∙ ap (λ (t : List Lexeme). t ++ more) none)
no_negation words never true ws more (n, is_not, f) cut = absurd (never n more is_not (cut ∙ ap (λ (t : List Lexeme). t ++ more) f))

pub quality_fits : (q : Quality) (w : Lexeme) (more : List Lexeme) → IsQualityWord q w → NotConditionWordFirst word.Not (w ∷ more)
quality_fits q w more is = λ e. quality_no_not q w is e

plain_is_zero : term.Plain ≡ term.Zero → ⊥
plain_is_zero e = cc

pub quality_zero : (q : Quality) (w : Lexeme) → word_class w ≡ term.Zero → IsQualityWord q w → Some (quality.Sign Equal) ≡ Some q
quality_zero q w zero (inl named) = let never : term.Plain ≡ term.Zero = sym (plain_goes w (quality_goes (condition_word w) q named)) ∙ zero in absurd (plain_is_zero never)
quality_zero q w zero (inr (is, same)) = ap Some (sym same)

pub some_same : (p q : Quality) → Some p ≡ Some q → p ≡ q
some_same p q e = cc

pub quality_found : (o : Option Quality) (w : Lexeme) → o ≡ quality_of_word (condition_word w) → IfSome o (λ q. IsQualityWord q w)
quality_found None w e = tt
quality_found (Some q) w e = inl (sym e)

pub quality_only : (o : Option Quality) (w : Lexeme) → o ≡ quality_of_word (condition_word w) → (word_class w ≡ term.Zero → ⊥) → (q : Quality) → IsQualityWord q w → o ≡ Some q
quality_only o w e other q (inl named) = e ∙ named
quality_only o w e other q (inr (zero, same)) = absurd (other zero)
