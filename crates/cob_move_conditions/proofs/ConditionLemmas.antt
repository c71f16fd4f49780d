-- Conditions: where each of their pieces ends, and chains of them.
use Rattle.std.specs.declared.cmp.Ordering.{Ordering}
use Rattle.std.proofs.Common.{◌≡◌, ◌⊎◌, inl, inr, Bool, false, true, List, [], ◌∷◌, ◌++◌, refl, sym, ap, subst, ◌∙◌, append_assoc, append-nil, Option, Some, None, arith, length, ◌≤◌}
use Rattle.std.proofs.lemmas.List.{length-append}
use Rattle.std.specs.Prelude.{IfOk, IfSome, Ok, Err, Result}
use denote.Ref.{Bor}
use Rattle.cob_source.specs.declared.token.Token.{Token}
use Rattle.cob_source.specs.Tokens.{Lexeme, lexemes}
use Rattle.cob_copybook_clauses.specs.declared.term.WordClass.{WordClass}
use Rattle.cob_copybook_clauses.specs.declared.term.WordClass.TheVariants as term
use Rattle.cob_copybook_clauses.specs.Terms.{word_class}
use Rattle.cob_copybook_clauses.specs.Clauses.{IsOptionalWord}
use Rattle.cob_copybook_clauses.specs.Reading.{NotFirstWord, StandInFront}
use Rattle.cob_move_statements.specs.Written.{WrittenSender}
use Rattle.cob_move_statements.specs.Statements.{Several}
use Rattle.cob_move_conditions.specs.declared.relations.Relation.{Relation}
use Rattle.cob_move_conditions.specs.declared.words.ConditionWord.{ConditionWord}
use Rattle.cob_move_conditions.specs.declared.words.ConditionWord.TheVariants as word
use Rattle.cob_move_conditions.specs.Words.{IsConditionWord, condition_word, condition_word_of}
use Rattle.cob_move_conditions.specs.Fronts.{NotConditionWordFirst}
use Rattle.cob_move_conditions.specs.Relations.{IsRelationBy, opposite_of_word, order_of_word}
use Rattle.cob_move_conditions.specs.Conditions.{BeginsWithOperand, IsConditionBy, IsRelated, IsWholeCondition, most_condition_words, Joining, Alone, ByNot, ByAnd, ByOr}
use Rattle.cob_move_conditions.specs.Reading.{ConditionInFront, EndsCondition, EndsTest, goes_on_by_class, goes_on_by_word}
use Rattle.cob_move_conditions.specs.Written.{WrittenCondition, WrittenTest, Relates, RelatesTo, StandsAlone, Has, Simple, InBrackets, BehindNot, WithAnd, WithOr, written_condition}
use Rattle.cob_move_conditions.specs.declared.phrases.ConditionPhrase.{ConditionPhrase}
use Rattle.cob_move_conditions.proofs.RelationLemmas.{not_opposite, not_order}
use Rattle.cob_move_conditions.proofs.WordLemmas.{BeginsOperand, begins_not, false_is_true, nothing_is_some, operand_first, plain_goes, plain_word, related_first, relation_goes}
use Rattle.cob_move_conditions.proofs.TestLemmas.{NoRelated, ReadsRelated, ends_not, related_no_begin, same_behind, same_front, three_split}

-- ---- what comes first

begin_first : (t : WrittenTest) (ws : List Lexeme) → BeginsWithOperand t ws → (w : Lexeme) × (rest : List Lexeme) × (ws ≡ w ∷ rest) × BeginsOperand w
begin_first t ws is =
    let (w, rest, e, begins) = operand_first is.first is.operand is.compared in
    (w, rest ++ is.behind, is.words ∙ ap (λ (x : List Lexeme). x ++ is.behind) e, begins)

single_first : (c : WrittenCondition) (ws : List Lexeme) → IsConditionBy Alone c ws → (w : Lexeme) × (rest : List Lexeme) × (ws ≡ w ∷ rest) × (BeginsOperand w ⊎ (word_class w ≡ term.OpenBracket))
single_first (Simple (Relates a r b)) ws (may, is) = let (w, rest, e, begins) = begin_first (Relates a r b) ws is in (w, rest, e, inl begins)
single_first (Simple (RelatesTo r b)) ws (may, is) = absurd may
single_first (Simple (StandsAlone a)) ws (may, is) = let (w, rest, e, begins) = begin_first (StandsAlone a) ws is in (w, rest, e, inl begins)
single_first (Simple (Has r opposite q)) ws (may, is) = let (w, rest, e, begins) = begin_first (Has r opposite q) ws is in (w, rest, e, inl begins)
single_first (InBrackets c) ws (before, after, own, opens, closes, is, e) = (before, own ++ after ∷ [], e, inr opens)
single_first (BehindNot c) ws is = absurd is.0
single_first (WithAnd c d) ws is = absurd is.0
single_first (WithOr c d) ws is = absurd is.0

no_single : (w : Lexeme) → goes_on_by_word (condition_word w) ≡ true → BeginsOperand w ⊎ (word_class w ≡ term.OpenBracket) → ⊥
no_single w goes (inl begins) = false_is_true (sym (ap goes_on_by_word begins.free) ∙ goes)
no_single w goes (inr opens) = let never : term.Plain ≡ term.OpenBracket = sym (plain_goes w goes) ∙ opens in cc

-- a relation without its subject is no condition in brackets, and none behind NOT
pub related_no_bracket : (r : Relation) (s : WrittenSender) (words ws more rest : List Lexeme) (w : Lexeme) → IsRelated r s ws → words ≡ ws ++ more → word_class w ≡ term.OpenBracket → words ≡ w ∷ rest → ⊥
related_no_bracket r s words ws more rest w is cut opens cut_again =
    let (v, xs, e, begins) = related_first r s ws is in
    let same = same_front v w (xs ++ more) rest (ap (λ (t : List Lexeme). t ++ more) (sym e) ∙ sym cut ∙ cut_again) in
    begins_not term.OpenBracket v (inl begins) (λ f. cc) (λ f. cc) (λ f. cc) (ap word_class same ∙ opens)

relation_no_not : (b : Bool) (o : Ordering) (relation t own : List Lexeme) (n v : Lexeme) (rest : List Lexeme) → IsRelationBy b o relation → IsConditionWord word.Not n
    → own ≡ v ∷ rest → BeginsOperand v ⊎ (word_class v ≡ term.OpenBracket) → relation ++ t ≡ n ∷ own → ⊥
relation_no_not false o relation t own n v rest (w, behind, orders, goes, e) is f begins cut =
    let both : w ∷ (behind ++ t) ≡ n ∷ own = ap (λ (x : List Lexeme). x ++ t) (sym e) ∙ cut in
    not_order n o is (subst (λ x. order_of_word (condition_word x) ≡ Some o) (same_front w n (behind ++ t) own both) orders)
relation_no_not true o relation t own n v rest (inl (w, behind, is_not, ordered, e)) is f begins cut =
    let (u, xs, g, goes) = relation_goes false o behind ordered in
    let both : w ∷ (behind ++ t) ≡ n ∷ own = ap (λ (x : List Lexeme). x ++ t) (sym e) ∙ cut in
    let tail : behind ++ t ≡ v ∷ rest = same_behind w n (behind ++ t) own both ∙ f in
    let same : u ≡ v = same_front u v (xs ++ t) rest (ap (λ (x : List Lexeme). x ++ t) (sym g) ∙ tail) in
    no_single v (subst (λ x. goes_on_by_word (condition_word x) ≡ true) same goes) begins
relation_no_not true o relation t own n v rest (inr (w, behind, orders, goes, e)) is f begins cut =
    let both : w ∷ (behind ++ t) ≡ n ∷ own = ap (λ (x : List Lexeme). x ++ t) (sym e) ∙ cut in
    not_opposite n o is (subst (λ x. opposite_of_word (condition_word x) ≡ Some o) (same_front w n (behind ++ t) own both) orders)

related_no_not_by : (is relation t own rest : List Lexeme) (n v : Lexeme) (b : Bool) (o : Ordering) → IsOptionalWord term.Is is → IsRelationBy b o relation → IsConditionWord word.Not n
    → own ≡ v ∷ rest → BeginsOperand v ⊎ (word_class v ≡ term.OpenBracket) → is ++ (relation ++ t) ≡ n ∷ own → ⊥
related_no_not_by [] relation t own rest n v b o noise related is f begins cut = relation_no_not b o relation t own n v rest related is f begins cut
related_no_not_by (u ∷ []) relation t own rest n v b o noise related is f begins cut =
    let never : term.Plain ≡ term.Is = sym (plain_word n word.Not is) ∙ ap word_class (sym (same_front u n (relation ++ t) own cut)) ∙ noise in cc
related_no_not_by (u ∷ w ∷ is) relation t own rest n v b o noise related is_not f begins cut = absurd noise

pub related_no_not : (r : Relation) (s : WrittenSender) (d : WrittenCondition) (words ws more own rest : List Lexeme) (n : Lexeme) → IsRelated r s ws → words ≡ ws ++ more → IsConditionWord word.Not n
    → IsConditionBy Alone d own → words ≡ n ∷ (own ++ rest) → ⊥
related_no_not r s d words ws more own rest n is cut is_not single cut_again =
    let (v, xs, e, begins) = single_first d own single in
    related_no_not_by is.is is.relation (is.operand ++ more) (own ++ rest) (xs ++ rest) n v r.opposite r.order is.noise is.related is_not (ap (λ (x : List Lexeme). x ++ rest) e) begins
    (sym (three_split words ws is.is is.relation is.operand more cut is.words) ∙ cut_again)

-- ---- NOT, by which reader answers

pub by_related : (words : List Lexeme) (r : Relation) (s : WrittenSender) (left : List Lexeme) → StandInFront (IsRelated r s) words left → ReadsRelated words r s left
    → (c : WrittenCondition) (ws more : List Lexeme) → IsConditionBy ByNot c ws → EndsTest more → words ≡ ws ++ more → (Simple (RelatesTo r s) ≡ c) × (left ≡ more)
by_related words r s left found reads (Simple (RelatesTo q b)) ws more (may, is) ends cut =
    let (x, y, z) = reads q b ws more is (ends_not term.Of more refl ends) (ends_not term.OpenBracket more refl ends) cut in
    let whole : Simple (RelatesTo r s) ≡ Simple (RelatesTo q b) = cc in
    (whole, z)
by_related words r s left (own, is, f) reads (Simple (Relates a q b)) ws more (may, begins) ends cut = absurd (related_no_begin r s (Relates a q b) words own left ws more is f begins cut)
by_related words r s left (own, is, f) reads (Simple (StandsAlone a)) ws more (may, begins) ends cut = absurd (related_no_begin r s (StandsAlone a) words own left ws more is f begins cut)
by_related words r s left (own, is, f) reads (Simple (Has e opposite q)) ws more (may, begins) ends cut = absurd (related_no_begin r s (Has e opposite q) words own left ws more is f begins cut)
by_related words r s left (own, is, f) reads (InBrackets d) ws more (before, after, inside, opens, closes, within, e) ends cut =
    absurd (related_no_bracket r s words own left ((inside ++ after ∷ []) ++ more) before is f opens (cut ∙ ap (λ (t : List Lexeme). t ++ more) e))
by_related words r s left (own, is, f) reads (BehindNot d) ws more (may, (n, inside, is_not, single, e)) ends cut =
    absurd (related_no_not r s d words own left inside more n is f is_not single (cut ∙ ap (λ (t : List Lexeme). t ++ more) e))
by_related words r s left found reads (WithAnd c d) ws more is ends cut = absurd is.0
by_related words r s left found reads (WithOr c d) ws more is ends cut = absurd is.0

-- a condition that NOT may join, without it, is one that nothing joins
pub without_not : (words : List Lexeme) → NoRelated words → ((n : Lexeme) (more : List Lexeme) → IsConditionWord word.Not n → words ≡ n ∷ more → ⊥)
    → (c : WrittenCondition) (ws more : List Lexeme) → IsConditionBy ByNot c ws → EndsTest more → words ≡ ws ++ more → IsConditionBy Alone c ws
without_not words never none (Simple (RelatesTo q b)) ws more (may, is) ends cut = absurd (never q b ws more is (ends_not term.Of more refl ends) (ends_not term.OpenBracket more refl ends) cut)
without_not words never none (Simple (Relates a q b)) ws more is ends cut = is
without_not words never none (Simple (StandsAlone a)) ws more is ends cut = is
without_not words never none (Simple (Has e opposite q)) ws more is ends cut = is
without_not words never none (InBrackets d) ws more is ends cut = is
without_not words never none (BehindNot d) ws more (may, (n, inside, is_not, single, e)) ends cut = absurd (none n (inside ++ more) is_not (cut ∙ ap (λ (t : List Lexeme). t ++ more) e))
without_not words never none (WithAnd c d) ws more is ends cut = absurd is.0
without_not words never none (WithOr c d) ws more is ends cut = absurd is.0

-- what stands behind NOT
pub record Negates (c : WrittenCondition) (left more : List Lexeme) : Type 0 where
  pub inner : WrittenCondition
  pub own : List Lexeme
  pub single : IsConditionBy Alone inner own
  pub same : c ≡ BehindNot inner
  pub words : left ≡ own ++ more

plain_no_bracket : term.Plain ≡ term.OpenBracket → ⊥
plain_no_bracket e = cc

pub not_begins : (n : Lexeme) (t : WrittenTest) (words left ws more : List Lexeme) → IsConditionWord word.Not n → words ≡ n ∷ left → BeginsWithOperand t ws → words ≡ ws ++ more → ⊥
not_begins n t words left ws more is_not e begins cut =
    let (w, rest, f, operand) = begin_first t ws begins in
    let same = same_front n w left (rest ++ more) (sym e ∙ cut ∙ ap (λ (x : List Lexeme). x ++ more) f) in
    nothing_is_some word.Not (sym operand.free ∙ ap condition_word (sym same) ∙ is_not)

pub with_not : (words left : List Lexeme) (n : Lexeme) → NoRelated words → IsConditionWord word.Not n → words ≡ n ∷ left
    → (c : WrittenCondition) (ws more : List Lexeme) → IsConditionBy ByNot c ws → EndsTest more → words ≡ ws ++ more → Negates c left more
with_not words left n never is_not e (Simple (RelatesTo q b)) ws more (may, is) ends cut =
    absurd (never q b ws more is (ends_not term.Of more refl ends) (ends_not term.OpenBracket more refl ends) cut)
with_not words left n never is_not e (Simple (Relates a q b)) ws more (may, is) ends cut = absurd (not_begins n (Relates a q b) words left ws more is_not e is cut)
with_not words left n never is_not e (Simple (StandsAlone a)) ws more (may, is) ends cut = absurd (not_begins n (StandsAlone a) words left ws more is_not e is cut)
with_not words left n never is_not e (Simple (Has r opposite q)) ws more (may, is) ends cut = absurd (not_begins n (Has r opposite q) words left ws more is_not e is cut)
with_not words left n never is_not e (InBrackets d) ws more (before, after, inside, opens, closes, within, f) ends cut =
    let same = same_front n before left ((inside ++ after ∷ []) ++ more) (sym e ∙ cut ∙ ap (λ (t : List Lexeme). t ++ more) f) in
    let never : term.Plain ≡ term.OpenBracket = sym (plain_word n word.Not is_not) ∙ ap word_class same ∙ opens in
    absurd (plain_no_bracket never)
with_not words left n never is_not e (BehindNot d) ws more (may, (m, inside, is, single, f)) ends cut =
    record { inner = d; own = inside; single = single; same = refl; words = same_behind n m left (inside ++ more) (sym e ∙ cut ∙ ap (λ (t : List Lexeme). t ++ more) f) }
with_not words left n never is_not e (WithAnd c d) ws more is ends cut = absurd is.0
with_not words left n never is_not e (WithOr c d) ws more is ends cut = absurd is.0

-- ---- brackets

-- what stands in brackets
pub record Encloses (c : WrittenCondition) (inside more : List Lexeme) : Type 0 where
  pub inner : WrittenCondition
  pub own : List Lexeme
  pub after : Lexeme
  pub whole : IsConditionBy ByOr inner own
  pub closes : word_class after ≡ term.CloseBracket
  pub same : c ≡ InBrackets inner
  pub words : inside ≡ own ++ after ∷ more

pub bracket_begins : (b : Lexeme) (t : WrittenTest) (words inside ws more : List Lexeme) → word_class b ≡ term.OpenBracket → words ≡ b ∷ inside → BeginsWithOperand t ws → words ≡ ws ++ more → ⊥
bracket_begins b t words inside ws more opens e begins cut =
    let (w, rest, f, operand) = begin_first t ws begins in
    let same = same_front b w inside (rest ++ more) (sym e ∙ cut ∙ ap (λ (x : List Lexeme). x ++ more) f) in
    operand.no_bracket (ap word_class (sym same) ∙ opens)

pub with_bracket : (words inside : List Lexeme) (b : Lexeme) → word_class b ≡ term.OpenBracket → words ≡ b ∷ inside
    → (c : WrittenCondition) (ws more : List Lexeme) → IsConditionBy Alone c ws → words ≡ ws ++ more → Encloses c inside more
with_bracket words inside b opens e (Simple (RelatesTo q s)) ws more (may, is) cut = absurd may
with_bracket words inside b opens e (Simple (Relates a q s)) ws more (may, is) cut = absurd (bracket_begins b (Relates a q s) words inside ws more opens e is cut)
with_bracket words inside b opens e (Simple (StandsAlone a)) ws more (may, is) cut = absurd (bracket_begins b (StandsAlone a) words inside ws more opens e is cut)
with_bracket words inside b opens e (Simple (Has r opposite q)) ws more (may, is) cut = absurd (bracket_begins b (Has r opposite q) words inside ws more opens e is cut)
with_bracket words inside b opens e (InBrackets d) ws more (before, after, own, opens_too, closes, within, f) cut =
    let tail = same_behind b before inside ((own ++ after ∷ []) ++ more) (sym e ∙ cut ∙ ap (λ (t : List Lexeme). t ++ more) f) in
    record { inner = d; own = own; after = after; whole = within; closes = closes; same = refl; words = tail ∙ append_assoc own (after ∷ []) more }
with_bracket words inside b opens e (BehindNot d) ws more is cut = absurd is.0
with_bracket words inside b opens e (WithAnd c d) ws more is cut = absurd is.0
with_bracket words inside b opens e (WithOr c d) ws more is cut = absurd is.0

-- without brackets it is a simple condition
pub without_bracket : (words : List Lexeme) → ((b : Lexeme) (more : List Lexeme) → word_class b ≡ term.OpenBracket → words ≡ b ∷ more → ⊥)
    → (c : WrittenCondition) (ws more : List Lexeme) → IsConditionBy Alone c ws → words ≡ ws ++ more → (t : WrittenTest) × BeginsWithOperand t ws × (c ≡ Simple t)
without_bracket words none (Simple (RelatesTo q s)) ws more (may, is) cut = absurd may
without_bracket words none (Simple (Relates a q s)) ws more (may, is) cut = (Relates a q s, is, refl)
without_bracket words none (Simple (StandsAlone a)) ws more (may, is) cut = (StandsAlone a, is, refl)
without_bracket words none (Simple (Has r opposite q)) ws more (may, is) cut = (Has r opposite q, is, refl)
without_bracket words none (InBrackets d) ws more (before, after, own, opens, closes, within, f) cut =
    absurd (none before ((own ++ after ∷ []) ++ more) opens (cut ∙ ap (λ (t : List Lexeme). t ++ more) f))
without_bracket words none (BehindNot d) ws more is cut = absurd is.0
without_bracket words none (WithAnd c d) ws more is cut = absurd is.0
without_bracket words none (WithOr c d) ws more is cut = absurd is.0

-- a simple condition that begins with an operand is one that nothing joins
pub begin_stands : (t : WrittenTest) (ws : List Lexeme) → BeginsWithOperand t ws → IsConditionBy Alone (Simple t) ws
begin_stands (Relates a r b) ws is = (tt, is)
begin_stands (RelatesTo r b) ws is = absurd is.goes_on
begin_stands (StandsAlone a) ws is = (tt, is)
begin_stands (Has r opposite q) ws is = (tt, is)

not_closed : (c : ConditionWord) (w : Lexeme) → word_class w ≡ term.CloseBracket → IsConditionWord c w → ⊥
not_closed c w closes is = let never : term.Plain ≡ term.CloseBracket = sym (plain_word w c is) ∙ closes in cc

pub bracket_ends : (w : Lexeme) (more : List Lexeme) → word_class w ≡ term.CloseBracket → EndsCondition ByOr (w ∷ more)
bracket_ends w more closes = (
  (ap goes_on_by_class closes, ap (λ t. goes_on_by_word (condition_word_of t w.text)) closes),
  (λ is. not_closed word.And w closes is),
  (λ is. not_closed word.Or w closes is),
)

-- ---- chains

-- conditions of one kind, joined by one word, are a condition of another kind
pub record Joins (inner outer : Joining) (x : ConditionWord) (join : WrittenCondition → WrittenCondition → WrittenCondition) : Type 0 where
  pub up : (c : WrittenCondition) (ws : List Lexeme) → IsConditionBy inner c ws → IsConditionBy outer c ws
  pub joined : (c d : WrittenCondition) (front own : List Lexeme) (w : Lexeme) → IsConditionBy outer c front → IsConditionWord x w → IsConditionBy inner d own → IsConditionBy outer (join c d) (front ++ w ∷ own)
  pub ends : (more : List Lexeme) → EndsCondition outer more → EndsCondition inner more
  pub ends_at : (w : Lexeme) (more : List Lexeme) → IsConditionWord x w → EndsCondition inner (w ∷ more)
  pub ends_before : (more : List Lexeme) → EndsCondition outer more → NotConditionWordFirst x more

-- the word and a condition behind it
abbrev pub IsNext : Joining → ConditionWord → WrittenCondition → List Lexeme → Type 0
IsNext inner x d ws = (w : Lexeme) × (own : List Lexeme) × IsConditionWord x w × IsConditionBy inner d own × (ws ≡ w ∷ own)

-- a condition, joined with others one behind another
abbrev pub joined_with : (WrittenCondition → WrittenCondition → WrittenCondition) → WrittenCondition → List WrittenCondition → WrittenCondition
joined_with join c [] = c
joined_with join c (d ∷ ds) = joined_with join (join c d) ds

-- the first of a chain, and the others
pub record Chain (inner : Joining) (x : ConditionWord) (join : WrittenCondition → WrittenCondition → WrittenCondition) (c : WrittenCondition) (ws : List Lexeme) : Type 0 where
  pub first : WrittenCondition
  pub front : List Lexeme
  pub others : List WrittenCondition
  pub own : List Lexeme
  pub is : IsConditionBy inner first front
  pub are : Several (IsNext inner x) others own
  pub same : c ≡ joined_with join first others
  pub words : ws ≡ front ++ own

alone : (inner : Joining) (x : ConditionWord) (join : WrittenCondition → WrittenCondition → WrittenCondition) (c : WrittenCondition) (ws : List Lexeme) → IsConditionBy inner c ws → Chain inner x join c ws
alone inner x join c ws is = record { first = c; front = ws; others = []; own = []; is = is; are = refl; same = refl; words = sym (append-nil ws) }

one_more : (inner : Joining) (x : ConditionWord) (ds : List WrittenCondition) (ws : List Lexeme) (d : WrittenCondition) (own : List Lexeme) → Several (IsNext inner x) ds ws → IsNext inner x d own
    → Several (IsNext inner x) (ds ++ d ∷ []) (ws ++ own)
one_more inner x [] ws d own none is = (own, [], is, ap (λ (t : List Lexeme). t ++ own) none ∙ sym (append-nil own), refl)
one_more inner x (e ∷ ds) ws d own (front, rest, first, f, are) is =
    (front, rest ++ own, first, ap (λ (t : List Lexeme). t ++ own) f ∙ append_assoc front rest own, one_more inner x ds rest d own are is)

joined_more : (join : WrittenCondition → WrittenCondition → WrittenCondition) (c d : WrittenCondition) (ds : List WrittenCondition) → joined_with join c (ds ++ d ∷ []) ≡ join (joined_with join c ds) d
joined_more join c d [] = refl
joined_more join c d (e ∷ ds) = joined_more join (join c e) d ds

longer : (inner : Joining) (x : ConditionWord) (join : WrittenCondition → WrittenCondition → WrittenCondition) (c d : WrittenCondition) (ws front own : List Lexeme) (w : Lexeme)
    → Chain inner x join c front → IsConditionWord x w → IsConditionBy inner d own → ws ≡ front ++ w ∷ own → Chain inner x join (join c d) ws
longer inner x join c d ws front own w chain is it e = record {
  first = chain.first;
  front = chain.front;
  others = chain.others ++ d ∷ [];
  own = chain.own ++ w ∷ own;
  is = chain.is;
  are = one_more inner x chain.others chain.own d (w ∷ own) chain.are (w, own, is, it, refl);
  same = ap (λ (y : WrittenCondition). join y d) chain.same ∙ sym (joined_more join chain.first d chain.others);
  words = e ∙ ap (λ (t : List Lexeme). t ++ w ∷ own) chain.words ∙ append_assoc chain.front chain.own (w ∷ own);
}

-- whatever condition of the other kind words are, so far it is this one, joined with others that are to come
pub record SoFar (inner outer : Joining) (x : ConditionWord) (join : WrittenCondition → WrittenCondition → WrittenCondition) (words rest : List Lexeme) (c : WrittenCondition) : Type 0 where
  pub done : List Lexeme
  pub is : IsConditionBy outer c done
  pub words_are : words ≡ done ++ rest
  pub only : (d : WrittenCondition) (ws more : List Lexeme) → IsConditionBy outer d ws → EndsCondition outer more → words ≡ ws ++ more
      → (ds : List WrittenCondition) × (own : List Lexeme) × Several (IsNext inner x) ds own × (d ≡ joined_with join c ds) × (rest ≡ own ++ more)

-- however words are cut into a condition of this kind and words behind it, it is this one, and these are left
abbrev pub ReadsCondition : Joining → List Lexeme → WrittenCondition → List Lexeme → Type 0
ReadsCondition j words c left = (d : WrittenCondition) (ws more : List Lexeme) → IsConditionBy j d ws → EndsCondition j more → words ≡ ws ++ more → (c ≡ d) × (left ≡ more)

-- they are never cut so
abbrev pub NoCondition : Joining → List Lexeme → Type 0
NoCondition j words = (d : WrittenCondition) (ws more : List Lexeme) → IsConditionBy j d ws → EndsCondition j more → words ≡ ws ++ more → ⊥

-- what follows the first of others
next_ends : (inner outer : Joining) (x : ConditionWord) (join : WrittenCondition → WrittenCondition → WrittenCondition) → Joins inner outer x join
    → (ds : List WrittenCondition) (own more : List Lexeme) → Several (IsNext inner x) ds own → EndsCondition outer more → EndsCondition inner (own ++ more)
next_ends inner outer x join laws [] own more none ends = subst (λ (t : List Lexeme). EndsCondition inner (t ++ more)) (sym none) (laws.ends more ends)
next_ends inner outer x join laws (d ∷ ds) own more (front, rest, (w, behind, is, it, e), f, are) ends =
    subst (λ (t : List Lexeme). EndsCondition inner (t ++ more)) (sym (f ∙ ap (λ (t : List Lexeme). t ++ rest) e)) (laws.ends_at w ((behind ++ rest) ++ more) is)

abbrev pub Chains : Joining → Joining → ConditionWord → (WrittenCondition → WrittenCondition → WrittenCondition) → Type 0
Chains inner outer x join = (c : WrittenCondition) (ws : List Lexeme) → IsConditionBy outer c ws → Chain inner x join c ws

pub begins : (inner outer : Joining) (x : ConditionWord) (join : WrittenCondition → WrittenCondition → WrittenCondition) → Joins inner outer x join → Chains inner outer x join
    → (words rest : List Lexeme) (c : WrittenCondition) → StandInFront (IsConditionBy inner c) words rest → ReadsCondition inner words c rest → SoFar inner outer x join words rest c
begins inner outer x join laws chains words rest c (own, is, e) reads = record {
  done = own;
  is = laws.up c own is;
  words_are = e;
  only = λ d ws more it ends cut.
      let chain = chains d ws it in
      let (same, left) = reads chain.first chain.front (chain.own ++ more) chain.is (next_ends inner outer x join laws chain.others chain.own more chain.are ends)
      (cut ∙ ap (λ (t : List Lexeme). t ++ more) chain.words ∙ append_assoc chain.front chain.own more) in
      (chain.others, chain.own, chain.are, chain.same ∙ ap (λ (y : WrittenCondition). joined_with join y chain.others) (sym same), left);
}

pub begins_none : (inner outer : Joining) (x : ConditionWord) (join : WrittenCondition → WrittenCondition → WrittenCondition) → Joins inner outer x join → Chains inner outer x join
    → (words : List Lexeme) → NoCondition inner words → NoCondition outer words
begins_none inner outer x join laws chains words never d ws more it ends cut =
    let chain = chains d ws it in
    never chain.first chain.front (chain.own ++ more) chain.is (next_ends inner outer x join laws chain.others chain.own more chain.are ends)
    (cut ∙ ap (λ (t : List Lexeme). t ++ more) chain.words ∙ append_assoc chain.front chain.own more)

-- the next of others stands behind the word
pub record NextIs (inner outer : Joining) (x : ConditionWord) (join : WrittenCondition → WrittenCondition → WrittenCondition) (d c : WrittenCondition) (left more : List Lexeme) : Type 0 where
  pub next : WrittenCondition
  pub front : List Lexeme
  pub others : List WrittenCondition
  pub own : List Lexeme
  pub is : IsConditionBy inner next front
  pub ends : EndsCondition inner (own ++ more)
  pub are : Several (IsNext inner x) others own
  pub same : d ≡ joined_with join (join c next) others
  pub words : left ≡ front ++ (own ++ more)

next_by : (inner outer : Joining) (x : ConditionWord) (join : WrittenCondition → WrittenCondition → WrittenCondition) → Joins inner outer x join
    → (rest left more : List Lexeme) (c d : WrittenCondition) (w : Lexeme) → IsConditionWord x w → rest ≡ w ∷ left → EndsCondition outer more
    → (ds : List WrittenCondition) (own : List Lexeme) → Several (IsNext inner x) ds own → d ≡ joined_with join c ds → rest ≡ own ++ more → NextIs inner outer x join d c left more
next_by inner outer x join laws rest left more c d w is e ends [] own none same cut =
    let first : NotConditionWordFirst x (w ∷ left) = subst (NotConditionWordFirst x) (sym (cut ∙ ap (λ (t : List Lexeme). t ++ more) none) ∙ e) (laws.ends_before more ends) in
    absurd (first is)
next_by inner outer x join laws rest left more c d w is e ends (n ∷ ds) own (front, behind, (v, inside, is_too, it, f), g, are) same cut =
    let whole : rest ≡ v ∷ (inside ++ (behind ++ more)) =
    cut ∙ ap (λ (t : List Lexeme). t ++ more) (g ∙ ap (λ (t : List Lexeme). t ++ behind) f) ∙ ap (λ (t : List Lexeme). v ∷ t) (append_assoc inside behind more) in
    record {
      next = n;
      front = inside;
      others = ds;
      own = behind;
      is = it;
      ends = next_ends inner outer x join laws ds behind more are ends;
      are = are;
      same = same;
      words = same_behind w v left (inside ++ (behind ++ more)) (sym e ∙ whole);
    }

pub goes_on : (inner outer : Joining) (x : ConditionWord) (join : WrittenCondition → WrittenCondition → WrittenCondition) → Joins inner outer x join
    → (words rest left behind : List Lexeme) (c n : WrittenCondition) → SoFar inner outer x join words rest c → (w : Lexeme) × IsConditionWord x w × (rest ≡ w ∷ left)
    → StandInFront (IsConditionBy inner n) left behind → ReadsCondition inner left n behind → SoFar inner outer x join words behind (join c n)
goes_on inner outer x join laws words rest left behind c n so (w, is, e) (own, it, f) reads = record {
  done = so.done ++ w ∷ own;
  is = laws.joined c n so.done own w so.is is it;
  words_are = so.words_are ∙ ap (λ (t : List Lexeme). so.done ++ t) (e ∙ ap (λ (t : List Lexeme). w ∷ t) f) ∙ sym (append_assoc so.done (w ∷ own) behind);
  only = λ d ws more ends_d ends cut.
      let (ds, all, are, same, g) = so.only d ws more ends_d ends cut in
      let next = next_by inner outer x join laws rest left more c d w is e ends ds all are same g in
      let (same_next, left_is) = reads next.next next.front (next.own ++ more) next.is next.ends next.words in
      (next.others, next.own, next.are, next.same ∙ ap (λ (y : WrittenCondition). joined_with join (join c y) next.others) (sym same_next), left_is);
}

pub goes_wrong : (inner outer : Joining) (x : ConditionWord) (join : WrittenCondition → WrittenCondition → WrittenCondition) → Joins inner outer x join
    → (words rest left : List Lexeme) (c : WrittenCondition) → SoFar inner outer x join words rest c → (w : Lexeme) × IsConditionWord x w × (rest ≡ w ∷ left)
    → NoCondition inner left → NoCondition outer words
goes_wrong inner outer x join laws words rest left c so (w, is, e) never d ws more it ends cut =
    let (ds, all, are, same, g) = so.only d ws more it ends cut in
    let next = next_by inner outer x join laws rest left more c d w is e ends ds all are same g in
    never next.next next.front (next.own ++ more) next.is next.ends next.words

last_of : (inner : Joining) (x : ConditionWord) (join : WrittenCondition → WrittenCondition → WrittenCondition) (rest more : List Lexeme) (c d : WrittenCondition)
    → ((w : Lexeme) (left : List Lexeme) → IsConditionWord x w → rest ≡ w ∷ left → ⊥) → (ds : List WrittenCondition) (own : List Lexeme) → Several (IsNext inner x) ds own → d ≡ joined_with join c ds
    → rest ≡ own ++ more → (c ≡ d) × (rest ≡ more)
last_of inner x join rest more c d none [] own empty same g = (sym same, g ∙ ap (λ (t : List Lexeme). t ++ more) empty)
last_of inner x join rest more c d none (n ∷ ds) own (front, behind, (v, inside, is, it, f), h, are) same g =
    absurd (none v ((inside ++ behind) ++ more) is (g ∙ ap (λ (t : List Lexeme). t ++ more) (h ∙ ap (λ (t : List Lexeme). t ++ behind) f)))

pub ends_here : (inner outer : Joining) (x : ConditionWord) (join : WrittenCondition → WrittenCondition → WrittenCondition)
    → (words rest : List Lexeme) (c : WrittenCondition) → SoFar inner outer x join words rest c → ((w : Lexeme) (left : List Lexeme) → IsConditionWord x w → rest ≡ w ∷ left → ⊥) → ReadsCondition outer words c rest
ends_here inner outer x join words rest c so none d ws more it ends cut =
    let (ds, all, are, same, g) = so.only d ws more it ends cut in
    last_of inner x join rest more c d none ds all are same g

-- ---- AND

and_up : (c : WrittenCondition) (ws : List Lexeme) → IsConditionBy ByNot c ws → IsConditionBy ByAnd c ws
and_up (Simple (Relates a r b)) ws is = is
and_up (Simple (RelatesTo r b)) ws is = is
and_up (Simple (StandsAlone a)) ws is = is
and_up (Simple (Has r opposite q)) ws is = is
and_up (InBrackets c) ws is = is
and_up (BehindNot c) ws is = is
and_up (WithAnd c d) ws is = absurd is.0
and_up (WithOr c d) ws is = absurd is.0

joins_here : (x : ConditionWord) (w : Lexeme) (more : List Lexeme) → IsConditionWord x w → goes_on_by_word (Some x) ≡ false → EndsTest (w ∷ more)
joins_here x w more is ends = (ap goes_on_by_class (plain_word w x is), ap goes_on_by_word is ∙ ends)

other_word : (x y : ConditionWord) (w : Lexeme) → (x ≡ y → ⊥) → IsConditionWord x w → IsConditionWord y w → ⊥
other_word x y w other is it = let e : Some x ≡ Some y = sym is ∙ it in other cc

pub and_joins : Joins ByNot ByAnd word.And WithAnd
and_joins = record {
  up = and_up;
  joined = λ c d front own w is x it. (tt, (front, own, w, is, x, it, refl));
  ends = λ more ends. ends.0;
  ends_at = λ w more is. joins_here word.And w more is refl;
  ends_before = λ more ends. ends.1;
}

pub and_chains : Chains ByNot ByAnd word.And WithAnd
and_chains (Simple (Relates a r b)) ws is = alone ByNot word.And WithAnd (Simple (Relates a r b)) ws is
and_chains (Simple (RelatesTo r b)) ws is = alone ByNot word.And WithAnd (Simple (RelatesTo r b)) ws is
and_chains (Simple (StandsAlone a)) ws is = alone ByNot word.And WithAnd (Simple (StandsAlone a)) ws is
and_chains (Simple (Has r opposite q)) ws is = alone ByNot word.And WithAnd (Simple (Has r opposite q)) ws is
and_chains (InBrackets c) ws is = alone ByNot word.And WithAnd (InBrackets c) ws is
and_chains (BehindNot c) ws is = alone ByNot word.And WithAnd (BehindNot c) ws is
and_chains (WithAnd c d) ws (may, (front, own, w, is, x, it, e)) = longer ByNot word.And WithAnd c d ws front own w (and_chains c front is) x it e
and_chains (WithOr c d) ws is = absurd is.0

-- ---- OR

or_up : (c : WrittenCondition) (ws : List Lexeme) → IsConditionBy ByAnd c ws → IsConditionBy ByOr c ws
or_up (Simple (Relates a r b)) ws is = is
or_up (Simple (RelatesTo r b)) ws is = is
or_up (Simple (StandsAlone a)) ws is = is
or_up (Simple (Has r opposite q)) ws is = is
or_up (InBrackets c) ws is = is
or_up (BehindNot c) ws is = is
or_up (WithAnd c d) ws is = is
or_up (WithOr c d) ws is = absurd is.0

pub or_joins : Joins ByAnd ByOr word.Or WithOr
or_joins = record {
  up = or_up;
  joined = λ c d front own w is x it. (tt, (front, own, w, is, x, it, refl));
  ends = λ more ends. (ends.0, ends.1);
  ends_at = λ w more is. (joins_here word.Or w more is refl, (λ it. other_word word.Or word.And w (λ e. cc) is it));
  ends_before = λ more ends. ends.2;
}

pub or_chains : Chains ByAnd ByOr word.Or WithOr
or_chains (Simple (Relates a r b)) ws is = alone ByAnd word.Or WithOr (Simple (Relates a r b)) ws is
or_chains (Simple (RelatesTo r b)) ws is = alone ByAnd word.Or WithOr (Simple (RelatesTo r b)) ws is
or_chains (Simple (StandsAlone a)) ws is = alone ByAnd word.Or WithOr (Simple (StandsAlone a)) ws is
or_chains (Simple (Has r opposite q)) ws is = alone ByAnd word.Or WithOr (Simple (Has r opposite q)) ws is
or_chains (InBrackets c) ws is = alone ByAnd word.Or WithOr (InBrackets c) ws is
or_chains (BehindNot c) ws is = alone ByAnd word.Or WithOr (BehindNot c) ws is
or_chains (WithAnd c d) ws is = alone ByAnd word.Or WithOr (WithAnd c d) ws is
or_chains (WithOr c d) ws (may, (front, own, w, is, x, it, e)) = longer ByAnd word.Or WithOr c d ws front own w (or_chains c front is) x it e

-- ---- what doesn't come first

pub not_first : (t : WordClass) (words : List Lexeme) → ((w : Lexeme) (more : List Lexeme) → word_class w ≡ t → words ≡ w ∷ more → ⊥) → NotFirstWord t words
not_first t [] never = tt
not_first t (w ∷ words) never = λ e. never w words e refl

-- ---- what nothing joins, NOT may join

not_up : (c : WrittenCondition) (ws : List Lexeme) → IsConditionBy Alone c ws → IsConditionBy ByNot c ws
not_up (Simple (Relates a r b)) ws is = is
not_up (Simple (RelatesTo r b)) ws is = absurd is.0
not_up (Simple (StandsAlone a)) ws is = is
not_up (Simple (Has r opposite q)) ws is = is
not_up (InBrackets c) ws is = is
not_up (BehindNot c) ws is = absurd is.0
not_up (WithAnd c d) ws is = absurd is.0
not_up (WithOr c d) ws is = absurd is.0

pub found_up : {E : Type 0} (words : List Lexeme) (answer : Result (Option (ConditionPhrase × Bor (List Token))) E)
    → IfOk answer (λ o. IfSome o (λ r. ConditionInFront Alone r.0 words (lexemes r.1.now))) → IfOk answer (λ o. IfSome o (λ r. ConditionInFront ByNot r.0 words (lexemes r.1.now)))
found_up words (Ok None) h = tt
found_up words (Ok (Some r)) (ws, is, e) = (ws, not_up (written_condition r.0) ws is, e)
found_up words (Err x) h = tt

-- ---- a simple condition

pub first_not : (t : WordClass) (words : List Lexeme) → NotFirstWord t words → (w : Lexeme) (more : List Lexeme) → word_class w ≡ t → words ≡ w ∷ more → ⊥
first_not t words none w more is e = let first : word_class w ≡ t → ⊥ = subst (NotFirstWord t) e none in first is

-- however words that no bracket begins are cut into a condition that nothing joins and words behind it, it is a simple one
pub by_simple : (words : List Lexeme) → NotFirstWord term.OpenBracket words → (t : WrittenTest) (left : List Lexeme)
    → ((u : WrittenTest) (ws more : List Lexeme) → BeginsWithOperand u ws → EndsTest more → words ≡ ws ++ more → (t ≡ u) × (left ≡ more))
    → (c : WrittenCondition) (ws more : List Lexeme) → IsConditionBy Alone c ws → EndsTest more → words ≡ ws ++ more → (Simple t ≡ c) × (left ≡ more)
by_simple words none t left reads c ws more is ends cut =
    let (u, begins, same) = without_bracket words (first_not term.OpenBracket words none) c ws more is cut in
    let (one, rest) = reads u ws more begins ends cut in
    (ap Simple one ∙ sym same, rest)

pub no_simple : (words : List Lexeme) → NotFirstWord term.OpenBracket words
    → ((u : WrittenTest) (ws more : List Lexeme) → BeginsWithOperand u ws → EndsTest more → words ≡ ws ++ more → ⊥)
    → (c : WrittenCondition) (ws more : List Lexeme) → IsConditionBy Alone c ws → EndsTest more → words ≡ ws ++ more → ⊥
no_simple words none never c ws more is ends cut =
    let (u, begins, same) = without_bracket words (first_not term.OpenBracket words none) c ws more is cut in
    never u ws more begins ends cut

-- ---- whole words

pub whole_found : (c : WrittenCondition) (words more : List Lexeme) → StandInFront (IsConditionBy ByOr c) words more → length more ≡ 0 → length words ≤ most_condition_words → IsWholeCondition c words
whole_found c words [] (own, is, e) none few = record { is = subst (IsConditionBy ByOr c) (sym (e ∙ append-nil own)) is; few = few }
whole_found c words (w ∷ more) (own, is, e) none few = let never : ⊥ = omega (arith, none) in absurd never

-- nothing is behind whole words
pub whole_cut : (words : List Lexeme) → words ≡ words ++ []
whole_cut words = sym (append-nil words)

pub nothing_behind : (more : List Lexeme) → more ≡ [] → length more ≡ 0
nothing_behind more e = ap length e

-- ---- what is left is no longer

pub front_fewer : (words own rest : List Lexeme) → words ≡ own ++ rest → length rest ≤ length words
front_fewer words own rest e = omega (arith, ap length e, length-append own rest)

pub word_fewer : (words rest left own behind : List Lexeme) (w : Lexeme) → length rest ≤ length words → rest ≡ w ∷ left → left ≡ own ++ behind → length behind ≤ length words
word_fewer words rest left own behind w fewer e f = omega (arith, fewer, ap length e, front_fewer left own behind f)
