-- Words are one condition.
use Rattle.std.proofs.Common.{◌≡◌, inl, inr, Bool, true, false, List, [], ◌∷◌, ◌++◌, refl, sym, ap, subst, ◌∙◌, append_assoc, Option, Some}
use Rattle.std.specs.declared.cmp.Ordering.{Ordering}
use Rattle.cob_source.specs.Tokens.{Lexeme}
use Rattle.cob_copybook_clauses.specs.declared.term.WordClass.{WordClass}
use Rattle.cob_copybook_clauses.specs.declared.term.WordClass.TheVariants as term
use Rattle.cob_copybook_clauses.specs.Terms.{word_class}
use Rattle.cob_copybook_clauses.specs.Clauses.{IsOptionalWord}
use Rattle.cob_copybook_clauses.specs.Reading.{NotFirstWord}
use Rattle.cob_move_statements.specs.Written.{WrittenSender}
use Rattle.cob_move_statements.proofs.OneLemmas.{sender_one}
use Rattle.cob_move_conditions.specs.declared.phrases.Quality.{Quality}
use Rattle.cob_move_conditions.specs.declared.relations.Relation.{Relation}
use Rattle.cob_move_conditions.specs.declared.words.ConditionWord.{ConditionWord}
use Rattle.cob_move_conditions.specs.declared.words.ConditionWord.TheVariants as word
use Rattle.cob_move_conditions.specs.Words.{IsConditionWord, IsPerhapsWord, condition_word}
use Rattle.cob_move_conditions.specs.Fronts.{NotConditionWordFirst, OperandFirst}
use Rattle.cob_move_conditions.specs.Relations.{IsBehindOpposite, IsBehindOrder, IsNotOrder, IsOppositeWritten, IsOrEqual, IsOrderWritten, IsRelationBy, opposite_of_word, order_of_word}
use Rattle.cob_move_conditions.specs.Conditions.{BeginsWithOperand, GoesBehind, IsConditionBy, IsNegation, IsQualified, IsQualityWord, IsRelated, Alone, ByNot, ByAnd, ByOr}
use Rattle.cob_move_conditions.specs.Laws.{OneWrittenCondition}
use Rattle.cob_move_conditions.specs.Reading.{EndsCondition, EndsTest}
use Rattle.cob_move_conditions.specs.Written.{WrittenCondition, WrittenTest, Relates, RelatesTo, StandsAlone, Has, Simple, InBrackets, BehindNot, WithAnd, WithOr}
use Rattle.cob_move_conditions.proofs.WordLemmas.{nothing_is_some, operand_fits, plain_word}
use Rattle.cob_move_conditions.proofs.RelationLemmas.{behind_not_no_opposite, behind_not_no_order, by_not, by_opposite, by_order, opposite_no_order, two_words}
use Rattle.cob_move_conditions.proofs.TestLemmas.{NoRelated, ReadsRelated, behind_not, by_none, by_quality, ends_not, negation_no_is, one_quality_of, quality_no_end, quality_no_not, quality_zero, related_no_begin, related_no_end, related_no_quality, relation_no_is, same_behind, same_front, some_same, three_split}
use Rattle.cob_move_conditions.proofs.TestLemmas as tests
use Rattle.cob_move_conditions.proofs.ConditionLemmas.{ReadsCondition, SoFar, and_chains, and_joins, begins, bracket_begins, bracket_ends, by_related, by_simple, ends_here, goes_on, not_begins, not_first, or_chains, or_joins, related_no_bracket, related_no_not, whole_cut, with_bracket, with_not, without_not}

-- ---- words that may be left out

optional_one : (t : WordClass) (n m a b : List Lexeme) → IsOptionalWord t n → IsOptionalWord t m → NotFirstWord t a → NotFirstWord t b → n ++ a ≡ m ++ b → a ≡ b
optional_one t [] [] a b p q f g e = e
optional_one t [] (v ∷ []) a b p q f g e = let never : word_class v ≡ t → ⊥ = subst (NotFirstWord t) e f in absurd (never q)
optional_one t [] (v ∷ u ∷ m) a b p q f g e = absurd q
optional_one t (w ∷ []) [] a b p q f g e = let never : word_class w ≡ t → ⊥ = subst (NotFirstWord t) (sym e) g in absurd (never p)
optional_one t (w ∷ []) (v ∷ []) a b p q f g e = same_behind w v a b e
optional_one t (w ∷ []) (v ∷ u ∷ m) a b p q f g e = absurd q
optional_one t (w ∷ x ∷ n) m a b p q f g e = absurd p

perhaps_one : (c : ConditionWord) (n m a b : List Lexeme) → IsPerhapsWord c n → IsPerhapsWord c m → NotConditionWordFirst c a → NotConditionWordFirst c b → n ++ a ≡ m ++ b → a ≡ b
perhaps_one c [] [] a b p q f g e = e
perhaps_one c [] (v ∷ []) a b p q f g e = let never : IsConditionWord c v → ⊥ = subst (NotConditionWordFirst c) e f in absurd (never q)
perhaps_one c [] (v ∷ u ∷ m) a b p q f g e = absurd q
perhaps_one c (w ∷ []) [] a b p q f g e = let never : IsConditionWord c w → ⊥ = subst (NotConditionWordFirst c) (sym e) g in absurd (never p)
perhaps_one c (w ∷ []) (v ∷ []) a b p q f g e = same_behind w v a b e
perhaps_one c (w ∷ []) (v ∷ u ∷ m) a b p q f g e = absurd q
perhaps_one c (w ∷ x ∷ n) m a b p q f g e = absurd p

first_no_to : (a : List Lexeme) → OperandFirst a → NotFirstWord term.To a
first_no_to [] h = absurd h
first_no_to (w ∷ a) h = h.1

first_no_word : (c : ConditionWord) (a : List Lexeme) → OperandFirst a → NotConditionWordFirst c a
first_no_word c [] h = absurd h
first_no_word c (w ∷ a) h = λ is. nothing_is_some c (sym h.0 ∙ is)

-- ---- relations

some_order : (o p : Ordering) → Some o ≡ Some p → o ≡ p
some_order o p e = cc

nothing_both : (n m a b : List Lexeme) → n ≡ [] → m ≡ [] → n ++ a ≡ m ++ b → a ≡ b
nothing_both n m a b p q e = sym (ap (λ (t : List Lexeme). t ++ a) p) ∙ e ∙ ap (λ (t : List Lexeme). t ++ b) q

behind_order_one : (c : Option ConditionWord) (n m a b : List Lexeme) → IsBehindOrder c n → IsBehindOrder c m → OperandFirst a → OperandFirst b → n ++ a ≡ m ++ b → a ≡ b
behind_order_one (Some word.Equal) n m a b p q f g e = optional_one term.To n m a b p q (first_no_to a f) (first_no_to b g) e
behind_order_one (Some word.Less) n m a b p q f g e = perhaps_one word.Than n m a b p q (first_no_word word.Than a f) (first_no_word word.Than b g) e
behind_order_one (Some word.Greater) n m a b p q f g e = perhaps_one word.Than n m a b p q (first_no_word word.Than a f) (first_no_word word.Than b g) e
behind_order_one c n m a b p q f g e = nothing_both n m a b p q e

order_one : (o p : Ordering) (n m a b : List Lexeme) → IsOrderWritten o n → IsOrderWritten p m → OperandFirst a → OperandFirst b → n ++ a ≡ m ++ b → (o ≡ p) × (a ≡ b)
order_one o p n m a b (w, behind, orders, goes, e) (v, other, orders_too, goes_too, f) x y cut =
    let both : w ∷ (behind ++ a) ≡ v ∷ (other ++ b) = ap (λ (t : List Lexeme). t ++ a) (sym e) ∙ cut ∙ ap (λ (t : List Lexeme). t ++ b) f in
    let same : w ≡ v = same_front w v (behind ++ a) (other ++ b) both in (
      some_order o p (sym orders ∙ ap (λ u. order_of_word (condition_word u)) same ∙ orders_too),
      behind_order_one (condition_word v) behind other a b (subst (λ u. IsBehindOrder (condition_word u) behind) same goes) goes_too x y (same_behind w v (behind ++ a) (other ++ b) both),
    )

or_equal_split : (n a : List Lexeme) → (is : IsOrEqual n) → n ++ a ≡ is.than ++ (is.either ∷ is.equal ∷ (is.to ++ a))
or_equal_split n a is = ap (λ (t : List Lexeme). t ++ a) is.words ∙ append_assoc is.than (is.either ∷ is.equal ∷ is.to) a

than_no_either : (w : Lexeme) (ws : List Lexeme) → IsConditionWord word.Or w → NotConditionWordFirst word.Than (w ∷ ws)
than_no_either w ws is = λ it. two_words word.Or word.Than w (λ e. cc) is it

or_equal_one : (n m a b : List Lexeme) → IsOrEqual n → IsOrEqual m → OperandFirst a → OperandFirst b → n ++ a ≡ m ++ b → a ≡ b
or_equal_one n m a b p q f g e =
    let first : p.either ∷ p.equal ∷ (p.to ++ a) ≡ q.either ∷ q.equal ∷ (q.to ++ b) =
    perhaps_one word.Than p.than q.than (p.either ∷ p.equal ∷ (p.to ++ a)) (q.either ∷ q.equal ∷ (q.to ++ b)) p.is_than q.is_than
    (than_no_either p.either (p.equal ∷ (p.to ++ a)) p.is_either) (than_no_either q.either (q.equal ∷ (q.to ++ b)) q.is_either) (sym (or_equal_split n a p) ∙ e ∙ or_equal_split m b q) in
    let second = same_behind p.either q.either (p.equal ∷ (p.to ++ a)) (q.equal ∷ (q.to ++ b)) first in
    optional_one term.To p.to q.to a b p.is_to q.is_to (first_no_to a f) (first_no_to b g) (same_behind p.equal q.equal (p.to ++ a) (q.to ++ b) second)

behind_opposite_one : (c : Option ConditionWord) (n m a b : List Lexeme) → IsBehindOpposite c n → IsBehindOpposite c m → OperandFirst a → OperandFirst b → n ++ a ≡ m ++ b → a ≡ b
behind_opposite_one (Some word.Less) n m a b p q f g e = or_equal_one n m a b p q f g e
behind_opposite_one (Some word.Greater) n m a b p q f g e = or_equal_one n m a b p q f g e
behind_opposite_one c n m a b p q f g e = nothing_both n m a b p q e

opposite_one : (o p : Ordering) (n m a b : List Lexeme) → IsOppositeWritten o n → IsOppositeWritten p m → OperandFirst a → OperandFirst b → n ++ a ≡ m ++ b → (o ≡ p) × (a ≡ b)
opposite_one o p n m a b (w, behind, orders, goes, e) (v, other, orders_too, goes_too, f) x y cut =
    let both : w ∷ (behind ++ a) ≡ v ∷ (other ++ b) = ap (λ (t : List Lexeme). t ++ a) (sym e) ∙ cut ∙ ap (λ (t : List Lexeme). t ++ b) f in
    let same : w ≡ v = same_front w v (behind ++ a) (other ++ b) both in (
      some_order o p (sym orders ∙ ap (λ u. opposite_of_word (condition_word u)) same ∙ orders_too),
      behind_opposite_one (condition_word v) behind other a b (subst (λ u. IsBehindOpposite (condition_word u) behind) same goes) goes_too x y (same_behind w v (behind ++ a) (other ++ b) both),
    )

not_order_one : (o p : Ordering) (n m a b : List Lexeme) → IsNotOrder o n → IsNotOrder p m → OperandFirst a → OperandFirst b → n ++ a ≡ m ++ b → (o ≡ p) × (a ≡ b)
not_order_one o p n m a b (w, own, is, orders, e) (v, other, it, orders_too, f) x y cut =
    let both : w ∷ (own ++ a) ≡ v ∷ (other ++ b) = ap (λ (t : List Lexeme). t ++ a) (sym e) ∙ cut ∙ ap (λ (t : List Lexeme). t ++ b) f in
    order_one o p own other a b orders orders_too x y (same_behind w v (own ++ a) (other ++ b) both)

relation_one : (b c : Bool) (o p : Ordering) (n m left more : List Lexeme) → IsRelationBy b o n → IsRelationBy c p m → OperandFirst left → OperandFirst more → n ++ left ≡ m ++ more
    → ◌≡◌ {A = Relation} record { opposite = b; order = o } record { opposite = c; order = p } × (left ≡ more)
relation_one false c o p n m left more is it f g cut =
    by_order (n ++ left) left o
    (λ q ws rest behind fit e. behind_not_no_order q o (n ++ left) ws rest n left behind e is refl)
    (λ q ws rest opposite fit e. opposite_no_order q o (n ++ left) ws rest n left opposite e is f refl)
    (λ q ws rest order fit e. order_one o q n ws left rest is order f fit e) c p m more it g cut
relation_one true c o p n m left more (inl is) it f g cut =
    by_not (n ++ left) left o (n, is, refl) (λ q ws rest behind fit e. not_order_one o q n ws left rest is behind f fit e) c p m more it g cut
relation_one true c o p n m left more (inr is) it f g cut =
    by_opposite (n ++ left) left o (λ q ws rest behind fit e. behind_not_no_opposite q o (n ++ left) ws rest n left behind e is refl) (n, is, refl)
    (λ q ws rest opposite fit e. opposite_one o q n ws left rest is opposite f fit e) c p m more it g cut

related_one : (r : Relation) (s : WrittenSender) (words ws left : List Lexeme) → IsRelated r s ws → NotFirstWord term.Of left → NotFirstWord term.OpenBracket left → words ≡ ws ++ left → ReadsRelated words r s left
related_one r s words ws left is no_of no_bracket e = λ q t vs more it nor_of nor_bracket f.
    let cut : is.is ++ (is.relation ++ (is.operand ++ left)) ≡ it.is ++ (it.relation ++ (it.operand ++ more)) =
    sym (three_split words ws is.is is.relation is.operand left e is.words) ∙ three_split words vs it.is it.relation it.operand more f it.words in
    let second = optional_one term.Is is.is it.is (is.relation ++ (is.operand ++ left)) (it.relation ++ (it.operand ++ more)) is.noise it.noise
    (relation_no_is r.opposite r.order is.relation (is.operand ++ left) is.related) (relation_no_is q.opposite q.order it.relation (it.operand ++ more) it.related) cut in
    let (same, third) = relation_one r.opposite q.opposite r.order q.order is.relation it.relation (is.operand ++ left) (it.operand ++ more) is.related it.related
    (operand_fits s is.operand left is.compared) (operand_fits t it.operand more it.compared) second in
    let (one, rest) = sender_one s t is.operand it.operand left more is.compared.0 it.compared.0 (no_of, no_bracket) (nor_of, nor_bracket) third in
    (same, one, rest)

-- ---- classes and signs

quality_one : (q p : Quality) (w : Lexeme) → IsQualityWord q w → IsQualityWord p w → q ≡ p
quality_one q p w (inl a) (inl b) = some_same q p (sym a ∙ b)
quality_one q p w (inl a) (inr (zero, same)) = some_same q p (sym (quality_zero q w zero (inl a)) ∙ ap Some (sym same))
quality_one q p w (inr (zero, same)) b = some_same q p (ap Some same ∙ quality_zero p w zero b)

negation_one : (b c : Bool) (n m : List Lexeme) (q p : Quality) (w v : Lexeme) (left more : List Lexeme) → IsNegation b n → IsNegation c m → IsQualityWord q w → IsQualityWord p v
    → n ++ w ∷ left ≡ m ++ v ∷ more → (b ≡ c) × (w ∷ left ≡ v ∷ more)
negation_one false false n m q p w v left more x y is it e = (refl, nothing_both n m (w ∷ left) (v ∷ more) x y e)
negation_one false true n m q p w v left more x (k, negates, f) is it e =
    let both : w ∷ left ≡ k ∷ (v ∷ more) = sym (ap (λ (t : List Lexeme). t ++ w ∷ left) x) ∙ e ∙ ap (λ (t : List Lexeme). t ++ v ∷ more) f in
    absurd (quality_no_not q w is (subst (IsConditionWord word.Not) (sym (same_front w k left (v ∷ more) both)) negates))
negation_one true false n m q p w v left more (k, negates, f) y is it e =
    let both : k ∷ (w ∷ left) ≡ v ∷ more = sym (ap (λ (t : List Lexeme). t ++ w ∷ left) f) ∙ e ∙ ap (λ (t : List Lexeme). t ++ v ∷ more) y in
    absurd (quality_no_not p v it (subst (IsConditionWord word.Not) (same_front k v (w ∷ left) more both) negates))
negation_one true true n m q p w v left more (k, negates, f) (l, negates_too, g) is it e =
    let both : k ∷ (w ∷ left) ≡ l ∷ (v ∷ more) = sym (ap (λ (t : List Lexeme). t ++ w ∷ left) f) ∙ e ∙ ap (λ (t : List Lexeme). t ++ v ∷ more) g in
    (refl, same_behind k l (w ∷ left) (v ∷ more) both)

qualified_one : (b c : Bool) (q p : Quality) (words ws left vs more : List Lexeme) → IsQualified b q ws → IsQualified c p vs → words ≡ ws ++ left → words ≡ vs ++ more → (b ≡ c) × (q ≡ p) × (left ≡ more)
qualified_one b c q p words ws left vs more is it e f =
    let cut : is.is ++ (is.negation ++ is.named ∷ left) ≡ it.is ++ (it.negation ++ it.named ∷ more) =
    sym (three_split words ws is.is is.negation (is.named ∷ []) left e is.words) ∙ three_split words vs it.is it.negation (it.named ∷ []) more f it.words in
    let second = optional_one term.Is is.is it.is (is.negation ++ is.named ∷ left) (it.negation ++ it.named ∷ more) is.noise it.noise
    (negation_no_is b q is.negation left is.named is.negates is.names) (negation_no_is c p it.negation more it.named it.negates it.names) cut in
    let (same, third) = negation_one b c is.negation it.negation q p is.named it.named left more is.negates it.negates is.names it.names second in
    let named = same_front is.named it.named left more third in
    (same, quality_one q p it.named (subst (IsQualityWord q) named is.names) it.names, same_behind is.named it.named left more third)

-- ---- simple conditions

goes_one : (a : WrittenSender) (t u : WrittenTest) (words ws left vs more : List Lexeme) → GoesBehind a t ws → GoesBehind a u vs → EndsTest left → EndsTest more → words ≡ ws ++ left → words ≡ vs ++ more
    → (t ≡ u) × (left ≡ more)
goes_one a (Relates b r s) u words ws left vs more (same, is) it x y e f =
    let k = tests.by_related words a s r left (ws, is, e) (related_one r s words ws left is (ends_not term.Of left refl x) (ends_not term.OpenBracket left refl x) e) u vs more it y f in
    (ap (λ (c : WrittenSender). Relates c r s) same ∙ k.0, k.1)
goes_one a (StandsAlone b) u words ws left vs more (same, none) it x y e f =
    let here : words ≡ left = e ∙ ap (λ (t : List Lexeme). t ++ left) none in
    let ends : EndsTest words = subst EndsTest (sym here) x in
    let k = by_none words a (λ q s own rest is no_of no_bracket g. related_no_end q s words own rest is g ends) (λ t own rest is g. quality_no_end a t words own rest is g ends) u vs more it y f in
    (ap StandsAlone same ∙ k.0, sym here ∙ k.1)
goes_one a (Has r b q) u words ws left vs more (same, is) it x y e f =
    by_quality words a (Has r b q) left (λ p s own rest related no_of no_bracket g. related_no_quality p s b q words own rest ws left related g is e) (ws, (same, is), e)
    (one_quality_of a r b q words left same (λ c p own rest named g. qualified_one b c q p words ws left own rest is named e g)) u vs more it y f
goes_one a (RelatesTo r s) u words ws left vs more is it x y e f = absurd is

begin_split : (t : WrittenTest) (words ws left : List Lexeme) → (is : BeginsWithOperand t ws) → words ≡ ws ++ left → words ≡ is.operand ++ (is.behind ++ left)
begin_split t words ws left is e = e ∙ ap (λ (x : List Lexeme). x ++ left) is.words ∙ append_assoc is.operand is.behind left

begin_one : (t u : WrittenTest) (words ws left vs more : List Lexeme) → BeginsWithOperand t ws → BeginsWithOperand u vs → EndsTest left → EndsTest more → words ≡ ws ++ left → words ≡ vs ++ more
    → (t ≡ u) × (left ≡ more)
begin_one t u words ws left vs more is it x y e f =
    let (same, rest) = sender_one is.first it.first is.operand it.operand (is.behind ++ left) (it.behind ++ more) is.compared.0 it.compared.0 (
      behind_not term.Of is.first t is.behind left refl (λ g. cc) (λ g. cc) (λ g. cc) is.goes_on x,
      behind_not term.OpenBracket is.first t is.behind left refl (λ g. cc) (λ g. cc) (λ g. cc) is.goes_on x,
    ) (
      behind_not term.Of it.first u it.behind more refl (λ g. cc) (λ g. cc) (λ g. cc) it.goes_on y,
      behind_not term.OpenBracket it.first u it.behind more refl (λ g. cc) (λ g. cc) (λ g. cc) it.goes_on y,
    )
    (sym (begin_split t words ws left is e) ∙ begin_split u words vs more it f) in
    goes_one it.first t u (is.behind ++ left) is.behind left it.behind more (subst (λ (a : WrittenSender). GoesBehind a t is.behind) same is.goes_on) it.goes_on x y refl rest

-- ---- conditions

-- whatever condition words are that begin with this one
record Reads (c : WrittenCondition) : Type 0 where
  alone : (words ws left : List Lexeme) → IsConditionBy Alone c ws → EndsTest left → words ≡ ws ++ left → ReadsCondition Alone words c left
  negated : (words ws left : List Lexeme) → IsConditionBy ByNot c ws → EndsTest left → words ≡ ws ++ left → ReadsCondition ByNot words c left
  conjoined : (words ws left : List Lexeme) → IsConditionBy ByAnd c ws → EndsTest left → words ≡ ws ++ left → SoFar ByNot ByAnd word.And WithAnd words left c
  disjoined : (words ws left : List Lexeme) → IsConditionBy ByOr c ws → EndsCondition ByAnd left → words ≡ ws ++ left → SoFar ByAnd ByOr word.Or WithOr words left c

no_word : (x : ConditionWord) (left : List Lexeme) → NotConditionWordFirst x left → (w : Lexeme) (rest : List Lexeme) → IsConditionWord x w → left ≡ w ∷ rest → ⊥
no_word x left none w rest is e = let never : IsConditionWord x w → ⊥ = subst (NotConditionWordFirst x) e none in never is

and_reads : (c : WrittenCondition) → ((words ws left : List Lexeme) → IsConditionBy ByAnd c ws → EndsTest left → words ≡ ws ++ left → SoFar ByNot ByAnd word.And WithAnd words left c)
    → (words ws left : List Lexeme) → IsConditionBy ByAnd c ws → EndsCondition ByAnd left → words ≡ ws ++ left → ReadsCondition ByAnd words c left
and_reads c so words ws left is ends e = ends_here ByNot ByAnd word.And WithAnd words left c (so words ws left is ends.0 e) (no_word word.And left ends.1)

or_reads : (c : WrittenCondition) → ((words ws left : List Lexeme) → IsConditionBy ByOr c ws → EndsCondition ByAnd left → words ≡ ws ++ left → SoFar ByAnd ByOr word.Or WithOr words left c)
    → (words ws left : List Lexeme) → IsConditionBy ByOr c ws → EndsCondition ByOr left → words ≡ ws ++ left → ReadsCondition ByOr words c left
or_reads c so words ws left is ends e = ends_here ByAnd ByOr word.Or WithOr words left c (so words ws left is (ends.0, ends.1) e) (no_word word.Or left ends.2)

-- no AND joins it, outside of brackets
abbrev IsNoAnd : WrittenCondition → Type 0
IsNoAnd (Simple t) = Unit {0}
IsNoAnd (InBrackets c) = Unit {0}
IsNoAnd (BehindNot c) = Unit {0}
IsNoAnd (WithAnd c d) = ⊥
IsNoAnd (WithOr c d) = ⊥

and_down : (c : WrittenCondition) (ws : List Lexeme) → IsNoAnd c → IsConditionBy ByAnd c ws → IsConditionBy ByNot c ws
and_down (Simple (Relates a r b)) ws none is = is
and_down (Simple (RelatesTo r b)) ws none is = is
and_down (Simple (StandsAlone a)) ws none is = is
and_down (Simple (Has r opposite q)) ws none is = is
and_down (InBrackets c) ws none is = is
and_down (BehindNot c) ws none is = is
and_down (WithAnd c d) ws none is = absurd none
and_down (WithOr c d) ws none is = absurd none

-- no OR
abbrev IsNoOr : WrittenCondition → Type 0
IsNoOr (Simple t) = Unit {0}
IsNoOr (InBrackets c) = Unit {0}
IsNoOr (BehindNot c) = Unit {0}
IsNoOr (WithAnd c d) = Unit {0}
IsNoOr (WithOr c d) = ⊥

or_down : (c : WrittenCondition) (ws : List Lexeme) → IsNoOr c → IsConditionBy ByOr c ws → IsConditionBy ByAnd c ws
or_down (Simple (Relates a r b)) ws none is = is
or_down (Simple (RelatesTo r b)) ws none is = is
or_down (Simple (StandsAlone a)) ws none is = is
or_down (Simple (Has r opposite q)) ws none is = is
or_down (InBrackets c) ws none is = is
or_down (BehindNot c) ws none is = is
or_down (WithAnd c d) ws none is = is
or_down (WithOr c d) ws none is = absurd none

or_by_and : (c : WrittenCondition) → IsNoOr c → ((words ws left : List Lexeme) → IsConditionBy ByAnd c ws → EndsTest left → words ≡ ws ++ left → SoFar ByNot ByAnd word.And WithAnd words left c)
    → (words ws left : List Lexeme) → IsConditionBy ByOr c ws → EndsCondition ByAnd left → words ≡ ws ++ left → SoFar ByAnd ByOr word.Or WithOr words left c
or_by_and c none so words ws left is ends e =
    let lower = or_down c ws none is in
    begins ByAnd ByOr word.Or WithOr or_joins or_chains words left c (ws, lower, e) (and_reads c so words ws left lower ends e)

and_by_not : (c : WrittenCondition) → IsNoAnd c → ((words ws left : List Lexeme) → IsConditionBy ByNot c ws → EndsTest left → words ≡ ws ++ left → ReadsCondition ByNot words c left)
    → (words ws left : List Lexeme) → IsConditionBy ByAnd c ws → EndsTest left → words ≡ ws ++ left → SoFar ByNot ByAnd word.And WithAnd words left c
and_by_not c none reads words ws left is ends e =
    let lower = and_down c ws none is in
    begins ByNot ByAnd word.And WithAnd and_joins and_chains words left c (ws, lower, e) (reads words ws left lower ends e)

-- a condition that neither AND nor OR joins
lone : (c : WrittenCondition) → IsNoAnd c → IsNoOr c → ((words ws left : List Lexeme) → IsConditionBy Alone c ws → EndsTest left → words ≡ ws ++ left → ReadsCondition Alone words c left)
    → ((words ws left : List Lexeme) → IsConditionBy ByNot c ws → EndsTest left → words ≡ ws ++ left → ReadsCondition ByNot words c left) → Reads c
lone c no_and no_or alone negated =
    let conjoined = and_by_not c no_and negated in
    record { alone = alone; negated = negated; conjoined = conjoined; disjoined = or_by_and c no_or conjoined }

-- what nothing joins is no relation without its subject, and NOT doesn't begin it
not_reads : (c : WrittenCondition) (words left : List Lexeme) → NoRelated words → ((n : Lexeme) (more : List Lexeme) → IsConditionWord word.Not n → words ≡ n ∷ more → ⊥) → ReadsCondition Alone words c left
    → ReadsCondition ByNot words c left
not_reads c words left never none reads = λ d vs more it ends f. reads d vs more (without_not words never none d vs more it ends f) ends f

simple_alone : (t : WrittenTest) (words ws left : List Lexeme) → BeginsWithOperand t ws → EndsTest left → words ≡ ws ++ left → ReadsCondition Alone words (Simple t) left
simple_alone t words ws left is ends e =
    by_simple words (not_first term.OpenBracket words (λ b inside opens f. bracket_begins b t words inside ws left opens f is e)) t left
    (λ u vs more it ends_too f. begin_one t u words ws left vs more is it ends ends_too e f)

simple_negated : (t : WrittenTest) (words ws left : List Lexeme) → BeginsWithOperand t ws → EndsTest left → words ≡ ws ++ left → ReadsCondition ByNot words (Simple t) left
simple_negated t words ws left is ends e =
    not_reads (Simple t) words left (λ r s own rest related no_of no_bracket f. related_no_begin r s t words own rest ws left related f is e)
    (λ n more is_not f. not_begins n t words more ws left is_not f is e) (simple_alone t words ws left is ends e)

begins_here : (t : WrittenTest) → ((ws : List Lexeme) → IsConditionBy Alone (Simple t) ws → BeginsWithOperand t ws) → ((ws : List Lexeme) → IsConditionBy ByNot (Simple t) ws → BeginsWithOperand t ws) → Reads (Simple t)
begins_here t stands joins =
    lone (Simple t) tt tt (λ words ws left is ends e. simple_alone t words ws left (stands ws is) ends e) (λ words ws left is ends e. simple_negated t words ws left (joins ws is) ends e)

relates_here : (r : Relation) (s : WrittenSender) → Reads (Simple (RelatesTo r s))
relates_here r s =
    lone (Simple (RelatesTo r s)) tt tt (λ words ws left is ends e. absurd is.0)
    (λ words ws left is ends e.
    by_related words r s left (ws, is.1, e) (related_one r s words ws left is.1 (ends_not term.Of left refl ends) (ends_not term.OpenBracket left refl ends) e))

simple_reads : (t : WrittenTest) → Reads (Simple t)
simple_reads (Relates a r b) = begins_here (Relates a r b) (λ ws is. is.1) (λ ws is. is.1)
simple_reads (RelatesTo r b) = relates_here r b
simple_reads (StandsAlone a) = begins_here (StandsAlone a) (λ ws is. is.1) (λ ws is. is.1)
simple_reads (Has r opposite q) = begins_here (Has r opposite q) (λ ws is. is.1) (λ ws is. is.1)

brackets_alone : (c : WrittenCondition) → Reads c → (words ws left : List Lexeme) → IsConditionBy Alone (InBrackets c) ws → EndsTest left → words ≡ ws ++ left → ReadsCondition Alone words (InBrackets c) left
brackets_alone c reads words ws left (before, after, own, opens, closes, is, e) ends f = λ d vs more it ends_too g.
    let inside : List Lexeme = own ++ after ∷ left in
    let whole : words ≡ before ∷ inside = f ∙ ap (λ (t : List Lexeme). t ++ left) e ∙ ap (λ (t : List Lexeme). before ∷ t) (append_assoc own (after ∷ []) left) in
    let encloses = with_bracket words inside before opens whole d vs more it g in
    let (same, rest) = or_reads c reads.disjoined inside own (after ∷ left) is (bracket_ends after left closes) refl encloses.inner encloses.own (encloses.after ∷ more) encloses.whole
    (bracket_ends encloses.after more encloses.closes) encloses.words in
    (ap InBrackets same ∙ sym encloses.same, same_behind after encloses.after left more rest)

plain_opens : term.Plain ≡ term.OpenBracket → ⊥
plain_opens e = cc

brackets_negated : (c : WrittenCondition) → Reads c → (words ws left : List Lexeme) → IsConditionBy ByNot (InBrackets c) ws → EndsTest left → words ≡ ws ++ left → ReadsCondition ByNot words (InBrackets c) left
brackets_negated c reads words ws left (before, after, own, opens, closes, is, e) ends f =
    let whole : words ≡ before ∷ ((own ++ after ∷ []) ++ left) = f ∙ ap (λ (t : List Lexeme). t ++ left) e in
    not_reads (InBrackets c) words left (λ r s vs rest related no_of no_bracket g. related_no_bracket r s words vs rest ((own ++ after ∷ []) ++ left) before related g opens whole)
    (λ n more is_not g.
    plain_opens (sym (plain_word n word.Not is_not) ∙ ap word_class (same_front n before more ((own ++ after ∷ []) ++ left) (sym g ∙ whole)) ∙ opens))
    (brackets_alone c reads words ws left (before, after, own, opens, closes, is, e) ends f)

not_negated : (c : WrittenCondition) → Reads c → (words ws left : List Lexeme) → IsConditionBy ByNot (BehindNot c) ws → EndsTest left → words ≡ ws ++ left → ReadsCondition ByNot words (BehindNot c) left
not_negated c reads words ws left (may, (n, own, is_not, is, e)) ends f = λ d vs more it ends_too g.
    let whole : words ≡ n ∷ (own ++ left) = f ∙ ap (λ (t : List Lexeme). t ++ left) e in
    let negates = with_not words (own ++ left) n (λ r s xs rest related no_of no_bracket h. related_no_not r s c words xs rest own left n related h is_not is whole) is_not whole d vs more it ends_too g in
    let (same, rest) = reads.alone (own ++ left) own left is ends refl negates.inner negates.own more negates.single ends_too negates.words in
    (ap BehindNot same ∙ sym negates.same, rest)

chain_split : (words ws front own left : List Lexeme) (w : Lexeme) → ws ≡ front ++ w ∷ own → words ≡ ws ++ left → words ≡ front ++ w ∷ (own ++ left)
chain_split words ws front own left w e f = f ∙ ap (λ (t : List Lexeme). t ++ left) e ∙ append_assoc front (w ∷ own) left

and_conjoined : (c d : WrittenCondition) → Reads c → Reads d → (words ws left : List Lexeme) → IsConditionBy ByAnd (WithAnd c d) ws → EndsTest left → words ≡ ws ++ left
    → SoFar ByNot ByAnd word.And WithAnd words left (WithAnd c d)
and_conjoined c d reads others words ws left (may, (front, own, w, is, x, it, e)) ends f =
    let rest : List Lexeme = own ++ left in
    goes_on ByNot ByAnd word.And WithAnd and_joins words (w ∷ rest) rest left c d
    (reads.conjoined words front (w ∷ rest) is (and_joins.ends_at w rest x) (chain_split words ws front own left w e f)) (w, x, refl) (own, it, refl) (others.negated rest own left it ends refl)

or_disjoined : (c d : WrittenCondition) → Reads c → Reads d → (words ws left : List Lexeme) → IsConditionBy ByOr (WithOr c d) ws → EndsCondition ByAnd left → words ≡ ws ++ left
    → SoFar ByAnd ByOr word.Or WithOr words left (WithOr c d)
or_disjoined c d reads others words ws left (may, (front, own, w, is, x, it, e)) ends f =
    let rest : List Lexeme = own ++ left in
    goes_on ByAnd ByOr word.Or WithOr or_joins words (w ∷ rest) rest left c d
    (reads.disjoined words front (w ∷ rest) is (or_joins.ends_at w rest x) (chain_split words ws front own left w e f)) (w, x, refl) (own, it, refl)
    (and_reads d others.conjoined rest own left it ends refl)

reads_all : (c : WrittenCondition) → Reads c
reads_all (Simple t) = simple_reads t
reads_all (InBrackets c) = lone (InBrackets c) tt tt (brackets_alone c (reads_all c)) (brackets_negated c (reads_all c))
reads_all (BehindNot c) = lone (BehindNot c) tt tt (λ words ws left is ends e. absurd is.0) (not_negated c (reads_all c))
reads_all (WithAnd c d) =
    let conjoined = and_conjoined c d (reads_all c) (reads_all d) in record {
      alone = λ words ws left is ends e. absurd is.0;
      negated = λ words ws left is ends e. absurd is.0;
      conjoined = conjoined;
      disjoined = or_by_and (WithAnd c d) tt conjoined;
    }
reads_all (WithOr c d) = record {
  alone = λ words ws left is ends e. absurd is.0;
  negated = λ words ws left is ends e. absurd is.0;
  conjoined = λ words ws left is ends e. absurd is.0;
  disjoined = or_disjoined c d (reads_all c) (reads_all d);
}

pub one_written : OneWrittenCondition
one_written ws c d h k = (or_reads c (reads_all c).disjoined ws ws [] h.is (tt, tt, tt) (whole_cut ws) d ws [] k.is (tt, tt, tt) (whole_cut ws)).0
