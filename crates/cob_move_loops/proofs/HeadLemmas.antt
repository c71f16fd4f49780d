-- The heads of loops.
use Rattle.std.proofs.Common.{◌≡◌, ℕ, ◌<◌, List, [], ◌∷◌, ◌++◌, length, refl, sym, ap, subst, ◌∙◌, append_assoc, arith, rules, inl, inr, Bool, true, false, ◌||◌, Option, Some, None}
use Rattle.std.specs.Prelude.{IfSome, codes}
use denote.Ref.{Bor}
use Rattle.std.specs.List.{AllByRecursion, list_any}
use Rattle.cob_decimal.specs.Decimal.{number_of}
use Rattle.cob_decimal.specs.Literals.{AreDigits, digits_in}
use Rattle.cob_source.specs.Tokens.{Lexeme}
use Rattle.cob_copybook_clauses.specs.Clauses.{IsNameWord, IsWord}
use Rattle.cob_copybook_clauses.specs.Names.{is_letter}
use Rattle.cob_copybook_clauses.specs.Reading.{StandInFront}
use Rattle.cob_source.specs.declared.token.Token.{Token}
use Rattle.cob_move_loops.specs.declared.parts.LoopBound.{LoopBound}
use Rattle.cob_move_loops.specs.Reading.{AfterIs, AnswersBound}
use Rattle.cob_move_loops.specs.Words.{AreItemWords, IsCounter, IsItemWord, IsNumber, NoItemWord}
use Rattle.cob_move_loops.specs.Passages.{AreBoundWords, BoundEnds, IsGreater, IsHead, IsLoopBody, IsPastWord, IsStepping, IsUntil, IsVarying, NotThanFirst, ToItem, ToNumber, WrittenBound, WrittenLoop}

counter_one : (n m : List ℕ) (w v : Lexeme) → IsCounter n w → IsCounter m v → w ≡ v → n ≡ m
counter_one n m w v p q e = sym p.same ∙ ap (λ (k : Lexeme). k.text) e ∙ q.same

number_one : (n m : ℕ) (w v : Lexeme) → IsNumber n w → IsNumber m v → w ≡ v → n ≡ m
number_one n m w v p q e = p.spelled.value ∙ ap (λ (k : Lexeme). number_of (digits_in k.text)) e ∙ sym q.spelled.value

varying_one : (i j : ℕ) (n m : List ℕ) (h k a b : List Lexeme) → IsVarying i n h → IsVarying j m k → h ++ a ≡ k ++ b → (i ≡ j) × (n ≡ m) × (a ≡ b)
varying_one i j n m h k a b (p, v, c, ip, il, iv, ic, e) (q, u, d, iq, jl, iu, id, f) same =
    let it : p ∷ v ∷ c ∷ a ≡ q ∷ u ∷ d ∷ b = sym (ap (λ (t : List Lexeme). t ++ a) e) ∙ same ∙ ap (λ (t : List Lexeme). t ++ b) f in
    let perform : p ≡ q = cc in
    let counter : c ≡ d = cc in
    let tail : a ≡ b = cc in
    (il ∙ ap (λ (w : Lexeme). w.line) perform ∙ sym jl, counter_one n m c d ic id counter, tail)

stepping_one : (i j m n : ℕ) (h k a b : List Lexeme) → IsStepping i j h → IsStepping m n k → h ++ a ≡ k ++ b → (i ≡ m) × (j ≡ n) × (a ≡ b)
stepping_one i j m n h k a b (p, v, c, w, ip, iv, ic, iw, e) (q, u, d, x, iq, iu, id, ix, f) same =
    let it : p ∷ v ∷ c ∷ w ∷ a ≡ q ∷ u ∷ d ∷ x ∷ b = sym (ap (λ (t : List Lexeme). t ++ a) e) ∙ same ∙ ap (λ (t : List Lexeme). t ++ b) f in
    let from : v ≡ u = cc in
    let by : w ≡ x = cc in
    let tail : a ≡ b = cc in
    (number_one i m v u iv iu from, number_one j n w x iw ix by, tail)

-- THAN is no number
pub number_no_than : (n : ℕ) (w : Lexeme) → IsNumber n w → IsWord (codes "THAN") w → ⊥
number_no_than n w is than =
    let digits : AreDigits (codes "THAN") = subst AreDigits than.same is.spelled.digits in
    omega (arith, digits.0.1)

greater_one : (g h a b : List Lexeme) → IsGreater g → IsGreater h → NotThanFirst a → NotThanFirst b → g ++ a ≡ h ++ b → a ≡ b
greater_one [] h a b p q f k e = absurd p
greater_one (x ∷ []) [] a b p q f k e = absurd q
greater_one (x ∷ []) (y ∷ []) a b p q f k e = cc
greater_one (x ∷ []) (y ∷ t ∷ []) a b p q f k e =
    let behind : a ≡ t ∷ b = cc in
    absurd (subst NotThanFirst behind f q.1)
greater_one (x ∷ []) (y ∷ t ∷ w ∷ h) a b p q f k e = absurd q
greater_one (x ∷ t ∷ []) [] a b p q f k e = absurd q
greater_one (x ∷ t ∷ []) (y ∷ []) a b p q f k e =
    let behind : b ≡ t ∷ a = cc in
    absurd (subst NotThanFirst behind k p.1)
greater_one (x ∷ t ∷ []) (y ∷ u ∷ []) a b p q f k e = cc
greater_one (x ∷ t ∷ []) (y ∷ u ∷ w ∷ h) a b p q f k e = absurd q
greater_one (x ∷ t ∷ w ∷ g) h a b p q f k e = absurd p

greater_first : (g : List Lexeme) → IsGreater g → (w : Lexeme) × (tail : List Lexeme) × IsWord (codes "GREATER") w × (g ≡ w ∷ tail)
greater_first [] is = absurd is
greater_first (w ∷ []) is = (w, [], is, refl)
greater_first (w ∷ t ∷ []) is = (w, t ∷ [], is.0, refl)
greater_first (w ∷ t ∷ v ∷ g) is = absurd is

-- words of texts with other lengths are not the same
other_word : (s t : List ℕ) (w v : Lexeme) → IsWord s w → IsWord t v → w ≡ v → length s ≡ length t
other_word s t w v p q e = ap length (sym p.same ∙ ap (λ (k : Lexeme). k.text) e ∙ q.same)

past_one : (g h a b : List Lexeme) → IsPastWord g → IsPastWord h → NotThanFirst a → NotThanFirst b → g ++ a ≡ h ++ b → a ≡ b
past_one g h a b (inl (s, is, e)) (inl (t, it, f)) m n same =
    let both : s ∷ a ≡ t ∷ b = sym (ap (λ (x : List Lexeme). x ++ a) e) ∙ same ∙ ap (λ (x : List Lexeme). x ++ b) f in cc
past_one g h a b (inl (s, is, e)) (inr (inl p)) m n same =
    let (w, tail, greater, f) = greater_first h p in
    let both : s ∷ a ≡ w ∷ (tail ++ b) = sym (ap (λ (x : List Lexeme). x ++ a) e) ∙ same ∙ ap (λ (x : List Lexeme). x ++ b) f in
    let first : s ≡ w = cc in
    absurd (omega (arith, other_word (codes ">") (codes "GREATER") s w is greater first))
past_one g h a b (inl (s, is, e)) (inr (inr (i, p, ii, ip, f))) m n same =
    let both : s ∷ a ≡ i ∷ (p ++ b) = sym (ap (λ (x : List Lexeme). x ++ a) e) ∙ same ∙ ap (λ (x : List Lexeme). x ++ b) f in
    let first : s ≡ i = cc in
    absurd (omega (arith, other_word (codes ">") (codes "IS") s i is ii first))
past_one g h a b (inr (inl p)) (inl (t, it, f)) m n same =
    let (w, tail, greater, e) = greater_first g p in
    let both : w ∷ (tail ++ a) ≡ t ∷ b = sym (ap (λ (x : List Lexeme). x ++ a) e) ∙ same ∙ ap (λ (x : List Lexeme). x ++ b) f in
    let first : w ≡ t = cc in
    absurd (omega (arith, other_word (codes "GREATER") (codes ">") w t greater it first))
past_one g h a b (inr (inl p)) (inr (inl q)) m n same = greater_one g h a b p q m n same
past_one g h a b (inr (inl p)) (inr (inr (i, q, ii, iq, f))) m n same =
    let (w, tail, greater, e) = greater_first g p in
    let both : w ∷ (tail ++ a) ≡ i ∷ (q ++ b) = sym (ap (λ (x : List Lexeme). x ++ a) e) ∙ same ∙ ap (λ (x : List Lexeme). x ++ b) f in
    let first : w ≡ i = cc in
    absurd (omega (arith, other_word (codes "GREATER") (codes "IS") w i greater ii first))
past_one g h a b (inr (inr (i, p, ii, ip, e))) (inl (t, it, f)) m n same =
    let both : i ∷ (p ++ a) ≡ t ∷ b = sym (ap (λ (x : List Lexeme). x ++ a) e) ∙ same ∙ ap (λ (x : List Lexeme). x ++ b) f in
    let first : i ≡ t = cc in
    absurd (omega (arith, other_word (codes "IS") (codes ">") i t ii it first))
past_one g h a b (inr (inr (i, p, ii, ip, e))) (inr (inl q)) m n same =
    let (w, tail, greater, f) = greater_first h q in
    let both : i ∷ (p ++ a) ≡ w ∷ (tail ++ b) = sym (ap (λ (x : List Lexeme). x ++ a) e) ∙ same ∙ ap (λ (x : List Lexeme). x ++ b) f in
    let first : i ≡ w = cc in
    absurd (omega (arith, other_word (codes "IS") (codes "GREATER") i w ii greater first))
past_one g h a b (inr (inr (i, p, ii, ip, e))) (inr (inr (j, q, ij, iq, f))) m n same =
    let both : i ∷ (p ++ a) ≡ j ∷ (q ++ b) = sym (ap (λ (x : List Lexeme). x ++ a) e) ∙ same ∙ ap (λ (x : List Lexeme). x ++ b) f in
    let tail : p ++ a ≡ q ++ b = cc in
    greater_one p q a b ip iq m n tail

digit_no_letter : (c : ℕ) → c < 58 → is_letter c ≡ false
digit_no_letter c high = search rules

no_letter : (text : List ℕ) → AreDigits text → list_any is_letter text ≡ true → ⊥
no_letter [] digits some = let never : false ≡ true = some in cc
no_letter (c ∷ cs) digits some = no_letter cs digits.1 (sym (ap (λ (b : Bool). b || list_any is_letter cs) (digit_no_letter c digits.0.1)) ∙ some)

-- a number is no name: a name has a letter
pub number_no_name : (n : ℕ) (w : Lexeme) → IsNumber n w → IsNameWord w → ⊥
number_no_name n w is name = no_letter w.text is.spelled.digits name.1.letter

-- THAN is no name of an item
pub bound_no_than : (bound : WrittenBound) (own more : List Lexeme) → AreBoundWords bound own → NotThanFirst (own ++ more)
bound_no_than (ToNumber n) own more (w, is, e) = subst (λ (t : List Lexeme). NotThanFirst (t ++ more)) (sym e) (number_no_than n w is)
bound_no_than (ToItem []) own more (is, e) = absurd is
bound_no_than (ToItem (w ∷ ws)) own more (is, e) = subst (λ (t : List Lexeme). NotThanFirst (t ++ more)) (sym e) is.1

-- words of a reference end in one place
pub items_one : (own us a b : List Lexeme) → AllByRecursion IsItemWord own → AllByRecursion IsItemWord us → NoItemWord a → NoItemWord b → own ++ a ≡ us ++ b → (own ≡ us) × (a ≡ b)
items_one [] [] a b p q f g e = (refl, e)
items_one [] (w ∷ us) a b p q f g e = absurd (subst NoItemWord e f q.0)
items_one (w ∷ own) [] a b p q f g e = absurd (subst NoItemWord (sym e) g p.0)
items_one (w ∷ own) (v ∷ us) a b p q f g e =
    let tail : own ++ a ≡ us ++ b = cc in
    let rest = items_one own us a b p.1 q.1 f g tail in
    let left : own ≡ us = rest.0 in
    let first : w ≡ v = cc in
    (cc, rest.1)

pub are_items : (own : List Lexeme) → AreItemWords own → AllByRecursion IsItemWord own
are_items [] is = absurd is
are_items (w ∷ ws) is = is.2

first_is_name : (own : List Lexeme) → AreItemWords own → (w : Lexeme) × (ws : List Lexeme) × IsNameWord w × (own ≡ w ∷ ws)
first_is_name [] is = absurd is
first_is_name (w ∷ ws) is = (w, ws, is.0, refl)

pub bound_one : (m n : WrittenBound) (x y a b : List Lexeme) → AreBoundWords m x → AreBoundWords n y → BoundEnds m a → BoundEnds n b → x ++ a ≡ y ++ b → (m ≡ n) × (a ≡ b)
bound_one (ToNumber m) (ToNumber n) x y a b (w, iw, e) (v, iv, f) ends also same =
    let it : w ∷ a ≡ v ∷ b = sym (ap (λ (t : List Lexeme). t ++ a) e) ∙ same ∙ ap (λ (t : List Lexeme). t ++ b) f in
    let number : w ≡ v = cc in
    (ap ToNumber (number_one m n w v iw iv number), cc)
bound_one (ToNumber m) (ToItem us) x y a b (w, iw, e) (iu, f) ends also same =
    let (v, rest, named, g) = first_is_name us iu in
    let it : w ∷ a ≡ v ∷ (rest ++ b) = sym (ap (λ (t : List Lexeme). t ++ a) e) ∙ same ∙ ap (λ (t : List Lexeme). t ++ b) (f ∙ g) in
    let first : w ≡ v = cc in
    absurd (number_no_name m v (subst (IsNumber m) first iw) named)
bound_one (ToItem own) (ToNumber n) x y a b (io, e) (v, iv, f) ends also same =
    let (w, rest, named, g) = first_is_name own io in
    let it : w ∷ (rest ++ a) ≡ v ∷ b = sym (ap (λ (t : List Lexeme). t ++ a) (e ∙ g)) ∙ same ∙ ap (λ (t : List Lexeme). t ++ b) f in
    let first : v ≡ w = cc in
    absurd (number_no_name n w (subst (IsNumber n) first iv) named)
bound_one (ToItem own) (ToItem us) x y a b (io, e) (iu, f) ends also same =
    let it : own ++ a ≡ us ++ b = sym (ap (λ (t : List Lexeme). t ++ a) e) ∙ same ∙ ap (λ (t : List Lexeme). t ++ b) f in
    let one = items_one own us a b (are_items own io) (are_items us iu) ends also it in
    (ap ToItem one.0, one.1)

-- where no number comes first, what a loop ends by is an item
pub bound_else : (words : List Lexeme) (answer : Option (LoopBound × Bor (List Token))) → ((n : ℕ) (w : Lexeme) (more : List Lexeme) → IsNumber n w → words ≡ w ∷ more → ⊥)
    → ((own more : List Lexeme) → AreItemWords own → NoItemWord more → words ≡ own ++ more → AnswersBound answer (ToItem own) more)
    → (bound : WrittenBound) (own more : List Lexeme) → AreBoundWords bound own → BoundEnds bound more → words ≡ own ++ more → AnswersBound answer bound more
bound_else words answer none only (ToNumber n) own more (w, is, e) ends same = absurd (none n w more is (same ∙ ap (λ (t : List Lexeme). t ++ more) e))
bound_else words answer none only (ToItem us) own more (is, e) ends same = only us more is ends (same ∙ ap (λ (t : List Lexeme). t ++ more) e)

pub until_split : (u c : Lexeme) (past own a : List Lexeme) → (u ∷ c ∷ (past ++ own)) ++ a ≡ u ∷ c ∷ (past ++ (own ++ a))
until_split u c past own a = ap (λ (t : List Lexeme). u ∷ c ∷ t) (append_assoc past own a)

until_one : (s t : List ℕ) (m n : WrittenBound) (h k a b : List Lexeme) → IsUntil s m h → IsUntil t n k → BoundEnds m a → BoundEnds n b → h ++ a ≡ k ++ b → (s ≡ t) × (m ≡ n) × (a ≡ b)
until_one s t m n h k a b (u, c, past, own, iu, ic, ip, io, e) (v, d, tsap, us, iv, id, iq, ix, f) ends also same =
    let it : u ∷ c ∷ (past ++ (own ++ a)) ≡ v ∷ d ∷ (tsap ++ (us ++ b)) =
    sym (until_split u c past own a) ∙ sym (ap (λ (y : List Lexeme). y ++ a) e) ∙ same ∙ ap (λ (y : List Lexeme). y ++ b) f ∙ until_split v d tsap us b in
    let counter : c ≡ d = cc in
    let behind : past ++ (own ++ a) ≡ tsap ++ (us ++ b) = cc in
    let left : own ++ a ≡ us ++ b = past_one past tsap (own ++ a) (us ++ b) ip iq (bound_no_than m own a io) (bound_no_than n us b ix) behind in
    let one = bound_one m n own us a b io ix ends also left in
    (counter_one s t c d ic id counter, one.0, one.1)

pub head_split : (v s u a : List Lexeme) → (v ++ (s ++ u)) ++ a ≡ v ++ (s ++ (u ++ a))
head_split v s u a = append_assoc v (s ++ u) a ∙ ap (λ (t : List Lexeme). v ++ t) (append_assoc s u a)

-- words begin with one head at most
pub head_one : (l m : WrittenLoop) (h k a b : List Lexeme) → IsHead l h → IsHead m k → BoundEnds l.bound a → BoundEnds m.bound b → h ++ a ≡ k ++ b → (l ≡ m) × (a ≡ b)
head_one l m h k a b (v, s, u, iv, is, iu, e) (w, t, x, iw, it, ix, f) ends also same =
    let cut : v ++ (s ++ (u ++ a)) ≡ w ++ (t ++ (x ++ b)) =
    sym (head_split v s u a) ∙ sym (ap (λ (y : List Lexeme). y ++ a) e) ∙ same ∙ ap (λ (y : List Lexeme). y ++ b) f ∙ head_split w t x b in
    let first = varying_one l.line m.line l.counter m.counter v w (s ++ (u ++ a)) (t ++ (x ++ b)) iv iw cut in
    let second = stepping_one l.from l.by m.from m.by s t (u ++ a) (x ++ b) is it first.2 in
    let third = until_one l.tested m.tested l.bound m.bound u x a b iu ix ends also second.2 in
    (λ i. record { line = first.0 i; counter = first.1 i; from = second.0 i; by = second.1 i; tested = third.0 i; bound = third.1 i }, third.2)

-- ---- what readers of heads answer

pub past_behind : (words rest more : List Lexeme) → AfterIs words rest → StandInFront IsGreater rest more → StandInFront IsPastWord words more
past_behind words rest more (inl (i, is, e)) (g, greater, f) = (i ∷ g, inr (inr (i, g, is, greater, refl)), e ∙ ap (λ (t : List Lexeme). i ∷ t) f)
past_behind words rest more (inr (same, none)) (g, greater, f) = (g, inr (inl greater), sym same ∙ f)

pub some_weaker : {A : Type 0} (P Q : A → Type 0) (o : Option A) → ((a : A) → P a → Q a) → IfSome o P → IfSome o Q
some_weaker P Q (Some a) more is = more a is
some_weaker P Q None more is = tt

pub until_words : (words ws more past own : List Lexeme) (u c : Lexeme) → ws ≡ u ∷ c ∷ (past ++ own) → words ≡ ws ++ more → words ≡ u ∷ c ∷ (past ++ (own ++ more))
until_words words ws more past own u c cut e = e ∙ ap (λ (t : List Lexeme). t ++ more) cut ∙ until_split u c past own more

pub head_words : (words ws more v s u : List Lexeme) → ws ≡ v ++ (s ++ u) → words ≡ ws ++ more → words ≡ v ++ (s ++ (u ++ more))
head_words words ws more v s u cut e = e ∙ ap (λ (t : List Lexeme). t ++ more) cut ∙ head_split v s u more

-- the words of a bound end before the statements of the loop, and these are some
ends_in : (bound : WrittenBound) (own more : List Lexeme) → 0 < length own → BoundEnds bound own → BoundEnds bound (own ++ more)
ends_in (ToNumber n) own more some ends = tt
ends_in (ToItem ws) [] more some ends = absurd (omega (arith, some))
ends_in (ToItem ws) (w ∷ own) more some ends = ends

pub ends_before : (bound : WrittenBound) (own more : List Lexeme) → IsLoopBody bound own → BoundEnds bound (own ++ more)
ends_before bound own more body = ends_in bound own more body.some body.ends

-- and back
pub ends_of_body : (bound : WrittenBound) (own more : List Lexeme) → BoundEnds bound (own ++ more) → BoundEnds bound own
ends_of_body (ToNumber n) own more ends = tt
ends_of_body (ToItem ws) [] more ends = tt
ends_of_body (ToItem ws) (w ∷ own) more ends = ends
