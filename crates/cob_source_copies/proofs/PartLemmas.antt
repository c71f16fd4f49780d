-- The parts of words.
use Rattle.std.proofs.Common.{◌≡◌, ◌+◌, ◌≤◌, true, false, List, [], ◌∷◌, ◌++◌, length, refl, sym, ap, subst, ◌∙◌, append-nil, arith, Some}
use Rattle.std.specs.List.{AllByRecursion, flat_map}
use Rattle.std.proofs.lemmas.List.{length-append}
use Rattle.std.proofs.lemmas.Grind.{flat_map-append}
use Rattle.cob_source.specs.Tokens.{Lexeme}
use Rattle.cob_source_copies.specs.Statements.{CopyFront, WrittenCopy, copy_front, is_copy}
use Rattle.cob_source_copies.specs.Texts.{BeginWithParts, Copies, Stays, TextPart}

-- parts behind parts
pub join_parts : (ps qs : List TextPart) (ws rest more : List Lexeme) → BeginWithParts ps ws rest → BeginWithParts qs rest more → BeginWithParts (ps ++ qs) ws more
join_parts [] qs ws rest more e b = subst (λ (t : List Lexeme). BeginWithParts qs t more) (sym e) b
join_parts (Stays w ∷ ps) qs ws rest more (others, other, e, a) b = (others, other, e, join_parts ps qs others rest more a b)
join_parts (Copies c ∷ ps) qs ws rest more (copy, behind, others, is, e, f, a) b = (copy, behind, others, is, e, f, join_parts ps qs others rest more a b)

-- parts that go on with others to the end
pub record GoOnWith (ps qs : List TextPart) (rest : List Lexeme) : Type 0 where
  pub others : List TextPart
  pub are : qs ≡ ps ++ others
  pub begin : BeginWithParts others rest []

clash : {A : Type 0} (copy w : Lexeme) → is_copy w ≡ false → copy ≡ w → is_copy copy ≡ true → A
clash copy w other e is = absurd (let never : true ≡ false = sym is ∙ ap is_copy e ∙ other in cc)

same_front : (behind other : List Lexeme) (a b : CopyFront) → behind ≡ other → copy_front behind ≡ Some a → copy_front other ≡ Some b → a ≡ b
same_front behind other a b e f g = let both : Some a ≡ Some b = sym f ∙ ap copy_front e ∙ g in cc

pub cut_parts : (ps qs : List TextPart) (ws rest : List Lexeme) → BeginWithParts ps ws rest → BeginWithParts qs ws [] → GoOnWith ps qs rest
cut_parts [] qs ws rest e b = record { others = qs; are = refl; begin = subst (λ (t : List Lexeme). BeginWithParts qs t []) e b }
cut_parts (Stays w ∷ ps) [] ws rest (more, other, e, a) b = absurd (let never : w ∷ more ≡ [] = sym e ∙ b in cc)
cut_parts (Copies c ∷ ps) [] ws rest (copy, behind, more, is, e, f, a) b = absurd (let never : copy ∷ behind ≡ [] = sym e ∙ b in cc)
cut_parts (Stays w ∷ ps) (Copies d ∷ qs) ws rest (more, other, e, a) (copy, behind, others, is, g, f, b) =
    let both : copy ∷ behind ≡ w ∷ more = sym g ∙ e in
    let same : copy ≡ w = cc in clash copy w other same is
cut_parts (Copies c ∷ ps) (Stays w ∷ qs) ws rest (copy, behind, others, is, g, f, b) (more, other, e, a) =
    let both : copy ∷ behind ≡ w ∷ more = sym g ∙ e in
    let same : copy ≡ w = cc in clash copy w other same is
cut_parts (Stays w ∷ ps) (Stays v ∷ qs) ws rest (more, other, e, a) (others, unlike, g, b) =
    let both : v ∷ others ≡ w ∷ more = sym g ∙ e in
    let first : v ≡ w = cc in
    let rest_is : others ≡ more = cc in
    let k = cut_parts ps qs more rest a (subst (λ (t : List Lexeme). BeginWithParts qs t []) rest_is b) in
    record { others = k.others; are = ap (λ (t : Lexeme). Stays t ∷ qs) first ∙ ap (λ (t : List TextPart). Stays w ∷ t) k.are; begin = k.begin }
cut_parts (Copies c ∷ ps) (Copies d ∷ qs) ws rest (copy, behind, more, is, e, f, a) (word, after, others, same_is, g, h, b) =
    let both : word ∷ after ≡ copy ∷ behind = sym g ∙ e in
    let same : after ≡ behind = cc in
    let one = same_front after behind (record { copy = d; behind = others }) (record { copy = c; behind = more }) same h f in
    let copy_is : d ≡ c = ap (λ (t : CopyFront). t.copy) one in
    let rest_is : others ≡ more = ap (λ (t : CopyFront). t.behind) one in
    let k = cut_parts ps qs more rest a (subst (λ (t : List Lexeme). BeginWithParts qs t []) rest_is b) in
    record { others = k.others; are = ap (λ (t : WrittenCopy). Copies t ∷ qs) copy_is ∙ ap (λ (t : List TextPart). Copies c ∷ t) k.are; begin = k.begin }

none_left : (ps : List TextPart) → BeginWithParts ps [] [] → ps ≡ []
none_left [] b = refl
none_left (Stays w ∷ ps) (more, other, e, a) = absurd cc
none_left (Copies c ∷ ps) (copy, behind, more, is, e, f, a) = absurd cc

-- words have their parts in one way
pub one_parts : (ps qs : List TextPart) (ws : List Lexeme) → BeginWithParts ps ws [] → BeginWithParts qs ws [] → ps ≡ qs
one_parts ps qs ws a b =
    let k = cut_parts ps qs ws [] a b in
    sym (append-nil ps) ∙ ap (λ (t : List TextPart). ps ++ t) (sym (none_left k.others k.begin)) ∙ sym k.are

-- where a word COPY comes first, a statement does
pub record StatesFirst (ps : List TextPart) (behind : List Lexeme) : Type 0 where
  pub copy : WrittenCopy
  pub more : List Lexeme
  pub others : List TextPart
  pub are : ps ≡ Copies copy ∷ others
  pub front : copy_front behind ≡ Some (record { copy = copy; behind = more })

pub states_first : (ps : List TextPart) (word : Lexeme) (behind : List Lexeme) → is_copy word ≡ true → BeginWithParts ps (word ∷ behind) [] → StatesFirst ps behind
states_first [] word behind is b = absurd (let never : word ∷ behind ≡ [] = b in cc)
states_first (Stays w ∷ ps) word behind is (more, other, e, a) = let same : word ≡ w = cc in clash word w other same is
states_first (Copies c ∷ ps) word behind is (copy, after, more, also, e, f, a) =
    let same : behind ≡ after = cc in
    record { copy = c; more = more; others = ps; are = refl; front = ap copy_front same ∙ f }

-- what is so of parts
pub all_both : (P : TextPart → Type 0) (ps qs : List TextPart) → AllByRecursion P ps → AllByRecursion P qs → AllByRecursion P (ps ++ qs)
all_both P [] qs a b = b
all_both P (p ∷ ps) qs a b = (a.0, all_both P ps qs a.1 b)

pub one_of_all : (P : TextPart → Type 0) (ps qs : List TextPart) (q : TextPart) → AllByRecursion P (ps ++ q ∷ qs) → P q
one_of_all P [] qs q a = a.0
one_of_all P (p ∷ ps) qs q a = one_of_all P ps qs q a.1

-- a word that stays, behind others
pub one_put : {A : Type 0} (f : TextPart → List A) (ps : List TextPart) (p : TextPart) → flat_map f (ps ++ p ∷ []) ≡ flat_map f ps ++ f p
one_put f ps p = flat_map-append f ps (p ∷ []) ∙ ap (λ t. flat_map f ps ++ t) (append-nil (f p))

-- how much parts put at least
pub put_least : {A : Type 0} (f : TextPart → List A) (ps qs : List TextPart) (q : TextPart) → length (flat_map f ps) + length (f q) ≤ length (flat_map f (ps ++ q ∷ qs))
put_least f ps qs q =
    let parts = ap length (flat_map-append f ps (q ∷ qs)) in
    let two = length-append (flat_map f ps) (f q ++ flat_map f qs) in
    let three = length-append (f q) (flat_map f qs) in
    omega (arith, parts, two, three)
