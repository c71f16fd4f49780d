-- Single moves of which one is so.
use Rattle.std.proofs.Common.{◌≡◌, ◌⊎◌, ℕ, Bool, true, false, List, [], ◌∷◌, ◌++◌, drop, take, map, refl, sym, ap, subst, ◌∙◌, inl, inr}
use Rattle.std.specs.Bool.{Decides}
use Rattle.std.specs.List.{flat_map}
use Rattle.std.proofs.lemmas.List.{take-append-drop}
use Rattle.std.proofs.lemmas.Grind.{flat_map-append}
use Rattle.cob_move_data.specs.declared.operands.StatementMoves.{StatementMoves}
use Rattle.cob_move_data.specs.Moves.{AreMoves, Move, Records}
use Rattle.cob_move_data.specs.Singles.{PlainSingle, SingleMove, all_singles, singles_of}
use Rattle.cob_move_data.proofs.SingleLemmas.{all_singles-append}
use Rattle.cob_move_apply.specs.Some.{SomeOf}
use Rattle.cob_back_moves.specs.declared.single.BothLayouts.{BothLayouts}
use Rattle.cob_back_moves.specs.Brought.{moves_between}
use Rattle.cob_back_moves.specs.Tested.{single_of}
use Rattle.cob_back_moves.proofs.EachLemmas.{meant}
use Rattle.cob_back_moves.proofs.LeftLemmas.{Both}

some_front : (P : SingleMove → Type 0) (xs ys : List SingleMove) → SomeOf P xs → SomeOf P (xs ++ ys)
some_front P [] ys h = absurd h
some_front P (x ∷ xs) ys (inl h) = inl h
some_front P (x ∷ xs) ys (inr h) = inr (some_front P xs ys h)

some_behind : (P : SingleMove → Type 0) (xs ys : List SingleMove) → SomeOf P ys → SomeOf P (xs ++ ys)
some_behind P [] ys h = h
some_behind P (x ∷ xs) ys h = inr (some_behind P xs ys h)

some_split : (P : SingleMove → Type 0) (xs ys : List SingleMove) → SomeOf P (xs ++ ys) → SomeOf P xs ⊎ SomeOf P ys
some_split P [] ys h = inr h
some_split P (x ∷ xs) ys (inl h) = inl (inl h)
some_split P (x ∷ xs) ys (inr h) = elim (some_split P xs ys h) [ inl front ↦ inl (inr front) | inr behind ↦ inr behind ]

-- ---- one by one

-- the next one is so
pub met : {A : Type 0} (P : A → Type 0) (now later : List A) (x : A) (b : Bool) (W : Type 0) → now ≡ x ∷ later → b ≡ true → Decides b (P x) → Both (SomeOf P now) W → Decides true W
met {A} P now later x b W is does (one, only) (goes, back) = (λ h. goes (subst (λ (xs : List A). SomeOf P xs) (sym is) (inl (one does))), λ w. refl)

never : (b : Bool) → b ≡ false → b ≡ true → ⊥
never b e f = cc

-- it isn't
pub unmet : {A : Type 0} (P : A → Type 0) (now later : List A) (x : A) (b : Bool) (W : Type 0) → now ≡ x ∷ later → b ≡ false → Decides b (P x) → Both (SomeOf P now) W
    → Both (SomeOf P later) W
unmet {A} P now later x b W is doesnt (one, only) (goes, back) = (
  λ h. goes (subst (λ (xs : List A). SomeOf P xs) (sym is) (inr h)),
  λ w. elim (subst (λ (xs : List A). SomeOf P xs) is (back w)) [
    | inl h ↦ absurd (never b doesnt (only h))
    | inr h ↦ h
  ],
)

-- there is no next one
pub ended : {A : Type 0} (P : A → Type 0) (now : List A) (W : Type 0) → now ≡ [] → Both (SomeOf P now) W → Decides false W
ended {A} P now W is (goes, back) = (λ h. absurd (cc), λ w. absurd (subst (λ (xs : List A). SomeOf P xs) is (back w)))

-- ---- between the records

-- one of these is so between the records
abbrev pub One : (SingleMove → Type 0) → BothLayouts → List PlainSingle → Type 0
One P l ps = SomeOf (λ (p : PlainSingle). P (single_of l p)) ps

mapped : {A B : Type 0} (P : B → Type 0) (f : A → B) (xs : List A) → Both (SomeOf (λ (x : A). P (f x)) xs) (SomeOf P (map f xs))
mapped P f [] = (λ h. h, λ h. h)
mapped P f (x ∷ xs) =
    let (goes, back) = mapped P f xs in (
      λ h. elim h [ inl is ↦ inl is | inr one ↦ inr (goes one) ],
      λ h. elim h [ inl is ↦ inl is | inr one ↦ inr (back one) ],
    )

pub one_meant : (P : SingleMove → Type 0) (l : BothLayouts) (ss : List StatementMoves) (ps : List PlainSingle) → ps ≡ singles_of ss
    → Both (One P l ps) (SomeOf P (all_singles (moves_between l ss)))
one_meant P l ss ps is =
    let (goes, back) = mapped P (single_of l) ps in (
      λ h. subst (λ (ts : List SingleMove). SomeOf P ts) (sym (meant l ss ps is)) (goes h),
      λ h. back (subst (λ (ts : List SingleMove). SomeOf P ts) (meant l ss ps is) h),
    )

-- ---- statements in two parts

pub parts : (n : ℕ) (all front behind : List StatementMoves) → front ≡ take n all → behind ≡ drop n all → all ≡ front ++ behind
parts n all front behind before after =
    sym (subst (λ (xs : List StatementMoves). xs ++ behind ≡ all) (sym before) (subst (λ (ys : List StatementMoves). take n all ++ ys ≡ all) (sym after) (take-append-drop n all)))

in_two : (f : StatementMoves → List Move) (front behind all : List StatementMoves) → all ≡ front ++ behind
    → all_singles (flat_map f all) ≡ all_singles (flat_map f front) ++ all_singles (flat_map f behind)
in_two f front behind all is =
    ap (λ (ss : List StatementMoves). all_singles (flat_map f ss)) is ∙ ap all_singles (flat_map-append f front behind) ∙ all_singles-append (flat_map f front) (flat_map f behind)

all_split : (r : Records) (xs ys : List Move) → AreMoves r (xs ++ ys) → AreMoves r xs × AreMoves r ys
all_split r [] ys h = (tt, h)
all_split r (x ∷ xs) ys h = let (front, behind) = all_split r xs ys h.1 in ((h.0, front), behind)

pub legal_in_two : (r : Records) (f : StatementMoves → List Move) (front behind all : List StatementMoves) → all ≡ front ++ behind → AreMoves r (flat_map f all)
    → AreMoves r (flat_map f front) × AreMoves r (flat_map f behind)
legal_in_two r f front behind all is h =
    all_split r (flat_map f front) (flat_map f behind) (subst (λ (ms : List Move). AreMoves r ms) (ap (flat_map f) is ∙ flat_map-append f front behind) h)

pub met_behind : (P : SingleMove → Type 0) (f : StatementMoves → List Move) (front behind all : List StatementMoves) (a : Bool) → all ≡ front ++ behind → a ≡ true
    → Decides a (SomeOf P (all_singles (flat_map f behind))) → Decides true (SomeOf P (all_singles (flat_map f all)))
met_behind P f front behind all a is does (one, only) = (
  λ e. subst (λ (ss : List SingleMove). SomeOf P ss) (sym (in_two f front behind all is)) (some_behind P (all_singles (flat_map f front)) (all_singles (flat_map f behind)) (one does)),
  λ g. refl,
)

pub met_else : (P : SingleMove → Type 0) (f : StatementMoves → List Move) (front behind all : List StatementMoves) (a b : Bool) → all ≡ front ++ behind → a ≡ false
    → Decides a (SomeOf P (all_singles (flat_map f behind))) → Decides b (SomeOf P (all_singles (flat_map f front))) → Decides b (SomeOf P (all_singles (flat_map f all)))
met_else P f front behind all a b is doesnt (one, only) (has, needs) = (
  λ e. subst (λ (ss : List SingleMove). SomeOf P ss) (sym (in_two f front behind all is)) (some_front P (all_singles (flat_map f front)) (all_singles (flat_map f behind)) (has e)),
  λ h. elim (some_split P (all_singles (flat_map f front)) (all_singles (flat_map f behind)) (subst (λ (ss : List SingleMove). SomeOf P ss) (in_two f front behind all is) h)) [
    | inl g ↦ needs g
    | inr g ↦ absurd (never a doesnt (only g))
  ],
)
