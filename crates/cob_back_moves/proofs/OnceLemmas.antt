-- Occurrences that receive once.
use Rattle.std.proofs.Common.{◌≡◌, Bool, true, false, List, [], ◌∷◌, map, refl, sym, ap, subst, ◌∙◌, inl, inr}
use Rattle.std.specs.Bool.{Decides}
use Rattle.std.specs.List.{AllByRecursion}
use Rattle.cob_codec.specs.declared.reading.Reading.{Reading}
use Rattle.cob_layout_places.specs.Cover.{Occurrence}
use Rattle.cob_move_data.specs.declared.operands.StatementMoves.{StatementMoves}
use Rattle.cob_move_data.specs.Moves.{Records}
use Rattle.cob_move_data.specs.Singles.{PlainSingle, SingleMove, occurrence_of, single_between, singles_of}
use Rattle.cob_move_data.proofs.SingleLemmas.{of_placed}
use Rattle.cob_back_moves.specs.Singles.{ReceiveOnce, Receives}
use Rattle.cob_back_moves.specs.Received.{ReceivesOnce, singles_by}
use Rattle.cob_back_moves.proofs.EachLemmas.{mapped}
use Rattle.cob_back_moves.proofs.LeftLemmas.{Both, never}

-- ---- none receives twice exactly where each that receives does so in no two

pub once_any : (ss : List SingleMove) → ReceiveOnce ss → (x : Occurrence) → ReceivesOnce x ss
once_any [] h x = tt
once_any (s ∷ ss) h x = (λ is more. h.0 (subst (λ (y : Occurrence). Receives y ss) (sym is) more), once_any ss h.1 x)

all_weaker : {A : Type 0} (P Q : A → Type 0) → ((x : A) → P x → Q x) → (xs : List A) → AllByRecursion P xs → AllByRecursion Q xs
all_weaker P Q f [] h = tt
all_weaker P Q f (x ∷ xs) h = (f x h.0, all_weaker P Q f xs h.1)

all_any : {A : Type 0} (P : A → Type 0) → ((x : A) → P x) → (xs : List A) → AllByRecursion P xs
all_any P f [] = tt
all_any P f (x ∷ xs) = (f x, all_any P f xs)

-- what receives in the ones receives in no two of the others
abbrev EachOnce : List SingleMove → List SingleMove → Type 0
EachOnce ss ts = AllByRecursion (λ (s : SingleMove). ReceivesOnce (occurrence_of s.receiver) ts) ss

once_all : (ss : List SingleMove) → EachOnce ss ss → ReceiveOnce ss
once_all [] h = tt
once_all (s ∷ ss) h = (
  h.0.0 refl,
  once_all ss (all_weaker (λ (t : SingleMove). ReceivesOnce (occurrence_of t.receiver) (s ∷ ss)) (λ (t : SingleMove). ReceivesOnce (occurrence_of t.receiver) ss) (λ t k. k.1) ss h.1),
)

-- those that are gone through are those of the moves that statements mean
meant_by : (x : Reading) (r : Records) (ss : List StatementMoves) (ps : List PlainSingle) → ps ≡ singles_of ss → singles_by x r ss ≡ map (single_between x r) ps
meant_by x r ss ps is = of_placed x r 0 ss ∙ ap (map (single_between x r)) (sym is)

pub each_once : (x : Reading) (r : Records) (ss : List StatementMoves) (ps : List PlainSingle) → ps ≡ singles_of ss
    → Both (AllByRecursion (λ (p : PlainSingle). ReceivesOnce p.receiver (singles_by x r ss)) ps) (ReceiveOnce (singles_by x r ss))
each_once x r ss ps is =
    let all = singles_by x r ss in
    let (goes, back) = mapped (λ (t : SingleMove). ReceivesOnce (occurrence_of t.receiver) all) (single_between x r) ps in (
      λ h. once_all all (subst (λ (ts : List SingleMove). EachOnce ts all) (sym (meant_by x r ss ps is)) (goes h)),
      λ once. all_any (λ (p : PlainSingle). ReceivesOnce p.receiver all) (λ p. once_any all once p.receiver) ps,
    )

-- ---- one occurrence, gone through

-- what is asked of those that are left, where the occurrence receives in those before or doesn't
abbrev IsLeft : Bool → Occurrence → List SingleMove → Type 0
IsLeft true x ss = Receives x ss → ⊥
IsLeft false x ss = ReceivesOnce x ss

-- it receives in no two of all where what is left is as is asked
abbrev pub Once : Bool → Occurrence → List PlainSingle → List StatementMoves → Type 0
Once b x left all = (y : Reading) (r : Records) → Both (IsLeft b x (map (single_between y r) left)) (ReceivesOnce x (singles_by y r all))

pub once_start : (x : Occurrence) (left : List PlainSingle) (all : List StatementMoves) → left ≡ singles_of all → Once false x left all
once_start x left all is y r = (
  λ h. subst (λ (ss : List SingleMove). ReceivesOnce x ss) (sym (meant_by y r all left is)) h,
  λ h. subst (λ (ss : List SingleMove). ReceivesOnce x ss) (meant_by y r all left is) h,
)

once_none : (x : Occurrence) (ss : List SingleMove) → (Receives x ss → ⊥) → ReceivesOnce x ss
once_none x [] h = tt
once_none x (s ∷ ss) h = (λ is more. h (inr more), once_none x ss (λ more. h (inr more)))

-- the next one is the second
pub once_again : (x : Occurrence) (left later : List PlainSingle) (p : PlainSingle) (all : List StatementMoves) (b : Bool) (y : Reading) (r : Records) → left ≡ p ∷ later → p.receiver ≡ x
    → b ≡ true → Once b x left all → Decides false (ReceivesOnce x (singles_by y r all))
once_again x left later p all b y r is at seen so =
    let both = subst (λ (c : Bool). Once c x left all) seen so y r in
    let cut = λ (h : ReceivesOnce x (singles_by y r all)). subst (λ (ps : List PlainSingle). IsLeft true x (map (single_between y r) ps)) is (both.1 h) in
    never (ReceivesOnce x (singles_by y r all)) (λ h. cut h (inl at))

-- it is the first
pub once_first : (x : Occurrence) (left later : List PlainSingle) (p : PlainSingle) (all : List StatementMoves) (b : Bool) → left ≡ p ∷ later → p.receiver ≡ x → b ≡ false
    → Once b x left all → Once true x later all
once_first x left later p all b is at unseen so y r =
    let both = subst (λ (c : Bool). Once c x left all) unseen so y r in (
      λ h. both.0 (subst (λ (ps : List PlainSingle). IsLeft false x (map (single_between y r) ps)) (sym is) (λ e more. h more, once_none x (map (single_between y r) later) h)),
      λ h. let cut = subst (λ (ps : List PlainSingle). IsLeft false x (map (single_between y r) ps)) is (both.1 h) in cut.0 at,
    )

-- it is another's
pub once_other : (x : Occurrence) (left later : List PlainSingle) (p : PlainSingle) (all : List StatementMoves) (b : Bool) → left ≡ p ∷ later → (p.receiver ≡ x → ⊥)
    → Once b x left all → Once b x later all
once_other x left later p all true is isnt so y r =
    let both = so y r in (
      λ h. both.0 (subst (λ (ps : List PlainSingle). IsLeft true x (map (single_between y r) ps)) (sym is) (λ e. elim e [ inl at ↦ isnt at | inr more ↦ h more ])),
      λ h more. let cut = subst (λ (ps : List PlainSingle). IsLeft true x (map (single_between y r) ps)) is (both.1 h) in cut (inr more),
    )
once_other x left later p all false is isnt so y r =
    let both = so y r in (
      λ h. both.0 (subst (λ (ps : List PlainSingle). IsLeft false x (map (single_between y r) ps)) (sym is) (λ at more. isnt at, h)),
      λ h. let cut = subst (λ (ps : List PlainSingle). IsLeft false x (map (single_between y r) ps)) is (both.1 h) in cut.1,
    )

-- none are left
pub once_over : (x : Occurrence) (left : List PlainSingle) (all : List StatementMoves) (b : Bool) (y : Reading) (r : Records) → left ≡ [] → Once b x left all
    → Decides true (ReceivesOnce x (singles_by y r all))
once_over x left all true y r none so =
    let both = so y r in (λ is. both.0 (subst (λ (ps : List PlainSingle). IsLeft true x (map (single_between y r) ps)) (sym none) (λ e. e)), λ h. refl)
once_over x left all false y r none so =
    let both = so y r in (λ is. both.0 (subst (λ (ps : List PlainSingle). IsLeft false x (map (single_between y r) ps)) (sym none) tt), λ h. refl)
