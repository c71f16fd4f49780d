-- A code for tests, by which proofs tell them apart: a bound, or the parts of a condition, with what each joins behind it.
use Rattle.std.specs.Prelude.{◌≡◌, ◌⊎◌, refl, List, [], ◌∷◌, ◌++◌}
use Rattle.std.specs.Coded.{Coded, code_by, coded_list, coded⊎}
use Rattle.std.specs.declared.cmp.Ordering.{Ordering}
use Rattle.std.proofs.Common.{ap, ◌∙◌, sym, inl, inr}
use Rattle.std.proofs.lemmas.List.{append_assoc, append-nil}
use Rattle.cob_move_data.specs.Moves.{Sender}
use Rattle.cob_move_condition.specs.declared.class.Class.{Class}
use Rattle.cob_move_condition.specs.Conditions.{Always, Both, Compares, Condition, Either, HasClass, Not}
use Rattle.cob_move_deeds.specs.Tests.{Holds, Past, Test, Until}

-- what stands at one place of a condition
pub data ConditionPart : Type 0 where
  AlwaysPart : ConditionPart
  ComparesPart : Sender → Ordering → Sender → ConditionPart
  HasClassPart : Sender → Class → ConditionPart
  NotPart : ConditionPart
  BothPart : ConditionPart
  EitherPart : ConditionPart

-- the parts of a condition, each before what it joins
abbrev pub condition_parts : Condition → List ConditionPart
condition_parts Always = AlwaysPart ∷ []
condition_parts (Compares a relation b) = ComparesPart a relation b ∷ []
condition_parts (HasClass a class) = HasClassPart a class ∷ []
condition_parts (Not c) = NotPart ∷ condition_parts c
condition_parts (Both c d) = BothPart ∷ (condition_parts c ++ condition_parts d)
condition_parts (Either c d) = EitherPart ∷ (condition_parts c ++ condition_parts d)

-- NOT takes the condition behind it
abbrev pub with_not : List Condition → List Condition
with_not [] = []
with_not (c ∷ cs) = Not c ∷ cs

-- AND takes two
abbrev pub with_both : List Condition → List Condition
with_both [] = []
with_both (c ∷ []) = []
with_both (c ∷ d ∷ cs) = Both c d ∷ cs

-- OR takes two
abbrev pub with_either : List Condition → List Condition
with_either [] = []
with_either (c ∷ []) = []
with_either (c ∷ d ∷ cs) = Either c d ∷ cs

-- what one more part makes of the conditions behind it
abbrev pub with_part : ConditionPart → List Condition → List Condition
with_part AlwaysPart cs = Always ∷ cs
with_part (ComparesPart a relation b) cs = Compares a relation b ∷ cs
with_part (HasClassPart a class) cs = HasClass a class ∷ cs
with_part NotPart cs = with_not cs
with_part BothPart cs = with_both cs
with_part EitherPart cs = with_either cs

-- what such a list stands for
abbrev pub conditions_listed : List ConditionPart → List Condition
conditions_listed [] = []
conditions_listed (x ∷ xs) = with_part x (conditions_listed xs)

-- the first of them
abbrev pub first_condition : List Condition → Condition
first_condition [] = Always
first_condition (c ∷ cs) = c

pub parts_again : (c : Condition) (xs : List ConditionPart) → conditions_listed (condition_parts c ++ xs) ≡ c ∷ conditions_listed xs
parts_again Always xs = refl
parts_again (Compares a relation b) xs = refl
parts_again (HasClass a class) xs = refl
parts_again (Not c) xs = ap (λ (cs : List Condition). with_not cs) (parts_again c xs)
parts_again (Both c d) xs =
    ap (λ (ys : List ConditionPart). with_both (conditions_listed ys)) (append_assoc (condition_parts c) (condition_parts d) xs)
    ∙ ap (λ (cs : List Condition). with_both cs) (parts_again c (condition_parts d ++ xs))
    ∙ ap (λ (cs : List Condition). with_both (c ∷ cs)) (parts_again d xs)
parts_again (Either c d) xs =
    ap (λ (ys : List ConditionPart). with_either (conditions_listed ys)) (append_assoc (condition_parts c) (condition_parts d) xs)
    ∙ ap (λ (cs : List Condition). with_either cs) (parts_again c (condition_parts d ++ xs))
    ∙ ap (λ (cs : List Condition). with_either (c ∷ cs)) (parts_again d xs)

pub same_condition : (c : Condition) → first_condition (conditions_listed (condition_parts c)) ≡ c
same_condition c =
    ap (λ (xs : List ConditionPart). first_condition (conditions_listed xs)) (sym (append-nil (condition_parts c)))
    ∙ ap (λ (cs : List Condition). first_condition cs) (parts_again c [])

-- a bound, or the parts of a condition
abbrev pub test_parts : Test → Past ⊎ List ConditionPart
test_parts (Until t) = inl t
test_parts (Holds c) = inr (condition_parts c)

-- what such parts stand for
abbrev pub test_listed : Past ⊎ List ConditionPart → Test
test_listed (inl t) = Until t
test_listed (inr xs) = Holds (first_condition (conditions_listed xs))

pub same_test : (t : Test) → test_listed (test_parts t) ≡ t
same_test (Until t) = refl
same_test (Holds c) = ap (λ (d : Condition). Holds d) (same_condition c)

-- the code of tests, by those of bounds and of the parts of conditions
abbrev pub coded_test : Coded Past → Coded ConditionPart → Coded Test
coded_test past part = code_by (Past ⊎ List ConditionPart) (coded⊎ past (coded_list part)) test_parts test_listed same_test
