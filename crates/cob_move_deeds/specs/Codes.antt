-- A code for deeds, by which proofs tell them apart: the list of what is done, with what follows each thing behind it, and a mark where nothing follows.
use Rattle.std.specs.Prelude.{◌≡◌, ◌⊎◌, refl, List, [], ◌∷◌, ◌++◌, Option, Some, None}
use Rattle.std.specs.Coded.{Coded, code_by, coded_list, coded_option, coded⊎}
use Rattle.std.proofs.Common.{ap, ◌∙◌, sym, inl, inr}
use Rattle.std.proofs.lemmas.List.{append_assoc, append-nil}
use Rattle.cob_move_data.specs.Moves.{Move}
use Rattle.cob_move_deeds.specs.Deeds.{Choice, Deeds, Moving, Nothing}

-- moves with what follows them; a test with what is done where it holds, what is done where it doesn't, and what follows; or a mark
abbrev pub deed_list : {T : Type 0} → Deeds T → List (Option (List Move ⊎ T))
deed_list Nothing = None ∷ []
deed_list (Moving ms more) = Some (inl ms) ∷ deed_list more
deed_list (Choice t holding lacking more) = Some (inr t) ∷ (deed_list holding ++ (deed_list lacking ++ deed_list more))

-- moves take what stands behind them
abbrev pub with_moves : {T : Type 0} → List Move → List (Deeds T) → List (Deeds T)
with_moves ms [] = []
with_moves ms (more ∷ ds) = Moving ms more ∷ ds

-- a test takes the three that stand behind it
abbrev pub with_test : {T : Type 0} → T → List (Deeds T) → List (Deeds T)
with_test t [] = []
with_test t (holding ∷ []) = []
with_test t (holding ∷ lacking ∷ []) = []
with_test t (holding ∷ lacking ∷ more ∷ ds) = Choice t holding lacking more ∷ ds

-- what one more thing, or a mark, makes of what stands behind it
abbrev pub with_deed : {T : Type 0} → Option (List Move ⊎ T) → List (Deeds T) → List (Deeds T)
with_deed None ds = Nothing ∷ ds
with_deed (Some (inl ms)) ds = with_moves ms ds
with_deed (Some (inr t)) ds = with_test t ds

-- what such a list stands for
abbrev pub deeds_listed : {T : Type 0} → List (Option (List Move ⊎ T)) → List (Deeds T)
deeds_listed [] = []
deeds_listed (x ∷ xs) = with_deed x (deeds_listed xs)

-- the first of them
abbrev pub first_deeds : {T : Type 0} → List (Deeds T) → Deeds T
first_deeds [] = Nothing
first_deeds (d ∷ ds) = d

pub listed_again : {T : Type 0} (d : Deeds T) (xs : List (Option (List Move ⊎ T))) → deeds_listed (deed_list d ++ xs) ≡ d ∷ deeds_listed xs
listed_again Nothing xs = refl
listed_again {T} (Moving ms more) xs = ap (λ (ds : List (Deeds T)). with_moves ms ds) (listed_again more xs)
listed_again {T} (Choice t holding lacking more) xs =
    ap (λ (ys : List (Option (List Move ⊎ T))). with_test t (deeds_listed ys)) (append_assoc (deed_list holding) (deed_list lacking ++ deed_list more) xs)
    ∙ ap (λ (ys : List (Option (List Move ⊎ T))). with_test t (deeds_listed (deed_list holding ++ ys))) (append_assoc (deed_list lacking) (deed_list more) xs)
    ∙ ap (λ (ds : List (Deeds T)). with_test t ds) (listed_again holding (deed_list lacking ++ (deed_list more ++ xs)))
    ∙ ap (λ (ds : List (Deeds T)). with_test t (holding ∷ ds)) (listed_again lacking (deed_list more ++ xs))
    ∙ ap (λ (ds : List (Deeds T)). with_test t (holding ∷ lacking ∷ ds)) (listed_again more xs)

pub same_deeds : {T : Type 0} (d : Deeds T) → first_deeds (deeds_listed (deed_list d)) ≡ d
same_deeds {T} d =
    ap (λ (xs : List (Option (List Move ⊎ T))). first_deeds (deeds_listed xs)) (sym (append-nil (deed_list d)))
    ∙ ap (λ (ds : List (Deeds T)). first_deeds ds) (listed_again d [])

-- the code of deeds, by those of moves and of tests
abbrev pub coded_deeds : {T : Type 0} → Coded (List Move) → Coded T → Coded (Deeds T)
coded_deeds {T} ms t = code_by (List (Option (List Move ⊎ T))) (coded_list (coded_option (coded⊎ ms t))) deed_list (λ xs. first_deeds (deeds_listed xs)) same_deeds
