-- A code for trees, by which proofs tell them apart: the list of a tree's entries, parents first, with a mark where a row of entries ends.
use Rattle.std.specs.Prelude.{◌≡◌, refl, List, [], ◌∷◌, ◌++◌, Option, Some, None}
use Rattle.std.specs.Coded.{Coded, code_by, coded_list, coded_option}
use Rattle.std.proofs.Common.{ap, ◌∙◌, sym}
use Rattle.std.proofs.lemmas.List.{append_assoc, append-nil}
use Rattle.cob_copybook_tree.specs.Forests.{Forest, NoEntries, AnEntry}

-- the entries of a tree, parents first, with a mark where a row of entries ends
abbrev pub told : {A : Type 0} → Forest A → List (Option A)
told NoEntries = None ∷ []
told (AnEntry e children more) = Some e ∷ (told children ++ told more)

-- an entry takes the two rows behind it: those beneath it, and those beside it
abbrev pub gather : {A : Type 0} → A → List (Forest A) → List (Forest A)
gather e [] = []
gather e (children ∷ []) = []
gather e (children ∷ more ∷ rows) = AnEntry e children more ∷ rows

-- what one more entry, or a mark, makes of the rows behind it
abbrev pub row : {A : Type 0} → Option A → List (Forest A) → List (Forest A)
row None rows = NoEntries ∷ rows
row (Some e) rows = gather e rows

-- the rows that a list of entries and marks stands for
abbrev pub rows_of : {A : Type 0} → List (Option A) → List (Forest A)
rows_of [] = []
rows_of (x ∷ xs) = row x (rows_of xs)

-- the first of them, which is the tree
abbrev pub first_row : {A : Type 0} → List (Forest A) → Forest A
first_row [] = NoEntries
first_row (f ∷ rows) = f

pub told_again : {A : Type 0} (f : Forest A) (xs : List (Option A)) → rows_of (told f ++ xs) ≡ f ∷ rows_of xs
told_again NoEntries xs = refl
told_again {A} (AnEntry e children more) xs =
    ap (λ (ys : List (Option A)). gather e (rows_of ys)) (append_assoc (told children) (told more) xs)
    ∙ ap (gather e) (told_again children (told more ++ xs))
    ∙ ap (λ (rows : List (Forest A)). gather e (children ∷ rows)) (told_again more xs)

pub same_again : {A : Type 0} (f : Forest A) → first_row (rows_of (told f)) ≡ f
same_again {A} f = ap (λ (xs : List (Option A)). first_row (rows_of xs)) (sym (append-nil (told f))) ∙ ap first_row (told_again f [])

-- the code of a tree, by that of its entries
abbrev pub coded_forest : {A : Type 0} → Coded A → Coded (Forest A)
coded_forest {A} c = code_by (List (Option A)) (coded_list (coded_option c)) told (λ xs. first_row (rows_of xs)) same_again
