-- Branches side by side.
use Rattle.std.proofs.Common.{◌≡◌, ℕ, suc, ◌+◌, ◌<◌, Bool, true, false, ◌==◌, List, [], ◌∷◌, length, drop, get_or, Option, Some, None, refl, ◌∙◌, arith}
use Rattle.std.specs.Prelude.{is_some, IsTrue}
use Rattle.std.proofs.Math.Bool.{beq}
use Rattle.std.proofs.lemmas.Bool.Decides.{nat_tests}
use Rattle.cob_picture.specs.Positions.{PlainPicture}
use Rattle.cob_copybook_entry.specs.Described.{plain_entry}
use Rattle.cob_copybook_tree.specs.declared.branch.Branch.{Branch}
use Rattle.cob_copybook_tree.specs.declared.branch.Branch.TheViews.{out-Branch}
use Rattle.cob_copybook_tree.specs.Forests.{AnEntry}
use Rattle.cob_copybook_tree.specs.Branches.{forest_of}
use Rattle.cob_copybook_tree.proofs.BranchLemmas.{forest_at, forest_out}
use Rattle.cob_copybook_rules.specs.Filled.{IsFilled}

-- the forest of the branches from a place on
pub forest_from : (bs : List Branch) (i : ℕ) (b : Branch) → i < length bs → b ≡ get_or bs i b
    → forest_of (drop i bs) ≡ AnEntry (plain_entry (out-Branch b).entry) (forest_of (out-Branch b).children.items) (forest_of (drop (i + 1) bs))
forest_from bs i b lt is = forest_at bs i b lt is ∙ forest_out b (drop (i + 1) bs)

suc_not_0 : (d : ℕ) → (suc d == 0) ≡ false
suc_not_0 d = grind (arith, nat_tests)

-- an entry with a picture or with branches beneath it, and not both
pub filled_by : (p : Option PlainPicture) (bs : List Branch) (pictured empty : Bool) → pictured ≡ is_some p → empty ≡ (length bs == 0) → IsTrue (beq pictured empty) → IsFilled p (forest_of bs)
filled_by None [] true empty e f h = absurd cc
filled_by None [] false true e f h = absurd cc
filled_by None [] false false e f h = absurd cc
filled_by None (b ∷ bs) pictured empty e f h = tt
filled_by (Some p) [] pictured empty e f h = tt
filled_by (Some p) (b ∷ bs) false empty e f h = absurd cc
filled_by (Some p) (b ∷ bs) true true e f h = absurd (let x = f ∙ suc_not_0 (length bs) in cc)
filled_by (Some p) (b ∷ bs) true false e f h = absurd cc

pub filled_only : (p : Option PlainPicture) (bs : List Branch) (pictured empty : Bool) → pictured ≡ is_some p → empty ≡ (length bs == 0) → IsFilled p (forest_of bs) → IsTrue (beq pictured empty)
filled_only None [] pictured empty e f h = absurd h
filled_only None (b ∷ bs) true empty e f h = absurd cc
filled_only None (b ∷ bs) false true e f h = absurd (let x = f ∙ suc_not_0 (length bs) in cc)
filled_only None (b ∷ bs) false false e f h = refl
filled_only (Some p) [] true true e f h = refl
filled_only (Some p) [] true false e f h = absurd cc
filled_only (Some p) [] false empty e f h = absurd cc
filled_only (Some p) (b ∷ bs) pictured empty e f h = absurd h
