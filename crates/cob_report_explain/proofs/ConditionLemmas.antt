-- Conditions between moves, tested where a record is walked.
use Rattle.std.proofs.Common.{◌≡◌, ◌∙◌, ℕ, zero, suc, ◌+◌, ◌<◌, List, [], ◌∷◌, arith, drop, get_or, length, refl, subst, sym}
use Rattle.std.specs.List.{AllByRecursion}
use Rattle.std.proofs.lemmas.List.{drop-drop}
use Rattle.cob_move_data.specs.Moves.{Records}
use Rattle.cob_move_apply.specs.Entries.{IsPlacedEntry}
use Rattle.cob_move_apply.specs.declared.placed.PlacedEntry.{PlacedEntry}
use Rattle.cob_move_deeds.specs.declared.flow.Flow.{Flow}
use Rattle.cob_move_deeds.specs.Flows.{behind_first, behind_skip}

-- the entry with a number is one that is ready
pub placed_at : (r : Records) (n : ℕ) (es : List PlacedEntry) (e : PlacedEntry) → n < length es → e ≡ get_or es n e → AllByRecursion (IsPlacedEntry r) es → IsPlacedEntry r e
placed_at r n [] e lt is all = absurd (omega (arith, lt))
placed_at r zero (x ∷ es) e lt is all = subst (λ (p : PlacedEntry). IsPlacedEntry r p) (sym is) all.0
placed_at r (suc n) (x ∷ es) e lt is all = placed_at r n es e (omega (arith, lt)) is all.1

-- the flows behind the first
first_passed : (fs : List Flow) → drop 1 fs ≡ behind_first fs
first_passed [] = refl
first_passed (f ∷ fs) = refl

-- the flows behind so many and a skip
pub skip_passed : (n : ℕ) (fs mid left : List Flow) → mid ≡ drop n fs → left ≡ drop 1 mid → left ≡ behind_skip n fs
skip_passed n fs mid left first second = second ∙ subst (λ (gs : List Flow). drop 1 mid ≡ behind_first gs) first (first_passed mid)

pub all_passed : (n : ℕ) (fs mid left : List Flow) → mid ≡ drop n fs → left ≡ drop 1 mid → left ≡ drop (n + 1) fs
all_passed n fs mid left first second = second ∙ subst (λ (gs : List Flow). drop 1 mid ≡ drop 1 gs) first refl ∙ drop-drop 1 n fs
