-- What stands behind a skip.
use Rattle.std.proofs.Common.{◌≡◌, ℕ, ◌+◌, ◌≤◌, List, [], ◌∷◌, ◌++◌, arith, drop, length, take, sym, ap, ◌∙◌, append_assoc, length-drop}
use Rattle.std.specs.List.{AllByRecursion}
use Rattle.std.proofs.lemmas.List.{drop-append-le, take-append-drop}
use Rattle.cob_move_deeds.specs.declared.flow.Flow.{Flow}
use Rattle.cob_move_deeds.specs.declared.flow.Flow.TheVariants as flow
use Rattle.cob_move_deeds.specs.Flows.{behind_first, behind_skip}

-- a skip stands behind so many, and others behind it
pub skip_within : (holding lacking : ℕ) (fs : List Flow) → drop holding fs ≡ flow.Skip lacking ∷ behind_skip holding fs → holding + 1 + length (behind_skip holding fs) ≡ length fs
skip_within holding lacking fs e = omega (arith, ap length e, length-drop holding fs)

behind_first_fewer : (fs : List Flow) → length (behind_first fs) ≤ length fs
behind_first_fewer [] = omega arith
behind_first_fewer (f ∷ fs) = omega arith

pub behind_fewer : (holding : ℕ) (fs : List Flow) → length (behind_skip holding fs) ≤ length fs
behind_fewer holding fs = omega (arith, behind_first_fewer (drop holding fs), length-drop holding fs)

-- flows with a skip among them: those in front of it, it, and those behind it
pub skip_parts : (holding lacking : ℕ) (fs others : List Flow) → drop holding fs ≡ flow.Skip lacking ∷ behind_skip holding fs
    → fs ++ others ≡ take holding fs ++ flow.Skip lacking ∷ (behind_skip holding fs ++ others)
skip_parts holding lacking fs others e =
    ap (λ (gs : List Flow). gs ++ others) (sym (take-append-drop holding fs) ∙ ap (λ (gs : List Flow). take holding fs ++ gs) e)
    ∙ append_assoc (take holding fs) (flow.Skip lacking ∷ behind_skip holding fs) others

-- what stands behind a skip, where others stand behind all
pub skip_behind : (holding lacking : ℕ) (fs others : List Flow) → drop holding fs ≡ flow.Skip lacking ∷ behind_skip holding fs → behind_skip holding (fs ++ others) ≡ behind_skip holding fs ++ others
skip_behind holding lacking fs others e =
    ap (λ (gs : List Flow). behind_first gs) (drop-append-le holding fs others (omega (arith, skip_within holding lacking fs e)) ∙ ap (λ (gs : List Flow). gs ++ others) e)

-- each flow behind a skip is one of them
all_behind_first : (P : Flow → Type 0) (fs : List Flow) → AllByRecursion P fs → AllByRecursion P (behind_first fs)
all_behind_first P [] all = all
all_behind_first P (f ∷ fs) all = all.1

pub all_behind_skip : (P : Flow → Type 0) (holding : ℕ) (fs : List Flow) → AllByRecursion P (drop holding fs) → AllByRecursion P (behind_skip holding fs)
all_behind_skip P holding fs all = all_behind_first P (drop holding fs) all
