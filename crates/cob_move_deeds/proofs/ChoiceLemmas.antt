-- IF and EVALUATE, and the choices that they are written out as.
use Rattle.std.proofs.Common.{◌≡◌, inl, inr, ℕ, false, List, [], ◌∷◌, ◌++◌, refl, sym, ap, subst, Ok}
use Rattle.cob_move_data.specs.Moves.{Records}
use Rattle.cob_move_condition.specs.Conditions.{Condition}
use Rattle.cob_move_apply.specs.Applied.{Ending}
use Rattle.cob_move_deeds.specs.Choices.{FirstDone, IfDone, When, WhenDone, if_holds, if_lacks, if_stops, selection}
use Rattle.cob_move_deeds.specs.Deeds.{Carried, Choice, Deeds, Nothing}
use Rattle.cob_move_deeds.specs.Tests.{Holds, Judged, Test}
use Rattle.cob_move_deeds.proofs.DeedLemmas.{to_nothing, with_nothing}

pub choice_there : (r : Records) (c : Condition) (holding lacking : Deeds Test) (input before : List ℕ) (end : Ending)
    → Carried (Judged r) r (Choice (Holds c) holding lacking Nothing) input before end → IfDone r c holding lacking input before end
choice_there r c holding lacking input before end (inl (is, x)) = if_holds is (to_nothing (Judged r) r holding input before end x)
choice_there r c holding lacking input before end (inr (inl (is, x))) = if_lacks is (to_nothing (Judged r) r lacking input before end x)
choice_there r c holding lacking input before end (inr (inr (stop, is, e))) = if_stops stop is e

pub choice_back : (r : Records) (c : Condition) (holding lacking : Deeds Test) (input before : List ℕ) (end : Ending)
    → IfDone r c holding lacking input before end → Carried (Judged r) r (Choice (Holds c) holding lacking Nothing) input before end
choice_back r c holding lacking input before end (if_holds is x) = inl (is, with_nothing (Judged r) r holding input before end x)
choice_back r c holding lacking input before end (if_lacks is x) = inr (inl (is, with_nothing (Judged r) r lacking input before end x))
choice_back r c holding lacking input before end (if_stops stop is e) = inr (inr (stop, is, e))

-- ---- several

-- one more before them that doesn't hold
one_before : (r : Records) (w : When) (ws : List When) (other : Deeds Test) (input before : List ℕ) (end : Ending) → Judged r (Holds w.condition) input before (Ok false)
    → FirstDone r ws other input before end → FirstDone r (w ∷ ws) other input before end
one_before r w ws other input before end is (inl (none, x)) = inl ((is, none), x)
one_before r w ws other input before end is (inr (front, v, behind, e, none, x)) = inr (w ∷ front, v, behind, ap (λ (t : List When). w ∷ t) e, (is, none), x)

pub selection_there : (r : Records) (ws : List When) (other : Deeds Test) (input before : List ℕ) (end : Ending)
    → Carried (Judged r) r (selection ws other) input before end → FirstDone r ws other input before end
selection_there r [] other input before end x = inl (tt, x)
selection_there r (w ∷ ws) other input before end (inl (is, x)) = inr ([], w, ws, refl, tt, inl (is, to_nothing (Judged r) r w.deeds input before end x))
selection_there r (w ∷ ws) other input before end (inr (inl (is, x))) =
    one_before r w ws other input before end is (selection_there r ws other input before end (to_nothing (Judged r) r (selection ws other) input before end x))
selection_there r (w ∷ ws) other input before end (inr (inr (stop, is, e))) = inr ([], w, ws, refl, tt, inr (stop, is, e))

no_when : (front behind : List When) (w : When) → [] ≡ front ++ w ∷ behind → ⊥
no_when [] behind w e = cc
no_when (u ∷ front) behind w e = cc

first_when : (w v : When) (ws vs : List When) → w ∷ ws ≡ v ∷ vs → w ≡ v
first_when w v ws vs e = cc

behind_when : (w v : When) (ws vs : List When) → w ∷ ws ≡ v ∷ vs → ws ≡ vs
behind_when w v ws vs e = cc

-- a WHEN that is reached
reached : (r : Records) (w : When) (next : Deeds Test) (input before : List ℕ) (end : Ending) → WhenDone r w input before end → Carried (Judged r) r (Choice (Holds w.condition) w.deeds next Nothing) input before end
reached r w next input before end (inl (is, x)) = inl (is, with_nothing (Judged r) r w.deeds input before end x)
reached r w next input before end (inr (stop, is, e)) = inr (inr (stop, is, e))

pub selection_back : (r : Records) (ws : List When) (other : Deeds Test) (input before : List ℕ) (end : Ending)
    → FirstDone r ws other input before end → Carried (Judged r) r (selection ws other) input before end
selection_back r [] other input before end (inl (none, x)) = x
selection_back r [] other input before end (inr (front, w, behind, e, none, x)) = absurd (no_when front behind w e)
selection_back r (w ∷ ws) other input before end (inl ((is, none), x)) =
    inr (inl (is, with_nothing (Judged r) r (selection ws other) input before end (selection_back r ws other input before end (inl (none, x)))))
selection_back r (w ∷ ws) other input before end (inr ([], v, behind, e, none, x)) =
    reached r w (selection ws other) input before end (subst (λ (u : When). WhenDone r u input before end) (sym (first_when w v ws behind e)) x)
selection_back r (w ∷ ws) other input before end (inr (u ∷ front, v, behind, e, (is, none), x)) =
    inr (inl (
      subst (λ (k : When). Judged r (Holds k.condition) input before (Ok false)) (sym (first_when w u ws (front ++ v ∷ behind) e)) is,
      with_nothing (Judged r) r (selection ws other) input before end
          (selection_back r ws other input before end (inr (front, v, behind, behind_when w u ws (front ++ v ∷ behind) e, none, x))),
    ))
