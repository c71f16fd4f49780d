-- Moves that meet are together: what is done is the same.
use Rattle.std.proofs.Common.{◌≡◌, ◌⊎◌, inl, inr, ℕ, List, ◌++◌}
use Rattle.cob_move_apply.specs.Applied.{Applied, Ending}
use Rattle.cob_move_data.specs.Moves.{Move, Records}
use Rattle.cob_move_deeds.specs.Deeds.{Carried, Choice, Deeds, Judging, Moving, Nothing, Then, both_deeds}
use Rattle.cob_move_deeds.proofs.DeedLemmas.{moves_apart, moves_together, then_back, then_map, then_then}
use Rattle.cob_move.specs.Joined.{before_deeds, joined_deeds}

before_apart : {T : Type 0} (judged : Judging T) (r : Records) (ms : List Move) (d : Deeds T) (input before : List ℕ) (end : Ending)
    → Carried judged r (before_deeds ms d) input before end → Then (λ e. Applied r ms input before e) (λ after last. Carried judged r d input after last) end
before_apart judged r ms Nothing input before end x = x
before_apart judged r ms (Moving own more) input before end x =
    then_then (λ e. Applied r ms input before e) (λ after last. Applied r own input after last) (λ after last. Carried judged r more input after last) end
    (then_map (λ e. Applied r (ms ++ own) input before e) (λ e. Then (λ k. Applied r ms input before k) (λ after last. Applied r own input after last) e)
    (λ after last. Carried judged r more input after last) (λ after last. Carried judged r more input after last) end (λ e y. moves_apart r ms own input before e y) (λ after e y. y) x)
before_apart judged r ms (Choice t holding lacking more) input before end x = x

before_together : {T : Type 0} (judged : Judging T) (r : Records) (ms : List Move) (d : Deeds T) (input before : List ℕ) (end : Ending)
    → Then (λ e. Applied r ms input before e) (λ after last. Carried judged r d input after last) end → Carried judged r (before_deeds ms d) input before end
before_together judged r ms Nothing input before end x = x
before_together judged r ms (Moving own more) input before end x =
    then_map (λ e. Then (λ k. Applied r ms input before k) (λ after last. Applied r own input after last) e) (λ e. Applied r (ms ++ own) input before e)
    (λ after last. Carried judged r more input after last) (λ after last. Carried judged r more input after last) end (λ e y. moves_together r ms own input before e y) (λ after e y. y)
    (then_back (λ e. Applied r ms input before e) (λ after last. Applied r own input after last) (λ after last. Carried judged r more input after last) end x)
before_together judged r ms (Choice t holding lacking more) input before end x = x

pub joined_apart : {T : Type 0} (judged : Judging T) (r : Records) (d next : Deeds T) (input before : List ℕ) (end : Ending)
    → Carried judged r (joined_deeds d next) input before end → Carried judged r (both_deeds d next) input before end
joined_apart judged r Nothing next input before end x = x
joined_apart judged r (Moving ms more) next input before end x =
    then_map (λ e. Applied r ms input before e) (λ e. Applied r ms input before e) (λ after last. Carried judged r (joined_deeds more next) input after last)
    (λ after last. Carried judged r (both_deeds more next) input after last) end (λ e y. y) (λ after e y. joined_apart judged r more next input after e y)
    (before_apart judged r ms (joined_deeds more next) input before end x)
joined_apart judged r (Choice t holding lacking more) next input before end (inl (is, x)) =
    inl (
      is,
      then_map (λ e. Carried judged r holding input before e) (λ e. Carried judged r holding input before e) (λ after last. Carried judged r (joined_deeds more next) input after last)
          (λ after last. Carried judged r (both_deeds more next) input after last) end (λ e y. y) (λ after e y. joined_apart judged r more next input after e y) x,
    )
joined_apart judged r (Choice t holding lacking more) next input before end (inr (inl (is, x))) =
    inr (inl (
      is,
      then_map (λ e. Carried judged r lacking input before e) (λ e. Carried judged r lacking input before e) (λ after last. Carried judged r (joined_deeds more next) input after last)
          (λ after last. Carried judged r (both_deeds more next) input after last) end (λ e y. y) (λ after e y. joined_apart judged r more next input after e y) x,
    ))
joined_apart judged r (Choice t holding lacking more) next input before end (inr (inr stops)) = inr (inr stops)

pub joined_together : {T : Type 0} (judged : Judging T) (r : Records) (d next : Deeds T) (input before : List ℕ) (end : Ending)
    → Carried judged r (both_deeds d next) input before end → Carried judged r (joined_deeds d next) input before end
joined_together judged r Nothing next input before end x = x
joined_together judged r (Moving ms more) next input before end x =
    before_together judged r ms (joined_deeds more next) input before end
    (then_map (λ e. Applied r ms input before e) (λ e. Applied r ms input before e) (λ after last. Carried judged r (both_deeds more next) input after last)
    (λ after last. Carried judged r (joined_deeds more next) input after last) end (λ e y. y) (λ after e y. joined_together judged r more next input after e y) x)
joined_together judged r (Choice t holding lacking more) next input before end (inl (is, x)) =
    inl (
      is,
      then_map (λ e. Carried judged r holding input before e) (λ e. Carried judged r holding input before e) (λ after last. Carried judged r (both_deeds more next) input after last)
          (λ after last. Carried judged r (joined_deeds more next) input after last) end (λ e y. y) (λ after e y. joined_together judged r more next input after e y) x,
    )
joined_together judged r (Choice t holding lacking more) next input before end (inr (inl (is, x))) =
    inr (inl (
      is,
      then_map (λ e. Carried judged r lacking input before e) (λ e. Carried judged r lacking input before e) (λ after last. Carried judged r (both_deeds more next) input after last)
          (λ after last. Carried judged r (joined_deeds more next) input after last) end (λ e y. y) (λ after e y. joined_together judged r more next input after e y) x,
    ))
joined_together judged r (Choice t holding lacking more) next input before end (inr (inr stops)) = inr (inr stops)
