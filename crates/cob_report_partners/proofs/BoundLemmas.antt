-- By what loops end, and why none does.
use Rattle.std.proofs.Common.{◌≡◌, ℕ, ◌≤◌, Bool, true, false, ◌&&◌, ◌||◌, List, [], ◌∷◌, refl, sym, ap, subst, ◌∙◌, arith, inl, inr, Option, Some, None, IfSome}
use Rattle.std.specs.Prelude.{IsTrue, min, nat_eq}
use Rattle.std.proofs.lemmas.Bool.Decides.{eqb_tells}
use Rattle.cob_report_partners.specs.Bounds.{AreMoved, IsWithin, StaysWithin, bound_by, bound_of, bound_where, is_among, is_moved, is_moved_from, number_at, some_level}
use Rattle.cob_report_partners.specs.Verdicts.{Objects, is_so}
use Rattle.cob_report_partners.specs.declared.bounds.CountMove.{CountMove}
use Rattle.cob_report_partners.specs.declared.bounds.DraftCounts.{DraftCounts}
use Rattle.cob_report_partners.specs.declared.bounds.LoopBound.{LoopBound}
use Rattle.cob_report_partners.specs.declared.bounds.LoopBound.TheVariants.{Input, Output}
use Rattle.cob_report_partners.specs.declared.bounds.TableSize.{TableSize}
use Rattle.cob_report_partners.specs.declared.entries.DraftEntry.{DraftEntry}
use Rattle.cob_report_partners.specs.declared.judge.Objection.{Objection}
use Rattle.cob_report_partners.specs.declared.judge.Objection.TheVariants as objection

no_both : {X : Type 0} → false ≡ true → X
no_both e = absurd (cc)

no_more : (n : ℕ) → n ≤ n
no_more n = omega arith

-- numbers that compare equal are one
one_number : (m n : ℕ) → nat_eq m n ≡ true → m ≡ n
one_number m n is = elim (eqb_tells m n) [
  | inl told ↦ told.1
  | inr told ↦ no_both (sym told.0 ∙ is)
]

both_hold : (a b : Bool) → (a && b) ≡ true → (a ≡ true) × (b ≡ true)
both_hold true true is = (refl, refl)
both_hold true false is = no_both is
both_hold false b is = no_both is

-- a count that was moved from this entry has its number
moved_agree : (input output : ℕ → ℕ) (sent count : ℕ) (ms : List CountMove) → AreMoved input output ms → is_moved_from ms sent count ≡ true → output count ≡ input sent
moved_agree input output sent count [] are is = no_both is
moved_agree input output sent count (m ∷ ms) are is = by (moved_agree input output sent count ms are.1) (nat_eq m.to count && nat_eq m.from sent) refl is
  where
    here : (nat_eq m.to count ≡ true) × (nat_eq m.from sent ≡ true) → output count ≡ input sent
    here e = ap output (sym (one_number m.to count e.0)) ∙ are.0 ∙ ap input (one_number m.from sent e.1)

    by : (is_moved_from ms sent count ≡ true → output count ≡ input sent) → (b : Bool) → (nat_eq m.to count && nat_eq m.from sent) ≡ b
        → (b || is_moved_from ms sent count) ≡ true → output count ≡ input sent
    by more true e either = here (both_hold (nat_eq m.to count) (nat_eq m.from sent) e)
    by more false e either = more either

abbrev Stays : (input output : ℕ → ℕ) (sent count : Option ℕ) → Option LoopBound → Type 0
Stays input output sent count b = IfSome b (λ b. IsWithin (number_at input output b) input sent × IsWithin (number_at input output b) output count)

by_input : (input output : ℕ → ℕ) (sent : ℕ) (b : Bool) → Stays input output (Some sent) None (bound_where b (Input sent))
by_input input output sent true = (no_more (input sent), tt)
by_input input output sent false = tt

by_output : (input output : ℕ → ℕ) (count : ℕ) (b : Bool) → Stays input output None (Some count) (bound_where b (Output count))
by_output input output count true = (tt, no_more (output count))
by_output input output count false = tt

by_both : (input output : ℕ → ℕ) (sent count : ℕ) (b : Bool) → (b ≡ true → output count ≡ input sent) → Stays input output (Some sent) (Some count) (bound_where b (Input sent))
by_both input output sent count true agree = (no_more (input sent), omega (arith, agree refl))
by_both input output sent count false agree = tt

by_counts : (counts : DraftCounts) (least : ℕ) (sent count : Option ℕ) (input output : ℕ → ℕ) → AreMoved input output counts.moved.now
    → Stays input output sent count (bound_by counts least sent count)
by_counts counts least None None input output are = (tt, tt)
by_counts counts least (Some sent) None input output are = by_input input output sent (is_among counts.named.now sent)
by_counts counts least None (Some count) input output are = by_output input output count (is_moved counts.moved.now count)
by_counts counts least (Some sent) (Some count) input output are =
    by_both input output sent count (is_moved_from counts.moved.now sent count) (moved_agree input output sent count counts.moved.now are)

pub stays : (counts : DraftCounts) (from to : TableSize) (input output : ℕ → ℕ) → AreMoved input output counts.moved.now
    → IfSome (bound_of counts from to) (StaysWithin input output from to)
stays counts from to input output are = by_counts counts (min from.most to.most) from.count to.count input output are

-- where no two tables are so, no level is
none_so : (are : TableSize → TableSize → Bool) → ((f t : TableSize) → are f t ≡ false) → (from to : List TableSize) → some_level are from to ≡ false
none_so are none [] to = refl
none_so are none (f ∷ from) [] = refl
none_so are none (f ∷ from) (t ∷ to) = ap (λ b. b || some_level are from to) (none f t) ∙ none_so are none from to

-- why no loop ends over some two tables is against the move
objects : (counts : DraftCounts) (from to : DraftEntry) (o : Objection) → IsTrue (some_level (is_so counts o) from.tables.items to.tables.items)
    → (sent room : ℕ) → Objects counts from sent to room o
objects counts from to objection.Unnamed is sent room = is
objects counts from to objection.Unmoved is sent room = is
objects counts from to objection.Apart is sent room = is
objects counts from to objection.Tables is sent room = no_both (sym (none_so (is_so counts objection.Tables) (λ f t. refl) from.tables.items to.tables.items) ∙ is)
objects counts from to objection.Counts is sent room = no_both (sym (none_so (is_so counts objection.Counts) (λ f t. refl) from.tables.items to.tables.items) ∙ is)
objects counts from to (objection.Refused r) is sent room = no_both (sym (none_so (is_so counts (objection.Refused r)) (λ f t. refl) from.tables.items to.tables.items) ∙ is)
objects counts from to (objection.Loses l) is sent room = no_both (sym (none_so (is_so counts (objection.Loses l)) (λ f t. refl) from.tables.items to.tables.items) ∙ is)
objects counts from to (objection.Description u) is sent room = no_both (sym (none_so (is_so counts (objection.Description u)) (λ f t. refl) from.tables.items to.tables.items) ∙ is)

-- and so it is where these are the tables of the two
pub objects_of : (counts : DraftCounts) (from to : DraftEntry) (o : Objection) (fs ts : List TableSize) → fs ≡ from.tables.items → ts ≡ to.tables.items
    → IsTrue (some_level (is_so counts o) fs ts) → (sent room : ℕ) → Objects counts from sent to room o
objects_of counts from to o fs ts sending receiving is =
    objects counts from to o
    (subst (λ (l : List TableSize). IsTrue (some_level (is_so counts o) l to.tables.items)) sending
    (subst (λ (l : List TableSize). IsTrue (some_level (is_so counts o) fs l)) receiving is))
