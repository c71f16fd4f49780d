-- Flows that carry out all moves at once.
use Rattle.std.proofs.Common.{◌≡◌, ℕ, ◌-◌, ◌==◌, true, false, List, [], ◌∷◌, append-nil, length, refl, sym, ap, subst, ◌∙◌, arith, eqb-true, Result}
use Rattle.std.specs.List.{AllByRecursion}
use Rattle.std.proofs.lemmas.Bool.{and_parts}
use Rattle.cob_move_data.specs.Moves.{Move, Records}
use Rattle.cob_move_apply.specs.Applied.{Applied, Ending}
use Rattle.cob_move_apply.specs.Marked.{AreMarkedPrepared, moves_between_marks}
use Rattle.cob_move_apply.specs.Prepared.{moves_of}
use Rattle.cob_move_apply.specs.Reads.{ReadsOfMoves}
use Rattle.cob_move_apply.specs.Room.{Scratching}
use Rattle.cob_move_apply.specs.declared.marked.MarkedMoves.{MarkedMoves}
use Rattle.cob_move_apply.specs.declared.stop.Stop.{Stop}
use Rattle.cob_move_apply.proofs.MarkLemmas.{between_all}
use Rattle.cob_move_deeds.specs.declared.flow.Flow.{Flow}
use Rattle.cob_move_deeds.specs.declared.flow.Flow.TheVariants as flow
use Rattle.cob_move_deeds.specs.AtOnce.{are_all_moves, are_lone_moves}
use Rattle.cob_move_deeds.specs.Carrying.{carried_from}
use Rattle.cob_move_deeds.specs.Deeds.{Carried, Moving, Nothing}
use Rattle.cob_move_deeds.specs.Flows.{FlowSupport, IsFlow, deeds_from}
use Rattle.cob_move_deeds.specs.Met.{ReadsOfDeeds}
use Rattle.cob_move_deeds.specs.Tests.{Judged}
use Rattle.cob_move_deeds.proofs.DeedLemmas.{straight_back}
use Rattle.cob_move_deeds.proofs.RowLemmas.{lone_reads}

-- one flow, which carries out moves
lone_is : (fs : List Flow) → are_lone_moves fs ≡ true → (number : ℕ) × (fs ≡ flow.Moves number ∷ [])
lone_is [] is = let no : false ≡ true = is in absurd (cc)
lone_is (flow.Moves number ∷ []) is = (number, refl)
lone_is (flow.Moves number ∷ f ∷ fs) is = let no : false ≡ true = is in absurd (cc)
lone_is (flow.Turns number ∷ fs) is = let no : false ≡ true = is in absurd (cc)
lone_is (flow.Until bound number skip ∷ fs) is = let no : false ≡ true = is in absurd (cc)
lone_is (flow.Where condition holding lacking ∷ fs) is = let no : false ≡ true = is in absurd (cc)
lone_is (flow.Skip count ∷ fs) is = let no : false ≡ true = is in absurd (cc)

-- it carries out those between two marks, which are all
all_are : (on : FlowSupport) (fs : List Flow) → are_all_moves (length on.moves.marks.items) fs ≡ true → AllByRecursion (IsFlow on) fs
    → (length on.moves.marks.items ≡ 2) × (fs ≡ flow.Moves 0 ∷ [])
all_are on fs is each =
    let both = and_parts (length on.moves.marks.items == 2) (are_lone_moves fs) is in
    let two : length on.moves.marks.items ≡ 2 = eqb-true _ _ both.0 in
    let (number, lone) = lone_is fs both.1 in
    let within = (subst (λ (gs : List Flow). AllByRecursion (IsFlow on) gs) lone each).0 in
    let none : number ≡ 0 = omega (arith, two, within) in
    (two, lone ∙ ap (λ (n : ℕ). flow.Moves n ∷ []) none)

-- the moves between the first mark and the last, where there are two
two_marks : (r : Records) (m : MarkedMoves) → AreMarkedPrepared r m → length m.marks.items ≡ 2 → moves_between_marks r m 0 1 ≡ moves_of r m.moves
two_marks r m prepared two =
    let last : length m.marks.items - 1 ≡ 1 = omega (arith, two) in
    subst (λ (n : ℕ). moves_between_marks r m 0 n ≡ moves_of r m.moves) last
    (between_all m.moves.reading r m.moves.statements.items m.marks.items prepared.parted.first prepared.whole)

-- all moves, carried out at once, are what is done
pub all_carried : (r : Records) (on : FlowSupport) (fs : List Flow) (input before : List ℕ) (end : Ending) → are_all_moves (length on.moves.marks.items) fs ≡ true → AreMarkedPrepared r on.moves → AllByRecursion (IsFlow on) fs
    → Applied r (moves_of r on.moves.moves) input before end → Carried (Judged r) r (deeds_from r on (length fs) fs) input before end
all_carried r on fs input before end is prepared each x =
    let (two, lone) = all_are on fs is each in
    let ms : List Move = moves_between_marks r on.moves 0 1 in
    subst (λ (gs : List Flow). Carried (Judged r) r (deeds_from r on (length gs) gs) input before end) (sym lone)
    (straight_back (Judged r) r (Moving ms Nothing) input before end tt
    (subst (λ (ns : List Move). Applied r ns input before end) (sym (append-nil ms ∙ two_marks r on.moves prepared two)) x))

-- and what they read is what is read at it
pub all_reads : {A : Type 0} (r : Records) (on : FlowSupport) (fs : List Flow) (input before : List ℕ) (result : Result A Stop) (old new : Scratching) → are_all_moves (length on.moves.marks.items) fs ≡ true → AreMarkedPrepared r on.moves
    → AllByRecursion (IsFlow on) fs → ReadsOfMoves r (moves_of r on.moves.moves) input before result old new → ReadsOfDeeds r (carried_from r on (length fs) fs) input before result old new
all_reads r on fs input before result old new is prepared each x =
    let (two, lone) = all_are on fs is each in
    lone_reads r on 0 fs input before result old new lone
    (subst (λ (ms : List Move). ReadsOfMoves r ms input before result old new) (sym (two_marks r on.moves prepared two)) x)
