-- The single moves of statements between the records of two layouts, one behind another.
use Rattle.std.proofs.Common.{◌≡◌, List, [], ◌∷◌, ◌++◌, map, sym, ap, subst, ◌∙◌}
use Rattle.std.specs.List.{AllByRecursion}
use Rattle.cob_move_data.specs.declared.operands.Operand.{Operand}
use Rattle.cob_move_data.specs.declared.operands.StatementMoves.{StatementMoves}
use Rattle.cob_move_data.specs.Moves.{AreMoves, IsOperand, IsSender, Move, Sender}
use Rattle.cob_move_data.specs.Singles.{PlainSingle, SingleMove, all_singles, singles_from, singles_of}
use Rattle.cob_move_data.proofs.SingleLemmas.{of_placed}
use Rattle.cob_back_moves.specs.declared.single.BothLayouts.{BothLayouts}
use Rattle.cob_back_moves.specs.Brought.{moves_between}
use Rattle.cob_back_moves.specs.Tested.{IsSingle, layout_records, single_of}
use Rattle.cob_back_moves.proofs.LeftLemmas.{Both}

-- the single moves of the moves that are meant are those that are gone through
pub meant : (l : BothLayouts) (ss : List StatementMoves) (ps : List PlainSingle) → ps ≡ singles_of ss → all_singles (moves_between l ss) ≡ map (single_of l) ps
meant l ss ps is = of_placed l.reading (layout_records l) 0 ss ∙ ap (map (single_of l)) (sym is)

-- each of these is so between the records
abbrev pub Each : (SingleMove → Type 0) → BothLayouts → List PlainSingle → Type 0
Each P l ps = AllByRecursion (λ (p : PlainSingle). P (single_of l p)) ps

pub mapped : {A B : Type 0} (P : B → Type 0) (f : A → B) (xs : List A) → Both (AllByRecursion (λ (x : A). P (f x)) xs) (AllByRecursion P (map f xs))
mapped P f [] = (λ h. h, λ h. h)
mapped P f (x ∷ xs) = let (goes, back) = mapped P f xs in (λ h. (h.0, goes h.1), λ h. (h.0, back h.1))

pub each_meant : (P : SingleMove → Type 0) (l : BothLayouts) (ss : List StatementMoves) (ps : List PlainSingle) → ps ≡ singles_of ss
    → Both (Each P l ps) (AllByRecursion P (all_singles (moves_between l ss)))
each_meant P l ss ps is =
    let (goes, back) = mapped P (single_of l) ps in (
      λ h. subst (λ (ts : List SingleMove). AllByRecursion P ts) (sym (meant l ss ps is)) (goes h),
      λ h. back (subst (λ (ts : List SingleMove). AllByRecursion P ts) (meant l ss ps is) h),
    )

-- ---- those of moves between the records are between them

all_join : {A : Type 0} (P : A → Type 0) (xs ys : List A) → AllByRecursion P xs → AllByRecursion P ys → AllByRecursion P (xs ++ ys)
all_join P [] ys h k = k
all_join P (x ∷ xs) ys h k = (h.0, all_join P xs ys h.1 k)

of_sender : (l : BothLayouts) (s : Sender) (os : List Operand) → IsSender (layout_records l) s → AllByRecursion (IsOperand l.output.now) os → AllByRecursion (IsSingle l) (singles_from s os)
of_sender l s [] sends h = tt
of_sender l s (o ∷ os) sends h = (record { sender = sends; receiver = h.0 }, of_sender l s os sends h.1)

of_moves : (l : BothLayouts) (ms : List Move) → AreMoves (layout_records l) ms → AllByRecursion (IsSingle l) (all_singles ms)
of_moves l [] h = tt
of_moves l (m ∷ ms) h =
    all_join (IsSingle l) (singles_from m.sender m.receivers) (all_singles ms) (of_sender l m.sender m.receivers h.0.sender h.0.receivers) (of_moves l ms h.1)

pub legal : (l : BothLayouts) (ss : List StatementMoves) (ps : List PlainSingle) → ps ≡ singles_of ss → AreMoves (layout_records l) (moves_between l ss) → Each (IsSingle l) l ps
legal l ss ps is h = (each_meant (IsSingle l) l ss ps is).1 (of_moves l (moves_between l ss) h)
