-- Moves whose senders are read otherwise.
use Rattle.std.proofs.Common.{◌≡◌, ◌∙◌, List, [], ◌∷◌, ◌++◌, map, refl, subst, sym, ap, ap₂}
use Rattle.std.proofs.lemmas.List.{map-append}
use Rattle.cob_codec.specs.declared.reading.Reading.{Reading}
use Rattle.cob_move_data.specs.declared.operands.Sender as code
use Rattle.cob_move_data.specs.declared.operands.Sender.TheVariants as code_sender
use Rattle.cob_move_data.specs.declared.operands.NumberedPair.{NumberedPair}
use Rattle.cob_move_data.specs.declared.operands.PairMoves.{PairMoves}
use Rattle.cob_move_data.specs.declared.operands.StatementMoves.{StatementMoves}
use Rattle.cob_move_data.specs.declared.operands.StatementMoves.TheVariants.{Single, Pairs}
use Rattle.cob_move_data.specs.Moves.{AreMoves, Entry, IsMove, IsSender, Literal, Move, Records, Sender, moves_by, numbered_move_by, operand_in, read_by, sender_by, sent_by, statement_moves_by}

one_sender : (x y : Reading) (r : Records) (s : code.Sender) → sender_by x r s ≡ sent_by x (sender_by y r s)
one_sender x y r (code_sender.Entry side entry) = refl
one_sender x y r (code_sender.Constant value) = refl

of_pairs : (x y : Reading) (r : Records) (g : PairMoves) (ps : List NumberedPair)
    → map (numbered_move_by x r g) ps ≡ map (read_by x) (map (numbered_move_by y r g) ps)
of_pairs x y r g [] = refl
of_pairs x y r g (p ∷ ps) = ap (λ (ms : List Move). numbered_move_by x r g p ∷ ms) (of_pairs x y r g ps)

of_statement : (x y : Reading) (r : Records) (s : StatementMoves) → statement_moves_by x r s ≡ map (read_by x) (statement_moves_by y r s)
of_statement x y r (Single m) =
    ap (λ (s : Sender). record { sender = s; receivers = map (operand_in r.output) m.receivers.items } ∷ []) (one_sender x y r m.sender)
of_statement x y r (Pairs g) = of_pairs x y r g g.pairs.items

-- moves by one reading are those by another, read so
pub read_so : (x y : Reading) (r : Records) (ss : List StatementMoves) → moves_by x r ss ≡ map (read_by x) (moves_by y r ss)
read_so x y r [] = refl
read_so x y r (s ∷ ss) =
    ap₂ (λ (own rest : List Move). own ++ rest) (of_statement x y r s) (read_so x y r ss)
    ∙ sym (map-append (read_by x) (statement_moves_by y r s) (moves_by y r ss))

still_sender : (x : Reading) (r : Records) (s : Sender) → IsSender r s → IsSender r (sent_by x s)
still_sender x r (Entry side y o) is = is
still_sender x r (Literal c) is = is

still_moves : (x : Reading) (r : Records) (ms : List Move) → AreMoves r ms → AreMoves r (map (read_by x) ms)
still_moves x r [] all = tt
still_moves x r (m ∷ ms) all =
    let first : IsMove r (read_by x m) = record { sender = still_sender x r m.sender all.0.sender; receivers = all.0.receivers } in
    (first, still_moves x r ms all.1)

-- moves between records by one reading are moves between them by another
pub are_moves_so : (x y : Reading) (r : Records) (ss : List StatementMoves) → AreMoves r (moves_by y r ss) → AreMoves r (moves_by x r ss)
are_moves_so x y r ss all = subst (AreMoves r) (sym (read_so x y r ss)) (still_moves x r (moves_by y r ss) all)
