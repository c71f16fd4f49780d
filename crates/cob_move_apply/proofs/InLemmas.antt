-- Parts that statements have.
use Rattle.std.proofs.Common.{◌≡◌, ℕ, zero, suc, ◌+◌, ◌<◌, ◌≤◌, ◌==◌, true, false, true≢false, eqb-true, List, [], ◌∷◌, length, get_or, take, drop, map, refl, sym, ap, subst, ◌∙◌, arith}
use Rattle.std.specs.List.{AllByRecursion}
use Rattle.std.proofs.lemmas.List.{get_or_read, length-map, take_all}
use Rattle.cob_codec.specs.declared.reading.Reading.{Reading}
use Rattle.cob_codec.specs.declared.reading.Reading.TheVariants.{Pictured}
use Rattle.cob_move_data.specs.declared.operands.Move as code_move
use Rattle.cob_move_data.specs.declared.operands.NumberedPair.{NumberedPair}
use Rattle.cob_move_data.specs.declared.operands.Operand.{Operand}
use Rattle.cob_move_data.specs.declared.operands.PairMoves.{PairMoves}
use Rattle.cob_move_data.specs.declared.operands.Sender as code
use Rattle.cob_move_data.specs.declared.operands.Sender.TheVariants as code_sender
use Rattle.cob_move_data.specs.declared.operands.StatementMoves.{StatementMoves}
use Rattle.cob_move_data.specs.declared.operands.StatementMoves.TheVariants.{Single, Pairs}
use Rattle.cob_layout_places.specs.declared.reference.Ref.{Ref}
use Rattle.cob_move_data.specs.Moves.{AreMoves, IsMove, IsOperand, IsSender, Move, Records, entry_below, move, numbered_move, numbered_move_by, operand_in, sender, sender_by, statement_moves}
use Rattle.cob_move_apply.specs.Planned.{AreMore, IsPartIn, IsStatementAt, meant}
use Rattle.cob_move_apply.specs.Steps.{Gains, pair_at}
use Rattle.cob_move_apply.specs.declared.step.Plan.{Plan}
use Rattle.cob_move_apply.specs.declared.step.Step.{Step}
use Rattle.cob_move_apply.specs.declared.planning.StatementPart.{StatementPart}
use Rattle.cob_move_apply.proofs.ListLemmas.{next}

-- the move of a sender and receivers of the code
abbrev pub move_with : Reading → Records → code.Sender → List Ref → Move
move_with x r s rs = record { sender = sender_by x r s; receivers = map (operand_in r.output) rs }

same_with : (x : Reading) (r : Records) (s t : code.Sender) (rs qs : List Ref) → s ≡ t → rs ≡ qs → move_with x r s rs ≡ move_with x r t qs
same_with x r s t rs qs sends receives = ap (λ (u : code.Sender). move_with x r u rs) sends ∙ ap (move_with x r t) receives

all_at : (P : Operand → Type 0) (f : Ref → Operand) (rs : List Ref) (i : ℕ) (q : Ref) → i < length rs → q ≡ get_or rs i q → AllByRecursion P (map f rs) → P (f q)
all_at P f [] i q lt is h = absurd (omega (arith, lt))
all_at P f (y ∷ ys) zero q lt is h = subst (λ (z : Ref). P (f z)) (sym is) h.0
all_at P f (y ∷ ys) (suc n) q lt is h = all_at P f ys n q (omega (arith, lt)) is h.1

-- some receivers of a move
in_some : (r : Records) (given : List StatementMoves) (p : StatementPart) (one : code_move.Move) (rs : List Ref) → IsStatementAt given p.statement (Single one) → p.sender.now ≡ one.sender → p.receivers.now ≡ rs
    → rs ≡ take (length rs) (drop p.first one.receivers.items) → p.first + length rs ≤ length one.receivers.items → IsSender r (sender r one.sender) → AllByRecursion (IsOperand r.output) (map (operand_in r.output) rs)
    → IsPartIn r given p
in_some r given p one rs at sends is cut fits legal operands = record {
  statement = Single one;
  at = at;
  has = subst (λ (qs : List Ref). p.first + length qs ≤ length one.receivers.items) (sym is) fits;
  is = λ x. same_with x r p.sender.now one.sender p.receivers.now (take (length p.receivers.now) (drop p.first one.receivers.items)) sends
      (is ∙ cut ∙ ap (λ (qs : List Ref). take (length qs) (drop p.first one.receivers.items)) (sym is));
  move = record {
    sender = subst (λ (s : code.Sender). IsSender r (sender r s)) (sym sends) legal;
    receivers = subst (λ (qs : List Ref). AllByRecursion (IsOperand r.output) (map (operand_in r.output) qs)) (sym is) operands;
  };
}

-- one of the receivers
pub in_single : (r : Records) (given : List StatementMoves) (p : StatementPart) (one : code_move.Move) (q : Ref) → IsStatementAt given p.statement (Single one) → IsMove r (move r one)
    → p.first < length one.receivers.items → q ≡ get_or one.receivers.items p.first q → p.sender.now ≡ one.sender → p.receivers.now ≡ q ∷ [] → IsPartIn r given p
in_single r given p one q at legal lt is sends receives =
    in_some r given p one (q ∷ []) at sends receives (sym (ap (take 1) (next one.receivers.items p.first q lt is))) (omega (arith, lt)) legal.sender
    (all_at (IsOperand r.output) (operand_in r.output) one.receivers.items p.first q lt is legal.receivers, tt)

-- all of them
pub in_whole : (r : Records) (given : List StatementMoves) (p : StatementPart) (one : code_move.Move) → IsStatementAt given p.statement (Single one) → IsMove r (move r one)
    → p.first ≡ 0 → p.sender.now ≡ one.sender → p.receivers.now ≡ one.receivers.items → IsPartIn r given p
in_whole r given p one at legal none sends receives =
    in_some r given p one one.receivers.items at sends receives
    (sym (ap (λ k. take (length one.receivers.items) (drop k one.receivers.items)) none ∙ take_all (length one.receivers.items) one.receivers.items (omega arith)))
    (omega (arith, none)) legal.sender legal.receivers

-- ---- a pair

pair_is : (g : PairMoves) (i : ℕ) (pair : NumberedPair) → i < length g.pairs.items → pair ≡ get_or g.pairs.items i pair → pair ≡ pair_at g i
pair_is g i pair lt is = get_or_read g.pairs.items i pair lt is (record { from = 0; to = 0 })

same_pair : (x : Reading) (r : Records) (g : PairMoves) (i : ℕ) (pair : NumberedPair) (from to : Ref) (rs : List Ref) → i < length g.pairs.items → pair ≡ get_or g.pairs.items i pair
    → from ≡ entry_below g.from pair.from → to ≡ entry_below g.to pair.to → rs ≡ to ∷ [] → move_with x r (code_sender.Entry g.side from) rs ≡ numbered_move_by x r g (pair_at g i)
same_pair x r g i pair from to rs lt is from_is to_is received =
    let there : pair ≡ pair_at g i = pair_is g i pair lt is in
    same_with x r (code_sender.Entry g.side from) (code_sender.Entry g.side (entry_below g.from (pair_at g i).from)) rs (entry_below g.to (pair_at g i).to ∷ [])
    (ap (code_sender.Entry g.side) (from_is ∙ ap (λ (p : NumberedPair). entry_below g.from p.from) there))
    (received ∙ ap (λ (q : Ref). q ∷ []) (to_is ∙ ap (λ (p : NumberedPair). entry_below g.to p.to) there))

pub in_pair : (r : Records) (given : List StatementMoves) (p : StatementPart) (g : PairMoves) (pair : NumberedPair) (from to : Ref) → IsStatementAt given p.statement (Pairs g) → p.first < length g.pairs.items
    → pair ≡ get_or g.pairs.items p.first pair → IsMove r (numbered_move r g (pair_at g p.first)) → from ≡ entry_below g.from pair.from → to ≡ entry_below g.to pair.to
    → p.sender.now ≡ code_sender.Entry g.side from → p.receivers.now ≡ to ∷ [] → IsPartIn r given p
in_pair r given p g pair from to at lt is legal from_is to_is sends receives =
    let same : (x : Reading) → meant x r p ≡ numbered_move_by x r g (pair_at g p.first) =
    λ x. same_with x r p.sender.now (code_sender.Entry g.side from) p.receivers.now p.receivers.now sends refl
    ∙ same_pair x r g p.first pair from to p.receivers.now lt is from_is to_is receives in record {
      statement = Pairs g;
      at = at;
      has = (lt, ap length receives);
      is = same;
      move = subst (IsMove r) (sym (same Pictured)) legal;
    }

-- the steps of its move
pub more_in_pair : (x : Reading) (r : Records) (g : PairMoves) (i : ℕ) (pair : NumberedPair) (from to : Ref) (rs : List Ref) (a b : List Step) → i < length g.pairs.items → pair ≡ get_or g.pairs.items i pair
    → from ≡ entry_below g.from pair.from → to ≡ entry_below g.to pair.to → rs ≡ to ∷ [] → AreMore r (move_with x r (code_sender.Entry g.side from) rs ∷ []) a b
    → AreMore r (numbered_move_by x r g (pair_at g i) ∷ []) a b
more_in_pair x r g i pair from to rs a b lt is from_is to_is received h =
    subst (λ (m : Move). AreMore r (m ∷ []) a b) (same_pair x r g i pair from to rs lt is from_is to_is received) h

-- so is what a plan gained by it
pub gains_in_pair : (x : Reading) (r : Records) (given : List StatementMoves) (g : PairMoves) (i : ℕ) (pair : NumberedPair) (from to : Ref) (rs : List Ref) (a b : Plan) → i < length g.pairs.items → pair ≡ get_or g.pairs.items i pair
    → from ≡ entry_below g.from pair.from → to ≡ entry_below g.to pair.to → rs ≡ to ∷ [] → Gains x r given (move_with x r (code_sender.Entry g.side from) rs ∷ []) a b
    → Gains x r given (numbered_move_by x r g (pair_at g i) ∷ []) a b
gains_in_pair x r given g i pair from to rs a b lt is from_is to_is received h =
    subst (λ (m : Move). Gains x r given (m ∷ []) a b) (same_pair x r g i pair from to rs lt is from_is to_is received) h

-- ---- one receiver

pub one_of : (rs : List Ref) (d : Ref) → length rs ≡ 1 → rs ≡ get_or rs 0 d ∷ []
one_of [] d size = absurd (omega (arith, size))
one_of (r ∷ []) d size = refl
one_of (r ∷ s ∷ rs) d size = absurd (omega (arith, size))

-- receivers of the code that are none
pub none_left : (f : Ref → Operand) (rs : List Ref) (n : ℕ) → (n == 0) ≡ true → n ≡ length rs → map f rs ≡ []
none_left f [] n e size = refl
none_left f (r ∷ rs) n e size = absurd (omega (arith, eqb-true n 0 e, size))

pub some_left : (f : Ref → Operand) (rs : List Ref) (n : ℕ) → (n == 0) ≡ false → n ≡ length rs → map f rs ≡ [] → ⊥
some_left f rs n e size none =
    let zero_left : n ≡ 0 = omega (arith, size, length-map rs f, ap length none) in
    true≢false (sym (ap (λ k. k == 0) zero_left) ∙ e)

-- each of some moves is one between the records
pairs_at : (r : Records) (g : PairMoves) (ps : List NumberedPair) (i : ℕ) (d : NumberedPair) → i < length ps → AreMoves r (map (numbered_move_by Pictured r g) ps) → IsMove r (numbered_move_by Pictured r g (get_or ps i d))
pairs_at r g [] i d lt h = absurd (omega (arith, lt))
pairs_at r g (p ∷ ps) zero d lt h = h.0
pairs_at r g (p ∷ ps) (suc n) d lt h = pairs_at r g ps n d (omega (arith, lt)) h.1

pub moves_pair : (r : Records) (g : PairMoves) (i : ℕ) → i < length g.pairs.items → AreMoves r (statement_moves r (Pairs g)) → IsMove r (numbered_move r g (pair_at g i))
moves_pair r g i lt h = pairs_at r g g.pairs.items i (record { from = 0; to = 0 }) lt h
