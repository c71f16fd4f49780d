-- Moves that are carried out by the rule of MOVE alone.
use Rattle.std.proofs.Common.{◌≡◌, ℕ, zero, suc, ◌+◌, ◌<◌, ◌≤◌, ◌-◌, Bool, true, false, Err, List, [], ◌∷◌, ◌++◌, length, get_or, map, take, drop, None, Some, refl, sym, ap, subst, ◌∙◌, arith, append_assoc}
use Rattle.std.proofs.lemmas.List.{length-drop, length-map, length-take-le}
use Rattle.std.specs.List.{AllByRecursion}
use Rattle.cob_codec.specs.declared.reading.Reading.{Reading}
use Rattle.cob_copybook_tree.specs.Forests.{Forest}
use Rattle.cob_copybook_tree.specs.Nodes.{Resolved}
use Rattle.cob_layout.proofs.Lists.{all_append}
use Rattle.cob_layout_places.specs.declared.reference.Ref.{Ref}
use Rattle.cob_move_data.specs.declared.operands.Move as code
use Rattle.cob_move_data.specs.declared.operands.Operand.{Operand}
use Rattle.cob_move_data.specs.declared.operands.NumberedPair.{NumberedPair}
use Rattle.cob_move_data.specs.declared.operands.PairMoves.{PairMoves}
use Rattle.cob_move_data.specs.declared.operands.StatementMoves.{StatementMoves}
use Rattle.cob_move_data.specs.Moves.{AreMoves, Entry, IsMove, IsOperand, IsSender, Literal, Move, Records, Sender, move_by, moves_by, numbered_move, numbered_move_by, operand_in, record_of, statement_moves_by}
use Rattle.cob_move_apply.specs.Applied.{Applied, Ending, done, stopped}
use Rattle.cob_move_apply.specs.ByRule.{AreGone, AreUnnoted, IsUnnoted, NothingIsNoted, most_receivers}
use Rattle.cob_move_apply.specs.Marked.{items_between}
use Rattle.cob_move_apply.specs.Met.{HaveMet}
use Rattle.cob_move_apply.specs.Placed.{ArePlacedReceivers, IsBasis, IsPlaced, IsPlacedMove, IsPlacedSender}
use Rattle.cob_move_apply.specs.Spent.{HaveSpent, MovesSpend}
use Rattle.cob_move_apply.specs.declared.basis.Basis.{Basis}
use Rattle.cob_move_apply.specs.declared.basis.Basis.TheVariants as basis
use Rattle.cob_move_apply.specs.declared.stop.Stop.{Stop}
use Rattle.cob_move_apply.specs.declared.survey.Survey.{Survey}
use Rattle.cob_move_apply.proofs.CutLemmas.{applied_both, applied_stopped}
use Rattle.cob_move_apply.proofs.SpentLemmas.{spent_both, spent_none, spent_stop}

-- ---- what places rest on

pub none_taken : (n : ℕ) (bases : List Basis) → NothingIsNoted bases → NothingIsNoted (take n bases)
none_taken zero bases none = tt
none_taken (suc n) [] none = tt
none_taken (suc n) (b ∷ bs) none = (none.0, none_taken n bs none.1)

pub none_dropped : (n : ℕ) (bases : List Basis) → NothingIsNoted bases → NothingIsNoted (drop n bases)
none_dropped zero bases none = none
none_dropped (suc n) [] none = tt
none_dropped (suc n) (b ∷ bs) none = none_dropped n bs none.1

unnoted_basis : (tree : Forest Resolved) (receiving : Bool) (o : Operand) (b : Basis) → IsUnnoted b → IsBasis tree receiving o b
unnoted_basis tree receiving o (basis.Noted n) none = absurd none
unnoted_basis tree receiving o (basis.Counted None) none = tt
unnoted_basis tree receiving o (basis.Counted (Some s)) none = absurd none

placed_one : (tree : Forest Resolved) (receiving : Bool) (o : Operand) (b : Basis) → IsOperand tree o → IsUnnoted b → IsPlaced tree receiving o b
placed_one tree receiving o b operand none = record { operand = operand; basis = unnoted_basis tree receiving o b none }

pub placed_sender : (r : Records) (s : Sender) (b : Basis) → IsSender r s → IsUnnoted b → IsPlacedSender r s b
placed_sender r (Entry side reading o) b is none = placed_one (record_of r side) false o b is none
placed_sender r (Literal c) b is none = tt

pub placed_receivers : (tree : Forest Resolved) (os : List Operand) (bs : List Basis) → AllByRecursion (IsOperand tree) os → NothingIsNoted bs → length bs ≡ length os
    → ArePlacedReceivers tree os bs
placed_receivers tree [] [] operands none same = tt
placed_receivers tree [] (b ∷ bs) operands none same = absurd (omega arith)
placed_receivers tree (o ∷ os) [] operands none same = absurd (omega arith)
placed_receivers tree (o ∷ os) (b ∷ bs) operands none same =
    (placed_one tree true o b operands.0 none.0, placed_receivers tree os bs operands.1 none.1 (omega arith))

-- ---- moves, one behind another

pub gone_none : (r : Records) (all : List Move) (input before : List ℕ) (s : Survey) → AreGone r all all input before before s s
gone_none r all input before s = record {
  so = λ end h. h;
  met = 0;
  meets = λ behind n h. let same : n ≡ 0 + n = omega arith in subst (λ (m : ℕ). HaveMet r (all ++ behind) input before m) same h;
  spent = spent_none r.output s;
}

three : (a b c : ℕ) → a + (b + c) ≡ a + b + c
three a b c = omega arith

-- what is left begins with these moves
front_of : (own rest behind left : List Move) → left ≡ own ++ rest → left ++ behind ≡ own ++ (rest ++ behind)
front_of own rest behind left same = ap (λ (ms : List Move). ms ++ behind) same ∙ append_assoc own rest behind

pub gone_next : (r : Records) (all own rest left : List Move) (input before now after : List ℕ) (old mid new : Survey) → left ≡ own ++ rest
    → AreGone r all left input before now old mid → Applied r own input now (done after) → HaveSpent r own input now after mid new
    → AreGone r all rest input before after old new
gone_next r all own rest left input before now after old mid new same gone applied (met, meets, spent) = record {
  so = λ end h. gone.so end (subst (λ (ms : List Move). Applied r ms input now end) (sym same) (applied_both r own rest input now after end applied h));
  met = gone.met + met;
  meets = λ behind n h.
      subst (λ (m : ℕ). HaveMet r (all ++ behind) input before m) (three gone.met met n)
      (gone.meets behind (met + n) (subst (λ (ms : List Move). HaveMet r ms input now (met + n)) (sym (front_of own rest behind left same)) (meets (rest ++ behind) n h)));
  spent = spent_both r.output gone.met met old mid new gone.spent spent;
}

pub gone_stopped : (r : Records) (all own rest left : List Move) (input before now after : List ℕ) (stop : Stop) (old mid : Survey) → left ≡ own ++ rest
    → AreGone r all left input before now old mid → Applied r own input now (stopped stop after) → Applied r all input before (stopped stop after)
gone_stopped r all own rest left input before now after stop old mid same gone applied =
    gone.so (stopped stop after) (subst (λ (ms : List Move). Applied r ms input now (stopped stop after)) (sym same) (applied_stopped r own rest input now after stop applied))

pub stop_spends : (r : Records) (all own rest left : List Move) (input before now after : List ℕ) (stop : Stop) (old mid new : Survey) → left ≡ own ++ rest
    → AreGone r all left input before now old mid → MovesSpend {A = Unit {0}} r own input now (Err stop) after mid new
    → MovesSpend {A = Unit {0}} r all input before (Err stop) after old new
stop_spends r all own rest left input before now after stop old mid new same gone (met, meets, spent) = (
  gone.met + met,
  λ behind. gone.meets behind met (subst (λ (ms : List Move). HaveMet r ms input now met) (sym (front_of own rest behind left same)) (meets (rest ++ behind))),
  spent_stop r.output gone.met met old mid new gone.spent spent,
)

pub gone_all : (r : Records) (all left : List Move) (input before now : List ℕ) (old new : Survey) → left ≡ [] → AreGone r all left input before now old new
    → Applied r all input before (done now)
gone_all r all left input before now old new none gone = gone.so (done now) (subst (λ (ms : List Move). Applied r ms input now (done now)) (sym none) refl)

pub all_spends : (r : Records) (all left : List Move) (input before now : List ℕ) (old new : Survey) → left ≡ []
    → AreGone r all left input before now old new → HaveSpent r all input before now old new
all_spends r all left input before now old new none gone =
    (gone.met, λ ms rest h. gone.meets ms rest (subst (λ (ls : List Move). HaveMet r (ls ++ ms) input now rest) (sym none) h), gone.spent)

-- ---- lists

pub all_front : {X : Type 0} (P : X → Type 0) (xs ys : List X) → AllByRecursion P (xs ++ ys) → AllByRecursion P xs
all_front P [] ys h = tt
all_front P (x ∷ xs) ys h = (h.0, all_front P xs ys h.1)

pub all_behind : {X : Type 0} (P : X → Type 0) (xs ys : List X) → AllByRecursion P (xs ++ ys) → AllByRecursion P ys
all_behind P [] ys h = h
all_behind P (x ∷ xs) ys h = all_behind P xs ys h.1

pub empty_of : {X : Type 0} (xs : List X) → length xs ≡ 0 → xs ≡ []
empty_of [] none = refl
empty_of (x ∷ xs) none = absurd (omega arith)

-- ---- the move of a pair

pub placed_pair : (x : Reading) (r : Records) (g : PairMoves) (p : NumberedPair) (bases : List Basis) → IsMove r (numbered_move_by x r g p) → NothingIsNoted bases → 1 < length bases
    → IsPlacedMove r (numbered_move r g p) (take 2 bases)
placed_pair x r g p [] is none room = absurd (omega arith)
placed_pair x r g p (b ∷ []) is none room = absurd (omega arith)
placed_pair x r g p (b ∷ c ∷ bs) is none room =
    (placed_one (record_of r g.side) false _ b is.sender none.0, (placed_one r.output true _ c is.receivers.0 none.1.0, tt))

-- ---- a single move

-- what receivers that are a slice rest on, behind what their sender rests on
pub placed_behind : (x : Reading) (r : Records) (m : code.Move) (refs : List Ref) (bases : List Basis) (n : ℕ) → refs ≡ m.receivers.items → IsMove r (move_by x r m) → NothingIsNoted bases
    → n ≡ length refs → length m.receivers.items < length bases → ArePlacedReceivers r.output (map (operand_in r.output) refs) (take n (drop 1 bases))
placed_behind x r m refs bases n as_refs is none many room =
    let dropped : length (drop 1 bases) ≡ length bases - 1 = length-drop 1 bases in
    let taken : length (take n (drop 1 bases)) ≡ n = length-take-le n (drop 1 bases) (omega (arith, dropped, room, many, ap length as_refs)) in
    placed_receivers r.output (map (operand_in r.output) refs) (take n (drop 1 bases))
    (subst (λ (rs : List Ref). AllByRecursion (IsOperand r.output) (map (operand_in r.output) rs)) (sym as_refs) is.receivers) (none_taken n (drop 1 bases) (none_dropped 1 bases none))
    (omega (arith, taken, many, length-map refs (operand_in r.output)))

-- ---- bases of which nothing is noted

-- the first of them
pub none_first : (bases : List Basis) (d : Basis) → NothingIsNoted bases → 0 < length bases → IsUnnoted (get_or bases 0 d)
none_first [] d none some = absurd (omega arith)
none_first (b ∷ bs) d none some = none.0

-- ---- some of the statements

pub all_taken : {X : Type 0} (P : X → Type 0) (n : ℕ) (xs : List X) → AllByRecursion P xs → AllByRecursion P (take n xs)
all_taken P zero xs h = tt
all_taken P (suc n) [] h = tt
all_taken P (suc n) (x ∷ xs) h = (h.0, all_taken P n xs h.1)

pub all_dropped : {X : Type 0} (P : X → Type 0) (n : ℕ) (xs : List X) → AllByRecursion P xs → AllByRecursion P (drop n xs)
all_dropped P zero xs h = h
all_dropped P (suc n) [] h = tt
all_dropped P (suc n) (x ∷ xs) h = all_dropped P n xs h.1

moves_taken : (x : Reading) (r : Records) (n : ℕ) (ss : List StatementMoves) → AreMoves r (moves_by x r ss) → AreMoves r (moves_by x r (take n ss))
moves_taken x r zero ss h = tt
moves_taken x r (suc n) [] h = tt
moves_taken x r (suc n) (s ∷ ss) h =
    all_append (IsMove r) (statement_moves_by x r s) (moves_by x r (take n ss)) (all_front (IsMove r) (statement_moves_by x r s) (moves_by x r ss) h)
    (moves_taken x r n ss (all_behind (IsMove r) (statement_moves_by x r s) (moves_by x r ss) h))

moves_dropped : (x : Reading) (r : Records) (n : ℕ) (ss : List StatementMoves) → AreMoves r (moves_by x r ss) → AreMoves r (moves_by x r (drop n ss))
moves_dropped x r zero ss h = h
moves_dropped x r (suc n) [] h = tt
moves_dropped x r (suc n) (s ∷ ss) h = moves_dropped x r n ss (all_behind (IsMove r) (statement_moves_by x r s) (moves_by x r ss) h)

-- the moves of statements are between the records, so those of some of them are
pub moves_between : (x : Reading) (r : Records) (a b : ℕ) (given own : List StatementMoves) → own ≡ items_between a b given → AreMoves r (moves_by x r given) → AreMoves r (moves_by x r own)
moves_between x r a b given own same h =
    subst (λ (ss : List StatementMoves). AreMoves r (moves_by x r ss)) (sym same) (moves_taken x r (b - a) (drop a given) (moves_dropped x r a given h))

-- the bases are for statements, so they are for some of them
pub unnoted_between : (a b : ℕ) (given own : List StatementMoves) (bases lent : List Basis) → own ≡ items_between a b given → lent ≡ bases → AreUnnoted given bases → AreUnnoted own lent
unnoted_between a b given own bases lent same as_bases is =
    let fits = λ (s : StatementMoves). most_receivers s < length bases in
    let some : AreUnnoted (items_between a b given) bases = record { none = is.none; room = all_taken fits (b - a) (drop a given) (all_dropped fits a given is.room) } in
    subst (λ (bs : List Basis). AreUnnoted own bs) (sym as_bases) (subst (λ (ss : List StatementMoves). AreUnnoted ss bases) (sym same) some)

-- the same of all of them
pub unnoted_all : (given said : List StatementMoves) (bases lent : List Basis) → said ≡ given → lent ≡ bases → AreUnnoted given bases → AreUnnoted said lent
unnoted_all given said bases lent same as_bases is =
    subst (λ (bs : List Basis). AreUnnoted said bs) (sym as_bases) (subst (λ (ss : List StatementMoves). AreUnnoted ss bases) (sym same) is)
