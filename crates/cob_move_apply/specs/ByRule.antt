-- Moves that are carried out statement by statement, by the rule of MOVE alone.
use Rattle.std.specs.Prelude.{◌<◌, ℕ, ◌+◌, List, ◌++◌, length, None, Some}
use Rattle.std.specs.Coded.{le_prop}
use Rattle.std.specs.List.{AllByRecursion, AllByRecursion-prop}
use Rattle.cob_move_data.specs.declared.operands.StatementMoves.{StatementMoves}
use Rattle.cob_move_data.specs.declared.operands.StatementMoves.TheVariants.{Single, Pairs}
use Rattle.cob_move_data.specs.Moves.{Move, Records}
use Rattle.cob_move_apply.specs.Applied.{Applied, Ending}
use Rattle.cob_move_apply.specs.Met.{HaveMet}
use Rattle.cob_move_apply.specs.Spent.{IsSpent}
use Rattle.cob_move_apply.specs.declared.basis.Basis.{Basis}
use Rattle.cob_move_apply.specs.declared.basis.Basis.TheVariants as basis
use Rattle.cob_move_apply.specs.declared.survey.Survey.{Survey}

-- how many receivers a move of a statement has at most
abbrev pub most_receivers : StatementMoves → ℕ
most_receivers (Single m) = length m.receivers.items
most_receivers (Pairs g) = 1

-- nothing is noted of a basis
abbrev pub IsUnnoted : Basis → Type 0
IsUnnoted (basis.Noted n) = ⊥
IsUnnoted (basis.Counted None) = Unit {0}
IsUnnoted (basis.Counted (Some s)) = ⊥

-- nothing is noted of these bases
abbrev pub NothingIsNoted : List Basis → Type 0
NothingIsNoted bases = AllByRecursion IsUnnoted bases

-- Nothing is noted of these bases, and there is one for a sender and one for each receiver of any move of these statements.
pub record AreUnnoted (given : List StatementMoves) (bases : List Basis) : Type 0 where
  pub none : NothingIsNoted bases
  pub room : AllByRecursion (λ s. most_receivers s < length bases) given

-- ---- it is a fact, which a field may keep

unnoted_once : (b : Basis) → IsProp (IsUnnoted b)
unnoted_once (basis.Noted n) = hlevel
unnoted_once (basis.Counted None) = hlevel
unnoted_once (basis.Counted (Some s)) = hlevel

none_once : (bases : List Basis) → IsProp (NothingIsNoted bases)
none_once bases = AllByRecursion-prop IsUnnoted unnoted_once bases

room_once : (given : List StatementMoves) (many : ℕ) → IsProp (AllByRecursion (λ s. most_receivers s < many) given)
room_once given many = AllByRecursion-prop (λ s. most_receivers s < many) (λ s. le_prop) given

pub unnoted_is_fact : (given : List StatementMoves) (bases : List Basis) → IsProp (AreUnnoted given bases)
unnoted_is_fact given bases = hlevel (none_once bases, room_once given (length bases))

-- ---- moves, one behind another

-- Of these moves the rest is left, where the storage is as it is now: whatever the rest makes of it, all make of the storage before; so it is with the receivers
-- that meet the item of a count; and what was read so far is allowed.
pub record AreGone (r : Records) (all rest : List Move) (input before now : List ℕ) (old new : Survey) : Type 0 where
  pub so : (end : Ending) → Applied r rest input now end → Applied r all input before end
  pub met : ℕ
  pub meets : (behind : List Move) (n : ℕ) → HaveMet r (rest ++ behind) input now n → HaveMet r (all ++ behind) input before (met + n)
  pub spent : IsSpent r.output met old new
