-- What a condition says: that it holds, that it doesn't, or what stops it. What operands give and the stop of one whose bytes represent no value are
-- handed in: those of the storages of two records between moves, or of a record as it came.
use Rattle.std.specs.Prelude.{◌≡◌, ◌⊎◌, ◌↔◌, Bool, true, false, not, Ok, Err, Result}
use Rattle.std.specs.declared.cmp.Ordering.{Ordering}
use Rattle.std.specs.declared.cmp.Ordering.TheVariants.{Less, Equal, Greater}
use Rattle.std.specs.Ordering.{is_eq, is_gt, is_lt}
use Rattle.cob_move_data.specs.Moves.{Sender}
use Rattle.cob_move_receive.specs.Sent.{Sent}
use Rattle.cob_move_condition.specs.declared.class.Class.{Class}
use Rattle.cob_move_condition.specs.declared.comparing.WithoutValue.{WithoutValue}
use Rattle.cob_move_condition.specs.declared.comparing.WithoutValue.TheVariants.{First, Second}
use Rattle.cob_move_condition.specs.Classes.{IsInClass}
use Rattle.cob_move_condition.specs.Compared.{IsCompared, IsWithoutValue}
use Rattle.cob_move_condition.specs.Conditions.{Condition, Always, Compares, HasClass, Not, Both, Either}

-- the order is the one that is asked for
abbrev pub is_relation : Ordering → Ordering → Bool
is_relation Less o = is_lt o
is_relation Equal o = is_eq o
is_relation Greater o = is_gt o

-- the one of two operands
abbrev pub one_of_two : Sender → Sender → WithoutValue → Sender
one_of_two a b First = a
one_of_two a b Second = b

-- A comparison says whether its operands have this order. Where something is missing, the first of these stops it: the first operand, the second one, a
-- number of the first, a number of the second.
abbrev pub SaysRelation : {S : Type 0} → (Sender → Result Sent S → Type 0) → (Sender → S → Type 0) → Sender → Ordering → Sender → Result Bool S → Type 0
SaysRelation gives lacks a relation b (Ok holds) =
    (x y : Sent) × (o : Ordering) × gives a (Ok x) × gives b (Ok y) × IsCompared x y o × (holds ≡ is_relation relation o)
SaysRelation gives lacks a relation b (Err stop) =
    gives a (Err stop)
    ⊎ (((x : Sent) × gives a (Ok x) × gives b (Err stop))
    ⊎ ((x y : Sent) × (which : WithoutValue) × gives a (Ok x) × gives b (Ok y) × IsWithoutValue x y which × lacks (one_of_two a b which) stop))

-- A class condition says whether its operand is of the class. It never stops for want of a value.
abbrev pub SaysClass : {S : Type 0} → (Sender → Result Sent S → Type 0) → Sender → Class → Result Bool S → Type 0
SaysClass gives a class (Ok holds) = (x : Sent) × gives a (Ok x) × ((holds ≡ true) ↔ IsInClass class x)
SaysClass gives a class (Err stop) = gives a (Err stop)

-- the other of what is said; a stop stays one
abbrev pub negated : {S : Type 0} → Result Bool S → Result Bool S
negated (Ok holds) = Ok (not holds)
negated (Err stop) = Err stop

-- What a condition says, from left to right, and no further than it takes to decide.
abbrev pub Says : {S : Type 0} → (Sender → Result Sent S → Type 0) → (Sender → S → Type 0) → Condition → Result Bool S → Type 0
Says gives lacks Always r = r ≡ Ok true
Says gives lacks (Compares a relation b) r = SaysRelation gives lacks a relation b r
Says gives lacks (HasClass a class) r = SaysClass gives a class r
Says {S} gives lacks (Not c) r = (s : Result Bool S) × Says gives lacks c s × (r ≡ negated s)
Says {S} gives lacks (Both c d) r =
    (Says gives lacks c (Ok true) × Says gives lacks d r)
    ⊎ ((Says gives lacks c (Ok false) × (r ≡ Ok false))
    ⊎ ((stop : S) × Says gives lacks c (Err stop) × (r ≡ Err stop)))
Says {S} gives lacks (Either c d) r =
    (Says gives lacks c (Ok false) × Says gives lacks d r)
    ⊎ ((Says gives lacks c (Ok true) × (r ≡ Ok true))
    ⊎ ((stop : S) × Says gives lacks c (Err stop) × (r ≡ Err stop)))
