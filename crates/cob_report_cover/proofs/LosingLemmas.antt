-- What is said of single moves, one behind another.
use Rattle.std.proofs.Common.{◌≡◌, ◌∙◌, ℕ, ◌<◌, ◌≤◌, List, [], ◌∷◌, ◌++◌, length, get_or, slice_get, refl, sym, ap, subst, arith, append_assoc, append-nil, None, Some}
use Rattle.std.proofs.lemmas.Option.{none-some, same_Some, slice_get_past, slice_get_read, slice_get_within}
use Rattle.cob_copybook_tree.specs.Forests.{Forest, entries_in}
use Rattle.cob_copybook_tree.specs.Nodes.{Resolved}
use Rattle.cob_copybook_tree.specs.declared.node.Kind.{Kind}
use Rattle.cob_layout.specs.Counting.{greatest_counts}
use Rattle.cob_layout_places.proofs.SpotLemmas.{length_spots}
use Rattle.cob_layout_places.specs.Lengths.{times}
use Rattle.cob_layout_places.specs.declared.spots.Spot.{Spot}
use Rattle.cob_back_moves.specs.Tested.{layout_records}
use Rattle.cob_back_moves.specs.declared.single.BothLayouts.{BothLayouts}
use Rattle.cob_move_data.specs.declared.operands.Side.{Side}
use Rattle.cob_move_data.specs.Moves.{record_of}
use Rattle.cob_move_data.specs.Singles.{PlainSingle, plain_sent}
use Rattle.cob_move_data.specs.declared.single.Element.{Element}
use Rattle.cob_move_data.specs.declared.single.Sent.{Sent}
use Rattle.cob_move_data.specs.declared.single.Sent.TheVariants as code
use Rattle.cob_move_receive.specs.Table.{Entry, SenderKind}
use Rattle.cob_back_losses.specs.declared.losses.Losses.{Losses}
use Rattle.cob_report_cover.specs.Losing.{AreLossesFrom, AreLossesOf, AreLossesOfEach, AreLossesOfEntry, AreLossesTo, HasNoEntry, StandsAs, TellsLosses, greatest_spots}

-- ---- entries by their numbers

-- what a list of spots holds is the spot of an entry
pub spot_here : (tree : Forest Resolved) (number : ℕ) (spots : List Spot) (s : Spot) → spots ≡ greatest_spots tree → number < length spots → s ≡ get_or spots number s
    → slice_get (greatest_spots tree) number ≡ Some s
spot_here tree number spots s is within here =
    subst (λ (xs : List Spot). slice_get xs number ≡ Some s) is (slice_get_read spots (length spots) number s refl within here)

-- where it holds none, there is none
pub no_spot : (tree : Forest Resolved) (number : ℕ) (spots : List Spot) → spots ≡ greatest_spots tree → length spots ≤ number → HasNoEntry tree number
no_spot tree number spots is end kind bytes stands =
    none-some stands.spot
    (sym (subst (λ (xs : List Spot). slice_get xs number ≡ None) is (slice_get_past spots number end)) ∙ stands.stands)

-- an entry that has a spot is one of the record
pub entry_within : (tree : Forest Resolved) (number : ℕ) (s : Spot) → slice_get (greatest_spots tree) number ≡ Some s → number < entries_in tree
entry_within tree number s is =
    omega (arith, slice_get_within (greatest_spots tree) number s is, length_spots (times (greatest_counts tree)) tree 0 0)

-- an entry is of one kind, and has one length
one_kind : (tree : Forest Resolved) (number : ℕ) (a b : Kind) (n m : ℕ) → StandsAs tree number a n → StandsAs tree number b m → a ≡ b
one_kind tree number a b n m first second = same_Some a b (sym first.described ∙ second.described)

one_length : (tree : Forest Resolved) (number : ℕ) (a b : Kind) (n m : ℕ) → StandsAs tree number a n → StandsAs tree number b m → n ≡ m
one_length tree number a b n m first second =
    first.long ∙ ap (λ (s : Spot). s.length) (same_Some first.spot second.spot (sym first.stands ∙ second.stands)) ∙ sym second.long

-- ---- one single move

-- what is told of an entry by its number is told of each that it is
pub told_to : (from : SenderKind) (bytes : ℕ) (tree : Forest Resolved) (number : ℕ) (kind : Kind) (n : ℕ) (losses : Losses) → StandsAs tree number kind n
    → TellsLosses from bytes kind n losses → AreLossesTo from bytes tree number losses
told_to from bytes tree number kind n losses stands told to room other =
    subst (λ (k : Kind). TellsLosses from bytes k room losses) (one_kind tree number kind to n room stands other)
    (subst (λ (m : ℕ). TellsLosses from bytes kind m losses) (one_length tree number kind to n room stands other) told)

pub told_from : (input : Forest Resolved) (from : ℕ) (output : Forest Resolved) (to : ℕ) (kind : Kind) (n : ℕ) (losses : Losses) → StandsAs input from kind n
    → AreLossesTo (Entry kind) n output to losses → AreLossesOfEntry input from output to losses
told_from input from output to kind n losses stands told other bytes others =
    subst (λ (k : Kind). AreLossesTo (Entry k) bytes output to losses) (one_kind input from kind other n bytes stands others)
    (subst (λ (m : ℕ). AreLossesTo (Entry kind) m output to losses) (one_length input from kind other n bytes stands others) told)

-- what is told of what is sent, which is an entry
pub of_entry : (layouts : BothLayouts) (from : Sent) (side : Side) (x : Element) (to : ℕ) (losses : Losses) → from ≡ code.Entry side x
    → AreLossesOfEntry (record_of (layout_records layouts) side) x.number layouts.output.now to losses → AreLossesFrom layouts (plain_sent from) to losses
of_entry layouts from side x to losses is told = subst (λ (s : Sent). AreLossesFrom layouts (plain_sent s) to losses) (sym is) told

-- ---- all of them

-- whatever is said of the rest, with what is said of the next one
pub each_more : (layouts : BothLayouts) (all now later : List PlainSingle) (s : PlainSingle) (one : Losses) (items pushed : List Losses) → now ≡ s ∷ later
    → AreLossesOf layouts s one → pushed ≡ items ++ one ∷ [] → ((rest : List Losses) → AreLossesOfEach layouts now rest → AreLossesOfEach layouts all (items ++ rest))
    → (rest : List Losses) → AreLossesOfEach layouts later rest → AreLossesOfEach layouts all (pushed ++ rest)
each_more layouts all now later s one items pushed is said push so_far rest each =
    subst (AreLossesOfEach layouts all) (sym (append_assoc items (one ∷ []) rest) ∙ ap (λ (l : List Losses). l ++ rest) (sym push))
    (so_far (one ∷ rest) (subst (λ (ss : List PlainSingle). AreLossesOfEach layouts ss (one ∷ rest)) (sym is) (one, rest, refl, said, each)))

-- nothing is left
pub each_done : (layouts : BothLayouts) (all now : List PlainSingle) (items : List Losses) → now ≡ []
    → ((rest : List Losses) → AreLossesOfEach layouts now rest → AreLossesOfEach layouts all (items ++ rest)) → AreLossesOfEach layouts all items
each_done layouts all now items is so_far =
    subst (AreLossesOfEach layouts all) (append-nil items) (so_far [] (subst (λ (ss : List PlainSingle). AreLossesOfEach layouts ss []) (sym is) refl))
