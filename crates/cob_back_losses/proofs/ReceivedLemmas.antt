-- What the rule of MOVE gives where a group is on either side.
use Rattle.std.proofs.Common.{◌≡◌, ◌∙◌, ℕ, zero, suc, ◌<◌, true, List, [], ◌∷◌, ◌++◌, length, take, replicate, ap, refl, arith}
use Rattle.std.specs.Prelude.{Some, ◌||◌}
use Rattle.std.specs.List.{slice_get}
use Rattle.cob_codec.specs.declared.reading.Reading.{Reading}
use Rattle.cob_cp037.specs.Named.{space_byte}
use Rattle.cob_copybook_tree.specs.declared.node.Kind.{Kind}
use Rattle.cob_copybook_tree.specs.declared.node.Kind.TheVariants.{Group, Item as ItemKind}
use Rattle.cob_copybook_tree.specs.Nodes.{is_group_kind}
use Rattle.cob_move_receive.specs.Characters.{padded}
use Rattle.cob_move_receive.specs.Received.{Received}
use Rattle.cob_move_receive.specs.Sent.{Entry}
use Rattle.cob_back_moves.proofs.TextLemmas.{length-padded}
use Rattle.cob_back_losses.specs.Numbers.{GetsBytes, ReceivesBytes}
use Rattle.cob_back_losses.proofs.NumberLemmas.{get_left}

get_taken : {X : Type 0} (n : ℕ) (xs : List X) (k : ℕ) → k < n → slice_get (take n xs) k ≡ slice_get xs k
get_taken zero xs k lt = absurd (omega (arith, lt))
get_taken (suc n) [] k lt = refl
get_taken (suc n) (x ∷ xs) zero lt = refl
get_taken (suc n) (x ∷ xs) (suc k) lt = get_taken n xs k (omega (arith, lt))

-- bytes that stand from the left on
copied : (room : ℕ) (bytes text got : List ℕ) → text ≡ bytes → got ≡ padded room text → GetsBytes bytes got room
copied room bytes text got is stands =
    let all : got ≡ padded room bytes = stands ∙ ap (padded room) is in
    record {
      long = ap length all ∙ length-padded room bytes;
      same = λ at within there. ap (λ (xs : List ℕ). slice_get xs at) all ∙ get_taken room (bytes ++ replicate room space_byte) at there
          ∙ get_left bytes (replicate room space_byte) at within;
    }

by_kinds : (from to : Kind) (reading : Reading) (bytes got : List ℕ) (room : ℕ) → (is_group_kind from || is_group_kind to) ≡ true
    → Received (Entry from bytes reading) to room (Some got) → GetsBytes bytes got room
by_kinds Group Group reading bytes got room either (text, is, stands) = copied room bytes text got is stands
by_kinds (ItemKind i) Group reading bytes got room either (text, is, stands) = copied room bytes text got is stands
by_kinds Group (ItemKind r) reading bytes got room either (text, is, stands) = copied room bytes text got is stands
by_kinds (ItemKind i) (ItemKind r) reading bytes got room either gets = absurd (cc (either))

pub receives_bytes : ReceivesBytes
receives_bytes t to reading bytes got room moves gets = by_kinds t.top.kind to.top.kind reading bytes got room moves gets
