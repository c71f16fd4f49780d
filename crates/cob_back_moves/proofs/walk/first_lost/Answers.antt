use Rattle.std.proofs.Common.{ℕ, List, [], subst}
use Rattle.std.specs.Prelude.{IfNone, IfSome}
use Rattle.cob_copybook_tree.specs.declared.node.Node.{Node}
use Rattle.cob_copybook_tree.specs.Nodes.{forest, tree_of}
use Rattle.cob_back_moves.specs.Brought.{IsFine, singles_in}
use Rattle.cob_back_moves.specs.Walk.{AllFine, HasItem, IsLostEntry}
use Rattle.cob_back_moves.proofs.MeantLemmas.{if_all_returned, if_one_lost}
use Rattle.cob_back_moves.proofs.walk.first_lost.Goals as goal

pub returns-clause-fine : goal.returns-clause-fine
returns-clause-fine c =
    let P = IsFine c.args.there.now c.args.back.now in
    let o = c.lost_in_entries.result in
    let bare = subst (λ (xs : List ℕ). IfNone o (AllFine P (λ r rs i. HasItem r rs i (forest c.from_ref.result.now)) xs)) c.new-subscripts.ensures c.lost_in_entries.ensures.fine in
    if_all_returned (singles_in c.args.there.now) (singles_in c.args.back.now) (tree_of c.args.root.now) o c.requires.sound.numbered
    (subst (λ (ns : List Node). IfNone o (AllFine P (λ r rs i. HasItem r rs i (forest ns)) [])) c.from_ref.ensures.value bare)

pub returns-clause-lost : goal.returns-clause-lost
returns-clause-lost c =
    let P = IsFine c.args.there.now c.args.back.now in
    let o = c.lost_in_entries.result in
    let bare = subst (λ (xs : List ℕ). IfSome o (λ (n : ℕ). IsLostEntry P (λ r rs i. HasItem r rs i (forest c.from_ref.result.now)) xs n)) c.new-subscripts.ensures c.lost_in_entries.ensures.lost in
    if_one_lost (singles_in c.args.there.now) (singles_in c.args.back.now) (tree_of c.args.root.now) o c.requires.sound.numbered
    (subst (λ (ns : List Node). IfSome o (λ (n : ℕ). IsLostEntry P (λ r rs i. HasItem r rs i (forest ns)) [] n)) c.from_ref.ensures.value bare)
