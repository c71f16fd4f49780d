use Rattle.std.proofs.Common.{◌∙◌, ◌||◌, Bool, map, ap, ap₂, sym, List}
use Rattle.std.proofs.lemmas.Result.{err_from_is_err_and}
use Rattle.cob_copybook_tree.specs.Nodes.{tree_of}
use Rattle.cob_move_names.specs.declared.subordinate.Subordinate.{Subordinate as Listed}
use Rattle.cob_move_names.specs.declared.pair.Pair.{Pair as Paired}
use Rattle.cob_move_names.specs.Pairing.{pair_numbers}
use Rattle.cob_move_names.specs.PlainPairs.{subordinates_listed, pairs}
use Rattle.cob_move_names.proofs.NodeLemmas.{elementary_node}
use Rattle.cob_move_names.proofs.GroupLemmas.{pairing, pairing_fault}
use Rattle.cob_move_names.proofs.pairing.paired.Goals as goal

pub returns-in_err-list-clause-fault : goal.returns-in_err-list-clause-fault
returns-in_err-list-clause-fault c =
    let p = err_from_is_err_and c.from_residual-in_err-list.result c.from_residual-in_err-list.ensures.1 in
    rw (p.1, p.2)
    (pairing_fault c.in_err-list.field-0.0 (tree_of c.args.from.now) (tree_of c.args.to.now) (subordinates_listed c.as_slice.result.now) (subordinates_listed c.in_ok-receivers.receivers.entries.items)
    (ap (λ (bs : List Listed). subordinates_listed bs) c.as_slice.ensures.value ∙ c.in_ok-senders.ensures)
    (ap (λ (bs : List Listed). subordinates_listed bs) c.in_ok-receivers.ensures ∙ c.in_ok-entries.ensures)
    c.in_err-list.ensures.fault)

pub returns-clause-found : goal.returns-clause-found
returns-clause-found c =
    pairing (tree_of c.args.from.now) (tree_of c.args.to.now) (subordinates_listed c.as_slice.result.now) (subordinates_listed c.in_ok-receivers.receivers.entries.items) (pairs c.in_ok-list.list.items) c.in_ok-numbers.numbers.items
    (ap (λ (bs : List Listed). subordinates_listed bs) c.as_slice.ensures.value ∙ c.in_ok-senders.ensures)
    (ap (λ (bs : List Listed). subordinates_listed bs) c.in_ok-receivers.ensures ∙ c.in_ok-entries.ensures)
    c.in_ok-list.ensures.found c.in_ok-list.ensures.once
    (c.in_ok-numbers.ensures.found ∙ ap (λ (ps : List Paired). map pair_numbers (pairs ps)) c.as_slice-2.ensures.value)
    (ap₂ (λ (a b : Bool). a || b) (elementary_node c.args.from.now) (elementary_node c.args.to.now) ∙ sym c.is_no_group.ensures ∙ c.if-is_no_group.false)
