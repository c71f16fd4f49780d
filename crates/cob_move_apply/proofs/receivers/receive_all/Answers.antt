use Rattle.std.proofs.Common.{◌∙◌, ℕ, true, Err, List, None, Ok, refl, subst, sym}
use Rattle.std.proofs.lemmas.Result.{err_from_is_err_and}
use Rattle.cob_copybook_tree.specs.Forests.{Forest}
use Rattle.cob_copybook_tree.specs.Nodes.{Resolved}
use Rattle.cob_move_data.specs.declared.operands.Operand.{Operand}
use Rattle.cob_move_data.specs.Moves.{operand_in}
use Rattle.cob_move_apply.specs.Applied.{Content, Gets}
use Rattle.cob_move_apply.specs.Met.{ReceiverMet}
use Rattle.cob_move_apply.specs.Placed.{IsPlaced, content_of}
use Rattle.cob_move_apply.specs.Seen.{receivers_in}
use Rattle.cob_move_apply.specs.Spent.{IsSpent}
use Rattle.cob_move_apply.specs.declared.basis.Basis.{Basis}
use Rattle.cob_move_apply.specs.declared.basis.Basis.TheVariants.{Counted}
use Rattle.cob_move_apply.proofs.BasisLemmas.{in_both, left_receiver, more_left}
use Rattle.cob_move_apply.proofs.ListLemmas.{at, below, past}
use Rattle.cob_move_apply.proofs.ReceiverLemmas.{get_more, get_stops, get_all}
use Rattle.cob_move_apply.proofs.SpendingLemmas.{receivers_done, receivers_stop, spent_to_first, spent_to_next}
use Rattle.cob_move_apply.proofs.receivers.receive_all.Goals as goal

pub placed_operand-receiver-requires-clause-operand : goal.placed_operand-receiver-requires-clause-operand
placed_operand-receiver-requires-clause-operand c =
    let os : List Operand = receivers_in c.args.layout.now c.args.receivers.now in
    let lt = below (operand_in c.args.layout.now) c.args.receivers.now.entries.now c.loop-index.index c.loop-index-test.true in
    let is = at (operand_in c.args.layout.now) c.args.receivers.now.entries.now c.loop-index.index c.entry-item.result c.loop-index-test.true c.entry-item.is in
    let placed = left_receiver c.args.layout.now os c.args.receivers.now.bases.now c.loop-index.index (operand_in c.args.layout.now c.entry-item.result) (Counted None) lt is
    (in_both c.args.layout.now os c.args.receivers.now.bases.now c.loop-index.index c.requires.receivers lt) c.loop-index.invariant.left in
    placed.operand

pub bounds-receivers-index : goal.bounds-receivers-index
bounds-receivers-index c =
    in_both c.args.layout.now (receivers_in c.args.layout.now c.args.receivers.now) c.args.receivers.now.bases.now c.loop-index.index c.requires.receivers
    (below (operand_in c.args.layout.now) c.args.receivers.now.entries.now c.loop-index.index c.loop-index-test.true)

pub receive_one-requires-clause-receiver : goal.receive_one-requires-clause-receiver
receive_one-requires-clause-receiver c =
    let tree : Forest Resolved = c.args.layout.now in
    let os : List Operand = receivers_in tree c.args.receivers.now in
    let lt = below (operand_in tree) c.args.receivers.now.entries.now c.loop-index.index c.loop-index-test.true in
    let is = at (operand_in tree) c.args.receivers.now.entries.now c.loop-index.index c.entry-item.result c.loop-index-test.true c.entry-item.is in
    subst (λ (o : Operand). IsPlaced tree true o c.placed_operand-receiver.result.basis.now) (sym c.placed_operand-receiver.ensures.operand)
    (subst (λ (b : Basis). IsPlaced tree true (operand_in tree c.entry-item.result) b) (sym c.placed_operand-receiver.ensures.basis)
    (left_receiver tree os c.args.receivers.now.bases.now c.loop-index.index (operand_in tree c.entry-item.result) _ lt is
    (in_both tree os c.args.receivers.now.bases.now c.loop-index.index c.requires.receivers lt) c.loop-index.invariant.left))

pub returns-in_err-receive_one-clause-get : goal.returns-in_err-receive_one-clause-get
returns-in_err-receive_one-clause-get c =
    let tree : Forest Resolved = c.args.layout.now in
    let content : Content = content_of c.args.given.now in
    let p = err_from_is_err_and c.from_residual.result c.from_residual.ensures.1 in
    rw (p.1, p.2, c.in_err-receive_one.ensures.same)
    (get_stops tree content (receivers_in tree c.args.receivers.now) c.loop-index.index (operand_in tree c.entry-item.result) c.args.output.now c.loop-index.output
    c.in_err-receive_one.field-0.0 (below (operand_in tree) c.args.receivers.now.entries.now c.loop-index.index c.loop-index-test.true)
    (at (operand_in tree) c.args.receivers.now.entries.now c.loop-index.index c.entry-item.result c.loop-index-test.true c.entry-item.is) c.loop-index.invariant.get
    (subst (λ (o : Operand). Gets tree content o c.loop-index.output (Err c.in_err-receive_one.field-0.0)) c.placed_operand-receiver.ensures.operand c.in_err-receive_one.ensures.gets))

pub loop-index-preserved : goal.loop-index-preserved
loop-index-preserved c =
    let tree : Forest Resolved = c.args.layout.now in
    let content : Content = content_of c.args.given.now in
    let os : List Operand = receivers_in tree c.args.receivers.now in
    let lt = below (operand_in tree) c.args.receivers.now.entries.now c.loop-index.index c.loop-index-test.true in
    let is = at (operand_in tree) c.args.receivers.now.entries.now c.loop-index.index c.entry-item.result c.loop-index-test.true c.entry-item.is in record {
      get = get_more tree content os c.loop-index.index (operand_in tree c.entry-item.result) c.args.output.now c.loop-index.output c.receive_one.new.output
          lt is c.loop-index.invariant.get
          (subst (λ (o : Operand). Gets tree content o c.loop-index.output (Ok c.receive_one.new.output)) c.placed_operand-receiver.ensures.operand c.in_ok-receive_one.ensures.gets);
      left = more_left tree os c.args.receivers.now.bases.now c.loop-index.index (operand_in tree c.entry-item.result) (Counted None) lt is
          (in_both tree os c.args.receivers.now.bases.now c.loop-index.index c.requires.receivers lt) c.loop-index.invariant.left;
      output = c.receive_one.auto.output ∙ c.loop-index.invariant.output;
      survey = c.in_ok-receive_one.ensures.survey;
      spends = spent_to_next tree content os c.loop-index.index (operand_in tree c.entry-item.result) c.args.output.now c.loop-index.output c.receive_one.new.output c.args.survey.now c.loop-index.survey c.receive_one.new.survey
          lt is c.loop-index.invariant.spends
          (subst (λ (o : Operand). Gets tree content o c.loop-index.output (Ok c.receive_one.new.output)) c.placed_operand-receiver.ensures.operand c.in_ok-receive_one.ensures.gets)
          (subst (λ (o : Operand). (met : ℕ) × ReceiverMet tree o c.loop-index.output met × IsSpent tree met c.loop-index.survey c.receive_one.new.survey) c.placed_operand-receiver.ensures.operand c.in_ok-receive_one.ensures.spends);
    }

pub returns-clause-get : goal.returns-clause-get
returns-clause-get c =
    get_all c.args.layout.now (content_of c.args.given.now) (receivers_in c.args.layout.now c.args.receivers.now) c.loop-index.index c.args.output.now c.loop-index.output
    (past (operand_in c.args.layout.now) c.args.receivers.now.entries.now c.loop-index.index c.loop-index-test.false) c.loop-index.invariant.get

pub loop-index-init : goal.loop-index-init
loop-index-init c = record {
  get = λ end h. h;
  left = c.requires.receivers;
  output = refl;
  survey = c.requires.survey;
  spends = spent_to_first c.args.layout.now (content_of c.args.given.now) (receivers_in c.args.layout.now c.args.receivers.now) c.args.output.now c.args.survey.now;
}

pub returns-in_err-receive_one-clause-spends : goal.returns-in_err-receive_one-clause-spends
returns-in_err-receive_one-clause-spends c =
    let tree : Forest Resolved = c.args.layout.now in
    let p = err_from_is_err_and c.from_residual.result c.from_residual.ensures.1 in
    rw (p.1)
    (receivers_stop tree (content_of c.args.given.now) (receivers_in tree c.args.receivers.now) c.loop-index.index c.args.output.now c.loop-index.output c.args.survey.now c.loop-index.survey c.receive_one.new.survey
    c.loop-index.invariant.spends c.in_err-receive_one.ensures.spends)

pub returns-clause-spends : goal.returns-clause-spends
returns-clause-spends c =
    receivers_done c.args.layout.now (content_of c.args.given.now) (receivers_in c.args.layout.now c.args.receivers.now) c.loop-index.index c.args.output.now c.loop-index.output c.args.survey.now c.loop-index.survey
    (past (operand_in c.args.layout.now) c.args.receivers.now.entries.now c.loop-index.index c.loop-index-test.false) c.loop-index.invariant.spends
