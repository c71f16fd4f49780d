use Rattle.std.proofs.Common.{◌≡◌, ℕ, ◌+◌, ◌-◌, List, [], ◌∷◌, ◌++◌, ap, drop, ◌∙◌}
use Rattle.cob_move_deeds.specs.declared.flow.Flow.{Flow}
use Rattle.cob_move_deeds.specs.declared.flow.Flow.TheVariants as flow
use Rattle.cob_move.specs.DeedsRead.{flow_lists, linked_turns}
use Rattle.cob_move.proofs.FlowLemmas.{linked_left, linked_same}
use Rattle.cob_move.proofs.linking.link_turns.Goals as goal

pub loop-own-preserved : goal.loop-own-preserved
loop-own-preserved c =
    let so = c.loop-own.invariant.left in
    let turns = c.args.turns.now in
    let flows = c.loop-own.flows.items in
    let made = c.in_ok-extend_from_slice.ensures.items ∙ ap (λ (t : List Flow). t ++ c.as_slice.result.now) c.in_ok-push.ensures.items
    ∙ ap (λ (t : List Flow). (flows ++ flow.Until c.args.bound c.loop-own.number (c.loop-own.left - 1) ∷ []) ++ t) c.as_slice.ensures.value in record {
      left = ap (λ (n : ℕ). c.loop-own.left - 1 - n) (c.len-left.ensures ∙ c.own-item.result.ok.0) ∙ linked_left turns c.loop-own.own-index c.own-item.result c.loop-own.left c.loop-own-test.true c.own-item.is so;
      same = ap (λ (n : ℕ). c.extend_from_slice.new.self.items ++ linked_turns c.args.bound c.args.by n (flow_lists (drop (c.loop-own.own-index + 1) turns))) c.in_ok-number.ensures
          ∙ linked_same turns c.loop-own.own-index c.own-item.result c.loop-own.left c.args.bound c.args.by c.loop-own.number flows (c.args.flows.now.items ++ linked_turns c.args.bound c.args.by c.args.from (flow_lists turns))
          c.extend_from_slice.new.self.items c.loop-own-test.true c.own-item.is so c.loop-own.invariant.same made;
    }
