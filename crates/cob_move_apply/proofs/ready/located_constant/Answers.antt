use Rattle.std.proofs.Common.{◌∙◌, Some, ap, sym}
use Rattle.cob_copybook_tree.specs.declared.node.Kind.{Kind}
use Rattle.cob_copybook_entry.specs.Described.{plain_value}
use Rattle.cob_move_apply.specs.Planned.{records_between}
use Rattle.cob_move_apply.proofs.ConstantLemmas.{constant_ready}
use Rattle.cob_move_apply.proofs.PlaceLemmas.{storable_in}
use Rattle.cob_move_apply.proofs.ready.located_constant.Goals as goal

pub constant_anywhere-requires : goal.constant_anywhere-requires
constant_anywhere-requires c = record {
  receives = storable_in c.args.receiver.now.node c.args.both.now.output.now (c.records_are_sound.ensures c.args.both.now.output.now c.greatest.ensures.record).storable c.entry_kind-receives.result.now
      (c.requires.receiver.is ∙ ap (λ (x : Kind). Some x) (sym c.entry_kind-receives.ensures));
}

pub returns-in-Some : goal.returns-in-Some
returns-in-Some c =
    let is = rw c.in-Some.is at c.in_ok-step.ensures.step in record {
      ready = constant_ready (records_between c.args.both.now) c.args.receiver.now c.same_entry.result c.basis_of-to.result (plain_value c.args.value.now) c.entry_kind-receives.result.now c.in-Some.step
          c.same_entry.ensures c.requires.receiver c.basis_of-to.ensures c.entry_kind-receives.ensures is;
    }
