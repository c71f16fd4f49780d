use Rattle.std.proofs.Common.{subst, sym}
use Rattle.cob_layout.specs.Kept.{AreKeptOf}
use Rattle.cob_move_apply.specs.Room.{Scratching}
use Rattle.cob_move_apply.proofs.scratch.Scratch.input_length.Goals as goal

pub kept_length-requires-clause-kept : goal.kept_length-requires-clause-kept
kept_length-requires-clause-kept c =
    subst (λ (s : Scratching). AreKeptOf c.args.layout.now c.args.bytes.now s.kept_input) (sym c.self.view_is)
    (c.forget_input.ensures.keeps c.args.layout.now c.args.bytes.now)
