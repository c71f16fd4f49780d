use Rattle.cob_move.proofs.paragraph.apply.Goals as goal

pub apply_kept-requires-clause-prepared : goal.apply_kept-requires-clause-prepared
apply_kept-requires-clause-prepared c = c.requires.ready.prepared

pub apply_kept-requires-clause-kept : goal.apply_kept-requires-clause-kept
apply_kept-requires-clause-kept c = c.forget_input.ensures.keeps c.args.in_layout.now c.args.input.now
