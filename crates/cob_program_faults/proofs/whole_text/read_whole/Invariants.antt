use Rattle.std.proofs.Common.{◌+◌, ◌-◌, ◌≡◌, ◌≤◌, vec_len}
use Rattle.cob_program_faults.specs.WholeTexts.{IsReadOf}
use Rattle.cob_program_faults.proofs.whole_text.read_whole.Given as goal

abbrev pub invariant-loop-source : goal.invariant-loop-source
invariant-loop-source g l = record {
  len : vec_len l.bytes ≡ l.came;
  bound : l.came ≤ l.most + 65536;
  same : l.most ≡ l.initial.most;
  bytes : IsReadOf (g.S.Source.coming l.initial.source) (g.S.Source.coming l.source) l.bytes.items;
  cause : g.S.Source.failures l.source ≡ g.S.Source.failures l.initial.source;
}

abbrev pub decreases-loop-source : goal.decreases-loop-source
decreases-loop-source g l = l.most + 1 - l.came
