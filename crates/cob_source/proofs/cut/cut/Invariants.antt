use Rattle.std.proofs.Common.{◌≡◌, length}
use Rattle.std.specs.Prelude.{None}
use Rattle.cob_source.specs.Tokens.{lexemes}
use Rattle.cob_source.specs.Cuts.{open_quote}
use Rattle.cob_source.proofs.CutLemmas.{SoFar}
use Rattle.cob_source.proofs.cut.cut.Given as goal

abbrev pub invariant-loop-first : goal.invariant-loop-first
invariant-loop-first l = record {
  so_far : SoFar l.cutting l.cells l.rest (lexemes l.initial.out.items) (lexemes l.out.items);
  closed : open_quote l.rest ≡ None;
}

abbrev pub decreases-loop-first : goal.decreases-loop-first
decreases-loop-first l = length l.rest
