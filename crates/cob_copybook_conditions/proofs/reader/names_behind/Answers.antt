use Rattle.cob_copybook_conditions.proofs.Loops.{ends_so, goes_on, shorter}
use Rattle.cob_copybook_conditions.proofs.reader.names_behind.Goals as goal

pub loop-sentence-smaller : goal.loop-sentence-smaller
loop-sentence-smaller c = shorter _ _ _ c.in-Some.ensures.found

pub loop-sentence-preserved : goal.loop-sentence-preserved
loop-sentence-preserved c = goes_on _ _ _ _ _ _ _ _ _ c.loop-sentence.invariant c.in-Some.ensures.found c.in_ok-last.ensures

pub returns : goal.returns
returns c = ends_so _ _ _ _ _ c.loop-sentence.invariant c.in_default.ensures.none
