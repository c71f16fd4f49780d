use Rattle.std.proofs.Common.{◌≡◌, ◌-◌, length, take, true, false, refl, sym, ap, ◌∙◌, arith, List, ℕ, rules}
use Rattle.cob_program_job.specs.Marks.{is_part_end}
use Rattle.cob_program_job.proofs.MarkLemmas.{past_line, at_end}
use Rattle.cob_program_job.proofs.JobTexts.{part_before}
use Rattle.cob_program_job.proofs.job_text.Lines.part.Goals as goal

pub loop-rest-init : goal.loop-rest-init
loop-rest-init c = record {
  within = omega arith;
  mark = refl;
  fewer = omega arith;
  number = λ h. omega (arith, h);
}

pub loop-rest-preserved : goal.loop-rest-preserved
loop-rest-preserved c =
    let none : is_part_end c.loop-rest.self.rest.now ≡ false = search rules in
    let one = ap (length {A = List ℕ}) c.split_line.ensures.line in
    record {
      within = omega (arith, c.loop-rest.invariant.within, c.split_line.ensures.shorter);
      mark = rw c.split_line.ensures.rest (sym (past_line c.loop-rest.self.rest.now none) ∙ c.loop-rest.invariant.mark);
      fewer = omega (arith, one, c.loop-rest.invariant.fewer);
      number = λ h. omega (arith, one, c.loop-rest.invariant.number h, c.loop-rest.invariant.fewer, c.saturating_add-self.ensures);
    }

pub returns : goal.returns
returns c =
    let done : is_part_end c.loop-rest.self.rest.now ≡ true = search rules in
    part_before c.args.self.now.rest.now (take (length c.args.self.now.rest.now - length c.loop-rest.self.rest.now) c.args.self.now.rest.now) c.loop-rest.self.rest.now
    c.args.self.now.number c.loop-rest.self.number (sym (at_end c.loop-rest.self.rest.now done) ∙ c.loop-rest.invariant.mark) refl c.loop-rest.invariant.number
