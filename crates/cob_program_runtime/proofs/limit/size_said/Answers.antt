use Rattle.std.proofs.Common.{arith, sym, subst}
use Rattle.std.specs.Option.{IfSome}
use Rattle.cob_program_runtime.specs.Limits.{SaysLimit}
use Rattle.cob_program_runtime.proofs.Telling.{size_read}
use Rattle.cob_program_runtime.proofs.limit.size_said.Goals as goal

pub returns-in-Some-clause-found : goal.returns-in-Some-clause-found
returns-in-Some-clause-found c =
    let found = c.in-Some.ensures.byte (omega arith) (λ text place finds. finds) in
    subst (λ read. IfSome read (SaysLimit c.args.words.now)) (sym c.ok.ensures.value)
    (size_read c.args.words.now c.trim_start.result.now c.in-Some.word.now c.parse.result c.trim_start.ensures.trim found.0 found.2 c.parse.ensures.value.0)
