use Rattle.std.proofs.Common.{ℕ, ◌+◌, ◌-◌, List, get_or, sym, ap, ◌∙◌, arith}
use Rattle.std.specs.List.{slice_get}
use Rattle.cob_picture.specs.declared.symbol.Run.{Run}
use Rattle.cob_picture.specs.declared.symbol.Symbol.{Symbol}
use Rattle.cob_picture.specs.declared.symbol.Symbol.TheVariants as symbol
use Rattle.cob_back_moves.proofs.RunLemmas.{behind, behind_is, in_run, past_run}
use Rattle.cob_back_moves.proofs.same_pictures.symbol_at.Goals as goal

pub returns-then-left-count : goal.returns-then-left-count
returns-then-left-count c =
    let d : Run = record { symbol = symbol.A; count = 0 } in
    let k = c.loop-run.run-index in
    let run : Run = get_or c.args.runs.now k d in
    sym (c.loop-run.invariant
    ∙ ap (λ (xs : List Symbol). slice_get xs c.loop-run.left) (behind_is c.args.runs.now k d c.loop-run-test.true)
    ∙ in_run run.count c.loop-run.left run.symbol (behind c.args.runs.now (k + 1)) (omega (arith, c.if-left-count.true, c.from-count.ensures)))

pub loop-run-preserved : goal.loop-run-preserved
loop-run-preserved c =
    let d : Run = record { symbol = symbol.A; count = 0 } in
    let k = c.loop-run.run-index in
    let run : Run = get_or c.args.runs.now k d in
    c.loop-run.invariant
    ∙ ap (λ (xs : List Symbol). slice_get xs c.loop-run.left) (behind_is c.args.runs.now k d c.loop-run-test.true)
    ∙ past_run run.count c.loop-run.left run.symbol (behind c.args.runs.now (k + 1)) (omega (arith, c.if-left-count.false, c.from-count.ensures))
    ∙ ap (λ (n : ℕ). slice_get (behind c.args.runs.now (k + 1)) (c.loop-run.left - n)) (sym c.from-count.ensures)
