use Rattle.std.proofs.Common.{ℕ, List, ◌∷◌, take, sym, ap, ◌∙◌}
use Rattle.std.proofs.lemmas.List.{nil_from_length}
use Rattle.cob_source.specs.Lines.{lines, cut_return}
use Rattle.cob_source.proofs.LineLemmas.{first_line, only_line}
use Rattle.cob_report_refusals.proofs.lines.behind_line.Goals as goal

pub returns-in-Some-clause-line : goal.returns-in-Some-clause-line
returns-in-Some-clause-line c =
    (cut_return (take c.line_len.result c.args.text.now), first_line c.args.text.now c.line_len.result _ _ c.line_len.ensures.none c.line_len.ensures.feed (sym c.split_at.ensures.back ∙ c.in-Some.ensures.cases.0))

pub returns-in-None-clause-line : goal.returns-in-None-clause-line
returns-in-None-clause-line c = (
  take c.line_len.result c.args.text.now,
  only_line c.args.text.now c.line_len.result c.line_len.ensures.none (sym c.split_at.ensures.back ∙ nil_from_length _ c.in-None.ensures.cases) c.requires
      ∙ ap (λ (l : List ℕ). take c.line_len.result c.args.text.now ∷ lines l) (sym c.split_at.ensures.back),
)
