use Rattle.std.proofs.Common.{◌∙◌, ap, sym}
use Rattle.cob_layout.specs.Fields.{with_field}
use Rattle.cob_layout.specs.Standing.{Standing, meets_kept}
use Rattle.cob_layout.proofs.RefreshLemmas.{kept_through}
use Rattle.cob_layout.proofs.layout.Layout.wrote.Goals as goal

pub returns-then-meets_kept-clause-keeps : goal.returns-then-meets_kept-clause-keeps
returns-then-meets_kept-clause-keeps c = λ before field fits long kept. c.forget.ensures.keeps c.args.self.now (with_field before c.args.place field)

pub returns-else-meets_kept-clause-keeps : goal.returns-else-meets_kept-clause-keeps
returns-else-meets_kept-clause-keeps c = λ before field fits long kept.
    kept_through c.one_place.ensures c.args.self.now before field c.args.place c.args.counts.now.kept (c.records_are_sound.ensures c.args.self.now c.greatest.ensures.record) fits long kept
    (ap (meets_kept c.args.place) (sym (c.deref.ensures.value ∙ ap (λ (s : Standing). s.kept) c.counts.view_is)) ∙ sym c.meets_kept.ensures ∙ c.if-meets_kept.false)
