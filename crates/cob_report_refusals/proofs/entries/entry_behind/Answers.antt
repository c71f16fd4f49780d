use Rattle.std.proofs.Common.{[], refl, sym, inl, inr, ◌∙◌}
use Rattle.std.proofs.lemmas.List.{append-nil}
use Rattle.cob_source.specs.Tokens.{lexemes}
use Rattle.cob_report_refusals.proofs.entries.entry_behind.Goals as goal

pub returns-in-Some : goal.returns-in-Some
returns-in-Some c = (
  _,
  sym c.behind-rest.ensures ∙ c.with_stop.ensures.cut _ c.in-Some.ensures.found,
  inl (lexemes c.in-Some.sentence.now, c.with_stop.ensures.first),
)

pub returns-in-None : goal.returns-in-None
returns-in-None c = ([], sym c.behind-rest.ensures ∙ sym (append-nil (lexemes c.behind-rest.result.now)), inr (c.in-None.ensures.none, refl))
