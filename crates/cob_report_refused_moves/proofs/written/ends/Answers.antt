use Rattle.std.proofs.Common.{◌≡◌, ◌∙◌, true, false, refl, ap, subst, sym, inl, inr}
use Rattle.std.specs.Prelude.{IsTrue}
use Rattle.cob_source.specs.Tokens.{lexeme, lexemes}
use Rattle.cob_move_statements.specs.Statements.{EndsStatement}
use Rattle.cob_move_statements.proofs.ParagraphLemmas.{by_end, no_words}
use Rattle.cob_report_refused_moves.proofs.written.ends.Goals as goal

pub returns-then-is_stop : goal.returns-then-is_stop
returns-then-is_stop c =
    let e = ap lexemes c.in-Some.ensures.cases.0 in
    (λ t. subst EndsStatement (sym e) (inl (c.is_stop.ensures.0 t)), λ h. c.if-is_stop.true)

pub returns-else-is_stop : goal.returns-else-is_stop
returns-else-is_stop c =
    let e = ap lexemes c.in-Some.ensures.cases.0 in (
      λ t. subst EndsStatement (sym e) (inr (c.is_term.ensures.0 t)),
      λ h. by_end (IsTrue c.is_term.result) (lexeme c.in-Some.first.now) (lexemes c.in-Some.field-0-1.now)
          (λ is. let never : true ≡ false = sym (c.is_stop.ensures.1 is) ∙ c.if-is_stop.false in absurd cc) c.is_term.ensures.1 (subst EndsStatement e h),
    )

pub returns-in-None : goal.returns-in-None
returns-in-None c = (λ t. subst EndsStatement (sym (no_words c.args.words.now c.in-None.ensures.cases)) tt, λ h. refl)
