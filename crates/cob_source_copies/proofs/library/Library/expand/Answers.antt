use Rattle.std.proofs.Common.{◌∷◌, [], ◌++◌, map, sym, ap, subst, ◌∙◌}
use Rattle.std.proofs.lemmas.List.{map-append, nil_from_length}
use Rattle.cob_source.specs.Tokens.{Lexeme, lexeme, lexemes}
use Rattle.cob_source_copies.specs.declared.fault.CopyRule.{CopyRule}
use Rattle.cob_source_copies.specs.Texts.{copied_text}
use Rattle.cob_source_copies.specs.Refusals.{IsCopyRefusal}
use Rattle.cob_source_copies.proofs.ExpansionLemmas.{refused, so_copies, so_ends, so_stays}
use Rattle.cob_source_copies.proofs.library.Library.expand.Goals as goal

pub loop-first-preserved-in-Ok : goal.loop-first-preserved-in-Ok
loop-first-preserved-in-Ok c =
    so_copies (map copied_text c.args.self.now.texts.items) (lexemes c.args.words.now) (lexemes c.loop-first.rest.now) (lexemes c.in-Some.more.now) (lexemes c.in-Ok.behind.now) c.loop-first.room c.in-Ok.left
    (lexemes c.loop-first.out.items) (lexemes c.carry_out.new.out.items) (lexeme c.in-Some.first.now) c.loop-first.invariant (ap lexemes c.in-Some.ensures.cases.0) (sym c.is_copy.ensures ∙ c.if-is_copy.true) c.in-Ok.ensures.ok

pub returns-in-Err-clause-fault : goal.returns-in-Err-clause-fault
returns-in-Err-clause-fault c =
    let texts = map copied_text c.args.self.now.texts.items in
    let ws = lexemes c.args.words.now in
    subst (λ (r : CopyRule). IsCopyRefusal r c.on.result.line texts ws) (sym c.on.ensures.rule)
    (refused c.in-Err.rule texts ws (lexemes c.loop-first.rest.now) (lexemes c.in-Some.more.now) c.loop-first.room (lexemes c.loop-first.out.items) (lexeme c.in-Some.first.now) c.on.result.line
    c.loop-first.invariant (ap lexemes c.in-Some.ensures.cases.0) (sym c.is_copy.ensures ∙ c.if-is_copy.true) c.in-Err.ensures.fault c.on.ensures.memory c.on.ensures.line)

pub loop-first-preserved : goal.loop-first-preserved
loop-first-preserved c =
    so_stays (map copied_text c.args.self.now.texts.items) (lexemes c.args.words.now) (lexemes c.loop-first.rest.now) (lexemes c.in-Some.more.now) c.loop-first.room
    (lexemes c.loop-first.out.items) (lexemes c.push.new.self.items) (lexeme c.in-Some.first.now) c.loop-first.invariant (ap lexemes c.in-Some.ensures.cases.0) (sym c.is_copy.ensures ∙ c.if-is_copy.false)
    (ap lexemes c.in_ok-push.ensures.items ∙ map-append lexeme c.loop-first.out.items (c.in_ok-copy_of.field-0 ∷ []) ∙ ap (λ (t : Lexeme). lexemes c.loop-first.out.items ++ t ∷ []) c.in_ok-copy_of.ensures)

pub returns-in-Err-clause-only : goal.returns-in-Err-clause-only
returns-in-Err-clause-only c = λ done x.
    (tt, c.expanded_breaks_no_rule.ensures (map copied_text c.args.self.now.texts.items) (lexemes c.args.words.now) done c.on.result.rule c.on.result.line x (returns-in-Err-clause-fault c))

pub returns-clause-only : goal.returns-clause-only
returns-clause-only c = λ done x.
    let texts = map copied_text c.args.self.now.texts.items in
    let ws = lexemes c.args.words.now in
    let out = lexemes c.loop-first.out.items in
    (c.one_expansion.ensures texts ws out done (so_ends texts ws (lexemes c.loop-first.rest.now) c.loop-first.room out c.loop-first.invariant (ap lexemes (nil_from_length c.loop-first.rest.now c.in_default.ensures.cases))) x, tt)
