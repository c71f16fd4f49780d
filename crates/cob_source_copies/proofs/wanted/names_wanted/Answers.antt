use Rattle.std.proofs.Common.{◌∷◌, [], ◌++◌, map, sym, ap, ◌∙◌, option_map}
use Rattle.std.proofs.lemmas.List.{map-append, nil_from_length}
use Rattle.cob_source.specs.Tokens.{lexeme, lexemes}
use Rattle.cob_source_copies.specs.declared.name.TextName.{TextName}
use Rattle.cob_source_copies.specs.Statements.{written_copy, written_text_name}
use Rattle.cob_source_copies.specs.Reading.{front_seen}
use Rattle.cob_source_copies.proofs.LibraryLemmas.{names_end, names_more, names_stay, names_stop}
use Rattle.cob_source_copies.proofs.wanted.names_wanted.Goals as goal

pub loop-first-preserved-then-not-is_copy : goal.loop-first-preserved-then-not-is_copy
loop-first-preserved-then-not-is_copy c =
    names_stay (lexemes c.args.words.now) (lexemes c.loop-first.rest.now) (lexemes c.in-Some.more.now) (map written_text_name c.loop-first.out.items) (lexeme c.in-Some.first.now)
    c.loop-first.invariant (ap lexemes c.in-Some.ensures.cases.0) (sym c.is_copy.ensures ∙ c.if-not-is_copy.true)

pub returns-in_default-2 : goal.returns-in_default-2
returns-in_default-2 c =
    names_stop (lexemes c.args.words.now) (lexemes c.loop-first.rest.now) (lexemes c.in-Some.more.now) (map written_text_name c.loop-first.out.items) (lexeme c.in-Some.first.now)
    c.loop-first.invariant (ap lexemes c.in-Some.ensures.cases.0) (sym c.is_copy.ensures ∙ c.if-not-is_copy.false) (sym c.in_ok-statement.ensures.read ∙ ap (option_map front_seen) c.in_default-2.is)

pub loop-first-preserved : goal.loop-first-preserved
loop-first-preserved c =
    names_more (lexemes c.args.words.now) (lexemes c.loop-first.rest.now) (lexemes c.in-Some.more.now) (lexemes c.in-Some-2.behind.now) (map written_text_name c.loop-first.out.items) (map written_text_name c.push.new.self.items)
    (lexeme c.in-Some.first.now) (written_copy c.in-Some-2.statement) c.loop-first.invariant (ap lexemes c.in-Some.ensures.cases.0) (sym c.is_copy.ensures ∙ c.if-not-is_copy.false)
    (sym c.in_ok-statement.ensures.read ∙ ap (option_map front_seen) c.in-Some-2.is)
    (ap (map written_text_name) c.in_ok-push.ensures.items ∙ map-append written_text_name c.loop-first.out.items (c.name_in.result ∷ []) ∙ ap (λ (t : TextName). map written_text_name c.loop-first.out.items ++ written_text_name t ∷ []) c.name_in.ensures)

pub returns : goal.returns
returns c = λ parts begin.
    names_end (lexemes c.args.words.now) (lexemes c.loop-first.rest.now) (map written_text_name c.loop-first.out.items) c.loop-first.invariant
    (ap lexemes (nil_from_length c.loop-first.rest.now c.in_default.ensures.cases)) parts begin
