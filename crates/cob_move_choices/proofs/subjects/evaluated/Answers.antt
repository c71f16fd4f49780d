use Rattle.std.proofs.Common.{◌≡◌, ◌∙◌, ap, inl, inr, refl, sym}
use Rattle.std.proofs.lemmas.Result.{err_from_is_err_and}
use Rattle.cob_source.specs.Tokens.{lexemes}
use Rattle.cob_move_loops.specs.Reading.{counters}
use Rattle.cob_move_loops.specs.Turns.{in_turn}
use Rattle.cob_move_statements.specs.Written.{written_reference}
use Rattle.cob_move_tests.specs.Entries.{nameable, records_of}
use Rattle.cob_move_choices.proofs.ListedLemmas.{entry_found, entry_refused, no_entry}
use Rattle.cob_move_choices.proofs.ReadLemmas.{counter_in_head}
use Rattle.cob_move_choices.proofs.subjects.evaluated.Goals as goal

pub returns-then-not-has_no_counter-clause-fault : goal.returns-then-not-has_no_counter-clause-fault
returns-then-not-has_no_counter-clause-fault c =
    inr (counter_in_head (records_of c.args.entries.now) (counters c.args.turn.now) (lexemes c.args.words.now) (sym c.has_no_counter.ensures ∙ c.if-not-has_no_counter.true))

pub returns-in_default-clause-fault : goal.returns-in_default-clause-fault
returns-in_default-clause-fault c =
    let same : lexemes c.as_slice.result.now ≡ in_turn (counters c.args.turn.now) _ 0 (lexemes c.args.words.now) = ap lexemes c.as_slice.ensures.value ∙ c.in_ok-own.ensures in
    inr (no_entry (records_of c.args.entries.now) (counters c.args.turn.now) (lexemes c.args.words.now) (lexemes c.as_slice.result.now) same (λ w is. c.in_default.ensures.only w is))

pub returns-in_err-named-clause-fault : goal.returns-in_err-named-clause-fault
returns-in_err-named-clause-fault c =
    let p = err_from_is_err_and c.from_residual-in_err-named.result c.from_residual-in_err-named.ensures.1 in
    let same = ap lexemes c.as_slice.ensures.value ∙ c.in_ok-own.ensures in
    rw (p.1, p.2) (inr (entry_refused c.in_err-named.field-0.0 (records_of c.args.entries.now) (counters c.args.turn.now) (lexemes c.args.words.now) (lexemes c.as_slice.result.now) (nameable c.args.entries.now)
    (written_reference c.in-Some.reference) same c.requires.named c.in-Some.ensures.found c.in_err-named.ensures.fault))

pub returns-clause-found : goal.returns-clause-found
returns-clause-found c =
    let same = ap lexemes c.as_slice.ensures.value ∙ c.in_ok-own.ensures in
    entry_found (records_of c.args.entries.now) (counters c.args.turn.now) (lexemes c.args.words.now) (lexemes c.as_slice.result.now) (nameable c.args.entries.now) (written_reference c.in-Some.reference) c.in_ok-named.named
    (sym c.has_no_counter.ensures ∙ c.if-not-has_no_counter.false) same c.requires.named c.in-Some.ensures.found c.in_ok-named.ensures.found
