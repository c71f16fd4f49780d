use Rattle.std.proofs.Common.{◌≡◌, ◌⊎◌, ◌∙◌, List, ap, false, inl, inr, subst, sym}
use Rattle.std.specs.List.{AllByRecursion}
use Rattle.std.proofs.lemmas.Result.{err_from_is_err_and}
use Rattle.cob_move_condition.specs.Conditions.{condition_of}
use Rattle.cob_move_loops.specs.Reading.{counters}
use Rattle.cob_move_loops.specs.Turns.{in_turn}
use Rattle.cob_move_tests.specs.declared.entries.NamedEntry.{NamedEntry}
use Rattle.cob_move_tests.specs.Asked.{IsAsked, IsSubscriptedEntry, IsTestable, sender_named}
use Rattle.cob_move_tests.specs.Entries.{records_of, valued_in}
use Rattle.cob_move_tests.proofs.AskedLemmas.{none_more}
use Rattle.cob_source.specs.Tokens.{Lexeme, lexemes}
use Rattle.cob_move_choices.specs.declared.subjects.Subject.{Subject}
use Rattle.cob_move_choices.specs.Asked.{IsSubjectAsked, against}
use Rattle.cob_move_choices.specs.Choices.{AnEntry, IsBranchTestOf, IsListedTest, Truth}
use Rattle.cob_move_choices.proofs.ReadLemmas.{counter_among, listed_found, listed_refused, truth_found, truth_refused}
use Rattle.cob_move_choices.proofs.tests.branch_test.Goals as goal

pub returns-then-not-has_no_counter-clause-fault : goal.returns-then-not-has_no_counter-clause-fault
returns-then-not-has_no_counter-clause-fault c =
    let r = records_of c.args.entries.now in
    inr (counter_among r (valued_in c.args.entries.now) (counters c.args.turn.now) (against (sender_named r c.args.asked.now.items) c.args.subject) (lexemes c.args.words.now) (sym c.has_no_counter.ensures ∙ c.if-not-has_no_counter.true))

pub returns-then-not-has_no_counter-clause-asks : goal.returns-then-not-has_no_counter-clause-asks
returns-then-not-has_no_counter-clause-asks c = none_more (records_of c.args.entries.now) c.args.asked.now.items

pub returns-in_err-own-clause-asks : goal.returns-in_err-own-clause-asks
returns-in_err-own-clause-asks c = none_more (records_of c.args.entries.now) c.args.asked.now.items

pub returns-in_err-test-in-Truth-clause-fault : goal.returns-in_err-test-in-Truth-clause-fault
returns-in_err-test-in-Truth-clause-fault c =
    let r = records_of c.args.entries.now in
    let same : lexemes c.as_slice-turned.result.now ≡ in_turn (counters c.args.turn.now) false 0 (lexemes c.args.words.now) = ap lexemes c.as_slice-turned.ensures.value ∙ c.in_ok-own.ensures in
    let p = err_from_is_err_and c.from_residual-in_err-test-in-Truth.result c.from_residual-in_err-test-in-Truth.ensures.1 in
    rw (p.1, p.2) (truth_refused c.in_err-test-in-Truth.field-0.0 r (valued_in c.args.entries.now) (counters c.args.turn.now) (against (sender_named r c.args.asked.now.items) c.args.subject) (lexemes c.args.words.now) (lexemes c.as_slice-turned.result.now)
    (ap (against (sender_named r c.args.asked.now.items)) c.in-Truth.is) (sym c.has_no_counter.ensures ∙ c.if-not-has_no_counter.false) same c.in_err-test-in-Truth.ensures.fault)

pub returns-in-Truth-clause-found : goal.returns-in-Truth-clause-found
returns-in-Truth-clause-found c =
    let r = records_of c.args.entries.now in
    let ns = counters c.args.turn.now in
    let ws = lexemes c.args.words.now in
    let own = lexemes c.as_slice-turned.result.now in
    let d = condition_of (sender_named r c.condition_of.new.asked.items) c.in_ok-test-in-Truth.test in
    let same : own ≡ in_turn ns false 0 ws = ap lexemes c.as_slice-turned.ensures.value ∙ c.in_ok-own.ensures in
    subst (λ (s : Subject). IsBranchTestOf r (valued_in c.args.entries.now) ns (against (sender_named r c.args.asked.now.items) s) ws d) (sym c.in-Truth.is)
    (truth_found r (valued_in c.args.entries.now) ns ws own d (sym c.has_no_counter.ensures ∙ c.if-not-has_no_counter.false) same c.in_ok-test-in-Truth.ensures.found)

pub value_test-requires-clause-there : goal.value_test-requires-clause-there
value_test-requires-clause-there c =
    let there : IsAsked c.args.asked.now.items c.in-Entry.number = subst (λ (s : Subject). IsSubjectAsked c.args.asked.now.items s) c.in-Entry.is c.requires.there in
    subst (λ (ns : List NamedEntry). IsAsked ns c.in-Entry.number) (sym c.as_slice.ensures.value) there

pub value_test-requires-clause-operands : goal.value_test-requires-clause-operands
value_test-requires-clause-operands c =
    subst (λ (ns : List NamedEntry). AllByRecursion (IsSubscriptedEntry (records_of c.args.entries.now)) ns) (sym c.as_slice.ensures.value) c.requires.operands

pub returns-in_err-test-in-Entry-clause-asks : goal.returns-in_err-test-in-Entry-clause-asks
returns-in_err-test-in-Entry-clause-asks c = none_more (records_of c.args.entries.now) c.args.asked.now.items

pub returns-in_err-test-in-Entry-clause-fault : goal.returns-in_err-test-in-Entry-clause-fault
returns-in_err-test-in-Entry-clause-fault c =
    let r = records_of c.args.entries.now in
    let same : lexemes c.as_slice-turned.result.now ≡ in_turn (counters c.args.turn.now) false 0 (lexemes c.args.words.now) = ap lexemes c.as_slice-turned.ensures.value ∙ c.in_ok-own.ensures in
    let p = err_from_is_err_and c.from_residual-in_err-test-in-Entry.result c.from_residual-in_err-test-in-Entry.ensures.1 in
    rw (p.1, p.2) (listed_refused c.in_err-test-in-Entry.field-0.0 r (valued_in c.args.entries.now) (counters c.args.turn.now) (against (sender_named r c.args.asked.now.items) c.args.subject) (sender_named r c.args.asked.now.items c.in-Entry.number) (lexemes c.args.words.now)
    (lexemes c.as_slice-turned.result.now) (ap (against (sender_named r c.args.asked.now.items)) c.in-Entry.is) (sym c.has_no_counter.ensures ∙ c.if-not-has_no_counter.false) same (rw c.as_slice.ensures.value at c.in_err-test-in-Entry.ensures.fault))

pub returns-clause-found : goal.returns-clause-found
returns-clause-found c =
    let r = records_of c.args.entries.now in
    let ns = counters c.args.turn.now in
    let ws = lexemes c.args.words.now in
    let asked : List NamedEntry = c.args.asked.now.items in
    let own = lexemes c.as_slice-turned.result.now in
    let number = c.in-Entry.number in
    let d = condition_of (sender_named r asked) c.in_ok-test-in-Entry.test in
    let same : own ≡ in_turn ns false 0 ws = ap lexemes c.as_slice-turned.ensures.value ∙ c.in_ok-own.ensures in
    subst (λ (s : Subject). IsBranchTestOf r (valued_in c.args.entries.now) ns (against (sender_named r asked) s) ws d) (sym c.in-Entry.is)
    (listed_found r (valued_in c.args.entries.now) ns (sender_named r asked number) ws own d (sym c.has_no_counter.ensures ∙ c.if-not-has_no_counter.false) same (rw c.as_slice.ensures.value at c.in_ok-test-in-Entry.ensures.found))

pub returns-clause-tested : goal.returns-clause-tested
returns-clause-tested c = subst (λ (ns : List NamedEntry). IsTestable (records_of c.args.entries.now) ns c.in_ok-test-in-Entry.test) c.as_slice.ensures.value c.in_ok-test-in-Entry.ensures.tested

pub returns-clause-asks : goal.returns-clause-asks
returns-clause-asks c = none_more (records_of c.args.entries.now) c.args.asked.now.items
