use Rattle.std.proofs.Common.{inr, refl, ap, subst, sym, map, option_map, ◌∙◌}
use Rattle.std.specs.Box.{box_value}
use Rattle.std.proofs.lemmas.Result.{IfErr-weaker, IfOk-weaker}
use Rattle.clap.specs.Kinds.{HasKind}
use Rattle.clap.specs.Words.{App, app_of, fault_of, found_of, is_simple, is_simple_and_free, rows_of, subcommand_of}
use Rattle.clap.specs.declared.parser.matches.ArgMatches.TheViews.{out-ArgMatches, out-SubCommand}
use Rattle.cob_program_line.specs.Lines.{IsCommandLineOf}
use Rattle.cob_program_line.specs.declared.line.CommandLine.{CommandLine}
use Rattle.cob_program_line.proofs.Spelled.{complete_by, found_in, program_is_free, program_is_simple}
use Rattle.cob_program_line.proofs.Apps.{told}
use Rattle.cob_program_line.proofs.Parts.{both_parts, none_said, some_said}
use Rattle.cob_program_line.proofs.Said.{found_by, named_by, option_fault, refusal, said_by, words_refused}
use Rattle.cob_program_line.proofs.read.line_of.Goals as goal

pub returns-then-is_empty : goal.returns-then-is_empty
returns-then-is_empty g c = record { options = none_said g.S.AsStr.text c.args.words.now _ refl refl c.plain.ensures (sym c.is_empty.ensures ∙ c.if-is_empty.true); refused = tt; fault = tt; blocks = tt }

pub whole_line-requires : goal.whole_line-requires
whole_line-requires g c =
    let words = map g.S.AsStr.text c.args.words.now in
    let some = some_said g.S.AsStr.text c.args.words.now (sym c.is_empty.ensures ∙ c.if-is_empty.false) in
    let name = c.in-Some.name.now in
    let rows = rows_of (found_of c.in-Some.options.now) in
    let built = c.in_ok-program.ensures in
    let found = c.in_ok-matches.ensures.matches (ap is_simple built ∙ program_is_simple) in
    let entered = both_parts (out-ArgMatches c.in_ok-matches.matches).subcommand (λ b. (out-SubCommand (box_value b)).name.now)
    (λ b. rows_of (found_of (out-SubCommand (box_value b)).matches)) name rows
    (sym c.subcommand.ensures.name ∙ ap (option_map (λ p. p.0.now)) c.in-Some.is)
    (sym c.subcommand.ensures.rows ∙ ap (option_map (λ p. rows_of (found_of p.1.now))) c.in-Some.is) in
    let reading = ap (λ (a : App). subcommand_of a words) (sym built) ∙ sym found.1 ∙ entered in
    let passed = ap (λ (a : App). fault_of a words) (sym built) ∙ c.in_ok-matches.ensures.kinds (ap is_simple_and_free built ∙ program_is_free) in
    complete_by words name rows (found_in words name rows some passed reading)

pub returns-clause-options : goal.returns-clause-options
returns-clause-options g c =
    let words = map g.S.AsStr.text c.args.words.now in
    let some = some_said g.S.AsStr.text c.args.words.now (sym c.is_empty.ensures ∙ c.if-is_empty.false) in
    let name = c.in-Some.name.now in
    let rows = rows_of (found_of c.in-Some.options.now) in
    let built = c.in_ok-program.ensures in
    let found = c.in_ok-matches.ensures.matches (ap is_simple built ∙ program_is_simple) in
    let entered = both_parts (out-ArgMatches c.in_ok-matches.matches).subcommand (λ b. (out-SubCommand (box_value b)).name.now)
    (λ b. rows_of (found_of (out-SubCommand (box_value b)).matches)) name rows
    (sym c.subcommand.ensures.name ∙ ap (option_map (λ p. p.0.now)) c.in-Some.is)
    (sym c.subcommand.ensures.rows ∙ ap (option_map (λ p. rows_of (found_of p.1.now))) c.in-Some.is) in
    let reading = ap (λ (a : App). subcommand_of a words) (sym built) ∙ sym found.1 ∙ entered in
    let passed = ap (λ (a : App). fault_of a words) (sym built) ∙ c.in_ok-matches.ensures.kinds (ap is_simple_and_free built ∙ program_is_free) in
    IfOk-weaker c.whole_line.result _ _ (λ said h. said_by words name rows said (found_in words name rows some passed reading) h) c.whole_line.ensures.options

pub returns-clause-refused : goal.returns-clause-refused
returns-clause-refused g c =
    let words = map g.S.AsStr.text c.args.words.now in
    let some = some_said g.S.AsStr.text c.args.words.now (sym c.is_empty.ensures ∙ c.if-is_empty.false) in
    let name = c.in-Some.name.now in
    let rows = rows_of (found_of c.in-Some.options.now) in
    let built = c.in_ok-program.ensures in
    let found = c.in_ok-matches.ensures.matches (ap is_simple built ∙ program_is_simple) in
    let entered = both_parts (out-ArgMatches c.in_ok-matches.matches).subcommand (λ b. (out-SubCommand (box_value b)).name.now)
    (λ b. rows_of (found_of (out-SubCommand (box_value b)).matches)) name rows
    (sym c.subcommand.ensures.name ∙ ap (option_map (λ p. p.0.now)) c.in-Some.is)
    (sym c.subcommand.ensures.rows ∙ ap (option_map (λ p. rows_of (found_of p.1.now))) c.in-Some.is) in
    let reading = ap (λ (a : App). subcommand_of a words) (sym built) ∙ sym found.1 ∙ entered in
    let passed = ap (λ (a : App). fault_of a words) (sym built) ∙ c.in_ok-matches.ensures.kinds (ap is_simple_and_free built ∙ program_is_free) in
    IfErr-weaker c.whole_line.result _ _ (λ fault lacks. inr (λ said h. lacks said (named_by words name rows said some reading h))) c.whole_line.ensures.lacks

pub returns-clause-fault : goal.returns-clause-fault
returns-clause-fault g c =
    let words = map g.S.AsStr.text c.args.words.now in
    let some = some_said g.S.AsStr.text c.args.words.now (sym c.is_empty.ensures ∙ c.if-is_empty.false) in
    let name = c.in-Some.name.now in
    let rows = rows_of (found_of c.in-Some.options.now) in
    let built = c.in_ok-program.ensures in
    let found = c.in_ok-matches.ensures.matches (ap is_simple built ∙ program_is_simple) in
    let entered = both_parts (out-ArgMatches c.in_ok-matches.matches).subcommand (λ b. (out-SubCommand (box_value b)).name.now)
    (λ b. rows_of (found_of (out-SubCommand (box_value b)).matches)) name rows
    (sym c.subcommand.ensures.name ∙ ap (option_map (λ p. p.0.now)) c.in-Some.is)
    (sym c.subcommand.ensures.rows ∙ ap (option_map (λ p. rows_of (found_of p.1.now))) c.in-Some.is) in
    let reading = ap (λ (a : App). subcommand_of a words) (sym built) ∙ sym found.1 ∙ entered in
    let passed = ap (λ (a : App). fault_of a words) (sym built) ∙ c.in_ok-matches.ensures.kinds (ap is_simple_and_free built ∙ program_is_free) in
    IfErr-weaker c.whole_line.result _ _ (λ fault h. inr (option_fault words name rows fault (found_in words name rows some passed reading) h)) c.whole_line.ensures.fault

pub returns-in_err-matches-clause-fault : goal.returns-in_err-matches-clause-fault
returns-in_err-matches-clause-fault g c =
    let words = map g.S.AsStr.text c.args.words.now in
    let built = c.in_ok-program.ensures in
    let kinds = c.in_err-matches.ensures.kinds (ap is_simple_and_free built ∙ program_is_free) in
    told c.from_residual-in_err-matches.result _ _ (λ fault is. words_refused words c.in_err-matches.field-0.0 fault
    (subst (λ (a : App). HasKind (fault_of a words) c.in_err-matches.field-0.0) built kinds) is)
    c.from_residual-in_err-matches.ensures.1

pub returns-in_err-matches-clause-refused : goal.returns-in_err-matches-clause-refused
returns-in_err-matches-clause-refused g c =
    let words = map g.S.AsStr.text c.args.words.now in
    let some = some_said g.S.AsStr.text c.args.words.now (sym c.is_empty.ensures ∙ c.if-is_empty.false) in
    let built = c.in_ok-program.ensures in
    let kinds = c.in_err-matches.ensures.kinds (ap is_simple_and_free built ∙ program_is_free) in
    let passes = λ (said : CommandLine) (h : IsCommandLineOf words said). ap (λ (a : App). fault_of a words) built ∙ (found_by words said some h).0 in
    told c.from_residual-in_err-matches.result _ _ (λ fault is. refusal words c.in_err-matches.field-0.0 fault (fault_of (app_of c.in_ok-program.field-0) words) kinds passes is)
    c.from_residual-in_err-matches.ensures.1
