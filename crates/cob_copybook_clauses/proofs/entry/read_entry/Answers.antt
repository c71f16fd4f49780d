use Rattle.std.proofs.Common.{sym, subst, List, ◌++◌, option_map}
use Rattle.cob_source.specs.Tokens.{Lexeme}
use Rattle.cob_copybook_clauses.specs.Written.{written_clauses}
use Rattle.cob_copybook_clauses.specs.Entries.{SaysClauses, bare}
use Rattle.cob_copybook_clauses.proofs.EntryLemmas.{says_first, same_entry}
use Rattle.cob_copybook_clauses.proofs.entry.read_entry.Goals as goal

pub returns-in_err-level-clause-only : goal.returns-in_err-level-clause-only
returns-in_err-level-clause-only c = λ e is. absurd (c.in_err-level.ensures.only e.level is.level (is.names ++ is.more) is.level_is is.words)

pub returns-in_err-name-clause-only : goal.returns-in_err-name-clause-only
returns-in_err-name-clause-only c = λ e is.
    let head = c.in_ok-level.ensures.only e.level is.level (is.names ++ is.more) is.level_is is.words in
    absurd (c.in_err-name.ensures.only e.name is.names is.more is.named (says_first is.says) head.1)

pub returns-in_err-clauses-clause-only : goal.returns-in_err-clauses-clause-only
returns-in_err-clauses-clause-only c = λ e is.
    let head = c.in_ok-level.ensures.only e.level is.level (is.names ++ is.more) is.level_is is.words in
    let named = c.in_ok-name.ensures.only e.name is.names is.more is.named (says_first is.says) head.1 in
    absurd (c.in_err-clauses.ensures.only e.clauses (subst (λ (ws : List Lexeme). SaysClauses ws bare e.clauses) (sym named.1) is.says))

pub returns-clause-only : goal.returns-clause-only
returns-clause-only c = λ e is.
    let head = c.in_ok-level.ensures.only e.level is.level (is.names ++ is.more) is.level_is is.words in
    let named = c.in_ok-name.ensures.only e.name is.names is.more is.named (says_first is.says) head.1 in
    let said = c.in_ok-clauses.ensures.only e.clauses (subst (λ (ws : List Lexeme). SaysClauses ws bare e.clauses) (sym named.1) is.says) in
    same_entry e c.in_ok-level.level.now (option_map (λ b. b.now) c.in_ok-name.name) (written_clauses c.in_ok-clauses.clauses) head.0 named.0 said
