use Rattle.std.proofs.Common.{map, subst}
use Rattle.cob_copybook_clauses.specs.Written.{names_behind}
use Rattle.cob_source.specs.Tokens.{lexemes}
use Rattle.cob_copybook_names.specs.declared.fault.NameFault.{NameFault}
use Rattle.cob_copybook_names.specs.Naming.{IsNameFault, named}
use Rattle.cob_copybook_names.proofs.Namings.{known_fault, known_one}
use Rattle.cob_move_names.specs.Listed.{candidate_of, listed_record_entry}
use Rattle.cob_move_names.proofs.directory.Names.only_named.Goals as goal

pub returns-in-Ok-clause-found : goal.returns-in-Ok-clause-found
returns-in-Ok-clause-found c = known_one listed_record_entry c.args.name.now (names_behind (lexemes c.args.qualifiers.now)) c.args.self.now.directory.bearers.items c.in-Ok.bearer.now c.in-Ok.ensures.found

pub returns-in-Err-Unknown-clause-fault : goal.returns-in-Err-Unknown-clause-fault
returns-in-Err-Unknown-clause-fault c =
    let bs = c.args.self.now.directory.bearers.items in
    let qualifiers = names_behind (lexemes c.args.qualifiers.now) in
    subst (λ (fault : NameFault). IsNameFault fault (named c.args.name.now qualifiers (map candidate_of bs))) c.in-Err-Unknown.field-0-is
    (known_fault listed_record_entry c.args.name.now qualifiers bs c.in-Err-Unknown.field-0 c.in-Err-Unknown.ensures.fault)

pub returns-in-Err-Ambiguous-clause-fault : goal.returns-in-Err-Ambiguous-clause-fault
returns-in-Err-Ambiguous-clause-fault c =
    let bs = c.args.self.now.directory.bearers.items in
    let qualifiers = names_behind (lexemes c.args.qualifiers.now) in
    subst (λ (fault : NameFault). IsNameFault fault (named c.args.name.now qualifiers (map candidate_of bs))) c.in-Err-Ambiguous.field-0-is
    (known_fault listed_record_entry c.args.name.now qualifiers bs c.in-Err-Ambiguous.field-0 c.in-Err-Ambiguous.ensures.fault)
