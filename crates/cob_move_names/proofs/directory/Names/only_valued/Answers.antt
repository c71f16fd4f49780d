use Rattle.std.proofs.Common.{◌≡◌, ◌∷◌, [], map}
use Rattle.std.proofs.lemmas.Result.{IfErr-weaker, IfOk-weaker}
use Rattle.cob_copybook_clauses.specs.Written.{names_behind}
use Rattle.cob_source.specs.Tokens.{lexemes}
use Rattle.cob_copybook_names.specs.Listed.{seen}
use Rattle.cob_copybook_names.specs.Naming.{IsNameFault, named}
use Rattle.cob_copybook_names.proofs.Namings.{known_fault, known_one}
use Rattle.cob_move_names.specs.Listed.{listed_valued_entry, valued_of}
use Rattle.cob_move_names.proofs.directory.Names.only_valued.Goals as goal

pub returns-clause-found : goal.returns-clause-found
returns-clause-found c =
    let bs = c.args.self.now.values.bearers.items in
    let name = c.args.name.now in
    let qualifiers = names_behind (lexemes c.args.qualifiers.now) in
    IfOk-weaker c.only_named.result (λ b. named name qualifiers (map seen bs) ≡ seen b.now ∷ []) (λ b. named name qualifiers (map valued_of bs) ≡ valued_of b.now ∷ [])
    (λ b is. known_one listed_valued_entry name qualifiers bs b.now is) c.only_named.ensures.found

pub returns-clause-fault : goal.returns-clause-fault
returns-clause-fault c =
    let bs = c.args.self.now.values.bearers.items in
    let name = c.args.name.now in
    let qualifiers = names_behind (lexemes c.args.qualifiers.now) in
    IfErr-weaker c.only_named.result (λ fault. IsNameFault fault (named name qualifiers (map seen bs))) (λ fault. IsNameFault fault (named name qualifiers (map valued_of bs)))
    (λ fault is. known_fault listed_valued_entry name qualifiers bs fault is) c.only_named.ensures.fault
