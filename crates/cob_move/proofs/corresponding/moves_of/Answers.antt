use Rattle.std.proofs.Common.{List, subst}
use Rattle.std.proofs.lemmas.Result.{err_from_is_err_and}
use Rattle.cob_move_data.specs.Moves.{Records}
use Rattle.cob_copybook_tree.specs.Nodes.{tree_of}
use Rattle.cob_move_names.specs.Candidates.{Candidate}
use Rattle.cob_move_names.specs.Directory.{entries_named}
use Rattle.cob_move_statements.specs.Written.{WrittenReference, written_reference}
use Rattle.cob_move_tests.specs.Entries.{records_of}
use Rattle.cob_move.specs.Meaning.{AreGroupsOf}
use Rattle.cob_move.proofs.CorrespondingLemmas.{meant, meant_fault}
use Rattle.cob_move.proofs.MoveLemmas.{AreGiven, group_moves}
use Rattle.cob_move.proofs.corresponding.moves_of.Goals as goal

pub returns-in_err-list-clause-fault : goal.returns-in_err-list-clause-fault
returns-in_err-list-clause-fault c =
    let p = err_from_is_err_and c.from_residual-in_err-list.result c.from_residual-in_err-list.ensures.1 in
    rw (p.1, p.2)
    (meant_fault c.in_err-list.field-0.0 (records_of c.args.entries.now) (entries_named c.args.entries.now.names.now) (written_reference c.args.from.now) (written_reference c.args.to.now) c.in_ok-groups.groups
    (tree_of c.args.pairs.now.input.now) (tree_of c.args.pairs.now.output.now) c.requires.pairs.input c.requires.pairs.output c.in_ok-groups.ensures.found c.in_err-list.ensures.fault)

pub returns-clause-found : goal.returns-clause-found
returns-clause-found c =
    let r : Records = records_of c.args.entries.now in
    let all : List Candidate = entries_named c.args.entries.now.names.now in
    let from : WrittenReference = written_reference c.args.from.now in
    let to : WrittenReference = written_reference c.args.to.now in
    let given : AreGiven r = record {
      input = c.greatest.ensures.record;
      output = c.greatest-2.ensures.record;
      named = c.named_are_operands.ensures;
      below = c.subordinates_are_operands.ensures;
      sound = c.records_are_sound.ensures;
    } in
    meant r all from to c.in_ok-groups.groups c.in_ok-list.list (tree_of c.args.pairs.now.input.now) (tree_of c.args.pairs.now.output.now) c.requires.pairs.input c.requires.pairs.output
    c.in_ok-groups.ensures.found
    (group_moves r given from to c.in_ok-groups.groups (subst (λ (cs : List Candidate). AreGroupsOf cs from to c.in_ok-groups.groups) c.requires.named c.in_ok-groups.ensures.found))
    c.in_ok-list.ensures.kept c.in_ok-list.ensures.once c.in_ok-list.ensures.allowed
