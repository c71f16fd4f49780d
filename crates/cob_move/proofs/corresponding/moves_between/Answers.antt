use Rattle.std.proofs.Common.{◌≡◌, ◌∙◌, List, ap, inl, map, refl, subst}
use Rattle.std.proofs.lemmas.Result.{err_from_is_err_and}
use Rattle.cob_copybook_tree.specs.Forests.{Forest}
use Rattle.cob_copybook_tree.specs.Nodes.{Resolved, tree_of}
use Rattle.cob_move_names.specs.Between.{ends, ends_of}
use Rattle.cob_move_names.specs.Pairs.{AreOnce, Pair}
use Rattle.cob_move.specs.declared.corresponding.TwoGroups.{TwoGroups}
use Rattle.cob_move.specs.Meaning.{pairs_of}
use Rattle.cob_move.proofs.CorrespondingLemmas.{allowed_pairs, broken_pairs, moved_pairs, same_numbers}
use Rattle.cob_move.proofs.corresponding.moves_between.Goals as goal

pub returns-in_err-find-clause-fault : goal.returns-in_err-find-clause-fault
returns-in_err-find-clause-fault c =
    let p = err_from_is_err_and c.from_residual.result c.from_residual.ensures.1 in
    rw (p.1, p.2) (inl c.in_err-find.ensures.fault)

pub returns-in_err-numbers-clause-fault : goal.returns-in_err-numbers-clause-fault
returns-in_err-numbers-clause-fault c =
    let g : TwoGroups = c.args.groups in
    let i : Forest Resolved = tree_of c.args.pairs.now.input.now in
    let o : Forest Resolved = tree_of c.args.pairs.now.output.now in
    let same : pairs_of (tree_of c.find.new.self.input.now) (tree_of c.find.new.self.output.now) g ≡ pairs_of i o g =
    moved_pairs g i o (tree_of c.find.new.self.input.now) (tree_of c.find.new.self.output.now) (ap (λ n. tree_of n.now) c.find.ensures.input) (ap (λ n. tree_of n.now) c.find.ensures.output) in
    let found : map ends c.between.result.now ≡ map ends_of (pairs_of i o g) = c.between.ensures.pairs ∙ ap (λ (ps : List Pair). map ends_of ps) same in
    let p = err_from_is_err_and c.from_residual-in_err-numbers.result c.from_residual-in_err-numbers.ensures.1 in
    rw (p.1, p.2) (broken_pairs c.in_err-numbers.field-0.0 (map ends c.between.result.now) (pairs_of i o g) found c.in_err-numbers.ensures.fault)

pub returns-clause-kept : goal.returns-clause-kept
returns-clause-kept c =
    let g : TwoGroups = c.args.groups in
    let i : Forest Resolved = tree_of c.args.pairs.now.input.now in
    let o : Forest Resolved = tree_of c.args.pairs.now.output.now in
    let same : pairs_of (tree_of c.find.new.self.input.now) (tree_of c.find.new.self.output.now) g ≡ pairs_of i o g =
    moved_pairs g i o (tree_of c.find.new.self.input.now) (tree_of c.find.new.self.output.now) (ap (λ n. tree_of n.now) c.find.ensures.input) (ap (λ n. tree_of n.now) c.find.ensures.output) in
    let found : map ends c.between.result.now ≡ map ends_of (pairs_of i o g) = c.between.ensures.pairs ∙ ap (λ (ps : List Pair). map ends_of ps) same in
    (refl, refl, refl, c.in_ok-numbers.ensures.numbers ∙ same_numbers (map ends c.between.result.now) (pairs_of i o g) found)

pub returns-clause-once : goal.returns-clause-once
returns-clause-once c =
    let g : TwoGroups = c.args.groups in
    let i : Forest Resolved = tree_of c.args.pairs.now.input.now in
    let o : Forest Resolved = tree_of c.args.pairs.now.output.now in
    let same : pairs_of (tree_of c.find.new.self.input.now) (tree_of c.find.new.self.output.now) g ≡ pairs_of i o g =
    moved_pairs g i o (tree_of c.find.new.self.input.now) (tree_of c.find.new.self.output.now) (ap (λ n. tree_of n.now) c.find.ensures.input) (ap (λ n. tree_of n.now) c.find.ensures.output) in
    subst (λ (ps : List Pair). AreOnce ps) same c.between.ensures.once

pub returns-clause-allowed : goal.returns-clause-allowed
returns-clause-allowed c =
    let g : TwoGroups = c.args.groups in
    let i : Forest Resolved = tree_of c.args.pairs.now.input.now in
    let o : Forest Resolved = tree_of c.args.pairs.now.output.now in
    let same : pairs_of (tree_of c.find.new.self.input.now) (tree_of c.find.new.self.output.now) g ≡ pairs_of i o g =
    moved_pairs g i o (tree_of c.find.new.self.input.now) (tree_of c.find.new.self.output.now) (ap (λ n. tree_of n.now) c.find.ensures.input) (ap (λ n. tree_of n.now) c.find.ensures.output) in
    let found : map ends c.between.result.now ≡ map ends_of (pairs_of i o g) = c.between.ensures.pairs ∙ ap (λ (ps : List Pair). map ends_of ps) same in
    allowed_pairs g (map ends c.between.result.now) (pairs_of i o g) found c.in_ok-numbers.ensures.allowed
