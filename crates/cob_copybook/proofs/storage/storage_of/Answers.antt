use Rattle.std.proofs.Common.{sym, ◌∙◌, subst, [], ◌∷◌}
use Rattle.std.specs.Prelude.{None}
use Rattle.std.proofs.lemmas.Result.{err_from_is_err_and}
use Rattle.cob_copybook_tree.specs.Branches.{forest_of}
use Rattle.cob_copybook_rules.specs.Areas.{ArePossible}
use Rattle.cob_copybook.proofs.storage.storage_of.Goals as goal
use Rattle.cob_copybook.proofs.Storages.{possible, same_record, unfit}

pub returns-in_err-counts-clause-only : goal.returns-in_err-counts-clause-only
returns-in_err-counts-clause-only c = λ t stored.
    let p = err_from_is_err_and c.from_residual.result c.from_residual.ensures.1 in
    rw (p.1, p.2) (tt, (c.in_err-counts.ensures.only stored.counts stored.counted).1)

pub judge_lengths-requires : goal.judge_lengths-requires
judge_lengths-requires c = record { possible = subst ArePossible (sym c.in_ok-record.ensures) (possible c.deref.result.now 0 0 None None (forest_of (c.args.tree.now ∷ [])) c.requires.agree.tables c.requires.agree.filled) }

pub returns-in_err-judge_lengths-clause-only : goal.returns-in_err-judge_lengths-clause-only
returns-in_err-judge_lengths-clause-only c = λ t stored.
    let same = c.deref.ensures.value ∙ (c.in_ok-counts.ensures.only stored.counts stored.counted).0 in
    absurd (unfit c.breaks_no_length_rule.ensures _ _ t _ stored (same_record c.deref.result.now _ t _ stored same c.in_ok-record.ensures) c.in_err-judge_lengths.ensures.broken)

pub returns-clause-only : goal.returns-clause-only
returns-clause-only c = λ t stored.
    let same = c.deref.ensures.value ∙ (c.in_ok-counts.ensures.only stored.counts stored.counted).0 in
    (same_record c.deref.result.now _ t _ stored same c.in_ok-record.ensures, tt)
