use Rattle.cob_copybook.proofs.NoRule.{book_breaks_no_rule}
use Rattle.cob_copybook.proofs.laws.book_breaks_no_rule.Goals as goal

pub returns : goal.returns
returns c =
    book_breaks_no_rule c.words_are_one.ensures c.words_break_no_rule.ensures c.one_list_of_entries.ensures c.entries_break_no_rule.ensures c.one_tree.ensures c.breaks_no_rule.ensures
    c.one_list_of_counts.ensures c.breaks_no_length_rule.ensures
