-- A text that is a record description breaks no rule of copybooks, each rule by itself.
use Rattle.std.proofs.Common.{◌≡◌, sym, subst, ap, ◌∙◌, ℕ, List, inl, inr, refl}
use Rattle.std.specs.Prelude.{Option, None}
use Rattle.cob_source.specs.Tokens.{Lexeme}
use Rattle.cob_source.specs.declared.token.Cutting.TheVariants.{Whole}
use Rattle.cob_source.specs.Words.{WordsAreOne, WordsBreakNoRule}
use Rattle.cob_copybook_entry.specs.Described.{PlainEntry}
use Rattle.cob_copybook_entries.specs.Books.{AreEntriesOf, BreaksEntryRule}
use Rattle.cob_copybook_entries.specs.Laws.{OneListOfEntries, EntriesBreakNoRule}
use Rattle.cob_copybook_entry.specs.declared.fault.BookRule.{BookRule}
use Rattle.cob_copybook_entry.specs.declared.fault.BookRule.TheVariants as rule
use Rattle.cob_copybook_tree.specs.Forests.{Forest}
use Rattle.cob_copybook_tree.specs.Nodes.{Resolved}
use Rattle.cob_copybook_tree.specs.Resolving.{resolved}
use Rattle.cob_copybook_tree.specs.Laws.{OneTree}
use Rattle.cob_copybook_rules.specs.Rules.{AgreeingBreaksNoRule}
use Rattle.cob_copybook_names.specs.Counts.{AreCountsOfTables}
use Rattle.cob_copybook_rules.specs.LengthRules.{BreaksLengthRule as BreaksLengths, FitBreaksNone}
use Rattle.cob_copybook.specs.declared.role.Role.{Role}
use Rattle.cob_copybook.specs.Records.{IsStored, IsRecordOf, BreaksTree, BreaksStorage, BreaksRecord}
use Rattle.cob_copybook.specs.Books.{HasEntries, BreaksText, IsTextRefusal, IsMemory, with_record}
use Rattle.cob_copybook.specs.Laws.{BookBreaksNoRule}
use Rattle.cob_copybook.proofs.Texts.{memory}
use Rattle.cob_copybook.proofs.Trees.{disagrees}
use Rattle.cob_copybook.proofs.Storages.{same_record, unfit}

-- a record has its counts in one way
abbrev pub OneListOfCounts : Type 0
OneListOfCounts = (t : Forest PlainEntry) (a b : List (Option ℕ)) → AreCountsOfTables t a → AreCountsOfTables t b → a ≡ b

-- ---- the text and its words

words_keep : WordsAreOne → EntriesBreakNoRule → (role : Role) (text : List ℕ) (ds : List PlainEntry) (r : BookRule) → HasEntries role text ds → BreaksText r text → IsMemory r
words_keep one none role text ds r has (words, are, breaks) =
    let here : BreaksEntryRule r has.words = subst (BreaksEntryRule r) (one text words has.words are has.are_words) breaks in
    memory r (none has.words has.entries r has.are_entries here)

text_keeps : WordsAreOne → WordsBreakNoRule → EntriesBreakNoRule → (role : Role) (text : List ℕ) (ds : List PlainEntry) (r : BookRule) (line : ℕ) → HasEntries role text ds → IsTextRefusal r line text → IsMemory r
text_keeps one fit none role text ds (rule.Source s) line has h = absurd (h.0 (fit Whole text has.words s line has.are_words h.1))
text_keeps one fit none role text ds rule.Memory line has h = tt
text_keeps one fit none role text ds r line has h = words_keep one none role text ds r has h

-- ---- the tree of the entries

level_keeps : OneTree → AgreeingBreaksNoRule → (ds : List PlainEntry) (t : Forest Resolved) → IsRecordOf ds t → BreaksTree rule.Level ds → ⊥
level_keeps one none ds t is (inl levels) = levels is.stands.levels
level_keeps one none ds t is (inr (u, stands, breaks)) = disagrees one none ds u is.written rule.Level stands is.stands breaks is.agree

tree_keeps : OneTree → AgreeingBreaksNoRule → (ds : List PlainEntry) (t : Forest Resolved) (r : BookRule) → IsRecordOf ds t → BreaksTree r ds → ⊥
tree_keeps one none ds t rule.Level is breaks = level_keeps one none ds t is breaks
tree_keeps one none ds t r is breaks = disagrees one none ds breaks.0 is.written r breaks.1 is.stands breaks.2 is.agree

-- ---- its counts and lengths

lengths_keep : OneListOfCounts → FitBreaksNone → (written : Forest PlainEntry) (t : Forest Resolved) (r : BookRule) → IsStored written t
    → (counts : List (Option ℕ)) × AreCountsOfTables written counts × BreaksLengths r (resolved counts 0 None None written) → ⊥
lengths_keep one none written t r stored (counts, counted, breaks) =
    let same : counts ≡ stored.counts = one written counts stored.counts counted stored.counted in
    let u : Forest Resolved = resolved counts 0 None None written in
    unfit none r written t u stored (same_record counts written t u stored same refl) breaks

storage_keeps : OneListOfCounts → FitBreaksNone → (written : Forest PlainEntry) (t : Forest Resolved) (r : BookRule) → IsStored written t → BreaksStorage r written → ⊥
storage_keeps one none written t rule.Count stored breaks = breaks stored.counts stored.counted
storage_keeps one none written t r stored breaks = lengths_keep one none written t r stored breaks

-- ---- the entries

-- a text has its entries in one way
same_entries : WordsAreOne → OneListOfEntries → (role : Role) (text : List ℕ) (a b : List PlainEntry) → HasEntries role text a → HasEntries role text b → a ≡ b
same_entries one one_list role text a b h k =
    let words : h.words ≡ k.words = one text h.words k.words h.are_words k.are_words in
    let here : AreEntriesOf k.words h.entries = subst (λ (ws : List Lexeme). AreEntriesOf ws h.entries) words h.are_entries in
    h.with ∙ ap (with_record role) (one_list k.words h.entries k.entries here k.are_entries) ∙ sym k.with

record_keeps : OneTree → AgreeingBreaksNoRule → OneListOfCounts → FitBreaksNone → (ds : List PlainEntry) (t : Forest Resolved) (r : BookRule) → IsRecordOf ds t → BreaksRecord r ds → ⊥
record_keeps one_tree agree one_count fit ds t r is (inl breaks) = tree_keeps one_tree agree ds t r is breaks
record_keeps one_tree agree one_count fit ds t r is (inr (u, stands, breaks)) =
    let here : BreaksStorage r is.written = subst (BreaksStorage r) (one_tree ds u is.written stands is.stands) breaks in
    storage_keeps one_count fit is.written t r is.stored here

-- ---- the book

pub book_breaks_no_rule : WordsAreOne → WordsBreakNoRule → OneListOfEntries → EntriesBreakNoRule → OneTree → AgreeingBreaksNoRule → OneListOfCounts → FitBreaksNone → BookBreaksNoRule
book_breaks_no_rule one fit one_list none one_tree agree one_count lengths role text t r line book (inl h) = text_keeps one fit none role text book.entries r line book.has h
book_breaks_no_rule one fit one_list none one_tree agree one_count lengths role text t r line book (inr (ds, has, breaks)) =
    let here : BreaksRecord r book.entries = subst (BreaksRecord r) (same_entries one one_list role text ds book.entries has book.has) breaks in
    absurd (record_keeps one_tree agree one_count lengths book.entries t r book.is here)
