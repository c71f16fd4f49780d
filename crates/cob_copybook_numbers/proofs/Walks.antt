-- That condition-names belong to the entries that have their numbers.
use Rattle.std.proofs.Common.{◌≡◌, ℕ, ◌+◌, ◌==◌, if◌then◌else◌, Bool, true, false, List, [], ◌∷◌, refl, sym, subst, ap, ◌∙◌}
use Rattle.cob_source.specs.Tokens.{Lexeme}
use Rattle.cob_source.specs.Words.{WordsAreOne}
use Rattle.cob_copybook_clauses.specs.Entries.{is_condition, sentences}
use Rattle.cob_copybook_entry.specs.Described.{PlainEntry}
use Rattle.cob_copybook_entries.specs.Books.{AreDescribed, AreEntriesOf, BeginsWithData, IsEntry, IsSentence}
use Rattle.cob_copybook_entries.specs.Laws.{OneListOfEntries}
use Rattle.cob_copybook_conditions.specs.Names.{AreNamesBehind, AreNamesIn, PlainConditionName, first_number, last_entry_by}
use Rattle.cob_copybook_tree.specs.Forests.{flat}
use Rattle.cob_copybook_tree.specs.Nodes.{Resolved}
use Rattle.cob_copybook.specs.declared.role.Role.{Role}
use Rattle.cob_copybook.specs.Books.{implied, with_record}
use Rattle.cob_copybook_numbers.specs.Numbers.{AreNumberedInOrder}
use Rattle.cob_copybook_numbers.specs.Belonging.{AreNamesOf, AreNamesOfTree, IsFirstSentence, IsLastBehind}
use Rattle.cob_copybook_numbers.specs.Laws.{NamesOfEntries}
use Rattle.cob_copybook_numbers.proofs.Orders.{book_in_order}

-- where a sentence leads: to the last entry then, those behind it, and its number
record Step (b : Bool) (s : List Lexeme) (last : Resolved) (rest : List Resolved) (n : ℕ) (more : List PlainEntry) : Type 0 where
  now : Resolved
  others : List Resolved
  is : IsLastBehind b s last rest now others
  number : now.number ≡ last_entry_by b n
  order : AreNumberedInOrder (last_entry_by b n + 1) more others

entry_step : (s : List Lexeme) (last : Resolved) (rest : List Resolved) (n : ℕ) (d : PlainEntry) (more : List PlainEntry) → IsEntry s d → AreNumberedInOrder (n + 1) (d ∷ more) rest → Step false s last rest n more
entry_step s last [] n d more is order = absurd order
entry_step s last (e ∷ others) n d more is order = record { now = e; others = others; is = ((d, is, order.1), refl); number = order.0; order = order.2 }

step : (b : Bool) (s : List Lexeme) (last : Resolved) (rest : List Resolved) (n : ℕ) (ds more : List PlainEntry) → last.number ≡ n → IsSentence b s ds more → AreNumberedInOrder (n + 1) ds rest
    → Step b s last rest n more
step true s last rest n ds more number is order = record {
  now = last;
  others = rest;
  is = (refl, refl);
  number = number;
  order = subst (λ (xs : List PlainEntry). AreNumberedInOrder (n + 1) xs rest) is.1 order;
}
step false s last rest n ds more number (d, is, e) order = entry_step s last rest n d more is (subst (λ (xs : List PlainEntry). AreNumberedInOrder (n + 1) xs rest) e order)

none_left : (n : ℕ) (ds : List PlainEntry) (rest : List Resolved) → ds ≡ [] → AreNumberedInOrder n ds rest → rest ≡ []
none_left n [] [] e h = refl
none_left n [] (x ∷ rest) e h = absurd h
none_left n (d ∷ ds) rest e h = absurd cc

walk : (ss : List (List Lexeme)) (last : Resolved) (rest : List Resolved) (n : ℕ) (ds : List PlainEntry) (ns : List PlainConditionName)
    → last.number ≡ n → AreDescribed ss ds → AreNumberedInOrder (n + 1) ds rest → AreNamesBehind n ss ns → AreNamesOf last ss rest ns
walk [] last rest n ds ns number described order names = (none_left (n + 1) ds rest described order, names)
walk (s ∷ ss) last rest n ds ns number (none, (others, is, described)) order (said, more, says, names, e) =
    let to = step (is_condition s) s last rest n ds others number is order in (
      said,
      to.now,
      to.others,
      more,
      rw number says,
      to.is,
      walk ss to.now to.others (last_entry_by (is_condition s) n) others more to.number described to.order names,
      e,
    )

-- ---- the first sentence

first_walk : (b : Bool) (role : Role) (s : List Lexeme) (ss : List (List Lexeme)) (d : PlainEntry) (more : List PlainEntry) (es : List Resolved) (ns : List PlainConditionName)
    → d.level == 1 ≡ b → IsEntry s d → AreDescribed ss more → AreNumberedInOrder 0 (if b then d ∷ more else implied role ∷ d ∷ more) es → AreNamesBehind (if b then 0 else 1) ss ns
    → AreNamesOfTree (s ∷ ss) es ns
first_walk true role s ss d more [] ns level is described order names = absurd order
first_walk true role s ss d more (e ∷ others) ns level is described order names = (
  e,
  others,
  (d, is, order.1),
  subst (λ (b : Bool). IsFirstSentence b (e ∷ others) e others) (sym (ap (λ (l : ℕ). l == 1) order.1.level ∙ level)) refl,
  walk ss e others 0 more ns order.0 described order.2 names,
)
first_walk false role s ss d more [] ns level is described order names = absurd order
first_walk false role s ss d more (r ∷ []) ns level is described order names = absurd order.2
first_walk false role s ss d more (r ∷ e ∷ others) ns level is described order names = (
  e,
  others,
  (d, is, order.2.1),
  subst (λ (b : Bool). IsFirstSentence b (r ∷ e ∷ others) e others) (sym (ap (λ (l : ℕ). l == 1) order.2.1.level ∙ level)) (r, refl),
  walk ss e others 1 more ns order.2.0 described order.2.2 names,
)

all_walk : (role : Role) (ss : List (List Lexeme)) (ds : List PlainEntry) (es : List Resolved) (ns : List PlainConditionName)
    → BeginsWithData ss → AreDescribed ss ds → AreNumberedInOrder 0 (with_record role ds) es → AreNamesIn (first_number ds) ss ns → AreNamesOfTree ss es ns
all_walk role [] ds es ns begins described order names = absurd begins
all_walk role (s ∷ ss) ds es ns begins (none, (more, is, described)) order names =
    let (d, entry, e) : (d : PlainEntry) × IsEntry s d × (ds ≡ d ∷ more) = subst (λ (b : Bool). IsSentence b s ds more) begins is in
    first_walk (d.level == 1) role s ss d more es ns refl entry described (subst (λ (xs : List PlainEntry). AreNumberedInOrder 0 (with_record role xs) es) e order)
    (subst (λ (xs : List PlainEntry). AreNamesBehind (first_number xs) ss ns) e names)

-- ---- the text

pub names_belong : WordsAreOne → OneListOfEntries → NamesOfEntries
names_belong one one_list role text t ns is has =
    let words : is.has.words ≡ has.words = one text is.has.words has.words is.has.are_words has.are_words in
    let here : AreEntriesOf has.words is.has.entries = subst (λ (ws : List Lexeme). AreEntriesOf ws is.has.entries) words is.has.are_entries in
    let entries : is.has.entries ≡ has.entries = one_list has.words is.has.entries has.entries here has.are_entries in
    let order : AreNumberedInOrder 0 (with_record role has.entries) (flat t) =
    subst (λ (ds : List PlainEntry). AreNumberedInOrder 0 ds (flat t)) (is.has.with ∙ ap (with_record role) entries) (book_in_order role text t is) in
    record {
      words = has.words;
      are_words = has.are_words;
      said = all_walk role (sentences has.words).ended has.entries (flat t) ns has.are_entries.begins has.are_entries.entries order has.said;
    }
