-- What is read so far of the sentences, and what is told of them.
use Rattle.std.proofs.Common.{◌≡◌, ℕ, List, [], ◌∷◌, ◌++◌, ◌+◌, ◌-◌, length, drop, refl, sym, ap, ◌∙◌, subst, inl, inr, append_assoc, length-append, arith}
use Rattle.std.proofs.Math.Seq.{drop-append_seam}
use Rattle.std.proofs.lemmas.List.{append-nil, length-map}
use Rattle.std.specs.Prelude.{◌≢◌, IfOk, Result, Ok, Err, Option, Some, None}
use Rattle.std.specs.List.{AllByRecursion}
use Rattle.cob_source.specs.Tokens.{Lexeme, lexeme, lexemes}
use Rattle.cob_source.specs.declared.token.Token.{Token}
use Rattle.cob_source.specs.Words.{AreWordsOf}
use Rattle.cob_copybook_clauses.specs.Entries.{FirstSentence, Sentences, sentences, HasNoStop}
use Rattle.cob_copybook_clauses.proofs.CutLemmas.{ends}
use Rattle.cob_copybook_entry.specs.declared.fault.BookFault.{BookFault}
use Rattle.cob_copybook_entry.specs.declared.fault.BookRule.{BookRule}
use Rattle.cob_copybook_entry.specs.declared.fault.BookRule.TheVariants as rule
use Rattle.cob_copybook_entries.specs.Books.{OneBreaks}
use Rattle.cob_copybook_entries.proofs.Reading.{IsFirst}
use Rattle.cob_copybook.specs.Books.{IsBookRefusal, IsMemory, IsTextRefusal}
use Rattle.cob_copybook.specs.declared.role.Role.{Role}
use Rattle.cob_report_refusals.specs.declared.refusal.Refusal.{Refusal}
use Rattle.cob_report_refusals.specs.Refused.{AreRefusals, BeginWith, BreaksByItself, HasBrokenEntry, IsBrokenEntry, IsEntryBehind, IsOfSentences, IsRefusedText}

-- these words are left: what the rest breaks, all break
pub record Walked (words rest : List Lexeme) : Type 0 where
  pub left : (sentences words).open_end ≡ (sentences rest).open_end
  pub breaks : (r : BookRule) → OneBreaks r (sentences rest).ended → OneBreaks r (sentences words).ended

pub starts : (words : List Lexeme) → Walked words words
starts words = record { left = refl; breaks = λ r h. h }

pub goes_on : (words rest s behind : List Lexeme) → Walked words rest → IsFirst rest s behind → Walked words behind
goes_on words rest s behind far is = record {
  left = far.left ∙ is.1;
  breaks = λ r later. far.breaks r (subst (OneBreaks r) (sym (is.0)) (inr later));
}

-- what one of the sentences breaks, a text with these words breaks
told_by : (r : BookRule) (line : ℕ) (text : List ℕ) (words : List Lexeme) → AreWordsOf text words → IsOfSentences r → OneBreaks r (sentences words).ended → IsTextRefusal r line text
told_by (rule.Source f) line text words are is h = absurd is
told_by rule.NoEntry line text words are is h = absurd is
told_by rule.Grammar line text words are is h = (words, are, inr (inr h))
told_by rule.Level line text words are is h = absurd is
told_by (rule.Picture f) line text words are is h = (words, are, h)
told_by rule.Usage line text words are is h = absurd is
told_by rule.Sign line text words are is h = absurd is
told_by rule.Redefinition line text words are is h = absurd is
told_by rule.Table line text words are is h = (words, are, h)
told_by rule.Count line text words are is h = absurd is
told_by rule.Value line text words are is h = (words, are, h)
told_by rule.Placement line text words are is h = absurd is
told_by (rule.LeftOut word) line text words are is h = (words, are, h)
told_by rule.Name line text words are is h = (words, are, h)
told_by rule.TooLong line text words are is h = absurd is
told_by rule.TooMany line text words are is h = absurd is
told_by rule.Memory line text words are is h = absurd is

-- so many words stand before these
pub record StandsBefore (n : ℕ) (words rest : List Lexeme) : Type 0 where
  pub front : List Lexeme
  pub are : words ≡ front ++ rest
  pub number : n ≡ length front

pub none_before : (words : List Lexeme) → StandsBefore 0 words words
none_before words = record { front = []; are = refl; number = refl }

-- a sentence and its Stop more stand before the rest
pub more_before : (n m : ℕ) (ws bs : List Token) (rest s : List Lexeme) → StandsBefore n (lexemes ws) rest → FirstSentence s rest (lexemes bs) → m ≡ length ws - length bs → StandsBefore m (lexemes ws) (lexemes bs)
more_before n m ws bs rest s so h count =
    let words = lexemes ws in
    let behind = lexemes bs in
    let own = s ++ h.0 ∷ [] in
    let front = so.front ++ own in
    let e : words ≡ front ++ behind =
    so.are ∙ ap (λ (t : List Lexeme). so.front ++ t) (h.3 ∙ sym (append_assoc s (h.0 ∷ []) behind)) ∙ sym (append_assoc so.front own behind) in
    let total : length words ≡ length front + length behind = ap length e ∙ length-append front behind in
    record { front = front; are = e; number = omega (arith, total, count, length-map ws lexeme, length-map bs lexeme) }

behind_these : (n : ℕ) (words rest : List Lexeme) → StandsBefore n words rest → drop n words ≡ rest
behind_these n words rest so = ap (λ (m : ℕ). drop m words) so.number ∙ ap (drop (length so.front)) so.are ∙ drop-append_seam so.front rest

-- the entry that stands behind so many words
entry_there : (n : ℕ) (words rest s behind : List Lexeme) → StandsBefore n words rest → (h : FirstSentence s rest behind) → IsEntryBehind n (s ++ h.0 ∷ []) words
entry_there n words rest s behind so h =
    (behind, behind_these n words rest so ∙ h.3 ∙ sym (append_assoc s (h.0 ∷ []) behind), inl (s, (h.0, h.1, h.2, refl)))

pub sentence_told : (text : List ℕ) (words rest s behind : List Lexeme) (n : ℕ) (r : Refusal) → Walked words rest → StandsBefore n words rest → FirstSentence s rest behind → IsFirst rest s behind
    → AreWordsOf text words → r.from ≡ Some n → BreaksByItself r.fault.rule s → IsRefusedText text r
sentence_told text words rest s behind n r far so first is are from h = (
  told_by r.fault.rule r.fault.line text words are h.0 (far.breaks r.fault.rule (subst (OneBreaks r.fault.rule) (sym (is.0)) (inl h.1))),
  subst (HasBrokenEntry text r.fault.rule) (sym from) (words, s ++ first.0 ∷ [], are, entry_there n words rest s behind so first, inl (s, (first.0, first.1, first.2, refl), h)),
)

pub first_told : (text : List ℕ) (r : Refusal) (rs all : List Refusal) → all ≡ r ∷ rs → AllByRecursion (IsRefusedText text) all → HasBrokenEntry text r.fault.rule r.from
first_told text r rs all e h = (subst (AllByRecursion (IsRefusedText text)) e h).0.1

-- what an entry breaks of one rule, it breaks of another
pub entry_wider : (text : List ℕ) (r k : BookRule) (o : Option ℕ) → ((own : List Lexeme) → IsBrokenEntry r own → IsBrokenEntry k own) → HasBrokenEntry text r o → HasBrokenEntry text k o
entry_wider text r k None f h = tt
entry_wider text r k (Some n) f h = (h.0, h.1, h.2, h.3, f h.1 h.4)

all_behind : (text : List ℕ) (a b : List Refusal) → AllByRecursion (IsRefusedText text) a → AllByRecursion (IsRefusedText text) b → AllByRecursion (IsRefusedText text) (a ++ b)
all_behind text [] b ha hb = hb
all_behind text (x ∷ a) b ha hb = (ha.0, all_behind text a b ha.1 hb)

-- a refusal with this rule on this line
pub as_told : (r : Refusal) (k : BookRule) (n : ℕ) (text : List ℕ) → r.fault.rule ≡ k → r.fault.line ≡ n → r.from ≡ None → IsTextRefusal k n text → IsRefusedText text r
as_told r k n text same on none h = (
  subst (λ (x : ℕ). IsTextRefusal r.fault.rule x text) (sym on) (subst (λ (x : BookRule). IsTextRefusal x n text) (sym same) h),
  subst (HasBrokenEntry text r.fault.rule) (sym none) tt,
)

-- one more is told
pub all_pushed : (text : List ℕ) (a : List Refusal) (r : Refusal) (items : List Refusal) → items ≡ a ++ r ∷ [] → AllByRecursion (IsRefusedText text) a → IsRefusedText text r → AllByRecursion (IsRefusedText text) items
all_pushed text a r items e all told = subst (AllByRecursion (IsRefusedText text)) (sym e) (all_behind text a (r ∷ []) all (told, tt))

-- words behind the last period
pub open_told : (text : List ℕ) (words rest : List Lexeme) (n : ℕ) (r : Refusal) → Walked words rest → StandsBefore n words rest → HasNoStop rest → AreWordsOf text words
    → r.from ≡ Some n → r.fault.rule ≡ rule.Grammar → rest ≢ [] → IsRefusedText text r
open_told text words rest n r far so none are from e some =
    let left : (sentences words).open_end ≡ rest = far.left ∙ ap (λ (ss : Sentences). ss.open_end) (ends rest none) in (
      subst (λ (k : BookRule). IsTextRefusal k r.fault.line text) (sym e) (words, are, inl (λ (h : (sentences words).open_end ≡ []). some (sym left ∙ h))),
      subst (HasBrokenEntry text r.fault.rule) (sym from) (words, rest, are, ([], behind_these n words rest so ∙ sym (append-nil rest), inr (none, refl)), inr (none, some, e)),
    )

all_wider : (role : Role) (text : List ℕ) (rs : List Refusal) → AllByRecursion (IsRefusedText text) rs → AreRefusals role text rs
all_wider role text [] h = tt
all_wider role text (r ∷ rs) h = ((inl h.0.0, h.0.1), all_wider role text rs h.1)

-- a refusal, and others behind it
pub begin_all : (role : Role) (text : List ℕ) (r : Refusal) (others items : List Refusal) → items ≡ r ∷ others
    → IsBookRefusal role r.fault.rule r.fault.line text → HasBrokenEntry text r.fault.rule r.from → AllByRecursion (IsRefusedText text) others → AreRefusals role text items
begin_all role text r others items e h own all = subst (AreRefusals role text) (sym e) ((h, own), all_wider role text others all)

-- what holds of an answer holds of it in wider words
pub ok_wider : {A E : Type 0} {P Q : A → Type 0} (r : Result A E) → ((a : A) → P a → Q a) → IfOk r P → IfOk r Q
ok_wider (Ok a) wider h = wider a h
ok_wider (Err e) wider h = tt

pub begin_is : (fault : BookFault) (r : Refusal) (others items : List Refusal) → items ≡ r ∷ others → r.fault ≡ fault → BeginWith fault items
begin_is fault r others items e same = subst (BeginWith fault) (sym e) same

pub begin_some : (fault : BookFault) (items : List Refusal) → BeginWith fault items → items ≡ [] → ⊥
begin_some fault items h e = subst (BeginWith fault) e h

-- want of memory is told as that rule alone
pub only_memory : (r : BookRule) → IsMemory r → r ≡ rule.Memory
only_memory (rule.Source f) h = absurd h
only_memory rule.NoEntry h = absurd h
only_memory rule.Grammar h = absurd h
only_memory rule.Level h = absurd h
only_memory (rule.Picture f) h = absurd h
only_memory rule.Usage h = absurd h
only_memory rule.Sign h = absurd h
only_memory rule.Redefinition h = absurd h
only_memory rule.Table h = absurd h
only_memory rule.Count h = absurd h
only_memory rule.Value h = absurd h
only_memory rule.Placement h = absurd h
only_memory (rule.LeftOut word) h = absurd h
only_memory rule.Name h = absurd h
only_memory rule.TooLong h = absurd h
only_memory rule.TooMany h = absurd h
only_memory rule.Memory h = refl
