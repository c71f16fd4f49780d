-- The words that are read as values, and as an entry.
use Rattle.std.proofs.Common.{◌≡◌, ◌<◌, ◌⊎◌, List, [], ◌∷◌, ◌++◌, length, false, refl, sym, ap, subst, ◌∙◌, append-nil, arith, inl, inr, Option, Some, None}
use Rattle.cob_source.specs.declared.token.Token.{Token}
use Rattle.cob_source.specs.Tokens.{Lexeme, lexemes}
use Rattle.std.specs.Prelude.{IsTrue}
use Rattle.cob_copybook_clauses.specs.declared.term.WordClass.TheVariants as term
use Rattle.cob_copybook_clauses.specs.Reading.{EachCutNeither, StandInFront}
use Rattle.cob_copybook_clauses.specs.Written.{WrittenValue}
use Rattle.cob_move_conditions.specs.Operands.{IsWrittenOperand}
use Rattle.cob_move_data.specs.declared.operands.Operand.{Operand}
use Rattle.cob_move_data.specs.declared.operands.Side.{Side}
use Rattle.cob_move_data.specs.Moves.{Records}
use Rattle.cob_move_loops.specs.Turns.{Counted, in_turn}
use Rattle.cob_move_names.specs.Candidates.{Candidate}
use Rattle.cob_move_names.specs.References.{BreaksReference, NamesOperand}
use Rattle.cob_move_statements.specs.declared.fault.MoveRule.{MoveRule}
use Rattle.cob_move_statements.specs.declared.fault.MoveRule.TheVariants as rule
use Rattle.cob_move_statements.specs.Written.{SentConstant, SentReference, WrittenReference, WrittenSender}
use Rattle.cob_move_tests.specs.Counters.{HasNoCounter}
use Rattle.cob_move_tests.specs.declared.entries.NamedEntry.{NamedEntry}
use Rattle.cob_move_data.specs.Moves.{operand_in, record_of}
use Rattle.cob_move_tests.specs.Asked.{sender_asked}
use Rattle.cob_move_choices.specs.Choices.{BreaksEvaluated, IsEvaluated, IsTruth, all_of}
use Rattle.cob_move_choices.specs.Values.{FromToWritten, IsSpanWritten, IsThru, IsValueWritten, OneWritten, WrittenSpan}
use Rattle.cob_move_choices.proofs.SpanLemmas.{one_span, thru_follows, value_cut}

-- ---- lists

-- nothing is left behind what stands in front
pub all_read : (Says : List Lexeme → Type 0) (words left : List Lexeme) → StandInFront Says words left → left ≡ [] → Says words
all_read Says words left (own, is, e) none = subst Says (sym (e ∙ ap (λ (t : List Lexeme). own ++ t) none ∙ append-nil own)) is

pub nothing_left : (ws : List Token) → length ws ≡ 0 → lexemes ws ≡ []
nothing_left [] none = refl
nothing_left (w ∷ ws) none = absurd (omega (arith, none))

pub some_is : (ws : List Lexeme) → 0 < length ws → ws ≡ [] → ⊥
some_is ws some none = omega (arith, some, ap length none)

same_first : {A : Type 0} (x y : A) (xs ys : List A) → x ∷ xs ≡ y ∷ ys → x ≡ y
same_first x y xs ys e = cc

same_rest : {A : Type 0} (x y : A) (xs ys : List A) → x ∷ xs ≡ y ∷ ys → xs ≡ ys
same_rest x y xs ys e = cc

-- ---- a value, and an entry

pub same_constant : (v w : WrittenValue) → SentConstant v ≡ SentConstant w → v ≡ w
same_constant v w e = cc

pub same_reference : (v w : WrittenReference) → SentReference v ≡ SentReference w → v ≡ w
same_reference v w e = cc

pub never_constant : (v : WrittenReference) (w : WrittenValue) → SentReference v ≡ SentConstant w → ⊥
never_constant v w e = cc

pub never_reference : (v : WrittenValue) (w : WrittenReference) → SentConstant v ≡ SentReference w → ⊥
never_reference v w e = cc

-- ---- TRUE

pub false_true : IsTrue false → ⊥
false_true e = cc

pub no_truth : (ws : List Lexeme) → ws ≡ [] → IsTruth ws → ⊥
no_truth ws none is = subst IsTruth none is

pub more_truth : (w : Lexeme) (ws more : List Lexeme) → ws ≡ w ∷ more → 0 < length more → IsTruth ws → ⊥
more_truth w ws [] e some is = omega (arith, some)
more_truth w ws (v ∷ more) e some is = subst IsTruth e is

-- ---- values

-- one value, and nothing behind it
pub one_value : (v : WrittenValue) (words left : List Lexeme) → StandInFront (IsValueWritten v) words left → left ≡ [] → IsSpanWritten (OneWritten v) words
one_value v words left found none = all_read (IsValueWritten v) words left found none

-- two values with THRU between them, and nothing behind them
pub two_values : (v w : WrittenValue) (words behind more left : List Lexeme) (thru : Lexeme) → StandInFront (IsValueWritten v) words behind → behind ≡ thru ∷ more → IsThru thru → StandInFront (IsValueWritten w) more left → left ≡ []
    → IsSpanWritten (FromToWritten v w) words
two_values v w words behind more left thru (from, first, e) cut is found none =
    (from, more, thru, first, is, all_read (IsValueWritten w) more left found none, e ∙ ap (λ (t : List Lexeme). from ++ t) cut)

-- where words begin with no value, they list none
pub no_first : (words : List Lexeme) → ((v : WrittenValue) → EachCutNeither (IsValueWritten v) term.Of term.OpenBracket words (λ left. ⊥)) → (x : WrittenSpan) → IsSpanWritten x words → ⊥
no_first words none (OneWritten v) is = none v words [] is tt tt (sym (append-nil words))
no_first words none (FromToWritten v w) (from, to, thru, first, is, last, e) =
    let follows = thru_follows thru to is in
    none v from (thru ∷ to) first follows.0 follows.1 e

-- what stands behind the first value, where two are listed
behind_first : (v : WrittenValue) (words behind : List Lexeme) → StandInFront (IsValueWritten v) words behind → (x y : WrittenValue) → (h : IsSpanWritten (FromToWritten x y) words) → behind ≡ h.2 ∷ h.1
behind_first v words behind (own, is, e) x y (from, to, thru, first, thru_is, last, f) = (value_cut v x own from behind (thru ∷ to) is first (sym e ∙ f)).1

-- where there is one value alone nothing stands behind it
alone_behind : (v : WrittenValue) (words behind : List Lexeme) → StandInFront (IsValueWritten v) words behind → (x : WrittenValue) → IsValueWritten x words → behind ≡ []
alone_behind v words behind (own, is, e) x h = (value_cut v x own words behind [] is h (sym e ∙ sym (append-nil words))).1

-- no THRU stands behind the first value
pub no_thru : (v : WrittenValue) (words behind more : List Lexeme) (thru : Lexeme) → StandInFront (IsValueWritten v) words behind → behind ≡ thru ∷ more → (IsThru thru → ⊥) → (x : WrittenSpan) → IsSpanWritten x words → ⊥
no_thru v words behind more thru found cut never (OneWritten x) is = some_is behind (omega (arith, ap length cut)) (alone_behind v words behind found x is)
no_thru v words behind more thru found cut never (FromToWritten x y) is =
    let same : thru ≡ is.2 = same_first thru is.2 more is.1 (sym cut ∙ behind_first v words behind found x y is) in
    never (subst IsThru (sym same) is.4)

-- no value stands behind THRU
pub no_last : (v : WrittenValue) (words behind more : List Lexeme) (thru : Lexeme) → StandInFront (IsValueWritten v) words behind → behind ≡ thru ∷ more
    → ((w : WrittenValue) → EachCutNeither (IsValueWritten w) term.Of term.OpenBracket more (λ left. ⊥)) → (x : WrittenSpan) → IsSpanWritten x words → ⊥
no_last v words behind more thru found cut none (OneWritten x) is = some_is behind (omega (arith, ap length cut)) (alone_behind v words behind found x is)
no_last v words behind more thru found cut none (FromToWritten x y) is =
    let same : more ≡ is.1 = same_rest thru is.2 more is.1 (sym cut ∙ behind_first v words behind found x y is) in
    none y more [] (subst (IsValueWritten y) (sym same) is.5) tt tt (sym (append-nil more))

-- something stands behind the last value
pub some_behind : (v w : WrittenValue) (words behind more left : List Lexeme) (thru : Lexeme) → StandInFront (IsValueWritten v) words behind → behind ≡ thru ∷ more → StandInFront (IsValueWritten w) more left → 0 < length left
    → (x : WrittenSpan) → IsSpanWritten x words → ⊥
some_behind v w words behind more left thru found cut last some (OneWritten x) is = some_is behind (omega (arith, ap length cut)) (alone_behind v words behind found x is)
some_behind v w words behind more left thru found cut last some (FromToWritten x y) is =
    let same : more ≡ is.1 = same_rest thru is.2 more is.1 (sym cut ∙ behind_first v words behind found x y is) in
    some_is left some (alone_behind w more left last y (subst (IsValueWritten y) (sym same) is.5))

-- ---- the entry of an EVALUATE

pub no_entry : (records : Records) (ns : List Counted) (ws own : List Lexeme) → own ≡ in_turn ns false 0 ws → ((w : WrittenReference) → IsWrittenOperand (SentReference w) own → ⊥) → BreaksEvaluated rule.Grammar records ns ws
no_entry records ns ws own same none = inr (inl (refl, λ w is. none w (subst (IsWrittenOperand (SentReference w)) (sym same) is)))

pub entry_refused : (r : MoveRule) (records : Records) (ns : List Counted) (ws own : List Lexeme) (all : List Candidate) (w : WrittenReference) → own ≡ in_turn ns false 0 ws → all ≡ all_of records → IsWrittenOperand (SentReference w) own
    → BreaksReference r all w → BreaksEvaluated r records ns ws
entry_refused r records ns ws own all w same named is broken =
    inr (inr (w, subst (IsWrittenOperand (SentReference w)) same is, subst (λ (cs : List Candidate). BreaksReference r cs w) named broken))

pub entry_found : (records : Records) (ns : List Counted) (ws own : List Lexeme) (all : List Candidate) (w : WrittenReference) (n : NamedEntry) → HasNoCounter ns ws → own ≡ in_turn ns false 0 ws → all ≡ all_of records
    → IsWrittenOperand (SentReference w) own → NamesOperand all w n.side (operand_in (record_of records n.side) n.entry) → IsEvaluated records ns ws (sender_asked records (Some n))
entry_found records ns ws own all w n none same named is names = (
  none,
  (
    w,
    n.side,
    operand_in (record_of records n.side) n.entry,
    subst (IsWrittenOperand (SentReference w)) same is,
    subst (λ (cs : List Candidate). NamesOperand cs w n.side (operand_in (record_of records n.side) n.entry)) named names,
    refl,
  ),
)
