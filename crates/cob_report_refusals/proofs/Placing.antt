-- Where lines stand that break a rule, and words.
use Rattle.std.proofs.Common.{◌≡◌, ℕ, ◌+◌, ◌<◌, List, [], ◌∷◌, ◌++◌, length, refl, sym, ap, subst, ◌∙◌, arith, append_assoc, length-append}
use Rattle.std.specs.Prelude.{◌≢◌}
use Rattle.cob_source.specs.Lines.{lines}
use Rattle.cob_source.specs.Words.{BreaksAt, IsSourceRefusal}
use Rattle.cob_source.specs.declared.fault.SourceRule.{SourceRule}
use Rattle.cob_source.specs.declared.fault.SourceRule.TheVariants as source
use Rattle.cob_report_refusals.specs.Refused.{IsOfLines}
use Rattle.cob_report_refusals.specs.Behind.{IsBehind, StandsBehind}

-- one more line stands in front
pub one_more : (count : ℕ) (text rest more line : List ℕ) → 0 < length rest → StandsBehind count text rest → lines rest ≡ line ∷ lines more → StandsBehind (count + 1) text more
one_more count text rest more line some stands e = λ left.
    let h = stands some in
    let number : length (h.0 ++ line ∷ []) ≡ length h.0 + length (line ∷ []) = length-append h.0 (line ∷ []) in
    (h.0 ++ line ∷ [], h.1 ∙ ap (λ (ls : List (List ℕ)). h.0 ++ ls) e ∙ sym (append_assoc h.0 (line ∷ []) (lines more)), omega (arith, number, h.2))

-- lines in front of lines in front
pub further : (count more : ℕ) (text rest left : List ℕ) → 0 < length rest → StandsBehind count text rest → StandsBehind more rest left → StandsBehind (count + more) text left
further count more text rest left some stands behind = λ some_left.
    let h = stands some in
    let k = behind some_left in
    let number : length (h.0 ++ k.0) ≡ length h.0 + length k.0 = length-append h.0 k.0 in
    (h.0 ++ k.0, h.1 ∙ ap (λ (ls : List (List ℕ)). h.0 ++ ls) k.1 ∙ sym (append_assoc h.0 k.0 (lines left)), omega (arith, number, h.2, k.2))

pub further_to : (count more now : ℕ) (text rest left : List ℕ) → 0 < length rest → now ≡ count + more → StandsBehind count text rest → StandsBehind more rest left → StandsBehind now text left
further_to count more now text rest left some e stands behind = subst (λ (n : ℕ). StandsBehind n text left) (sym e) (further count more text rest left some stands behind)

pub starts_there : (text : List ℕ) → StandsBehind 0 text text
starts_there text = λ some. ([], refl, refl)

-- a line that breaks a rule by itself does so behind others too
line_told : (r : SourceRule) (before k n : ℕ) (text rest : List ℕ) → IsOfLines r → n ≡ before + k → IsBehind before text rest → BreaksAt r k (lines rest) → BreaksAt r n (lines text)
line_told source.NotAscii before k n text rest of e far at = record {
  before = far.0 ++ at.before;
  line = at.line;
  after = at.after;
  lines_are = far.1 ∙ ap (λ (ls : List (List ℕ)). far.0 ++ ls) at.lines_are ∙ sym (append_assoc far.0 at.before (at.line ∷ at.after));
  broken = at.broken;
  number = let count : length (far.0 ++ at.before) ≡ length far.0 + length at.before = length-append far.0 at.before in omega (arith, e, far.2, at.number, count);
}
line_told source.Tab before k n text rest of e far at = record {
  before = far.0 ++ at.before;
  line = at.line;
  after = at.after;
  lines_are = far.1 ∙ ap (λ (ls : List (List ℕ)). far.0 ++ ls) at.lines_are ∙ sym (append_assoc far.0 at.before (at.line ∷ at.after));
  broken = at.broken;
  number = let count : length (far.0 ++ at.before) ≡ length far.0 + length at.before = length-append far.0 at.before in omega (arith, e, far.2, at.number, count);
}
line_told source.UnknownIndicator before k n text rest of e far at = record {
  before = far.0 ++ at.before;
  line = at.line;
  after = at.after;
  lines_are = far.1 ∙ ap (λ (ls : List (List ℕ)). far.0 ++ ls) at.lines_are ∙ sym (append_assoc far.0 at.before (at.line ∷ at.after));
  broken = at.broken;
  number = let count : length (far.0 ++ at.before) ≡ length far.0 + length at.before = length-append far.0 at.before in omega (arith, e, far.2, at.number, count);
}
line_told source.OpenLiteral before k n text rest of e far at = absurd of
line_told source.BadContinuation before k n text rest of e far at = absurd of
line_told source.TooLong before k n text rest of e far at = absurd of
line_told source.Memory before k n text rest of e far at = absurd of

pub refusal_told : (r : SourceRule) (before k n : ℕ) (text rest : List ℕ) → IsOfLines r → n ≡ before + k → IsBehind before text rest → IsSourceRefusal r k rest
    → (r ≢ source.Memory) × IsSourceRefusal r n text
refusal_told source.NotAscii before k n text rest of e far at = (λ same. cc, line_told source.NotAscii before k n text rest of e far at)
refusal_told source.Tab before k n text rest of e far at = (λ same. cc, line_told source.Tab before k n text rest of e far at)
refusal_told source.UnknownIndicator before k n text rest of e far at = (λ same. cc, line_told source.UnknownIndicator before k n text rest of e far at)
refusal_told source.OpenLiteral before k n text rest of e far at = absurd of
refusal_told source.BadContinuation before k n text rest of e far at = absurd of
refusal_told source.TooLong before k n text rest of e far at = absurd of
refusal_told source.Memory before k n text rest of e far at = absurd of
