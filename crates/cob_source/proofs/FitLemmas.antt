-- The lines of a text that breaks no rule.
use Rattle.std.proofs.Common.{◌≡◌, ℕ, ◌+◌, Bool, true, false, List, [], ◌∷◌, ◌++◌, length, refl, sym, subst, ◌∙◌, append_assoc}
use Rattle.std.specs.Prelude.{Option, Some, None, is_some}
use Rattle.std.proofs.lemmas.List.{append-nil}
use Rattle.cob_source.specs.declared.token.Cell.{Cell}
use Rattle.cob_source.specs.declared.token.Cutting.{Cutting}
use Rattle.cob_source.specs.declared.lines.LineKind.{LineKind}
use Rattle.cob_source.specs.declared.lines.LineKind.TheVariants.{Skipped, Plain, Continuation}
use Rattle.cob_source.specs.declared.fault.SourceRule.TheVariants.{NotAscii, Tab, OpenLiteral, BadContinuation, TooLong, UnknownIndicator, Memory}
use Rattle.cob_source.specs.Tokens.{Lexeme}
use Rattle.cob_source.specs.Cuts.{open_quote}
use Rattle.cob_source.specs.Lines.{lines, kind_of_line, joined_of, last_joined}
use Rattle.cob_source.specs.Words.{breaks, FitsLine, AreFit, BreaksAt, GoesOnNothing, IsLeftOpen, AreCutsOf}
use Rattle.cob_source.proofs.ReadingLemmas.{AllFit-push}

-- no rule is broken on any line of these
abbrev pub BreakNone : List (List ℕ) → Type 0
BreakNone ls =
    ((n : ℕ) → BreaksAt NotAscii n ls → ⊥) × ((n : ℕ) → BreaksAt Tab n ls → ⊥) × ((n : ℕ) → BreaksAt UnknownIndicator n ls → ⊥) × ((n : ℕ) → GoesOnNothing n ls → ⊥) × ((n : ℕ) → IsLeftOpen n ls → ⊥)

unbroken : (b : Bool) → (b ≡ true → ⊥) → b ≡ false
unbroken false h = refl
unbroken true h = absurd (h refl)

-- where a plain line breaks the rule on open literals, one is left open before it
plain_open : (k : LineKind) (joined : List Cell) (line : List ℕ) → kind_of_line line ≡ k → breaks OpenLiteral joined line ≡ true → (kind_of_line line ≡ Plain) × (is_some (open_quote joined) ≡ true)
plain_open Skipped joined line e h = absurd (let f : breaks OpenLiteral joined line ≡ false = rw e refl in let t : true ≡ false = sym h ∙ f in cc)
plain_open Plain joined line e h = (e, let f : breaks OpenLiteral joined line ≡ is_some (open_quote joined) = rw e refl in sym f ∙ h)
plain_open Continuation joined line e h = absurd (let f : breaks OpenLiteral joined line ≡ false = rw e refl in let t : true ≡ false = sym h ∙ f in cc)

line_fits : (ls before : List (List ℕ)) (line : List ℕ) (after : List (List ℕ)) → BreakNone ls → ls ≡ before ++ line ∷ after → AreFit before → FitsLine (joined_of before) line
line_fits ls before line after none e fit NotAscii = unbroken _ (λ h. none.0 (length before + 1) record { before = before; line = line; after = after; lines_are = e; broken = h; number = refl })
line_fits ls before line after none e fit Tab = unbroken _ (λ h. none.1 (length before + 1) record { before = before; line = line; after = after; lines_are = e; broken = h; number = refl })
line_fits ls before line after none e fit UnknownIndicator = unbroken _ (λ h. none.2 (length before + 1) record { before = before; line = line; after = after; lines_are = e; broken = h; number = refl })
line_fits ls before line after none e fit BadContinuation =
    unbroken _ (λ h. none.3 (length before + 1) (record { before = before; line = line; after = after; lines_are = e; broken = h; number = refl }, fit))
line_fits ls before line after none e fit OpenLiteral =
    unbroken _ (λ h. let p = plain_open (kind_of_line line) (joined_of before) line refl h in
    none.4 (last_joined before) record { before = before; after = line ∷ after; lines_are = e; fit = fit; left_open = p.1; none_follows = p.0; number = refl })
line_fits ls before line after none e fit TooLong = refl
line_fits ls before line after none e fit Memory = refl

all_fit : (ls before after : List (List ℕ)) → BreakNone ls → ls ≡ before ++ after → AreFit before → AreFit ls
all_fit ls before [] none e fit = subst AreFit (sym (e ∙ append-nil before)) fit
all_fit ls before (line ∷ after) none e fit =
    all_fit ls (before ++ line ∷ []) after none (e ∙ sym (append_assoc before (line ∷ []) after)) (AllFit-push 1 [] before line fit (line_fits ls before line after none e fit))

closed : (q : Option ℕ) → (is_some q ≡ true → ⊥) → q ≡ None
closed None h = refl
closed (Some b) h = absurd (h refl)

none_broken : (m : Cutting) (text : List ℕ) (ts : List Lexeme) → AreCutsOf m text ts → BreakNone (lines text)
none_broken m text ts w = (w.breaks_none NotAscii, w.breaks_none Tab, w.breaks_none UnknownIndicator, w.breaks_none BadContinuation, w.breaks_none OpenLiteral)

pub words_fit : (m : Cutting) (text : List ℕ) (ts : List Lexeme) → AreCutsOf m text ts → AreFit (lines text) × (open_quote (joined_of (lines text)) ≡ None)
words_fit m text ts w =
    let none = none_broken m text ts w in
    let fit = all_fit (lines text) [] (lines text) none refl tt in (
      fit,
      closed _ (λ h. none.4 (last_joined (lines text)) record { before = lines text; after = []; lines_are = sym (append-nil (lines text)); fit = fit; left_open = h; none_follows = tt; number = refl }),
    )
