-- What a caret is under.
use Rattle.std.proofs.Common.{◌≡◌, ◌⊎◌, ℕ, List, [], ◌∷◌, drop, ◌∙◌, sym, subst, inl, inr}
use Rattle.std.specs.Prelude.{Option, Some, None, IfSome}
use Rattle.cob_source.specs.Tokens.{Lexeme}
use Rattle.cob_move_loops.specs.Words.{IsPeriod}
use Rattle.cob_report_refusals.specs.Refused.{StandsIn}
use Rattle.cob_report_refusals.specs.declared.refusal.MoveRefusal.{MoveRefusal}
use Rattle.cob_report_refusals.specs.declared.spots.Spot.{Spot}
use Rattle.cob_report_refusal_words.specs.declared.told.Caret.{Caret}
use Rattle.cob_report_refusal_words.specs.Pointing.{BeginAt, GoesOn, IsUnder, IsUnderFirst, IsUnderLater, IsUnderOne, IsUnderStatement}

-- what is under a later one of the rest is under one of all
abbrev pub Reaches : (rest words : List Lexeme) → Type 0
Reaches rest words = (c : Caret) → IsUnderLater c rest → IsUnderLater c words

pub under_stop : (rest words : List Lexeme) (w : Lexeme) (more : List Lexeme) (c : Caret) → Reaches rest words → rest ≡ w ∷ more → IsPeriod w → IsUnder c w → IsUnderLater c words
under_stop rest words w more c far e stop is = far c (subst (IsUnderLater c) (sym e) (inl (stop, is)))

pub under_word : (rest words : List Lexeme) (w : Lexeme) (more : List Lexeme) (c : Caret) → Reaches rest words → rest ≡ w ∷ more → GoesOn w → IsUnder c w → IsUnderLater c words
under_word rest words w more c far e on is = far c (subst (IsUnderLater c) (sym e) (inr (on, inl is)))

pub reaches_on : (rest words : List Lexeme) (w : Lexeme) (more : List Lexeme) → Reaches rest words → rest ≡ w ∷ more → GoesOn w → Reaches more words
reaches_on rest words w more far e on = λ c h. far c (subst (IsUnderLater c) (sym e) (inr (on, inr h)))

pub under_first : (words : List Lexeme) (w : Lexeme) (more : List Lexeme) (c : Caret) → words ≡ w ∷ more → IsUnder c w → IsUnderFirst c words
under_first words w more c e is = subst (IsUnderFirst c) (sym e) (inl is)

pub under_others : (words : List Lexeme) (w : Lexeme) (more : List Lexeme) (c : Caret) → words ≡ w ∷ more → IsUnderLater c more → IsUnderFirst c words
under_others words w more c e is = subst (IsUnderFirst c) (sym e) (inr is)

pub under_end : (words : List Lexeme) (w : Lexeme) (more : List Lexeme) (c start : Caret) → words ≡ w ∷ more → IsUnder start w → c ≡ start ⊎ IsUnderLater c more → IsUnderFirst c words
under_end words w more c start e is (inl same) = under_first words w more c e (subst (λ (k : Caret). IsUnder k w) (sym same) is)
under_end words w more c start e is (inr later) = under_others words w more c e later

-- a caret at the place of one of the words
pub under_spot : (s : Spot) (c : Caret) (words : List Lexeme) → c.line ≡ s.line → c.column ≡ s.column → StandsIn s words → IsUnderOne c words
under_spot s c [] e f h = h
under_spot s c (w ∷ ws) e f (inl h) = inl (e ∙ h.0, f ∙ h.1)
under_spot s c (w ∷ ws) e f (inr h) = inr (under_spot s c ws e f h)

-- what holds where there is one, and what follows from it
pub some_wider : {A : Type 0} {P Q : A → Type 0} (o : Option A) → ((a : A) → P a → Q a) → IfSome o P → IfSome o Q
some_wider (Some a) f h = f a h
some_wider None f h = tt

-- the statement that stands there
pub under_there : (r : MoveRefusal) (words own : List Lexeme) (n : ℕ) (o : Option Caret) → own ≡ drop n words → BeginAt r.at r.fault.line own → IfSome o (λ c. IsUnderFirst c own) → IfSome o (λ c. IsUnderStatement r c words)
under_there r words own n None e begins h = tt
under_there r words own n (Some c) e begins h = (n, subst (BeginAt r.at r.fault.line) e begins, subst (IsUnderFirst c) e h)
