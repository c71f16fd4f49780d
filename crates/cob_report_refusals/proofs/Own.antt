-- What a text of one sentence breaks, the sentence breaks by itself.
use Rattle.std.proofs.Common.{◌≡◌, ◌⊎◌, ℕ, suc, ◌+◌, Bool, true, false, List, [], ◌∷◌, ◌++◌, length, take, refl, sym, ap, ◌∙◌, subst, inl, inr, arith, append_assoc}
use Rattle.std.proofs.lemmas.Bool.{true≢false}
use Rattle.std.proofs.lemmas.List.{length-map, take-map}
use Rattle.cob_source.specs.Tokens.{Lexeme, lexeme, lexemes}
use Rattle.cob_source.specs.declared.token.Token.{Token}
use Rattle.cob_copybook_clauses.specs.Entries.{FirstSentence, IsCondition, is_condition, sentences}
use Rattle.cob_copybook_entry.specs.declared.fault.BookRule.{BookRule}
use Rattle.cob_copybook_entry.specs.declared.fault.BookRule.TheVariants as rule
use Rattle.cob_copybook_entries.specs.Books.{BeginsWithCondition, BreaksBy, BreaksEntryRule, BreaksSentence, HasNoLeftOut, OneBreaks}
use Rattle.cob_copybook_entries.proofs.Endings.{front_cut}
use Rattle.cob_report_refusals.specs.Refused.{BreaksByItself, IsOfTexts}

-- the text has one sentence
one_sentence : (s words : List Lexeme) → FirstSentence s words [] → (sentences words).ended ≡ s ∷ []
one_sentence s words h = (front_cut words s [] h).0

no_rest : (s words : List Lexeme) → FirstSentence s words [] → (sentences words).open_end ≡ []
no_rest s words h = (front_cut words s [] h).1

one_of : (r : BookRule) (s : List Lexeme) → OneBreaks r (s ∷ []) → BreaksSentence r s
one_of r s (inl h) = h
one_of r s (inr h) = absurd h

pub own_one : (r : BookRule) (s words : List Lexeme) → FirstSentence s words [] → OneBreaks r (sentences words).ended → BreaksSentence r s
own_one r s words is h = one_of r s (subst (OneBreaks r) (one_sentence s words is) h)

grammar_by : (s words : List Lexeme) → FirstSentence s words []
    → (is_condition s ≡ false) ⊎ (HasNoLeftOut s × ((name : List ℕ) → IsCondition s name → ⊥))
    → BeginsWithCondition (sentences words).ended → BreaksSentence rule.Grammar s
grammar_by s words is (inl data_entry) h =
    let e : is_condition s ≡ true = subst BeginsWithCondition (one_sentence s words is) h in
    let both : true ≡ false = sym e ∙ data_entry in
    absurd (true≢false both)
grammar_by s words is (inr none) h =
    let e : is_condition s ≡ true = subst BeginsWithCondition (one_sentence s words is) h in
    (none.0, subst (λ (b : Bool). BreaksBy b rule.Grammar s) (sym e) none.1)

pub own_grammar : (s words : List Lexeme) → FirstSentence s words []
    → (is_condition s ≡ false) ⊎ (HasNoLeftOut s × ((name : List ℕ) → IsCondition s name → ⊥))
    → BreaksEntryRule rule.Grammar words → BreaksSentence rule.Grammar s
own_grammar s words is how (inl h) = absurd (h (no_rest s words is))
own_grammar s words is how (inr (inl h)) = grammar_by s words is how h
own_grammar s words is how (inr (inr h)) = own_one rule.Grammar s words is h

-- what a text of an entry breaks, or a word that is left out
pub own_by : (r : BookRule) (s words : List Lexeme) → IsOfTexts r → FirstSentence s words [] → BreaksEntryRule r words → BreaksByItself r s
own_by (rule.Source f) s words of is h = absurd of
own_by rule.NoEntry s words of is h = absurd of
own_by rule.Grammar s words of is h = absurd of
own_by rule.Level s words of is h = absurd of
own_by (rule.Picture f) s words of is h = (tt, own_one (rule.Picture f) s words is h)
own_by rule.Usage s words of is h = absurd of
own_by rule.Sign s words of is h = absurd of
own_by rule.Redefinition s words of is h = absurd of
own_by rule.Table s words of is h = (tt, own_one rule.Table s words is h)
own_by rule.Count s words of is h = absurd of
own_by rule.Value s words of is h = (tt, own_one rule.Value s words is h)
own_by rule.Placement s words of is h = absurd of
own_by (rule.LeftOut word) s words of is h = (tt, own_one (rule.LeftOut word) s words is h)
own_by rule.Name s words of is h = (tt, own_one rule.Name s words is h)
own_by rule.TooLong s words of is h = absurd of
own_by rule.TooMany s words of is h = absurd of
own_by rule.Memory s words of is h = absurd of

-- the first words of a text up to its first Stop
take_one : (s more : List Lexeme) (stop : Lexeme) → take (suc (length s)) (s ++ stop ∷ more) ≡ s ++ stop ∷ []
take_one [] more stop = refl
take_one (w ∷ s) more stop = ap (λ (ws : List Lexeme). w ∷ ws) (take_one s more stop)

pub front_stop : (ts ss : List Token) (more : List Lexeme) → FirstSentence (lexemes ss) (lexemes ts) more → FirstSentence (lexemes ss) (lexemes (take (length ss + 1) ts)) []
front_stop ts ss more h =
    let count : length ss + 1 ≡ suc (length (lexemes ss)) = omega (arith, length-map ss lexeme) in
    (h.0, h.1, h.2, sym (take-map lexeme (length ss + 1) ts) ∙ ap (λ (k : ℕ). take k (lexemes ts)) count ∙ ap (take (suc (length (lexemes ss)))) (h.3) ∙ take_one (lexemes ss) more h.0)

pub stop_cut : (ts ss : List Token) (more : List Lexeme) → FirstSentence (lexemes ss) (lexemes ts) more → lexemes ts ≡ lexemes (take (length ss + 1) ts) ++ more
stop_cut ts ss more h =
    let count : length ss + 1 ≡ suc (length (lexemes ss)) = omega (arith, length-map ss lexeme) in
    let front : lexemes (take (length ss + 1) ts) ≡ lexemes ss ++ h.0 ∷ [] =
    sym (take-map lexeme (length ss + 1) ts) ∙ ap (λ (k : ℕ). take k (lexemes ts)) count ∙ ap (take (suc (length (lexemes ss)))) (h.3) ∙ take_one (lexemes ss) more h.0 in
    h.3 ∙ sym (append_assoc (lexemes ss) (h.0 ∷ []) more) ∙ ap (λ (t : List Lexeme). t ++ more) (sym front)
