-- Statements as they are written, cut from the front of words.
use Rattle.std.proofs.Common.{◌≡◌, ℕ, ◌+◌, ◌-◌, ◌<◌, List, [], ◌∷◌, ◌++◌, length, take, refl, sym, ap, subst, ◌∙◌, append_assoc, length-append, arith}
use Rattle.std.proofs.Math.Seq.{take-append_seam}
use Rattle.std.proofs.lemmas.List.{append_cancel_right, length-map, take-map}
use Rattle.std.specs.List.{AllByRecursion}
use Rattle.cob_source.specs.Tokens.{Lexeme, lexeme, lexemes}
use Rattle.cob_source.specs.declared.token.Token.{Token}
use Rattle.cob_move_loops.specs.Words.{IsPeriod, NoPeriod}
use Rattle.cob_move_statements.specs.Statements.{EndsStatement}
use Rattle.cob_report_refused_moves.specs.Statements.{GoesOn, IsOneWritten, IsWrittenBefore, written_behind, written_here}

-- so far these words go on
pub record GoneOn (words rest : List Lexeme) : Type 0 where
  pub done : List Lexeme
  pub are : AllByRecursion GoesOn done
  pub words_are : words ≡ done ++ rest

pub begins : (words : List Lexeme) → GoneOn words words
begins words = record { done = []; are = tt; words_are = refl }

all_more : (xs : List Lexeme) (w : Lexeme) → AllByRecursion GoesOn xs → GoesOn w → AllByRecursion GoesOn (xs ++ w ∷ [])
all_more [] w all is = (is, tt)
all_more (x ∷ xs) w all is = (all.0, all_more xs w all.1 is)

-- a word that ends none goes on
goes_by : (w : Lexeme) (ws : List Lexeme) → (EndsStatement (w ∷ ws) → ⊥) → GoesOn w
goes_by w ws none = λ h. none h

pub goes : (words rest : List Lexeme) (w : Lexeme) (more : List Lexeme) → GoneOn words rest → rest ≡ w ∷ more → (EndsStatement rest → ⊥) → GoneOn words more
goes words rest w more so e none = record {
  done = so.done ++ w ∷ [];
  are = all_more so.done w so.are (goes_by w more (λ h. none (subst EndsStatement (sym e) h)));
  words_are = so.words_are ∙ ap (λ (t : List Lexeme). so.done ++ t) e ∙ sym (append_assoc so.done (w ∷ []) more);
}

pub ends_none : (ws : List Lexeme) → ws ≡ [] → EndsStatement ws
ends_none ws e = subst EndsStatement (sym e) tt

-- a word, those that go on, and periods
pub cut : (words more rest left : List Lexeme) (first : Lexeme) (others stops : List Lexeme) → words ≡ first ∷ more → AllByRecursion GoesOn others → more ≡ others ++ rest → EndsStatement rest
    → AllByRecursion IsPeriod stops → rest ≡ stops ++ left → NoPeriod left → (own : List Lexeme) × IsWrittenBefore own left × (words ≡ own ++ left)
cut words more rest left first others stops e on is ends are f none = (
  first ∷ (others ++ stops),
  record {
    first = first;
    others = others;
    stops = stops;
    go_on = on;
    are_stops = are;
    none_more = none;
    ends = subst EndsStatement f ends;
    words = refl;
  },
  e ∙ ap (λ (t : List Lexeme). first ∷ t) (is ∙ ap (λ (t : List Lexeme). others ++ t) f ∙ sym (append_assoc others stops left)),
)

-- what is one of those behind the first is one of all
pub one_behind : (words rest own more : List Lexeme) → ((s : List Lexeme) → IsOneWritten s rest → IsOneWritten s words) → IsWrittenBefore own more → rest ≡ own ++ more
    → (s : List Lexeme) → IsOneWritten s more → IsOneWritten s words
one_behind words rest own more far is e s h = far s (written_behind s own more rest is e h)

pub one_here : (words rest own more : List Lexeme) → ((s : List Lexeme) → IsOneWritten s rest → IsOneWritten s words) → IsWrittenBefore own more → rest ≡ own ++ more → IsOneWritten own words
one_here words rest own more far is e = far own (written_here own more rest is e)

-- the words in front of the last ones
pub front_is : (words rest : List Token) (own : List Lexeme) (n : ℕ) → lexemes words ≡ own ++ lexemes rest → n ≡ length words - length rest → lexemes words ≡ lexemes (take n words) ++ lexemes rest
front_is words rest own n e count =
    let total : length (lexemes words) ≡ length own + length (lexemes rest) = ap length e ∙ length-append own (lexemes rest) in
    let k : n ≡ length own = omega (arith, total, count, length-map words lexeme, length-map rest lexeme) in
    let same : lexemes (take n words) ≡ own = sym (take-map lexeme n words) ∙ ap (take n) e ∙ ap (λ (m : ℕ). take m (own ++ lexemes rest)) k ∙ take-append_seam own (lexemes rest) in
    e ∙ ap (λ (t : List Lexeme). t ++ lexemes rest) (sym same)

pub written_is : (own front rest : List Lexeme) → IsWrittenBefore own rest → own ++ rest ≡ front ++ rest → IsWrittenBefore front rest
written_is own front rest is e = subst (λ (s : List Lexeme). IsWrittenBefore s rest) (append_cancel_right own front rest e) is

pub written_shorter : (words rest : List Token) (own : List Lexeme) → IsWrittenBefore own (lexemes rest) → lexemes words ≡ own ++ lexemes rest → length rest < length words
written_shorter words rest own is e =
    let total : length (lexemes words) ≡ length own + length (lexemes rest) = ap length e ∙ length-append own (lexemes rest) in
    let some : length own ≡ length (is.first ∷ (is.others ++ is.stops)) = ap length is.words in
    omega (arith, total, some, length-map words lexeme, length-map rest lexeme)
