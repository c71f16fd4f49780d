-- The loop over the clauses of an entry.
use Rattle.std.proofs.Common.{◌≡◌, ℕ, ◌<◌, Bool, true, List, [], ◌∷◌, ◌++◌, length, refl, sym, ap, ◌∙◌, subst, arith, Option, Some}
use Rattle.std.proofs.lemmas.List.{length-append, length-map}
use Rattle.cob_source.specs.declared.token.Token.{Token}
use Rattle.cob_source.specs.Tokens.{Lexeme, lexeme, lexemes}
use Rattle.cob_copybook_clauses.specs.declared.term.WordClass.{WordClass}
use Rattle.cob_copybook_clauses.specs.declared.term.WordClass.TheVariants as term
use Rattle.cob_copybook_clauses.specs.Terms.{word_class}
use Rattle.cob_copybook_clauses.specs.Written.{WrittenClauses, WrittenEntry}
use Rattle.cob_copybook_clauses.specs.Clauses.{leading_of, Clause, Redefines, Picture, Stored, Signed, Occurs, Value, Justified, Blank, SaysClause}
use Rattle.cob_copybook_clauses.specs.Entries.{IsAbsent, put, SaysClauses, End, Then, starts_clause}
use Rattle.cob_copybook_clauses.specs.Reading.{ClauseFirst, Stands}

-- what the rest says is what the whole says
pub record SoFar (words rest : List Lexeme) (start now : WrittenClauses) : Type 0 where
  pub found : (g : WrittenClauses) → SaysClauses rest now g → SaysClauses words start g
  pub only : (g : WrittenClauses) → SaysClauses words start g → SaysClauses rest now g

pub begins : (words : List Lexeme) (f : WrittenClauses) → SoFar words words f f
begins words f = record { found = λ g s. s; only = λ g s. s }

-- the reader of one clause answers the only one
abbrev pub Only : List Lexeme → Clause → List Lexeme → Type 0
Only rest c more = (d : Clause) (ws after : List Lexeme) → SaysClause d ws → ClauseFirst after → rest ≡ ws ++ after → (c ≡ d) × (more ≡ after)

leading_starts : (t : WordClass) (b : Bool) → leading_of t ≡ Some b → starts_clause t ≡ true
leading_starts term.Leading b e = refl
leading_starts term.Trailing b e = refl
leading_starts _ b e = absurd cc

begun : (k w : Lexeme) (t : WordClass) → k ≡ w → word_class k ≡ t → starts_clause t ≡ true → starts_clause (word_class w) ≡ true
begun k w t e is st = ap (λ (x : Lexeme). starts_clause (word_class x)) (sym e) ∙ ap starts_clause is ∙ st

pub clause_starts : (c : Clause) (ws more rest : List Lexeme) (w : Lexeme) → SaysClause c ws → ws ++ more ≡ w ∷ rest → starts_clause (word_class w) ≡ true
clause_starts (Redefines n) ws more rest w (k, x, ik, n1, s) e = let same : k ≡ w = cc in begun k w _ same ik refl
clause_starts (Picture p) ws more rest w (k, is, x, ik, n1, n2, n3, s) e = let same : k ≡ w = cc in begun k w _ same ik refl
clause_starts (Stored v) ws more rest w ([], x, p, ix, s) e = let same : x ≡ w = cc in begun x w _ same ix.is refl
clause_starts (Stored v) ws more rest w (k ∷ is, x, p, ix, s) e = let same : k ≡ w = cc in begun k w _ same p.0 refl
clause_starts (Signed v) ws more rest w ([], x, sep, p, ix, n1, s) e = let same : x ≡ w = cc in begun x w _ same refl (leading_starts (word_class x) v.leading ix)
clause_starts (Signed v) ws more rest w (k ∷ is, x, sep, p, ix, n1, s) e = let same : k ≡ w = cc in begun k w _ same p.0 refl
clause_starts (Occurs t) ws more rest w (k, others, ik, n1, s) e = let same : k ≡ w = cc in begun k w _ same ik refl
clause_starts (Value v) ws more rest w (k, is, con, ik, n1, n2, s) e = let same : k ≡ w = cc in begun k w _ same ik refl
clause_starts Justified ws more rest w (k, right, ik, n1, s) e = let same : k ≡ w = cc in begun k w _ same ik refl
clause_starts Blank ws more rest w (k, when, x, ik, n1, n2, s) e = let same : k ≡ w = cc in begun k w _ same ik refl

-- a clause has a word
pub spelled_some : (c : Clause) (ws : List Lexeme) → SaysClause c ws → 0 < length ws
spelled_some (Redefines n) ws (k, x, ik, n1, s) = subst (λ (t : List Lexeme). 0 < length t) (sym s) (omega arith)
spelled_some (Picture p) ws (k, is, x, ik, n1, n2, n3, s) = subst (λ (t : List Lexeme). 0 < length t) (sym s) (omega arith)
spelled_some (Stored v) ws ([], x, p, ix, s) = subst (λ (t : List Lexeme). 0 < length t) (sym s) (omega arith)
spelled_some (Stored v) ws (k ∷ is, x, p, ix, s) = subst (λ (t : List Lexeme). 0 < length t) (sym s) (omega arith)
spelled_some (Signed v) ws ([], x, sep, p, ix, n1, s) = subst (λ (t : List Lexeme). 0 < length t) (sym s) (omega arith)
spelled_some (Signed v) ws (k ∷ is, x, sep, p, ix, n1, s) = subst (λ (t : List Lexeme). 0 < length t) (sym s) (omega arith)
spelled_some (Occurs t) ws (k, others, ik, n1, s) = subst (λ (t : List Lexeme). 0 < length t) (sym s) (omega arith)
spelled_some (Value v) ws (k, is, con, ik, n1, n2, s) = subst (λ (t : List Lexeme). 0 < length t) (sym s) (omega arith)
spelled_some Justified ws (k, right, ik, n1, s) = subst (λ (t : List Lexeme). 0 < length t) (sym s) (omega arith)
spelled_some Blank ws (k, when, x, ik, n1, n2, s) = subst (λ (t : List Lexeme). 0 < length t) (sym s) (omega arith)

pub shorter : (c : Clause) (words more : List Lexeme) → Stands c words more → length more < length words
shorter c words more (ws, spells, e) =
    let some = spelled_some c ws spells in
    let whole : length words ≡ length (ws ++ more) = ap length e in
    let parts = length-append ws more in
    omega (arith, some, whole, parts)

-- the words of clauses begin with a word that begins one, if there are any
pub says_first : {ws : List Lexeme} {f g : WrittenClauses} → SaysClauses ws f g → ClauseFirst ws
says_first {ws = []} says = tt
says_first {ws = w ∷ ws} (End e same) = absurd cc
says_first {ws = w ∷ ws} (Then {more = y} d xs sp e free says) = clause_starts d xs y ws w sp (sym e)

-- what stands behind the first clause
pub behind : {words : List Lexeme} {f g : WrittenClauses} (c : Clause) (more : List Lexeme) → 0 < length words → Only words c more → SaysClauses words f g → IsAbsent c f × SaysClauses more (put c f) g
behind {words = words} c more some only (End e same) = let none : length words ≡ 0 = ap length e in absurd (omega (arith, some, none))
behind {words} {f} {g} c more some only (Then {more = y} d ws sp s free says) =
    let o = only d ws y sp (says_first says) s in (
      subst (λ (c : Clause). IsAbsent c f) (sym o.0) free,
      subst (λ (c : Clause). SaysClauses more (put c f) g) (sym o.0) (subst (λ (z : List Lexeme). SaysClauses z (put d f) g) (sym o.1) says),
    )

pub goes_on : (words rest : List Lexeme) (start now next : WrittenClauses) (c : Clause) (more : List Lexeme)
    → SoFar words rest start now → 0 < length rest → Stands c rest more → Only rest c more → IsAbsent c now × (next ≡ put c now) → SoFar words more start next
goes_on words rest start now next c more so some (ws, sp, s) only (free, n) = record {
  found = λ g says. so.found g (Then c ws sp s free (subst (λ (f : WrittenClauses). SaysClauses more f g) n says));
  only = λ g says. subst (λ (f : WrittenClauses). SaysClauses more f g) (sym n) (behind c more some only (so.only g says)).1;
}

-- a clause that stands twice
pub twice : (words rest : List Lexeme) (start now : WrittenClauses) (c : Clause) (more : List Lexeme)
    → SoFar words rest start now → 0 < length rest → Only rest c more → (IsAbsent c now → ⊥) → (g : WrittenClauses) → SaysClauses words start g → ⊥
twice words rest start now c more so some only full g says = full (behind c more some only (so.only g says)).0

-- no clause stands here
stuck_at : {words : List Lexeme} {f g : WrittenClauses} → 0 < length words
    → ((d : Clause) (ws after : List Lexeme) → SaysClause d ws → ClauseFirst after → words ≡ ws ++ after → ⊥) → SaysClauses words f g → ⊥
stuck_at {words = words} some none (End e same) = let nil : length words ≡ 0 = ap length e in omega (arith, some, nil)
stuck_at some none (Then {more = y} d ws sp s free says) = none d ws y sp (says_first says) s

pub stuck : (words rest : List Lexeme) (start now : WrittenClauses)
    → SoFar words rest start now → 0 < length rest → ((d : Clause) (ws after : List Lexeme) → SaysClause d ws → ClauseFirst after → rest ≡ ws ++ after → ⊥) → (g : WrittenClauses) → SaysClauses words start g → ⊥
stuck words rest start now so some none g says = stuck_at some none (so.only g says)

-- at the end
nil_of : (ws : List Lexeme) → length ws ≡ 0 → ws ≡ []
nil_of [] e = refl
nil_of (w ∷ ws) e = absurd (omega (arith, e))

pub ends_found : (words rest : List Lexeme) (start now : WrittenClauses) → SoFar words rest start now → length rest ≡ 0 → SaysClauses words start now
ends_found words rest start now so e = so.found now (End (nil_of rest e) refl)

at_end : {words : List Lexeme} {f g : WrittenClauses} → length words ≡ 0 → SaysClauses words f g → f ≡ g
at_end nil (End e same) = same
at_end {words = words} nil (Then {more = y} d ws sp s free says) =
    let some = spelled_some d ws sp in
    let whole : length words ≡ length (ws ++ y) = ap length s in
    let parts = length-append ws y in
    absurd (omega (arith, some, whole, parts, nil))

pub ends_only : (words rest : List Lexeme) (start now : WrittenClauses) → SoFar words rest start now → length rest ≡ 0 → (g : WrittenClauses) → SaysClauses words start g → now ≡ g
ends_only words rest start now so e g says = at_end e (so.only g says)

-- the head of an entry
pub same_entry : (e : WrittenEntry) (level : List ℕ) (name : Option (List ℕ)) (clauses : WrittenClauses) → level ≡ e.level → name ≡ e.name → clauses ≡ e.clauses → record { level = level; name = name; clauses = clauses } ≡ e
same_entry e level name clauses a b c =
    ap (λ x. record { level = x; name = name; clauses = clauses }) a
    ∙ ap (λ x. record { level = e.level; name = x; clauses = clauses }) b
    ∙ ap (λ x. record { level = e.level; name = e.name; clauses = x }) c

-- whether words are left
pub some_words : (ws : List Token) → (length ws ≡ 0 → ⊥) → 0 < length (lexemes ws)
some_words ws h = let l = length-map ws lexeme in omega (arith, h, l)

pub no_words : (ws : List Token) → length ws ≡ 0 → length (lexemes ws) ≡ 0
no_words ws e = length-map ws lexeme ∙ e
