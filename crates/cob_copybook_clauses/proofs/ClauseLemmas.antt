-- One clause: its words, and which clause begins with which word.
use Rattle.std.proofs.Common.{◌≡◌, ◌≢◌, ℕ, List, [], ◌∷◌, ◌++◌, refl, sym, ap, ◌∙◌, subst, append_assoc, Some, None}
use Rattle.cob_source.specs.Tokens.{Lexeme}
use Rattle.cob_copybook_clauses.specs.declared.clause.ClauseKind.TheVariants as kind
use Rattle.cob_copybook_entry.specs.declared.kinds.Usage.{Usage}
use Rattle.cob_copybook_entry.specs.declared.kinds.Sign.{Sign}
use Rattle.cob_copybook_clauses.specs.declared.term.WordClass.{WordClass}
use Rattle.cob_copybook_clauses.specs.declared.term.WordClass.TheVariants as term
use Rattle.cob_copybook_clauses.specs.Terms.{term_of_kind}
use Rattle.cob_copybook_clauses.specs.Written.{WrittenValue, Word, Quoted, Figure, Repeated, WrittenOccurs}
use Rattle.cob_copybook_clauses.specs.Clauses.{IsConstant, figurative_of, Clause, Redefines, Picture, Stored, Signed, Occurs, Value, Justified, Blank}
use Rattle.cob_copybook_clauses.specs.Reading.{NotFirstWord, clause_kind_of}

-- a word, others, and a last one
pub last_words : (k w : Lexeme) (words more is rest : List Lexeme) → words ≡ k ∷ more → more ≡ is ++ w ∷ rest → words ≡ (k ∷ (is ++ w ∷ [])) ++ rest
last_words k w words more is rest e f = e ∙ ap (λ t. k ∷ t) (f ∙ sym (append_assoc is (w ∷ []) rest))

-- a word, others, and still others
pub three_words : (k : Lexeme) (words more other is con rest : List Lexeme) → words ≡ k ∷ more → more ≡ is ++ other → other ≡ con ++ rest → words ≡ (k ∷ (is ++ con)) ++ rest
three_words k words more other is con rest e f g = e ∙ ap (λ t. k ∷ t) (f ∙ ap (λ t. is ++ t) g ∙ sym (append_assoc is con rest))

pub by_redefines : (P : Clause → Type 0) → ((n : List ℕ) → P (Redefines n)) → (c : Clause) → Some kind.Redefines ≡ Some (clause_kind_of c) → P c
by_redefines P h (Redefines n) e = h n
by_redefines P h _ e = absurd cc

pub by_picture : (P : Clause → Type 0) → ((n : List ℕ) → P (Picture n)) → (c : Clause) → Some kind.Picture ≡ Some (clause_kind_of c) → P c
by_picture P h (Picture n) e = h n
by_picture P h _ e = absurd cc

pub by_usage : (P : Clause → Type 0) → ((u : Usage) → P (Stored u)) → (c : Clause) → Some kind.Usage ≡ Some (clause_kind_of c) → P c
by_usage P h (Stored u) e = h u
by_usage P h _ e = absurd cc

pub by_sign : (P : Clause → Type 0) → ((s : Sign) → P (Signed s)) → (c : Clause) → Some kind.Sign ≡ Some (clause_kind_of c) → P c
by_sign P h (Signed s) e = h s
by_sign P h _ e = absurd cc

pub by_occurs : (P : Clause → Type 0) → ((t : WrittenOccurs) → P (Occurs t)) → (c : Clause) → Some kind.Occurs ≡ Some (clause_kind_of c) → P c
by_occurs P h (Occurs t) e = h t
by_occurs P h _ e = absurd cc

pub by_value : (P : Clause → Type 0) → ((v : WrittenValue) → P (Value v)) → (c : Clause) → Some kind.Value ≡ Some (clause_kind_of c) → P c
by_value P h (Value v) e = h v
by_value P h _ e = absurd cc

pub by_justified : (P : Clause → Type 0) → P Justified → (c : Clause) → Some kind.Justified ≡ Some (clause_kind_of c) → P c
by_justified P h Justified e = h
by_justified P h _ e = absurd cc

pub by_blank : (P : Clause → Type 0) → P Blank → (c : Clause) → Some kind.Blank ≡ Some (clause_kind_of c) → P c
by_blank P h Blank e = h
by_blank P h _ e = absurd cc

-- others, a word, and still others
pub prefix_words : (w : Lexeme) (words before other more con rest : List Lexeme) → words ≡ before ++ other → other ≡ w ∷ more → more ≡ con ++ rest → words ≡ (before ++ w ∷ con) ++ rest
prefix_words w words before other more con rest e f g = e ∙ ap (λ t. before ++ t) (f ∙ ap (λ t. w ∷ t) g) ∙ sym (append_assoc before (w ∷ con) rest)

-- a word that begins no constant
pub record NoConstant (t : WordClass) : Type 0 where
  pub no_plain : t ≢ term.Plain
  pub no_literal : t ≢ term.Literal
  pub no_all : t ≢ term.All
  pub no_figurative : figurative_of t ≡ None

pub constant_not_first : (t : WordClass) (c : WrittenValue) (ws more : List Lexeme) → NoConstant t → IsConstant c ws → NotFirstWord t (ws ++ more)
constant_not_first t (Word text) ws more out (w, free, e) = subst (λ (x : List Lexeme). NotFirstWord t (x ++ more)) (sym e) (λ h. out.no_plain (sym h ∙ free.free))
constant_not_first t (Quoted text) ws more out (w, k, s, e) = subst (λ (x : List Lexeme). NotFirstWord t (x ++ more)) (sym e) (λ h. out.no_literal (sym h ∙ ap (λ k. term_of_kind k w.text) k))
constant_not_first t (Figure f) ws more out ([], w, n, is, e) = subst (λ (x : List Lexeme). NotFirstWord t (x ++ more)) (sym e) (λ h. let both : Some f ≡ None = sym is ∙ ap figurative_of h ∙ out.no_figurative in absurd cc)
constant_not_first t (Figure f) ws more out (a ∷ [], w, n, is, e) = subst (λ (x : List Lexeme). NotFirstWord t (x ++ more)) (sym e) (λ h. out.no_all (sym h ∙ n))
constant_not_first t (Figure f) ws more out (a ∷ b ∷ all, w, n, is, e) = absurd n
constant_not_first t (Repeated text) ws more out (a, w, is, k, s, e) = subst (λ (x : List Lexeme). NotFirstWord t (x ++ more)) (sym e) (λ h. out.no_all (sym h ∙ is))

pub no_is : NoConstant term.Is
no_is = record { no_plain = λ h. cc; no_literal = λ h. cc; no_all = λ h. cc; no_figurative = refl }

pub no_are : NoConstant term.Are
no_are = record { no_plain = λ h. cc; no_literal = λ h. cc; no_all = λ h. cc; no_figurative = refl }
