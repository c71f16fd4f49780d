use Rattle.std.proofs.Common.{◌≡◌, ◌∙◌, ap, sym, Some, None, IsSomeAnd}
use Rattle.cob_source.specs.Tokens.{lexemes}
use Rattle.cob_copybook_clauses.specs.Clauses.{Clause, SaysClause}
use Rattle.cob_copybook_clauses.specs.Reading.{clause_of, clause_kind_of}
use Rattle.cob_copybook_clauses.proofs.ClauseLemmas.{by_redefines, by_picture, by_usage, by_sign, by_occurs, by_value, by_justified, by_blank}
use Rattle.cob_copybook_clauses.proofs.clause.clause_at.Goals as goal

pub returns-in_err-kind_in_front-clause-only : goal.returns-in_err-kind_in_front-clause-only
returns-in_err-kind_in_front-clause-only c = λ d ws more spells first e. let h : None ≡ Some (clause_kind_of d) = c.in_err-kind_in_front.ensures d ws more spells e in absurd cc

pub returns-in-Redefines-clause-only : goal.returns-in-Redefines-clause-only
returns-in-Redefines-clause-only c = λ d ws more spells first e.
    by_redefines (λ (x : Clause). SaysClause x ws → IsSomeAnd c.redefines_at.result (λ r. (clause_of r.0 ≡ x) × (lexemes r.1.now ≡ more))) (λ n spelled. c.redefines_at.ensures.only n ws more spelled first e) d
    (ap Some (sym c.in-Redefines.is) ∙ c.in_ok-kind_in_front.ensures d ws more spells e) spells

pub returns-in-Picture-clause-only : goal.returns-in-Picture-clause-only
returns-in-Picture-clause-only c = λ d ws more spells first e.
    by_picture (λ (x : Clause). SaysClause x ws → IsSomeAnd c.picture_at.result (λ r. (clause_of r.0 ≡ x) × (lexemes r.1.now ≡ more))) (λ p spelled. c.picture_at.ensures.only p ws more spelled first e) d
    (ap Some (sym c.in-Picture.is) ∙ c.in_ok-kind_in_front.ensures d ws more spells e) spells

pub returns-in-Usage-clause-only : goal.returns-in-Usage-clause-only
returns-in-Usage-clause-only c = λ d ws more spells first e.
    by_usage (λ (x : Clause). SaysClause x ws → IsSomeAnd c.usage_at.result (λ r. (clause_of r.0 ≡ x) × (lexemes r.1.now ≡ more))) (λ u spelled. c.usage_at.ensures.only u ws more spelled first e) d
    (ap Some (sym c.in-Usage.is) ∙ c.in_ok-kind_in_front.ensures d ws more spells e) spells

pub returns-in-Sign-clause-only : goal.returns-in-Sign-clause-only
returns-in-Sign-clause-only c = λ d ws more spells first e.
    by_sign (λ (x : Clause). SaysClause x ws → IsSomeAnd c.sign_at.result (λ r. (clause_of r.0 ≡ x) × (lexemes r.1.now ≡ more))) (λ s spelled. c.sign_at.ensures.only s ws more spelled first e) d
    (ap Some (sym c.in-Sign.is) ∙ c.in_ok-kind_in_front.ensures d ws more spells e) spells

pub returns-in-Occurs-clause-only : goal.returns-in-Occurs-clause-only
returns-in-Occurs-clause-only c = λ d ws more spells first e.
    by_occurs (λ (x : Clause). SaysClause x ws → IsSomeAnd c.occurs_at.result (λ r. (clause_of r.0 ≡ x) × (lexemes r.1.now ≡ more))) (λ t spelled. c.occurs_at.ensures.only t ws more spelled first e) d
    (ap Some (sym c.in-Occurs.is) ∙ c.in_ok-kind_in_front.ensures d ws more spells e) spells

pub returns-in-Value-clause-only : goal.returns-in-Value-clause-only
returns-in-Value-clause-only c = λ d ws more spells first e.
    by_value (λ (x : Clause). SaysClause x ws → IsSomeAnd c.value_at.result (λ r. (clause_of r.0 ≡ x) × (lexemes r.1.now ≡ more))) (λ v spelled. c.value_at.ensures.only v ws more spelled first e) d
    (ap Some (sym c.in-Value.is) ∙ c.in_ok-kind_in_front.ensures d ws more spells e) spells

pub returns-in-Justified-clause-only : goal.returns-in-Justified-clause-only
returns-in-Justified-clause-only c = λ d ws more spells first e.
    by_justified (λ (x : Clause). SaysClause x ws → IsSomeAnd c.justified_at.result (λ r. (clause_of r.0 ≡ x) × (lexemes r.1.now ≡ more))) (λ spelled. c.justified_at.ensures.only ws more spelled first e) d
    (ap Some (sym c.in-Justified.is) ∙ c.in_ok-kind_in_front.ensures d ws more spells e) spells

pub returns-in-Blank-clause-only : goal.returns-in-Blank-clause-only
returns-in-Blank-clause-only c = λ d ws more spells first e.
    by_blank (λ (x : Clause). SaysClause x ws → IsSomeAnd c.blank_at.result (λ r. (clause_of r.0 ≡ x) × (lexemes r.1.now ≡ more))) (λ spelled. c.blank_at.ensures.only ws more spelled first e) d
    (ap Some (sym c.in-Blank.is) ∙ c.in_ok-kind_in_front.ensures d ws more spells e) spells
