use Rattle.std.proofs.Common.{◌≡◌, ◌∙◌, ◌++◌, [], ◌∷◌, List, ap, subst, sym}
use Rattle.std.proofs.lemmas.List.{map-append}
use Rattle.cob_source.specs.Tokens.{lexemes}
use Rattle.cob_move_statements.specs.Written.{WrittenReference, written_reference, written_references}
use Rattle.cob_move_statements.specs.Statements.{EndsReferences, FitsReference, IsReference}
use Rattle.cob_move_statements.proofs.Runs.{SoFar, begins, goes_on, ends_found, ends_only}
use Rattle.cob_move_statements.proofs.ReferenceLemmas.{references_run, shorter}
use Rattle.cob_move_statements.proofs.references.references_at.Goals as goal

pub loop-reference-init : goal.loop-reference-init
loop-reference-init c =
    subst (λ (ds : List WrittenReference). SoFar IsReference EndsReferences (lexemes c.args.words.now) (lexemes c.args.words.now) ds) (sym (ap written_references c.in_ok-references.ensures.items))
    (begins IsReference EndsReferences (lexemes c.args.words.now))

pub loop-reference-preserved : goal.loop-reference-preserved
loop-reference-preserved c =
    let (own, is, e) = c.in-Some.ensures.found in
    let items : written_references c.push.new.self.items ≡ written_references c.loop-reference.references.items ++ written_reference c.in-Some.reference ∷ [] =
    ap written_references c.in_ok-push.ensures.items ∙ map-append written_reference c.loop-reference.references.items (c.in-Some.reference ∷ []) in
    subst (λ (ds : List WrittenReference). SoFar IsReference EndsReferences (lexemes c.args.words.now) (lexemes c.in-Some.more.now) ds) (sym items)
    (goes_on IsReference FitsReference EndsReferences references_run (lexemes c.args.words.now) (lexemes c.loop-reference.rest.now) own (lexemes c.in-Some.more.now) (written_references c.loop-reference.references.items)
    (written_reference c.in-Some.reference) c.loop-reference.invariant is e (λ u ws more it fit cut. c.in-Some.ensures.only u ws more it fit.0 fit.1 cut))

pub loop-reference-smaller : goal.loop-reference-smaller
loop-reference-smaller c =
    let (own, is, e) = c.in-Some.ensures.found in
    shorter (written_reference c.in-Some.reference) own (lexemes c.loop-reference.rest.now) (lexemes c.in-Some.more.now) is e

pub returns-clause-found : goal.returns-clause-found
returns-clause-found c = ends_found IsReference EndsReferences (lexemes c.args.words.now) (lexemes c.loop-reference.rest.now) (written_references c.loop-reference.references.items) c.loop-reference.invariant

pub returns-clause-only : goal.returns-clause-only
returns-clause-only c =
    ends_only IsReference FitsReference EndsReferences references_run (lexemes c.args.words.now) (lexemes c.loop-reference.rest.now) (written_references c.loop-reference.references.items) c.loop-reference.invariant
    (λ u ws more it fit cut. c.in_default.ensures.only u ws more it fit.0 fit.1 cut)
