use Rattle.std.proofs.Common.{refl, ◌∷◌, []}
use Rattle.cob_source.specs.Tokens.{lexemes}
use Rattle.cob_move_statements.proofs.ParagraphLemmas.{longest}
use Rattle.cob_move_statements.proofs.paragraph.behind_heading.Goals as goal

pub returns-in-Some-clause-found : goal.returns-in-Some-clause-found
returns-in-Some-clause-found c =
    let (name, stop, is, ends, e) = c.in-Some.ensures.found in
    record { heading = name ∷ (stop ∷ []); named = (is, ends); words_are = e; longest = longest (lexemes c.args.words.now) (lexemes c.in-Some.more.now) c.in-Some.ensures.only }

pub returns-in-None-clause-found : goal.returns-in-None-clause-found
returns-in-None-clause-found c = record {
  heading = [];
  named = tt;
  words_are = refl;
  longest = longest (lexemes c.args.words.now) (lexemes c.args.words.now) (λ name stop more is ends e. absurd (c.in-None.ensures.only name stop more is ends e));
}
