use Rattle.cob_back_moves.proofs.noted.note.Goals as goal

pub returns-in-Some : goal.returns-in-Some
returns-in-Some c = λ does. record {
  at = c.in-Some.at;
  begins = c.in-Some.ensures;
  statement = c.args.statement;
  first = c.note_at.ensures does;
}
