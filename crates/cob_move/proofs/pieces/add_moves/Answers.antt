use Rattle.std.proofs.Common.{◌≡◌, ◌∙◌, sym, true, false}
use Rattle.std.proofs.lemmas.List.{length-map}
use Rattle.cob_move_statements.specs.Written.{written_statement, written_statements}
use Rattle.cob_move.proofs.pieces.add_moves.Goals as goal

pub returns-in_default-clause-added : goal.returns-in_default-clause-added
returns-in_default-clause-added c = λ yes. absurd (let never : false ≡ true = yes in cc)

pub returns-in_default-2-clause-added : goal.returns-in_default-2-clause-added
returns-in_default-2-clause-added c = λ yes. absurd (let never : false ≡ true = yes in cc)

pub returns-clause-added : goal.returns-clause-added
returns-clause-added c = λ yes. record {
  statements = written_statements c.as_slice.result.now;
  own = c.in-Some-2.own.items;
  plain = rw c.in-Some.is at c.in_ok-read.ensures.plain;
  spelled = let is = rw c.in-Some.is at c.in_ok-read.ensures.found in rw c.as_slice.ensures.value is;
  meant = rw c.in-Some-2.is at c.in_ok-own.ensures.found;
  many = let is = rw c.in-Some-2.is at c.in_ok-own.ensures.many in is ∙ sym (length-map c.as_slice.result.now written_statement);
  added = c.in_ok-append.ensures.items;
}
