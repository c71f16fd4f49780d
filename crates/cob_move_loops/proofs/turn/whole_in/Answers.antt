use Rattle.std.proofs.Common.{ℕ, subst}
use Rattle.std.specs.Prelude.{IfSome, Option}
use Rattle.cob_copybook_entries.specs.Meaning.{IsIntegerText}
use Rattle.cob_move_loops.proofs.NumberLemmas.{whole_is}
use Rattle.cob_move_loops.proofs.turn.whole_in.Goals as goal

pub returns : goal.returns
returns c =
    whole_is c.args.text.now c.whole.result (λ n e. subst (λ (o : Option ℕ). IfSome o (λ m. IsIntegerText 9 c.args.text.now m)) e c.whole.ensures.found) c.whole.ensures.only
