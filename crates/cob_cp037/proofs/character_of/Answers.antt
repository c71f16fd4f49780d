use Rattle.cob_cp037.proofs.TableLemmas.{character_coded, coded}
use Rattle.cob_cp037.proofs.character_of.Goals as goal

pub returns-clause-found : goal.returns-clause-found
returns-clause-found c = λ some. character_coded c.args.byte some

pub returns-clause-only : goal.returns-clause-only
returns-clause-only c = λ character pair. ((coded character c.args.byte pair).character_is, (coded character c.args.byte pair).character_some)
