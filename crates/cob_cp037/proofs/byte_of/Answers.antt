use Rattle.cob_cp037.proofs.TableLemmas.{byte_coded, coded}
use Rattle.cob_cp037.proofs.byte_of.Goals as goal

pub returns-clause-found : goal.returns-clause-found
returns-clause-found c = λ some. byte_coded c.args.character some

pub returns-clause-only : goal.returns-clause-only
returns-clause-only c = λ byte pair. ((coded c.args.character byte pair).byte_is, (coded c.args.character byte pair).byte_some)
