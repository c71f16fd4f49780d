use Rattle.cob_cp037.proofs.NamedLemmas.{bytes_are_named}
use Rattle.cob_cp037.proofs.named.constants_are_the_bytes.Goals as goal

pub returns-clause-named : goal.returns-clause-named
returns-clause-named c = bytes_are_named
