use Rattle.cob_source_copies.proofs.LibraryLemmas.{one_library}
use Rattle.cob_source_copies.proofs.laws.one_library.Goals as goal

pub returns : goal.returns
returns c = λ ts before a b x y. one_library c.words_in_are_one.ensures c.one_expansion.ensures ts before a b x y
