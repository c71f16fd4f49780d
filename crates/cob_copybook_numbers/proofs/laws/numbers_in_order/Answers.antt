use Rattle.cob_copybook_numbers.proofs.Orders.{book_in_order}
use Rattle.cob_copybook_numbers.proofs.laws.numbers_in_order.Goals as goal

pub returns : goal.returns
returns c = book_in_order
