use Rattle.cob_back_moves.proofs.lossless.returns.Goals as goal

pub returns : goal.returns
returns c =
    let a = c.are_simple.ensures.0 c.if-not-are_simple.false in
    let b = c.are_simple-2.ensures.0 c.if-not-are_simple-2.false in (
      λ e. record {
        storage = c.stand_one_way.ensures.0 c.if-not-stand_one_way.false;
        storage_back = c.stand_one_way-2.ensures.0 c.if-not-stand_one_way-2.false;
        returns = record {
          elementary = a.elementary;
          elementary_back = b.elementary;
          pictured = a.pictured;
          pictured_back = b.pictured;
          once = a.once;
          once_back = b.once;
          named = c.are_all_named.ensures.0 c.if-not-are_all_named.false;
          returned = c.return_all.ensures.0 e;
        };
      },
      λ all. c.return_all.ensures.1 all.returns.returned,
    )
