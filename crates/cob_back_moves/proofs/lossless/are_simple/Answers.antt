use Rattle.cob_back_moves.proofs.lossless.are_simple.Goals as goal

pub returns : goal.returns
returns c = (
  λ e. record {
    elementary = c.are_elementary.ensures.0 c.if-not-are_elementary.false;
    pictured = c.are_read_pictured.ensures.0 c.if-not-are_read_pictured.false;
    once = c.receive_once_in.ensures.0 e;
  },
  λ simple. c.receive_once_in.ensures.1 simple.once,
)
