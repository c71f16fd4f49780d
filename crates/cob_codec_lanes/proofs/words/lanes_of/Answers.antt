use Rattle.std.proofs.Common.{◌<◌, get_or, arith}
use Rattle.cob_codec_lanes.proofs.WordLemmas.{AreSplit, pair_small, made_valid, made_value}
use Rattle.cob_codec_lanes.proofs.words.lanes_of.Goals as goal

pub bytes_in_turn-requires-clause-small_a : goal.bytes_in_turn-requires-clause-small_a
bytes_in_turn-requires-clause-small_a c = λ i lt.
    let small : get_or c.in_turn-pairs.result i 0 < 100 =
    pair_small c.args.number c.fours_of-fours.result c.hundreds-front.result c.units.result c.in_turn-pairs.result c.requires c.fours_of-fours.ensures.lanes c.hundreds-front.ensures.lanes c.units.ensures.lanes c.in_turn-pairs.ensures.even c.in_turn-pairs.ensures.odd i lt in
    omega (arith, c.tens-first.ensures.lanes i lt)

pub returns-clause-valid : goal.returns-clause-valid
returns-clause-valid c =
    let m : AreSplit c.fours_of-fours.result c.hundreds-front.result c.units.result c.in_turn-pairs.result c.tens-first.result c.ones.result c.bytes_in_turn.result = record {
      long = c.bytes_in_turn.ensures.long;
      front_is = c.hundreds-front.ensures.lanes;
      rest_is = c.units.ensures.lanes;
      pairs_even = c.in_turn-pairs.ensures.even;
      pairs_odd = c.in_turn-pairs.ensures.odd;
      first_is = c.tens-first.ensures.lanes;
      last_is = c.ones.ensures.lanes;
      made_even = c.bytes_in_turn.ensures.even;
      made_odd = c.bytes_in_turn.ensures.odd;
    } in
    made_valid c.args.number _ _ _ _ _ _ c.bytes_in_turn.result c.requires c.fours_of-fours.ensures.lanes m

pub returns-clause-value : goal.returns-clause-value
returns-clause-value c =
    let m : AreSplit c.fours_of-fours.result c.hundreds-front.result c.units.result c.in_turn-pairs.result c.tens-first.result c.ones.result c.bytes_in_turn.result = record {
      long = c.bytes_in_turn.ensures.long;
      front_is = c.hundreds-front.ensures.lanes;
      rest_is = c.units.ensures.lanes;
      pairs_even = c.in_turn-pairs.ensures.even;
      pairs_odd = c.in_turn-pairs.ensures.odd;
      first_is = c.tens-first.ensures.lanes;
      last_is = c.ones.ensures.lanes;
      made_even = c.bytes_in_turn.ensures.even;
      made_odd = c.bytes_in_turn.ensures.odd;
    } in
    made_value c.args.number _ _ _ _ _ _ c.bytes_in_turn.result c.requires c.fours_of-fours.ensures.lanes m
