use Rattle.cob_codec_lanes.proofs.LongPlaceLemmas.{places_found}
use Rattle.cob_codec_lanes.proofs.long_places.LongPlaces.at.Goals as goal

pub returns : goal.returns
returns c =
    let bytes = c.args.bytes.now in
    record {
      few = c.requires.few;
      within = c.requires.within;
      first = places_found 0 bytes c.places_from.result.lanes c.places_from.ensures.each c.places_from.ensures.rest;
      second = places_found 16 bytes c.places_from-2.result.lanes c.places_from-2.ensures.each c.places_from-2.ensures.rest;
      third = places_found 32 bytes c.places_from-3.result.lanes c.places_from-3.ensures.each c.places_from-3.ensures.rest;
    }
