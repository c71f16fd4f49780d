use Rattle.cob_copybook_tree.specs.Nodes.{node}
use Rattle.cob_layout_places.proofs.PlaceLemmas.{entry_fits}
use Rattle.cob_layout.proofs.spots.put_all_spots.Goals as goal

pub put_spots-requires-clause-fit : goal.put_spots-requires-clause-fit
put_spots-requires-clause-fit c = entry_fits 0 (node c.args.root.now).top (node c.args.root.now).beneath c.requires.fit
