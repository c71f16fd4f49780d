use Rattle.std.proofs.Common.{◌≡◌, List, refl, subst, sym}
use Rattle.cob_move_data.specs.Moves.{AreMoves, Move, Records}
use Rattle.cob_move_deeds.specs.Deeds.{moves_of_deeds}
use Rattle.cob_move_deeds.specs.Prepared.{AreDeedsPrepared, HaveAllMoves, deeds_of}
use Rattle.cob_convert_record.specs.Conversion.{Conversion, HasImage}
use Rattle.cob_convert_record.proofs.conversion.Conversion.deeds.Goals as goal

pub returns-clause-value : goal.returns-clause-value
returns-clause-value c =
    subst (λ (x : Conversion). deeds_of x.records c.self.inside.deeds ≡ x.deeds) c.self.view_is refl

pub returns-clause-prepared : goal.returns-clause-prepared
returns-clause-prepared c =
    let (ready, whole, image, long, comes, goes) = c.self.invariant in
    subst (λ (x : Conversion). AreDeedsPrepared x.records c.self.inside.deeds) c.self.view_is ready

pub returns-clause-whole : goal.returns-clause-whole
returns-clause-whole c =
    let (ready, whole, image, long, comes, goes) = c.self.invariant in
    subst (λ (x : Conversion). HaveAllMoves x.records c.self.inside.deeds) c.self.view_is whole

pub returns-clause-between : goal.returns-clause-between
returns-clause-between c =
    let r : Records = record { input = c.self.inside.input; output = c.self.inside.output } in
    let (ready, whole, image, long, comes, goes) = c.self.invariant in
    subst (λ (x : Conversion). AreMoves x.records (moves_of_deeds x.deeds)) c.self.view_is
    (subst (λ (ms : List Move). AreMoves r ms) (sym whole) (ready.moves.moves c.self.inside.deeds.moves.moves.reading))

pub returns-clause-image : goal.returns-clause-image
returns-clause-image c =
    let (ready, whole, image, long, comes, goes) = c.self.invariant in
    subst (λ (x : Conversion). HasImage x.records.output) c.self.view_is (c.self.inside.image.items, image, long)
