use Rattle.std.proofs.Common.{◌≡◌, ◌∙◌, ap, subst, sym}
use Rattle.cob_move_data.specs.Moves.{AreMoves, Records, moves_by}
use Rattle.cob_move_deeds.specs.Deeds.{Deeds, moves_of_deeds}
use Rattle.cob_move_deeds.specs.Tests.{Test}
use Rattle.cob_back_runs.proofs.converters.carried.Goals as goal

pub returns-clause-moves : goal.returns-clause-moves
returns-clause-moves c =
    ap (λ (d : Deeds Test). moves_of_deeds d) (sym c.deeds-deeds.ensures.value) ∙ c.deeds-deeds.ensures.whole ∙ c.statements.ensures c.args.conversion.now.records
    ∙ ap (λ x. moves_by x c.args.conversion.now.records c.statements.result.now) (sym c.reading.ensures)
    ∙ ap (λ (r : Records). moves_by c.reading.result r c.statements.result.now) c.layouts.ensures

pub returns-clause-legal : goal.returns-clause-legal
returns-clause-legal c =
    let r : Records = record { input = c.layouts.result.0.now; output = c.layouts.result.1.now } in
    let same : moves_of_deeds c.args.conversion.now.deeds ≡ moves_by c.reading.result r c.statements.result.now =
    ap (λ (d : Deeds Test). moves_of_deeds d) (sym c.deeds-deeds.ensures.value) ∙ c.deeds-deeds.ensures.whole ∙ c.statements.ensures c.args.conversion.now.records
    ∙ ap (λ x. moves_by x c.args.conversion.now.records c.statements.result.now) (sym c.reading.ensures)
    ∙ ap (λ (r : Records). moves_by c.reading.result r c.statements.result.now) c.layouts.ensures in
    record {
      sound = record {
        input = c.records_are_sound.ensures c.layouts.result.0.now c.root.ensures.record;
        output = c.records_are_sound.ensures c.layouts.result.1.now c.root-2.ensures.record;
      };
      moves = subst (AreMoves r) same (subst (λ (x : Records). AreMoves x (moves_of_deeds c.args.conversion.now.deeds)) c.layouts.ensures c.deeds-deeds.ensures.between);
    }

pub returns-clause-prepared : goal.returns-clause-prepared
returns-clause-prepared c = record {
  input = rw c.layouts.ensures c.root.ensures.record;
  output = rw c.layouts.ensures c.root-2.ensures.record;
  image = c.deeds-deeds.ensures.image;
  moves = c.deeds-deeds.ensures.between;
}
