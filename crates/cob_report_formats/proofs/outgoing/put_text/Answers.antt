use Rattle.std.proofs.Common.{◌≡◌, ◌∙◌, ◌++◌, List, ℕ, ap, drop, sym, take}
use Rattle.std.proofs.lemmas.List.{take-append-drop}
use Rattle.cob_report_formats.proofs.WrittenLemmas.{piece_written}
use Rattle.cob_report_formats.proofs.outgoing.put_text.Goals as goal

pub loop-rest-preserved : goal.loop-rest-preserved
loop-rest-preserved g c =
    let m : ℕ = c.min.result in
    let front : take m c.loop-rest.rest.now ≡ c.split_at.result.0.now = sym c.split_at.ensures.front in
    let back : drop m c.loop-rest.rest.now ≡ c.split_at.result.1.now = sym c.split_at.ensures.back in
    let whole : c.loop-rest.rest.now ≡ c.split_at.result.0.now ++ c.split_at.result.1.now =
    sym (take-append-drop m c.loop-rest.rest.now) ∙ ap (λ (xs : List ℕ). xs ++ drop m c.loop-rest.rest.now) front ∙ ap (λ (xs : List ℕ). c.split_at.result.0.now ++ xs) back in
    piece_written c.args.text.now c.loop-rest.rest.now c.split_at.result.0.now c.split_at.result.1.now c.loop-rest.sent c.put.new.sent
    (g.W.Sink.taken c.args.sink.now) (g.W.Sink.taken c.loop-rest.sink) (g.W.Sink.taken c.put.new.sink) c.loop-rest.invariant whole c.in_ok-put.ensures.lines
