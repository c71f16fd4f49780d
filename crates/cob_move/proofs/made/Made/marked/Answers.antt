use Rattle.std.proofs.Common.{ℕ, ◌-◌, List, length, ap, sym, ◌∙◌}
use Rattle.std.specs.List.{slice_get}
use Rattle.cob_move.proofs.CloseLemmas.{last_found}
use Rattle.cob_move.proofs.made.Made.marked.Goals as goal

pub returns-in-Some : goal.returns-in-Some
returns-in-Some c =
    last_found 0 c.args.self.now.ends.items c.in-Some.end.now (c.in-Some.ensures.value ∙ ap (λ (xs : List ℕ). slice_get xs (length xs - 1)) c.deref.ensures.value)
