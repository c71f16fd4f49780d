use Rattle.std.proofs.Common.{◌≡◌, Bool, false, refl, subst, sym, rules}
use Rattle.std.specs.Bool.{Decides}
use Rattle.std.proofs.lemmas.Bool.Decides.{not_from_Decides}
use Rattle.cob_move_data.specs.Singles.{plain_element}
use Rattle.cob_back_moves.specs.Singles.{ReceiveOnce}
use Rattle.cob_back_moves.specs.Brought.{singles_in}
use Rattle.cob_back_moves.specs.Tested.{layout_records}
use Rattle.cob_back_moves.proofs.LeftLemmas.{never}
use Rattle.cob_back_moves.proofs.OnceLemmas.{once_any}
use Rattle.cob_back_moves.proofs.once.receive_once_in.Goals as goal

pub returns-in-None : goal.returns-in-None
returns-in-None c = let m = c.args.moves.now in (λ e. c.in-None.ensures m.layouts.reading (layout_records m.layouts), λ h. refl)

pub returns-then-receives_once : goal.returns-then-receives_once
returns-then-receives_once c = let m = c.args.moves.now in c.receive_once.ensures m.layouts.reading (layout_records m.layouts)

pub returns-else-receives_once : goal.returns-else-receives_once
returns-else-receives_once c =
    let m = c.args.moves.now in
    let fails : c.receives_once.result ≡ false = search rules in
    let twice = not_from_Decides c.receives_once.result (c.receives_once.ensures m.layouts.reading (layout_records m.layouts)) fails in
    subst (λ (b : Bool). Decides b (ReceiveOnce (singles_in m))) (sym fails)
    (never (ReceiveOnce (singles_in m)) (λ once. twice (once_any (singles_in m) once (plain_element c.in-Some.element))))
