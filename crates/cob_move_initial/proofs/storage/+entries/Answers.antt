use Rattle.std.proofs.Common.{◌≡◌, ◌+◌, [], ◌++◌, length, take, is_some, refl, sym, subst, ap, ◌∙◌, arith}
use Rattle.std.proofs.lemmas.List.{append-nil, append_assoc, take_all, length-take, length-drop}
use Rattle.std.proofs.lemmas.Slice.{take-put_mid}
use Rattle.cob_copybook_tree.specs.Nodes.{node}
use Rattle.cob_copybook_tree.specs.Lengths.{greatest_number, sum_of, element_length, whole_length}
use Rattle.cob_layout.proofs.ForestLemmas.{left_is, left_end, redefines_of, element_small}
use Rattle.cob_move_initial.specs.Begun.{AreBegun}
use Rattle.cob_move_initial.specs.Ready.{HaveInitialStorage}
use Rattle.cob_move_initial.proofs.InitialLemmas.{elements_repeated, own_first, shared_first}
use Rattle.cob_move_initial.proofs.PartLemmas.{first_fits}
use Rattle.cob_move_initial.proofs.ReadyLemmas.{ready_first, ready_more, room_own, room_shared}
use Rattle.cob_move_initial.proofs.storage.+entries.Goals as goal
use Rattle.cob_move_initial.proofs.storage.+entries.Goals.{write_entries-then-is_none, write_entries-else-is_none}

pub write_elements-returns-clause-holds : goal.write_elements-returns-clause-holds
write_elements-returns-clause-holds t c =
    let n = c.args.entry.now in
    let least = first_fits (greatest_number (node n).top) (element_length greatest_number (node n).top (node n).beneath) c.requires.ready.occurs in
    let short = element_small 32752 (node n).top (node n).beneath c.requires.ready.occurs c.requires.ready.short in
    let size : c.element_length-size.result ≡ element_length greatest_number (node n).top (node n).beneath = omega (arith, short, c.element_length-size.ensures) in
    let long = simp length-take at c.write_element.ensures.room ∙ omega (arith, least, c.requires.room, c.element_length-size.ensures) in
    elements_repeated n c.most.result c.element_length-size.result c.write_element.new.bytes _ c.repeat.new.bytes c.most.ensures size long c.repeat.ensures.repeated c.write_element.ensures.holds

pub write_entries-loop-entry-preserved : goal.write_entries-loop-entry-preserved
write_entries-loop-entry-preserved t c =
    let n = c.entry-item.result in
    let before = c.loop-entry.invariant in
    let now = left_is c.args.entries.now c.loop-entry.entry-index n c.loop-entry-test.true c.entry-item.is in
    let ready = subst HaveInitialStorage now before.ready in
    let more = ready_more _ _ _ ready in
    let sum = ap (sum_of greatest_number) now in
    elim c.if-is_none.branch [
      | write_entries-then-is_none w ↦
          let own = ap is_some (redefines_of n) ∙ w.if-is_none.ensures in
          let first = ready_first _ _ _ own ready in
          let part = w.write_elements.new.bytes in
          let all : w.whole_length.result ≡ whole_length greatest_number (node n).top (node n).beneath = omega (arith, w.whole_length.ensures, first.short) in
          let taken = room_own (node n).top.redefines (whole_length greatest_number (node n).top (node n).beneath) own in
          let end : c.if-is_none.at ≡ c.loop-entry.at + w.whole_length.result = w.at-is in
          let long : length part ≡ w.whole_length.result = simp (length-take, length-drop) at w.write_elements.ensures.room ∙ omega (arith, sum, taken, all, before.room) in
          let front : take c.if-is_none.at c.if-is_none.bytes ≡ take c.loop-entry.at c.loop-entry.bytes ++ part = rw w.bytes-is (take-put_mid _ _ c.loop-entry.bytes part c.if-is_none.at (omega (arith, end, long)) (omega (arith, before.room))) in
          record {
            ready = more;
            room = omega (arith, sum, taken, all, before.room, end);
            same = omega arith;
            begun = λ behind is. rw (front, append_assoc) (before.begun (part ++ behind) (subst (λ f. AreBegun f (part ++ behind)) (sym now) (own_first (node n).top (node n).beneath _ part behind own w.write_elements.ensures.holds is)));
          }
      | write_entries-else-is_none w ↦
          let shared = ap is_some (redefines_of n) ∙ w.if-is_none.ensures in
          let taken = room_shared (node n).top.redefines (whole_length greatest_number (node n).top (node n).beneath) shared in
          record {
            ready = more;
            room = rw (w.at-is, w.bytes-is) (omega (arith, sum, taken, before.room));
            same = rw w.bytes-is before.same;
            begun = λ behind is. rw (w.at-is, w.bytes-is) (before.begun behind (subst (λ f. AreBegun f behind) (sym now) (shared_first (node n).top (node n).beneath _ behind shared is)));
          }
    ]

pub write_entries-returns-clause-begun : goal.write_entries-returns-clause-begun
write_entries-returns-clause-begun t c =
    let end = left_end c.args.entries.now c.loop-entry.entry-index c.loop-entry-test.false in
    let is = c.loop-entry.invariant.begun [] (subst (λ f. AreBegun f []) (sym end) refl) in
    let sum = ap (sum_of greatest_number) end in
    let all : take c.loop-entry.at c.loop-entry.bytes ≡ c.loop-entry.bytes = take_all _ _ (omega (arith, sum, c.loop-entry.invariant.room)) in
    rw (append-nil, all) at is
