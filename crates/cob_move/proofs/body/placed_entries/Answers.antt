use Rattle.std.proofs.Common.{◌≡◌, ◌∷◌, [], ◌++◌, List, length, map, refl, sym, ap, subst, ◌∙◌, append_assoc, append-nil, arith}
use Rattle.std.specs.List.{AllByRecursion}
use Rattle.std.specs.Vec.Iter.{into_iter_items}
use Rattle.std.proofs.lemmas.List.{map-append}
use Rattle.cob_move_apply.specs.declared.placed.PlacedEntry.{PlacedEntry}
use Rattle.cob_move_apply.specs.Entries.{IsPlacedEntry}
use Rattle.cob_move_tests.specs.Asked.{IsSubscriptedEntry}
use Rattle.cob_move_tests.specs.declared.entries.NamedEntry.{NamedEntry}
use Rattle.cob_move.specs.Among.{both}
use Rattle.cob_move.specs.DeedsRead.{named_of}
use Rattle.cob_move.proofs.AskedLemmas.{named_as, none_left}
use Rattle.cob_move.proofs.SomeLemmas.{all_append, all_here}
use Rattle.cob_move.proofs.body.placed_entries.Goals as goal

pub new-entry-requires : goal.new-entry-requires
new-entry-requires c =
    let at = c.loop-named in
    let x = c.in-Some.named in
    let steps : into_iter_items at.named-iterator ≡ x ∷ into_iter_items c.next.new.self = c.in-Some.ensures.steps.0 in
    let whole : c.args.asked.items ≡ at.yielded ++ x ∷ into_iter_items c.next.new.self = sym at.invariant.all ∙ ap (λ (t : List NamedEntry). at.yielded ++ t) steps in
    record { operand = all_here (IsSubscriptedEntry (both c.args.input.now c.args.output.now)) at.yielded (into_iter_items c.next.new.self) x (subst (AllByRecursion (IsSubscriptedEntry (both c.args.input.now c.args.output.now))) whole c.requires.operands) }

pub loop-named-preserved : goal.loop-named-preserved
loop-named-preserved c =
    let at = c.loop-named in
    let x = c.in-Some.named in
    let e = c.new-entry.result in
    let r = both c.args.input.now c.args.output.now in
    let steps : into_iter_items at.named-iterator ≡ x ∷ into_iter_items c.next.new.self = c.in-Some.ensures.steps.0 in record {
      all = append_assoc at.yielded (x ∷ []) (into_iter_items c.next.new.self) ∙ ap (λ (t : List NamedEntry). at.yielded ++ t) (sym steps) ∙ at.invariant.all;
      left = omega (arith, at.invariant.left, c.in-Some.ensures.steps.1, ap length steps);
      named = ap (map named_of) c.in_ok-push.ensures.items ∙ map-append named_of at.placed.items (e ∷ []) ∙ ap (λ (n : NamedEntry). map named_of at.placed.items ++ n ∷ []) (named_as e x c.new-entry.ensures.side c.new-entry.ensures.entry)
          ∙ ap (λ (t : List NamedEntry). t ++ x ∷ []) at.invariant.named;
      placed = subst (AllByRecursion (IsPlacedEntry r)) (sym c.in_ok-push.ensures.items) (all_append (IsPlacedEntry r) at.placed.items (e ∷ []) at.invariant.placed (c.new-entry.ensures.placed, tt));
    }

pub returns-clause-named : goal.returns-clause-named
returns-clause-named c =
    let at = c.loop-named in
    let none = c.in-None.ensures.steps in
    let empty : into_iter_items at.named-iterator ≡ [] = none_left (into_iter_items at.named-iterator) (sym at.invariant.left ∙ none.0) in
    at.invariant.named ∙ sym (append-nil at.yielded) ∙ ap (λ (t : List NamedEntry). at.yielded ++ t) (sym empty) ∙ at.invariant.all

pub returns-clause-placed : goal.returns-clause-placed
returns-clause-placed c = c.loop-named.invariant.placed
