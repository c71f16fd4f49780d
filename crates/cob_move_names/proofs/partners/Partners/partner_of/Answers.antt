use Rattle.std.proofs.Common.{◌≡◌, ◌++◌, ◌+◌, ◌<◌, ℕ, Option, Bor, false, get_or, length, take, true, refl, sym, subst, ap, ◌∙◌, arith}
use Rattle.std.proofs.lemmas.List.{length-map}
use Rattle.cob_copybook_names.specs.Links.{entries_up_to, IsLast}
use Rattle.cob_move_names.specs.declared.subordinate.Subordinate.{Subordinate as Listed}
use Rattle.cob_move_names.specs.PlainPairs.{subordinate, subordinates_listed}
use Rattle.cob_move_names.specs.Pairs.{partners}
use Rattle.cob_move_names.specs.Partners.{names_listed, partner_list}
use Rattle.cob_move_names.proofs.PartnerLemmas.{front_at, inside_at, link_at, walk_at, walk_meet, walk_start, walk_step, walk_twice}
use Rattle.cob_move_names.proofs.partners.Partners.partner_of.Goals as goal
use Rattle.cob_move_names.proofs.partners.Partners.partner_of.Goals.{After-index-place, then-correspond+else-is_some, else-correspond}

pub loop-place-init : goal.loop-place-init
loop-place-init c =
    let cs = c.args.self.now.entries.items in
    let all = subordinates_listed cs in
    let x = subordinate c.args.from.now in
    let same = c.copied-place.ensures ∙ c.get.ensures.value in
    let last : IsLast (names_listed all) x.name (length cs) c.copied-place.result = subst (IsLast (names_listed all) x.name (length cs)) (sym same) (c.args.self.now.latest x.name) in
    record { inside = last.before; borne = last.bears; whole = walk_start x all (length cs) c.copied-place.result (length-map cs subordinate) last }

pub returns-then-is_some-clause-fault : goal.returns-then-is_some-clause-fault
returns-then-is_some-clause-fault c =
    let cs = c.args.self.now.entries.items in
    let x = subordinate c.args.from.now in
    let p = c.in-Some.here in
    let item = c.index-entry.result.now in
    let read : item ≡ get_or cs p item = c.index-entry.ensures in
    let lt = inside_at c.loop-place.place p (length cs) c.in-Some.is c.loop-place.invariant.inside in
    let all = subordinates_listed cs in
    let front = front_at cs c.loop-place.place p item c.in-Some.is lt read in (
      refl,
      walk_twice (partners all x) (partners (take p all) x) (subordinate item) c.loop-place.found (sym c.is_some.ensures ∙ c.if-is_some.true)
          (walk_at x all c.loop-place.place p (subordinate item) true (partner_list c.loop-place.found) front (sym c.correspond.ensures ∙ c.if-correspond.true) c.loop-place.invariant.whole),
    )

-- the place before this one
earlier_at : (c : After-index-place) → IsLast (names_listed (subordinates_listed c.args.self.now.entries.items)) (subordinate c.args.from.now).name c.in-Some.here c.index-place.result.now
earlier_at c =
    let cs = c.args.self.now.entries.items in
    let lt = inside_at c.loop-place.place c.in-Some.here (length cs) c.in-Some.is c.loop-place.invariant.inside in
    link_at cs c.args.self.now.earlier.items (subordinate c.args.from.now).name c.loop-place.place c.in-Some.here c.index-place.result.now c.args.self.now.sized c.args.self.now.linked c.in-Some.is lt
    (c.loop-place.invariant.borne c.in-Some.here c.in-Some.is) c.index-place.ensures

pub loop-place-smaller : goal.loop-place-smaller
loop-place-smaller c =
    let l = earlier_at (goal.at.loop-place-smaller c).After-index-place in
    let less : entries_up_to c.index-place.result.now < c.in-Some.here + 1 = omega (arith, l.before) in
    subst (λ (o : Option ℕ). entries_up_to c.index-place.result.now < entries_up_to o) (sym c.in-Some.is) less

pub loop-place-preserved : goal.loop-place-preserved
loop-place-preserved c =
    let cs = c.args.self.now.entries.items in
    let all = subordinates_listed cs in
    let x = subordinate c.args.from.now in
    let p = c.in-Some.here in
    let item = c.index-entry.result.now in
    let read : item ≡ get_or cs p item = c.index-entry.ensures in
    let next = c.index-place.result.now in
    let lt = inside_at c.loop-place.place p (length cs) c.in-Some.is c.loop-place.invariant.inside in
    let l = earlier_at (goal.at.loop-place-preserved c).After-index-place in
    let front = front_at cs c.loop-place.place p item c.in-Some.is lt read in
    let whole : partners all x ≡ partners (take (entries_up_to next) all) x ++ partner_list c.if-correspond.found = elim c.if-correspond.branch [
      | then-correspond+else-is_some w ↦ walk_meet x all next item c.loop-place.found (sym (w.is_some.ensures) ∙ w.if-is_some.false)
          (walk_step x all c.loop-place.place next p (subordinate item) true (partner_list c.loop-place.found) front l (sym c.correspond.ensures ∙ w.if-correspond.true) c.loop-place.invariant.whole)
          ∙ ap (λ (f : Option (Bor Listed)). partners (take (entries_up_to next) all) x ++ partner_list f) (sym w.found-is)
      | else-correspond w ↦ subst (λ (f : Option (Bor Listed)). partners all x ≡ partners (take (entries_up_to next) all) x ++ partner_list f) (sym w.found-is)
          (walk_step x all c.loop-place.place next p (subordinate item) false (partner_list c.loop-place.found) front l (sym c.correspond.ensures ∙ w.if-correspond.false) c.loop-place.invariant.whole)
    ] in
    record { inside = omega (arith, l.before, lt); borne = l.bears; whole = whole }
