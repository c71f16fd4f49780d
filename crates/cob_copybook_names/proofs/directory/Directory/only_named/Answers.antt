use Rattle.std.proofs.Common.{◌≡◌, ◌++◌, ◌+◌, ◌<◌, ℕ, List, Option, Bor, false, map, length, take, true, sym, subst, ap, ◌∙◌, arith}
use Rattle.std.proofs.lemmas.List.{length-map}
use Rattle.cob_copybook_names.specs.Links.{entries_up_to, IsLast}
use Rattle.cob_copybook_names.specs.Listed.{found_list, seen, texts}
use Rattle.cob_copybook_names.specs.Naming.{named, own_names, qualifies}
use Rattle.cob_copybook_names.proofs.Namings.{front_at, inside_at, link_at, name_at, walk_at, walk_meet, walk_start, walk_step, walk_twice}
use Rattle.cob_copybook_names.proofs.directory.Directory.only_named.Goals as goal
use Rattle.cob_copybook_names.proofs.directory.Directory.only_named.Goals.{After-index-place, then-qualify+else-is_some, else-qualify}

pub loop-place-init : goal.loop-place-init
loop-place-init g c =
    let cs = c.args.self.now.bearers.items in
    let all = map seen cs in
    let same = c.copied-place.ensures ∙ c.get.ensures.value in
    let last : IsLast (own_names all) c.args.name.now (length cs) c.copied-place.result = subst (IsLast (own_names all) c.args.name.now (length cs)) (sym same) (c.args.self.now.latest c.args.name.now) in
    record { inside = last.before; borne = last.bears; whole = walk_start c.args.name.now (g.Q.Qualifiers.names c.args.qualifiers) all (length cs) c.copied-place.result (length-map cs seen) last }

pub returns-then-is_some-clause-fault : goal.returns-then-is_some-clause-fault
returns-then-is_some-clause-fault g c =
    let cs = c.args.self.now.bearers.items in
    let name = c.args.name.now in
    let p = c.in-Some.here in
    let item = c.index-bearer.result in
    let lt = inside_at c.loop-place.place p (length cs) c.in-Some.is c.loop-place.invariant.inside in
    let bears = sym (name_at cs p item.now lt c.index-bearer.ensures) ∙ c.loop-place.invariant.borne p c.in-Some.is in
    let all = map seen cs in
    let qs = (g.Q.Qualifiers.names c.args.qualifiers) in
    let front = front_at cs c.loop-place.place p item.now c.in-Some.is lt c.index-bearer.ensures in
    let above : qualifies qs (texts c.as_slice.result.now) ≡ qualifies qs (seen item.now).above = ap (λ (t : List (Bor (List ℕ))). qualifies qs (texts t)) c.as_slice.ensures.value in
    walk_twice (named name qs all) (named name qs (take p all)) (seen item.now) c.loop-place.found (sym c.is_some.ensures ∙ c.if-is_some.true)
    (walk_at name qs all c.loop-place.place p (seen item.now) true (found_list c.loop-place.found) front bears (sym above ∙ sym c.qualify.ensures ∙ c.if-qualify.true) c.loop-place.invariant.whole)

-- the place before this one
earlier_at : (g : _) (c : After-index-place g) → IsLast (own_names (map seen c.args.self.now.bearers.items)) c.args.name.now c.in-Some.here c.index-place.result.now
earlier_at g c =
    let cs = c.args.self.now.bearers.items in
    let lt = inside_at c.loop-place.place c.in-Some.here (length cs) c.in-Some.is c.loop-place.invariant.inside in
    link_at cs c.args.self.now.earlier.items c.args.name.now c.loop-place.place c.in-Some.here c.index-place.result.now c.args.self.now.sized c.args.self.now.linked c.in-Some.is lt
    (c.loop-place.invariant.borne c.in-Some.here c.in-Some.is) c.index-place.ensures

pub loop-place-smaller : goal.loop-place-smaller
loop-place-smaller g c =
    let l = earlier_at g (goal.at.loop-place-smaller g c).After-index-place in
    let less : entries_up_to c.index-place.result.now < c.in-Some.here + 1 = omega (arith, l.before) in
    subst (λ (o : Option ℕ). entries_up_to c.index-place.result.now < entries_up_to o) (sym c.in-Some.is) less

pub loop-place-preserved : goal.loop-place-preserved
loop-place-preserved g c =
    let cs = c.args.self.now.bearers.items in
    let all = map seen cs in
    let name = c.args.name.now in
    let qs = (g.Q.Qualifiers.names c.args.qualifiers) in
    let p = c.in-Some.here in
    let item = c.index-bearer.result in
    let next = c.index-place.result.now in
    let lt = inside_at c.loop-place.place p (length cs) c.in-Some.is c.loop-place.invariant.inside in
    let l = earlier_at g (goal.at.loop-place-preserved g c).After-index-place in
    let bears = sym (name_at cs p item.now lt c.index-bearer.ensures) ∙ c.loop-place.invariant.borne p c.in-Some.is in
    let front = front_at cs c.loop-place.place p item.now c.in-Some.is lt c.index-bearer.ensures in
    let above : qualifies qs (texts c.as_slice.result.now) ≡ qualifies qs (seen item.now).above = ap (λ (t : List (Bor (List ℕ))). qualifies qs (texts t)) c.as_slice.ensures.value in
    let whole : named name qs all ≡ named name qs (take (entries_up_to next) all) ++ found_list c.if-qualify.found = elim c.if-qualify.branch [
      | then-qualify+else-is_some w ↦ subst (λ f. named name qs all ≡ named name qs (take (entries_up_to next) all) ++ found_list f) (sym w.found-is)
          (walk_meet name qs all next item c.loop-place.found (sym (w.is_some.ensures) ∙ w.if-is_some.false)
          (walk_step name qs all c.loop-place.place next p (seen item.now) true (found_list c.loop-place.found) front l bears (sym above ∙ sym c.qualify.ensures ∙ w.if-qualify.true) c.loop-place.invariant.whole))
      | else-qualify w ↦ subst (λ f. named name qs all ≡ named name qs (take (entries_up_to next) all) ++ found_list f) (sym w.found-is)
          (walk_step name qs all c.loop-place.place next p (seen item.now) false (found_list c.loop-place.found) front l bears (sym above ∙ sym c.qualify.ensures ∙ w.if-qualify.false) c.loop-place.invariant.whole)
    ] in
    record { inside = omega (arith, l.before, lt); borne = l.bears; whole = whole }
