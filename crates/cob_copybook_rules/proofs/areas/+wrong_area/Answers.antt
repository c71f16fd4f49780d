use Rattle.std.proofs.Common.{◌≡◌, ◌≤◌, ℕ, ◌+◌, sym, ap, subst, ◌∙◌, List, [], drop, map, arith, refl}
use Rattle.std.specs.Option.{is_some}
use Rattle.cob_copybook_tree.specs.Forests.{Forest, Tree}
use Rattle.cob_copybook_tree.specs.Nodes.{Resolved, node, forest}
use Rattle.cob_copybook_tree.specs.Lengths.{greatest_number, sum_of}
use Rattle.cob_limits.specs.Limits.{longest_record}
use Rattle.cob_copybook_rules.specs.Areas.{AreAreas, ArePossible, area_with}
use Rattle.cob_copybook_rules.specs.Short.{IsShortArea}
use Rattle.cob_copybook_rules.proofs.NodeLemmas.{depth, less_deep, forest_at, beneath_out, node_out, part, part_more, part_one}
use Rattle.cob_copybook_rules.proofs.AreaLemmas.{whole_short, beneath_short, joined_short, joined_fresh, joined_more}
use Rattle.cob_copybook_rules.proofs.areas.+wrong_area.Goals as goal
use Rattle.cob_copybook_rules.proofs.areas.+wrong_area.Goals.{then-is_none, else-is_none}

pub wrong_area-requires : goal.wrong_area-requires
wrong_area-requires t c =
    let n = c.index-entries-i.result in
    let at = forest_at c.args.entries.now c.loop-i.i n (omega arith) c.index-entries-i.is in
    let area = map node (part c.loop-i.start c.loop-i.i c.args.entries.now) in
    let children : (node n).beneath ≡ forest c.as_slice.result.now = rw c.as_slice.ensures.value (beneath_out n) in
    let short = subst (λ (f : Forest Resolved). sum_of greatest_number f ≤ longest_record) at c.loop-i.invariant.short in
    let possible = subst ArePossible at c.loop-i.invariant.possible in
    let length = whole_short (node n).top.redefines area (node n) (sum_of greatest_number (forest (drop (c.loop-i.i + 1) c.args.entries.now))) c.loop-i.invariant.area (c.may_follow.ensures.yes c.if-not-may_follow.false) short in (
      (let below = less_deep c.args.entries.now c.as_slice.result.now c.loop-i.i n (omega arith) c.index-entries-i.is c.as_slice.ensures.value in let all : depth c.args.entries.now ≡ t = c.decreases in omega (arith, below, all)),
      (subst (λ (f : Forest Resolved). sum_of greatest_number f ≤ longest_record) children (beneath_short (node n) possible.0 possible.1 length), subst ArePossible children possible.2),
    )

pub returns-in-Some-clause-must : goal.returns-in-Some-clause-must
returns-in-Some-clause-must t c = λ h.
    let n = c.index-entries-i.result in
    let at = forest_at c.args.entries.now c.loop-i.i n (omega arith) c.index-entries-i.is in
    let area = map node (part c.loop-i.start c.loop-i.i c.args.entries.now) in
    let children : (node n).beneath ≡ forest c.as_slice.result.now = rw c.as_slice.ensures.value (beneath_out n) in
    let all = subst (AreAreas area) at (c.loop-i.invariant.whole h) in
    c.in-Some.ensures.must (subst (AreAreas []) children all.1)

pub loop-i-preserved : goal.loop-i-preserved
loop-i-preserved t c =
    let n = c.index-entries-i.result in
    let ns = c.args.entries.now in
    let at = forest_at ns c.loop-i.i n (omega arith) c.index-entries-i.is in
    let area = map node (part c.loop-i.start c.loop-i.i ns) in
    let o = (node n).top.redefines in
    let own : (node n).top.redefines ≡ _ = ap (λ (t : Tree Resolved). t.top.redefines) (node_out n) in
    let children : (node n).beneath ≡ forest c.as_slice.result.now = rw c.as_slice.ensures.value (beneath_out n) in
    let short = subst (λ (f : Forest Resolved). sum_of greatest_number f ≤ longest_record) at c.loop-i.invariant.short in
    let possible = subst ArePossible at c.loop-i.invariant.possible in
    let follows = c.may_follow.ensures.yes c.if-not-may_follow.false in
    let length = whole_short o area (node n) (sum_of greatest_number (forest (drop (c.loop-i.i + 1) ns))) c.loop-i.invariant.area follows short in
    let start = λ (x y : ℕ) (p : x ≡ y). ap (λ (k : ℕ). map node (part k (c.loop-i.i + 1) ns)) p in
    let next : map node (part c.if-is_none.start (c.loop-i.i + 1) ns) ≡ area_with o area (node n) = elim c.if-is_none.branch [
      | then-is_none w ↦ start _ _ w.start-is ∙ part_one ns c.loop-i.i n (omega arith) c.index-entries-i.is ∙ sym (joined_fresh o area (node n) (ap is_some own ∙ w.if-is_none.ensures))
      | else-is_none w ↦ start _ _ w.start-is ∙ part_more ns c.loop-i.start c.loop-i.i n c.loop-i.invariant.order (omega arith) c.index-entries-i.is ∙ sym (joined_more o area (node n) (ap is_some own ∙ w.if-is_none.ensures))
    ] in
    record {
      order = elim c.if-is_none.branch [ then-is_none w ↦ omega (arith, w.start-is) | else-is_none w ↦ omega (arith, w.start-is, c.loop-i.invariant.order) ];
      area = subst IsShortArea (sym next) (joined_short o area (node n) c.loop-i.invariant.area follows length);
      short = omega (arith, short);
      possible = possible.3;
      left = λ h. c.loop-i.invariant.left (subst (AreAreas area) (sym at) (
        follows,
        subst (AreAreas []) (sym children) (c.in_default.ensures.fine refl),
        subst (λ (a : List (Tree Resolved)). AreAreas a (forest (drop (c.loop-i.i + 1) ns))) next h,
      ));
      whole = λ h. subst (λ (a : List (Tree Resolved)). AreAreas a (forest (drop (c.loop-i.i + 1) ns))) (sym next) (subst (AreAreas area) at (c.loop-i.invariant.whole h)).2;
    }
