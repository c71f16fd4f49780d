use Rattle.std.proofs.Common.{◌≡◌, ◌+◌, ◌-◌, ◌∷◌, ◌++◌, ◌∙◌, ℕ, List, [], ap, sym, arith, length, append-nil, append_assoc, replicate}
use Rattle.cob_copybook_tree.specs.declared.node.Node.{Node}
use Rattle.cob_copybook_tree.specs.Forests.{Forest}
use Rattle.cob_copybook_tree.specs.Nodes.{Resolved, forest, node, tree_of}
use Rattle.cob_layout_places.proofs.ForestLemmas.{left, left_end, below, below_is}
use Rattle.cob_layout_places.proofs.PlaceLemmas.{occurs_of}
use Rattle.cob_layout.specs.declared.shifts.Growth.{Growth}
use Rattle.cob_layout.specs.declared.shifts.Shift.{Shift}
use Rattle.cob_layout.specs.Counting.{varying}
use Rattle.cob_layout.specs.Shifts.{grow_in, growth_of, growths_from, own_growth, shift_of, shifts_from}
use Rattle.cob_layout.proofs.ShiftLemmas.{grow_all, grow_next, growths_next, longer, set_there, shifts_next}
use Rattle.cob_layout.proofs.shifts.+push_shifts.Goals as goal

pub loop-child-init : goal.loop-child-init
loop-child-init t c =
    let before = c.args.before in
    let old = c.args.shifts.now.items in
    let items = c.deref-child-items.ensures.value in
    let pushed : c.push.new.self.items ≡ old ++ shift_of before before c.greatest_count-most.result ∷ [] = c.in_ok-push.ensures.items ∙ ap (λ (s : Shift). old ++ s ∷ []) c.shift_of-first.ensures in
    record {
      many = ap (λ (ns : List Node). before + grow_in (forest ns)) items;
      same = ap (λ (ns : List Node). c.push.new.self.items ++ shifts_from before (forest ns)) items ∙ ap (λ (zs : List Shift). zs ++ shifts_from before (below c.args.entry.now)) pushed;
      grown = ap (λ (ns : List Node). c.args.growths.now.items ++ growths_from c.args.least.now before (forest ns)) items;
    }

pub loop-child-preserved : goal.loop-child-preserved
loop-child-preserved t c =
    let children = c.deref-child-items.result.now in
    let k = c.loop-child.child-index in
    let n = c.child-item.result in
    let least = c.args.least.now in
    let through = c.loop-child.through in
    let after = c.in_ok-through.through in
    let made = c.in_ok-through.ensures in
    let inv = c.loop-child.invariant in
    record {
      many = omega (arith, made.behind, inv.many, grow_next children k n c.loop-child-test.true c.child-item.is);
      same = ap (λ (zs : List Shift). zs ++ shifts_from after (left children (k + 1))) made.shifts
          ∙ append_assoc c.loop-child.shifts.items (shifts_from through (tree_of n)) (shifts_from after (left children (k + 1)))
          ∙ ap (λ (zs : List Shift). c.loop-child.shifts.items ++ zs) (shifts_next children k n through after c.loop-child-test.true c.child-item.is made.behind)
          ∙ inv.same;
      grown = ap (λ (zs : List Growth). zs ++ growths_from least after (left children (k + 1))) made.growths
          ∙ append_assoc c.loop-child.growths.items (growths_from least through (tree_of n)) (growths_from least after (left children (k + 1)))
          ∙ ap (λ (zs : List Growth). c.loop-child.growths.items ++ zs) (growths_next least children k n through after c.loop-child-test.true c.child-item.is made.behind)
          ∙ inv.grown;
    }

pub index_mut-requires : goal.index_mut-requires
index_mut-requires t c =
    let inv = c.loop-child.invariant in
    let old = c.args.shifts.now.items in
    let first : Shift = shift_of c.args.before c.args.before c.greatest_count-most.result in
    let none = left_end c.deref-child-items.result.now c.loop-child.child-index c.loop-child-test.false in
    let lt = longer c.loop-child.shifts.items old (shifts_from c.args.before (below c.args.entry.now)) first
    (ap (λ (f : Forest Resolved). c.loop-child.shifts.items ++ shifts_from c.loop-child.through f) (sym none) ∙ inv.same) in
    omega (arith, lt, c.len-at.ensures, c.args.shifts.now.ok.0, c.loop-child.shifts.ok.0)

pub returns-clause-behind : goal.returns-clause-behind
returns-clause-behind t c =
    let n = c.args.entry.now in
    let none = left_end c.deref-child-items.result.now c.loop-child.child-index c.loop-child-test.false in
    let through : c.loop-child.through ≡ c.args.before + grow_in (below n) = omega (arith, c.loop-child.invariant.many, ap (λ (f : Forest Resolved). grow_in f) none) in
    let less : c.loop-child.through - c.args.before ≡ grow_in (below n) = omega (arith, through) in
    omega (arith, c.in_ok-behind.ensures.behind, through, ap (λ (m : ℕ). own_growth (node n).top.occurs m) less, grow_all n)

pub returns-clause-shifts : goal.returns-clause-shifts
returns-clause-shifts t c =
    let n = c.args.entry.now in
    let inv = c.loop-child.invariant in
    let before = c.args.before in
    let old = c.args.shifts.now.items in
    let e = left_end c.deref-child-items.result.now c.loop-child.child-index c.loop-child-test.false in
    let first : Shift = shift_of before before c.greatest_count-most.result in
    let beneath : shifts_from before (below n) ≡ shifts_from before (node n).beneath ++ [] = ap (λ (f : Forest Resolved). shifts_from before f) (sym (below_is n)) ∙ sym (append-nil (shifts_from before (node n).beneath)) in
    let cut : c.loop-child.shifts.items ≡ old ++ first ∷ (shifts_from before (node n).beneath ++ []) =
    sym (append-nil c.loop-child.shifts.items) ∙ ap (λ (f : Forest Resolved). c.loop-child.shifts.items ++ shifts_from c.loop-child.through f) (sym e) ∙ inv.same
    ∙ append_assoc old (first ∷ []) (shifts_from before (below n)) ∙ ap (λ (zs : List Shift). old ++ first ∷ zs) beneath in
    let through : c.loop-child.through ≡ before + grow_in (node n).beneath =
    omega (arith, inv.many, ap (λ (f : Forest Resolved). grow_in f) e, ap (λ (f : Forest Resolved). grow_in f) (below_is n)) in
    let at : c.len-at.result ≡ length old = omega (arith, c.len-at.ensures, c.args.shifts.now.ok.0) in
    let most : c.greatest_count-most.result ≡ varying (node n).top.occurs = c.greatest_count-most.ensures ∙ ap varying (sym (occurs_of n)) in
    let own : c.shift_of-own.result ≡ shift_of before (before + grow_in (node n).beneath) (varying (node n).top.occurs) = c.shift_of-own.ensures ∙ (λ i. shift_of before (through i) (most i)) in
    set_there old (shifts_from before (node n).beneath ++ []) first c.shift_of-own.result c.loop-child.shifts.items c.len-at.result at cut
    ∙ ap (λ (s : Shift). old ++ s ∷ (shifts_from before (node n).beneath ++ [])) own

pub returns-clause-growths : goal.returns-clause-growths
returns-clause-growths t c =
    let n = c.args.entry.now in
    let inv = c.loop-child.invariant in
    let before = c.args.before in
    let least = c.args.least.now in
    let old = c.args.growths.now.items in
    let now = c.loop-child.growths.items in
    let occurs = (node n).top.occurs in
    let g : Growth = growth_of least before (node n).top in
    let inner : List Growth = growths_from least before (node n).beneath in
    let mine : List Growth = replicate (own_growth occurs (grow_in (node n).beneath)) g in
    let none = left_end c.deref-child-items.result.now c.loop-child.child-index c.loop-child-test.false in
    let through : c.loop-child.through ≡ before + grow_in (node n).beneath =
    omega (arith, inv.many, ap (λ (f : Forest Resolved). grow_in f) none, ap (λ (f : Forest Resolved). grow_in f) (below_is n)) in
    let less : c.loop-child.through - before ≡ grow_in (node n).beneath = omega (arith, through) in
    let are : now ≡ old ++ inner = sym (append-nil now) ∙ ap (λ (f : Forest Resolved). now ++ growths_from least c.loop-child.through f) (sym none) ∙ inv.grown
    ∙ ap (λ (f : Forest Resolved). old ++ growths_from least before f) (sym (below_is n)) in
    c.in_ok-behind.ensures.growths
    ∙ ap (λ (m : ℕ). now ++ replicate (own_growth occurs m) g) less
    ∙ ap (λ (zs : List Growth). zs ++ mine) are
    ∙ append_assoc old inner mine
    ∙ ap (λ (zs : List Growth). old ++ (inner ++ zs)) (sym (append-nil mine))
