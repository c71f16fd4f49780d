-- Flows behind flows.
use Rattle.std.proofs.Common.{◌≡◌, ℕ, zero, suc, ◌+◌, ◌≤◌, List, [], ◌∷◌, ◌++◌, arith, drop, length, take, refl, sym, ap, subst, ◌∙◌, length-append, length-drop, Option, Some}
use Rattle.std.specs.List.{AllByRecursion, slice_get}
use Rattle.std.proofs.lemmas.List.{drop-append-le, length-take-le, take-append-le}
use Rattle.cob_move_data.specs.Moves.{Records}
use Rattle.cob_move_apply.specs.Marked.{moves_between_marks}
use Rattle.cob_move_condition.specs.declared.condition.Condition as code
use Rattle.cob_move_deeds.specs.declared.flow.Bound.{Bound}
use Rattle.cob_move_deeds.specs.declared.flow.Flow.{Flow}
use Rattle.cob_move_deeds.specs.declared.flow.Flow.TheVariants as flow
use Rattle.cob_move_deeds.specs.Deeds.{Choice, Deeds, Moving, Nothing, both_deeds}
use Rattle.cob_move_deeds.specs.Flows.{AreFlows, AreNestedFlows, FlowSupport, IsFlow, behind_skip, deeds_from, loop_done, unless_past, where_holds}
use Rattle.cob_move_deeds.specs.Tests.{Test}
use Rattle.cob_move_deeds.proofs.FlowLemmas.{all_behind}
use Rattle.cob_move_deeds.proofs.SkipLemmas.{all_behind_skip, skip_behind, skip_within}

-- ---- how many are looked at changes nothing, where they are not more

take_few : (n skip : ℕ) (fs : List Flow) → length fs ≤ n → skip ≤ length fs → length (take skip fs) ≤ n
take_few n skip fs few within = omega (arith, few, within, length-take-le skip fs within)

drop_few : (n skip : ℕ) (fs : List Flow) → length fs ≤ n → length (drop skip fs) ≤ n
drop_few n skip fs few = omega (arith, few, length-drop skip fs)

unless_same : (r : Records) (o : Option Bound) (number : ℕ) (d e f g : Deeds Test) → d ≡ f → e ≡ g → unless_past r o number d e ≡ unless_past r o number f g
unless_same r o number d e f g p q = ap (λ (k : Deeds Test). unless_past r o number k e) p ∙ ap (λ (k : Deeds Test). unless_past r o number f k) q

pub where_same : (r : Records) (on : FlowSupport) (o : Option code.Condition) (d e f g h k : Deeds Test) → d ≡ g → e ≡ h → f ≡ k → where_holds r on o d e f ≡ where_holds r on o g h k
where_same r on o d e f g h k p q s =
    ap (λ (x : Deeds Test). where_holds r on o x e f) p ∙ ap (λ (x : Deeds Test). where_holds r on o g x f) q ∙ ap (λ (x : Deeds Test). where_holds r on o g h x) s

pub deeds_same : (r : Records) (on : FlowSupport) (n m : ℕ) (fs : List Flow) → AreNestedFlows n fs → length fs ≤ n → length fs ≤ m → deeds_from r on n fs ≡ deeds_from r on m fs
deeds_same r on zero zero fs nested few le = refl
deeds_same r on zero (suc m) [] nested few le = refl
deeds_same r on zero (suc m) (f ∷ fs) nested few le = absurd (omega (arith, few))
deeds_same r on (suc n) zero [] nested few le = refl
deeds_same r on (suc n) zero (f ∷ fs) nested few le = absurd (omega (arith, le))
deeds_same r on (suc n) (suc m) [] nested few le = refl
deeds_same r on (suc n) (suc m) (flow.Moves number ∷ fs) nested few le =
    ap (λ (d : Deeds Test). Moving (moves_between_marks r on.moves number (number + 1)) d) (deeds_same r on n m fs nested (omega (arith, few)) (omega (arith, le)))
deeds_same r on (suc n) (suc m) (flow.Turns number ∷ fs) nested few le =
    ap (λ (d : Deeds Test). both_deeds (loop_done r on (slice_get on.loops number)) d) (deeds_same r on n m fs nested (omega (arith, few)) (omega (arith, le)))
deeds_same r on (suc n) (suc m) (flow.Until bound number skip ∷ fs) (within, inside, behind) few le =
    unless_same r (slice_get on.bounds bound) number (deeds_from r on n (take skip fs)) (deeds_from r on n (drop skip fs)) (deeds_from r on m (take skip fs)) (deeds_from r on m (drop skip fs))
    (deeds_same r on n m (take skip fs) inside (take_few n skip fs (omega (arith, few)) within) (take_few m skip fs (omega (arith, le)) within))
    (deeds_same r on n m (drop skip fs) behind (drop_few n skip fs (omega (arith, few))) (drop_few m skip fs (omega (arith, le))))
deeds_same r on (suc n) (suc m) (flow.Where condition holding lacking ∷ fs) (skip, within, inside, skipped, behind) few le =
    let count = skip_within holding lacking fs skip in
    let left : List Flow = behind_skip holding fs in
    where_same r on (slice_get on.conditions condition) (deeds_from r on n (take holding fs)) (deeds_from r on n (take lacking left)) (deeds_from r on n (drop lacking left))
    (deeds_from r on m (take holding fs)) (deeds_from r on m (take lacking left)) (deeds_from r on m (drop lacking left))
    (deeds_same r on n m (take holding fs) inside (take_few n holding fs (omega (arith, few)) (omega (arith, count))) (take_few m holding fs (omega (arith, le)) (omega (arith, count))))
    (deeds_same r on n m (take lacking left) skipped (take_few n lacking left (omega (arith, few, count)) within) (take_few m lacking left (omega (arith, le, count)) within))
    (deeds_same r on n m (drop lacking left) behind (drop_few n lacking left (omega (arith, few, count))) (drop_few m lacking left (omega (arith, le, count))))
deeds_same r on (suc n) (suc m) (flow.Skip count ∷ fs) nested few le = absurd nested

pub nested_same : (n m : ℕ) (fs : List Flow) → length fs ≤ n → length fs ≤ m → AreNestedFlows n fs → AreNestedFlows m fs
nested_same n zero [] few le nested = refl
nested_same n (suc m) [] few le nested = tt
nested_same n zero (f ∷ fs) few le nested = absurd (omega (arith, le))
nested_same zero (suc m) (f ∷ fs) few le nested = absurd (omega (arith, few))
nested_same (suc n) (suc m) (flow.Moves number ∷ fs) few le nested = nested_same n m fs (omega (arith, few)) (omega (arith, le)) nested
nested_same (suc n) (suc m) (flow.Turns number ∷ fs) few le nested = nested_same n m fs (omega (arith, few)) (omega (arith, le)) nested
nested_same (suc n) (suc m) (flow.Until bound number skip ∷ fs) few le (within, inside, behind) = (
  within,
  nested_same n m (take skip fs) (take_few n skip fs (omega (arith, few)) within) (take_few m skip fs (omega (arith, le)) within) inside,
  nested_same n m (drop skip fs) (drop_few n skip fs (omega (arith, few))) (drop_few m skip fs (omega (arith, le))) behind,
)
nested_same (suc n) (suc m) (flow.Where condition holding lacking ∷ fs) few le (skip, within, inside, skipped, behind) =
    let count = skip_within holding lacking fs skip in
    let left : List Flow = behind_skip holding fs in (
      skip,
      within,
      nested_same n m (take holding fs) (take_few n holding fs (omega (arith, few)) (omega (arith, count))) (take_few m holding fs (omega (arith, le)) (omega (arith, count))) inside,
      nested_same n m (take lacking left) (take_few n lacking left (omega (arith, few, count)) within) (take_few m lacking left (omega (arith, le, count)) within) skipped,
      nested_same n m (drop lacking left) (drop_few n lacking left (omega (arith, few, count))) (drop_few m lacking left (omega (arith, le, count))) behind,
    )
nested_same (suc n) (suc m) (flow.Skip count ∷ fs) few le nested = absurd nested

-- ---- one behind another

both_again : (d e f : Deeds Test) → both_deeds d (both_deeds e f) ≡ both_deeds (both_deeds d e) f
both_again Nothing e f = refl
both_again (Moving ms more) e f = ap (λ (k : Deeds Test). Moving ms k) (both_again more e f)
both_again (Choice t holding lacking more) e f = ap (λ (k : Deeds Test). Choice t holding lacking k) (both_again more e f)

-- a test whose bound is there, and what stands behind all of it
unless_both : (r : Records) (number : ℕ) (o : Option Bound) (b : Bound) (d e f g next : Deeds Test) → o ≡ Some b → d ≡ f → e ≡ both_deeds g next
    → unless_past r o number d e ≡ both_deeds (unless_past r o number f g) next
unless_both r number o b d e f g next at p q =
    unless_same r o number d e f (both_deeds g next) p q
    ∙ ap (λ (k : Option Bound). unless_past r k number f (both_deeds g next)) at
    ∙ sym (ap (λ (k : Option Bound). both_deeds (unless_past r k number f g) next) at)

-- a condition that is there, and what stands behind all of it
pub where_both : (r : Records) (on : FlowSupport) (o : Option code.Condition) (c : code.Condition) (d e f g h k next : Deeds Test) → o ≡ Some c → d ≡ g → e ≡ h → f ≡ both_deeds k next
    → where_holds r on o d e f ≡ both_deeds (where_holds r on o g h k) next
where_both r on o c d e f g h k next at p q s =
    where_same r on o d e f g h (both_deeds k next) p q s
    ∙ ap (λ (x : Option code.Condition). where_holds r on x g h (both_deeds k next)) at
    ∙ sym (ap (λ (x : Option code.Condition). both_deeds (where_holds r on x g h k) next) at)

pub deeds_both : (r : Records) (on : FlowSupport) (n k m : ℕ) (fs gs : List Flow) → AllByRecursion (IsFlow on) fs → AreNestedFlows n fs → AreNestedFlows m gs → length fs ≤ n → length gs ≤ m → length (fs ++ gs) ≤ k
    → deeds_from r on k (fs ++ gs) ≡ both_deeds (deeds_from r on n fs) (deeds_from r on m gs)
deeds_both r on zero k m [] gs each nested more few fewer le = sym (deeds_same r on m k gs more fewer le)
deeds_both r on (suc n) k m [] gs each nested more few fewer le = sym (deeds_same r on m k gs more fewer le)
deeds_both r on zero k m (f ∷ fs) gs each nested more few fewer le = absurd (omega (arith, few))
deeds_both r on (suc n) zero m (f ∷ fs) gs each nested more few fewer le = absurd (omega (arith, le))
deeds_both r on (suc n) (suc k) m (flow.Moves number ∷ fs) gs each nested more few fewer le =
    ap (λ (d : Deeds Test). Moving (moves_between_marks r on.moves number (number + 1)) d) (deeds_both r on n k m fs gs each.1 nested more (omega (arith, few)) fewer (omega (arith, le)))
deeds_both r on (suc n) (suc k) m (flow.Turns number ∷ fs) gs each nested more few fewer le =
    ap (λ (d : Deeds Test). both_deeds (loop_done r on (slice_get on.loops number)) d) (deeds_both r on n k m fs gs each.1 nested more (omega (arith, few)) fewer (omega (arith, le)))
    ∙ both_again (loop_done r on (slice_get on.loops number)) (deeds_from r on n fs) (deeds_from r on m gs)
deeds_both r on (suc n) (suc k) m (flow.Until bound number skip ∷ fs) gs each (within, inside, behind) more few fewer le =
    let (b, at) = each.0 in
    let long : length fs ≤ k = omega (arith, le, length-append fs gs) in
    unless_both r number (slice_get on.bounds bound) b (deeds_from r on k (take skip (fs ++ gs))) (deeds_from r on k (drop skip (fs ++ gs))) (deeds_from r on n (take skip fs)) (deeds_from r on n (drop skip fs)) (deeds_from r on m gs) at
    (ap (λ (hs : List Flow). deeds_from r on k hs) (take-append-le skip fs gs within)
    ∙ sym (deeds_same r on n k (take skip fs) inside (take_few n skip fs (omega (arith, few)) within) (take_few k skip fs long within)))
    (ap (λ (hs : List Flow). deeds_from r on k hs) (drop-append-le skip fs gs within)
    ∙ deeds_both r on n k m (drop skip fs) gs (all_behind (IsFlow on) skip fs each.1) behind more (drop_few n skip fs (omega (arith, few))) fewer
    (omega (arith, le, length-append fs gs, length-append (drop skip fs) gs, length-drop skip fs)))
deeds_both r on (suc n) (suc k) m (flow.Where condition holding lacking ∷ fs) gs each (skip, within, inside, skipped, behind) more few fewer le =
    let (c, at) = each.0 in
    let count = skip_within holding lacking fs skip in
    let left : List Flow = behind_skip holding fs in
    let long : length fs ≤ k = omega (arith, le, length-append fs gs) in
    let others : behind_skip holding (fs ++ gs) ≡ left ++ gs = skip_behind holding lacking fs gs skip in
    where_both r on (slice_get on.conditions condition) c (deeds_from r on k (take holding (fs ++ gs))) (deeds_from r on k (take lacking (behind_skip holding (fs ++ gs)))) (deeds_from r on k (drop lacking (behind_skip holding (fs ++ gs))))
    (deeds_from r on n (take holding fs)) (deeds_from r on n (take lacking left)) (deeds_from r on n (drop lacking left)) (deeds_from r on m gs) at
    (ap (λ (hs : List Flow). deeds_from r on k hs) (take-append-le holding fs gs (omega (arith, count)))
    ∙ sym (deeds_same r on n k (take holding fs) inside (take_few n holding fs (omega (arith, few)) (omega (arith, count))) (take_few k holding fs long (omega (arith, count)))))
    (ap (λ (hs : List Flow). deeds_from r on k hs) (ap (λ (hs : List Flow). take lacking hs) others ∙ take-append-le lacking left gs within)
    ∙ sym (deeds_same r on n k (take lacking left) skipped (take_few n lacking left (omega (arith, few, count)) within) (take_few k lacking left (omega (arith, long, count)) within)))
    (ap (λ (hs : List Flow). deeds_from r on k hs) (ap (λ (hs : List Flow). drop lacking hs) others ∙ drop-append-le lacking left gs within)
    ∙ deeds_both r on n k m (drop lacking left) gs (all_behind (IsFlow on) lacking left (all_behind_skip (IsFlow on) holding fs (all_behind (IsFlow on) holding fs each.1))) behind more
    (drop_few n lacking left (omega (arith, few, count))) fewer (omega (arith, le, count, length-append fs gs, length-append (drop lacking left) gs, length-drop lacking left)))
deeds_both r on (suc n) (suc k) m (flow.Skip count ∷ fs) gs each nested more few fewer le = absurd nested

pub nested_both : (n k m : ℕ) (fs gs : List Flow) → AreNestedFlows n fs → AreNestedFlows m gs → length fs ≤ n → length gs ≤ m → length (fs ++ gs) ≤ k → AreNestedFlows k (fs ++ gs)
nested_both zero k m [] gs nested more few fewer le = nested_same m k gs fewer le more
nested_both (suc n) k m [] gs nested more few fewer le = nested_same m k gs fewer le more
nested_both zero k m (f ∷ fs) gs nested more few fewer le = absurd (omega (arith, few))
nested_both (suc n) zero m (f ∷ fs) gs nested more few fewer le = absurd (omega (arith, le))
nested_both (suc n) (suc k) m (flow.Moves number ∷ fs) gs nested more few fewer le = nested_both n k m fs gs nested more (omega (arith, few)) fewer (omega (arith, le))
nested_both (suc n) (suc k) m (flow.Turns number ∷ fs) gs nested more few fewer le = nested_both n k m fs gs nested more (omega (arith, few)) fewer (omega (arith, le))
nested_both (suc n) (suc k) m (flow.Until bound number skip ∷ fs) gs (within, inside, behind) more few fewer le =
    let long : length fs ≤ k = omega (arith, le, length-append fs gs) in (
      omega (arith, within, length-append fs gs),
      subst (λ (hs : List Flow). AreNestedFlows k hs) (sym (take-append-le skip fs gs within))
          (nested_same n k (take skip fs) (take_few n skip fs (omega (arith, few)) within) (take_few k skip fs long within) inside),
      subst (λ (hs : List Flow). AreNestedFlows k hs) (sym (drop-append-le skip fs gs within))
          (nested_both n k m (drop skip fs) gs behind more (drop_few n skip fs (omega (arith, few))) fewer
          (omega (arith, le, length-append fs gs, length-append (drop skip fs) gs, length-drop skip fs))),
    )
nested_both (suc n) (suc k) m (flow.Where condition holding lacking ∷ fs) gs (skip, within, inside, skipped, behind) more few fewer le =
    let count = skip_within holding lacking fs skip in
    let left : List Flow = behind_skip holding fs in
    let long : length fs ≤ k = omega (arith, le, length-append fs gs) in
    let others : behind_skip holding (fs ++ gs) ≡ left ++ gs = skip_behind holding lacking fs gs skip in (
      drop-append-le holding fs gs (omega (arith, count)) ∙ ap (λ (hs : List Flow). hs ++ gs) skip ∙ ap (λ (hs : List Flow). flow.Skip lacking ∷ hs) (sym others),
      subst (λ (hs : List Flow). lacking ≤ length hs) (sym others) (omega (arith, within, length-append left gs)),
      subst (λ (hs : List Flow). AreNestedFlows k hs) (sym (take-append-le holding fs gs (omega (arith, count))))
          (nested_same n k (take holding fs) (take_few n holding fs (omega (arith, few)) (omega (arith, count))) (take_few k holding fs long (omega (arith, count))) inside),
      subst (λ (hs : List Flow). AreNestedFlows k hs) (sym (ap (λ (hs : List Flow). take lacking hs) others ∙ take-append-le lacking left gs within))
          (nested_same n k (take lacking left) (take_few n lacking left (omega (arith, few, count)) within) (take_few k lacking left (omega (arith, long, count)) within) skipped),
      subst (λ (hs : List Flow). AreNestedFlows k hs) (sym (ap (λ (hs : List Flow). drop lacking hs) others ∙ drop-append-le lacking left gs within))
          (nested_both n k m (drop lacking left) gs behind more (drop_few n lacking left (omega (arith, few, count))) fewer
          (omega (arith, le, count, length-append fs gs, length-append (drop lacking left) gs, length-drop lacking left))),
    )
nested_both (suc n) (suc k) m (flow.Skip count ∷ fs) gs nested more few fewer le = absurd nested

-- what flows behind others come to
pub flows_behind : (r : Records) (on : FlowSupport) (fs gs : List Flow) → AreFlows on fs → AreFlows on gs
    → deeds_from r on (length (fs ++ gs)) (fs ++ gs) ≡ both_deeds (deeds_from r on (length fs) fs) (deeds_from r on (length gs) gs)
flows_behind r on fs gs first then =
    deeds_both r on (length fs) (length (fs ++ gs)) (length gs) fs gs first.each first.nested then.nested (omega arith) (omega arith) (omega arith)

each_both : (on : FlowSupport) (fs gs : List Flow) → AllByRecursion (IsFlow on) fs → AllByRecursion (IsFlow on) gs → AllByRecursion (IsFlow on) (fs ++ gs)
each_both on [] gs each more = more
each_both on (f ∷ fs) gs each more = (each.0, each_both on fs gs each.1 more)

-- and they may be carried out
pub are_flows_behind : (on : FlowSupport) (fs gs : List Flow) → AreFlows on fs → AreFlows on gs → AreFlows on (fs ++ gs)
are_flows_behind on fs gs first then = record {
  each = each_both on fs gs first.each then.each;
  nested = nested_both (length fs) (length (fs ++ gs)) (length gs) fs gs first.nested then.nested (omega arith) (omega arith) (omega arith);
}
