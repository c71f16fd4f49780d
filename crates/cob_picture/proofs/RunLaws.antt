-- What holds of the run of a numeric edited picture.
use Rattle.std.proofs.Common.{◌≡◌, Bool, true, false, ◌||◌, List, [], ◌∷◌, ◌++◌, Option, Some, None, refl, sym, ap, subst, ◌∙◌, append_assoc}
use Rattle.std.specs.Prelude.{nat_le, if◌then◌else◌}
use Rattle.std.specs.List.{AllByRecursion, list_any}
use Rattle.cob_picture.specs.declared.symbol.Symbol.{Symbol}
use Rattle.cob_picture.specs.declared.symbol.Symbol.TheVariants.{A, X, Nine, S, V, P, B, Zero, Slash, Comma, Point, Z, Star, Dollar, Plus, Minus, Credit, Debit}
use Rattle.cob_picture.specs.declared.category.Category.TheVariants.{NumericEdited}
use Rattle.cob_picture.specs.declared.position.Position.{Position}
use Rattle.cob_picture.specs.declared.position.PositionRole.TheVariants.{FirstFloating}
use Rattle.cob_picture.specs.declared.edited.SymbolKind.TheVariants.{OfRun, OfPoint, OfNone}
use Rattle.cob_picture.specs.declared.edited.EditedPart.{EditedPart}
use Rattle.cob_picture.specs.declared.edited.EditedPart.TheVariants.{Lead, Currency, Front, Whole, PointPart, Fraction, Trail}
use Rattle.cob_picture.specs.Positions.{symbol_count, is_that, floating, settled_role, role_at, position_at, positions_from, positions}
use Rattle.cob_picture.specs.Counts.{is_decimal_point}
use Rattle.cob_picture.specs.Edited.{run_symbol, is_floating_run, settled_kind, symbol_kind, belongs, AreOf, Edited, edited_symbols, HasKinds, counts_in, AreAllowed, IsNumericEdited}
use Rattle.cob_picture.specs.Pictures.{IsPicture}
use Rattle.cob_picture.specs.Laws.{is_run_role}

-- ---- what floats is the run

-- the floating symbol, if there is one, is that of the run
floats_is_run : (a b d e f : Bool) (s : Symbol) → is_that (if a then Some Dollar else (if b then Some Plus else (if d then Some Minus else None))) s ≡ true
    → (if a then Some Dollar else (if b then Some Plus else (if d then Some Minus else None))) ≡ (if a then Some Dollar else (if b then Some Plus else (if d then Some Minus else (if e then Some Z else (if f then Some Star else None)))))
floats_is_run true b d e f s h = refl
floats_is_run false true d e f s h = refl
floats_is_run false false true e f s h = refl
floats_is_run false false false e f s h = absurd cc

floating_is_run : (xs : List Symbol) (s : Symbol) → is_that (floating xs) s ≡ true → floating xs ≡ run_symbol xs
floating_is_run xs s = floats_is_run (nat_le 2 (symbol_count Dollar xs)) (nat_le 2 (symbol_count Plus xs)) (nat_le 2 (symbol_count Minus xs)) (nat_le 1 (symbol_count Z xs)) (nat_le 1 (symbol_count Star xs)) s

floats_floats : (a b d : Bool) (s : Symbol) → is_that (if a then Some Dollar else (if b then Some Plus else (if d then Some Minus else None))) s ≡ true
    → is_floating_run (if a then Some Dollar else (if b then Some Plus else (if d then Some Minus else None))) ≡ true
floats_floats true b d s h = refl
floats_floats false true d s h = refl
floats_floats false false true s h = refl
floats_floats false false false s h = absurd cc

floating_floats : (xs : List Symbol) (s : Symbol) → is_that (floating xs) s ≡ true → is_floating_run (floating xs) ≡ true
floating_floats xs s = floats_floats (nat_le 2 (symbol_count Dollar xs)) (nat_le 2 (symbol_count Plus xs)) (nat_le 2 (symbol_count Minus xs)) s

-- ---- each symbol has a kind

abbrev HaveKinds : Option Symbol → List Symbol → Type 0
HaveKinds q xs = AllByRecursion (λ s. symbol_kind q s ≡ OfNone → ⊥) xs

have_kinds : (f : EditedPart) (q : Option Symbol) (xs : List Symbol) → belongs f OfNone ≡ false → AreOf f q xs → HaveKinds q xs
have_kinds f q [] none all = tt
have_kinds f q (s ∷ xs) none all = ((λ e. let x : true ≡ false = sym all.0 ∙ ap (belongs f) e ∙ none in cc), have_kinds f q xs none all.1)

kinds-append : (q : Option Symbol) (a b : List Symbol) → HaveKinds q a → HaveKinds q b → HaveKinds q (a ++ b)
kinds-append q [] b pa pb = pb
kinds-append q (s ∷ a) b pa pb = (pa.0, kinds-append q a b pa.1 pb)

all_kinds : (q : Option Symbol) (e : Edited) → HasKinds q e → HaveKinds q (edited_symbols e)
all_kinds q e k =
    kinds-append q e.lead _ (have_kinds Lead q e.lead refl k.lead)
    (kinds-append q e.currency _ (have_kinds Currency q e.currency refl k.currency)
    (kinds-append q e.front _ (have_kinds Front q e.front refl k.front)
    (kinds-append q e.whole _ (have_kinds Whole q e.whole refl k.whole)
    (kinds-append q e.point _ (have_kinds PointPart q e.point refl k.point)
    (kinds-append q e.fraction e.trail (have_kinds Fraction q e.fraction refl k.fraction)
    (have_kinds Trail q e.trail refl k.trail))))))

settled_run : (s : Symbol) → is_run_role (settled_role NumericEdited s) ≡ true → settled_kind s ≡ OfNone
settled_run Z h = refl
settled_run Star h = refl
settled_run A h = absurd cc
settled_run X h = absurd cc
settled_run Nine h = absurd cc
settled_run S h = absurd cc
settled_run V h = absurd cc
settled_run P h = absurd cc
settled_run B h = absurd cc
settled_run Zero h = absurd cc
settled_run Slash h = absurd cc
settled_run Comma h = absurd cc
settled_run Point h = absurd cc
settled_run Dollar h = absurd cc
settled_run Plus h = absurd cc
settled_run Minus h = absurd cc
settled_run Credit h = absurd cc
settled_run Debit h = absurd cc

-- a symbol with the role of the run is the run's
run_place : (q fl : Option Symbol) (seen : Bool) (s : Symbol) → (is_that fl s ≡ true → is_that q s ≡ true) → (symbol_kind q s ≡ OfNone → ⊥) → is_run_role (role_at NumericEdited (is_that fl s) seen s) ≡ true → is_that q s ≡ true
run_place q fl seen s same kind h = at (is_that q s) refl
  where
    at : (b : Bool) → is_that q s ≡ b → is_that q s ≡ true
    at true e = e
    at false e = absurd (floats (is_that fl s) refl)
      where
        floats : (b : Bool) → is_that fl s ≡ b → ⊥
        floats true f = let x : true ≡ false = sym (same f) ∙ e in cc
        floats false f =
            let settled : is_run_role (settled_role NumericEdited s) ≡ true = ap (λ (b : Bool). is_run_role (role_at NumericEdited b seen s)) (sym f) ∙ h in
            kind (ap (λ (b : Bool). (if b then OfRun else settled_kind s)) e ∙ settled_run s settled)

run_places : (q fl : Option Symbol) (seen : Bool) (xs : List Symbol) → ((s : Symbol) → is_that fl s ≡ true → is_that q s ≡ true) → HaveKinds q xs
    → AllByRecursion (λ x. is_run_role x.role ≡ true → is_that q x.symbol ≡ true) (positions_from NumericEdited fl seen xs)
run_places q fl seen [] same kinds = tt
run_places q fl seen (s ∷ xs) same kinds = (run_place q fl seen s (same s) kinds.0, run_places q fl (seen || is_that fl s) xs same kinds.1)

same_that : (xs : List Symbol) (s : Symbol) → is_that (floating xs) s ≡ true → is_that (run_symbol xs) s ≡ true
same_that xs s h = ap (λ (q : Option Symbol). is_that q s) (sym (floating_is_run xs s h)) ∙ h

pub one_run : (xs : List Symbol) → IsPicture NumericEdited xs → AllByRecursion (λ x. is_run_role x.role ≡ true → is_that (run_symbol xs) x.symbol ≡ true) (positions NumericEdited xs)
one_run xs p =
    let kinds = subst (HaveKinds (run_symbol xs)) (sym p.order.written) (all_kinds (run_symbol xs) p.order.parts p.order.kinds) in
    run_places (run_symbol xs) (floating xs) false xs (same_that xs) kinds

-- ---- the first floating symbol

settled_first : (s : Symbol) → settled_role NumericEdited s ≡ FirstFloating → ⊥
settled_first A h = cc
settled_first X h = cc
settled_first Nine h = cc
settled_first S h = cc
settled_first V h = cc
settled_first P h = cc
settled_first B h = cc
settled_first Zero h = cc
settled_first Slash h = cc
settled_first Comma h = cc
settled_first Point h = cc
settled_first Z h = cc
settled_first Star h = cc
settled_first Dollar h = cc
settled_first Plus h = cc
settled_first Minus h = cc
settled_first Credit h = cc
settled_first Debit h = cc

-- a first floating symbol floats, and was not seen before
first_floats : (fl : Option Symbol) (seen : Bool) (s : Symbol) → role_at NumericEdited (is_that fl s) seen s ≡ FirstFloating → (is_that fl s ≡ true) × (seen ≡ false)
first_floats fl seen s h = at (is_that fl s) seen refl h
  where
    at : (b c : Bool) → is_that fl s ≡ b → role_at NumericEdited b c s ≡ FirstFloating → (is_that fl s ≡ true) × (c ≡ false)
    at true true e r = absurd cc
    at true false e r = (e, refl)
    at false c e r = absurd (settled_first s r)

never_again : (fl : Option Symbol) (xs : List Symbol) (before after : List Position) (f : Position) → positions_from NumericEdited fl true xs ≡ before ++ f ∷ after → f.role ≡ FirstFloating → ⊥
never_again fl [] [] after f e r = cc
never_again fl [] (b ∷ before) after f e r = cc
never_again fl (s ∷ xs) [] after f e r =
    let here : position_at NumericEdited fl true s ≡ f = cc in
    let x = first_floats fl true s (ap (λ (p : Position). p.role) here ∙ r) in
    let y : true ≡ false = x.1 in
    cc
never_again fl (s ∷ xs) (b ∷ before) after f e r = never_again fl xs before after f (let tails : positions_from NumericEdited fl true xs ≡ before ++ f ∷ after = cc in tails) r

-- the symbols before a first floating symbol do not float, and stand at the front of the picture's
record Begins (fl : Option Symbol) (xs : List Symbol) (before : List Position) (f : Position) : Type 0 where
  pub floats : is_that fl f.symbol ≡ true
  pub front : List Symbol
  pub behind : List Symbol
  pub are : before ≡ positions_from NumericEdited fl false front
  pub parts : xs ≡ front ++ behind
  pub others : list_any (is_that fl) front ≡ false

begins_at : (fl : Option Symbol) (xs : List Symbol) (before after : List Position) (f : Position) → positions_from NumericEdited fl false xs ≡ before ++ f ∷ after → f.role ≡ FirstFloating → Begins fl xs before f
begins_at fl [] [] after f e r = absurd cc
begins_at fl [] (b ∷ before) after f e r = absurd cc
begins_at fl (s ∷ xs) [] after f e r =
    let here : position_at NumericEdited fl false s ≡ f = cc in
    let x = first_floats fl false s (ap (λ (p : Position). p.role) here ∙ r) in
    let same : s ≡ f.symbol = ap (λ (p : Position). p.symbol) here in
    record { floats = ap (is_that fl) (sym same) ∙ x.0; front = []; behind = s ∷ xs; are = refl; parts = refl; others = refl }
begins_at fl (s ∷ xs) (b ∷ before) after f e r = at (is_that fl s) refl (λ g. begins_at fl xs before after f g r)
  where
    first : position_at NumericEdited fl false s ≡ b
    first = cc

    tails : positions_from NumericEdited fl (is_that fl s) xs ≡ before ++ f ∷ after
    tails = cc

    at : (c : Bool) → is_that fl s ≡ c → (positions_from NumericEdited fl false xs ≡ before ++ f ∷ after → Begins fl xs before f) → Begins fl (s ∷ xs) (b ∷ before) f
    at true g more = absurd (never_again fl xs before after f (ap (λ (c : Bool). positions_from NumericEdited fl c xs) (sym g) ∙ tails) r)
    at false g more =
        let m = more (ap (λ (c : Bool). positions_from NumericEdited fl c xs) (sym g) ∙ tails) in
        let rest : before ≡ positions_from NumericEdited fl (is_that fl s) m.front = m.are ∙ ap (λ (c : Bool). positions_from NumericEdited fl c m.front) (sym g) in
        record {
          floats = m.floats;
          front = s ∷ m.front;
          behind = m.behind;
          are = ap (λ (p : Position). p ∷ before) (sym first) ∙ ap (λ (t : List Position). position_at NumericEdited fl false s ∷ t) rest;
          parts = ap (λ (t : List Symbol). s ∷ t) m.parts;
          others = ap (λ (c : Bool). c || list_any (is_that fl) m.front) g ∙ m.others;
        }

-- what holds of a front with a symbol of the run holds of each front without one
shorter_front : (Q : Symbol → Type 0) (f : Symbol → Bool) (m rest front behind : List Symbol) → AllByRecursion Q m → list_any f m ≡ true → list_any f front ≡ false → m ++ rest ≡ front ++ behind → AllByRecursion Q front
shorter_front Q f m rest [] behind all some none e = tt
shorter_front Q f [] rest (s ∷ front) behind all some none e = absurd cc
shorter_front Q f (t ∷ m) rest (s ∷ front) behind all some none e =
    let heads : t ≡ s = cc in
    let tails : m ++ rest ≡ front ++ behind = cc in
    let no_first = first_is (f s) (list_any f front) none in
    let more : list_any f m ≡ true = ap (λ (c : Bool). c || list_any f m) (sym (ap f heads ∙ no_first.0)) ∙ some in
    (subst Q heads all.0, shorter_front Q f m rest front behind all.1 more no_first.1 tails)
  where
    first_is : (a b : Bool) → (a || b) ≡ false → (a ≡ false) × (b ≡ false)
    first_is true b h = absurd cc
    first_is false b h = (refl, h)

any-behind : (f : Symbol → Bool) (a b : List Symbol) → list_any f b ≡ true → list_any f (a ++ b) ≡ true
any-behind f [] b h = h
any-behind f (s ∷ a) b h = at (f s) (any-behind f a b h)
  where
    at : (c : Bool) → list_any f (a ++ b) ≡ true → (c || list_any f (a ++ b)) ≡ true
    at true g = refl
    at false g = g

-- no point stands in a part that has none
point_kind : (q : Option Symbol) (s : Symbol) → is_decimal_point s ≡ true → is_that q s ≡ false → symbol_kind q s ≡ OfPoint
point_kind q V h e = ap (λ (b : Bool). (if b then OfRun else OfPoint)) e
point_kind q Point h e = ap (λ (b : Bool). (if b then OfRun else OfPoint)) e
point_kind q A h e = absurd cc
point_kind q X h e = absurd cc
point_kind q Nine h e = absurd cc
point_kind q S h e = absurd cc
point_kind q P h e = absurd cc
point_kind q B h e = absurd cc
point_kind q Zero h e = absurd cc
point_kind q Slash h e = absurd cc
point_kind q Comma h e = absurd cc
point_kind q Z h e = absurd cc
point_kind q Star h e = absurd cc
point_kind q Dollar h e = absurd cc
point_kind q Plus h e = absurd cc
point_kind q Minus h e = absurd cc
point_kind q Credit h e = absurd cc
point_kind q Debit h e = absurd cc

abbrev NotPoint : Option Symbol → Symbol → Type 0
NotPoint q s = symbol_kind q s ≡ OfPoint → ⊥

no_points : (f : EditedPart) (q : Option Symbol) (xs : List Symbol) → belongs f OfPoint ≡ false → AreOf f q xs → AllByRecursion (NotPoint q) xs
no_points f q [] none all = tt
no_points f q (s ∷ xs) none all = ((λ e. let x : true ≡ false = sym all.0 ∙ ap (belongs f) e ∙ none in cc), no_points f q xs none all.1)

all-append : (Q : Symbol → Type 0) (a b : List Symbol) → AllByRecursion Q a → AllByRecursion Q b → AllByRecursion Q (a ++ b)
all-append Q [] b pa pb = pb
all-append Q (s ∷ a) b pa pb = (pa.0, all-append Q a b pa.1 pb)

kinds_front : (q : Option Symbol) (a b : List Symbol) → HaveKinds q (a ++ b) → HaveKinds q a
kinds_front q [] b h = tt
kinds_front q (s ∷ a) b h = (h.0, kinds_front q a b h.1)

-- places before the first floating symbol
settled_places : (q : Option Symbol) (xs : List Symbol) → list_any (is_that q) xs ≡ false → HaveKinds q xs → AllByRecursion (NotPoint q) xs
    → AllByRecursion (λ x. (is_run_role x.role ≡ false) × (is_decimal_point x.symbol ≡ false)) (positions_from NumericEdited q false xs)
settled_places q [] none kinds points = tt
settled_places q (s ∷ xs) none kinds points =
    let both = parts (is_that q s) (list_any (is_that q) xs) none in (
      (not_run (is_run_role (role_at NumericEdited (is_that q s) false s)) refl both.0, not_point (is_decimal_point s) refl both.0),
      subst (λ (c : Bool). AllByRecursion (λ x. (is_run_role x.role ≡ false) × (is_decimal_point x.symbol ≡ false)) (positions_from NumericEdited q c xs)) (sym both.0) (settled_places q xs both.1 kinds.1 points.1),
    )
  where
    parts : (a b : Bool) → (a || b) ≡ false → (a ≡ false) × (b ≡ false)
    parts true b h = absurd cc
    parts false b h = (refl, h)

    not_run : (b : Bool) → is_run_role (role_at NumericEdited (is_that q s) false s) ≡ b → is_that q s ≡ false → is_run_role (role_at NumericEdited (is_that q s) false s) ≡ false
    not_run false e g = e
    not_run true e g = absurd (let x : true ≡ false = sym (run_place q q false s (λ t. t) kinds.0 e) ∙ g in cc)

    not_point : (b : Bool) → is_decimal_point s ≡ b → is_that q s ≡ false → is_decimal_point s ≡ false
    not_point false e g = e
    not_point true e g = absurd (points.0 (point_kind q s e g))

pub first_leads : (xs : List Symbol) (before after : List Position) (first : Position) → IsPicture NumericEdited xs
    → positions NumericEdited xs ≡ before ++ first ∷ after → first.role ≡ FirstFloating
    → AllByRecursion (λ x. (is_run_role x.role ≡ false) × (is_decimal_point x.symbol ≡ false)) before
first_leads xs before after first p parted role =
    let edited : IsNumericEdited xs = p.order in
    let m = begins_at (floating xs) xs before after first parted role in
    let q-is : floating xs ≡ run_symbol xs = floating_is_run xs first.symbol m.floats in
    let ed = edited.parts in
    let kinds = subst (λ (q : Option Symbol). HasKinds q ed) (sym q-is) edited.kinds in
    let allowed = subst (λ (q : Option Symbol). AreAllowed q (counts_in q ed)) (sym q-is) edited.allowed in
    let q = floating xs in
    let all = subst (HaveKinds q) (sym edited.written) (all_kinds q ed kinds) in
    let begun : list_any (is_that q) ed.front ≡ true = allowed.run.begins (floating_floats xs first.symbol m.floats) in
    let front = ed.lead ++ (ed.currency ++ ed.front) in
    let rest = ed.whole ++ (ed.point ++ (ed.fraction ++ ed.trail)) in
    let some : list_any (is_that q) front ≡ true = any-behind (is_that q) ed.lead (ed.currency ++ ed.front) (any-behind (is_that q) ed.currency ed.front begun) in
    let points : AllByRecursion (NotPoint q) front = all-append (NotPoint q) ed.lead (ed.currency ++ ed.front) (no_points Lead q ed.lead refl kinds.lead) (all-append (NotPoint q) ed.currency ed.front (no_points Currency q ed.currency refl kinds.currency) (no_points Front q ed.front refl kinds.front)) in
    let joined : front ++ rest ≡ m.front ++ m.behind = append_assoc ed.lead (ed.currency ++ ed.front) rest ∙ ap (λ (t : List Symbol). ed.lead ++ t) (append_assoc ed.currency ed.front rest) ∙ sym edited.written ∙ m.parts in
    let none = shorter_front (NotPoint q) (is_that q) front rest m.front m.behind points some m.others joined in
    let have = kinds_front q m.front m.behind (subst (HaveKinds q) m.parts all) in
    subst (λ (ps : List Position). AllByRecursion (λ x. (is_run_role x.role ≡ false) × (is_decimal_point x.symbol ≡ false)) ps) (sym m.are) (settled_places q m.front m.others have none)
