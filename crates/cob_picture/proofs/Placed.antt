-- Positions, symbol by symbol and run by run.
use Rattle.std.proofs.Common.{◌≡◌, ℕ, zero, suc, ◌+◌, ◌-◌, ◌*◌, ◌<◌, ◌≤◌, Bool, true, false, cond, ◌||◌, not, List, [], ◌∷◌, ◌++◌, length, get_or, take, drop, replicate, Option, Some, None, refl, sym, ap, subst, ◌∙◌, append_assoc, arith}
use Rattle.std.specs.Prelude.{count_by, nat_le, if◌then◌else◌}
use Rattle.std.specs.List.{list_any, position_or_len}
use Rattle.std.proofs.lemmas.List.{drop_more, append-nil, take-append-drop, length-append}
use Rattle.std.proofs.lemmas.List.Concat.{flat_map-append}
use Rattle.std.proofs.lemmas.List.Sums.{sum_by-cons, sum_by-append}
use Rattle.std.proofs.lemmas.Bool.{eqb-true}
use Rattle.cob_picture.specs.declared.symbol.Symbol.{Symbol}
use Rattle.cob_picture.specs.declared.symbol.Symbol.TheVariants.{A, X, Nine, S, V, P, B, Zero, Slash, Comma, Point, Z, Star, Dollar, Plus, Minus, Credit, Debit}
use Rattle.cob_picture.specs.declared.symbol.Run.{Run}
use Rattle.cob_picture.specs.declared.position.Position.{Position}
use Rattle.cob_picture.specs.declared.category.Category.{Category}
use Rattle.cob_picture.specs.Positions.{is, symbol_count, written_out, settled_role, floating, is_that, role_at, position_at, positions_from, symbols_of}
use Rattle.cob_picture.specs.Runs.{ArePositive}
use Rattle.cob_picture.specs.Counts.{is_digit_place, width, size, digits, is_scaling, is_decimal_place, decimal_places, is_decimal_point, point_leads, before_point, after_point, is_sign_symbol, signed}
use Rattle.cob_picture.specs.Measures.{symbols_size}
use Rattle.cob_picture.proofs.Times.{first_one, is_other, one_more, length_more}

abbrev pub one_if : Bool → ℕ
one_if b = cond b 1 0

-- whether the floating symbol stood before or among these
abbrev pub seen_after : Option Symbol → Bool → List Symbol → Bool
seen_after q seen [] = seen
seen_after q seen (s ∷ symbols) = seen_after q (seen || is_that q s) symbols

pub placed-append : (c : Category) (q : Option Symbol) (seen : Bool) (a b : List Symbol) → positions_from c q seen (a ++ b) ≡ positions_from c q seen a ++ positions_from c q (seen_after q seen a) b
placed-append c q seen [] b = refl
placed-append c q seen (s ∷ a) b = ap (λ (t : List Position). position_at c q seen s ∷ t) (placed-append c q (seen || is_that q s) a b)

or_again : (a b : Bool) → ((a || b) || b) ≡ (a || b)
or_again true b = refl
or_again false true = refl
or_again false false = refl

or_false : (a : Bool) → (a || false) ≡ a
or_false true = refl
or_false false = refl

or_assoc : (a b d : Bool) → ((a || b) || d) ≡ (a || (b || d))
or_assoc true b d = refl
or_assoc false b d = refl

pub seen_replicate : (q : Option Symbol) (seen : Bool) (n : ℕ) (s : Symbol) → 0 < n → seen_after q seen (replicate n s) ≡ (seen || is_that q s)
seen_replicate q seen zero s lt = absurd (omega arith)
seen_replicate q seen (suc zero) s lt = refl
seen_replicate q seen (suc (suc n)) s lt = seen_replicate q (seen || is_that q s) (suc n) s (omega arith) ∙ or_again seen (is_that q s)

pub seen_after-append : (q : Option Symbol) (seen : Bool) (a b : List Symbol) → seen_after q seen (a ++ b) ≡ seen_after q (seen_after q seen a) b
seen_after-append q seen [] b = refl
seen_after-append q seen (s ∷ a) b = seen_after-append q (seen || is_that q s) a b

-- runs tell whether it stands among them
pub seen_runs : (q : Option Symbol) (seen : Bool) (runs : List Run) → ArePositive runs → seen_after q seen (written_out runs) ≡ (seen || list_any (λ r. is_that q r.symbol) runs)
seen_runs q seen [] pos = sym (or_false seen)
seen_runs q seen (r ∷ runs) pos =
    seen_after-append q seen (replicate r.count r.symbol) (written_out runs)
    ∙ ap (λ (b : Bool). seen_after q b (written_out runs)) (seen_replicate q seen r.count r.symbol pos.0)
    ∙ seen_runs q (seen || is_that q r.symbol) runs pos.1
    ∙ or_assoc seen (is_that q r.symbol) (list_any (λ (r : Run). is_that q r.symbol) runs)

-- ---- digits

pub digits-cons : (p : Position) (ps : List Position) → digits (p ∷ ps) ≡ cond (is_digit_place p.role) 1 0 + digits ps
digits-cons p ps = sum_by-cons (λ (p : Position). cond (is_digit_place p.role) 1 0) p ps

pub digits-append : (a b : List Position) → digits (a ++ b) ≡ digits a + digits b
digits-append a b = sum_by-append (λ (p : Position). cond (is_digit_place p.role) 1 0) a b

pub run_floats : (c : Category) (q : Option Symbol) (s : Symbol) (n : ℕ) → is_that q s ≡ true → digits (positions_from c q true (replicate n s)) ≡ n
run_floats c q s zero e = refl
run_floats c q s (suc n) e =
    let here : one_if (is_digit_place (role_at c (is_that q s) true s)) ≡ 1 = ap (λ (f : Bool). one_if (is_digit_place (role_at c f true s))) e in
    omega (arith, digits-cons (position_at c q true s) (positions_from c q true (replicate n s)), here, run_floats c q s n e)

pub run_begins : (c : Category) (q : Option Symbol) (s : Symbol) (n : ℕ) → is_that q s ≡ true → digits (positions_from c q false (replicate n s)) ≡ n - 1
run_begins c q s zero e = refl
run_begins c q s (suc n) e =
    let here : one_if (is_digit_place (role_at c (is_that q s) false s)) ≡ 0 = ap (λ (f : Bool). one_if (is_digit_place (role_at c f false s))) e in
    let more : digits (positions_from c q (false || is_that q s) (replicate n s)) ≡ n = ap (λ (f : Bool). digits (positions_from c q (false || f) (replicate n s))) e ∙ run_floats c q s n e in
    omega (arith, digits-cons (position_at c q false s) (positions_from c q (false || is_that q s) (replicate n s)), here, more)

pub run_settled_yes : (c : Category) (q : Option Symbol) (s : Symbol) (n : ℕ) (seen : Bool) → is_that q s ≡ false → is_digit_place (settled_role c s) ≡ true → digits (positions_from c q seen (replicate n s)) ≡ n
run_settled_yes c q s zero seen e d = refl
run_settled_yes c q s (suc n) seen e d =
    let here : one_if (is_digit_place (role_at c (is_that q s) seen s)) ≡ 1 = ap (λ (f : Bool). one_if (is_digit_place (role_at c f seen s))) e ∙ ap one_if d in
    omega (arith, digits-cons (position_at c q seen s) (positions_from c q (seen || is_that q s) (replicate n s)), here, run_settled_yes c q s n (seen || is_that q s) e d)

pub run_settled_no : (c : Category) (q : Option Symbol) (s : Symbol) (n : ℕ) (seen : Bool) → is_that q s ≡ false → is_digit_place (settled_role c s) ≡ false → digits (positions_from c q seen (replicate n s)) ≡ 0
run_settled_no c q s zero seen e d = refl
run_settled_no c q s (suc n) seen e d =
    let here : one_if (is_digit_place (role_at c (is_that q s) seen s)) ≡ 0 = ap (λ (f : Bool). one_if (is_digit_place (role_at c f seen s))) e ∙ ap one_if d in
    omega (arith, digits-cons (position_at c q seen s) (positions_from c q (seen || is_that q s) (replicate n s)), here, run_settled_no c q s n (seen || is_that q s) e d)

pub digits_step : (c : Category) (q : Option Symbol) (seen : Bool) (runs : List Run) (i : ℕ) (d : Run) → i < length runs → ArePositive (drop i runs)
    → (digits (positions_from c q seen (written_out (drop i runs))) ≡ digits (positions_from c q seen (replicate (get_or runs i d).count (get_or runs i d).symbol)) + digits (positions_from c q (seen || is_that q (get_or runs i d).symbol) (written_out (drop (i + 1) runs))))
    × ArePositive (drop (i + 1) runs)
digits_step c q seen runs i d lt pos =
    let r = get_or runs i d in
    let cut : drop i runs ≡ r ∷ drop (i + 1) runs = drop_more runs i d lt in
    let here : ArePositive (r ∷ drop (i + 1) runs) = subst ArePositive cut pos in
    let parts : positions_from c q seen (written_out (drop i runs)) ≡ positions_from c q seen (replicate r.count r.symbol) ++ positions_from c q (seen || is_that q r.symbol) (written_out (drop (i + 1) runs)) =
    ap (λ (t : List Run). positions_from c q seen (written_out t)) cut
    ∙ placed-append c q seen (replicate r.count r.symbol) (written_out (drop (i + 1) runs))
    ∙ ap (λ (b : Bool). positions_from c q seen (replicate r.count r.symbol) ++ positions_from c q b (written_out (drop (i + 1) runs))) (seen_replicate q seen r.count r.symbol here.0) in
    (ap digits parts ∙ digits-append (positions_from c q seen (replicate r.count r.symbol)) (positions_from c q (seen || is_that q r.symbol) (written_out (drop (i + 1) runs))), here.1)

-- ---- bytes, sign, symbols

pub size-placed : (c : Category) (q : Option Symbol) (seen : Bool) (xs : List Symbol) → size (positions_from c q seen xs) ≡ symbols_size xs
size-placed c q seen [] = refl
size-placed c q seen (s ∷ xs) = sum_by-cons (λ (p : Position). width p.symbol) (position_at c q seen s) (positions_from c q (seen || is_that q s) xs) ∙ ap (λ (n : ℕ). width s + n) (size-placed c q (seen || is_that q s) xs)

symbols_size-append : (a b : List Symbol) → symbols_size (a ++ b) ≡ symbols_size a + symbols_size b
symbols_size-append [] b = omega arith
symbols_size-append (s ∷ a) b = omega (arith, symbols_size-append a b)

symbols_size-replicate : (n : ℕ) (s : Symbol) → symbols_size (replicate n s) ≡ width s * n
symbols_size-replicate zero s = omega arith
symbols_size-replicate (suc n) s = omega (arith, symbols_size-replicate n s)

pub symbols_placed : (c : Category) (q : Option Symbol) (seen : Bool) (xs : List Symbol) → symbols_of (positions_from c q seen xs) ≡ xs
symbols_placed c q seen [] = refl
symbols_placed c q seen (s ∷ xs) = ap (λ (t : List Symbol). s ∷ t) (symbols_placed c q (seen || is_that q s) xs)

pub any_placed : (c : Category) (q : Option Symbol) (seen : Bool) (xs : List Symbol) → signed (positions_from c q seen xs) ≡ list_any is_sign_symbol xs
any_placed c q seen [] = refl
any_placed c q seen (s ∷ xs) = ap (λ (b : Bool). is_sign_symbol s || b) (any_placed c q (seen || is_that q s) xs)

any-append : (f : Symbol → Bool) (a b : List Symbol) → list_any f (a ++ b) ≡ (list_any f a || list_any f b)
any-append f [] b = refl
any-append f (s ∷ a) b = ap (λ (x : Bool). f s || x) (any-append f a b) ∙ sym (or_assoc (f s) (list_any f a) (list_any f b))

or_self : (a : Bool) → (a || a) ≡ a
or_self true = refl
or_self false = refl

any-replicate : (f : Symbol → Bool) (n : ℕ) (s : Symbol) → 0 < n → list_any f (replicate n s) ≡ f s
any-replicate f zero s lt = absurd (omega arith)
any-replicate f (suc zero) s lt = or_false (f s)
any-replicate f (suc (suc n)) s lt = ap (λ (x : Bool). f s || x) (any-replicate f (suc n) s (omega arith)) ∙ or_self (f s)

pub any_runs : (f : Symbol → Bool) (runs : List Run) → ArePositive runs → list_any f (written_out runs) ≡ list_any (λ r. f r.symbol) runs
any_runs f [] pos = refl
any_runs f (r ∷ runs) pos =
    any-append f (replicate r.count r.symbol) (written_out runs)
    ∙ ap (λ (x : Bool). x || list_any f (written_out runs)) (any-replicate f r.count r.symbol pos.0)
    ∙ ap (λ (x : Bool). f r.symbol || x) (any_runs f runs pos.1)

pub signed_runs : (c : Category) (q : Option Symbol) (seen : Bool) (runs : List Run) → ArePositive runs → signed (positions_from c q seen (written_out runs)) ≡ list_any (λ r. is_sign_symbol r.symbol) runs
signed_runs c q seen runs pos = any_placed c q seen (written_out runs) ∙ any_runs is_sign_symbol runs pos

-- ---- what may float

-- the symbols of pictures that show no number
abbrev pub is_plain : Symbol → Bool
is_plain A = true
is_plain X = true
is_plain Nine = true
is_plain B = true
is_plain Zero = true
is_plain Slash = true
is_plain S = false
is_plain V = false
is_plain P = false
is_plain Comma = false
is_plain Point = false
is_plain Z = false
is_plain Star = false
is_plain Dollar = false
is_plain Plus = false
is_plain Minus = false
is_plain Credit = false
is_plain Debit = false

-- a symbol that may float takes a byte, and is no point, no P and no symbol of another category
pub record MayFloat (q : Option Symbol) : Type 0 where
  pub no_point : (s : Symbol) → is_decimal_point s ≡ true → is_that q s ≡ false
  pub no_scaling : is_that q P ≡ false
  pub wide : (s : Symbol) → is_that q s ≡ true → width s ≡ 1
  pub not_plain : (s : Symbol) → is_plain s ≡ true → is_that q s ≡ false

pub is_true : (s t : Symbol) → is s t ≡ true → t ≡ s
is_true s t e = first_one t s (eqb-true _ _ e)

one_may : (q : Symbol) → is_decimal_point q ≡ false → is q P ≡ false → width q ≡ 1 → is_plain q ≡ false → MayFloat (Some q)
one_may q a b w p = record {
  no_point = λ s h. is_other q s (λ e. let x : is_decimal_point s ≡ false = ap is_decimal_point e ∙ a in let y : true ≡ false = sym h ∙ x in cc);
  no_scaling = b;
  wide = λ s h. ap width (is_true q s h) ∙ w;
  not_plain = λ s h. is_other q s (λ e. let x : is_plain s ≡ false = ap is_plain e ∙ p in let y : true ≡ false = sym h ∙ x in cc);
}

none_may : MayFloat None
none_may = record { no_point = λ s h. refl; no_scaling = refl; wide = λ s h. absurd cc; not_plain = λ s h. refl }

chosen_may : (a b d : Bool) → MayFloat (if a then Some Dollar else (if b then Some Plus else (if d then Some Minus else None)))
chosen_may true b d = one_may Dollar refl refl refl refl
chosen_may false true d = one_may Plus refl refl refl refl
chosen_may false false true = one_may Minus refl refl refl refl
chosen_may false false false = none_may

pub floating_may : (xs : List Symbol) → MayFloat (floating xs)
floating_may xs = chosen_may (nat_le 2 (symbol_count Dollar xs)) (nat_le 2 (symbol_count Plus xs)) (nat_le 2 (symbol_count Minus xs))

-- ---- decimal places

pub scaling-placed : (c : Category) (q : Option Symbol) (seen : Bool) (xs : List Symbol) → count_by is_scaling (positions_from c q seen xs) ≡ symbol_count P xs
scaling-placed c q seen [] = refl
scaling-placed c q seen (s ∷ xs) = sum_by-cons (λ (p : Position). cond (is_scaling p) 1 0) (position_at c q seen s) (positions_from c q (seen || is_that q s) xs) ∙ ap (λ (n : ℕ). one_if (is P s) + n) (scaling-placed c q (seen || is_that q s) xs)

pub decimal-cons : (p : Position) (ps : List Position) → decimal_places (p ∷ ps) ≡ cond (is_decimal_place p) 1 0 + decimal_places ps
decimal-cons p ps = sum_by-cons (λ (p : Position). cond (is_decimal_place p) 1 0) p ps

split_count : (d p : Bool) → (p ≡ true → d ≡ false) → cond (d || p) 1 0 ≡ cond d 1 0 + cond p 1 0
split_count true true h = absurd (let x : true ≡ false = h refl in cc)
split_count true false h = refl
split_count false true h = refl
split_count false false h = refl

scaling_keeps_none : (c : Category) (q : Option Symbol) (seen : Bool) (s : Symbol) → is_that q P ≡ false → is P s ≡ true → is_digit_place (role_at c (is_that q s) seen s) ≡ false
scaling_keeps_none c q seen s f h =
    let e : s ≡ P = is_true P s h in
    ap (λ (t : Symbol). is_digit_place (role_at c (is_that q t) seen t)) e ∙ ap (λ (b : Bool). is_digit_place (role_at c b seen P)) f

pub decimal-placed : (c : Category) (q : Option Symbol) (seen : Bool) (xs : List Symbol) → is_that q P ≡ false → decimal_places (positions_from c q seen xs) ≡ digits (positions_from c q seen xs) + symbol_count P xs
decimal-placed c q seen [] f = refl
decimal-placed c q seen (s ∷ xs) f =
    let p = position_at c q seen s in
    let ps = positions_from c q (seen || is_that q s) xs in
    omega (arith, decimal-cons p ps, digits-cons p ps, split_count (is_digit_place p.role) (is P s) (scaling_keeps_none c q seen s f), decimal-placed c q (seen || is_that q s) xs f)

-- ---- the point

point_is_none : (c : Category) (q : Option Symbol) (seen : Bool) (s : Symbol) → is_decimal_point s ≡ true → is_that q s ≡ false → is_decimal_place (position_at c q seen s) ≡ false
point_is_none c q seen V e f = ap (λ (b : Bool). is_digit_place (role_at c b seen V) || false) f
point_is_none c q seen Point e f = ap (λ (b : Bool). is_digit_place (role_at c b seen Point) || false) f
point_is_none c q seen A e f = absurd cc
point_is_none c q seen X e f = absurd cc
point_is_none c q seen Nine e f = absurd cc
point_is_none c q seen S e f = absurd cc
point_is_none c q seen P e f = absurd cc
point_is_none c q seen B e f = absurd cc
point_is_none c q seen Zero e f = absurd cc
point_is_none c q seen Slash e f = absurd cc
point_is_none c q seen Comma e f = absurd cc
point_is_none c q seen Z e f = absurd cc
point_is_none c q seen Star e f = absurd cc
point_is_none c q seen Dollar e f = absurd cc
point_is_none c q seen Plus e f = absurd cc
point_is_none c q seen Minus e f = absurd cc
point_is_none c q seen Credit e f = absurd cc
point_is_none c q seen Debit e f = absurd cc

-- where a point stands first, nothing is left of it, and right of it are all decimal places
point_first : (c : Category) (q : Option Symbol) (seen : Bool) (n : ℕ) (s : Symbol) (rest : List Symbol) → 0 < n → is_decimal_point s ≡ true → is_that q s ≡ false
    → (before_point (positions_from c q seen (replicate n s ++ rest)) ≡ []) × (decimal_places (after_point (positions_from c q seen (replicate n s ++ rest))) ≡ decimal_places (positions_from c q seen (replicate n s ++ rest)))
point_first c q seen zero s rest lt e f = absurd (omega arith)
point_first c q seen (suc n) s rest lt e f =
    let p = position_at c q seen s in
    let ps = positions_from c q (seen || is_that q s) (replicate n s ++ rest) in
    let none : one_if (is_decimal_place p) ≡ 0 = ap one_if (point_is_none c q seen s e f) in
    let all : decimal_places (p ∷ ps) ≡ decimal_places ps = omega (arith, decimal-cons p ps, none) in (
      ap (λ (b : Bool). (if b then [] else p ∷ before_point ps)) e,
      ap (λ (b : Bool). decimal_places (if b then ps else after_point ps)) e ∙ sym all,
    )

-- no point stands in a run of another symbol
no_point : (c : Category) (q : Option Symbol) (seen : Bool) (n : ℕ) (s : Symbol) (rest : List Symbol) → is_decimal_point s ≡ false
    → (before_point (positions_from c q seen (replicate n s ++ rest)) ≡ positions_from c q seen (replicate n s) ++ before_point (positions_from c q (seen_after q seen (replicate n s)) rest))
    × (after_point (positions_from c q seen (replicate n s ++ rest)) ≡ after_point (positions_from c q (seen_after q seen (replicate n s)) rest))
no_point c q seen zero s rest e = (refl, refl)
no_point c q seen (suc n) s rest e =
    let p = position_at c q seen s in
    let ps = positions_from c q (seen || is_that q s) (replicate n s ++ rest) in
    let h = no_point c q (seen || is_that q s) n s rest e in (
      ap (λ (b : Bool). (if b then [] else p ∷ before_point ps)) e ∙ ap (λ (t : List Position). p ∷ t) h.0,
      ap (λ (b : Bool). (if b then ps else after_point ps)) e ∙ h.1,
    )

-- what the first point parts, said of runs
pub record IsParted (c : Category) (q : Option Symbol) (seen : Bool) (runs : List Run) (i : ℕ) : Type 0 where
  pub before : before_point (positions_from c q seen (written_out runs)) ≡ positions_from c q seen (written_out (take i runs))
  pub after : decimal_places (after_point (positions_from c q seen (written_out runs))) ≡ decimal_places (positions_from c q (seen_after q seen (written_out (take i runs))) (written_out (drop i runs)))

parted_here : (c : Category) (q : Option Symbol) (seen : Bool) (r : Run) (runs : List Run) → MayFloat q → 0 < r.count → is_decimal_point r.symbol ≡ true → IsParted c q seen (r ∷ runs) 0
parted_here c q seen r runs may lt e =
    let h = point_first c q seen r.count r.symbol (written_out runs) lt e (may.no_point r.symbol e) in
    record { before = h.0; after = h.1 }

parted_later : (c : Category) (q : Option Symbol) (seen : Bool) (r : Run) (runs : List Run) (k : ℕ) → is_decimal_point r.symbol ≡ false → IsParted c q (seen_after q seen (replicate r.count r.symbol)) runs k → IsParted c q seen (r ∷ runs) (suc k)
parted_later c q seen r runs k e later =
    let one = replicate r.count r.symbol in
    let h = no_point c q seen r.count r.symbol (written_out runs) e in
    record {
      before = h.0 ∙ ap (λ (t : List Position). positions_from c q seen one ++ t) later.before ∙ sym (placed-append c q seen one (written_out (take k runs)));
      after = ap decimal_places h.1 ∙ later.after ∙ ap (λ (b : Bool). decimal_places (positions_from c q b (written_out (drop k runs)))) (sym (seen_after-append q seen one (written_out (take k runs))));
    }

pub parted : (c : Category) (q : Option Symbol) (seen : Bool) (runs : List Run) → MayFloat q → ArePositive runs → IsParted c q seen runs (position_or_len (λ r. is_decimal_point r.symbol) runs)
parted c q seen [] may pos = record { before = refl; after = refl }
parted c q seen (r ∷ runs) may pos = at (is_decimal_point r.symbol) refl (parted c q (seen_after q seen (replicate r.count r.symbol)) runs may pos.1)
  where
    k : ℕ
    k = position_or_len (λ (r : Run). is_decimal_point r.symbol) runs

    at : (b : Bool) → is_decimal_point r.symbol ≡ b → IsParted c q (seen_after q seen (replicate r.count r.symbol)) runs k → IsParted c q seen (r ∷ runs) (position_or_len (λ (r : Run). is_decimal_point r.symbol) (r ∷ runs))
    at true e later =
        let n : position_or_len (λ (r : Run). is_decimal_point r.symbol) (r ∷ runs) ≡ 0 = ap (λ (b : Bool). cond (not b) (1 + k) 0) e in
        subst (IsParted c q seen (r ∷ runs)) (sym n) (parted_here c q seen r runs may pos.0 e)
    at false e later =
        let n : position_or_len (λ (r : Run). is_decimal_point r.symbol) (r ∷ runs) ≡ 1 + k = ap (λ (b : Bool). cond (not b) (1 + k) 0) e in
        let m : 1 + k ≡ suc k = omega arith in
        subst (IsParted c q seen (r ∷ runs)) (sym (n ∙ m)) (parted_later c q seen r runs k e later)

-- ---- a P that leads

leads_replicate : (c : Category) (q : Option Symbol) (seen : Bool) (n : ℕ) (s : Symbol) (rest : List Symbol) → 0 < n → is S s ≡ false → point_leads (λ (p : Position). p.symbol) (positions_from c q seen (replicate n s ++ rest)) ≡ is P s
leads_replicate c q seen zero s rest lt e = absurd (omega arith)
leads_replicate c q seen (suc n) s rest lt e = ap (λ (b : Bool). (if b then point_leads (λ (p : Position). p.symbol) (positions_from c q (seen || is_that q s) (replicate n s ++ rest)) else is P s)) e

leads_behind : (c : Category) (q : Option Symbol) (seen : Bool) (n : ℕ) (s : Symbol) (rest : List Symbol) → is S s ≡ true → point_leads (λ (p : Position). p.symbol) (positions_from c q seen (replicate n s ++ rest)) ≡ point_leads (λ (p : Position). p.symbol) (positions_from c q (seen_after q seen (replicate n s)) rest)
leads_behind c q seen zero s rest e = refl
leads_behind c q seen (suc n) s rest e = ap (λ (b : Bool). (if b then point_leads (λ (p : Position). p.symbol) (positions_from c q (seen || is_that q s) (replicate n s ++ rest)) else is P s)) e ∙ leads_behind c q (seen || is_that q s) n s rest e

pub leads_runs : (c : Category) (q : Option Symbol) (seen : Bool) (runs : List Run) → ArePositive runs → point_leads (λ (p : Position). p.symbol) (positions_from c q seen (written_out runs)) ≡ point_leads (λ (r : Run). r.symbol) runs
leads_runs c q seen [] pos = refl
leads_runs c q seen (r ∷ runs) pos = at (is S r.symbol) refl (leads_runs c q (seen_after q seen (replicate r.count r.symbol)) runs pos.1)
  where
    at : (b : Bool) → is S r.symbol ≡ b → point_leads (λ (p : Position). p.symbol) (positions_from c q (seen_after q seen (replicate r.count r.symbol)) (written_out runs)) ≡ point_leads (λ (r : Run). r.symbol) runs → point_leads (λ (p : Position). p.symbol) (positions_from c q seen (written_out (r ∷ runs))) ≡ point_leads (λ (r : Run). r.symbol) (r ∷ runs)
    at true e later = leads_behind c q seen r.count r.symbol (written_out runs) e ∙ later ∙ ap (λ (b : Bool). (if b then point_leads (λ (r : Run). r.symbol) runs else is P r.symbol)) (sym e)
    at false e later = leads_replicate c q seen r.count r.symbol (written_out runs) pos.0 e ∙ ap (λ (b : Bool). (if b then point_leads (λ (r : Run). r.symbol) runs else is P r.symbol)) (sym e)

pub size_more : (runs : List Run) (i : ℕ) (d : Run) → i < length runs → symbols_size (written_out (take (i + 1) runs)) ≡ symbols_size (written_out (take i runs)) + width (get_or runs i d).symbol * (get_or runs i d).count
size_more runs i d lt =
    let r = get_or runs i d in
    ap symbols_size (one_more runs i d lt) ∙ symbols_size-append (written_out (take i runs)) (replicate r.count r.symbol) ∙ ap (λ (n : ℕ). symbols_size (written_out (take i runs)) + n) (symbols_size-replicate r.count r.symbol)

-- ---- positions, one by one

replicate_less : (n i : ℕ) (s : Symbol) → i < n → replicate (n - i) s ≡ s ∷ replicate (n - (i + 1)) s
replicate_less n i s lt = ap (λ (m : ℕ). replicate m s) (let e : n - i ≡ suc (n - (i + 1)) = omega arith in e)

pub push_step : (old : List Position) (c : Category) (q : Option Symbol) (seen : Bool) (s : Symbol) (n i : ℕ) → i < n
    → (old ++ position_at c q seen s ∷ []) ++ positions_from c q (seen || is_that q s) (replicate (n - (i + 1)) s) ≡ old ++ positions_from c q seen (replicate (n - i) s)
push_step old c q seen s n i lt =
    append_assoc old (position_at c q seen s ∷ []) (positions_from c q (seen || is_that q s) (replicate (n - (i + 1)) s))
    ∙ ap (λ (t : List Symbol). old ++ positions_from c q seen t) (sym (replicate_less n i s lt))

pub push_end : (old : List Position) (c : Category) (q : Option Symbol) (seen : Bool) (s : Symbol) (n i : ℕ) → n ≤ i → old ++ positions_from c q seen (replicate (n - i) s) ≡ old
push_end old c q seen s n i le = ap (λ (m : ℕ). old ++ positions_from c q seen (replicate m s)) (let e : n - i ≡ 0 = omega arith in e) ∙ append-nil old

pub length_placed : (c : Category) (q : Option Symbol) (seen : Bool) (xs : List Symbol) → length (positions_from c q seen xs) ≡ length xs
length_placed c q seen [] = refl
length_placed c q seen (s ∷ xs) = omega (arith, length_placed c q (seen || is_that q s) xs)

pub length_taken : (runs : List Run) (i : ℕ) (d : Run) → i < length runs → length (written_out (take i runs)) + (get_or runs i d).count ≤ length (written_out runs)
length_taken runs i d lt =
    let whole : written_out runs ≡ written_out (take (i + 1) runs) ++ written_out (drop (i + 1) runs) = ap written_out (sym (take-append-drop (i + 1) runs)) ∙ flat_map-append (λ (r : Run). replicate r.count r.symbol) (take (i + 1) runs) (drop (i + 1) runs) in
    omega (arith, length_more runs i d lt, ap (length {A = Symbol}) whole, length-append (written_out (take (i + 1) runs)) (written_out (drop (i + 1) runs)))

pub placed_more : (c : Category) (q : Option Symbol) (seen : Bool) (runs : List Run) (i : ℕ) (d : Run) → i < length runs → positions_from c q seen (written_out (take (i + 1) runs)) ≡ positions_from c q seen (written_out (take i runs)) ++ positions_from c q (seen_after q seen (written_out (take i runs))) (replicate (get_or runs i d).count (get_or runs i d).symbol)
placed_more c q seen runs i d lt =
    let r = get_or runs i d in
    ap (positions_from c q seen) (one_more runs i d lt) ∙ placed-append c q seen (written_out (take i runs)) (replicate r.count r.symbol)

pub seen_more : (q : Option Symbol) (seen : Bool) (runs : List Run) (i : ℕ) (d : Run) → i < length runs → 0 < (get_or runs i d).count → seen_after q seen (written_out (take (i + 1) runs)) ≡ (seen_after q seen (written_out (take i runs)) || is_that q (get_or runs i d).symbol)
seen_more q seen runs i d lt pos =
    let r = get_or runs i d in
    ap (seen_after q seen) (one_more runs i d lt) ∙ seen_after-append q seen (written_out (take i runs)) (replicate r.count r.symbol) ∙ seen_replicate q (seen_after q seen (written_out (take i runs))) r.count r.symbol pos
