-- The places of positions: how many there are, how many hold a byte and how many a digit.
use Rattle.std.proofs.Common.{◌≡◌, ◌+◌, ◌*◌, ◌≤◌, Bool, true, false, cond, ◌||◌, List, [], ◌∷◌, ◌++◌, length, Option, refl, sym, ◌∙◌, arith, IsTrue, count_by}
use Rattle.std.specs.Prelude.{if◌then◌else◌}
use Rattle.std.proofs.lemmas.List.{length-append}
use Rattle.std.proofs.lemmas.List.Sums.{sum_by-append}
use Rattle.cob_picture.specs.declared.symbol.Symbol.{Symbol}
use Rattle.cob_picture.specs.declared.symbol.Symbol.TheVariants.{A, X, Nine, S, V, P, B, Zero, Slash, Comma, Point, Z, Star, Dollar, Plus, Minus, Credit, Debit}
use Rattle.cob_picture.specs.declared.position.Position.{Position}
use Rattle.cob_picture.specs.declared.position.PositionRole.{PositionRole}
use Rattle.cob_picture.specs.declared.position.PositionRole.TheVariants.{Character, Insertion, DecimalPoint, Digit, Suppressed, Floating, FirstFloating, FixedSign, FixedCurrency, NoByte}
use Rattle.cob_picture.specs.declared.category.Category.{Category}
use Rattle.cob_picture.specs.declared.category.Category.TheVariants.{Alphabetic, Numeric, Alphanumeric, AlphanumericEdited, NumericEdited}
use Rattle.cob_picture.specs.Positions.{is, is_that, symbol_count, shows_number, floating, settled_role, role_at, position_at, positions_from, positions}
use Rattle.cob_picture.specs.Counts.{is_digit_place, width, size, digits}
use Rattle.cob_picture.specs.Measures.{symbols_size}
use Rattle.cob_picture.specs.Pictures.{IsPicture}
use Rattle.cob_picture.proofs.Placed.{MayFloat, floating_may, size-placed, decimal-placed, digits-cons}
use Rattle.cob_picture.proofs.Limits.{few_numeric, once_at_most}
use Rattle.cob_edit.specs.declared.place.EditedPlace.{EditedPlace}
use Rattle.cob_edit.specs.declared.place.EditedPlace.TheVariants.{AssumedPoint}
use Rattle.cob_edit.specs.Places.{is_digit, has_byte, bytes_of}
use Rattle.cob_edit.specs.Pictured.{fixed_places, position_places, places}

bytes-append : (a b : List EditedPlace) → bytes_of (a ++ b) ≡ bytes_of a + bytes_of b
bytes-append a b = sum_by-append (λ (p : EditedPlace). cond (has_byte p) 1 0) a b

digits-append : (a b : List EditedPlace) → count_by is_digit (a ++ b) ≡ count_by is_digit a + count_by is_digit b
digits-append a b = sum_by-append (λ (p : EditedPlace). cond (is_digit p) 1 0) a b

-- ---- digits

fixed_digits : (s : Symbol) → count_by is_digit (fixed_places s) ≡ 0
fixed_digits A = refl
fixed_digits X = refl
fixed_digits Nine = refl
fixed_digits S = refl
fixed_digits V = refl
fixed_digits P = refl
fixed_digits B = refl
fixed_digits Zero = refl
fixed_digits Slash = refl
fixed_digits Comma = refl
fixed_digits Point = refl
fixed_digits Z = refl
fixed_digits Star = refl
fixed_digits Dollar = refl
fixed_digits Plus = refl
fixed_digits Minus = refl
fixed_digits Credit = refl
fixed_digits Debit = refl

no_byte_digits : (v : Bool) → count_by is_digit (if v then AssumedPoint ∷ [] else []) ≡ 0
no_byte_digits true = refl
no_byte_digits false = refl

digits_here : (r : PositionRole) (s : Symbol) → count_by is_digit (position_places r s) ≡ cond (is_digit_place r) 1 0
digits_here Character s = refl
digits_here Insertion s = refl
digits_here DecimalPoint s = refl
digits_here Digit s = refl
digits_here Suppressed s = refl
digits_here Floating s = refl
digits_here FirstFloating s = refl
digits_here FixedSign s = fixed_digits s
digits_here FixedCurrency s = fixed_digits s
digits_here NoByte s = no_byte_digits (is V s)

-- a picture's digits are those of its places
pub digits_same : (ps : List Position) → count_by is_digit (places ps) ≡ digits ps
digits_same [] = refl
digits_same (p ∷ ps) = omega (arith, digits-append (position_places p.role p.symbol) (places ps), digits_here p.role p.symbol, digits-cons p ps, digits_same ps)

-- ---- bytes

settled_bytes : (c : Category) (s : Symbol) → bytes_of (position_places (settled_role c s) s) ≡ width s
settled_bytes c A = refl
settled_bytes c X = refl
settled_bytes c Nine = at (shows_number c)
  where
    at : (b : Bool) → bytes_of (position_places (if b then Digit else Character) Nine) ≡ 1
    at true = refl
    at false = refl
settled_bytes c S = refl
settled_bytes c V = refl
settled_bytes c P = refl
settled_bytes c B = refl
settled_bytes c Zero = refl
settled_bytes c Slash = refl
settled_bytes c Comma = refl
settled_bytes c Point = refl
settled_bytes c Z = refl
settled_bytes c Star = refl
settled_bytes c Dollar = refl
settled_bytes c Plus = refl
settled_bytes c Minus = refl
settled_bytes c Credit = refl
settled_bytes c Debit = refl

floating_bytes : (seen : Bool) (s : Symbol) → bytes_of (position_places (if seen then Floating else FirstFloating) s) ≡ 1
floating_bytes true s = refl
floating_bytes false s = refl

bytes_here : (c : Category) (floats seen : Bool) (s : Symbol) → (floats ≡ true → width s ≡ 1) → bytes_of (position_places (role_at c floats seen s) s) ≡ width s
bytes_here c true seen s wide = floating_bytes seen s ∙ sym (wide refl)
bytes_here c false seen s wide = settled_bytes c s

bytes_placed : (c : Category) (q : Option Symbol) (seen : Bool) (xs : List Symbol) → MayFloat q → bytes_of (places (positions_from c q seen xs)) ≡ symbols_size xs
bytes_placed c q seen [] may = refl
bytes_placed c q seen (s ∷ xs) may =
    let p = position_at c q seen s in
    let rest = positions_from c q (seen || is_that q s) xs in
    omega (arith, bytes-append (position_places p.role p.symbol) (places rest), bytes_here c (is_that q s) seen s (may.wide s), bytes_placed c q (seen || is_that q s) xs may)

-- a picture's size is that of its places
pub bytes_same : (c : Category) (xs : List Symbol) → bytes_of (places (positions c xs)) ≡ size (positions c xs)
bytes_same c xs = bytes_placed c (floating xs) false xs (floating_may xs) ∙ sym (size-placed c (floating xs) false xs)

-- ---- how many there are

settled_few : (c : Category) (s : Symbol) → length (position_places (settled_role c s) s) ≡ width s + (if is V s then 1 else 0)
settled_few c A = refl
settled_few c X = refl
settled_few c Nine = at (shows_number c)
  where
    at : (b : Bool) → length (position_places (if b then Digit else Character) Nine) ≡ 1
    at true = refl
    at false = refl
settled_few c S = refl
settled_few c V = refl
settled_few c P = refl
settled_few c B = refl
settled_few c Zero = refl
settled_few c Slash = refl
settled_few c Comma = refl
settled_few c Point = refl
settled_few c Z = refl
settled_few c Star = refl
settled_few c Dollar = refl
settled_few c Plus = refl
settled_few c Minus = refl
settled_few c Credit = refl
settled_few c Debit = refl

floating_few : (seen : Bool) (s : Symbol) → length (position_places (if seen then Floating else FirstFloating) s) ≡ 1
floating_few true s = refl
floating_few false s = refl

few_here : (c : Category) (floats seen : Bool) (s : Symbol) → (floats ≡ true → width s ≡ 1) → length (position_places (role_at c floats seen s) s) ≤ width s + (if is V s then 1 else 0)
few_here c true seen s wide = omega (arith, floating_few seen s, wide refl)
few_here c false seen s wide = omega (arith, settled_few c s)

few_placed : (c : Category) (q : Option Symbol) (seen : Bool) (xs : List Symbol) → MayFloat q → length (places (positions_from c q seen xs)) ≤ symbols_size xs + symbol_count V xs
few_placed c q seen [] may = omega arith
few_placed c q seen (s ∷ xs) may =
    let p = position_at c q seen s in
    let rest = positions_from c q (seen || is_that q s) xs in
    omega (arith, length-append (position_places p.role p.symbol) (places rest), few_here c (is_that q s) seen s (may.wide s), few_placed c q (seen || is_that q s) xs may)

-- no symbol takes more than two bytes
narrow : (s : Symbol) → width s ≤ 2
narrow A = omega arith
narrow X = omega arith
narrow Nine = omega arith
narrow S = omega arith
narrow V = omega arith
narrow P = omega arith
narrow B = omega arith
narrow Zero = omega arith
narrow Slash = omega arith
narrow Comma = omega arith
narrow Point = omega arith
narrow Z = omega arith
narrow Star = omega arith
narrow Dollar = omega arith
narrow Plus = omega arith
narrow Minus = omega arith
narrow Credit = omega arith
narrow Debit = omega arith

few_double : (xs : List Symbol) → symbols_size xs ≤ 2 * length xs
few_double [] = omega arith
few_double (s ∷ xs) = omega (arith, narrow s, few_double xs)

scaling_few : (c : Category) (xs : List Symbol) → IsPicture c xs → digits (positions c xs) + symbol_count P xs ≤ 31
scaling_few c xs p = omega (arith, decimal-placed c (floating xs) false xs (floating_may xs).no_scaling, p.limits.few_digits)

-- a picture of a number has few places
pub few_places : (c : Category) (xs : List Symbol) → IsPicture c xs → IsTrue (shows_number c) → length (places (positions c xs)) + 2 ≤ 256
few_places Numeric xs p h = omega (arith, few_placed Numeric (floating xs) false xs (floating_may xs), few_double xs, few_numeric xs p, (once_at_most Numeric xs p.order).1)
few_places NumericEdited xs p h = omega (arith, few_placed NumericEdited (floating xs) false xs (floating_may xs), size-placed NumericEdited (floating xs) false xs, p.limits.edited_fits refl, (once_at_most NumericEdited xs p.order).1)
few_places AlphanumericEdited xs p h = absurd (cc)
few_places Alphabetic xs p h = absurd (cc)
few_places Alphanumeric xs p h = absurd (cc)

-- a picture has few digits
pub few_digits : (c : Category) (xs : List Symbol) → IsPicture c xs → count_by is_digit (places (positions c xs)) ≤ 31
few_digits c xs p = omega (arith, digits_same (positions c xs), scaling_few c xs p)
