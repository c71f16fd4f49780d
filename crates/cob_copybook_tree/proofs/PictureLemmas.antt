-- A numeric picture has a byte for each digit.
use Rattle.std.proofs.Common.{◌≡◌, ℕ, zero, suc, List, [], ◌∷◌, ◌++◌, refl, sym, subst, ◌∙◌, arith, Bool, true, false, Option, replicate}
use Rattle.std.specs.List.{AllByRecursion}
use Rattle.std.specs.Prelude.{cond, ◌||◌}
use Rattle.cob_picture.specs.declared.symbol.Symbol.{Symbol}
use Rattle.cob_picture.specs.declared.symbol.Symbol.TheVariants.{S, V, P, Nine}
use Rattle.cob_picture.specs.declared.position.Position.{Position}
use Rattle.cob_picture.specs.declared.category.Category.{Category}
use Rattle.cob_picture.specs.declared.category.Category.TheVariants.{Alphabetic, Numeric, Alphanumeric, AlphanumericEdited, NumericEdited}
use Rattle.cob_picture.specs.Positions.{positions, positions_from, position_at, role_at, floating, is_that}
use Rattle.cob_picture.specs.Counts.{digits, size, width, is_digit_place}
use Rattle.cob_picture.specs.Numeric.{numeric_symbols}
use Rattle.cob_picture.specs.Pictures.{IsPicture}
use Rattle.cob_picture.specs.Measures.{symbols_size}
use Rattle.cob_copybook_entry.proofs.picture_lemmas.Placed.{MayFloat, floating_may, digits-cons, size-placed}
use Rattle.cob_copybook_tree.specs.Resolving.{is_numeric}

-- wherever this symbol stands in a numeric picture, it has as many bytes as digits
abbrev IsEven : Symbol → Type 0
IsEven s = (q : Option Symbol) (seen : Bool) → MayFloat q → cond (is_digit_place (role_at Numeric (is_that q s) seen s)) 1 0 ≡ width s

settled : (q : Option Symbol) (seen : Bool) (s : Symbol) (n : ℕ) → is_that q s ≡ false → cond (is_digit_place (role_at Numeric false seen s)) 1 0 ≡ n → cond (is_digit_place (role_at Numeric (is_that q s) seen s)) 1 0 ≡ n
settled q seen s n e h = subst (λ (b : Bool). cond (is_digit_place (role_at Numeric b seen s)) 1 0 ≡ n) (sym e) h

thin : (b : Bool) (n : ℕ) → n ≡ 0 → (b ≡ true → n ≡ 1) → b ≡ false
thin false n z h = refl
thin true n z h = absurd (omega (arith, h refl))

even_s : IsEven S
even_s q seen may = settled q seen S 0 (thin (is_that q S) 0 refl (may.wide S)) refl

even_v : IsEven V
even_v q seen may = settled q seen V 0 (thin (is_that q V) 0 refl (may.wide V)) refl

even_p : IsEven P
even_p q seen may = settled q seen P 0 (thin (is_that q P) 0 refl (may.wide P)) refl

even_nine : IsEven Nine
even_nine q seen may = settled q seen Nine 1 (may.not_plain Nine refl) refl

all_append : (xs ys : List Symbol) → AllByRecursion IsEven xs → AllByRecursion IsEven ys → AllByRecursion IsEven (xs ++ ys)
all_append [] ys h k = k
all_append (x ∷ xs) ys h k = (h.0, all_append xs ys h.1 k)

all_replicate : (n : ℕ) (s : Symbol) → IsEven s → AllByRecursion IsEven (replicate n s)
all_replicate zero s h = tt
all_replicate (suc n) s h = (h, all_replicate n s h)

even : (q : Option Symbol) (seen : Bool) (xs : List Symbol) → MayFloat q → AllByRecursion IsEven xs → digits (positions_from Numeric q seen xs) ≡ symbols_size xs
even q seen [] may h = refl
even q seen (s ∷ xs) may h =
    omega (arith, digits-cons (position_at Numeric q seen s) (positions_from Numeric q (seen || is_that q s) xs), h.0 q seen may, even q (seen || is_that q s) xs may h.1)

numeric : (symbols : List Symbol) → IsPicture Numeric symbols → digits (positions Numeric symbols) ≡ size (positions Numeric symbols)
numeric symbols is =
    let n = is.order.0 in
    let all : AllByRecursion IsEven (numeric_symbols n)
    = all_append (replicate n.signs S) _ (all_replicate n.signs S even_s)
    (all_append (replicate n.points V) _ (all_replicate n.points V even_v)
    (all_append (replicate n.left P) _ (all_replicate n.left P even_p)
    (all_append (replicate n.nines Nine) _ (all_replicate n.nines Nine even_nine)
    (all_append (replicate n.right P) _ (all_replicate n.right P even_p)
    (all_append (replicate n.after V) _ (all_replicate n.after V even_v) (all_replicate n.fraction Nine even_nine)))))) in
    even (floating symbols) false symbols (floating_may symbols) (subst (AllByRecursion IsEven) (sym is.order.2) all) ∙ sym (size-placed Numeric (floating symbols) false symbols)

-- a numeric picture of these symbols has as many digits as bytes
pub digits_are_bytes : (c : Category) (symbols : List Symbol) (ps : List Position) → is_numeric c ≡ true → IsPicture c symbols → ps ≡ positions c symbols → digits ps ≡ size ps
digits_are_bytes Numeric symbols ps e is at = subst (λ (qs : List Position). digits qs ≡ size qs) (sym at) (numeric symbols is)
digits_are_bytes Alphabetic symbols ps e is at = absurd cc
digits_are_bytes Alphanumeric symbols ps e is at = absurd cc
digits_are_bytes AlphanumericEdited symbols ps e is at = absurd cc
digits_are_bytes NumericEdited symbols ps e is at = absurd cc
