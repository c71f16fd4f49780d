-- The reaches of places, swept from the first byte on.
use Rattle.std.proofs.Common.{◌≡◌, ℕ, ◌+◌, ◌-◌, ◌<◌, Bool, true, false, nat_lt, ◌&&◌, ◌||◌, List, [], ◌∷◌, get_or, length, ◌++◌, refl, sym, ap, ◌∙◌, inl, inr, length-append, arith}
use Rattle.std.specs.List.{list_any}
use Rattle.std.proofs.Math.Seq.{get_or-append_seam}
use Rattle.std.proofs.lemmas.Bool.{cases_lt}
use Rattle.std.proofs.lemmas.List.{get_or_append_left}
use Rattle.cob_layout.specs.declared.fields.Place.{Place}
use Rattle.cob_report_cover.specs.Covered.{has_offset}
use Rattle.cob_report_cover.specs.Reaches.{begins_longer}

-- a place begins before this byte and has the one that stands so many behind it
abbrev pub passes : ℕ → ℕ → Place → Bool
passes b n p = nat_lt p.offset b && nat_lt (b + n) (p.offset + p.length)

-- tests that answer alike are passed alike
pub any_as : {A : Type 0} (f g : A → Bool) (xs : List A) → ((x : A) → f x ≡ g x) → list_any f xs ≡ list_any g xs
any_as f g [] same = refl
any_as f g (x ∷ xs) same = ap (λ (b : Bool). b || list_any f xs) (same x) ∙ ap (λ (b : Bool). g x || b) (any_as f g xs same)

four_or : (a b c d : Bool) → ((a || b) || (c || d)) ≡ ((a || c) || (b || d))
four_or true b c d = refl
four_or false true true d = refl
four_or false true false d = refl
four_or false false c d = refl

-- one of two tests is passed
pub any_either : {A : Type 0} (f g : A → Bool) (xs : List A) → list_any (λ x. f x || g x) xs ≡ (list_any f xs || list_any g xs)
any_either f g [] = refl
any_either f g (x ∷ xs) = ap (λ (b : Bool). (f x || g x) || b) (any_either f g xs) ∙ four_or (f x) (g x) (list_any f xs) (list_any g xs)

-- a place has a byte where it began before it and goes that far, or begins there
pub has_either : (b : ℕ) (p : Place) → (passes b 0 p || begins_longer b 0 p) ≡ has_offset b p
has_either b p = grind arith

-- and what is left one byte further
pub left_either : (b n : ℕ) (p : Place) → (passes b (n + 1) p || begins_longer b (n + 1) p) ≡ passes (b + 1) n p
left_either b n p = grind arith

pub passes_none : (n : ℕ) (ps : List Place) → list_any (passes 0 n) ps ≡ false
passes_none n [] = refl
passes_none n (p ∷ ps) = grind (arith, passes_none n ps)

-- what the places before a byte and those that begin at it leave, where the reach of the byte is that of these
joined : (ps : List Place) (b left reach now : ℕ) → ((n : ℕ) → nat_lt n left ≡ list_any (passes b n) ps) → ((n : ℕ) → nat_lt n reach ≡ list_any (begins_longer b n) ps)
    → ((n : ℕ) → nat_lt n now ≡ (nat_lt n left || nat_lt n reach)) → (n : ℕ) → nat_lt n now ≡ list_any (λ p. passes b n p || begins_longer b n p) ps
joined ps b left reach now before own longer n =
    longer n ∙ ap (λ (x : Bool). x || nat_lt n reach) (before n) ∙ ap (λ (x : Bool). list_any (passes b n) ps || x) (own n) ∙ sym (any_either (passes b n) (begins_longer b n) ps)

-- the byte is marked where a place has it
pub marked : (ps : List Place) (b left reach now : ℕ) → ((n : ℕ) → nat_lt n left ≡ list_any (passes b n) ps) → ((n : ℕ) → nat_lt n reach ≡ list_any (begins_longer b n) ps)
    → ((n : ℕ) → nat_lt n now ≡ (nat_lt n left || nat_lt n reach)) → nat_lt 0 now ≡ list_any (has_offset b) ps
marked ps b left reach now before own longer = joined ps b left reach now before own longer 0 ∙ any_as (λ p. passes b 0 p || begins_longer b 0 p) (has_offset b) ps (has_either b)

less_one : (n now : ℕ) → nat_lt n (now - 1) ≡ nat_lt (n + 1) now
less_one n now = grind arith

-- and what is left for the next one
pub left_next : (ps : List Place) (b left reach now : ℕ) → ((n : ℕ) → nat_lt n left ≡ list_any (passes b n) ps) → ((n : ℕ) → nat_lt n reach ≡ list_any (begins_longer b n) ps)
    → ((n : ℕ) → nat_lt n now ≡ (nat_lt n left || nat_lt n reach)) → (n : ℕ) → nat_lt n (now - 1) ≡ list_any (passes (b + 1) n) ps
left_next ps b left reach now before own longer n =
    less_one n now ∙ joined ps b left reach now before own longer (n + 1) ∙ any_as (λ p. passes b (n + 1) p || begins_longer b (n + 1) p) (passes (b + 1) n) ps (left_either b n)

pub nothing_below : (n : ℕ) → nat_lt n 0 ≡ false
nothing_below n = grind arith

-- the marks with the one of the next byte
pub mark_pushed : (ps : List Place) (marks now : List Bool) (mark : Bool) (b : ℕ) → now ≡ marks ++ mark ∷ [] → length marks ≡ b
    → ((o : ℕ) → o < length marks → get_or marks o false ≡ list_any (has_offset o) ps) → mark ≡ list_any (has_offset b) ps
    → (o : ℕ) → o < length now → get_or now o false ≡ list_any (has_offset o) ps
mark_pushed ps marks now mark b is long before own o lt = elim (cases_lt o (length marks)) [
  | inl low ↦ ap (λ (ms : List Bool). get_or ms o false) is ∙ get_or_append_left marks (mark ∷ []) false o low ∙ before o low
  | inr high ↦
      let many : length now ≡ length marks + 1 = ap length is ∙ length-append marks (mark ∷ []) in
      let here : o ≡ length marks = omega (arith, many, high, lt) in
      ap (λ (ms : List Bool). get_or ms o false) is ∙ ap (λ (k : ℕ). get_or (marks ++ mark ∷ []) k false) here ∙ get_or-append_seam marks mark [] false ∙ own
      ∙ ap (λ (k : ℕ). list_any (has_offset k) ps) (sym (here ∙ long))
]
