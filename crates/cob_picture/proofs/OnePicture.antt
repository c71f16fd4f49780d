-- A text is one picture, and then it breaks no rule.
use Rattle.std.proofs.Common.{◌≡◌, ℕ, ◌<◌, ◌≤◌, List, [], ◌∷◌, ◌++◌, length, Some, None, refl, sym, ap, subst, ◌∙◌, append_assoc, arith, inl, inr}
use Rattle.std.specs.Prelude.{◌⊎◌}
use Rattle.std.specs.List.{AllByRecursion, flat_map}
use Rattle.cob_picture.specs.declared.symbol.Symbol.{Symbol}
use Rattle.cob_picture.specs.declared.category.Category.{Category}
use Rattle.cob_picture.specs.declared.fault.PictureFault.{PictureFault}
use Rattle.cob_picture.specs.declared.fault.PictureFault.TheVariants.{Empty, UnknownSymbol, BadRepeat, Order, Digits, TooLong, LeftOut}
use Rattle.cob_picture.specs.Symbols.{first_of, rest_of, chars, symbol_with, IsLeftOutSymbol}
use Rattle.cob_picture.specs.WrittenOut.{IsDigit, closed, SpelledSymbol, Once, Times, IsItem, spelling, symbol_in, symbols_in, counted_in, NotOpen, Ready, SpellsItems, IsItemFault, IsBrokenAfter}
use Rattle.cob_picture.specs.Positions.{PlainPicture, symbol_count, positions, shows_number, is_edited}
use Rattle.cob_picture.specs.Counts.{size, digits, decimal_places}
use Rattle.cob_picture.specs.Categories.{IsOf}
use Rattle.cob_picture.specs.Pictures.{IsPicture, IsPictureOf, IsMisplaced, IsMisplacedIn, BreaksPictureRule}
use Rattle.cob_picture.proofs.Times.{first_one, with_first}
use Rattle.cob_picture.proofs.Cuts.{same_cut, not_digit_41}
use Rattle.cob_picture.proofs.Loop.{not_bracket, items_not_open}
use Rattle.cob_picture.proofs.EditedFacts.{one_category}
use Rattle.cob_picture.proofs.Limits.{times_fit}
use Rattle.cob_picture.proofs.Found.{fit_written, same_count}

cancel : (a x y : List ℕ) → a ++ x ≡ a ++ y → x ≡ y
cancel [] x y e = e
cancel (c ∷ a) x y e = cancel a x y (let tails : a ++ x ≡ a ++ y = cc in tails)

same_chars : (s t : Symbol) (x y : List ℕ) → chars s ++ x ≡ chars t ++ y → (s ≡ t) × (x ≡ y)
same_chars s t x y e =
    let heads : first_of s ≡ first_of t = cc in
    let tails : rest_of s ++ x ≡ rest_of t ++ y = cc in
    let same : s ≡ t = first_one s t heads in
    let there : rest_of t ++ x ≡ rest_of t ++ y = ap (λ (u : Symbol). rest_of u ++ x) (sym same) ∙ tails in
    (same, cancel (rest_of t) x y there)

-- one item stands at the front of a text
same_item : (i j : SpelledSymbol) (x y : List ℕ) → IsItem i → IsItem j → Ready (i ∷ []) x → Ready (j ∷ []) y → spelling i ++ x ≡ spelling j ++ y → (i ≡ j) × (x ≡ y)
same_item (Once s) (Once t) x y is js rx ry e = let h = same_chars s t x y e in (ap Once h.0, h.1)
same_item (Once s) (Times t ds) x y is js rx ry e =
    let h = same_chars s t x ((40 ∷ closed ds) ++ y) (e ∙ append_assoc (chars t) (40 ∷ closed ds) y) in
    absurd (let clash : NotOpen (40 ∷ (closed ds ++ y)) = subst NotOpen h.1 rx in clash refl)
same_item (Times s ds) (Once t) x y is js rx ry e =
    let h = same_chars t s y ((40 ∷ closed ds) ++ x) (sym e ∙ append_assoc (chars s) (40 ∷ closed ds) x) in
    absurd (let clash : NotOpen (40 ∷ (closed ds ++ x)) = subst NotOpen h.1 ry in clash refl)
same_item (Times s ds) (Times t es) x y is js rx ry e =
    let h = same_chars s t ((40 ∷ closed ds) ++ x) ((40 ∷ closed es) ++ y) (sym (append_assoc (chars s) (40 ∷ closed ds) x) ∙ e ∙ append_assoc (chars t) (40 ∷ closed es) y) in
    let inside : closed ds ++ x ≡ closed es ++ y = (let w : 40 ∷ (closed ds ++ x) ≡ 40 ∷ (closed es ++ y) = h.1 in cc) in
    let cut = same_cut IsDigit ds 41 x es 41 y is.0 js.0 not_digit_41 not_digit_41 (sym (append_assoc ds (41 ∷ []) x) ∙ inside ∙ append_assoc es (41 ∷ []) y) in
    let symbol-is : s ≡ t = h.0 in
    let digits-are : ds ≡ es = cut.0 in
    (cc, cut.2)

some_chars : (i : SpelledSymbol) (x : List ℕ) → 0 < length (spelling i ++ x)
some_chars (Once s) x = omega arith
some_chars (Times s ds) x = omega arith

not_open_behind : (items : List SpelledSymbol) (rest : List ℕ) → Ready items rest → 0 < length items ⊎ NotOpen rest → NotOpen (flat_map spelling items ++ rest)
not_open_behind [] rest r (inl lt) = absurd (omega arith)
not_open_behind [] rest r (inr h) = h
not_open_behind (Once s ∷ items) rest r h = not_bracket s
not_open_behind (Times s ds ∷ items) rest r h = not_bracket s

ready_here : (i : SpelledSymbol) (items : List SpelledSymbol) (rest : List ℕ) → Ready (i ∷ items) rest → Ready (i ∷ []) (flat_map spelling items ++ rest)
ready_here i [] rest r = r
ready_here (Once s) (j ∷ items) rest r = not_open_behind (j ∷ items) rest r (inl (omega arith))
ready_here (Times s ds) (j ∷ items) rest r = tt

ready_behind : (i : SpelledSymbol) (items : List SpelledSymbol) (rest : List ℕ) → Ready (i ∷ items) rest → Ready items rest
ready_behind i [] rest r = tt
ready_behind (Once s) (j ∷ items) rest r = r
ready_behind (Times s ds) (j ∷ items) rest r = r

ready_all : (i : SpelledSymbol) (items : List SpelledSymbol) → Ready (i ∷ []) (flat_map spelling items)
ready_all (Once s) items = items_not_open items
ready_all (Times s ds) items = tt

-- where items stand at the front, each reading of the text begins with them
front_reads : (items all : List SpelledSymbol) (rest : List ℕ) → AllByRecursion IsItem items → Ready items rest → AllByRecursion IsItem all → flat_map spelling items ++ rest ≡ flat_map spelling all
    → (more : List SpelledSymbol) × AllByRecursion IsItem more × (rest ≡ flat_map spelling more)
front_reads [] all rest is r each e = (all, each, e)
front_reads (i ∷ items) [] rest is r each e =
    absurd (let lt = some_chars i (flat_map spelling items ++ rest) in let same : spelling i ++ (flat_map spelling items ++ rest) ≡ [] = sym (append_assoc (spelling i) (flat_map spelling items) rest) ∙ e in omega (arith, ap (length {A = ℕ}) same))
front_reads (i ∷ items) (j ∷ all) rest is r each e =
    let h = same_item i j (flat_map spelling items ++ rest) (flat_map spelling all) is.0 each.0 (ready_here i items rest r) (ready_all j all) (sym (append_assoc (spelling i) (flat_map spelling items) rest) ∙ e) in
    front_reads items all rest is.1 (ready_behind i items rest r) each.1 h.1

same_items : (a b : List SpelledSymbol) → AllByRecursion IsItem a → AllByRecursion IsItem b → flat_map spelling a ≡ flat_map spelling b → a ≡ b
same_items [] [] ia ib e = refl
same_items [] (j ∷ b) ia ib e = absurd (let lt = some_chars j (flat_map spelling b) in omega (arith, ap (length {A = ℕ}) e))
same_items (i ∷ a) [] ia ib e = absurd (let lt = some_chars i (flat_map spelling a) in omega (arith, ap (length {A = ℕ}) e))
same_items (i ∷ a) (j ∷ b) ia ib e =
    let h = same_item i j (flat_map spelling a) (flat_map spelling b) ia.0 ib.0 (ready_all i a) (ready_all j b) e in
    let first : i ≡ j = h.0 in
    let more : a ≡ b = same_items a b ia.1 ib.1 h.1 in
    cc

one_reading : (text : List ℕ) (a b : List SpelledSymbol) → SpellsItems text a → SpellsItems text b → a ≡ b
one_reading text a b x y = same_items a b x.each y.each (sym x.spelled ∙ y.spelled)

pub one_picture : (text : List ℕ) (p q : PlainPicture) → IsPictureOf text p → IsPictureOf text q → p ≡ q
one_picture text p q x y =
    let same : x.symbols ≡ y.symbols = x.written ∙ ap (flat_map symbols_in) (one_reading text x.items y.items x.reads y.reads) ∙ sym y.written in
    let kind : p.category ≡ q.category = one_category p.category q.category y.symbols (subst (IsOf p.category) same x.is.order) y.is.order in
    let there : p.positions ≡ q.positions = x.positions ∙ ap (positions p.category) same ∙ ap (λ (c : Category). positions c y.symbols) kind ∙ sym y.positions in
    λ i. record { category = kind i; positions = there i }

-- ---- no rule is broken

left_out_is_none : (c : ℕ) → IsLeftOutSymbol c → symbol_with c ≡ None
left_out_is_none c (inl e) = ap symbol_with e
left_out_is_none c (inr (inl e)) = ap symbol_with e
left_out_is_none c (inr (inr (inl e))) = ap symbol_with e
left_out_is_none c (inr (inr (inr e))) = ap symbol_with e

item_stands : (f : PictureFault) (m : SpelledSymbol) (others : List SpelledSymbol) (rest : List ℕ) → IsItem m → rest ≡ spelling m ++ flat_map spelling others → IsItemFault f rest → ⊥
item_stands UnknownSymbol (Once s) others rest is e h = h.0 s (flat_map spelling others) e
item_stands UnknownSymbol (Times s ds) others rest is e h = h.0 s ((40 ∷ closed ds) ++ flat_map spelling others) (e ∙ append_assoc (chars s) (40 ∷ closed ds) (flat_map spelling others))
item_stands BadRepeat (Once s) others rest is e (inl (more, o)) = not_bracket s (let w : first_of s ∷ (rest_of s ++ flat_map spelling others) ≡ 40 ∷ more = sym e ∙ o in cc)
item_stands BadRepeat (Times s ds) others rest is e (inl (more, o)) = not_bracket s (let w : first_of s ∷ ((rest_of s ++ (40 ∷ closed ds)) ++ flat_map spelling others) ≡ 40 ∷ more = sym e ∙ o in cc)
item_stands BadRepeat (Once s) others rest is e (inr (t, more, o, bad)) =
    let h = same_chars s t (flat_map spelling others) (40 ∷ more) (sym e ∙ o) in
    let clash : NotOpen (40 ∷ more) = subst NotOpen h.1 (items_not_open others) in
    clash refl
item_stands BadRepeat (Times s ds) others rest is e (inr (t, more, o, bad)) =
    let h = same_chars s t ((40 ∷ closed ds) ++ flat_map spelling others) (40 ∷ more) (sym (append_assoc (chars s) (40 ∷ closed ds) (flat_map spelling others)) ∙ sym e ∙ o) in
    bad ds (flat_map spelling others) is.0 is.1 (let w : 40 ∷ (closed ds ++ flat_map spelling others) ≡ 40 ∷ more = h.1 in cc)
item_stands LeftOut m others rest is e (c, more, left, o) =
    let first : first_of (symbol_in m) ≡ c = head_of m others c more (sym e ∙ o) in
    let w : Some (symbol_in m) ≡ None = sym (with_first (symbol_in m)) ∙ ap symbol_with first ∙ left_out_is_none c left in
    cc
  where
    head_of : (m : SpelledSymbol) (others : List SpelledSymbol) (c : ℕ) (more : List ℕ) → spelling m ++ flat_map spelling others ≡ c ∷ more → first_of (symbol_in m) ≡ c
    head_of (Once s) others c more w = cc
    head_of (Times s ds) others c more w = cc
item_stands Empty m others rest is e h = h
item_stands Order m others rest is e h = h
item_stands Digits m others rest is e h = h
item_stands TooLong m others rest is e h = h

not_broken_after : (f : PictureFault) (text : List ℕ) (all : List SpelledSymbol) → SpellsItems text all → IsBrokenAfter f text → ⊥
not_broken_after f text all reads (items, rest, front, some, fault) =
    let h = front_reads items all rest front.each front.ready reads.each (sym front.spelled ∙ reads.spelled) in
    stands h.0 h.1 h.2
  where
    stands : (more : List SpelledSymbol) → AllByRecursion IsItem more → rest ≡ flat_map spelling more → ⊥
    stands [] each e = omega (arith, some, ap (length {A = ℕ}) e)
    stands (m ∷ others) each e = item_stands f m others rest each.0 e fault

not_misplaced : (f : PictureFault) (c : Category) (xs : List Symbol) → IsPicture c xs → IsMisplaced f xs → ⊥
not_misplaced Order c xs p m = m.0 c p.order
not_misplaced LeftOut c xs p m = m.0 c p.order
not_misplaced Digits c xs p (d, o, inl (shows, none)) =
    let e : d ≡ c = one_category d c xs o p.order in
    let some = p.limits.some_digits (ap shows_number (sym e) ∙ shows) in
    omega (arith, some, none, ap (λ (k : Category). digits (positions k xs)) e)
not_misplaced Digits c xs p (d, o, inr many) =
    let e : d ≡ c = one_category d c xs o p.order in
    omega (arith, p.limits.few_digits, many, ap (λ (k : Category). decimal_places (positions k xs)) e)
not_misplaced TooLong c xs p (d, o, inl many) =
    let e : d ≡ c = one_category d c xs o p.order in
    omega (arith, p.limits.fits, many, ap (λ (k : Category). size (positions k xs)) e)
not_misplaced TooLong c xs p (d, o, inr (edited, many)) =
    let e : d ≡ c = one_category d c xs o p.order in
    let fits = p.limits.edited_fits (ap is_edited (sym e) ∙ edited) in
    omega (arith, fits, many, ap (λ (k : Category). size (positions k xs)) e)
not_misplaced Empty c xs p m = m
not_misplaced UnknownSymbol c xs p m = m
not_misplaced BadRepeat c xs p m = m

not_misplaced_in : (f : PictureFault) (text : List ℕ) (p : PlainPicture) → IsPictureOf text p → IsMisplacedIn f text → ⊥
not_misplaced_in f text p h (items, reads, m) =
    let fit = fit_written 32752 h.items (omega arith) (λ s. subst (λ (xs : List Symbol). symbol_count s xs ≤ 32752) h.written (times_fit p.category h.symbols h.is s)) in
    let same : flat_map counted_in items ≡ h.symbols = ap (flat_map counted_in) (one_reading text items h.items reads h.reads) ∙ same_count h.items fit ∙ sym h.written in
    not_misplaced f p.category h.symbols h.is (subst (IsMisplaced f) same m)

pub breaks_no_rule : (text : List ℕ) (p : PlainPicture) (f : PictureFault) → IsPictureOf text p → BreaksPictureRule f text → ⊥
breaks_no_rule text p Empty h b = omega (arith, h.some, b)
breaks_no_rule text p UnknownSymbol h b = not_broken_after UnknownSymbol text h.items h.reads b
breaks_no_rule text p BadRepeat h b = not_broken_after BadRepeat text h.items h.reads b
breaks_no_rule text p Order h b = not_misplaced_in Order text p h b
breaks_no_rule text p Digits h b = not_misplaced_in Digits text p h b
breaks_no_rule text p TooLong h (inl long) = omega (arith, h.characters, long)
breaks_no_rule text p TooLong h (inr b) = not_misplaced_in TooLong text p h b
breaks_no_rule text p LeftOut h (inl b) = not_broken_after LeftOut text h.items h.reads b
breaks_no_rule text p LeftOut h (inr b) = not_misplaced_in LeftOut text p h b
