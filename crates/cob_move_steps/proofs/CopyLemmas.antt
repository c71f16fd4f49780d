-- Copies of few bytes, and what receivers get of characters.
use Rattle.std.proofs.Common.{◌≡◌, ◌-◌, ◌*◌, ◌≤◌, ◌<◌, ℕ, ◌&&◌, not, Bool, true, false, List, [], ◌∷◌, ◌++◌, length, take, drop, refl, sym, ap, subst, ◌∙◌, arith, Some, MatchBool, length-append, length-drop, length-take-le, take-take}
use Rattle.std.proofs.lemmas.List.{take-append-drop, take-append-le, drop_all, take_all, append-nil}
use Rattle.std.proofs.lemmas.Slice.{take-put_mid, drop-put_mid}
use borrow.Rule.Slice.PartMut.{put_mid}
use Rattle.cob_codec.specs.declared.reading.Reading.{Reading}
use Rattle.cob_picture.specs.Positions.{shows_number}
use Rattle.cob_picture.specs.declared.category.Category.{Category}
use Rattle.cob_picture.specs.declared.category.Category.TheVariants.{Alphabetic, Numeric, Alphanumeric, AlphanumericEdited, NumericEdited}
use Rattle.cob_copybook_tree.specs.declared.node.Kind.{Kind}
use Rattle.cob_copybook_tree.specs.declared.node.Kind.TheVariants.{Group, Item as ItemKind}
use Rattle.cob_copybook_tree.specs.declared.node.Item.{Item}
use Rattle.cob_copybook_tree.specs.Resolving.{is_number}
use Rattle.cob_move_receive.specs.Sent.{Entry}
use Rattle.cob_move_receive.specs.Characters.{Arranged, GivesDigits, Placement, padded, padded_left, placement_by, placement_in, placement_under}
use Rattle.cob_move_receive.specs.Received.{Received, GetsCharacters, GetsNumber}
use Rattle.cob_move_receive.specs.Copying.{is_of_characters}
use Rattle.cob_move_steps.specs.Copies.{gives_bytes, stands_right}

-- the bytes from one on, up to the last
pub tail_all : (a : ℕ) (xs : List ℕ) → take (length xs - a) (drop a xs) ≡ drop a xs
tail_all a xs = take_all (length xs - a) (drop a xs) (omega (arith, length-drop a xs))

-- so many bytes from there on, that end with the last
pub tail_taken : (N n : ℕ) (xs : List ℕ) → length xs ≡ n → N ≤ n → take (n - (n - N)) (drop (n - N) xs) ≡ drop (n - N) xs
tail_taken N n xs many least = take_all (n - (n - N)) (drop (n - N) xs) (omega (arith, length-drop (n - N) xs))

-- the bytes in front and those at the end are all bytes, where both together are as many
pub ends_copied : (N n : ℕ) (out bytes front back : List ℕ) → n ≡ length out → length bytes ≡ n → N ≤ n → n ≤ 2 * N
    → front ≡ take N bytes → back ≡ drop (n - N) bytes → put_mid (n - N) (length (front ++ drop N out) - (n - N)) (front ++ drop N out) back ≡ bytes
ends_copied N n out bytes front back many long least most first last =
    let a : ℕ = n - N in
    let before : List ℕ = front ++ drop N out in
    let k : ℕ = length before - a in
    let whole : List ℕ = put_mid a k before back in
    let first_long : length front ≡ N = ap length first ∙ length-take-le N bytes (omega arith) in
    let last_long : length back ≡ N = ap length last ∙ length-drop a bytes ∙ omega arith in
    let all : length before ≡ n = omega (arith, length-append front (drop N out), length-drop N out) in
    let written : take n whole ≡ take a before ++ back = take-put_mid a k before back n (omega arith) (omega arith) in
    let rest : drop n whole ≡ drop n before = drop-put_mid a k before back n (omega arith) (omega arith) (omega arith) in
    let none : drop n before ≡ [] = drop_all n before (omega arith) in
    let kept : take a before ≡ take a bytes = take-append-le a front (drop N out) (omega arith) ∙ ap (take a) first ∙ take-take a N bytes (omega arith) in
    sym (take-append-drop n whole) ∙ ap (λ xs. xs ++ drop n whole) written ∙ ap (λ xs. (take a before ++ back) ++ xs) (rest ∙ none) ∙ append-nil (take a before ++ back)
    ∙ ap (λ xs. xs ++ back) kept ∙ ap (λ xs. take a bytes ++ xs) last ∙ take-append-drop a bytes

-- ---- characters received

both : (a b : Bool) → (a && b) ≡ true → (a ≡ true) × (b ≡ true)
both true b e = (refl, e)
both false b e = absurd (cc)

is_not : (b : Bool) → not b ≡ true → b ≡ false
is_not true e = sym e
is_not false e = refl

pub unless : (b : Bool) (P Q : Type 0) → b ≡ false → Q → MatchBool b P Q
unless false P Q e q = q
unless true P Q e q = absurd (cc)

pub no_number : (c : Category) → is_of_characters c ≡ true → shows_number c ≡ false
no_number Alphabetic e = refl
no_number Alphanumeric e = refl
no_number Numeric e = absurd (cc)
no_number AlphanumericEdited e = absurd (cc)
no_number NumericEdited e = absurd (cc)

pub placed : (c : Category) (i : Item) → is_of_characters c ≡ true → placement_under c i ≡ placement_by i.justified
placed Alphabetic i e = refl
placed Alphanumeric i e = refl
placed Numeric i e = absurd (cc)
placed AlphanumericEdited i e = absurd (cc)
placed NumericEdited i e = absurd (cc)

-- characters stand from the left or from the right, as JUSTIFIED says
pub by_side : (justified right : Bool) (n : ℕ) (text written : List ℕ) → right ≡ justified → (right ≡ false → written ≡ padded n text) → (right ≡ true → written ≡ padded_left n text) → Arranged (placement_by justified) n text written
by_side false right n text written side left other = left side
by_side true right n text written side left other = other side

-- a receiver gets the characters
pub characters_received : (from to : Kind) (reading : Reading) (n : ℕ) (text written : List ℕ) (right : Bool) → gives_bytes from to ≡ true → right ≡ stands_right from to
    → (right ≡ false → written ≡ padded n text) → (right ≡ true → written ≡ padded_left n text) → Received (Entry from text reading) to n (Some written)
characters_received Group Group reading n text written right gives side left other = (text, refl, left side)
characters_received Group (ItemKind i) reading n text written right gives side left other = (text, refl, left side)
characters_received (ItemKind x) Group reading n text written right gives side left other = (text, refl, left side)
characters_received (ItemKind x) (ItemKind i) reading n text written right gives side left other =
    let (sends, receives) = both (not (is_number x)) (is_of_characters i.picture.category) gives in
    let given : MatchBool (is_number x) (GivesDigits reading x text text) (text ≡ text) = unless (is_number x) (GivesDigits reading x text text) (text ≡ text) (is_not (is_number x) sends) refl in
    let stands : Arranged (placement_in i) n text written =
    subst (λ (p : Placement). Arranged p n text written) (sym (placed i.picture.category i receives)) (by_side i.justified right n text written side left other) in
    unless (shows_number i.picture.category) (GetsNumber (Entry (ItemKind x) text reading) i (Some written)) (GetsCharacters (Entry (ItemKind x) text reading) (ItemKind i) n (Some written))
    (no_number i.picture.category receives) (text, given, stands)

-- no bytes are no others
pub none_copied : (from to : List ℕ) → length from ≡ length to → length to < 1 → to ≡ from
none_copied [] [] same few = refl
none_copied [] (t ∷ ts) same few = absurd (omega (arith, few))
none_copied (f ∷ fs) [] same few = absurd (omega (arith, same))
none_copied (f ∷ fs) (t ∷ ts) same few = absurd (omega (arith, few))
