-- The order of texts.
use Rattle.std.proofs.Common.{◌≡◌, ℕ, zero, suc, ◌+◌, ◌-◌, ◌%◌, ◌<◌, ◌≤◌, List, [], ◌∷◌, length, get_or, drop, refl, sym, ap, ◌∙◌, arith}
use Rattle.std.specs.declared.cmp.Ordering.{Ordering}
use Rattle.std.specs.declared.cmp.Ordering.TheVariants.{Less, Equal, Greater}
use Rattle.std.specs.Ordering.{nat_cmp, ordering_reverse, ordering_then}
use Rattle.std.proofs.lemmas.Cmp.{nat_cmp_total}
use Rattle.std.proofs.Common.{subst}
use Rattle.std.proofs.Math.Nat.{mod-lt}
use Rattle.std.proofs.lemmas.List.{drop_all, drop_more}
use Rattle.cob_cp037.specs.Named.{space_byte}
use Rattle.cob_cp037.proofs.TableLemmas.{one_to_one}
use Rattle.cob_copybook_entry.specs.Described.{Repeated}
use Rattle.cob_move_receive.specs.Characters.{AreBytesOf, GivesConstant, IsByteOf}
use Rattle.cob_move_receive.proofs.CharacterLemmas.{bytes_length, one_text, repeated_is, some_bytes}
use Rattle.cob_move_condition.specs.Compared.{text_order}
use Rattle.cob_move_condition.specs.Texts.{BeginsBy, first_or_space, behind_first}

-- one byte of each, and then the others
pub text_step : (xs ys : List ℕ) → 0 < length xs + length ys
    → text_order xs ys ≡ ordering_then (nat_cmp (first_or_space xs) (first_or_space ys)) (text_order (behind_first xs) (behind_first ys))
text_step [] [] some = absurd (omega (arith, some))
text_step [] (y ∷ ys) some = refl
text_step (x ∷ xs) [] some = refl
text_step (x ∷ xs) (y ∷ ys) some = refl

then_reversed : (o : Ordering) (a b : Ordering) → a ≡ ordering_reverse b → ordering_then (ordering_reverse o) a ≡ ordering_reverse (ordering_then o b)
then_reversed Less a b e = refl
then_reversed Equal a b e = e
then_reversed Greater a b e = refl

both_reversed : (x y : ℕ) (a b : Ordering) → a ≡ ordering_reverse b → ordering_then (nat_cmp x y) a ≡ ordering_reverse (ordering_then (nat_cmp y x) b)
both_reversed x y a b e = ap (λ (o : Ordering). ordering_then o a) (nat_cmp_total.antisymm x y) ∙ then_reversed (nat_cmp y x) a b e

-- the order the other way round
pub text_reversed : (xs ys : List ℕ) → text_order xs ys ≡ ordering_reverse (text_order ys xs)
text_reversed [] [] = refl
text_reversed [] (y ∷ ys) = both_reversed space_byte y (text_order [] ys) (text_order ys []) (text_reversed [] ys)
text_reversed (x ∷ xs) [] = both_reversed x space_byte (text_order xs []) (text_order [] xs) (text_reversed xs [])
text_reversed (x ∷ xs) (y ∷ ys) = both_reversed x y (text_order xs ys) (text_order ys xs) (text_reversed xs ys)

-- ---- a literal that is repeated

-- n bytes of a text that is repeated, from this place of it on
abbrev pub turning : List ℕ → (i n : ℕ) → List ℕ
turning coded i zero = []
turning coded i (suc n) = get_or coded (i % length coded) 0 ∷ turning coded (i + 1) n

length-turning : (coded : List ℕ) (i n : ℕ) → length (turning coded i n) ≡ n
length-turning coded i zero = refl
length-turning coded i (suc n) = ap suc (length-turning coded (i + 1) n)

turning_at : (coded : List ℕ) (i n k d : ℕ) → k < n → get_or (turning coded i n) k d ≡ get_or coded ((i + k) % length coded) 0
turning_at coded i zero k d lt = absurd (omega arith)
turning_at coded i (suc n) zero d lt = ap (λ (j : ℕ). get_or coded (j % length coded) 0) (omega arith)
turning_at coded i (suc n) (suc k) d lt = turning_at coded (i + 1) n k d (omega arith) ∙ ap (λ (j : ℕ). get_or coded (j % length coded) 0) (omega arith)

byte_at : (text bytes : List ℕ) (k : ℕ) → AreBytesOf text bytes → k < length text → IsByteOf (get_or text k 0) (get_or bytes k 0)
byte_at [] bytes k h lt = absurd (omega arith)
byte_at (c ∷ cs) [] k h lt = absurd h
byte_at (c ∷ cs) (b ∷ bs) zero h lt = h.0
byte_at (c ∷ cs) (b ∷ bs) (suc k) h lt = byte_at cs bs k h.1 (omega arith)

-- a character has one byte
one_byte : (character a b : ℕ) → IsByteOf character a → IsByteOf character b → a ≡ b
one_byte character a b p q =
    let same : a ∷ [] ≡ b ∷ [] = one_text one_to_one (character ∷ []) (a ∷ []) (b ∷ []) (p, refl) (q, refl) in
    cc

-- the bytes of a literal's characters
abbrev pub bytes_in : List ℕ → List ℕ
bytes_in literal = (some_bytes literal).0

long_as : (literal : List ℕ) → length (bytes_in literal) ≡ length literal
long_as literal = bytes_length literal (bytes_in literal) (some_bytes literal).1

-- its bytes in turn are what ALL and the literal give
pub turning_is : (literal : List ℕ) (n : ℕ) → 0 < length literal → GivesConstant (Repeated literal) n (turning (bytes_in literal) 0 n)
turning_is literal n some =
    repeated_is one_to_one literal (turning (bytes_in literal) 0 n) n (length-turning (bytes_in literal) 0 n) some (λ k lt.
    let inside : k % length literal < length literal = mod-lt k some in
    let none_before : 0 + k ≡ k = omega arith in
    let here : get_or (turning (bytes_in literal) 0 n) k 0 ≡ get_or (bytes_in literal) (k % length literal) 0 =
    turning_at (bytes_in literal) 0 n k 0 lt ∙ ap (λ (j : ℕ). get_or (bytes_in literal) (j % length (bytes_in literal)) 0) none_before
    ∙ ap (λ (j : ℕ). get_or (bytes_in literal) (k % j) 0) (long_as literal) in
    subst (IsByteOf (get_or literal (k % length literal) 0)) (sym here) (byte_at literal (bytes_in literal) (k % length literal) (some_bytes literal).1 inside))

-- the byte of the character that is its turn
pub turn_byte : (literal : List ℕ) (at byte : ℕ) → 0 < length literal → IsByteOf (get_or literal (at % length literal) 0) byte
    → byte ≡ get_or (bytes_in literal) (at % length (bytes_in literal)) 0
turn_byte literal at byte some is =
    one_byte (get_or literal (at % length literal) 0) byte (get_or (bytes_in literal) (at % length literal) 0) is
    (byte_at literal (bytes_in literal) (at % length literal) (some_bytes literal).1 (mod-lt at some))
    ∙ ap (λ (j : ℕ). get_or (bytes_in literal) (at % j) 0) (sym (long_as literal))

-- one byte of each, and then the others
turn_step : (text coded : List ℕ) (at : ℕ) → at < length text
    → text_order (drop at text) (turning coded at (length text - at))
    ≡ ordering_then (nat_cmp (get_or text at 0) (get_or coded (at % length coded) 0)) (text_order (drop (at + 1) text) (turning coded (at + 1) (length text - (at + 1))))
turn_step text coded at lt =
    let one_more : length text - at ≡ suc (length text - (at + 1)) = omega (arith, lt) in
    ap (λ (xs : List ℕ). text_order xs (turning coded at (length text - at))) (drop_more text at 0 lt)
    ∙ ap (λ (n : ℕ). text_order (get_or text at 0 ∷ drop (at + 1) text) (turning coded at n)) one_more

-- the first byte that differs decides
pub turn_decides : (text literal : List ℕ) (at byte other : ℕ) (o : Ordering) → at < length text → 0 < length literal
    → text_order text (turning (bytes_in literal) 0 (length text)) ≡ text_order (drop at text) (turning (bytes_in literal) at (length text - at))
    → byte ≡ get_or text at 0 → IsByteOf (get_or literal (at % length literal) 0) other → nat_cmp byte other ≡ o
    → text_order text (turning (bytes_in literal) 0 (length text)) ≡ ordering_then o (text_order (drop (at + 1) text) (turning (bytes_in literal) (at + 1) (length text - (at + 1))))
turn_decides text literal at byte other o lt some so_far here turn compared =
    let rest : Ordering = text_order (drop (at + 1) text) (turning (bytes_in literal) (at + 1) (length text - (at + 1))) in
    so_far ∙ turn_step text (bytes_in literal) at lt
    ∙ ap (λ (b : ℕ). ordering_then (nat_cmp b (get_or (bytes_in literal) (at % length (bytes_in literal)) 0)) rest) (sym here)
    ∙ ap (λ (b : ℕ). ordering_then (nat_cmp byte b) rest) (sym (turn_byte literal at other some turn))
    ∙ ap (λ (p : Ordering). ordering_then p rest) compared

-- where nothing is left they are equal
pub turn_done : (text coded : List ℕ) (at : ℕ) → length text ≤ at → text_order (drop at text) (turning coded at (length text - at)) ≡ Equal
turn_done text coded at le =
    let none : length text - at ≡ 0 = omega (arith, le) in
    ap (λ (xs : List ℕ). text_order xs (turning coded at (length text - at))) (drop_all at text le) ∙ ap (λ (n : ℕ). text_order [] (turning coded at n)) none

-- ---- a quoted literal

-- what is left of a text and a literal decides as they do
abbrev pub LeaveOrder : (text literal left right : List ℕ) → Type 0
LeaveOrder text literal left right = (bytes : List ℕ) → AreBytesOf right bytes → (coded : List ℕ) × AreBytesOf literal coded × (text_order text coded ≡ text_order left bytes)

-- one byte of each, and then the others
pub literal_step : (text literal left right behind others : List ℕ) (byte other : ℕ) → LeaveOrder text literal left right
    → 0 < length left + length right → byte ≡ first_or_space left → behind ≡ behind_first left
    → BeginsBy right other others → (bytes : List ℕ) → AreBytesOf others bytes → (coded : List ℕ) × AreBytesOf literal coded × (text_order text coded ≡ ordering_then (nat_cmp byte other) (text_order behind bytes))
literal_step text literal left right behind others byte other leaves some head tail next bytes are =
    let (coded, own, first, rest) = next bytes are in
    let (all, whole, so_far) = leaves coded own in
    let there : 0 < length left + length coded = omega (arith, some, bytes_length right coded own) in (
      all,
      whole,
      so_far ∙ text_step left coded there
          ∙ ap (λ (b : ℕ). ordering_then (nat_cmp b (first_or_space coded)) (text_order (behind_first left) (behind_first coded))) (sym head)
          ∙ ap (λ (b : ℕ). ordering_then (nat_cmp byte b) (text_order (behind_first left) (behind_first coded))) first
          ∙ ap (λ (t : List ℕ). ordering_then (nat_cmp byte other) (text_order t (behind_first coded))) (sym tail)
          ∙ ap (λ (t : List ℕ). ordering_then (nat_cmp byte other) (text_order behind t)) rest,
    )

-- the first byte that differs decides
pub literal_decides : (text literal behind others : List ℕ) (byte other : ℕ) (o : Ordering)
    → ((bytes : List ℕ) → AreBytesOf others bytes → (coded : List ℕ) × AreBytesOf literal coded × (text_order text coded ≡ ordering_then (nat_cmp byte other) (text_order behind bytes)))
    → nat_cmp byte other ≡ o → ((p : Ordering) → ordering_then o p ≡ o) → (coded : List ℕ) × AreBytesOf literal coded × (o ≡ text_order text coded)
literal_decides text literal behind others byte other o step compared decides =
    let (coded, are, is) = step (bytes_in others) (some_bytes others).1 in
    let rest : Ordering = text_order behind (bytes_in others) in
    (coded, are, sym (is ∙ ap (λ (p : Ordering). ordering_then p rest) compared ∙ decides rest))

-- where nothing is left they are equal
pub literal_done : (text literal left right : List ℕ) → LeaveOrder text literal left right → length left ≡ 0 → length right ≡ 0
    → (coded : List ℕ) × AreBytesOf literal coded × (Equal ≡ text_order text coded)
literal_done text literal [] [] leaves e f =
    let (coded, are, is) = leaves [] refl in
    (coded, are, sym is)
literal_done text literal [] (x ∷ xs) leaves e f = absurd (omega (arith, f))
literal_done text literal (x ∷ xs) right leaves e f = absurd (omega (arith, e))
