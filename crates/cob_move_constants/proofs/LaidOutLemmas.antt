-- Spaces behind a text change no order.
use Rattle.std.proofs.Common.{◌≡◌, ℕ, zero, suc, ◌+◌, ◌-◌, ◌<◌, ◌≤◌, List, [], ◌∷◌, ◌++◌, get_or, length, drop, take, replicate, refl, sym, ap, ◌∙◌, arith}
use Rattle.std.proofs.Math.Seq.{take-length}
use Rattle.std.proofs.lemmas.List.{drop_all, drop_more, length-append, length-replicate, length-take}
use Rattle.std.specs.declared.cmp.Ordering.{Ordering}
use Rattle.std.specs.declared.cmp.Ordering.TheVariants.{Equal}
use Rattle.std.specs.Ordering.{nat_cmp, ordering_then}
use Rattle.cob_cp037.specs.Named.{space_byte}
use Rattle.cob_copybook_entry.specs.Described.{PlainValue}
use Rattle.cob_move_receive.specs.Characters.{AreBytesOf, GivesConstant, padded}
use Rattle.cob_move_receive.proofs.CharacterLemmas.{bytes_length}
use Rattle.cob_move_receive.proofs.PaddingLemmas.{characters_are}
use Rattle.cob_move_condition.specs.Compared.{text_order}
use Rattle.cob_move_constants.specs.LaidOut.{IsLaidOut}

-- spaces are equal to nothing
spaces_alone : (k : ℕ) → text_order [] (replicate k space_byte) ≡ text_order [] []
spaces_alone zero = refl
spaces_alone (suc k) = ap (λ (o : Ordering). ordering_then (nat_cmp space_byte space_byte) o) (spaces_alone k)

spaces_beside : (xs : List ℕ) (k : ℕ) → text_order xs (replicate k space_byte) ≡ text_order xs []
spaces_beside [] k = spaces_alone k
spaces_beside (x ∷ xs) zero = refl
spaces_beside (x ∷ xs) (suc k) = ap (λ (o : Ordering). ordering_then (nat_cmp x space_byte) o) (spaces_beside xs k)

pub spaces_behind : (xs ys : List ℕ) (k : ℕ) → text_order xs (ys ++ replicate k space_byte) ≡ text_order xs ys
spaces_behind xs [] k = spaces_beside xs k
spaces_behind [] (y ∷ ys) k = ap (λ (o : Ordering). ordering_then (nat_cmp space_byte y) o) (spaces_behind [] ys k)
spaces_behind (x ∷ xs) (y ∷ ys) k = ap (λ (o : Ordering). ordering_then (nat_cmp x y) o) (spaces_behind xs ys k)

-- where the text has room, its bytes with spaces behind them have the same order
pub padded_order : (n : ℕ) (text beside : List ℕ) → length text ≤ n → text_order beside (padded n text) ≡ text_order beside text
padded_order n text beside room =
    ap (λ (t : List ℕ). text_order beside t) (sym (characters_are n (length text) text (omega (arith, room))))
    ∙ spaces_behind beside (take (length text) text) (n - length text)
    ∙ ap (λ (t : List ℕ). text_order beside t) (take-length text)

pub padded_long : (n : ℕ) (text : List ℕ) → length (padded n text) ≡ n
padded_long n text =
    length-take n (text ++ replicate n space_byte)
    ∙ omega (arith, length-append text (replicate n space_byte), length-replicate n space_byte)

-- so padded bytes are laid out
pub laid_is : (constant : PlainValue) (n : ℕ) (text bytes : List ℕ) → GivesConstant constant n text → bytes ≡ padded n text → length text ≤ n → IsLaidOut constant n bytes
laid_is constant n text bytes gives is room = record {
  text = text;
  gives = gives;
  long = ap (λ (t : List ℕ). length t) is ∙ padded_long n text;
  same = λ beside. ap (λ (t : List ℕ). text_order beside t) is ∙ padded_order n text beside room;
}

-- ---- room

pub literal_room : (n : ℕ) (characters text : List ℕ) → AreBytesOf characters text → length characters ≤ n → length text ≤ n
literal_room n characters text are room = omega (arith, bytes_length characters text are, room)

pub figure_room : (n byte : ℕ) (text : List ℕ) → text ≡ replicate n byte → length text ≤ n
figure_room n byte text is = let long : length text ≡ n = ap (λ (t : List ℕ). length t) is ∙ length-replicate n byte in omega (arith, long)

pub repeated_room : (n : ℕ) (bytes text : List ℕ) → text ≡ padded n bytes → length text ≤ n
repeated_room n bytes text is = let long : length text ≡ n = ap (λ (t : List ℕ). length t) is ∙ padded_long n bytes in omega (arith, long)

-- ---- the order of two texts of one length, byte by byte

pub order_step : (xs ys : List ℕ) (at : ℕ) (o : Ordering) → at < length xs → length xs ≡ length ys → nat_cmp (get_or xs at 0) (get_or ys at 0) ≡ o
    → text_order (drop at xs) (drop at ys) ≡ ordering_then o (text_order (drop (at + 1) xs) (drop (at + 1) ys))
order_step xs ys at o lt long compared =
    ap (λ (t : List ℕ). text_order t (drop at ys)) (drop_more xs at 0 lt)
    ∙ ap (λ (t : List ℕ). text_order (get_or xs at 0 ∷ drop (at + 1) xs) t) (drop_more ys at 0 (omega (arith, lt, long)))
    ∙ ap (λ (p : Ordering). ordering_then p (text_order (drop (at + 1) xs) (drop (at + 1) ys))) compared

pub order_done : (xs ys : List ℕ) (at : ℕ) → length xs ≤ at → length xs ≡ length ys → text_order (drop at xs) (drop at ys) ≡ Equal
order_done xs ys at le long =
    ap (λ (t : List ℕ). text_order t (drop at ys)) (drop_all at xs le) ∙ ap (λ (t : List ℕ). text_order [] t) (drop_all at ys (omega (arith, le, long)))
