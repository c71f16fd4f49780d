-- The laws of packed decimal, proved.
use Rattle.std.proofs.Common.{◌≡◌, ℕ, ◌+◌, ◌*◌, ◌/◌, ◌%◌, ◌<◌, ◌≤◌, List, [], ◌∷◌, ◌++◌, length, refl, sym, ap, ◌∙◌, arith, suc, zero, append_assoc, Bool, length-append}
use Rattle.std.specs.Prelude.{replicate}
use Rattle.std.specs.List.{AllByRecursion}
use Rattle.std.proofs.lemmas.List.{length-replicate, append_cancel_left, same_from_push}
use Rattle.std.proofs.lemmas.Nat.{div-mul-add, mod-mul-add}
use Rattle.cob_decimal.specs.Decimal.{IsDigits}
use Rattle.cob_codec.specs.Sign.{sign_code, IsHeld}
use Rattle.cob_codec.proofs.SignLemmas.{code_meaning, code_small, one_sign, held, held_sign}
use Rattle.cob_codec.proofs.SeparateLaws.{heads, tails}
use Rattle.cob_codec.specs.Packed.{halves, bytes_of_halves, pad_count, packed_halves, packed_form, IsPacked, IsEnded}

pub length-halves : (bs : List ℕ) → length (halves bs) ≡ 2 * length bs
length-halves [] = refl
length-halves (b ∷ bs) = omega (arith, length-halves bs)

pub length-joined : (hs : List ℕ) → length (bytes_of_halves hs) ≡ length hs / 2
length-joined [] = omega arith
length-joined (a ∷ []) = omega arith
length-joined (a ∷ b ∷ hs) = omega (arith, length-joined hs)

pub halves-append : (xs ys : List ℕ) → halves (xs ++ ys) ≡ halves xs ++ halves ys
halves-append [] ys = refl
halves-append (x ∷ xs) ys = ap (λ zs. x / 16 ∷ x % 16 ∷ zs) (halves-append xs ys)

pub halves-push : (xs : List ℕ) (b : ℕ) → halves (xs ++ b ∷ []) ≡ halves xs ++ (b / 16 ∷ b % 16 ∷ [])
halves-push xs b = halves-append xs (b ∷ [])

-- each is a half byte
abbrev pub AreHalves : List ℕ → Type 0
AreHalves hs = AllByRecursion (λ h. h < 16) hs

halves_joined : (hs : List ℕ) → length hs % 2 ≡ 0 → AreHalves hs → halves (bytes_of_halves hs) ≡ hs
halves_joined [] even small = refl
halves_joined (a ∷ []) even small = absurd (omega arith)
halves_joined (a ∷ b ∷ hs) even small =
    let rest : length hs % 2 ≡ 0 = omega arith in
    ap (λ x. x ∷ (a * 16 + b) % 16 ∷ halves (bytes_of_halves hs)) (div-mul-add a 16 b small.1.0)
    ∙ ap (λ x. a ∷ x ∷ halves (bytes_of_halves hs)) (mod-mul-add a 16 b small.1.0)
    ∙ ap (λ xs. a ∷ b ∷ xs) (halves_joined hs rest small.1.1)

digits_are_halves : (ds : List ℕ) (code : ℕ) → IsDigits ds → code < 16 → AreHalves (ds ++ code ∷ [])
digits_are_halves [] code valid small = (small, tt)
digits_are_halves (d ∷ ds) code valid small = let digit : d < 10 = valid.0 in (omega arith, digits_are_halves ds code valid.1 small)

zeros_are_halves : (n : ℕ) (hs : List ℕ) → AreHalves hs → AreHalves (replicate n 0 ++ hs)
zeros_are_halves zero hs small = small
zeros_are_halves (suc n) hs small = (omega arith, zeros_are_halves n hs small)

packed_length : (n code : ℕ) (ds : List ℕ) → length ds ≡ n → length (packed_halves n ds code) ≡ pad_count n + (n + 1)
packed_length n code ds e = omega (arith, length-append (replicate (pad_count n) 0) (ds ++ code ∷ []), length-append ds (code ∷ []), length-replicate {A = ℕ} (pad_count n) 0)

pub stored_length : (count : ℕ) (signed negative : Bool) (ds : List ℕ) → length ds ≡ count → length (packed_form signed negative ds) ≡ count / 2 + 1
stored_length count signed negative ds many =
    let code : ℕ = sign_code signed negative in
    omega (arith, length-joined (packed_halves (length ds) ds code), packed_length (length ds) code ds refl)

pub form_halves : (signed negative : Bool) (ds : List ℕ) → IsDigits ds → halves (packed_form signed negative ds) ≡ packed_halves (length ds) ds (sign_code signed negative)
form_halves signed negative ds valid =
    let code : ℕ = sign_code signed negative in
    let even : length (packed_halves (length ds) ds code) % 2 ≡ 0 = omega (arith, packed_length (length ds) code ds refl) in
    halves_joined (packed_halves (length ds) ds code) even (zeros_are_halves (pad_count (length ds)) (ds ++ code ∷ []) (digits_are_halves ds code valid (code_small signed negative)))

-- what was stored reads back
pub reads_back : (count : ℕ) (signed negative : Bool) (ds : List ℕ) → IsHeld count signed negative ds → IsPacked count signed (packed_form signed negative ds) negative ds
reads_back count signed negative ds number = record {
  count_is = number.count_is;
  valid = number.valid;
  code = sign_code signed negative;
  text = form_halves signed negative ds number.valid ∙ ap (λ n. packed_halves n ds (sign_code signed negative)) number.count_is;
  minus = negative;
  meaning = code_meaning signed negative number.minus;
  sign = held_sign negative ds number.nonzero;
}

pub one_number : (count : ℕ) (signed : Bool) (bytes : List ℕ) (a b : Bool) (ds es : List ℕ) → IsPacked count signed bytes a ds → IsPacked count signed bytes b es → (a ≡ b) × (ds ≡ es)
one_number count signed bytes a b ds es p q =
    let rest : ds ++ p.code ∷ [] ≡ es ++ q.code ∷ [] = append_cancel_left (replicate (pad_count count) 0) (ds ++ p.code ∷ []) (es ++ q.code ∷ []) (sym p.text ∙ q.text) in
    let same : (ds ≡ es) × (p.code ≡ q.code) = same_from_push ds es p.code q.code rest in
    (one_sign signed p.code q.code a b p.minus q.minus ds es same.1 same.0 p.meaning q.meaning p.sign q.sign, same.0)

pub held_packed : (count : ℕ) (signed : Bool) (bytes : List ℕ) (negative : Bool) (ds : List ℕ) → IsPacked count signed bytes negative ds → IsHeld count signed negative ds
held_packed count signed bytes negative ds p = held count signed p.minus negative p.code ds p.count_is p.valid p.meaning p.sign

-- the digits in front of the last are one fewer
pub front_count : (count : ℕ) (front fd : List ℕ) → 0 < count → length front ≡ count / 2 → halves front ≡ replicate (pad_count count) 0 ++ fd → length fd + 1 ≡ count
front_count count front fd some long text =
    omega (arith, length-halves front, ap length text, length-append (replicate (pad_count count) 0) fd, length-replicate {A = ℕ} (pad_count count) 0)

valid-push : (ds : List ℕ) (d : ℕ) → IsDigits ds → d < 10 → IsDigits (ds ++ d ∷ [])
valid-push [] d valid small = (small, tt)
valid-push (x ∷ xs) d valid small = (valid.0, valid-push xs d valid.1 small)

valid-front : (ds : List ℕ) (d : ℕ) → IsDigits (ds ++ d ∷ []) → IsDigits ds × (d < 10)
valid-front [] d valid = (tt, valid.0)
valid-front (x ∷ xs) d valid = let rest = valid-front xs d valid.1 in ((valid.0, rest.0), rest.1)

-- the number of the bytes before the last and of the last
pub packed_from : (count : ℕ) (signed : Bool) (bytes front : List ℕ) (last : ℕ) (fd : List ℕ) (negative : Bool) (ds : List ℕ) → 0 < count → bytes ≡ front ++ last ∷ [] → length front ≡ count / 2 → halves front ≡ replicate (pad_count count) 0 ++ fd → IsDigits fd → IsEnded signed fd last negative ds → IsPacked count signed bytes negative ds
packed_from count signed bytes front last fd negative ds some whole long text valid ended =
    let zeros : List ℕ = replicate (pad_count count) 0 in
    record {
      count_is = omega (arith, front_count count front fd some long text, ap length ended.digits_are, length-append fd (last / 16 ∷ []));
      valid = rw ended.digits_are (valid-push fd (last / 16) valid ended.digit);
      code = last % 16;
      text = ap halves whole ∙ halves-push front last ∙ ap (λ hs. hs ++ (last / 16 ∷ last % 16 ∷ [])) text
          ∙ append_assoc zeros fd (last / 16 ∷ last % 16 ∷ [])
          ∙ ap (λ hs. zeros ++ hs) (sym (append_assoc fd (last / 16 ∷ []) (last % 16 ∷ [])))
          ∙ ap (λ hs. zeros ++ (hs ++ last % 16 ∷ [])) (sym ended.digits_are);
      minus = ended.minus;
      meaning = ended.meaning;
      sign = ended.sign;
    }

-- a list that goes on behind a front, cut before its last
split_front : (ps ds fs : List ℕ) (h : ℕ) → length ps ≤ length fs → ps ++ ds ≡ fs ++ h ∷ [] → (fd : List ℕ) × (fs ≡ ps ++ fd) × (ds ≡ fd ++ h ∷ [])
split_front [] ds fs h few e = (fs, refl, e)
split_front (p ∷ ps) ds [] h few e = absurd (omega arith)
split_front (p ∷ ps) ds (f ∷ fs) h few e =
    let rest = split_front ps ds fs h (omega arith) (tails p f (ps ++ ds) (fs ++ h ∷ []) e) in
    let head : p ≡ f = heads p f (ps ++ ds) (fs ++ h ∷ []) e in
    (rest.0, ap (λ x. x ∷ fs) (sym head) ∙ ap (λ xs. p ∷ xs) rest.1, rest.2)

-- the parts of packed bytes
pub record Parts (count : ℕ) (signed : Bool) (front : List ℕ) (last : ℕ) (negative : Bool) (ds : List ℕ) : Type 0 where
  pub fd : List ℕ
  pub text : halves front ≡ replicate (pad_count count) 0 ++ fd
  pub valid : IsDigits fd
  pub ended : IsEnded signed fd last negative ds

pub packed_parts : (count : ℕ) (signed : Bool) (bytes front : List ℕ) (last : ℕ) (negative : Bool) (ds : List ℕ) → 0 < count → bytes ≡ front ++ last ∷ [] → length front ≡ count / 2 → IsPacked count signed bytes negative ds → Parts count signed front last negative ds
packed_parts count signed bytes front last negative ds some whole long p =
    let zeros : List ℕ = replicate (pad_count count) 0 in
    let all : (zeros ++ ds) ++ p.code ∷ [] ≡ (halves front ++ last / 16 ∷ []) ++ last % 16 ∷ [] =
    append_assoc zeros ds (p.code ∷ []) ∙ sym p.text ∙ ap halves whole ∙ halves-push front last ∙ sym (append_assoc (halves front) (last / 16 ∷ []) (last % 16 ∷ []))
    in
    let cut : (zeros ++ ds ≡ halves front ++ last / 16 ∷ []) × (p.code ≡ last % 16) = same_from_push (zeros ++ ds) (halves front ++ last / 16 ∷ []) p.code (last % 16) all in
    let few : length zeros ≤ length (halves front) = omega (arith, length-replicate {A = ℕ} (pad_count count) 0, length-halves front) in
    let parts = split_front zeros ds (halves front) (last / 16) few cut.0 in
    let digits : ds ≡ parts.0 ++ last / 16 ∷ [] = parts.2 in
    let valid = valid-front parts.0 (last / 16) (rw digits at p.valid) in
    record {
      fd = parts.0;
      text = parts.1;
      valid = valid.0;
      ended = record { digits_are = digits; digit = valid.1; minus = p.minus; meaning = rw cut.1 at p.meaning; sign = p.sign };
    }
