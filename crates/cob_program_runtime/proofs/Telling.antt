-- What stands behind the first place of a name, and the number that words begin with.
use Rattle.std.proofs.Common.{◌≡◌, ℕ, ◌+◌, ◌<◌, ◌^◌, List, ◌++◌, length, take, drop, arith, sym, ap, subst, ◌∙◌, Option, Some, None, Result, Ok, Err}
use Rattle.std.proofs.Math.Seq.{drop-append_seam, take-append_seam}
use Rattle.std.proofs.lemmas.List.{append_cancel_left, take-append-drop, length-append}
use Rattle.std.specs.Str.Pattern.{FindsText, SplitsAroundMatch}
use Rattle.std.specs.Io.KnownBytes.{Consumes}
use Rattle.std.specs.Str.{trim_start}
use Rattle.std.specs.Str.Parse.{ParsesUnsigned}
use Rattle.std.specs.List.{before_first, position_or_len}
use Rattle.std.specs.Option.{IfSome}
use Rattle.std.specs.Prelude.{◌==◌}
use Rattle.std.specs.Result.{result_ok}
use Rattle.cob_program_runtime.specs.Limits.{IsSize, SaysLimit, StandsBehind, TellsLimit, TellsLimitInFront}

-- a name that stands somewhere stands at the length of what stands before it
stands_at : (name text front back : List ℕ) → text ≡ front ++ (name ++ back) → drop (length front) text ≡ name ++ back
stands_at name text front back whole = ap (λ t. drop (length front) t) whole ∙ drop-append_seam front (name ++ back)

-- what is found behind the first place of a name stands behind it
pub found_behind : (name text front back : List ℕ) → SplitsAroundMatch (FindsText name) text front back → StandsBehind name text back
found_behind name text front back (i, j, (lacks, has), is_front, is_back, low, front_long, back_long) = record {
  before = front;
  whole = sym (take-append-drop i text) ∙ (ap (λ t. t ++ drop i text) (sym is_front) ∙ ap (λ t. front ++ t) (has.split ∙ ap (λ t. name ++ t) (sym is_back)));
  first = λ one other whole less. lacks (length one) (omega (arith, less, front_long)) other (stands_at name text one other whole);
}

-- where a name is found nowhere, nothing stands behind it
pub none_behind : (name text behind : List ℕ) → FindsText name text None → StandsBehind name text behind → ⊥
none_behind name text behind lacks stands =
    let long : length text ≡ length stands.before + length (name ++ behind) = ap (λ t. length t) stands.whole ∙ length-append stands.before (name ++ behind) in
    lacks (length stands.before) (omega (arith, long)) behind (stands_at name text stands.before behind stands.whole)

-- two numbers of which none is below the other are one
neither_below : (m n : ℕ) → (m < n → ⊥) → (n < m → ⊥) → m ≡ n
neither_below m n one other = omega (arith, one, other)

-- what stands behind the first place of a name is determined
pub one_behind : (name text one other : List ℕ) → StandsBehind name text one → StandsBehind name text other → one ≡ other
one_behind name text one other first second =
    let long : length first.before ≡ length second.before = neither_below (length first.before) (length second.before)
    (λ less. second.first first.before one first.whole less) (λ less. first.first second.before other second.whole less) in
    append_cancel_left name one other
    (sym (stands_at name text first.before one first.whole) ∙ (ap (λ n. drop n text) long ∙ stands_at name text second.before other second.whole))

-- a number that was read from the word behind white space, where a space stands behind it, is said there
pub size_read : {E : Type 0} (words trimmed word : List ℕ) (parsed : Result ℕ E) → trimmed ≡ trim_start words → word ≡ before_first (λ byte. byte == 32) trimmed
    → position_or_len (λ byte. byte == 32) trimmed < length trimmed → ParsesUnsigned 64 10 word parsed → IfSome (result_ok parsed) (SaysLimit words)
size_read words trimmed word (Ok size) is_trimmed is_word space ((digits, fits), value) =
    let read : IsSize word size = record { digits = digits; value = sym value; fits = subst (λ n. n < 2 ^ 64) (sym value) fits } in
    record {
      space = subst (λ t. position_or_len (λ byte. byte == 32) t < length t) is_trimmed space;
      number = subst (λ t. IsSize (before_first (λ byte. byte == 32) t) size) is_trimmed (subst (λ w. IsSize w size) is_word read);
    }
size_read words trimmed word (Err error) is_trimmed is_word space fails = tt

-- what the bytes tell that a read took from the front of a text is told by a front of it
pub front_tells : (old new : Option (List ℕ)) (bytes : List ℕ) (told : Option ℕ) → Consumes old new bytes → IfSome told (TellsLimit bytes)
    → IfSome old (λ text. IfSome told (TellsLimitInFront text))
front_tells None new bytes told takes tells = tt
front_tells (Some text) None bytes told takes tells = absurd takes
front_tells (Some text) (Some rest) bytes None takes tells = tt
front_tells (Some text) (Some rest) bytes (Some size) takes tells =
    (length bytes, subst (λ t. TellsLimit t size) (sym (ap (λ t. take (length bytes) t) takes ∙ take-append_seam bytes rest)) tells)
