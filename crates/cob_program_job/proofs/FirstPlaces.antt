-- What a search for the first place of a byte says of the bytes before it.
use Rattle.std.proofs.Common.{◌≡◌, ◌≢◌, ℕ, zero, suc, ◌+◌, ◌-◌, ◌<◌, true, false, List, [], ◌∷◌, ◌++◌, length, take, drop, slice_index, refl, sym, ap, subst, ◌∙◌, arith, Some, None, Result, Ok, Err, cond}
use Rattle.std.specs.Result.{OnOk, is_ok}
use Rattle.std.specs.declared.alloc.AllocError.{AllocError}
use Rattle.std.specs.Prelude.{◌==◌}
use Rattle.std.specs.List.{AllByRecursion}
use Rattle.std.proofs.lemmas.Bool.{eqb-true, eq-eqb, ne_eqb}
use Rattle.std.proofs.lemmas.List.{drop_more, take_all, length-drop, take-append-drop, append_assoc}
use Rattle.memchr.specs.Find.{IsFirstByte, is_byte}
use Rattle.cob_source.specs.Lines.{lines, cut_return, FeedFirst}
use Rattle.cob_program_job.specs.JobData.{line_digits, is_no_space}
use Rattle.cob_program_job.specs.Marks.{behind_line}
use Rattle.std.proofs.lemmas.List.Elements.{filter-append}
use Rattle.cob_source.proofs.LineLemmas.{first_line, lines-last}

-- a byte stands nowhere among the first n
none_among : (b n : ℕ) (xs : List ℕ) → ((j : ℕ) → j < n → ¬ ((slice_index xs j == b) ≡ true)) → AllByRecursion (λ x. x ≢ b) (take n xs)
none_among b zero xs h = tt
none_among b (suc n) [] h = tt
none_among b (suc n) (x ∷ xs) h = (λ e. h 0 (omega arith) (eq-eqb x b e), none_among b n xs (λ j low. h (suc j) (omega (arith, low))))

-- a byte stands nowhere
none_in : (b : ℕ) (xs : List ℕ) → IsFirstByte (is_byte b) xs None → AllByRecursion (λ x. x ≢ b) xs
none_in b xs none =
    let all : take (length xs) xs ≡ xs = take_all (length xs) xs (omega arith) in
    subst (λ ys. AllByRecursion (λ x. x ≢ b) ys) all (none_among b (length xs) xs (λ j low. none j (omega arith) low))

-- the line before the first line feed
pub line_before : (text line : List ℕ) (at : ℕ) → IsFirstByte (is_byte 10) text (Some at) → line ≡ cut_return (take at text)
    → lines text ≡ line ∷ lines (take (length text - (at + 1)) (drop (at + 1) text))
line_before text line at (none, is) e =
    let split : drop at text ≡ slice_index text at ∷ drop (at + 1) text = drop_more text at 0 none.high in
    let all : take (length text - (at + 1)) (drop (at + 1) text) ≡ drop (at + 1) text = take_all (length text - (at + 1)) (drop (at + 1) text) (omega (arith, length-drop (at + 1) text)) in
    let feed : FeedFirst (drop at text) = rw split (eqb-true (slice_index text at) 10 is) in
    rw (all, e) (first_line text at (slice_index text at) (drop (at + 1) text) (none_among 10 at text (λ j low. none.before j (omega arith) low)) feed split)

-- the only line, where there is no line feed
pub line_without : (text : List ℕ) → 0 < length text → IsFirstByte (is_byte 10) text None → lines text ≡ text ∷ []
line_without [] some none = absurd (omega (arith, some))
line_without (b ∷ bs) some none = lines-last b bs (none_in 10 (b ∷ bs) none)

behind_skip : (n : ℕ) (text : List ℕ) (b : ℕ) (more : List ℕ) → AllByRecursion (λ x. x ≢ 10) (take n text) → drop n text ≡ b ∷ more → (b == 10) ≡ true → behind_line text ≡ more
behind_skip zero text b more w e is = rw (e, is) refl
behind_skip (suc n) [] b more w e is = absurd (omega (arith, ap (length {A = ℕ}) e))
behind_skip (suc n) (x ∷ xs) b more w e is = let ne : (x == 10) ≡ false = ne_eqb x 10 w.0 in rw ne (behind_skip n xs b more w.1 e is)

-- what follows the first line feed
pub rest_before : (text : List ℕ) (at : ℕ) → IsFirstByte (is_byte 10) text (Some at) → take (length text - (at + 1)) (drop (at + 1) text) ≡ behind_line text
rest_before text at (none, is) =
    let split : drop at text ≡ slice_index text at ∷ drop (at + 1) text = drop_more text at 0 none.high in
    let all : take (length text - (at + 1)) (drop (at + 1) text) ≡ drop (at + 1) text = take_all (length text - (at + 1)) (drop (at + 1) text) (omega (arith, length-drop (at + 1) text)) in
    all ∙ sym (behind_skip at text (slice_index text at) (drop (at + 1) text) (none_among 10 at text (λ j low. none.before j (omega arith) low)) split is)

behind_none : (text : List ℕ) → AllByRecursion (λ x. x ≢ 10) text → behind_line text ≡ []
behind_none [] w = refl
behind_none (x ∷ xs) w = let ne : (x == 10) ≡ false = ne_eqb x 10 w.0 in rw ne (behind_none xs w.1)

-- nothing follows, where there is no line feed
pub rest_without : (text : List ℕ) → IsFirstByte (is_byte 10) text None → [] ≡ behind_line text
rest_without text none = sym (behind_none text (none_in 10 text none))

-- what is no space of bytes among which no space stands
no_spaces : (xs : List ℕ) → AllByRecursion (λ x. x ≢ 32) xs → line_digits xs ≡ xs
no_spaces [] h = refl
no_spaces (x ∷ xs) h = let ne : (x == 32) ≡ false = ne_eqb x 32 h.0 in rw ne (ap (λ ys. x ∷ ys) (no_spaces xs h.1))

-- the digits before the first space, and then those behind it
pub digits_before : (line : List ℕ) (at : ℕ) → IsFirstByte (is_byte 32) line (Some at)
    → line_digits line ≡ take at line ++ line_digits (take (length line - (at + 1)) (drop (at + 1) line))
digits_before line at (none, is) =
    let split : drop at line ≡ slice_index line at ∷ drop (at + 1) line = drop_more line at 0 none.high in
    let all : take (length line - (at + 1)) (drop (at + 1) line) ≡ drop (at + 1) line = take_all (length line - (at + 1)) (drop (at + 1) line) (omega (arith, length-drop (at + 1) line)) in
    let whole : line ≡ take at line ++ slice_index line at ∷ drop (at + 1) line = sym (take-append-drop at line) ∙ ap (λ t. take at line ++ t) split in
    let front : line_digits (take at line) ≡ take at line = no_spaces (take at line) (none_among 32 at line (λ j low. none.before j (omega arith) low)) in
    let back : line_digits (slice_index line at ∷ drop (at + 1) line) ≡ line_digits (drop (at + 1) line) = rw is refl in
    rw all (ap (λ xs. line_digits xs) whole ∙ filter-append is_no_space (take at line) (slice_index line at ∷ drop (at + 1) line)
    ∙ ap (λ xs. xs ++ line_digits (slice_index line at ∷ drop (at + 1) line)) front ∙ ap (λ ys. take at line ++ ys) back)

-- the digits of a line with no space
pub digits_without : (line : List ℕ) → IsFirstByte (is_byte 32) line None → line_digits line ≡ line
digits_without line none = no_spaces line (none_in 32 line none)

-- one more piece of a line
pub one_piece : (all digits more rest : List ℕ) (at : ℕ) → IsFirstByte (is_byte 32) rest (Some at) → more ≡ digits ++ take at rest
    → digits ++ line_digits rest ≡ all → more ++ line_digits (take (length rest - (at + 1)) (drop (at + 1) rest)) ≡ all
one_piece all digits more rest at first e so_far =
    let left : List ℕ = line_digits (take (length rest - (at + 1)) (drop (at + 1) rest)) in
    ap (λ xs. xs ++ left) e ∙ append_assoc digits (take at rest) left ∙ ap (λ xs. digits ++ xs) (sym (digits_before rest at first)) ∙ so_far

-- the last piece of a line
pub last_piece : (answer : Result (Unit {0}) AllocError) (all digits more rest : List ℕ) → IsFirstByte (is_byte 32) rest None
    → more ≡ cond (is_ok answer) (digits ++ rest) digits → digits ++ line_digits rest ≡ all → OnOk answer (more ≡ all)
last_piece (Ok done) all digits more rest none e so_far = e ∙ ap (λ xs. digits ++ xs) (sym (digits_without rest none)) ∙ so_far
last_piece (Err fault) all digits more rest none e so_far = tt
