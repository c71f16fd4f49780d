-- The digits of the lines so far.
use Rattle.std.proofs.Common.{◌≡◌, ℕ, ◌+◌, ◌-◌, List, ◌++◌, length, refl, sym, ap, ◌∙◌, arith, [], ◌∷◌, true, false, min, ◌^◌, Bool}
use Rattle.std.specs.Prelude.{◌==◌, ◌||◌}
use Rattle.std.specs.List.{list_all}
use Rattle.std.specs.Char.{is_ascii_hexdigit}
use Rattle.std.proofs.lemmas.List.{append_assoc, append-nil}
use Rattle.std.proofs.lemmas.List.Concat.{flat_map-append}
use Rattle.std.proofs.lemmas.List.Folds.{list_all-append}
use Rattle.std.proofs.Math.ListN.{length-append}
use Rattle.std.proofs.lemmas.Bool.{and_parts, and_from, both_ways}
use Rattle.cob_source.specs.Lines.{lines}
use Rattle.cob_program_job.specs.JobData.{AreDataLines, line_digits, data_digits, is_data_line, is_of_data, line_number_behind}

-- Lines of data were taken from the front of a text. These are their digits, the number of the next line and that of the last one, or
-- of the first where none was taken.
pub record Gathered (text rest digits : List ℕ) (first number last : ℕ) : Type 0 where
  pub before : List (List ℕ)
  pub lines_are : lines text ≡ before ++ lines rest
  pub each : AreDataLines before
  pub digits_are : digits ≡ data_digits before
  pub number_is : number ≡ line_number_behind first (length before)
  pub last_is : last ≡ line_number_behind first (length before - 1)

each_more : (ls : List (List ℕ)) (line : List ℕ) → AreDataLines ls → is_data_line line ≡ true → AreDataLines (ls ++ line ∷ [])
each_more [] line each one = (one, tt)
each_more (l ∷ ls) line each one = (each.0, each_more ls line each.1 one)

-- one more line
pub gather : (text rest more line digits added : List ℕ) (first number last next : ℕ) → Gathered text rest digits first number last
    → lines rest ≡ line ∷ lines more → is_data_line line ≡ true → added ≡ digits ++ line_digits line → next ≡ min (number + 1) (2 ^ 32 - 1)
    → Gathered text more added first next number
gather text rest more line digits added first number last next so_far front one sum e =
    let all : data_digits (so_far.before ++ line ∷ []) ≡ data_digits so_far.before ++ line_digits line
    = flat_map-append (λ (l : List ℕ). line_digits l) so_far.before (line ∷ []) ∙ ap (λ ds. data_digits so_far.before ++ ds) (append-nil (line_digits line)) in
    record {
      before = so_far.before ++ line ∷ [];
      lines_are = so_far.lines_are ∙ ap (λ ls. so_far.before ++ ls) front ∙ sym (append_assoc so_far.before (line ∷ []) (lines more));
      each = each_more so_far.before line so_far.each one;
      digits_are = sum ∙ ap (λ ds. ds ++ line_digits line) so_far.digits_are ∙ sym all;
      number_is = omega (arith, e, so_far.number_is, length-append so_far.before (line ∷ []));
      last_is = omega (arith, so_far.number_is, length-append so_far.before (line ∷ []));
    }

or_other : (x y : Bool) → (x || y) ≡ true → y ≡ false → x ≡ true
or_other true y h e = refl
or_other false y h e = absurd (both_ways y e h)

-- the digits of a line of data
hex_of_line : (line : List ℕ) → is_data_line line ≡ true → list_all is_ascii_hexdigit (line_digits line) ≡ true
hex_of_line [] h = refl
hex_of_line (c ∷ line) h =
    let parts = and_parts (is_of_data c) (is_data_line line) h in
    go (c == 32) refl parts.0 (hex_of_line line parts.1)
  where
    go : (x : Bool) → (c == 32) ≡ x → is_of_data c ≡ true → list_all is_ascii_hexdigit (line_digits line) ≡ true
        → list_all is_ascii_hexdigit (line_digits (c ∷ line)) ≡ true
    go true e one more = rw e more
    go false e one more =
        let hex : is_ascii_hexdigit c ≡ true = or_other (is_ascii_hexdigit c) (c == 32) one e in
        rw e (and_from (is_ascii_hexdigit c) (list_all is_ascii_hexdigit (line_digits line)) hex more)

-- the digits of lines of data are digits
hex_of_lines : (ls : List (List ℕ)) → AreDataLines ls → list_all is_ascii_hexdigit (data_digits ls) ≡ true
hex_of_lines [] each = refl
hex_of_lines (l ∷ ls) each =
    list_all-append is_ascii_hexdigit (line_digits l) (data_digits ls) ∙ rw (hex_of_line l each.0) (hex_of_lines ls each.1)

pub hex_of_gathered : (text rest digits : List ℕ) (first number last : ℕ) → Gathered text rest digits first number last
    → list_all is_ascii_hexdigit digits ≡ true
hex_of_gathered text rest digits first number last so_far = rw so_far.digits_are (hex_of_lines so_far.before so_far.each)
