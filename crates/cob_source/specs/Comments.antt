-- Comments that stand on a line behind what is written.
use Rattle.std.specs.Prelude.{◌≡◌, ℕ, ◌+◌, Bool, true, false, ◌==◌, ◌&&◌, not, if◌then◌else◌, List, [], ◌∷◌, take, drop, Option, None, is_some}
use Rattle.cob_source.specs.Cuts.{open_with}

-- a greater-than sign comes first
abbrev pub greater_first : List ℕ → Bool
greater_first [] = false
greater_first (b ∷ bs) = b == 62

-- whether a comment begins with this character, these behind it: an asterisk and a greater-than sign, where no literal is open and
-- a space stands before them, or nothing
abbrev pub begins_comment : Option ℕ → Bool → ℕ → List ℕ → Bool
begins_comment q gap b bs = not (is_some q) && gap && (b == 42) && greater_first bs

-- how many characters stand before a comment, where this quote's literal is open before them, and a space stands there or not
abbrev pub comment_from : Option ℕ → Bool → List ℕ → ℕ
comment_from q gap [] = 0
comment_from q gap (b ∷ bs) = if begins_comment q gap b bs then 0 else 1 + comment_from (open_with q b) (b == 32) bs

-- how many of the characters from column 8 on stand before a comment. A continuation of a literal begins with its quote, so that
-- each line shows by itself which of its characters stand in a literal.
abbrev pub comment_at : List ℕ → ℕ
comment_at bs = comment_from None true bs

-- columns 1 to 72 of a line as far as they count: without a comment
abbrev pub written : List ℕ → List ℕ
written line = take (7 + comment_at (drop 7 (take 72 line))) (take 72 line)

-- an asterisk stands before a greater-than sign
abbrev pub has_comment_sign : List ℕ → Bool
has_comment_sign [] = false
has_comment_sign (b ∷ bs) = if (b == 42) && greater_first bs then true else has_comment_sign bs

-- law: a line without these two signs from column 8 on counts as far as column 72
abbrev pub LinesWithoutCommentCount : Type 0
LinesWithoutCommentCount = (line : List ℕ) → has_comment_sign (drop 7 (take 72 line)) ≡ false → written line ≡ take 72 line
