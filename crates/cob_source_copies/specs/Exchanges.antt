-- REPLACING: text words put for others.
use Rattle.std.specs.Prelude.{ℕ, zero, suc, ◌-◌, Bool, true, false, ◌&&◌, nat_lt, bytes_eq, if◌then◌else◌, List, [], ◌∷◌, ◌++◌, length, map, Option, Some, None}
use Rattle.cob_source.specs.declared.token.TokenKind.{TokenKind}
use Rattle.cob_source.specs.declared.token.TokenKind.TheVariants as kind
use Rattle.cob_source.specs.Tokens.{Lexeme}
use Rattle.cob_source_copies.specs.declared.exchange.Exchange.{Exchange}
use Rattle.cob_source_copies.specs.TextWords.{TextWord, text_word, text_words, together}

-- x BY y: text words, and those that are put for them
pub record Replacing : Type 0 where
  pub from : List TextWord
  pub to : List TextWord

-- x BY y without where it lies in memory
abbrev pub replacing : Exchange → Replacing
replacing e = record { from = map text_word e.from.items; to = map text_word e.to.items }

-- x BY y of words, where x has a text word
abbrev pub replacing_by : List Lexeme → List Lexeme → Option Replacing
replacing_by x y = if nat_lt 0 (length (text_words x)) then Some (record { from = text_words x; to = text_words y }) else None

-- the two are of one kind
abbrev pub is_one_kind : TokenKind → TokenKind → Bool
is_one_kind kind.Word kind.Word = true
is_one_kind kind.Literal kind.Literal = true
is_one_kind kind.Stop kind.Stop = true
is_one_kind a b = false

-- Two text words are the same: of one kind, and equal character for character.
abbrev pub are_same_text_words : TextWord → TextWord → Bool
are_same_text_words a b = is_one_kind a.lexeme.kind b.lexeme.kind && bytes_eq a.lexeme.text b.lexeme.text

-- text words stand in front of others; whether spaces stand between them is not compared
abbrev pub begin_with : List TextWord → List TextWord → Bool
begin_with [] vs = true
begin_with (f ∷ fs) [] = false
begin_with (f ∷ fs) (v ∷ vs) = are_same_text_words f v && begin_with fs vs

-- the first x BY y, in their order, whose x stands in front
abbrev pub first_fitting : List Replacing → List TextWord → Option Replacing
first_fitting [] vs = None
first_fitting (r ∷ rs) vs = if begin_with r.from vs then Some r else first_fitting rs vs

-- a text word in the place of another one
abbrev pub in_place_of : TextWord → Bool → TextWord → TextWord
in_place_of v joins t = record { lexeme = record { kind = t.lexeme.kind; text = t.lexeme.text; line = v.lexeme.line; column = v.lexeme.column }; joins = joins }

-- Text words put for those of which this is the first: the first of them joins what is before it where that one did. Where there are none, a part of no
-- character keeps that place, so that what stands on either side joins it or not as it was written.
abbrev pub put_for : TextWord → List TextWord → List TextWord
put_for v [] = record { lexeme = record { kind = kind.Word; text = []; line = v.lexeme.line; column = v.lexeme.column }; joins = v.joins } ∷ []
put_for v (t ∷ ts) = in_place_of v v.joins t ∷ map (λ u. in_place_of v u.joins u) ts

-- what stands in the end where a text word stood, which is the first of an x or of none
abbrev pub put_by : TextWord → Option Replacing → List TextWord
put_by v None = v ∷ []
put_by v (Some r) = put_for v r.to

-- how many text words behind that one are part of the x
abbrev pub part_of_x : Option Replacing → ℕ
part_of_x None = 0
part_of_x (Some r) = length r.from - 1

-- Text words with each x replaced, behind so many that are part of one: from the left, the first x BY y that fits, and what is put is not looked at again.
abbrev pub exchanged : List Replacing → ℕ → List TextWord → List TextWord
exchanged rs passed [] = []
exchanged rs (suc passed) (v ∷ vs) = exchanged rs passed vs
exchanged rs zero (v ∷ vs) = put_by v (first_fitting rs (v ∷ vs)) ++ exchanged rs (part_of_x (first_fitting rs (v ∷ vs))) vs

-- Words with each x replaced. A literal is one text word, so nothing in it is replaced.
abbrev pub replaced : List Replacing → List Lexeme → List Lexeme
replaced [] ws = ws
replaced (r ∷ rs) ws = together (exchanged (r ∷ rs) 0 (text_words ws))
