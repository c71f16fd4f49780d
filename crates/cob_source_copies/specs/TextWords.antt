-- Text words: what REPLACING compares and puts.
use Rattle.std.specs.Prelude.{ℕ, Bool, true, false, ◌==◌, ◌||◌, ◌&&◌, not, nat_lt, if◌then◌else◌, List, [], ◌∷◌, ◌++◌, length}
use Rattle.std.specs.List.{flat_map}
use Rattle.cob_source.specs.declared.token.TokenKind.{TokenKind}
use Rattle.cob_source.specs.declared.token.TokenKind.TheVariants as kind
use Rattle.cob_source.specs.Tokens.{Lexeme, lexeme}
use Rattle.cob_source.specs.Lines.{led_by}
use Rattle.cob_source_copies.specs.declared.fragment.Fragment.{Fragment}

-- a text word: a part of a word, a literal or a period; it joins the text word before it where no space stands between them
pub record TextWord : Type 0 where
  pub lexeme : Lexeme
  pub joins : Bool

-- a text word without where it lies in memory
abbrev pub text_word : Fragment → TextWord
text_word f = record { lexeme = lexeme f.token; joins = f.joins }

-- a bracket or a colon is a text word of its own, wherever it stands in a word
abbrev pub is_divider : ℕ → Bool
is_divider b = (b == 40) || ((b == 41) || (b == 58))

-- nothing is left, or a divider comes first
abbrev pub divider_first : List ℕ → Bool
divider_first [] = true
divider_first (b ∷ bs) = is_divider b

-- this character before these characters, whose parts these are
abbrev pub part_with : ℕ → List ℕ → List (List ℕ) → List (List ℕ)
part_with b bs more = if is_divider b || divider_first bs then (b ∷ []) ∷ more else led_by b more

-- the parts of a word: each divider is one, and other characters stand together
abbrev pub parts_in : List ℕ → List (List ℕ)
parts_in [] = []
parts_in (b ∷ bs) = part_with b bs (parts_in bs)

-- parts of a word, each at its place; the first joins what is before it or not, and each further one does
abbrev pub parts_at : Lexeme → Bool → List (List ℕ) → List TextWord
parts_at w joins [] = []
parts_at w joins (part ∷ more) = record { lexeme = record { kind = w.kind; text = part; line = w.line; column = w.column }; joins = joins } ∷ parts_at w true more

-- the text words that a word, a literal or a period is
abbrev pub text_words_of : TokenKind → Lexeme → List TextWord
text_words_of kind.Word w = parts_at w false (parts_in w.text)
text_words_of kind.Literal w = record { lexeme = w; joins = false } ∷ []
text_words_of kind.Stop w = record { lexeme = w; joins = false } ∷ []

-- the text words that words are
abbrev pub text_words : List Lexeme → List TextWord
text_words ws = flat_map (λ w. text_words_of w.kind w) ws

-- it is a word or a part of one, and no literal and no period
abbrev pub is_wordlike : TokenKind → Bool
is_wordlike kind.Word = true
is_wordlike kind.Literal = false
is_wordlike kind.Stop = false

-- a text word goes on with the word before it
abbrev pub goes_on : Lexeme → TextWord → Bool
goes_on w v = is_wordlike w.kind && (is_wordlike v.lexeme.kind && v.joins)

-- a word with more characters at its end
abbrev pub lengthened : Lexeme → List ℕ → Lexeme
lengthened w more = record { kind = w.kind; text = w.text ++ more; line = w.line; column = w.column }

-- a literal, a period, or a word of one character at least; a word of none is nothing
abbrev pub word_if_any : Lexeme → List Lexeme
word_if_any w = if is_wordlike w.kind && not (nat_lt 0 (length w.text)) then [] else w ∷ []

-- a word, and the text words behind it, of which those that join go on with it
abbrev pub together_from : Lexeme → List TextWord → List Lexeme
together_from w [] = word_if_any w
together_from w (v ∷ vs) = if goes_on w v then together_from (lengthened w v.lexeme.text) vs else word_if_any w ++ together_from v.lexeme vs

-- The words that text words are when they are written as they stand: those that join make one word.
abbrev pub together : List TextWord → List Lexeme
together [] = []
together (v ∷ vs) = together_from v.lexeme vs
