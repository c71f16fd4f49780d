-- Text words written together.
use Rattle.std.proofs.Common.{◌≡◌, ℕ, ◌<◌, Bool, true, false, ◌&&◌, ◌||◌, not, nat_lt, List, [], ◌∷◌, ◌++◌, length, refl, sym, ap, ◌∙◌, append_assoc, append-nil, arith, rules}
use Rattle.std.specs.List.{AllByRecursion, flat_map}
use Rattle.cob_source.specs.declared.token.TokenKind.{TokenKind}
use Rattle.cob_source.specs.declared.token.TokenKind.TheVariants as kind
use Rattle.cob_source.specs.Tokens.{Lexeme}
use Rattle.cob_source.specs.Lines.{led_by}
use Rattle.cob_source_copies.specs.Laws.{CutAndTogether}
use Rattle.cob_source_copies.specs.TextWords.{TextWord, divider_first, goes_on, is_divider, is_wordlike, lengthened, part_with, parts_at, parts_in, text_words, text_words_of, together, together_from, word_if_any}

-- a text word that goes on with the word before it
longer : (w : Lexeme) (v : TextWord) (vs : List TextWord) → goes_on w v ≡ true → together_from w (v ∷ vs) ≡ together_from (lengthened w v.lexeme.text) vs
longer w v vs e = rw e refl

-- a text word that begins a word
begins : (w : Lexeme) (v : TextWord) (vs : List TextWord) → goes_on w v ≡ false → together_from w (v ∷ vs) ≡ word_if_any w ++ together_from v.lexeme vs
begins w v vs e = rw e refl

-- ---- cut, and together again

-- the characters of parts
abbrev flat : List (List ℕ) → List ℕ
flat ps = flat_map (λ p. p) ps

led_flat : (b : ℕ) (ps : List (List ℕ)) → flat (led_by b ps) ≡ b ∷ flat ps
led_flat b [] = refl
led_flat b (p ∷ ps) = refl

with_flat : (b : ℕ) (bs : List ℕ) (ps : List (List ℕ)) → flat (part_with b bs ps) ≡ b ∷ flat ps
with_flat b bs ps = by (is_divider b || divider_first bs) refl
  where
    by : (c : Bool) → (is_divider b || divider_first bs) ≡ c → flat (part_with b bs ps) ≡ b ∷ flat ps
    by true e = rw e refl
    by false e = rw e (led_flat b ps)

parts_flat : (text : List ℕ) → flat (parts_in text) ≡ text
parts_flat [] = refl
parts_flat (b ∷ bs) = with_flat b bs (parts_in bs) ∙ ap (λ (t : List ℕ). b ∷ t) (parts_flat bs)

-- a word with other characters
abbrev at_text : Lexeme → List ℕ → Lexeme
at_text w t = record { kind = w.kind; text = t; line = w.line; column = w.column }

joins_on : (w : Lexeme) (a p : List ℕ) → w.kind ≡ kind.Word → goes_on (at_text w a) (record { lexeme = at_text w p; joins = true }) ≡ true
joins_on w a p e = rw e refl

-- the further parts of a word go on with it
along : (w : Lexeme) (a : List ℕ) (ps : List (List ℕ)) (vs : List TextWord) → w.kind ≡ kind.Word → together_from (at_text w a) (parts_at w true ps ++ vs) ≡ together_from (at_text w (a ++ flat ps)) vs
along w a [] vs e = ap (λ (t : List ℕ). together_from (at_text w t) vs) (sym (append-nil a))
along w a (p ∷ ps) vs e =
    longer (at_text w a) (record { lexeme = at_text w p; joins = true }) (parts_at w true ps ++ vs) (joins_on w a p e)
    ∙ along w (a ++ p) ps vs e ∙ ap (λ (t : List ℕ). together_from (at_text w t) vs) (append_assoc a p (flat ps))

and_false : (a b : Bool) → (a && (b && false)) ≡ false
and_false true true = refl
and_false true false = refl
and_false false b = refl

apart : (w : Lexeme) (v : TextWord) → v.joins ≡ false → goes_on w v ≡ false
apart w v e = ap (λ (j : Bool). is_wordlike w.kind && (is_wordlike v.lexeme.kind && j)) e ∙ and_false (is_wordlike w.kind) (is_wordlike v.lexeme.kind)

-- text words of which the first joins nothing
record FirstApart (vs : List TextWord) : Type 0 where
  pub first : TextWord
  pub others : List TextWord
  pub are : vs ≡ first ∷ others
  pub apart_is : first.joins ≡ false

-- a word has a part
record SomeParts (text : List ℕ) : Type 0 where
  pub part : List ℕ
  pub more : List (List ℕ)
  pub are : parts_in text ≡ part ∷ more

some_parts : (text : List ℕ) → 0 < length text → SomeParts text
some_parts text some = by (parts_in text) refl
  where
    by : (ps : List (List ℕ)) → parts_in text ≡ ps → SomeParts text
    by [] e = absurd (let none : length text ≡ 0 = ap length (sym (parts_flat text) ∙ ap flat e) in omega (arith, some, none))
    by (p ∷ ps) e = record { part = p; more = ps; are = e }

first_apart : (u : Lexeme) (us : List Lexeme) → 0 < length u.text → FirstApart (text_words (u ∷ us))
first_apart u us some = by u.kind refl
  where
    by : (k : TokenKind) → u.kind ≡ k → FirstApart (text_words (u ∷ us))
    by kind.Word e =
        let s = some_parts u.text some in
        record {
          first = record { lexeme = at_text u s.part; joins = false };
          others = parts_at u true s.more ++ text_words us;
          are = ap (λ (k : TokenKind). text_words_of k u ++ text_words us) e ∙ ap (λ (ps : List (List ℕ)). parts_at u false ps ++ text_words us) s.are;
          apart_is = refl;
        }
    by kind.Literal e = record { first = record { lexeme = u; joins = false }; others = text_words us; are = ap (λ (k : TokenKind). text_words_of k u ++ text_words us) e; apart_is = refl }
    by kind.Stop e = record { first = record { lexeme = u; joins = false }; others = text_words us; are = ap (λ (k : TokenKind). text_words_of k u ++ text_words us) e; apart_is = refl }

abbrev HaveText : List Lexeme → Type 0
HaveText ws = AllByRecursion (λ w. 0 < length w.text) ws

begins_apart : (w : Lexeme) (ws : List Lexeme) → HaveText ws → together_from w (text_words ws) ≡ word_if_any w ++ together (text_words ws)
begins_apart w [] all = sym (append-nil (word_if_any w))
begins_apart w (u ∷ us) all =
    let f = first_apart u us all.0 in
    ap (λ (t : List TextWord). together_from w t) f.are ∙ begins w f.first f.others (apart w f.first f.apart_is) ∙ ap (λ (t : List TextWord). word_if_any w ++ together t) (sym f.are)

and_not : (a b : Bool) → b ≡ true → (a && not b) ≡ false
and_not true b e = ap not e
and_not false b e = refl

if_any : (w : Lexeme) → 0 < length w.text → word_if_any w ≡ w ∷ []
if_any w some = let e = and_not (is_wordlike w.kind) (nat_lt 0 (length w.text)) (search rules) in rw e refl

one_more : (w : Lexeme) (ws : List Lexeme) → 0 < length w.text → HaveText ws → together (text_words ws) ≡ ws → together_from w (text_words ws) ≡ w ∷ ws
one_more w ws some all so = begins_apart w ws all ∙ ap (λ (t : List Lexeme). t ++ together (text_words ws)) (if_any w some) ∙ ap (λ (t : List Lexeme). w ∷ t) so

one_word : (w : Lexeme) (ws : List Lexeme) → 0 < length w.text → HaveText ws → together (text_words ws) ≡ ws → together (text_words (w ∷ ws)) ≡ w ∷ ws
one_word w ws some all so = by w.kind refl
  where
    by : (k : TokenKind) → w.kind ≡ k → together (text_words (w ∷ ws)) ≡ w ∷ ws
    by kind.Word e =
        let s = some_parts w.text some in
        ap (λ (k : TokenKind). together (text_words_of k w ++ text_words ws)) e
        ∙ ap (λ (ps : List (List ℕ)). together (parts_at w false ps ++ text_words ws)) s.are
        ∙ along w s.part s.more (text_words ws) e
        ∙ ap (λ (t : List ℕ). together_from (at_text w t) (text_words ws)) (sym (ap flat s.are) ∙ parts_flat w.text)
        ∙ one_more w ws some all so
    by kind.Literal e = ap (λ (k : TokenKind). together (text_words_of k w ++ text_words ws)) e ∙ one_more w ws some all so
    by kind.Stop e = ap (λ (k : TokenKind). together (text_words_of k w ++ text_words ws)) e ∙ one_more w ws some all so

pub cut_and_together : CutAndTogether
cut_and_together [] all = refl
cut_and_together (w ∷ ws) all = one_word w ws all.0 all.1 (cut_and_together ws all.1)
