-- Sentences, one after another.
use Rattle.std.proofs.Common.{◌≡◌, ◌≢◌, [], ◌∷◌, ◌++◌, refl, ap, ◌∙◌}
use Rattle.cob_source.specs.declared.token.TokenKind.{TokenKind}
use Rattle.cob_source.specs.declared.token.TokenKind.TheVariants as kind
use Rattle.cob_source.specs.Tokens.{Lexeme}
use Rattle.cob_copybook_clauses.specs.Entries.{Sentences, word_before, sentence_before, sentences}
use Rattle.cob_copybook_clauses.specs.Laws.{SentencesCut, SentencesEnd}

at_stop : (k : TokenKind) (w : Lexeme) (ss : Sentences) → k ≡ kind.Stop → sentence_before k w ss ≡ record { ended = [] ∷ ss.ended; open_end = ss.open_end }
at_stop k w ss e = ap (λ k. sentence_before k w ss) e

at_word : (k : TokenKind) (w : Lexeme) (ss : Sentences) → k ≢ kind.Stop → sentence_before k w ss ≡ word_before w ss.ended ss.open_end
at_word kind.Word w ss not = refl
at_word kind.Literal w ss not = refl
at_word kind.Stop w ss not = absurd (not refl)

pub cut : SentencesCut
cut [] rest stop is none = let e = at_stop stop.kind stop (sentences rest) is in (ap (λ (ss : Sentences). ss.ended) e, ap (λ (ss : Sentences). ss.open_end) e)
cut (w ∷ s) rest stop is (not, none) =
    let (ended, open_end) = cut s rest stop is none in
    let e = at_word w.kind w (sentences (s ++ stop ∷ rest)) not
    ∙ ap (λ es. word_before w es (sentences (s ++ stop ∷ rest)).open_end) ended
    ∙ ap (λ o. word_before w (s ∷ (sentences rest).ended) o) open_end in
    (ap (λ (ss : Sentences). ss.ended) e, ap (λ (ss : Sentences). ss.open_end) e)

pub ends : SentencesEnd
ends [] none = refl
ends (w ∷ ws) (not, none) =
    at_word w.kind w (sentences ws) not ∙ ap (λ (ss : Sentences). word_before w ss.ended ss.open_end) (ends ws none)
