-- Behind an opening quote.
use Rattle.std.proofs.Common.{◌≡◌, ◌≢◌, ℕ, true, false, List, [], ◌∷◌, ◌++◌, refl, sym, ap, subst, ◌∙◌, append_assoc}
use Rattle.std.specs.Prelude.{Some, None, ◌==◌}
use Rattle.std.proofs.lemmas.List.{append-nil}
use Rattle.std.proofs.lemmas.Bool.{ne_eqb, eq-eqb}
use Rattle.cob_source.specs.declared.token.Cell.{Cell}
use Rattle.cob_source.specs.Cuts.{Body, Close, One, Two, NotFirstQuote, is_quote, open_from}

-- whatever closes the rest closes the whole
abbrev pub Within : ℕ → List Cell → List Cell → List ℕ → Type 0
Within q cells rest text = (b : List Cell) (t : List ℕ) → Body q b t → (a : List Cell) × Body q a (text ++ t) × ((x : List Cell) → rest ≡ b ++ x → cells ≡ a ++ x)

pub within : (q : ℕ) (cells : List Cell) → Within q cells cells []
within q cells = λ b t B. (b, B, λ x e. e)

pub takes_one : (q : ℕ) (cells rest : List Cell) (text : List ℕ) (c : Cell) (after : List Cell) → Within q cells rest text → rest ≡ c ∷ after → c.byte ≢ q → Within q cells after (text ++ c.byte ∷ [])
takes_one q cells rest text c after w e ne = λ b t B.
    let f = w (c ∷ b) (c.byte ∷ t) (One c refl ne refl B) in
    (f.0, subst (λ (l : List ℕ). Body q f.0 l) (sym (append_assoc text (c.byte ∷ []) t)) f.1, λ x h. f.2 x (e ∙ ap (λ (l : List Cell). c ∷ l) h))

pub takes_two : (q : ℕ) (cells rest : List Cell) (text : List ℕ) (c k : Cell) (after : List Cell) → Within q cells rest text → rest ≡ c ∷ (k ∷ after) → c.byte ≡ q → k.byte ≡ q → Within q cells after (text ++ q ∷ [])
takes_two q cells rest text c k after w e qc qk = λ b t B.
    let f = w (c ∷ (k ∷ b)) (q ∷ t) (Two c k refl qc qk refl B) in
    (f.0, subst (λ (l : List ℕ). Body q f.0 l) (sym (append_assoc text (q ∷ []) t)) f.1, λ x h. f.2 x (e ∙ ap (λ (l : List Cell). c ∷ (k ∷ l)) h))

pub closes : (q : ℕ) (cells rest : List Cell) (text : List ℕ) (c : Cell) (after : List Cell) → Within q cells rest text → rest ≡ c ∷ after → c.byte ≡ q → NotFirstQuote q after → (inside : List Cell) × Body q inside text × NotFirstQuote q after × (cells ≡ inside ++ after)
closes q cells rest text c after w e qc free =
    let f = w (c ∷ []) [] (Close c refl qc refl) in
    (f.0, subst (λ (l : List ℕ). Body q f.0 l) (append-nil text) f.1, free, f.2 after e)

-- in a literal another character leaves it open
pub open_past : (q : ℕ) (rest : List Cell) (c : Cell) (after : List Cell) → rest ≡ c ∷ after → c.byte ≢ q → open_from (Some q) rest ≡ open_from (Some q) after
open_past q rest c after e ne = let t : (c.byte == q) ≡ false = ne_eqb _ _ ne in ap (open_from (Some q)) e ∙ rw t refl

-- its quote closes it
pub closed_past : (q : ℕ) (rest : List Cell) (c : Cell) (after : List Cell) → rest ≡ c ∷ after → c.byte ≡ q → open_from (Some q) rest ≡ open_from None after
closed_past q rest c after e is = let t : (c.byte == q) ≡ true = eq-eqb _ _ is in ap (open_from (Some q)) e ∙ rw t refl

-- a doubled quote closes a literal and opens it again
pub open_past_two : (q : ℕ) (rest : List Cell) (c : Cell) (after : List Cell) (k : Cell) (behind : List Cell) → is_quote q ≡ true → rest ≡ c ∷ after → c.byte ≡ q → after ≡ k ∷ behind → k.byte ≡ q → open_from (Some q) rest ≡ open_from (Some q) behind
open_past_two q rest c after k behind iq e is e' is' =
    let t : is_quote k.byte ≡ true = ap is_quote is' ∙ iq in
    closed_past q rest c after e is ∙ ap (open_from None) e' ∙ rw t (ap (λ (b : ℕ). open_from (Some b) behind) is')
