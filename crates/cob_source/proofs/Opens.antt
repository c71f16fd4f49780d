-- The literal that is open at the end of a text.
use Rattle.std.proofs.Common.{◌≡◌, ℕ, zero, suc, ◌+◌, ◌-◌, Bool, true, false, List, [], ◌∷◌, ◌++◌, drop, replicate, refl, sym, ap, ◌∙◌}
use Rattle.std.specs.Prelude.{Option, Some, None, ◌==◌, ◌&&◌, if◌then◌else◌}
use Rattle.std.specs.List.{AllByRecursion}
use Rattle.std.proofs.lemmas.Bool.{eqb-true}
use Rattle.std.proofs.lemmas.List.{drop-replicate}
use Rattle.cob_source.specs.declared.token.Cell.{Cell}
use Rattle.cob_source.specs.Cuts.{is_quote, open_with, open_from, open_quote}
use Rattle.cob_source.specs.Lines.{is_nil, trim_end, cells_from}
use Rattle.cob_source.specs.Reading.{IsSpace, open_in}

pub open_from-append : (q : Option ℕ) (a b : List Cell) → open_from q (a ++ b) ≡ open_from (open_from q a) b
open_from-append q [] b = refl
open_from-append q (c ∷ a) b = open_from-append (open_with q c.byte) a b

-- no literal, or one that a quote opened
abbrev pub IsState : Option ℕ → Type 0
IsState None = Unit {0}
IsState (Some q) = is_quote q ≡ true

state_with : (q : Option ℕ) (b : ℕ) → IsState q → IsState (open_with q b)
state_with None b s = go (is_quote b) refl
  where
    go : (t : Bool) → is_quote b ≡ t → IsState (if is_quote b then Some b else None)
    go true e = rw e e
    go false e = rw e tt
state_with (Some q) b s = go (b == q) refl
  where
    go : (t : Bool) → (b == q) ≡ t → IsState (if b == q then None else Some q)
    go true e = rw e tt
    go false e = rw e s

-- a space leaves a literal open or closed
open_space : (q : Option ℕ) (b : ℕ) → IsState q → b ≡ 32 → open_with q b ≡ q
open_space None b s e = ap (open_with None) e
open_space (Some q) b s e = go (b == q) refl
  where
    go : (t : Bool) → (b == q) ≡ t → (if b == q then None else Some q) ≡ Some q
    go true h = absurd (let k : is_quote 32 ≡ true = ap is_quote (sym e ∙ eqb-true _ _ h) ∙ s in cc)
    go false h = rw h refl

trimmed_off : (t : List Cell) → is_nil t ≡ true → t ≡ []
trimmed_off [] e = refl
trimmed_off (c ∷ t) e = absurd cc

pub open_trimmed : (q : Option ℕ) (cells : List Cell) → IsState q → open_from q (trim_end cells) ≡ open_from q cells
open_trimmed q [] s = refl
open_trimmed q (c ∷ cells) s = go (c.byte == 32) (is_nil (trim_end cells)) refl refl (open_trimmed (open_with q c.byte) cells (state_with q c.byte s))
  where
    go : (x y : Bool) → (c.byte == 32) ≡ x → is_nil (trim_end cells) ≡ y → open_from (open_with q c.byte) (trim_end cells) ≡ open_from (open_with q c.byte) cells
        → open_from q (if (c.byte == 32) && is_nil (trim_end cells) then [] else c ∷ trim_end cells) ≡ open_from (open_with q c.byte) cells
    go true true ex ey h = rw (ex, ey) (
        let nothing : trim_end cells ≡ [] = trimmed_off (trim_end cells) ey in
        let space : open_with q c.byte ≡ q = open_space q c.byte s (eqb-true _ _ ex) in
        sym space ∙ ap (open_from (open_with q c.byte)) (sym nothing) ∙ h)
    go true false ex ey h = rw (ex, ey) h
    go false y ex ey h = rw ex h

-- where none is open the spaces at the end make no difference
pub open_trim_end : (cells : List Cell) → open_quote (trim_end cells) ≡ open_quote cells
open_trim_end cells = open_trimmed None cells tt

pub open_state : (q : Option ℕ) (cells : List Cell) → IsState q → IsState (open_from q cells)
open_state q [] s = s
open_state q (c ∷ cells) s = open_state (open_with q c.byte) cells (state_with q c.byte s)

-- spaces leave a literal open or closed
open_spaces : (q : Option ℕ) (cells : List Cell) → IsState q → AllByRecursion IsSpace cells → open_from q cells ≡ q
open_spaces q [] s all = refl
open_spaces q (c ∷ cells) s all = ap (λ (o : Option ℕ). open_from o cells) (open_space q c.byte s all.0) ∙ open_spaces q cells s all.1

pub open_left : (cells spaces : List Cell) → AllByRecursion IsSpace spaces → open_quote (cells ++ spaces) ≡ open_quote cells
open_left cells spaces all = open_from-append None cells spaces ∙ open_spaces (open_quote cells) spaces (open_state None cells tt) all

-- cells are read as their bytes are
pub open_cells : (q : Option ℕ) (n k : ℕ) (xs : List ℕ) → open_from q (cells_from n k xs) ≡ open_in q xs
open_cells q n k [] = refl
open_cells q n k (b ∷ xs) = open_cells (open_with q b) n (k + 1) xs

open_replicate : (q : Option ℕ) (n : ℕ) → IsState q → open_in q (replicate n 32) ≡ q
open_replicate q zero s = refl
open_replicate q (suc n) s = ap (λ (o : Option ℕ). open_in o (replicate n 32)) (open_space q 32 s refl) ∙ open_replicate q n s

-- what is open behind a text is open behind it where it is filled with spaces
pub open_filled : (q : Option ℕ) (k : ℕ) (text : List ℕ) (n : ℕ) → IsState q → open_in q (drop k (text ++ replicate n 32)) ≡ open_in q (drop k text)
open_filled q zero [] n s = open_replicate q n s
open_filled q (suc k) [] n s = ap (open_in q) (drop-replicate (suc k) n 32) ∙ open_replicate q (n - suc k) s
open_filled q zero (b ∷ text) n s = open_filled (open_with q b) zero text n (state_with q b s)
open_filled q (suc k) (b ∷ text) n s = open_filled q k text n s
