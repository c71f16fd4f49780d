-- Cells that stand for a text, without spaces at its end.
use Rattle.std.proofs.Common.{◌≡◌, ℕ, ◌+◌, ◌-◌, Bool, false, List, [], ◌∷◌, ◌++◌, length, refl, sym, ap, subst, ◌∙◌, append_assoc, arith}
use Rattle.std.specs.Prelude.{Option, Some, None, is_some, ◌&&◌, slice_index_or}
use Rattle.std.specs.List.{AllByRecursion}
use Rattle.std.proofs.lemmas.List.{append-nil, length-append, get_or-append-add}
use Rattle.cob_source.specs.declared.token.Cell.{Cell}
use Rattle.cob_source.specs.declared.token.Cutting.{Cutting}
use Rattle.cob_source.specs.Tokens.{Lexeme}
use Rattle.cob_source.specs.Cuts.{is_quote, open_quote, nowhere, Cuts}
use Rattle.cob_source.specs.Lines.{program_text, behind_spaces, is_nil, trim_end, continued_text}
use Rattle.cob_source.specs.Words.{is_bad_continuation, is_misfit, ends_quoted, first_character}
use Rattle.cob_source.specs.Reading.{IsSpace, Begins, LeavesOutSpaces}
use Rattle.cob_source.proofs.Opens.{open_left}
use Rattle.cob_source.proofs.Trims.{trim_blank}
use Rattle.cob_source.proofs.CutOnce.{cut_left}

-- the last character of a text is that of its last part
pub last_append : (front : List Cell) (c : Cell) (cells : List Cell) → ends_quoted (front ++ c ∷ cells) ≡ ends_quoted (c ∷ cells)
last_append front c cells =
    let n : length (front ++ c ∷ cells) - 1 ≡ length front + length cells = omega (arith, length-append front (c ∷ cells)) in
    let m : length (c ∷ cells) - 1 ≡ length cells = omega arith in
    ap (λ (k : ℕ). is_quote (slice_index_or (front ++ c ∷ cells) k nowhere).byte) n
    ∙ ap (λ (x : Cell). is_quote x.byte) (get_or-append-add front (c ∷ cells) (length cells) nowhere)
    ∙ ap (λ (k : ℕ). is_quote (slice_index_or (c ∷ cells) k nowhere).byte) (sym m)

-- a text that ends in spaces ends in no quote
pub ends_space : (front : List Cell) (c : Cell) (spaces : List Cell) → IsSpace c → AllByRecursion IsSpace spaces → ends_quoted (front ++ c ∷ spaces) ≡ false
ends_space front c [] e all = last_append front c [] ∙ ap is_quote e
ends_space front c (d ∷ spaces) e all = ap ends_quoted (sym (append_assoc front (c ∷ []) (d ∷ spaces))) ∙ ends_space (front ++ c ∷ []) d spaces all.0 all.1

pub open_same : {cells whole : List Cell} → LeavesOutSpaces cells whole → open_quote whole ≡ open_quote cells
open_same {cells} s = ap open_quote s.whole_is ∙ open_left cells s.left_out s.are_spaces

pub cut_same : {m : Cutting} {cells whole : List Cell} {ts : List Lexeme} → LeavesOutSpaces cells whole → Cuts m cells ts → Cuts m whole ts
cut_same {m} {ts = ts} s c = subst (λ (l : List Cell). Cuts m l ts) (sym s.whole_is) (cut_left s.left_out s.are_spaces c)

trim_spaces : (cells spaces : List Cell) → AllByRecursion IsSpace spaces → trim_end (cells ++ spaces) ≡ trim_end cells
trim_spaces cells [] all = ap trim_end (append-nil cells)
trim_spaces cells (c ∷ spaces) all = ap trim_end (sym (append_assoc cells (c ∷ []) spaces)) ∙ trim_spaces (cells ++ c ∷ []) spaces all.1 ∙ trim_blank cells c all.0

-- a continuation is joined to the same characters
pub continued_same : (q : Option ℕ) {cells whole : List Cell} → LeavesOutSpaces cells whole → open_quote cells ≡ q → continued_text q whole ≡ continued_text q cells
continued_same None {cells} s e = ap trim_end s.whole_is ∙ trim_spaces cells s.left_out s.are_spaces
continued_same (Some b) {cells} s e = s.whole_is ∙ ap (λ (l : List Cell). cells ++ l) (s.open_whole (ap is_some e)) ∙ append-nil cells

nil_left : (done cells spaces : List Cell) → Begins done (cells ++ spaces) → AllByRecursion IsSpace spaces → is_nil (cells ++ spaces) ≡ is_nil cells
nil_left done [] [] b all = refl
nil_left done [] (c ∷ spaces) b all = absurd (let h : 10 ≡ 32 = sym b ∙ all.0 in omega (arith, h))
nil_left done (c ∷ cells) spaces b all = refl

pub nil_same : (done : List Cell) {cells whole : List Cell} → Begins done whole → LeavesOutSpaces cells whole → is_nil whole ≡ is_nil cells
nil_same done {cells} b s = ap is_nil s.whole_is ∙ nil_left done cells s.left_out (subst (Begins done) s.whole_is b) s.are_spaces

misfit_same : (q : Option ℕ) {cells whole : List Cell} (b : ℕ) → LeavesOutSpaces cells whole → is_misfit q whole b ≡ is_misfit q cells b
misfit_same None b s = ap (λ (t : Bool). t && is_quote b) s.ends_same
misfit_same (Some q) b s = refl

-- whether a continuation fits is seen at what stands for a text
pub fits_same : (done : List Cell) {cells whole : List Cell} (line : List ℕ) → Begins done whole → LeavesOutSpaces cells whole → is_bad_continuation whole line ≡ is_bad_continuation cells line
fits_same done {cells} {whole} line b s =
    let first = first_character (behind_spaces (program_text line)) in
    let nils : is_nil whole ≡ is_nil cells = nil_same done b s in
    let fits : is_misfit (open_quote whole) whole first ≡ is_misfit (open_quote cells) cells first =
    ap (λ (x : Option ℕ). is_misfit x whole first) (open_same s) ∙ misfit_same (open_quote cells) first s in
    rw (nils, fits) refl
