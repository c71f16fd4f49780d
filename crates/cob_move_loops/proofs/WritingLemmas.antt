-- Passages written out.
use Rattle.std.proofs.Common.{◌≡◌, ◌⊎◌, inl, inr, ℕ, zero, suc, ◌+◌, ◌-◌, ◌<◌, List, [], ◌∷◌, ◌++◌, length, refl, sym, ap, ◌∙◌, append_assoc, append-nil, arith}
use Rattle.cob_source.specs.Tokens.{Lexeme}
use Rattle.cob_move_loops.specs.declared.parts.Place.{Place}
use Rattle.cob_move_loops.specs.declared.parts.Place.TheVariants as place
use Rattle.cob_move_loops.specs.declared.turn.Counter.{Counter}
use Rattle.cob_move_loops.specs.declared.writing.Run.{Run}
use Rattle.cob_move_loops.specs.Passages.{FrontAt, IsPassage, IsPassageAt, Passage, PassageFront, WrittenLoop}
use Rattle.cob_move_loops.specs.Few.{statements_of}
use Rattle.cob_move_loops.specs.Reading.{Within, all_runs, counters, written_front}
use Rattle.cob_move_loops.specs.Turns.{Counted, counter_at, turns, turns_of, words_by_turn}
use Rattle.cob_move_loops.proofs.CountLemmas.{none_turn, nothing_written}
use Rattle.cob_move_loops.proofs.PassageLemmas.{IsOnlyFront, Parted, nothing_left, parted, written_joined}

-- what is left of words comes to, behind what is written, what all come to
abbrev pub LeftOfWords : Place → List Counted → (words rest : List Lexeme) → (start now : List Run) → Type 0
LeftOfWords at ns words rest start now =
    (p : Passage) → IsPassageAt at p words → (q : Passage) × IsPassageAt at q rest × (all_runs now ++ words_by_turn ns q ≡ all_runs start ++ words_by_turn ns p)

pub left_first : (at : Place) (ns : List Counted) (words : List Lexeme) (out : List Run) → LeftOfWords at ns words words out out
left_first at ns words out p is = (p, is, refl)

pub left_more : (at : Place) (ns : List Counted) (words rest more : List Lexeme) (f : PassageFront) (start now after : List Run) → LeftOfWords at ns words rest start now → 0 < length rest → IsOnlyFront at f rest more
    → ((body : Passage) → Within f body → all_runs after ≡ all_runs now ++ written_front ns f body) → LeftOfWords at ns words more start after
left_more at ns words rest more f start now after left some only made p is =
    let (q, are, so) = left p is in
    let k : Parted at f more q = parted at f rest more q are some only in (
      k.others,
      k.is,
      ap (λ (xs : List (List Lexeme)). xs ++ words_by_turn ns k.others) (made k.body k.within)
          ∙ append_assoc (all_runs now) (written_front ns f k.body) (words_by_turn ns k.others)
          ∙ ap (λ (xs : List (List Lexeme)). all_runs now ++ xs) (sym (written_joined ns f k.body k.others))
          ∙ ap (λ (d : Passage). all_runs now ++ words_by_turn ns d) (sym k.same) ∙ so,
    )

pub left_end : (at : Place) (ns : List Counted) (words rest : List Lexeme) (start now : List Run) → LeftOfWords at ns words rest start now → ((f : PassageFront) (more : List Lexeme) → FrontAt at f rest more → ⊥)
    → (p : Passage) → IsPassageAt at p words → all_runs now ≡ all_runs start ++ words_by_turn ns p
left_end at ns words rest start now left none p is =
    let (q, are, so) = left p is in
    let nothing : words_by_turn ns q ≡ [] = ap (λ (d : Passage). words_by_turn ns d) (nothing_left at q rest are none) in
    sym (append-nil (all_runs now)) ∙ ap (λ (xs : List (List Lexeme)). all_runs now ++ xs) (sym nothing) ∙ so

-- ---- turns

-- what is left of a loop's turns comes to, behind what is written, what all come to
abbrev pub LeftOfTurns : List Counted → List Lexeme → WrittenLoop → (left number : ℕ) → (start now : List Run) → Type 0
LeftOfTurns ns body l left number start now =
    (p : Passage) → IsPassage p body
    → all_runs now ++ turns (λ i. words_by_turn (ns ++ counter_at l i ∷ []) p) l.by left number
    ≡ all_runs start ++ turns (λ i. words_by_turn (ns ++ counter_at l i ∷ []) p) l.by (turns_of l) l.from

less_one : (n : ℕ) → n ≡ suc n - 1
less_one n = omega arith

one_turn : {A : Type 0} (f : ℕ → List A) (by left number : ℕ) → 0 < left → turns f by left number ≡ f number ++ turns f by (left - 1) (number + by)
one_turn f by zero number some = absurd (omega (arith, some))
one_turn f by (suc n) number some = ap (λ (k : ℕ). f number ++ turns f by k (number + by)) (less_one n)

from_next : {A : Type 0} (f : ℕ → List A) (by left a b : ℕ) → (0 < left → a ≡ b) → turns f by left a ≡ turns f by left b
from_next f by zero a b same = refl
from_next f by (suc n) a b same = ap (λ (k : ℕ). f k ++ turns f by n (k + by)) (same (omega arith))

pub turns_next : (ns : List Counted) (body : List Lexeme) (l : WrittenLoop) (left number next : ℕ) (start now after : List Run) → 0 < left → LeftOfTurns ns body l left number start now
    → ((p : Passage) → IsPassage p body → all_runs after ≡ all_runs now ++ words_by_turn (ns ++ counter_at l number ∷ []) p)
    → (0 < left - 1 → next ≡ number + l.by) → LeftOfTurns ns body l (left - 1) next start after
turns_next ns body l left number next start now after some so made grows p is =
    let f : ℕ → List (List Lexeme) = λ i. words_by_turn (ns ++ counter_at l i ∷ []) p in
    ap (λ (xs : List (List Lexeme)). xs ++ turns f l.by (left - 1) next) (made p is)
    ∙ append_assoc (all_runs now) (f number) (turns f l.by (left - 1) next)
    ∙ ap (λ (xs : List (List Lexeme)). all_runs now ++ (f number ++ xs)) (from_next f l.by (left - 1) next (number + l.by) grows)
    ∙ ap (λ (xs : List (List Lexeme)). all_runs now ++ xs) (sym (one_turn f l.by left number some)) ∙ so p is

pub turns_done : (ns : List Counted) (body : List Lexeme) (l : WrittenLoop) (left number : ℕ) (start now : List Run) → left ≡ 0 → LeftOfTurns ns body l left number start now
    → (p : Passage) → IsPassage p body → all_runs now ≡ all_runs start ++ turns (λ i. words_by_turn (ns ++ counter_at l i ∷ []) p) l.by (turns_of l) l.from
turns_done ns body l left number start now none so p is =
    let f : ℕ → List (List Lexeme) = λ i. words_by_turn (ns ++ counter_at l i ∷ []) p in
    sym (append-nil (all_runs now)) ∙ ap (λ (n : ℕ). all_runs now ++ turns f l.by n number) (sym none) ∙ so p is

-- all turns are to be written, or none where they come to no statement
pub turns_first : (ns : List Counted) (body : List Lexeme) (l : WrittenLoop) (left number : ℕ) (start : List Run)
    → (left ≡ turns_of l) ⊎ ((left ≡ 0) × ((p : Passage) → IsPassage p body → statements_of p ≡ 0)) → number ≡ l.from → LeftOfTurns ns body l left number start start
turns_first ns body l left number start (inl all) from p is =
    ap (λ (n : ℕ). all_runs start ++ turns (λ i. words_by_turn (ns ++ counter_at l i ∷ []) p) l.by n number) all
    ∙ ap (λ (n : ℕ). all_runs start ++ turns (λ i. words_by_turn (ns ++ counter_at l i ∷ []) p) l.by (turns_of l) n) from
turns_first ns body l left number start (inr (none, nothing)) from p is =
    let f : ℕ → List (List Lexeme) = λ i. words_by_turn (ns ++ counter_at l i ∷ []) p in
    ap (λ (n : ℕ). all_runs start ++ turns f l.by n number) none
    ∙ ap (λ (xs : List (List Lexeme)). all_runs start ++ xs) (sym (none_turn f l.by (turns_of l) l.from (λ i. nothing_written place.Statements (ns ++ counter_at l i ∷ []) p body is (nothing p is))))

pub counters_more : (cs : List Counter) (c : Counter) → counters (cs ++ c ∷ []) ≡ counters cs ++ record { name = c.name.now; number = c.number } ∷ []
counters_more [] c = refl
counters_more (d ∷ cs) c = ap (λ (xs : List Counted). record { name = d.name.now; number = d.number } ∷ xs) (counters_more cs c)
