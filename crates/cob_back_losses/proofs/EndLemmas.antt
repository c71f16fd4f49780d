-- How far all bytes behind one are covered.
use Rattle.std.proofs.Common.{◌≡◌, inl, inr, ℕ, ◌+◌, ◌-◌, ◌<◌, ◌≤◌, Bool, true, false, List, length, get_or, set, drop, refl, sym, subst, ◌∙◌, arith}
use Rattle.std.specs.Prelude.{◌||◌, max}
use Rattle.std.proofs.lemmas.Bool.{cases_eq, cases_lt}
use Rattle.std.proofs.lemmas.Bool.Decides.{nat_tests}
use Rattle.std.proofs.lemmas.List.{get_or-drop, get_or-set_other, get_or-set_same}
use Rattle.cob_layout_places.specs.Cover.{holds}
use Rattle.cob_back_losses.specs.Keeping.{IsMarked}
use Rattle.cob_back_losses.specs.Seen.{AreEnds}

-- ---- the bytes of a place

held_low : (byte start count : ℕ) → holds byte start count ≡ true → start ≤ byte
held_low byte start count h = grind (arith, nat_tests, h)

held_high : (byte start count : ℕ) → holds byte start count ≡ true → byte < start + count
held_high byte start count h = grind (arith, nat_tests, h)

held : (byte start count : ℕ) → start ≤ byte → byte < start + count → holds byte start count ≡ true
held byte start count low high = grind (arith, nat_tests)

or_first : (a b : Bool) → a ≡ true → (a || b) ≡ true
or_first a b h = rw h refl

or_second : (a b : Bool) → b ≡ true → (a || b) ≡ true
or_second true b h = refl
or_second false b h = h

-- where the first bytes of a place are marked, marking them changes nothing
pub front_marked : (marks : List Bool) (start front count : ℕ) → count ≡ front → ((at : ℕ) → at < front → IsMarked marks (start + at)) → (byte : ℕ)
    → get_or marks byte false ≡ (holds byte start count || get_or marks byte false)
front_marked marks start front count same h byte = by (holds byte start count) refl
  where
    by : (b : Bool) → holds byte start count ≡ b → get_or marks byte false ≡ (b || get_or marks byte false)
    by false is = refl
    by true is =
        let low = held_low byte start count is in
        let high = held_high byte start count is in
        let place : start + (byte - start) ≡ byte = omega (arith, low) in
        subst (λ (o : ℕ). get_or marks o false ≡ true) place (h (byte - start) (omega (arith, low, high, same)))

-- the first bytes of a place, from its beginning on
pub front_drop : (marks : List Bool) (start front : ℕ) → ((at : ℕ) → at < front → IsMarked marks (start + at)) → (at : ℕ) → at < front → IsMarked (drop start marks) at
front_drop marks start front h at lt = get_or-drop start marks at false ∙ h at lt

pub place_marked : (old new : List Bool) (start count : ℕ) → ((byte : ℕ) → get_or new byte false ≡ (holds byte start count || get_or old byte false)) → (byte : ℕ) → start ≤ byte → byte < start + count → IsMarked new byte
place_marked old new start count marked byte low high = marked byte ∙ or_first (holds byte start count) (get_or old byte false) (held byte start count low high)

-- ---- ends

-- one that is set, up to which all are marked
pub set_end : (marks : List Bool) (ends : List ℕ) (at end : ℕ) → at < length ends → ((byte : ℕ) → at ≤ byte → byte < end → IsMarked marks byte) → AreEnds marks ends → AreEnds marks (set ends at end)
set_end marks ends at end lt own before other byte le below = elim (cases_eq other at) [
  | inl is ↦ (let e : get_or (set ends at end) other 0 ≡ end = subst (λ (o : ℕ). get_or (set ends at end) o 0 ≡ end) (sym is) (get_or-set_same ends at end 0 lt) in
      own byte (omega (arith, le, is)) (omega (arith, below, e)))
  | inr differs ↦ before other byte le (omega (arith, below, get_or-set_other ends at other end 0 differs))
]

-- all are marked up to the end of the byte at the end of one
pub known_further : (marks : List Bool) (ends : List ℕ) (at end : ℕ) → end ≡ get_or ends at 0 → AreEnds marks ends → (byte : ℕ) → at ≤ byte → byte < get_or ends end 0 → IsMarked marks byte
known_further marks ends at end is before byte le below = elim (cases_lt byte end) [
  | inl lt ↦ before at byte le (omega (arith, lt, is))
  | inr ge ↦ before end byte ge below
]

-- all are marked up to the end of a place or of a byte in it, whichever is behind
pub known_or_place : (marks : List Bool) (ends : List ℕ) (start end at : ℕ) → start ≤ at → ((byte : ℕ) → start ≤ byte → byte < end → IsMarked marks byte) → AreEnds marks ends
    → (byte : ℕ) → at ≤ byte → byte < max end (get_or ends at 0) → IsMarked marks byte
known_or_place marks ends start end at low all before byte le below = elim (cases_lt byte end) [
  | inl lt ↦ all byte (omega (arith, le, low)) lt
  | inr ge ↦ before at byte le (omega (arith, below, ge))
]

-- two stretches of marked bytes, one behind the other
pub front_further : (marks : List Bool) (start at next end : ℕ) → next ≤ end → ((byte : ℕ) → start ≤ byte → byte < at → IsMarked marks byte) → ((byte : ℕ) → at ≤ byte → byte < end → IsMarked marks byte)
    → (byte : ℕ) → start ≤ byte → byte < next → IsMarked marks byte
front_further marks start at next end most first second byte le lt = elim (cases_lt byte at) [
  | inl below ↦ first byte le below
  | inr ge ↦ second byte ge (omega (arith, lt, most))
]

-- what is said of marks is said of more of them
pub more_marks : (old new : List Bool) (ends : List ℕ) (start count : ℕ) → ((byte : ℕ) → get_or new byte false ≡ (holds byte start count || get_or old byte false)) → AreEnds old ends → AreEnds new ends
more_marks old new ends start count marked before at byte le below = marked byte ∙ or_second (holds byte start count) (get_or old byte false) (before at byte le below)
