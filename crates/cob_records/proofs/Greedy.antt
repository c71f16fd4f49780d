-- What a sink writes of frames are their greedy blocks.
use Rattle.std.proofs.Common.{◌≡◌, ℕ, ◌+◌, ◌<◌, ◌≤◌, nat_le, true, false, List, [], ◌∷◌, ◌++◌, length, refl, sym, ap, subst, ◌∙◌, arith, append_assoc, append-nil, inl, inr}
use Rattle.std.specs.List.{AllByRecursion, flat_map}
use Rattle.std.proofs.Math.ListN.{length-append}
use Rattle.std.proofs.lemmas.Bool.{cases_lt}
use Rattle.std.proofs.lemmas.Bool.Decides.{nat_tests}
use Rattle.cob_records.specs.Blocks.{AreBlocksOf, AreGreedy, BlocksAreGreedy, IsBlockOf, IsFullBefore, MayStandInBlock, OpenBlock, block, blocks_from, closed_block, closed_by, empty, fits, joined, with_frame}

le_yes : (a b : ℕ) → a ≤ b → nat_le a b ≡ true
le_yes a b h = grind (arith, nat_tests)

le_no : (a b : ℕ) → b < a → nat_le a b ≡ false
le_no a b h = grind (arith, nat_tests)

joined-append : {A : Type 0} (xs ys : List (List A)) → joined (xs ++ ys) ≡ joined xs ++ joined ys
joined-append [] ys = refl
joined-append (x ∷ xs) ys = ap (λ zs. x ++ zs) (joined-append xs ys) ∙ sym (append_assoc x (joined xs) (joined ys))

joined_one : {A : Type 0} (x : List A) → joined (x ∷ []) ≡ x
joined_one x = append-nil x

all_append : {X : Type 0} (P : X → Type 0) (xs ys : List X) → AllByRecursion P xs → AllByRecursion P ys → AllByRecursion P (xs ++ ys)
all_append P [] ys h k = k
all_append P (x ∷ xs) ys h k = (h.0, all_append P xs ys h.1 k)

back_part : {X : Type 0} (P : X → Type 0) (xs ys : List X) → AllByRecursion P (xs ++ ys) → AllByRecursion P ys
back_part P [] ys h = h
back_part P (x ∷ xs) ys h = back_part P xs ys h.1

-- a block with bytes, closed
pub closed_some : (bytes : List ℕ) → 0 < length bytes → closed_block bytes ≡ block bytes
closed_some [] h = absurd (omega (arith, h))
closed_some (b ∷ bs) h = refl

-- ---- one more frame

fitting : (b : OpenBlock) (frame : List ℕ) → 4 + length b.frames + length frame ≤ b.size
    → (closed_by b frame ≡ []) × (with_frame b frame ≡ record { size = b.size; frames = b.frames ++ frame; held = b.held + 1 })
fitting b frame h =
    let yes : fits b frame ≡ true = le_yes (4 + length b.frames + length frame) b.size h in
    (rw yes refl, rw yes refl)

unfitting : (b : OpenBlock) (frame : List ℕ) → b.size < 4 + length b.frames + length frame
    → (closed_by b frame ≡ closed_block b.frames) × (with_frame b frame ≡ record { size = b.size; frames = frame; held = 1 })
unfitting b frame h =
    let no : fits b frame ≡ false = le_no (4 + length b.frames + length frame) b.size h in
    (rw no refl, rw no refl)

-- what is written from an open block of these frames on
abbrev open_of : ℕ → ℕ → List ℕ → OpenBlock
open_of size held frames = record { size = size; frames = frames; held = held }

step_fits : (size held : ℕ) (base frame : List ℕ) (frames : List (List ℕ)) → 4 + length base + length frame ≤ size
    → blocks_from (open_of size held base) (frame ∷ frames) ≡ blocks_from (open_of size (held + 1) (base ++ frame)) frames
step_fits size held base frame frames h =
    let (none, next) = fitting (open_of size held base) frame h in
    ap (λ xs. xs ++ blocks_from (with_frame (open_of size held base) frame) frames) none ∙ ap (λ b. blocks_from b frames) next

step_closes : (size held : ℕ) (base frame : List ℕ) (frames : List (List ℕ)) → size < 4 + length base + length frame → 0 < length base
    → blocks_from (open_of size held base) (frame ∷ frames) ≡ block base ++ blocks_from (open_of size 1 frame) frames
step_closes size held base frame frames h some =
    let (one, next) = unfitting (open_of size held base) frame h in
    ap (λ xs. xs ++ blocks_from (with_frame (open_of size held base) frame) frames) (one ∙ closed_some base some) ∙ ap (λ b. block base ++ blocks_from b frames) next

-- ---- the blocks are greedy

-- the greedy blocks from an open block of these frames on: the open block with more frames, and the blocks behind it
record Cut (size held : ℕ) (own frames : List (List ℕ)) : Type 0 where
  more : List (List ℕ)
  rest : List (List (List ℕ))
  greedy : AreGreedy size ((own ++ more) ∷ rest)
  same : joined ((own ++ more) ∷ rest) ≡ own ++ frames
  bytes : blocks_from (open_of size held (joined own)) frames ≡ flat_map (λ fs. block (joined fs)) ((own ++ more) ∷ rest)

some_bytes : (size : ℕ) (frames : List (List ℕ)) → 0 < length frames → AllByRecursion (MayStandInBlock size) frames → 0 < length (joined frames)
some_bytes size [] some all = absurd (omega (arith, some))
some_bytes size (f ∷ fs) some all = omega (arith, all.0.0, length-append f (joined fs))

length_snoc : (own : List (List ℕ)) (f : List ℕ) → length (joined (own ++ f ∷ [])) ≡ length (joined own) + length f
length_snoc own f = ap length (joined-append own (f ∷ []) ∙ ap (λ xs. joined own ++ xs) (joined_one f)) ∙ length-append (joined own) f

cut : (size held : ℕ) (own frames : List (List ℕ)) → IsBlockOf size own → AllByRecursion (MayStandInBlock size) own → AllByRecursion (MayStandInBlock size) frames
    → Cut size held own frames
cut size held own [] whole own_may may =
    let same : own ++ [] ≡ own = append-nil own in
    let some : 0 < length (joined own) = some_bytes size own whole.0 own_may in
    record {
      more = [];
      rest = [];
      greedy = rw same (whole, tt, tt);
      same = append-nil (own ++ []);
      bytes = closed_some (joined own) some ∙ sym (append-nil (block (joined own))) ∙ ap (λ fs. block (joined fs) ++ []) (sym same);
    }
cut size held own (f ∷ fs) whole own_may may = elim (cases_lt size (4 + length (joined own) + length f)) [
  | inl full ↦
      let some : 0 < length (joined own) = some_bytes size own whole.0 own_may in
      let alone : IsBlockOf size (f ∷ []) = (omega arith, omega (arith, may.0.1, ap length (joined_one f))) in
      let next = cut size 1 (f ∷ []) fs alone (may.0, tt) may.1 in
      let same : own ++ [] ≡ own = append-nil own in
      record {
        more = [];
        rest = ((f ∷ []) ++ next.more) ∷ next.rest;
        greedy = rw same (whole, full, next.greedy);
        same = ap (λ xs. xs ++ joined (((f ∷ []) ++ next.more) ∷ next.rest)) same ∙ ap (λ xs. own ++ xs) next.same;
        bytes = step_closes size held (joined own) f fs full some
            ∙ ap (λ x. block (joined own) ++ blocks_from (open_of size 1 x) fs) (sym (joined_one f))
            ∙ ap (λ x. block (joined own) ++ x) next.bytes
            ∙ ap (λ x. block (joined x) ++ flat_map (λ gs. block (joined gs)) (((f ∷ []) ++ next.more) ∷ next.rest)) (sym same);
      }
  | inr room ↦
      let size_is = length_snoc own f in
      let longer : IsBlockOf size (own ++ f ∷ []) = (omega (arith, length-append own (f ∷ [])), omega (arith, size_is, room)) in
      let next = cut size (held + 1) (own ++ f ∷ []) fs longer (all_append (MayStandInBlock size) own (f ∷ []) own_may (may.0, tt)) may.1 in
      let split : (own ++ f ∷ []) ++ next.more ≡ own ++ (f ∷ next.more) = append_assoc own (f ∷ []) next.more in
      record {
        more = f ∷ next.more;
        rest = next.rest;
        greedy = subst (λ x. AreGreedy size (x ∷ next.rest)) split next.greedy;
        same = ap (λ x. joined (x ∷ next.rest)) (sym split) ∙ next.same ∙ append_assoc own (f ∷ []) fs;
        bytes = step_fits size held (joined own) f fs (omega (arith, room))
            ∙ ap (λ x. blocks_from (open_of size (held + 1) x) fs) (sym (joined-append own (f ∷ []) ∙ ap (λ xs. joined own ++ xs) (joined_one f)))
            ∙ next.bytes
            ∙ ap (λ x. flat_map (λ gs. block (joined gs)) (x ∷ next.rest)) split;
      }
]

greedy : (size : ℕ) (frames : List (List ℕ)) → AllByRecursion (MayStandInBlock size) frames → AreBlocksOf size frames (blocks_from (empty size) frames)
greedy size [] may = ([], tt, refl, refl)
greedy size (f ∷ fs) may =
    let alone : IsBlockOf size (f ∷ []) = (omega arith, omega (arith, may.0.1, ap length (joined_one f))) in
    let all = cut size 1 (f ∷ []) fs alone (may.0, tt) may.1 in (
      ((f ∷ []) ++ all.more) ∷ all.rest,
      all.greedy,
      all.same,
      step_fits size 0 [] f fs (omega (arith, may.0.1))
          ∙ ap (λ x. blocks_from (open_of size 1 x) fs) (sym (joined_one f))
          ∙ all.bytes,
    )

-- ---- and there are no others

-- what is written of the blocks behind an open one, which is full before them
abbrev Follows : ℕ → List (List (List ℕ)) → Type 0
Follows size rest = (held : ℕ) (own : List (List ℕ)) → 0 < length (joined own) → IsFullBefore size own (joined rest)
    → blocks_from (open_of size held (joined own)) (joined rest) ≡ flat_map (λ fs. block (joined fs)) (own ∷ rest)

-- the rest of the first block goes into the open one
walk : (size : ℕ) (rest : List (List (List ℕ))) → Follows size rest → (held : ℕ) (own todo : List (List ℕ)) → 0 < length (joined own)
    → 4 + length (joined (own ++ todo)) ≤ size → IsFullBefore size (own ++ todo) (joined rest)
    → blocks_from (open_of size held (joined own)) (todo ++ joined rest) ≡ flat_map (λ fs. block (joined fs)) ((own ++ todo) ∷ rest)
walk size rest follows held own [] some fit full =
    follows held own some (subst (λ x. IsFullBefore size x (joined rest)) (append-nil own) full)
    ∙ ap (λ x. flat_map (λ fs. block (joined fs)) (x ∷ rest)) (sym (append-nil own))
walk size rest follows held own (t ∷ ts) some fit full =
    let split : (own ++ t ∷ []) ++ ts ≡ own ++ (t ∷ ts) = append_assoc own (t ∷ []) ts in
    let size_is = length_snoc own t in
    let all_is = ap length (joined-append (own ++ t ∷ []) ts) in
    let fits_all : 4 + length (joined ((own ++ t ∷ []) ++ ts)) ≤ size = subst (λ x. 4 + length (joined x) ≤ size) (sym split) fit in
    let room : 4 + length (joined own) + length t ≤ size = omega (arith, fits_all, all_is, size_is, length-append (joined (own ++ t ∷ [])) (joined ts)) in
    step_fits size held (joined own) t (ts ++ joined rest) room
    ∙ ap (λ x. blocks_from (open_of size (held + 1) x) (ts ++ joined rest)) (sym (joined-append own (t ∷ []) ∙ ap (λ xs. joined own ++ xs) (joined_one t)))
    ∙ walk size rest follows (held + 1) (own ++ t ∷ []) ts (omega (arith, size_is, some)) fits_all (subst (λ x. IsFullBefore size x (joined rest)) (sym split) full)
    ∙ ap (λ x. flat_map (λ gs. block (joined gs)) (x ∷ rest)) split

follows_all : (size : ℕ) (rest : List (List (List ℕ))) → AllByRecursion (MayStandInBlock size) (joined rest) → AreGreedy size rest → Follows size rest
follows_all size [] may greedy held own some full = closed_some (joined own) some ∙ sym (append-nil (block (joined own)))
follows_all size ([] ∷ rest) may greedy held own some full = absurd (omega (arith, greedy.0.0))
follows_all size ((f ∷ fs) ∷ rest) may greedy held own some full =
    let first : 0 < length (joined (f ∷ [])) = omega (arith, may.0.0, ap length (joined_one f)) in
    step_closes size held (joined own) f (fs ++ joined rest) full some
    ∙ ap (λ x. block (joined own) ++ blocks_from (open_of size 1 x) (fs ++ joined rest)) (sym (joined_one f))
    ∙ ap (λ x. block (joined own) ++ x)
    (walk size rest (follows_all size rest (back_part (MayStandInBlock size) (f ∷ fs) (joined rest) may) greedy.2) 1 (f ∷ []) fs first greedy.0.1 greedy.1)

only : (size : ℕ) (frames : List (List ℕ)) (bytes : List ℕ) → AllByRecursion (MayStandInBlock size) frames → AreBlocksOf size frames bytes
    → bytes ≡ blocks_from (empty size) frames
only size frames bytes may ([], greedy, same, is) = is ∙ ap (blocks_from (empty size)) same
only size frames bytes may (([] ∷ rest), greedy, same, is) = absurd (omega (arith, greedy.0.0))
only size frames bytes may (((f ∷ fs) ∷ rest), greedy, same, is) =
    let all : AllByRecursion (MayStandInBlock size) (f ∷ (fs ++ joined rest)) = subst (AllByRecursion (MayStandInBlock size)) (sym same) may in
    let first : 0 < length (joined (f ∷ [])) = omega (arith, all.0.0, ap length (joined_one f)) in
    is
    ∙ sym (walk size rest (follows_all size rest (back_part (MayStandInBlock size) (f ∷ fs) (joined rest) all) greedy.2) 1 (f ∷ []) fs first greedy.0.1 greedy.1)
    ∙ ap (λ x. blocks_from (open_of size 1 x) (fs ++ joined rest)) (joined_one f)
    ∙ sym (step_fits size 0 [] f (fs ++ joined rest) (omega (arith, all.0.1)))
    ∙ ap (blocks_from (empty size)) same

pub blocks_are_greedy : BlocksAreGreedy
blocks_are_greedy = record { greedy = greedy; only = only }
