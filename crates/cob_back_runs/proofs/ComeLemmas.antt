-- Records that were written come again.
use Rattle.std.proofs.Common.{◌≡◌, ℕ, zero, suc, ◌+◌, ◌<◌, ◌≤◌, List, [], ◌∷◌, ◌++◌, length, map, refl, sym, ap, subst, ◌∙◌, arith, append_assoc}
use Rattle.std.specs.List.{AllByRecursion, flat_map}
use Rattle.std.proofs.Math.ListN.{length-append}
use Rattle.std.proofs.lemmas.List.{length-map}
use Rattle.cob_records.specs.declared.records.Form.{Form}
use Rattle.cob_records.specs.declared.records.Form.TheVariants.{Fixed, Variable, Blocked}
use Rattle.cob_records.specs.Frame.{descriptor, framed}
use Rattle.cob_records.specs.Blocks.{AreGreedy, block, joined}
use Rattle.cob_records.specs.Forms.{Come, FormsAreFrames, MayBeBlocked, written_of}

come_append : (form : Form) (left : ℕ) (xs ys : List (List ℕ)) (bytes : List ℕ) (mid : ℕ) (more : List ℕ) (after : ℕ) (rest : List ℕ)
    → Come form left xs bytes mid more → Come form mid ys more after rest → Come form left (xs ++ ys) bytes after rest
come_append form left [] ys bytes mid more after rest (same, is) h =
    subst (λ (b : List ℕ). Come form left ys b after rest) (sym same) (subst (λ (m : ℕ). Come form m ys more after rest) is h)
come_append form left (x ∷ xs) ys bytes mid more after rest (m, b, first, tail) h = (m, b, first, come_append form m xs ys b mid more after rest tail h)

-- ---- without blocks

fixed_come : (bodies : List (List ℕ)) → Come Fixed 0 bodies (flat_map (framed Fixed) bodies) 0 []
fixed_come [] = (refl, refl)
fixed_come (b ∷ bs) = (0, flat_map (framed Fixed) bs, (refl, refl), fixed_come bs)

variable_come : (bodies : List (List ℕ)) → Come Variable 0 bodies (flat_map (framed Variable) bodies) 0 []
variable_come [] = (refl, refl)
variable_come (b ∷ bs) = (0, flat_map (framed Variable) bs, (refl, refl), variable_come bs)

-- ---- in blocks

-- how long the frames of these records are
abbrev frames : List (List ℕ) → List ℕ
frames bodies = flat_map (framed Variable) bodies

length-frames : (b : List ℕ) (bs : List (List ℕ)) → length (frames (b ∷ bs)) ≡ 4 + length b + length (frames bs)
length-frames b bs = length-append (framed Variable b) (frames bs) ∙ omega arith

inside : (most left : ℕ) (bs : List (List ℕ)) (more : List ℕ) → left ≡ length (frames bs) → Come (Blocked most) left bs (frames bs ++ more) 0 more
inside most left [] more e = (refl, sym e)
inside most zero (b ∷ bs) more e = absurd (omega (arith, e, length-frames b bs))
inside most (suc n) (b ∷ bs) more e =
    let after : ℕ = length (frames bs) in
    (after, frames bs ++ more, (suc n, [], (refl, refl), append_assoc (framed Variable b) (frames bs) more, e ∙ length-frames b bs), inside most after bs more refl)

-- the records of one block
block_comes : (most : ℕ) (b : List ℕ) (bs : List (List ℕ)) (more : List ℕ) → 4 + length (frames (b ∷ bs)) ≤ most
    → Come (Blocked most) 0 (b ∷ bs) (block (frames (b ∷ bs)) ++ more) 0 more
block_comes most b bs more fits =
    let room : ℕ = length (frames (b ∷ bs)) in
    let after : ℕ = length (frames bs) in (
      after,
      frames bs ++ more,
      (
        room,
        descriptor room,
        (refl, omega (arith, length-frames b bs), fits),
        append_assoc (descriptor room) (frames (b ∷ bs)) more ∙ ap (λ (xs : List ℕ). descriptor room ++ xs) (append_assoc (framed Variable b) (frames bs) more),
        length-frames b bs,
      ),
      inside most after bs more refl,
    )

-- mapped records that are cut in two
record IsCut (xs ys bodies : List (List ℕ)) : Type 0 where
  front : List (List ℕ)
  behind : List (List ℕ)
  all : bodies ≡ front ++ behind
  first : xs ≡ map (framed Variable) front
  last : ys ≡ map (framed Variable) behind

head_is : (x y : List ℕ) (xs ys : List (List ℕ)) → x ∷ xs ≡ y ∷ ys → x ≡ y
head_is x y xs ys e = cc

tail_is : (x y : List ℕ) (xs ys : List (List ℕ)) → x ∷ xs ≡ y ∷ ys → xs ≡ ys
tail_is x y xs ys e = cc

cut : (xs ys bodies : List (List ℕ)) → xs ++ ys ≡ map (framed Variable) bodies → IsCut xs ys bodies
cut [] ys bodies e = record { front = []; behind = bodies; all = refl; first = refl; last = e }
cut (x ∷ xs) ys [] e = absurd (cc)
cut (x ∷ xs) ys (b ∷ bodies) e =
    let rest = cut xs ys bodies (tail_is x (framed Variable b) (xs ++ ys) (map (framed Variable) bodies) e) in
    let one : x ≡ framed Variable b = head_is x (framed Variable b) (xs ++ ys) (map (framed Variable) bodies) e in
    record {
      front = b ∷ rest.front;
      behind = rest.behind;
      all = ap (λ (t : List (List ℕ)). b ∷ t) rest.all;
      first = (λ j. one j ∷ rest.first j);
      last = rest.last;
    }

joined_map : (bs : List (List ℕ)) → joined (map (framed Variable) bs) ≡ frames bs
joined_map [] = refl
joined_map (b ∷ bs) = ap (λ (xs : List ℕ). framed Variable b ++ xs) (joined_map bs)

-- the records of a block that isn't empty
some_come : (most : ℕ) (bs : List (List ℕ)) (more : List ℕ) → 0 < length bs → 4 + length (frames bs) ≤ most → Come (Blocked most) 0 bs (block (frames bs) ++ more) 0 more
some_come most [] more some fits = absurd (omega (arith, some))
some_come most (b ∷ bs) more some fits = block_comes most b bs more fits

blocks_come : (most : ℕ) (blocks : List (List (List ℕ))) (bodies : List (List ℕ)) → AreGreedy most blocks → joined blocks ≡ map (framed Variable) bodies
    → Come (Blocked most) 0 bodies (flat_map (λ (fs : List (List ℕ)). block (joined fs)) blocks) 0 []
blocks_come most [] [] greedy e = (refl, refl)
blocks_come most [] (b ∷ bodies) greedy e = absurd (cc)
blocks_come most (fs ∷ rest) bodies greedy e =
    let c = cut fs (joined rest) bodies e in
    let long : joined fs ≡ frames c.front = ap joined c.first ∙ joined_map c.front in
    let some : 0 < length c.front = omega (arith, greedy.0.0, ap (length {A = List ℕ}) c.first, length-map c.front (framed Variable)) in
    let room : 4 + length (frames c.front) ≤ most = omega (arith, greedy.0.1, ap (length {A = ℕ}) long) in
    let behind = flat_map (λ (gs : List (List ℕ)). block (joined gs)) rest in
    let own : Come (Blocked most) 0 c.front (block (joined fs) ++ behind) 0 behind =
    subst (λ (xs : List ℕ). Come (Blocked most) 0 c.front (block xs ++ behind) 0 behind) (sym long) (some_come most c.front behind some room) in
    subst (λ (bs : List (List ℕ)). Come (Blocked most) 0 bs (block (joined fs) ++ behind) 0 []) (sym c.all)
    (come_append (Blocked most) 0 c.front c.behind (block (joined fs) ++ behind) 0 behind 0 [] own (blocks_come most rest c.behind greedy.2 c.last))

-- ---- in any form

-- a record that the form's blocks have room for, if it has blocks
abbrev pub HasRoomIn : Form → List ℕ → Type 0
HasRoomIn Fixed body = Unit {0}
HasRoomIn Variable body = Unit {0}
HasRoomIn (Blocked most) body = MayBeBlocked most body

pub written_comes : FormsAreFrames → (form : Form) (bodies : List (List ℕ)) → AllByRecursion (HasRoomIn form) bodies → Come form 0 bodies (written_of form bodies) 0 []
written_comes law Fixed bodies fits = subst (λ (xs : List ℕ). Come Fixed 0 bodies xs 0 []) (sym (law.written Fixed bodies refl)) (fixed_come bodies)
written_comes law Variable bodies fits = subst (λ (xs : List ℕ). Come Variable 0 bodies xs 0 []) (sym (law.written Variable bodies refl)) (variable_come bodies)
written_comes law (Blocked most) bodies fits =
    let (blocks, greedy, all, bytes) = law.blocks most bodies fits in
    subst (λ (xs : List ℕ). Come (Blocked most) 0 bodies xs 0 []) (sym bytes) (blocks_come most blocks bodies greedy all)
