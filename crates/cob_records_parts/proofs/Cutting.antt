-- A stream that is cut so far, one more frame, one more piece, and its end.
use Rattle.std.proofs.Common.{◌≡◌, ◌∙◌, ℕ, zero, suc, ◌+◌, ◌-◌, ◌*◌, ◌/◌, ◌<◌, ◌≤◌, List, [], ◌∷◌, ◌++◌, length, take, drop, refl, sym, ap, subst, append_assoc, append-nil, arith, inl, inr, None, Some, Option, Ok, Err}
use Rattle.std.proofs.Math.ListN.{length-append}
use Rattle.std.proofs.Math.Nat.{div-mul-le_self, suc-mul}
use Rattle.std.proofs.lemmas.List.{take-append-drop}
use Rattle.std.proofs.lemmas.Grind.{common_steps}
use Rattle.std.specs.List.{AllByRecursion}
use Rattle.cob_records.specs.Device.{Told}
use Rattle.cob_records.specs.Forms.{Come, ComesFirst}
use Rattle.cob_records.specs.Frame.{IsRecord, framed}
use Rattle.cob_records.specs.declared.records.Form.{Form}
use Rattle.cob_records.specs.declared.records.Form.TheVariants.{Fixed, Variable, Blocked}
use Rattle.cob_records.specs.declared.records.RecordFault.{RecordFault}
use Rattle.cob_records_parts.specs.declared.piece.Piece.{Piece}
use Rattle.cob_records_parts.specs.declared.piece.Start.{Start}
use Rattle.cob_records_parts.specs.declared.stream.Next.TheVariants.{Whole, Last}
use Rattle.cob_records_parts.specs.Cut.{AreCut, AreCutFrom, AreTold, AreWhole, AreWholeBefore, IsAllCut, IsFull, StopsCut, most_records_cut}
use Rattle.cob_records_parts.specs.Reading.{ClosesPiece, ComesFrame, EndsPieces, Finds, piece_to}

-- ---- records that come, and more

first_more : (form : Form) (left : ℕ) (body bytes : List ℕ) (after : ℕ) (rest more : List ℕ) → ComesFirst form left body bytes after rest
    → ComesFirst form left body (bytes ++ more) after (rest ++ more)
first_more Fixed left body bytes after rest more (frame, is) = (ap (λ (xs : List ℕ). xs ++ more) frame ∙ append_assoc body rest more, is)
first_more Variable left body bytes after rest more (frame, is) =
    (ap (λ (xs : List ℕ). xs ++ more) frame ∙ append_assoc (framed Variable body) rest more, is)
first_more (Blocked most) left body bytes after rest more (room, lead, leads, frame, is) = (
  room,
  lead,
  leads,
  ap (λ (xs : List ℕ). xs ++ more) frame ∙ append_assoc lead (framed Variable body ++ rest) more
      ∙ ap (λ (xs : List ℕ). lead ++ xs) (append_assoc (framed Variable body) rest more),
  is,
)

come_more : (form : Form) (left : ℕ) (bodies : List (List ℕ)) (bytes : List ℕ) (after : ℕ) (rest more : List ℕ) → Come form left bodies bytes after rest
    → Come form left bodies (bytes ++ more) after (rest ++ more)
come_more form left [] bytes after rest more (is, same) = (ap (λ (xs : List ℕ). xs ++ more) is, same)
come_more form left (body ∷ bodies) bytes after rest more (mid, tail, first, others) =
    (mid, tail ++ more, first_more form left body bytes mid tail more first, come_more form mid bodies tail after rest more others)

come_one : (form : Form) (left : ℕ) (bodies : List (List ℕ)) (body bytes : List ℕ) (mid : ℕ) (tail : List ℕ) (after : ℕ) (rest : List ℕ) → Come form left bodies bytes mid tail
    → ComesFirst form mid body tail after rest → Come form left (bodies ++ body ∷ []) bytes after rest
come_one form left [] body bytes mid tail after rest (is, same) first =
    (after, rest, subst (λ (xs : List ℕ). ComesFirst form left body xs after rest) (sym is) (subst (λ (k : ℕ). ComesFirst form k body tail after rest) same first), (refl, refl))
come_one form left (b ∷ bodies) body bytes mid tail after rest (k, xs, one, others) first =
    (k, xs, one, come_one form k bodies body xs mid tail after rest others first)

all_one : {X : Type 0} (P : X → Type 0) (xs : List X) (x : X) → AllByRecursion P xs → P x → AllByRecursion P (xs ++ x ∷ [])
all_one P [] x all one = (one, tt)
all_one P (y ∷ xs) x all one = (all.0, all_one P xs x all.1 one)

-- ---- a stream that is cut so far

-- These pieces are closed, and the open one begins here; so many bytes and records have come, and so much of the block is open. Whatever pieces tell what is
-- behind, they tell all of the stream with those that are closed.
pub record SoFar (form : Form) (greatest : ℕ) (pieces : List Piece) (start : Start) (offset count left : ℕ) (bytes rest : List ℕ) : Type 0 where
  pub front : List ℕ
  pub part : List ℕ
  pub bodies : List (List ℕ)
  pub earlier : List (List ℕ)
  pub all : bytes ≡ front ++ (part ++ rest)
  pub each : AllByRecursion (IsRecord form greatest) bodies
  pub come : Come form 0 bodies part left []
  pub behind : start.offset + length part ≡ offset
  pub number : start.first + length bodies ≡ count + 1
  pub closed : (tail : List ℕ) (more : List Piece) → AreCutFrom form greatest start.offset start.first tail more
      → AreCutFrom form greatest 0 1 (front ++ tail) (pieces ++ more)
  pub each_earlier : AllByRecursion (IsRecord form greatest) earlier
  pub came : Come form 0 earlier bytes left rest
  pub many : length earlier ≡ count

pub begun : (form : Form) (greatest : ℕ) (bytes : List ℕ) → SoFar form greatest [] (record { offset = 0; first = 1 }) 0 0 0 bytes bytes
begun form greatest bytes = record {
  front = [];
  part = [];
  bodies = [];
  earlier = [];
  all = refl;
  each = tt;
  come = (refl, refl);
  behind = refl;
  number = refl;
  closed = λ tail more cut. cut;
  each_earlier = tt;
  came = (refl, refl);
  many = refl;
}

-- one more frame
pub one_more : (form : Form) (greatest : ℕ) (pieces : List Piece) (start : Start) (offset count left size after : ℕ) (bytes mid rest : List ℕ)
    → SoFar form greatest pieces start offset count left bytes mid → ComesFrame form greatest left size after mid rest
    → SoFar form greatest pieces start (offset + size) (count + 1) after bytes rest
one_more form greatest pieces start offset count left size after bytes mid rest so_far next = record {
  front = so_far.front;
  part = so_far.part ++ next.frame;
  bodies = so_far.bodies ++ next.body ∷ [];
  earlier = so_far.earlier ++ next.body ∷ [];
  all = so_far.all ∙ ap (λ (xs : List ℕ). so_far.front ++ (so_far.part ++ xs)) next.all
      ∙ ap (λ (xs : List ℕ). so_far.front ++ xs) (sym (append_assoc so_far.part next.frame rest));
  each = all_one (IsRecord form greatest) so_far.bodies next.body so_far.each next.is;
  come = come_one form 0 so_far.bodies next.body (so_far.part ++ next.frame) left next.frame after []
      (come_more form 0 so_far.bodies so_far.part left [] next.frame so_far.come) next.first;
  behind = omega (arith, length-append so_far.part next.frame, so_far.behind, next.long);
  number = omega (arith, length-append so_far.bodies (next.body ∷ []), so_far.number);
  closed = so_far.closed;
  each_earlier = all_one (IsRecord form greatest) so_far.earlier next.body so_far.each_earlier next.is;
  came = come_one form 0 so_far.earlier next.body bytes left mid after rest so_far.came
      (subst (λ (xs : List ℕ). ComesFirst form left next.body xs after rest) (sym next.all) (first_more form left next.body next.frame after [] rest next.first));
  many = omega (arith, length-append so_far.earlier (next.body ∷ []), so_far.many);
}

whole_before : (form : Form) (greatest count : ℕ) (part : List ℕ) (parts : List (List ℕ)) → AreWhole form greatest count part → AreWholeBefore form greatest count part parts
whole_before form greatest count part [] is = tt
whole_before form greatest count part (next ∷ parts) is = is

-- one more piece
pub one_closed : (form : Form) (greatest : ℕ) (pieces : List Piece) (start here : Start) (offset count left : ℕ) (bytes rest : List ℕ)
    → SoFar form greatest pieces start offset count left bytes rest → left ≡ 0 → start.offset < offset → here.offset ≡ offset → here.first ≡ count + 1
    → SoFar form greatest (pieces ++ piece_to start here.offset ∷ []) here offset count left bytes rest
one_closed form greatest pieces start here offset count left bytes rest so_far none low is next = record {
  front = so_far.front ++ so_far.part;
  part = [];
  bodies = [];
  earlier = so_far.earlier;
  all = so_far.all ∙ sym (append_assoc so_far.front so_far.part rest);
  each = tt;
  come = (refl, none);
  behind = omega (arith, is);
  number = omega (arith, next);
  closed = close_tail;
  each_earlier = so_far.each_earlier;
  came = so_far.came;
  many = so_far.many;
}
  where
    piece : Piece
    piece = piece_to start here.offset

    whole : AreWhole form greatest (length so_far.bodies) so_far.part
    whole = record {
      bodies = so_far.bodies;
      each = so_far.each;
      come = subst (λ (k : ℕ). Come form 0 so_far.bodies so_far.part k []) none so_far.come;
      many = refl;
    }

    close_tail : (tail : List ℕ) (more : List Piece) → AreCutFrom form greatest here.offset here.first tail more
        → AreCutFrom form greatest 0 1 ((so_far.front ++ so_far.part) ++ tail) ((pieces ++ piece ∷ []) ++ more)
    close_tail tail more (parts, all, told) =
        let sum : start.offset + length so_far.part ≡ here.offset = so_far.behind ∙ sym is in
        let number : start.first + length so_far.bodies ≡ here.first = so_far.number ∙ sym next in
        let others : AreTold form greatest (start.offset + length so_far.part) (start.first + length so_far.bodies) parts more =
        subst (λ (k : ℕ). AreTold form greatest k (start.first + length so_far.bodies) parts more) (sym sum)
        (subst (λ (k : ℕ). AreTold form greatest here.offset k parts more) (sym number) told) in
        let long : here.offset - start.offset ≡ length so_far.part = omega (arith, sum) in
        let one : AreCutFrom form greatest start.offset start.first (so_far.part ++ tail) (piece ∷ more) = (
          so_far.part ∷ parts,
          ap (λ (xs : List ℕ). so_far.part ++ xs) all,
          (
            refl,
            long,
            refl,
            omega (arith, so_far.behind, low),
            (length so_far.bodies, whole_before form greatest (length so_far.bodies) so_far.part parts whole, others),
          ),
        ) in
        subst (λ (ps : List Piece). AreCutFrom form greatest 0 1 ((so_far.front ++ so_far.part) ++ tail) ps) (sym (append_assoc pieces (piece ∷ []) more))
        (subst (λ (xs : List ℕ). AreCutFrom form greatest 0 1 xs (pieces ++ piece ∷ more)) (sym (append_assoc so_far.front so_far.part tail))
        (so_far.closed (so_far.part ++ tail) (piece ∷ more) one))

-- a piece is closed, or all is as it was
pub maybe_closed : (form : Form) (greatest : ℕ) (pieces after : List Piece) (start here now : Start) (offset count left : ℕ) (bytes rest : List ℕ)
    → SoFar form greatest pieces start offset count left bytes rest → here.offset ≡ offset → here.first ≡ count + 1 → ClosesPiece left pieces start here after now
    → SoFar form greatest after now offset count left bytes rest
maybe_closed form greatest pieces after start here now offset count left bytes rest so_far is next (inl (same, stays)) =
    subst (λ (ps : List Piece). SoFar form greatest ps now offset count left bytes rest) (sym same)
    (subst (λ (s : Start). SoFar form greatest pieces s offset count left bytes rest) (sym stays) so_far)
maybe_closed form greatest pieces after start here now offset count left bytes rest so_far is next (inr (none, low, more, goes)) =
    subst (λ (ps : List Piece). SoFar form greatest ps now offset count left bytes rest) (sym more)
    (subst (λ (s : Start). SoFar form greatest (pieces ++ piece_to start here.offset ∷ []) s offset count left bytes rest) (sym goes)
    (one_closed form greatest pieces start here offset count left bytes rest so_far none (omega (arith, low, is)) is next))

-- ---- its end

nothing_left : (xs : List ℕ) → length xs ≡ 0 → xs ≡ []
nothing_left [] e = refl
nothing_left (x ∷ xs) e = absurd (omega (arith, e))

-- the last piece
pub ended : (form : Form) (greatest : ℕ) (pieces all : List Piece) (start : Start) (offset count left size : ℕ) (bytes mid : List ℕ)
    → SoFar form greatest pieces start offset count left bytes mid → length mid ≡ size → EndsPieces pieces start (offset + size) all → AreCut form greatest bytes all
ended form greatest pieces all start offset count left size bytes mid so_far long (inl (low, is)) =
    let tail : List ℕ = so_far.part ++ mid in
    let last : Piece = piece_to start (offset + size) in
    let sum : length tail ≡ length so_far.part + size = length-append so_far.part mid ∙ ap (λ (n : ℕ). length so_far.part + n) long in
    let one : AreCutFrom form greatest start.offset start.first tail (last ∷ []) =
    (tail ∷ [], append-nil tail, (refl, omega (arith, sum, so_far.behind), refl, omega (arith, sum, so_far.behind, low), (0, tt, tt))) in
    subst (λ (ps : List Piece). AreCut form greatest bytes ps) (sym is)
    (subst (λ (xs : List ℕ). AreCut form greatest xs (pieces ++ last ∷ [])) (sym so_far.all) (so_far.closed tail (last ∷ []) one))
ended form greatest pieces all start offset count left size bytes mid so_far long (inr (same, is)) =
    let none : so_far.part ++ mid ≡ [] = nothing_left (so_far.part ++ mid) (omega (arith, length-append so_far.part mid, so_far.behind, long, same)) in
    let cut : AreCutFrom form greatest 0 1 (so_far.front ++ []) (pieces ++ []) = so_far.closed [] [] ([], refl, tt) in
    subst (λ (ps : List Piece). AreCut form greatest bytes ps) (append-nil pieces ∙ sym is)
    (subst (λ (xs : List ℕ). AreCut form greatest xs (pieces ++ [])) (ap (λ (xs : List ℕ). so_far.front ++ xs) (sym none) ∙ sym so_far.all) cut)

-- ---- over what a source tells

-- what holds of bytes that come one behind another
told_then : (r0 r1 r2 : Option (List ℕ)) (P Q S : List ℕ → List ℕ → Type 0) → Told r0 r1 P → Told r1 r2 Q
    → ((bytes mid rest : List ℕ) → P bytes mid → Q mid rest → S bytes rest) → Told r0 r2 S
told_then None r1 r2 P Q S p q f = tt
told_then (Some xs) None r2 P Q S p q f = absurd p
told_then (Some xs) (Some mid) None P Q S p q f = absurd q
told_then (Some xs) (Some mid) (Some rest) P Q S p q f = f xs mid rest p q

pub told_begun : (form : Form) (greatest : ℕ) (pieces : List Piece) (r : Option (List ℕ)) → pieces ≡ []
    → Told r r (SoFar form greatest pieces (record { offset = 0; first = 1 }) 0 0 0)
told_begun form greatest pieces None none = tt
told_begun form greatest pieces (Some bytes) none =
    subst (λ (ps : List Piece). SoFar form greatest ps (record { offset = 0; first = 1 }) 0 0 0 bytes bytes) (sym none) (begun form greatest bytes)

pub told_more : (form : Form) (greatest : ℕ) (pieces after : List Piece) (start here now : Start) (offset count left size behind : ℕ) (r0 r1 r2 : Option (List ℕ))
    → Told r0 r1 (SoFar form greatest pieces start offset count left) → Told r1 r2 (Finds form greatest left (Ok (Whole size)) behind)
    → here.offset ≡ offset + size → here.first ≡ count + 2 → ClosesPiece behind pieces start here after now
    → Told r0 r2 (SoFar form greatest after now (offset + size) (count + 1) behind)
told_more form greatest pieces after start here now offset count left size behind r0 r1 r2 so_far next is number closes =
    told_then r0 r1 r2 (SoFar form greatest pieces start offset count left) (Finds form greatest left (Ok (Whole size)) behind)
    (SoFar form greatest after now (offset + size) (count + 1) behind) so_far next (λ bytes mid rest p q.
    maybe_closed form greatest pieces after start here now (offset + size) (count + 1) behind bytes rest
    (one_more form greatest pieces start offset count left size behind bytes mid rest p q) is (omega (arith, number)) closes)

pub told_ended : (form : Form) (greatest : ℕ) (pieces all : List Piece) (start : Start) (offset count left size behind : ℕ) (r0 r1 r2 : Option (List ℕ))
    → Told r0 r1 (SoFar form greatest pieces start offset count left) → Told r1 r2 (Finds form greatest left (Ok (Last size)) behind)
    → EndsPieces pieces start (offset + size) all → Told r0 r2 (IsAllCut form greatest all)
told_ended form greatest pieces all start offset count left size behind r0 r1 r2 so_far next ends =
    told_then r0 r1 r2 (SoFar form greatest pieces start offset count left) (Finds form greatest left (Ok (Last size)) behind) (IsAllCut form greatest all) so_far next
    (λ bytes mid rest p q. (ended form greatest pieces all start offset count left size bytes mid p q.0 ends, q.1))

pub told_stopped : (form : Form) (greatest : ℕ) (pieces : List Piece) (start : Start) (offset count left behind number : ℕ) (fault : RecordFault) (r0 r1 r2 : Option (List ℕ))
    → Told r0 r1 (SoFar form greatest pieces start offset count left) → Told r1 r2 (Finds form greatest left (Err fault) behind) → number ≡ count + 1
    → Told r0 r2 (StopsCut form greatest number fault)
told_stopped form greatest pieces start offset count left behind number fault r0 r1 r2 so_far next is =
    told_then r0 r1 r2 (SoFar form greatest pieces start offset count left) (Finds form greatest left (Err fault) behind) (StopsCut form greatest number fault) so_far next
    (λ bytes mid rest p q. record {
      bodies = p.earlier;
      opened = left;
      left = mid;
      slice = q.0;
      after = behind;
      each = p.each_earlier;
      come = p.came;
      next = is ∙ ap (λ (n : ℕ). n + 1) (sym p.many);
      reads = q.1;
    })

pub told_full : (form : Form) (greatest : ℕ) (pieces : List Piece) (start : Start) (offset count left : ℕ) (r0 r : Option (List ℕ))
    → Told r0 r (SoFar form greatest pieces start offset count left) → count ≡ most_records_cut → Told r0 r (IsFull form greatest)
told_full form greatest pieces start offset count left None r so_far is = tt
told_full form greatest pieces start offset count left (Some bytes) None so_far is = absurd so_far
told_full form greatest pieces start offset count left (Some bytes) (Some rest) so_far is =
    record { bodies = so_far.earlier; opened = left; each = so_far.each_earlier; come = so_far.came; many = so_far.many ∙ is }

-- ---- records of one length

-- A stream of one length is cut so far, behind a closed piece: so many of its bytes are behind.
pub record FixedSoFar (greatest size : ℕ) (pieces : List Piece) (start : Start) (bytes : List ℕ) : Type 0 where
  pub count : ℕ
  pub rest : List ℕ
  pub next : start.first ≡ count + 1
  pub long : start.offset + length rest ≡ size
  pub so_far : SoFar Fixed greatest pieces start start.offset count 0 bytes rest

-- the next record, of which there are whole ones left
fixed_next : (greatest : ℕ) (mid : List ℕ) → greatest ≤ length mid → ComesFrame Fixed greatest 0 greatest 0 mid (drop greatest mid)
fixed_next greatest mid within =
    let long : length (take greatest mid) ≡ greatest = grind (arith, common_steps) in
    record {
      body = take greatest mid;
      frame = take greatest mid;
      is = long;
      first = (sym (append-nil (take greatest mid)), refl);
      all = sym (take-append-drop greatest mid);
      long = long;
    }

-- so many records more
record Further (greatest : ℕ) (pieces : List Piece) (start : Start) (offset count total more : ℕ) (bytes mid : List ℕ) : Type 0 where
  rest : List ℕ
  long : length mid ≡ total + length rest
  so_far : SoFar Fixed greatest pieces start (offset + total) (count + more) 0 bytes rest

further : (greatest : ℕ) (pieces : List Piece) (start : Start) (offset count more : ℕ) (bytes mid : List ℕ) → more * greatest ≤ length mid
    → SoFar Fixed greatest pieces start offset count 0 bytes mid → Further greatest pieces start offset count (more * greatest) more bytes mid
further greatest pieces start offset count zero bytes mid within so_far =
    let at : offset ≡ offset + zero * greatest = omega arith in
    let number : count ≡ count + zero = omega arith in
    record {
      rest = mid;
      long = omega arith;
      so_far = subst (λ (k : ℕ). SoFar Fixed greatest pieces start k (count + zero) 0 bytes mid) at
          (subst (λ (k : ℕ). SoFar Fixed greatest pieces start offset k 0 bytes mid) number so_far);
    }
further greatest pieces start offset count (suc more) bytes mid within so_far =
    let product : suc more * greatest ≡ greatest + more * greatest = omega (arith, suc-mul more greatest) in
    let long : length mid ≡ greatest + length (drop greatest mid) = split greatest mid (omega (arith, product, within)) in
    let one = one_more Fixed greatest pieces start offset count 0 greatest 0 bytes mid (drop greatest mid) so_far (fixed_next greatest mid (omega (arith, product, within))) in
    let others = further greatest pieces start (offset + greatest) (count + 1) more bytes (drop greatest mid) (omega (arith, product, within, long)) one in
    let at : offset + greatest + more * greatest ≡ offset + suc more * greatest = omega (arith, product) in
    let number : count + 1 + more ≡ count + suc more = omega arith in
    record {
      rest = others.rest;
      long = omega (arith, long, others.long, product);
      so_far = subst (λ (k : ℕ). SoFar Fixed greatest pieces start k (count + suc more) 0 bytes others.rest) at
          (subst (λ (k : ℕ). SoFar Fixed greatest pieces start (offset + greatest + more * greatest) k 0 bytes others.rest) number others.so_far);
    }
  where
    split : (n : ℕ) (xs : List ℕ) → n ≤ length xs → length xs ≡ n + length (drop n xs)
    split n xs h = grind (arith, common_steps)

-- one more piece of so many records
pub fixed_more : (greatest size : ℕ) (pieces after : List Piece) (start now : Start) (more total : ℕ) (bytes : List ℕ) → FixedSoFar greatest size pieces start bytes
    → total ≡ more * greatest → 0 < total → start.offset + total ≤ size → after ≡ pieces ++ piece_to start (start.offset + total) ∷ []
    → now ≡ record { offset = start.offset + total; first = start.first + more } → FixedSoFar greatest size after now bytes
fixed_more greatest size pieces after start now more total bytes h is some within adds goes =
    let f = further greatest pieces start start.offset h.count more bytes h.rest (omega (arith, h.long, within, is)) h.so_far in
    let here : Start = record { offset = start.offset + total; first = start.first + more } in
    let so_far : SoFar Fixed greatest pieces start (start.offset + total) (h.count + more) 0 bytes f.rest =
    subst (λ (k : ℕ). SoFar Fixed greatest pieces start (start.offset + k) (h.count + more) 0 bytes f.rest) (sym is) f.so_far in
    let closed = one_closed Fixed greatest pieces start here (start.offset + total) (h.count + more) 0 bytes f.rest so_far refl (omega (arith, some)) refl (omega (arith, h.next)) in
    let all : FixedSoFar greatest size (pieces ++ piece_to start (start.offset + total) ∷ []) here bytes =
    record { count = h.count + more; rest = f.rest; next = omega (arith, h.next); long = omega (arith, h.long, f.long, is); so_far = closed } in
    subst (λ (ps : List Piece). FixedSoFar greatest size ps now bytes) (sym adds)
    (subst (λ (s : Start). FixedSoFar greatest size (pieces ++ piece_to start (start.offset + total) ∷ []) s bytes) (sym goes) all)

pub fixed_begun : (greatest size : ℕ) (pieces : List Piece) (bytes : List ℕ) → pieces ≡ [] → length bytes ≡ size
    → FixedSoFar greatest size pieces (record { offset = 0; first = 1 }) bytes
fixed_begun greatest size pieces bytes none long =
    let all : FixedSoFar greatest size [] (record { offset = 0; first = 1 }) bytes =
    record { count = 0; rest = bytes; next = refl; long = omega (arith, long); so_far = begun Fixed greatest bytes } in
    subst (λ (ps : List Piece). FixedSoFar greatest size ps (record { offset = 0; first = 1 }) bytes) (sym none) all

-- the records of a size have as many bytes at most
pub whole_within : (size from greatest : ℕ) → from ≡ greatest → size / from * greatest ≤ size
whole_within size from greatest e = subst (λ (n : ℕ). size / from * n ≤ size) e (div-mul-le_self size from)

pub fixed_ended : (greatest size : ℕ) (pieces all : List Piece) (start : Start) (bytes : List ℕ) → FixedSoFar greatest size pieces start bytes → EndsPieces pieces start size all
    → AreCut Fixed greatest bytes all
fixed_ended greatest size pieces all start bytes h ends =
    ended Fixed greatest pieces all start start.offset h.count 0 (length h.rest) bytes h.rest h.so_far refl (subst (λ (k : ℕ). EndsPieces pieces start k all) (sym h.long) ends)
