-- Occurrences that are noted once receive once.
use Rattle.std.proofs.Common.{◌≡◌, ℕ, ◌<◌, true, false, List, [], ◌∷◌, length, get_or, set, map, refl, sym, ap, subst, ◌∙◌, inl, inr}
use Rattle.std.specs.Prelude.{Bool, Result, Option, Some, None, Ok, Err, option_map, IsSome}
use Rattle.std.proofs.lemmas.List.{get_or-set_same, get_or-set_other}
use Rattle.std.proofs.lemmas.Bool.{cases_eq}
use Rattle.cob_codec.specs.declared.reading.Reading.{Reading}
use Rattle.cob_copybook_tree.specs.Forests.{Forest}
use Rattle.cob_copybook_tree.specs.Nodes.{Resolved}
use Rattle.cob_layout.specs.Counting.{greatest_counts}
use Rattle.cob_layout.specs.Placed.{placed, placed_under}
use Rattle.cob_layout.specs.declared.fields.Place.{Place}
use Rattle.cob_layout.specs.declared.layout.PlaceFault.{PlaceFault}
use Rattle.cob_layout_places.specs.Cover.{Occurrence}
use Rattle.cob_layout_places.specs.Lengths.{times}
use Rattle.cob_layout_places.specs.Places.{place_of}
use Rattle.cob_layout_places.specs.declared.places.Found.{Found}
use Rattle.cob_layout_places.specs.declared.reference.Ref.{Ref}
use Rattle.cob_move_data.specs.declared.operands.StatementMoves.{StatementMoves}
use Rattle.cob_move_data.specs.Moves.{Records}
use Rattle.cob_move_data.specs.Singles.{PlainSingle, SingleMove, occurrence, occurrence_of, single_between, singles_of}
use Rattle.cob_move_data.proofs.SingleLemmas.{of_placed}
use Rattle.cob_back_moves.specs.Singles.{ReceiveOnce, Receives}
use Rattle.cob_back_moves.specs.Noting.{BeginsAt, NotesFirst}
use Rattle.cob_back_moves.specs.Received.{singles_by}

-- ---- where an occurrence begins

begins_where : (o l : ℕ) (within : Bool) (p : Place) → placed (record { offset = o; length = l; within = within }) ≡ Ok p → o ≡ p.offset
begins_where o l true p h =
    let e : ◌≡◌ {A = Result Place PlaceFault} (Ok (record { offset = o; length = l })) (Ok p) = h in
    let same : record { offset = o; length = l } ≡ p = cc in
    ap (λ (q : Place). q.offset) same
begins_where o l false p h = let e : ◌≡◌ {A = Result Place PlaceFault} (Err (record { offset = o })) (Ok p) = h in absurd (cc)

found_begins : (tree : Forest Resolved) (x : Occurrence) (o : Option Found) (p : Place) → place_of (times (greatest_counts tree)) x.number tree 0 0 x.subscripts ≡ o
    → option_map placed o ≡ Some (Ok p) → BeginsAt tree x p.offset
found_begins tree x None p is h = absurd (cc)
found_begins tree x (Some f) p is h =
    let same : placed f ≡ Ok p = cc in record { found = f; place = is; begins = begins_where f.offset f.length f.within p same }

pub begins_by : (tree : Forest Resolved) (r : Ref) (n : ℕ) (xs : List ℕ) (p : Place) → r.node ≡ n → r.subscripts.items ≡ xs
    → placed_under (greatest_counts tree) tree r ≡ Some (Ok p) → BeginsAt tree (occurrence n xs) p.offset
begins_by tree r n xs p same also h =
    subst (λ (m : ℕ). BeginsAt tree (occurrence m xs) p.offset) same
    (subst (λ (ys : List ℕ). BeginsAt tree (occurrence r.node ys) p.offset) also
    (found_begins tree (occurrence r.node r.subscripts.items) (place_of (times (greatest_counts tree)) r.node tree 0 0 r.subscripts.items) p refl h))

one_beginning : (tree : Forest Resolved) (x : Occurrence) (a b : ℕ) → BeginsAt tree x a → BeginsAt tree x b → a ≡ b
one_beginning tree x a b h k =
    let same : Some h.found ≡ Some k.found = sym h.place ∙ k.place in
    let is : h.found ≡ k.found = cc in
    sym h.begins ∙ ap (λ (f : Found). f.offset) is ∙ k.begins

-- ---- one note

-- a statement is noted at this byte
abbrev IsNotedAt : List (Option ℕ) → ℕ → Type 0
IsNotedAt noted at = IsSome (get_or noted at None)

-- a statement is noted at the byte at which the occurrence begins
record HasNotedBegin (tree : Forest Resolved) (noted : List (Option ℕ)) (x : Occurrence) : Type 0 where
  at : ℕ
  begins : BeginsAt tree x at
  there : IsNotedAt noted at

-- no occurrence receives twice in these, and none receives that is noted
pub record ReceiveFirst (tree : Forest Resolved) (noted : List (Option ℕ)) (ss : List SingleMove) : Type 0 where
  once : ReceiveOnce ss
  fresh : (x : Occurrence) → HasNotedBegin tree noted x → Receives x ss → ⊥

still_noted : (noted : List (Option ℕ)) (at statement other : ℕ) → at < length noted → IsNotedAt noted other → IsNotedAt (set noted at (Some statement)) other
still_noted noted at statement other lt h = elim (cases_eq other at) [
  | inl is ↦ subst (λ (o : ℕ). IsNotedAt (set noted at (Some statement)) o) (sym is) (subst IsSome (sym (get_or-set_same noted at (Some statement) None lt)) refl)
  | inr differs ↦ subst IsSome (sym (get_or-set_other noted at other (Some statement) None differs)) h
]

-- where the receiver of the first one gets its note, the others are compared with the notes that there are then
first_noted : (tree : Forest Resolved) (noted after : List (Option ℕ)) (s : SingleMove) (ss : List SingleMove) → NotesFirst tree noted (occurrence_of s.receiver) after
    → ReceiveFirst tree after ss → ReceiveFirst tree noted (s ∷ ss)
first_noted tree noted after s ss h k =
    let x = occurrence_of s.receiver in
    let here : IsNotedAt after h.at = subst (λ (ns : List (Option ℕ)). IsNotedAt ns h.at) (sym h.first.made) (subst IsSome (sym (get_or-set_same noted h.at (Some h.statement) None h.first.within)) refl) in
    record {
      once = (k.fresh x (record { at = h.at; begins = h.begins; there = here }), k.once);
      fresh = λ y was e. elim e [
        | inl is ↦
            let same : h.at ≡ was.at = one_beginning tree y h.at was.at (subst (λ (z : Occurrence). BeginsAt tree z h.at) is h.begins) was.begins in
            let none : false ≡ true = subst (λ (o : Option ℕ). IsSome o) h.first.none (subst (λ (o : ℕ). IsNotedAt noted o) (sym same) was.there) in
            cc
        | inr again ↦ k.fresh y (record {
          at = was.at;
          begins = was.begins;
          there = subst (λ (ns : List (Option ℕ)). IsNotedAt ns was.at) (sym h.first.made) (still_noted noted h.at h.statement was.at h.first.within was.there);
        }) again
      ];
    }

-- ---- one by one

-- Those before are noted: if those that are left are compared with the notes that there are now, no occurrence receives twice in all.
abbrev pub Noted : Forest Resolved → List (Option ℕ) → List PlainSingle → List StatementMoves → Type 0
Noted tree now left all = (x : Reading) (r : Records) → ReceiveFirst tree now (map (single_between x r) left) → ReceiveOnce (singles_by x r all)

pub noted_none : (tree : Forest Resolved) (now : List (Option ℕ)) (left : List PlainSingle) (all : List StatementMoves) → left ≡ singles_of all → Noted tree now left all
noted_none tree now left all is x r h = subst ReceiveOnce (ap (map (single_between x r)) is ∙ sym (of_placed x r 0 all)) h.once

pub noted_next : (tree : Forest Resolved) (now after : List (Option ℕ)) (left later : List PlainSingle) (p : PlainSingle) (all : List StatementMoves) → left ≡ p ∷ later
    → NotesFirst tree now p.receiver after → Noted tree now left all → Noted tree after later all
noted_next tree now after left later p all is notes so x r h =
    so x r (subst (λ (ps : List PlainSingle). ReceiveFirst tree now (map (single_between x r) ps)) (sym is)
    (first_noted tree now after (single_between x r p) (map (single_between x r) later) notes h))

pub noted_all : (tree : Forest Resolved) (now : List (Option ℕ)) (left : List PlainSingle) (all : List StatementMoves) (x : Reading) (r : Records) → left ≡ [] → Noted tree now left all
    → ReceiveOnce (singles_by x r all)
noted_all tree now left all x r none so =
    so x r (subst (λ (ps : List PlainSingle). ReceiveFirst tree now (map (single_between x r) ps)) (sym none) (record { once = tt; fresh = λ y was e. e }))
