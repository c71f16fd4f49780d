-- The entries that a name names, from the last one that bears it to the one before it, and so on.
use Rattle.std.proofs.Common.{◌≡◌, ℕ, zero, suc, ◌<◌, ◌≤◌, Bool, true, false, ◌&&◌, List, [], ◌∷◌, ◌++◌, length, get_or, map, take, refl, sym, ap, subst, ◌∙◌, arith, Option, Some, None, is_some, Bor, append_assoc, append-nil, length-append, add-one}
use Rattle.std.proofs.Math.Seq.{take-length}
use Rattle.std.proofs.lemmas.List.{get_or_default, length-map}
use Rattle.std.proofs.lemmas.List.Elements.{filter-append}
use Rattle.std.proofs.lemmas.Slice.Eq.{bytes_eq-Decides}
use Rattle.cob_copybook_names.specs.Links.{AreLinked, BearsAt, IsLast, entries_up_to}
use Rattle.cob_copybook_names.proofs.Links.{differs}
use Rattle.cob_copybook_names.specs.declared.bearer.Bearer.{Bearer as Listed}
use Rattle.cob_copybook_names.specs.Naming.{Bearer, IsNameFault, has_name, is_named, named, own_names, qualifies}
use Rattle.cob_copybook_names.specs.Listed.{bearer_by, found_list, seen}
use Rattle.cob_copybook_names.specs.declared.fault.NameFault.{NameFault}
use Rattle.cob_copybook_names.specs.declared.fault.NameFault.TheVariants.{Unknown, Ambiguous}

-- an entry that bears the name is named where it is qualified
borne : (name : List ℕ) (own : Option (List ℕ)) → own ≡ Some name → has_name name own ≡ true
borne name own is = ap (has_name name) is ∙ (bytes_eq-Decides name name).1 refl

pub named_by : {E : Type 0} (name : List ℕ) (qs : List (List ℕ)) (c : Bearer E) → c.name ≡ Some name → is_named name qs c ≡ qualifies qs c.above
named_by name qs c is = ap (λ (b : Bool). b && qualifies qs c.above) (borne name c.name is)

-- one that doesn't isn't
not_borne : (name : List ℕ) (own : Option (List ℕ)) → (own ≡ Some name → ⊥) → has_name name own ≡ false
not_borne name None ne = refl
not_borne name (Some own) ne = differs own name (λ e. ne (ap (λ (n : List ℕ). Some n) e))

unnamed : {E : Type 0} (name : List ℕ) (qs : List (List ℕ)) (c : Bearer E) → (c.name ≡ Some name → ⊥) → is_named name qs c ≡ false
unnamed name qs c ne = ap (λ (b : Bool). b && qualifies qs c.above) (not_borne name c.name ne)

abbrev pub only_if : {E : Type 0} → Bool → Bearer E → List (Bearer E)
only_if true c = c ∷ []
only_if false c = []

named_one : {E : Type 0} (name : List ℕ) (qs : List (List ℕ)) (c : Bearer E) (t : Bool) → is_named name qs c ≡ t → named name qs (c ∷ []) ≡ only_if t c
named_one name qs c true e = rw e refl
named_one name qs c false e = rw e refl

named_skip : {E : Type 0} (name : List ℕ) (qs : List (List ℕ)) (c : Bearer E) (cs : List (Bearer E)) → is_named name qs c ≡ false → named name qs (c ∷ cs) ≡ named name qs cs
named_skip name qs c cs e = rw e refl

named_both : {E : Type 0} (name : List ℕ) (qs : List (List ℕ)) (c : Bearer E) (xs ys : List (Bearer E)) (t : Bool) → is_named name qs c ≡ t → named name qs xs ≡ named name qs ys → named name qs (c ∷ xs) ≡ named name qs (c ∷ ys)
named_both {E} name qs c xs ys true e h = rw e (ap (λ (t : List (Bearer E)). c ∷ t) h)
named_both name qs c xs ys false e h = rw e h

-- none of the entries from p to k bears the name
abbrev pub Gap : {E : Type 0} → List ℕ → List (Bearer E) → ℕ → ℕ → Type 0
Gap name all p k = (j : ℕ) → p ≤ j → j < k → BearsAt (own_names all) name j → ⊥

gap_behind : {E : Type 0} (name : List ℕ) (c : Bearer E) (all : List (Bearer E)) (p k : ℕ) → Gap name (c ∷ all) (suc p) (suc k) → Gap name all p k
gap_behind name c all p k g = λ j le lt h. g (suc j) (omega (arith, le)) (omega (arith, lt)) h

gap_all : {E : Type 0} (name : List ℕ) (c : Bearer E) (all : List (Bearer E)) (k : ℕ) → Gap name (c ∷ all) zero (suc k) → Gap name all zero k
gap_all name c all k g = λ j le lt h. g (suc j) (omega arith) (omega (arith, lt)) h

-- a gap names nothing
named_gap : {E : Type 0} (name : List ℕ) (qs : List (List ℕ)) (all : List (Bearer E)) (p k : ℕ) → p ≤ k → Gap name all p k → named name qs (take k all) ≡ named name qs (take p all)
named_gap name qs all zero zero le g = refl
named_gap name qs all (suc p) zero le g = absurd (omega (arith, le))
named_gap name qs [] zero (suc k) le g = refl
named_gap name qs [] (suc p) (suc k) le g = refl
named_gap name qs (c ∷ all) zero (suc k) le g =
    named_skip name qs c (take k all) (unnamed name qs c (λ e. g 0 (omega arith) (omega arith) e)) ∙ named_gap name qs all zero k (omega arith) (gap_all name c all k g)
named_gap name qs (c ∷ all) (suc p) (suc k) le g =
    named_both name qs c (take k all) (take p all) (is_named name qs c) refl (named_gap name qs all p k (omega (arith, le)) (gap_behind name c all p k g))

-- a walk begins at the last entry that bears the name
pub walk_start : {E : Type 0} (name : List ℕ) (qs : List (List ℕ)) (all : List (Bearer E)) (n : ℕ) (place : Option ℕ) → length all ≡ n → IsLast (own_names all) name n place
    → named name qs all ≡ named name qs (take (entries_up_to place) all) ++ []
walk_start {E} name qs all n place is l =
    ap (λ (cs : List (Bearer E)). named name qs cs) (sym (take-length all) ∙ ap (λ (k : ℕ). take k all) is)
    ∙ named_gap name qs all (entries_up_to place) n l.before l.others ∙ sym (append-nil (named name qs (take (entries_up_to place) all)))

-- where it stands
pub walk_at : {E : Type 0} (name : List ℕ) (qs : List (List ℕ)) (all : List (Bearer E)) (place : Option ℕ) (p : ℕ) (c : Bearer E) (t : Bool) (rest : List (Bearer E))
    → take (entries_up_to place) all ≡ take p all ++ c ∷ [] → c.name ≡ Some name → qualifies qs c.above ≡ t
    → named name qs all ≡ named name qs (take (entries_up_to place) all) ++ rest → named name qs all ≡ named name qs (take p all) ++ (only_if t c ++ rest)
walk_at {E} name qs all place p c t rest front bears test so =
    so ∙ ap (λ (cs : List (Bearer E)). named name qs cs ++ rest) front
    ∙ ap (λ (cs : List (Bearer E)). cs ++ rest)
    (filter-append (λ x. is_named name qs x) (take p all) (c ∷ []) ∙ ap (λ (cs : List (Bearer E)). named name qs (take p all) ++ cs) (named_one name qs c t (named_by name qs c bears ∙ test)))
    ∙ append_assoc (named name qs (take p all)) (only_if t c) rest

-- and goes on to the one before it
pub walk_step : {E : Type 0} (name : List ℕ) (qs : List (List ℕ)) (all : List (Bearer E)) (place next : Option ℕ) (p : ℕ) (c : Bearer E) (t : Bool) (rest : List (Bearer E))
    → take (entries_up_to place) all ≡ take p all ++ c ∷ [] → IsLast (own_names all) name p next → c.name ≡ Some name → qualifies qs c.above ≡ t
    → named name qs all ≡ named name qs (take (entries_up_to place) all) ++ rest → named name qs all ≡ named name qs (take (entries_up_to next) all) ++ (only_if t c ++ rest)
walk_step {E} name qs all place next p c t rest front l bears test so =
    walk_at name qs all place p c t rest front bears test so
    ∙ ap (λ (cs : List (Bearer E)). cs ++ (only_if t c ++ rest)) (named_gap name qs all (entries_up_to next) p l.before l.others)

-- the first that is named
pub walk_meet : {E : Type 0} (name : List ℕ) (qs : List (List ℕ)) (all : List (Bearer E)) (next : Option ℕ) (c : Bor (Listed E)) (found : Option (Bor (Listed E))) → is_some found ≡ false
    → named name qs all ≡ named name qs (take (entries_up_to next) all) ++ (only_if true (seen c.now) ++ found_list found)
    → named name qs all ≡ named name qs (take (entries_up_to next) all) ++ found_list (Some c)
walk_meet name qs all next c None none h = h
walk_meet name qs all next c (Some d) none h = absurd cc

-- the second
pub walk_twice : {E : Type 0} (all front : List (Bearer E)) (c : Bearer E) (found : Option (Bor (Listed E))) → is_some found ≡ true → all ≡ front ++ (only_if true c ++ found_list found) → 1 < length all
walk_twice all front c None some h = absurd cc
walk_twice all front c (Some d) some h = omega (arith, ap length h, length-append front (c ∷ seen d.now ∷ []))

-- the name at a place is that of the entry there
pub name_at : {E : Type 0} (cs : List (Listed E)) (i : ℕ) (c : Listed E) → i < length cs → c ≡ get_or cs i c → get_or (own_names (map seen cs)) i None ≡ (seen c).name
name_at [] i c lt is = absurd (omega (arith, lt))
name_at {E} (x ∷ cs) zero c lt is = ap (λ (y : Listed E). (seen y).name) (sym is)
name_at (x ∷ cs) (suc i) c lt is = name_at cs i c (omega (arith, lt)) is

-- the entries up to a place are those before it and the one there
take_here : {E : Type 0} (cs : List (Listed E)) (p : ℕ) (c : Listed E) → p < length cs → c ≡ get_or cs p c → take (suc p) (map seen cs) ≡ take p (map seen cs) ++ seen c ∷ []
take_here [] p c lt is = absurd (omega (arith, lt))
take_here {E} (x ∷ cs) zero c lt is = ap (λ (y : Listed E). seen y ∷ []) (sym is)
take_here {E} (x ∷ cs) (suc p) c lt is = ap (λ (t : List (Bearer E)). seen x ∷ t) (take_here cs p c (omega (arith, lt)) is)

pub front_at : {E : Type 0} (cs : List (Listed E)) (place : Option ℕ) (p : ℕ) (c : Listed E) → place ≡ Some p → p < length cs → c ≡ get_or cs p c
    → take (entries_up_to place) (map seen cs) ≡ take p (map seen cs) ++ seen c ∷ []
front_at cs place p c is lt read = ap (λ (o : Option ℕ). take (entries_up_to o) (map seen cs)) is ∙ rw add-one (take_here cs p c lt read)

pub inside_at : (place : Option ℕ) (p n : ℕ) → place ≡ Some p → entries_up_to place ≤ n → p < n
inside_at place p n is le = let within : entries_up_to (Some p) ≤ n = subst (λ (o : Option ℕ). entries_up_to o ≤ n) is le in omega (arith, within)

-- the place before this one
pub link_at : {E : Type 0} (cs : List (Listed E)) (earlier : List (Option ℕ)) (name : List ℕ) (place : Option ℕ) (p : ℕ) (e : Option ℕ) → length earlier ≡ length cs
    → AreLinked (own_names (map seen cs)) earlier (length cs) → place ≡ Some p → p < length cs → BearsAt (own_names (map seen cs)) name p → e ≡ get_or earlier p e
    → IsLast (own_names (map seen cs)) name p e
link_at cs earlier name place p e sized linked is lt bears read =
    subst (IsLast (own_names (map seen cs)) name p) (get_or_default earlier p None e (omega (arith, sized, lt)) ∙ sym read) (linked p name lt bears)

-- what is known of entries besides their names changes nothing in which of them are named
abbrev pub knowing : {E A : Type 0} → (E → A) → Bearer E → Bearer A
knowing known b = record { name = b.name; above = b.above; entry = known b.entry }

knowing_step : {E A : Type 0} (known : E → A) (name : List ℕ) (qs : List (List ℕ)) (b : Bearer E) (bs : List (Bearer E)) (t : Bool) → is_named name qs b ≡ t
    → named name qs (map (knowing known) bs) ≡ map (knowing known) (named name qs bs) → named name qs (map (knowing known) (b ∷ bs)) ≡ map (knowing known) (named name qs (b ∷ bs))
knowing_step {E} {A} known name qs b bs true e h = rw e (ap (λ (t : List (Bearer A)). knowing known b ∷ t) h)
knowing_step known name qs b bs false e h = rw e h

named_knowing : {E A : Type 0} (known : E → A) (name : List ℕ) (qs : List (List ℕ)) (bs : List (Bearer E)) → named name qs (map (knowing known) bs) ≡ map (knowing known) (named name qs bs)
named_knowing known name qs [] = refl
named_knowing known name qs (b ∷ bs) = knowing_step known name qs b bs (is_named name qs b) refl (named_knowing known name qs bs)

knowing_seen : {E A : Type 0} (known : E → A) (bs : List (Listed E)) → map (bearer_by known) bs ≡ map (knowing known) (map seen bs)
knowing_seen known [] = refl
knowing_seen {E} {A} known (b ∷ bs) = ap (λ (t : List (Bearer A)). bearer_by known b ∷ t) (knowing_seen known bs)

-- the listed entries that are named, by what is known of them
pub named_known : {E A : Type 0} (known : E → A) (name : List ℕ) (qs : List (List ℕ)) (bs : List (Listed E)) → named name qs (map (bearer_by known) bs) ≡ map (knowing known) (named name qs (map seen bs))
named_known {E} {A} known name qs bs = ap (λ (all : List (Bearer A)). named name qs all) (knowing_seen known bs) ∙ named_knowing known name qs (map seen bs)

-- the one that is named
pub known_one : {E A : Type 0} (known : E → A) (name : List ℕ) (qs : List (List ℕ)) (bs : List (Listed E)) (b : Listed E) → named name qs (map seen bs) ≡ seen b ∷ [] → named name qs (map (bearer_by known) bs) ≡ bearer_by known b ∷ []
known_one {E} known name qs bs b is = named_known known name qs bs ∙ ap (λ (all : List (Bearer E)). map (knowing known) all) is

-- why none is
pub known_fault : {E A : Type 0} (known : E → A) (name : List ℕ) (qs : List (List ℕ)) (bs : List (Listed E)) (fault : NameFault) → IsNameFault fault (named name qs (map seen bs)) → IsNameFault fault (named name qs (map (bearer_by known) bs))
known_fault {E} known name qs bs Unknown is = named_known known name qs bs ∙ ap (λ (all : List (Bearer E)). map (knowing known) all) is
known_fault known name qs bs Ambiguous is =
    let same = ap length (named_known known name qs bs) ∙ length-map (named name qs (map seen bs)) (knowing known) in
    omega (arith, same, is)
