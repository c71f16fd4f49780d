-- The entries that are sought, one after the other.
use Rattle.std.proofs.Common.{◌≡◌, ℕ, ◌+◌, ◌<◌, true, false, ◌&&◌, List, [], ◌∷◌, ◌++◌, length, map, drop, get_or, refl, sym, ap, subst, ◌∙◌, arith, Option, Some, None, IfSome, is_some, filter, slice_get, Bor}
use Rattle.std.proofs.lemmas.List.{drop_more}
use Rattle.std.proofs.lemmas.List.Elements.{filter_agree}
use Rattle.std.proofs.lemmas.Option.{slice_get_read}
use Rattle.cob_copybook_names.specs.declared.bearer.Bearer.{Bearer as Listed}
use Rattle.cob_copybook_names.specs.Listed.{texts}
use Rattle.cob_copybook_names.specs.Naming.{Bearer}
use Rattle.cob_move_names.specs.Pairs.{same_names}
use Rattle.cob_report_partners.specs.Entries.{DraftEntry, listed_bearer}
use Rattle.cob_report_partners.specs.Groups.{AreGroups, below_record, has_group, names_group, names_there}
use Rattle.cob_report_partners.specs.Partners.{Shared as SharedNames, fitting, found_bearer, input_bearers, is_namesake, is_sought, output_bearers, those_sought}
use Rattle.cob_report_partners.specs.declared.entries.DraftEntry.{DraftEntry as ListedEntry}
use Rattle.cob_report_partners.specs.declared.groups.GroupNames.{GroupNames}
use Rattle.cob_report_partners.specs.declared.partners.Sought.{Sought}
use Rattle.cob_report_partners.specs.declared.partners.Sought.TheVariants as sought
use Rattle.cob_report_partners.specs.declared.records.BothRecords.{BothRecords}

-- what holds of what stands at a place holds of the entry that was read there
pub read_there : (P : Listed ListedEntry → Type 0) (bs : List (Listed ListedEntry)) (i : ℕ) (b : Listed ListedEntry) → i < length bs → b ≡ get_or bs i b → IfSome (slice_get bs i) P → P b
read_there P bs i b lt is holds = subst (λ (o : Option (Listed ListedEntry)). IfSome o P) (slice_get_read bs (length bs) i b refl lt is) holds

-- what was read in a list is in one that is the same
pub read_in : (bs cs : List (Listed ListedEntry)) (i : ℕ) (b : Listed ListedEntry) → cs ≡ bs → i < length cs → b ≡ get_or cs i b → (i < length bs) × (b ≡ get_or bs i b)
read_in bs cs i b same lt is = (subst (λ (xs : List (Listed ListedEntry)). i < length xs) same lt, subst (λ (xs : List (Listed ListedEntry)). b ≡ get_or xs i b) same is)

next_sought : (s : Sought) (r : BothRecords) (to : Bearer DraftEntry) (bs : List (Listed ListedEntry)) (i : ℕ) (b : Listed ListedEntry) → i < length bs → b ≡ get_or bs i b
    → those_sought s r to (map listed_bearer (drop i bs)) ≡ those_sought s r to (listed_bearer b ∷ map listed_bearer (drop (i + 1) bs))
next_sought s r to bs i b lt is =
    ap (λ (xs : List (Listed ListedEntry)). those_sought s r to (map listed_bearer xs)) (drop_more bs i b lt)
    ∙ ap (λ (x : Listed ListedEntry). those_sought s r to (listed_bearer x ∷ map listed_bearer (drop (i + 1) bs))) (sym is)

taken : (s : Sought) (r : BothRecords) (to b : Bearer DraftEntry) (bs : List (Bearer DraftEntry)) → is_sought s r to b ≡ true → those_sought s r to (b ∷ bs) ≡ b ∷ those_sought s r to bs
taken s r to b bs is = rw is refl

left_out : (s : Sought) (r : BothRecords) (to b : Bearer DraftEntry) (bs : List (Bearer DraftEntry)) → is_sought s r to b ≡ false → those_sought s r to (b ∷ bs) ≡ those_sought s r to bs
left_out s r to b bs is = rw is refl

-- the second that is sought
pub sought_twice : (s : Sought) (r : BothRecords) (to : Bearer DraftEntry) (all : List (Bearer DraftEntry)) (bs : List (Listed ListedEntry)) (i : ℕ) (b : Listed ListedEntry)
    (found : Option (Bor (Listed ListedEntry))) → i < length bs → b ≡ get_or bs i b → is_sought s r to (listed_bearer b) ≡ true → is_some found ≡ true
    → all ≡ found_bearer found ++ those_sought s r to (map listed_bearer (drop i bs)) → 1 < length all
sought_twice s r to all bs i b None lt is test some so = absurd (cc)
sought_twice s r to all bs i b (Some first) lt is test some so =
    let long = ap length (next_sought s r to bs i b lt is ∙ taken s r to (listed_bearer b) (map listed_bearer (drop (i + 1) bs)) test) in
    let whole = ap length so in
    omega (arith, long, whole)

-- the first
pub sought_once : (s : Sought) (r : BothRecords) (to : Bearer DraftEntry) (all : List (Bearer DraftEntry)) (bs : List (Listed ListedEntry)) (i : ℕ) (b : Listed ListedEntry)
    (found : Option (Bor (Listed ListedEntry))) → i < length bs → b ≡ get_or bs i b → is_sought s r to (listed_bearer b) ≡ true → is_some found ≡ false
    → all ≡ found_bearer found ++ those_sought s r to (map listed_bearer (drop i bs))
    → all ≡ (listed_bearer b ∷ []) ++ those_sought s r to (map listed_bearer (drop (i + 1) bs))
sought_once s r to all bs i b None lt is test none so = so ∙ next_sought s r to bs i b lt is ∙ taken s r to (listed_bearer b) (map listed_bearer (drop (i + 1) bs)) test
sought_once s r to all bs i b (Some first) lt is test none so = absurd (cc)

-- one that is not sought
pub sought_not : (s : Sought) (r : BothRecords) (to : Bearer DraftEntry) (all : List (Bearer DraftEntry)) (bs : List (Listed ListedEntry)) (i : ℕ) (b : Listed ListedEntry)
    (found : List (Bearer DraftEntry)) → i < length bs → b ≡ get_or bs i b → is_sought s r to (listed_bearer b) ≡ false
    → all ≡ found ++ those_sought s r to (map listed_bearer (drop i bs))
    → all ≡ found ++ those_sought s r to (map listed_bearer (drop (i + 1) bs))
sought_not s r to all bs i b found lt is test so =
    so ∙ ap (λ (t : List (Bearer DraftEntry)). found ++ t) (next_sought s r to bs i b lt is ∙ left_out s r to (listed_bearer b) (map listed_bearer (drop (i + 1) bs)) test)

-- the names of an item that groups of the input record have, by those that are noted
pub shared_names : (groups : GroupNames) (r : BothRecords) (to : Bearer DraftEntry) (names : Bor (List (Bor (List ℕ)))) → AreGroups (input_bearers r) groups
    → texts names.now ≡ filter (has_group groups) (below_record to.above)
    → those_sought (sought.Shared names) r to (input_bearers r) ≡ fitting SharedNames r to (input_bearers r)
shared_names groups r to names are is =
    ap (λ (ns : List (List ℕ)). filter (λ (b : Bearer DraftEntry). is_namesake to b && same_names ns (names_there (output_bearers r) (below_record b.above))) (input_bearers r))
    (is ∙ filter_agree (has_group groups) (names_group (input_bearers r)) are (below_record to.above))
