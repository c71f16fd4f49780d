-- The records of one file that came so far, one more, and the end.
use Rattle.std.proofs.Common.{◌≡◌, ℕ, List, [], ◌∷◌, ◌++◌, take, refl, sym, subst, ◌∙◌, None, Some, Option, Ok, Err}
use Rattle.cob_copybook_tree.specs.Forests.{Forest}
use Rattle.cob_copybook_tree.specs.Nodes.{Resolved}
use Rattle.cob_layout.specs.Storage.{greatest_length}
use Rattle.cob_records.specs.declared.records.Form.{Form}
use Rattle.cob_records.specs.declared.records.Form.TheVariants.{Fixed, Variable, Blocked}
use Rattle.cob_records.specs.Device.{Told}
use Rattle.cob_records.specs.Forms.{Come, ComesFirst, ReadsInForm}
use Rattle.cob_convert_stream.specs.declared.fault.Reason.{Reason}
use Rattle.cob_report_show.specs.Runs.{ReadsNext}
use Rattle.cob_report_compare.specs.Files.{CameBefore, CameSoFar, IsFileEnd, IsNotRead, IsReadStop}

-- ---- one reading behind another

told_both : (r0 r1 r2 : Option (List ℕ)) (P Q S : List ℕ → List ℕ → Type 0) → Told r0 r1 P → Told r1 r2 Q
    → ((bytes mid rest : List ℕ) → P bytes mid → Q mid rest → S bytes rest) → Told r0 r2 S
told_both None r1 r2 P Q S p q f = tt
told_both (Some xs) None r2 P Q S p q f = absurd p
told_both (Some xs) (Some mid) None P Q S p q f = absurd q
told_both (Some xs) (Some mid) (Some rest) P Q S p q f = f xs mid rest p q

told_as : (r0 r1 : Option (List ℕ)) (P Q : List ℕ → List ℕ → Type 0) → Told r0 r1 P → ((bytes rest : List ℕ) → P bytes rest → Q bytes rest) → Told r0 r1 Q
told_as None r1 P Q t f = tt
told_as (Some xs) None P Q t f = absurd t
told_as (Some xs) (Some ys) P Q t f = f xs ys t

pub came_none : (form : Form) (r : Option (List ℕ)) → CameSoFar form [] 0 r r
came_none form None = tt
came_none form (Some xs) = (refl, refl)

come_more : (form : Form) (start : ℕ) (records : List (List ℕ)) (body bytes : List ℕ) (mid : ℕ) (more : List ℕ) (after : ℕ) (rest : List ℕ)
    → Come form start records bytes mid more → ComesFirst form mid body more after rest → Come form start (records ++ body ∷ []) bytes after rest
come_more form start [] body bytes mid more after rest (same, is) first =
    (after, rest, subst (λ (xs : List ℕ). ComesFirst form start body xs after rest) (sym same) (subst (λ (k : ℕ). ComesFirst form k body more after rest) is first), (refl, refl))
come_more form start (b ∷ records) body bytes mid more after rest (k, behind, one, come) first =
    (k, behind, one, come_more form k records body behind mid more after rest come first)

pub came_more : (form : Form) (tree : Forest Resolved) (records : List (List ℕ)) (opened after count : ℕ) (slot : List ℕ) (r0 r1 r2 : Option (List ℕ)) → CameSoFar form records opened r0 r1
    → Told r1 r2 (ReadsNext form tree opened slot (Ok (Some count)) after) → CameSoFar form (records ++ take count slot ∷ []) after r0 r2
came_more form tree records opened after count slot r0 r1 r2 so_far next =
    told_both r0 r1 r2 _ (ReadsNext form tree opened slot (Ok (Some count)) after) (λ bytes rest. Come form 0 (records ++ take count slot ∷ []) bytes after rest) so_far next
    (λ bytes mid rest before first. come_more form 0 records (take count slot) bytes opened mid after rest before first)

-- without blocks none is open
at_end : (form : Form) (records : List (List ℕ)) (bytes : List ℕ) (opened : ℕ) (left slot rest : List ℕ) (after greatest start : ℕ) → start ≡ 0
    → Come form start records bytes opened left → ReadsInForm form greatest opened slot (Ok None) after left rest → (opened ≡ 0) × (left ≡ []) × (rest ≡ [])
at_end Fixed [] bytes opened left slot rest after greatest start shut (same, is) reads = (is ∙ shut, reads.0.0, reads.0.1)
at_end Fixed (b ∷ records) bytes opened left slot rest after greatest start shut (mid, more, (frame, is), come) reads =
    at_end Fixed records more opened left slot rest after greatest mid (is ∙ shut) come reads
at_end Variable [] bytes opened left slot rest after greatest start shut (same, is) reads = (is ∙ shut, reads.0.0, reads.0.1)
at_end Variable (b ∷ records) bytes opened left slot rest after greatest start shut (mid, more, (frame, is), come) reads =
    at_end Variable records more opened left slot rest after greatest mid (is ∙ shut) come reads
at_end (Blocked most) records bytes opened left slot rest after greatest start shut come (none, done, is, end) = (none, is, end)

pub came_end : (form : Form) (tree : Forest Resolved) (records : List (List ℕ)) (opened after : ℕ) (slot : List ℕ) (r0 r1 r2 : Option (List ℕ)) → CameSoFar form records opened r0 r1
    → Told r1 r2 (ReadsNext form tree opened slot (Ok None) after) → Told r0 r2 (CameBefore form records IsFileEnd)
came_end form tree records opened after slot r0 r1 r2 so_far next =
    told_both r0 r1 r2 _ (ReadsNext form tree opened slot (Ok None) after) (CameBefore form records IsFileEnd) so_far next
    (λ bytes left rest come p. record {
      opened = opened;
      left = left;
      come = come;
      behind = at_end form records bytes opened left slot rest after (greatest_length tree) 0 refl come p;
    })

pub came_stop : (form : Form) (tree : Forest Resolved) (records : List (List ℕ)) (opened after : ℕ) (why : Reason) (slot : List ℕ) (r0 r1 r2 : Option (List ℕ)) → CameSoFar form records opened r0 r1
    → Told r1 r2 (ReadsNext form tree opened slot (Err why) after) → Told r0 r2 (CameBefore form records (IsReadStop form tree why))
came_stop form tree records opened after why slot r0 r1 r2 so_far next =
    told_both r0 r1 r2 _ (ReadsNext form tree opened slot (Err why) after) (CameBefore form records (IsReadStop form tree why)) so_far next
    (λ bytes left rest come p. record { opened = opened; left = left; come = come; behind = (after, p) })

pub came_here : (form : Form) (records : List (List ℕ)) (opened : ℕ) (r0 r1 : Option (List ℕ)) → CameSoFar form records opened r0 r1 → Told r0 r1 (CameBefore form records IsNotRead)
came_here form records opened r0 r1 so_far =
    told_as r0 r1 _ (CameBefore form records IsNotRead) so_far (λ bytes rest come. record { opened = opened; left = rest; come = come; behind = refl })
