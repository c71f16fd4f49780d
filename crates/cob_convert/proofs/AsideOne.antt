-- What a run that sets rejected records aside writes, sets aside, notes and answers is determined.
use Rattle.std.proofs.Common.{◌≡◌, ℕ, ◌+◌, ◌<◌, ◌≤◌, Bool, true, false, ◌||◌, List, [], ◌∷◌, ◌++◌, length, refl, sym, subst, ◌∙◌, ap, append_assoc, append-nil, arith, inl, inr, Option, Result}
use Rattle.std.proofs.Math.ListN.{length-append}
use Rattle.std.proofs.lemmas.Grind.{flat_map-append}
use Rattle.std.specs.List.{AllByRecursion}
use Rattle.std.specs.Io.KnownBytes.{append_known}
use Rattle.cob_records.specs.Forms.{Come, ComesFirst, NextIsOne, written_of}
use Rattle.cob_records.specs.Frame.{IsRecord}
use Rattle.cob_convert_record.specs.Laws.{ConversionsAreDecided}
use Rattle.cob_convert_record.specs.Conversion.{Conversion, in_length}
use Rattle.cob_convert_stream.specs.declared.fault.Reason.{Reason}
use Rattle.cob_convert_stream.specs.declared.fault.RunFault.{RunFault}
use Rattle.cob_convert_stream.specs.Reasons.{frame_reason, is_read_cause, is_write_cause, misfit_reason}
use Rattle.cob_convert.specs.declared.aside.AsideFault.{AsideFault}
use Rattle.cob_convert.specs.declared.aside.AsideOutcome.{AsideOutcome}
use Rattle.cob_convert.specs.declared.aside.AsideOutcome.TheVariants as ending
use Rattle.cob_convert.specs.declared.aside.Tally.{Tally}
use Rattle.cob_convert_record.specs.Reasons.{stop_reason}
use Rattle.cob_convert.specs.Run.{IsConverted, most_records}
use Rattle.cob_convert.specs.Outcomes.{Became, ByConversion, ByLayout, HasItsOutcome, HasOutcome, IsRejected, Outcome, WasRejected, append_notes, converted_of, inputs_of, notes_of, rejected_of, rejected_part, set_aside_of}
use Rattle.cob_convert.specs.Aside.{EndsUnwritten, EndsWritten, IsOverAside, Outputs, RanAside, answer_over, count_of, is_aside_fault, is_read_fault, is_sink_fault, tally_of}
use Rattle.cob_convert.specs.AsideLaws.{AsideIsOne, is_device_fault}
use Rattle.cob_convert.proofs.Carried.{put_kind, remains}
use Rattle.cob_convert.proofs.One.{IsSettled, end_not_refused, is_settled, not_ended, not_refused, one_first, one_frame, read_works, same_refusal}

-- ---- what became of a record is one

converted_or_rejected : (conversion : Conversion) (input written : List ℕ) (why : Reason) → IsSettled conversion → IsConverted conversion (input, written)
    → IsRejected conversion input why → ⊥
converted_or_rejected conversion input written why settled p (ByLayout (misfit, misfits, is)) = settled.fits_or_not input misfit p.sized misfits
converted_or_rejected conversion input written why settled p (ByConversion stop sized stops is) = settled.not_both input written stop p.converts stops

one_reason : (conversion : Conversion) (input : List ℕ) (why reason : Reason) → IsSettled conversion → IsRejected conversion input why → IsRejected conversion input reason → why ≡ reason
one_reason conversion input why reason settled (ByLayout (a, p, is)) (ByLayout (b, q, also)) =
    is ∙ ap misfit_reason (settled.one_misfit input a b p q) ∙ sym also
one_reason conversion input why reason settled (ByLayout (a, p, is)) (ByConversion t sized q also) = absurd (settled.fits_or_not input a sized p)
one_reason conversion input why reason settled (ByConversion s sized p is) (ByLayout (b, q, also)) = absurd (settled.fits_or_not input b sized q)
one_reason conversion input why reason settled (ByConversion s sized p is) (ByConversion t fits q also) =
    is ∙ ap stop_reason (settled.one_stop input s t p q) ∙ sym also

one_outcome : (conversion : Conversion) (input : List ℕ) (a b : Outcome) → IsSettled conversion → HasOutcome conversion input a → HasOutcome conversion input b → a ≡ b
one_outcome conversion input (Became a) (Became b) settled p q = ap Became (settled.one_output input a b p.converts q.converts)
one_outcome conversion input (Became a) (WasRejected b) settled p (whole, q) = absurd (converted_or_rejected conversion input a b settled p q)
one_outcome conversion input (WasRejected a) (Became b) settled (whole, p) q = absurd (converted_or_rejected conversion input b a settled q p)
one_outcome conversion input (WasRejected a) (WasRejected b) settled (whole, p) (same, q) = ap WasRejected (one_reason conversion input a b settled p q)

whole_of : (conversion : Conversion) (input : List ℕ) (a : Outcome) → HasOutcome conversion input a → IsRecord conversion.in_form (in_length conversion) input
whole_of conversion input (Became written) p = p.whole
whole_of conversion input (WasRejected why) (whole, p) = whole

-- ---- why a run is over

-- why a run is over is no device that failed
abbrev pub IsWorking : AsideOutcome → Type 0
IsWorking ending.Done = Unit {0}
IsWorking (ending.Stopped why) = (is_read_cause why.cause ≡ false) × (is_write_cause why.cause ≡ false)
IsWorking (ending.NotSetAside cause) = ⊥

or_false : (a b : Bool) → (a || b) ≡ false → (a ≡ false) × (b ≡ false)
or_false true b e = absurd (cc)
or_false false b e = (refl, e)

pub working : (why : AsideOutcome) (t : Tally) (n w : ℕ) (answer : Result Tally AsideFault) → answer ≡ answer_over t n w why → is_device_fault answer ≡ false → IsWorking why
working ending.Done t n w answer is e = tt
working (ending.Stopped why) t n w answer is e =
    let (unread, others) = or_false (is_read_fault answer) (is_sink_fault answer || is_aside_fault answer) e in
    let (unwritten, kept) = or_false (is_sink_fault answer) (is_aside_fault answer) others in
    (sym (ap is_read_fault is) ∙ unread, sym (ap is_sink_fault is) ∙ unwritten)
working (ending.NotSetAside cause) t n w answer is e =
    let (unread, others) = or_false (is_read_fault answer) (is_sink_fault answer || is_aside_fault answer) e in
    let (unwritten, kept) = or_false (is_sink_fault answer) (is_aside_fault answer) others in
    let failed : is_aside_fault answer ≡ true = ap is_aside_fault is in
    cc

pub not_unwritten : (conversion : Conversion) (most : ℕ) (records : List (List ℕ × Outcome)) (opened : ℕ) (left rest written part : List ℕ) (answer : Result Tally AsideFault)
    → EndsUnwritten conversion most records (remains opened left rest) written part answer → is_device_fault answer ≡ false → ⊥
not_unwritten conversion most records opened left rest written part answer ends e =
    let (unread, others) = or_false (is_read_fault answer) (is_sink_fault answer || is_aside_fault answer) e in
    let (unwritten, kept) = or_false (is_sink_fault answer) (is_aside_fault answer) others in
    let failed : is_sink_fault answer ≡ true = ap is_sink_fault ends.is ∙ (put_kind ends.bytes ends.part ends.cause ends.puts).0 in
    cc

over_within : (conversion : Conversion) (most : ℕ) (records : List (List ℕ × Outcome)) (opened : ℕ) (left rest part : List ℕ) (why : AsideOutcome)
    → IsOverAside conversion most records (remains opened left rest) part why → length records ≤ most_records
over_within conversion most records opened left rest part ending.Done (ends, none) = omega (arith, ends.below)
over_within conversion most records opened left rest part (ending.Stopped why) (inl limit, none) = omega (arith, limit.limit)
over_within conversion most records opened left rest part (ending.Stopped why) (inr (low, stops), none) = omega (arith, low)
over_within conversion most records opened left rest part (ending.NotSetAside cause) stops = omega (arith, stops.below)

-- of no record a part was set aside
part_none : (conversion : Conversion) (most : ℕ) (records : List (List ℕ × Outcome)) (opened : ℕ) (left rest part : List ℕ) (why : AsideOutcome)
    → IsOverAside conversion most records (remains opened left rest) part why → IsWorking why → part ≡ []
part_none conversion most records opened left rest part ending.Done (ends, none) works = none
part_none conversion most records opened left rest part (ending.Stopped why) (stops, none) works = none
part_none conversion most records opened left rest part (ending.NotSetAside cause) stops works = absurd works

rejected_one : (came : List ℕ × Outcome) (why : Reason) → came.1 ≡ WasRejected why → length (rejected_part came.0 came.1) ≡ 1
rejected_one came why e = ap (λ (outcome : Outcome). length (rejected_part came.0 outcome)) e

-- where a record comes that is converted, or may be set aside, a run goes on
goes_on : (conversion : Conversion) (most : ℕ) (records : List (List ℕ × Outcome)) (opened : ℕ) (left rest part : List ℕ) (why : AsideOutcome) (came : List ℕ × Outcome) (after : ℕ) (more : List ℕ)
    → IsSettled conversion → length records < most_records → HasItsOutcome conversion came → length (rejected_of records) + length (rejected_part came.0 came.1) ≤ most
    → ComesFirst conversion.in_form opened came.0 left after more → IsOverAside conversion most records (remains opened left rest) part why → IsWorking why → ⊥
goes_on conversion most records opened left rest part ending.Done came after more settled below one few first (ends, none) works =
    not_ended conversion (length records) opened came.0 left after more rest settled (whole_of conversion came.0 came.1 one) first ends
goes_on conversion most records opened left rest part (ending.Stopped why) came after more settled below one few first (inl limit, none) works = omega (arith, below, limit.limit)
goes_on conversion most records opened left rest part (ending.Stopped why) came after more settled below one few first (inr (low, inl reads), none) works =
    not_refused conversion opened came.0 left after reads.after more rest reads.fault settled (whole_of conversion came.0 came.1 one) first reads.reads
    (read_works why reads.fault reads.reason works.0)
goes_on conversion most records opened left rest part (ending.Stopped why) came after more settled below one few first (inr (low, inr rejects), none) works =
    let (inputs, afters, rests) = one_first conversion opened came.0 rejects.input left after rejects.came.after more rest settled (whole_of conversion came.0 came.1 one) rejects.came.whole first rejects.came.frame in
    let rejected : IsRejected conversion came.0 why = subst (λ (input : List ℕ). IsRejected conversion input why) (sym inputs) rejects.rejected in
    let same : came.1 ≡ WasRejected why = one_outcome conversion came.0 came.1 (WasRejected why) settled one (whole_of conversion came.0 came.1 one, rejected) in
    omega (arith, few, rejects.all, rejected_one came why same)
goes_on conversion most records opened left rest part (ending.NotSetAside cause) came after more settled below one few first stops works = works

-- a run is over for one reason
over_one : (conversion : Conversion) (most : ℕ) (records : List (List ℕ × Outcome)) (opened : ℕ) (left rest other part side : List ℕ) (why reason : AsideOutcome) → IsSettled conversion
    → IsOverAside conversion most records (remains opened left rest) part why → IsOverAside conversion most records (remains opened left other) side reason → IsWorking why → IsWorking reason
    → (why ≡ reason) × (rest ≡ other)
over_one conversion most records opened left rest other part side ending.Done ending.Done settled (p, none) (q, nil) u v = (refl, p.rest ∙ sym q.rest)
over_one conversion most records opened left rest other part side ending.Done (ending.Stopped reason) settled (p, none) (inl q, nil) u v = absurd (omega (arith, p.below, q.limit))
over_one conversion most records opened left rest other part side ending.Done (ending.Stopped reason) settled (p, none) (inr (low, inl q), nil) u v =
    absurd (end_not_refused conversion (length records) opened left q.after rest other q.fault settled p q.reads (read_works reason q.fault q.reason v.0))
over_one conversion most records opened left rest other part side ending.Done (ending.Stopped reason) settled (p, none) (inr (low, inr q), nil) u v =
    absurd (not_ended conversion (length records) opened q.input left q.came.after other rest settled q.came.whole q.came.frame p)
over_one conversion most records opened left rest other part side (ending.Stopped why) ending.Done settled (inl p, none) (q, nil) u v = absurd (omega (arith, q.below, p.limit))
over_one conversion most records opened left rest other part side (ending.Stopped why) ending.Done settled (inr (low, inl p), none) (q, nil) u v =
    absurd (end_not_refused conversion (length records) opened left p.after other rest p.fault settled q p.reads (read_works why p.fault p.reason u.0))
over_one conversion most records opened left rest other part side (ending.Stopped why) ending.Done settled (inr (low, inr p), none) (q, nil) u v =
    absurd (not_ended conversion (length records) opened p.input left p.came.after rest other settled p.came.whole p.came.frame q)
over_one conversion most records opened left rest other part side (ending.Stopped why) (ending.Stopped reason) settled (inl p, none) (inl q, nil) u v =
    (ap ending.Stopped (p.reason ∙ sym q.reason), p.unread ∙ sym q.unread)
over_one conversion most records opened left rest other part side (ending.Stopped why) (ending.Stopped reason) settled (inl p, none) (inr (low, q), nil) u v = absurd (omega (arith, low, p.limit))
over_one conversion most records opened left rest other part side (ending.Stopped why) (ending.Stopped reason) settled (inr (low, p), none) (inl q, nil) u v = absurd (omega (arith, low, q.limit))
over_one conversion most records opened left rest other part side (ending.Stopped why) (ending.Stopped reason) settled (inr (low, inl p), none) (inr (less, inl q), nil) u v =
    let (faults, tails) = same_refusal conversion p.fault q.fault opened left p.after q.after rest other settled p.reads q.reads
    (read_works why p.fault p.reason u.0) (read_works reason q.fault q.reason v.0) in
    (ap ending.Stopped (p.reason ∙ ap frame_reason faults ∙ sym q.reason), tails)
over_one conversion most records opened left rest other part side (ending.Stopped why) (ending.Stopped reason) settled (inr (low, inl p), none) (inr (less, inr q), nil) u v =
    absurd (not_refused conversion opened q.input left q.came.after p.after other rest p.fault settled q.came.whole q.came.frame p.reads (read_works why p.fault p.reason u.0))
over_one conversion most records opened left rest other part side (ending.Stopped why) (ending.Stopped reason) settled (inr (low, inr p), none) (inr (less, inl q), nil) u v =
    absurd (not_refused conversion opened p.input left p.came.after q.after rest other q.fault settled p.came.whole p.came.frame q.reads (read_works reason q.fault q.reason v.0))
over_one conversion most records opened left rest other part side (ending.Stopped why) (ending.Stopped reason) settled (inr (low, inr p), none) (inr (less, inr q), nil) u v =
    let (inputs, tails) = one_frame conversion opened left p.input q.input rest other settled p.came q.came in
    let also : IsRejected conversion p.input reason = subst (λ (input : List ℕ). IsRejected conversion input reason) (sym inputs) q.rejected in
    (ap ending.Stopped (one_reason conversion p.input why reason settled p.rejected also), tails)
over_one conversion most records opened left rest other part side (ending.NotSetAside cause) reason settled p q u v = absurd u
over_one conversion most records opened left rest other part side ending.Done (ending.NotSetAside cause) settled p q u v = absurd v
over_one conversion most records opened left rest other part side (ending.Stopped why) (ending.NotSetAside cause) settled p q u v = absurd v

-- ---- the records are the same

pair_is : (x y : List ℕ × Outcome) → x.0 ≡ y.0 → x.1 ≡ y.1 → x ≡ y
pair_is (a, s) (b, t) e f = rw (e, f) refl

rejected_parts : (front : List (List ℕ × Outcome)) (came : List ℕ × Outcome) (records : List (List ℕ × Outcome))
    → length (rejected_of (front ++ came ∷ records)) ≡ length (rejected_of front) + (length (rejected_part came.0 came.1) + length (rejected_of records))
rejected_parts front came records =
    ap length (flat_map-append (λ (x : List ℕ × Outcome). rejected_part x.0 x.1) front (came ∷ records))
    ∙ length-append (rejected_of front) (rejected_part came.0 came.1 ++ rejected_of records)
    ∙ ap (λ (n : ℕ). length (rejected_of front) + n) (length-append (rejected_part came.0 came.1) (rejected_of records))

-- a further record may be set aside, where it is among those of a run
few_with : (most : ℕ) (front : List (List ℕ × Outcome)) (came : List ℕ × Outcome) (records all these : List (List ℕ × Outcome)) → all ≡ front ++ came ∷ records → these ≡ front ++ []
    → length (rejected_of all) ≤ most → length (rejected_of these) + length (rejected_part came.0 came.1) ≤ most
few_with most front came records all these e f within =
    omega (
      arith,
      within,
      ap (λ (xs : List (List ℕ × Outcome)). length (rejected_of xs)) e,
      rejected_parts front came records,
      ap (λ (xs : List (List ℕ × Outcome)). length (rejected_of xs)) (f ∙ append-nil front),
    )

low_with : (front : List (List ℕ × Outcome)) (came : List ℕ × Outcome) (records all these : List (List ℕ × Outcome)) → all ≡ front ++ came ∷ records → these ≡ front ++ []
    → length all ≤ most_records → length these < most_records
low_with front came records all these e f top =
    omega (arith, top, ap length e, length-append front (came ∷ records), ap length (f ∙ append-nil front))

same_records : (conversion : Conversion) (most : ℕ) (front records others all these : List (List ℕ × Outcome)) (bytes : List ℕ) (l opened yard : ℕ) (left end rest other part side : List ℕ) (why reason : AsideOutcome)
    → IsSettled conversion → all ≡ front ++ records → these ≡ front ++ others → AllByRecursion (HasItsOutcome conversion) records → AllByRecursion (HasItsOutcome conversion) others
    → Come conversion.in_form l (inputs_of records) bytes opened left → Come conversion.in_form l (inputs_of others) bytes yard end
    → length (rejected_of all) ≤ most → length (rejected_of these) ≤ most
    → IsOverAside conversion most all (remains opened left rest) part why → IsOverAside conversion most these (remains yard end other) side reason → IsWorking why → IsWorking reason
    → (records ≡ others) × (opened ≡ yard) × (left ≡ end)
same_records conversion most front [] [] all these bytes l opened yard left end rest other part side why reason settled e f e1 e2 (at, is) (at2, is2) w x p q u v =
    (refl, is ∙ sym is2, sym at ∙ at2)
same_records conversion most front (r ∷ records) [] all these bytes l opened yard left end rest other part side why reason settled e f e1 e2 (mid, more, first, come) (at2, is2) w x p q u v =
    absurd (goes_on conversion most these yard end other side reason r mid more settled
    (low_with front r records all these e f (over_within conversion most all opened left rest part why p)) e1.0 (few_with most front r records all these e f w)
    (subst (λ (k : ℕ). ComesFirst conversion.in_form k r.0 end mid more) (sym is2) (subst (λ (xs : List ℕ). ComesFirst conversion.in_form l r.0 xs mid more) at2 first)) q v)
same_records conversion most front [] (r ∷ others) all these bytes l opened yard left end rest other part side why reason settled e f e1 e2 (at, is) (mid, more, first, come) w x p q u v =
    absurd (goes_on conversion most all opened left rest part why r mid more settled
    (low_with front r others these all f e (over_within conversion most these yard end other side reason q)) e2.0 (few_with most front r others these all f e x)
    (subst (λ (k : ℕ). ComesFirst conversion.in_form k r.0 left mid more) (sym is) (subst (λ (xs : List ℕ). ComesFirst conversion.in_form l r.0 xs mid more) at first)) p u)
same_records conversion most front (r ∷ records) (s ∷ others) all these bytes l opened yard left end rest other part side why reason settled e f e1 e2 (mid, more, first, come) (gap, tail, one, went) w x p q u v =
    let (inputs, mids, mores) = one_first conversion l r.0 s.0 bytes mid gap more tail settled (whole_of conversion r.0 r.1 e1.0) (whole_of conversion s.0 s.1 e2.0) first one in
    let outcomes : r.1 ≡ s.1 = one_outcome conversion r.0 r.1 s.1 settled e1.0 (subst (λ (i : List ℕ). HasOutcome conversion i s.1) (sym inputs) e2.0) in
    let pairs : r ≡ s = pair_is r s inputs outcomes in
    let (alls, opens, lefts) = same_records conversion most (front ++ r ∷ []) records others all these more mid opened yard left end rest other part side why reason settled
    (e ∙ sym (append_assoc front (r ∷ []) records))
    (f ∙ ap (λ (y : List ℕ × Outcome). front ++ y ∷ others) (sym pairs) ∙ sym (append_assoc front (r ∷ []) others)) e1.1 e2.1 come
    (subst (λ (k : ℕ). Come conversion.in_form k (inputs_of others) more yard end) (sym mids) (subst (λ (xs : List ℕ). Come conversion.in_form gap (inputs_of others) xs yard end) (sym mores) went))
    w x p q u v in
    (ap (λ (xs : List (List ℕ × Outcome)). r ∷ xs) alls ∙ ap (λ (y : List ℕ × Outcome). y ∷ others) pairs, opens, lefts)

-- ---- whole runs

outputs_are : (a b : Outputs) → a.sink ≡ b.sink → a.aside ≡ b.aside → a.notes ≡ b.notes → a ≡ b
outputs_are a b e f g =
    let make : Option (List ℕ) → Option (List ℕ) → Option (List RunFault) → Outputs = λ s t n. record { sink = s; aside = t; notes = n } in
    ap (λ (s : Option (List ℕ)). make s a.aside a.notes) e ∙ ap (λ (t : Option (List ℕ)). make b.sink t a.notes) f ∙ ap (λ (n : Option (List RunFault)). make b.sink b.aside n) g

both_written : (conversion : Conversion) (most : ℕ) (bytes rest left : List ℕ) (before now other : Outputs) (answer second : Result Tally AsideFault) → IsSettled conversion
    → (one : RanAside conversion most answer bytes rest before now) → (two : RanAside conversion most second bytes left before other)
    → EndsWritten conversion most one.records (remains one.opened one.left rest) one.written one.aside_part answer
    → EndsWritten conversion most two.records (remains two.opened two.left left) two.written two.aside_part second
    → is_device_fault answer ≡ false → is_device_fault second ≡ false → (answer ≡ second) × (now ≡ other) × (rest ≡ left)
both_written conversion most bytes rest left before now other answer second settled one two a b u v =
    let works = working a.why (tally_of one.records) (length one.records) (count_of one.written) answer a.is u in
    let does = working b.why (tally_of two.records) (length two.records) (count_of two.written) second b.is v in
    let (lists, opens, lefts) = same_records conversion most [] one.records two.records one.records two.records bytes 0 one.opened two.opened one.left two.left rest left one.aside_part two.aside_part a.why b.why settled
    refl refl one.each two.each one.come two.come one.within two.within a.over b.over works does in
    let over : IsOverAside conversion most one.records (remains one.opened one.left left) two.aside_part b.why =
    subst (λ (xs : List (List ℕ × Outcome)). IsOverAside conversion most xs (remains one.opened one.left left) two.aside_part b.why) (sym lists)
    (subst (λ (k : ℕ). IsOverAside conversion most two.records (remains k one.left left) two.aside_part b.why) (sym opens)
    (subst (λ (xs : List ℕ). IsOverAside conversion most two.records (remains two.opened xs left) two.aside_part b.why) (sym lefts) b.over)) in
    let (whys, rests) = over_one conversion most one.records one.opened one.left rest left one.aside_part two.aside_part a.why b.why settled a.over over works does in
    let outputs : one.written ≡ two.written = a.all ∙ ap (λ (xs : List (List ℕ × Outcome)). written_of conversion.out_form (converted_of xs)) lists ∙ sym b.all in
    let parts : one.aside_part ≡ two.aside_part = part_none conversion most one.records one.opened one.left rest one.aside_part a.why a.over works
    ∙ sym (part_none conversion most two.records two.opened two.left left two.aside_part b.why b.over does) in (
      a.is ∙ ap (λ (xs : List (List ℕ × Outcome)). answer_over (tally_of xs) (length xs) (count_of one.written) a.why) lists
          ∙ ap (λ (xs : List ℕ). answer_over (tally_of two.records) (length two.records) (count_of xs) a.why) outputs
          ∙ ap (answer_over (tally_of two.records) (length two.records) (count_of two.written)) whys ∙ sym b.is,
      outputs_are now other (one.output ∙ ap (append_known before.sink) outputs ∙ sym two.output)
          (one.aside ∙ ap (λ (xs : List (List ℕ × Outcome)). append_known before.aside (set_aside_of conversion.in_form xs ++ one.aside_part)) lists
          ∙ ap (λ (xs : List ℕ). append_known before.aside (set_aside_of conversion.in_form two.records ++ xs)) parts ∙ sym two.aside)
          (one.told ∙ ap (λ (xs : List (List ℕ × Outcome)). append_notes before.notes (notes_of conversion xs)) lists ∙ sym two.told),
      rests,
    )

pub aside_is_one : NextIsOne → ConversionsAreDecided → AsideIsOne
aside_is_one next decided conversion most bytes rest left before now other answer second has block one two u v =
    elim one.ends [
      | inl a ↦ elim two.ends [
        | inl b ↦ both_written conversion most bytes rest left before now other answer second (is_settled next decided conversion has block) one two a b u v
        | inr b ↦ absurd (not_unwritten conversion most two.records two.opened two.left left two.written two.aside_part second b v)
      ]
      | inr a ↦ absurd (not_unwritten conversion most one.records one.opened one.left rest one.written one.aside_part answer a u)
    ]
