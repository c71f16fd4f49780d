-- What is written for bytes, what is answered and what is left of them is determined.
use Rattle.std.proofs.Common.{◌≡◌, ℕ, ◌+◌, ◌<◌, ◌≤◌, min, false, List, [], ◌∷◌, length, take, refl, sym, subst, ◌∙◌, ap, arith, inl, inr, None, Some, Option, Ok, Err, Result}
use Rattle.std.proofs.lemmas.Grind.{common_steps}
use Rattle.std.specs.List.{AllByRecursion}
use Rattle.cob_records.specs.Device.{greatest_count}
use Rattle.cob_records.specs.declared.records.Form.{Form}
use Rattle.cob_records.specs.declared.records.Form.TheVariants.{Fixed, Variable, Blocked}
use Rattle.cob_records.specs.declared.records.RecordFault.{RecordFault}
use Rattle.cob_records.specs.Forms.{Come, ComesFirst, HasBlockSize, NextIsOne, ReadsInForm, written_of}
use Rattle.cob_records.specs.Frame.{IsRecord, is_read_failure}
use Rattle.cob_convert_record.specs.Laws.{ConversionsAreDecided}
use Rattle.cob_move_apply.specs.declared.stop.Stop.{Stop}
use Rattle.cob_convert_record.specs.Conversion.{Conversion, in_length}
use Rattle.cob_convert_stream.specs.declared.misfit.MeasureFault.{MeasureFault}
use Rattle.cob_convert_stream.specs.declared.fault.Reason.{Reason}
use Rattle.cob_convert_stream.specs.declared.fault.RunFault.{RunFault}
use Rattle.cob_convert_stream.specs.Reasons.{frame_reason, is_read_cause, misfit_reason, reason_of}
use Rattle.cob_convert_stream.specs.Sizes.{IsSized, IsMeasureFault}
use Rattle.cob_convert_record.specs.Becoming.{Becomes, StopsAt}
use Rattle.cob_convert_stream.specs.Input.{Remains, records_in}
use Rattle.cob_convert_record.specs.Reasons.{stop_reason}
use Rattle.cob_convert.specs.Run.{Came, Ends, InConversion, InLayout, InRead, InputEnds, IsConverted, IsOver, RecordStops, is_read_end, is_read_stop, is_write_stop, most_records, records_out}
use Rattle.cob_convert.specs.Unique.{HasBytes, ConversionIsOne}
use Rattle.cob_convert.proofs.Carried.{remains}
use Rattle.cob_convert.proofs.Headline.{not_in_write}

-- what is determined of records that come, and of what becomes of one record
pub record IsSettled (conversion : Conversion) : Type 0 where
  pub low : 0 < in_length conversion
  pub high : in_length conversion ≤ 32752
  pub block : HasBlockSize conversion.in_form
  pub next : NextIsOne
  pub one_output : (i a b : List ℕ) → Becomes conversion i a → Becomes conversion i b → a ≡ b
  pub one_stop : (i : List ℕ) (s t : Stop) → StopsAt conversion i s → StopsAt conversion i t → s ≡ t
  pub not_both : (i o : List ℕ) (s : Stop) → Becomes conversion i o → StopsAt conversion i s → ⊥
  pub one_misfit : (i : List ℕ) (v w : MeasureFault) → IsMeasureFault conversion.in_form conversion.records.input i v → IsMeasureFault conversion.in_form conversion.records.input i w → v ≡ w
  pub fits_or_not : (i : List ℕ) (w : MeasureFault) → IsSized conversion.in_form conversion.records.input i → IsMeasureFault conversion.in_form conversion.records.input i w → ⊥

pub is_settled : NextIsOne → ConversionsAreDecided → (conversion : Conversion) → HasBytes conversion.records.input → HasBlockSize conversion.in_form → IsSettled conversion
is_settled next settled conversion bytes block = record {
  low = bytes.some;
  high = bytes.most;
  block = block;
  next = next;
  one_output = λ i a b p q. (settled conversion).one_output i a b p q;
  one_stop = λ i s t p q. (settled conversion).one_stop i s t p q;
  not_both = λ i o s p q. (settled conversion).not_both i o s p q;
  one_misfit = λ i v w p q. (settled conversion).one_misfit i v w p q;
  fits_or_not = λ i w p q. (settled conversion).sized_or_misfit i w p q;
}

-- ---- what comes first

whole_take : (xs : List ℕ) → take (length xs) xs ≡ xs
whole_take xs = grind (arith, common_steps)

-- a record that comes first can be read
pub reads_of : (form : Form) (greatest left : ℕ) (body bytes : List ℕ) (after : ℕ) (rest : List ℕ) → IsRecord form greatest body → ComesFirst form left body bytes after rest
    → ReadsInForm form greatest left body (Ok (Some (length body))) after bytes rest
reads_of Fixed greatest left body bytes after rest whole (frame, is) = rw (whole_take body) ((omega arith, whole, frame), is)
reads_of Variable greatest left body bytes after rest whole (frame, is) = rw (whole_take body) ((omega arith, whole, frame), is)
reads_of (Blocked most) greatest left body bytes after rest whole comes = rw (whole_take body) (omega arith, whole, comes)

-- the end of the input can be read
end_of : (form : Form) (greatest opened : ℕ) (left rest : List ℕ) → opened ≡ 0 → left ≡ [] → rest ≡ [] → ReadsInForm form greatest opened [] (Ok None) 0 left rest
end_of Fixed greatest opened left rest none gone end = ((gone, end), sym none)
end_of Variable greatest opened left rest none gone end = ((gone, end), sym none)
end_of (Blocked most) greatest opened left rest none gone end = (none, refl, gone, end)

-- records that come first are one
pub one_first : (conversion : Conversion) (opened : ℕ) (a b bytes : List ℕ) (after later : ℕ) (rest other : List ℕ) → IsSettled conversion
    → IsRecord conversion.in_form (in_length conversion) a → IsRecord conversion.in_form (in_length conversion) b
    → ComesFirst conversion.in_form opened a bytes after rest → ComesFirst conversion.in_form opened b bytes later other → (a ≡ b) × (after ≡ later) × (rest ≡ other)
one_first conversion opened a b bytes after later rest other settled is_a is_b p q =
    let (answers, records, afters, rests) = settled.next conversion.in_form (in_length conversion) opened bytes a b rest other (Ok (Some (length a))) (Ok (Some (length b))) after later settled.block settled.low settled.high
    (reads_of conversion.in_form (in_length conversion) opened a bytes after rest is_a p) (reads_of conversion.in_form (in_length conversion) opened b bytes later other is_b q) refl refl in
    (sym (whole_take a) ∙ records ∙ whole_take b, afters, rests)

-- where a record comes first, nothing is refused
pub not_refused : (conversion : Conversion) (opened : ℕ) (a bytes : List ℕ) (after later : ℕ) (rest other : List ℕ) (fault : RecordFault) → IsSettled conversion
    → IsRecord conversion.in_form (in_length conversion) a → ComesFirst conversion.in_form opened a bytes after rest
    → ReadsInForm conversion.in_form (in_length conversion) opened [] (Err fault) later bytes other → is_read_failure (Err fault) ≡ false → ⊥
not_refused conversion opened a bytes after later rest other fault settled is_a p q works =
    let (answers, records, afters, rests) = settled.next conversion.in_form (in_length conversion) opened bytes a [] rest other (Ok (Some (length a))) (Err fault) after later settled.block settled.low settled.high
    (reads_of conversion.in_form (in_length conversion) opened a bytes after rest is_a p) q refl works in cc

-- nor is the input at its end
pub not_ended : (conversion : Conversion) (n opened : ℕ) (a bytes : List ℕ) (after : ℕ) (rest other : List ℕ) → IsSettled conversion
    → IsRecord conversion.in_form (in_length conversion) a → ComesFirst conversion.in_form opened a bytes after rest → InputEnds n (remains opened bytes other) → ⊥
not_ended conversion n opened a bytes after rest other settled is_a p e =
    let (answers, records, afters, rests) = settled.next conversion.in_form (in_length conversion) opened bytes a [] rest other (Ok (Some (length a))) (Ok None) after 0 settled.block settled.low settled.high
    (reads_of conversion.in_form (in_length conversion) opened a bytes after rest is_a p) (end_of conversion.in_form (in_length conversion) opened bytes other e.closed e.none e.rest) refl refl in cc

-- and at the end of the input nothing is refused
pub end_not_refused : (conversion : Conversion) (n opened : ℕ) (bytes : List ℕ) (after : ℕ) (rest other : List ℕ) (fault : RecordFault) → IsSettled conversion
    → InputEnds n (remains opened bytes rest) → ReadsInForm conversion.in_form (in_length conversion) opened [] (Err fault) after bytes other → is_read_failure (Err fault) ≡ false → ⊥
end_not_refused conversion n opened bytes after rest other fault settled e q works =
    let (answers, records, afters, rests) = settled.next conversion.in_form (in_length conversion) opened bytes [] [] rest other (Ok None) (Err fault) 0 after settled.block settled.low settled.high
    (end_of conversion.in_form (in_length conversion) opened bytes rest e.closed e.none e.rest) q refl works in cc

-- two refusals of the same bytes are one
pub same_refusal : (conversion : Conversion) (f g : RecordFault) (opened : ℕ) (left : List ℕ) (after later : ℕ) (rest other : List ℕ) → IsSettled conversion
    → ReadsInForm conversion.in_form (in_length conversion) opened [] (Err f) after left rest → ReadsInForm conversion.in_form (in_length conversion) opened [] (Err g) later left other
    → is_read_failure (Err f) ≡ false → is_read_failure (Err g) ≡ false → (f ≡ g) × (rest ≡ other)
same_refusal conversion f g opened left after later rest other settled a b u v =
    let (answers, records, afters, rests) = settled.next conversion.in_form (in_length conversion) opened left [] [] rest other (Err f) (Err g) after later settled.block settled.low settled.high a b u v in
    let same : f ≡ g = cc in (same, rests)

-- ---- why a run is over

-- the reason of a frame that can't be read decides whether a read failed
pub read_works : (why : Reason) (f : RecordFault) → why ≡ frame_reason f → is_read_cause why.cause ≡ false → is_read_failure (Err f) ≡ false
read_works why f is works = sym (ap (λ (r : Reason). is_read_cause r.cause) is) ∙ works

-- whole frames that stand first in the same bytes are one
pub one_frame : (conversion : Conversion) (opened : ℕ) (left a b rest other : List ℕ) → IsSettled conversion
    → Came conversion a (remains opened left rest) → Came conversion b (remains opened left other) → (a ≡ b) × (rest ≡ other)
one_frame conversion opened left a b rest other settled p q =
    let (inputs, afters, rests) = one_first conversion opened a b left p.after q.after rest other settled p.whole q.whole p.frame q.frame in (inputs, rests)

-- two stops at one record have one reason
records_agree : (conversion : Conversion) (opened : ℕ) (left rest other : List ℕ) (why reason : Reason) → IsSettled conversion
    → RecordStops conversion (remains opened left rest) why → RecordStops conversion (remains opened left other) reason
    → is_read_cause why.cause ≡ false → is_read_cause reason.cause ≡ false → (why ≡ reason) × (rest ≡ other)
records_agree conversion opened left rest other why reason settled (InRead a) (InRead b) u v =
    let (faults, tails) = same_refusal conversion a.fault b.fault opened left a.after b.after rest other settled a.reads b.reads
    (read_works why a.fault a.reason u) (read_works reason b.fault b.reason v) in
    (a.reason ∙ ap frame_reason faults ∙ sym b.reason, tails)
records_agree conversion opened left rest other why reason settled (InRead a) (InLayout b) u v =
    absurd (not_refused conversion opened b.input left b.came.after a.after other rest a.fault settled b.came.whole b.came.frame a.reads (read_works why a.fault a.reason u))
records_agree conversion opened left rest other why reason settled (InRead a) (InConversion b) u v =
    absurd (not_refused conversion opened b.input left b.came.after a.after other rest a.fault settled b.came.whole b.came.frame a.reads (read_works why a.fault a.reason u))
records_agree conversion opened left rest other why reason settled (InLayout a) (InRead b) u v =
    absurd (not_refused conversion opened a.input left a.came.after b.after rest other b.fault settled a.came.whole a.came.frame b.reads (read_works reason b.fault b.reason v))
records_agree conversion opened left rest other why reason settled (InConversion a) (InRead b) u v =
    absurd (not_refused conversion opened a.input left a.came.after b.after rest other b.fault settled a.came.whole a.came.frame b.reads (read_works reason b.fault b.reason v))
records_agree conversion opened left rest other why reason settled (InLayout a) (InLayout b) u v =
    let (inputs, tails) = one_frame conversion opened left a.input b.input rest other settled a.came b.came in
    let one : a.misfit ≡ b.misfit = settled.one_misfit a.input a.misfit b.misfit a.misfits (rw (← inputs) at b.misfits) in
    (a.reason ∙ ap misfit_reason one ∙ sym b.reason, tails)
records_agree conversion opened left rest other why reason settled (InLayout a) (InConversion b) u v =
    let (inputs, tails) = one_frame conversion opened left a.input b.input rest other settled a.came b.came in
    absurd (settled.fits_or_not a.input a.misfit (rw (← inputs) at b.sized) a.misfits)
records_agree conversion opened left rest other why reason settled (InConversion a) (InLayout b) u v =
    let (inputs, tails) = one_frame conversion opened left a.input b.input rest other settled a.came b.came in
    absurd (settled.fits_or_not a.input b.misfit a.sized (rw (← inputs) at b.misfits))
records_agree conversion opened left rest other why reason settled (InConversion a) (InConversion b) u v =
    let (inputs, tails) = one_frame conversion opened left a.input b.input rest other settled a.came b.came in
    let one : a.stop ≡ b.stop = settled.one_stop a.input a.stop b.stop a.stops (rw (← inputs) at b.stops) in
    (a.reason ∙ ap stop_reason one ∙ sym b.reason, tails)

-- at the end of the input no record stops a run
ends_not_stops : (conversion : Conversion) (n opened : ℕ) (left rest other : List ℕ) (why : Reason) → IsSettled conversion → InputEnds n (remains opened left rest)
    → RecordStops conversion (remains opened left other) why → is_read_cause why.cause ≡ false → ⊥
ends_not_stops conversion n opened left rest other why settled e (InRead s) u =
    end_not_refused conversion n opened left s.after rest other s.fault settled e s.reads (read_works why s.fault s.reason u)
ends_not_stops conversion n opened left rest other why settled e (InLayout s) u =
    not_ended conversion n opened s.input left s.came.after other rest settled s.came.whole s.came.frame e
ends_not_stops conversion n opened left rest other why settled e (InConversion s) u =
    not_ended conversion n opened s.input left s.came.after other rest settled s.came.whole s.came.frame e

-- a run is over for one reason
over_one : (conversion : Conversion) (n opened : ℕ) (left rest other : List ℕ) (why reason : Option Reason) → IsSettled conversion
    → IsOver conversion n (remains opened left rest) why → IsOver conversion n (remains opened left other) reason → is_read_end why ≡ false → is_read_end reason ≡ false
    → (why ≡ reason) × (rest ≡ other)
over_one conversion n opened left rest other None None settled p q u v = (refl, p.rest ∙ sym q.rest)
over_one conversion n opened left rest other None (Some reason) settled p (inl q) u v = absurd (omega (arith, p.below, q.limit))
over_one conversion n opened left rest other None (Some reason) settled p (inr (low, q)) u v = absurd (ends_not_stops conversion n opened left rest other reason settled p q v)
over_one conversion n opened left rest other (Some why) None settled (inl p) q u v = absurd (omega (arith, q.below, p.limit))
over_one conversion n opened left rest other (Some why) None settled (inr (low, p)) q u v = absurd (ends_not_stops conversion n opened left other rest why settled q p u)
over_one conversion n opened left rest other (Some why) (Some reason) settled (inl p) (inl q) u v = (ap Some (p.reason ∙ sym q.reason), p.unread ∙ sym q.unread)
over_one conversion n opened left rest other (Some why) (Some reason) settled (inl p) (inr (low, q)) u v = absurd (omega (arith, low, p.limit))
over_one conversion n opened left rest other (Some why) (Some reason) settled (inr (low, p)) (inl q) u v = absurd (omega (arith, low, q.limit))
over_one conversion n opened left rest other (Some why) (Some reason) settled (inr (low, p)) (inr (less, q)) u v =
    let (whys, rests) = records_agree conversion opened left rest other why reason settled p q u v in (ap Some whys, rests)

over_within : (conversion : Conversion) (n : ℕ) (at : Remains) (why : Option Reason) → IsOver conversion n at why → n ≤ most_records
over_within conversion n at None p = omega (arith, p.below)
over_within conversion n at (Some why) (inl p) = omega (arith, p.limit)
over_within conversion n at (Some why) (inr (low, p)) = omega (arith, low)

-- where a record is converted, the next one doesn't stop the run
goes_past : (conversion : Conversion) (opened : ℕ) (left rest : List ℕ) (why : Reason) (pair : List ℕ × List ℕ) (after : ℕ) (more : List ℕ) → IsSettled conversion
    → IsConverted conversion pair → ComesFirst conversion.in_form opened pair.0 left after more → RecordStops conversion (remains opened left rest) why → is_read_cause why.cause ≡ false → ⊥
goes_past conversion opened left rest why pair after more settled one first (InRead s) u =
    not_refused conversion opened pair.0 left after s.after more rest s.fault settled one.whole first s.reads (read_works why s.fault s.reason u)
goes_past conversion opened left rest why pair after more settled one first (InLayout s) u =
    let (inputs, afters, rests) = one_first conversion opened pair.0 s.input left after s.came.after more rest settled one.whole s.came.whole first s.came.frame in
    settled.fits_or_not pair.0 s.misfit one.sized (rw (← inputs) at s.misfits)
goes_past conversion opened left rest why pair after more settled one first (InConversion s) u =
    let (inputs, afters, rests) = one_first conversion opened pair.0 s.input left after s.came.after more rest settled one.whole s.came.whole first s.came.frame in
    settled.not_both pair.0 pair.1 s.stop one.converts (rw (← inputs) at s.stops)

-- nor is the run over
goes_on : (conversion : Conversion) (n opened : ℕ) (left rest : List ℕ) (why : Option Reason) (pair : List ℕ × List ℕ) (after : ℕ) (more : List ℕ) → IsSettled conversion → n < most_records
    → IsConverted conversion pair → ComesFirst conversion.in_form opened pair.0 left after more → IsOver conversion n (remains opened left rest) why → is_read_end why ≡ false → ⊥
goes_on conversion n opened left rest None pair after more settled below one first p u = not_ended conversion n opened pair.0 left after more rest settled one.whole first p
goes_on conversion n opened left rest (Some why) pair after more settled below one first (inl p) u = omega (arith, below, p.limit)
goes_on conversion n opened left rest (Some why) pair after more settled below one first (inr (low, p)) u =
    goes_past conversion opened left rest why pair after more settled one first p u

-- ---- whole runs

same_run : (conversion : Conversion) (k n m l : ℕ) (pairs others : List (List ℕ × List ℕ)) (bytes : List ℕ) (opened yard : ℕ) (left side rest other : List ℕ) (why reason : Option Reason)
    → IsSettled conversion → AllByRecursion (IsConverted conversion) pairs → AllByRecursion (IsConverted conversion) others
    → Come conversion.in_form l (records_in pairs) bytes opened left → Come conversion.in_form l (records_in others) bytes yard side → n ≡ k + length pairs → m ≡ k + length others
    → IsOver conversion n (remains opened left rest) why → IsOver conversion m (remains yard side other) reason → is_read_end why ≡ false → is_read_end reason ≡ false
    → (records_out pairs ≡ records_out others) × (n ≡ m) × (why ≡ reason) × (rest ≡ other)
same_run conversion k n m l [] [] bytes opened yard left side rest other why reason settled e1 e2 (at, is) (at2, is2) c1 c2 p q u v =
    let counts : n ≡ m = omega arith in
    let (whys, rests) = over_one conversion n opened left rest other why reason settled p
    (subst (λ (i : ℕ). IsOver conversion i (remains opened left other) reason) (sym counts)
    (subst (λ (r : ℕ). IsOver conversion m (remains r left other) reason) (is2 ∙ sym is) (subst (λ (xs : List ℕ). IsOver conversion m (remains yard xs other) reason) (sym at2 ∙ at) q))) u v in
    (refl, counts, whys, rests)
same_run conversion k n m l (x ∷ pairs) [] bytes opened yard left side rest other why reason settled e1 e2 (mid, more, first, come) (at2, is2) c1 c2 p q u v =
    let top : n ≤ most_records = over_within conversion n (remains opened left rest) why p in
    absurd (goes_on conversion m yard side other reason x mid more settled (omega arith) e1.0
    (subst (λ (r : ℕ). ComesFirst conversion.in_form r x.0 side mid more) (sym is2) (subst (λ (xs : List ℕ). ComesFirst conversion.in_form l x.0 xs mid more) at2 first)) q v)
same_run conversion k n m l [] (y ∷ others) bytes opened yard left side rest other why reason settled e1 e2 (at, is) (mid, more, first, come) c1 c2 p q u v =
    let top : m ≤ most_records = over_within conversion m (remains yard side other) reason q in
    absurd (goes_on conversion n opened left rest why y mid more settled (omega arith) e2.0
    (subst (λ (r : ℕ). ComesFirst conversion.in_form r y.0 left mid more) (sym is) (subst (λ (xs : List ℕ). ComesFirst conversion.in_form l y.0 xs mid more) at first)) p u)
same_run conversion k n m l (x ∷ pairs) (y ∷ others) bytes opened yard left side rest other why reason settled e1 e2 (mid, more, first, come) (gap, some, one, went) c1 c2 p q u v =
    let (inputs, mids, mores) = one_first conversion l x.0 y.0 bytes mid gap more some settled e1.0.whole e2.0.whole first one in
    let outputs : x.1 ≡ y.1 = settled.one_output x.0 x.1 y.1 e1.0.converts (subst (λ (i : List ℕ). Becomes conversion i y.1) (sym inputs) e2.0.converts) in
    let (alls, counts, whys, rests) = same_run conversion (k + 1) n m mid pairs others more opened yard left side rest other why reason settled e1.1 e2.1 come
    (subst (λ (r : ℕ). Come conversion.in_form r (records_in others) more yard side) (sym mids) (subst (λ (xs : List ℕ). Come conversion.in_form gap (records_in others) xs yard side) (sym mores) went))
    (omega arith) (omega arith) p q u v in
    (rw (outputs, alls) refl, counts, whys, rests)

-- what a run answers that is over for this
abbrev answer_of : ℕ → ℕ → Option Reason → Result ℕ RunFault
answer_of n sent None = Ok n
answer_of n sent (Some why) = Err (record { number = n + 1; side = why.side; offset = why.offset; cause = why.cause; written = min sent greatest_count })

-- an end that isn't one of a failed write
record IsOverAt (conversion : Conversion) (n : ℕ) (at : Remains) (sent : ℕ) (answer : Result ℕ RunFault) : Type 0 where
  why : Option Reason
  over : IsOver conversion n at why
  works : is_read_end why ≡ false
  is : answer ≡ answer_of n sent why

fault_is : (f : RunFault) (n sent : ℕ) → f.number ≡ n + 1 → f.written ≡ min sent greatest_count → Err f ≡ answer_of n sent (Some (reason_of f))
fault_is f n sent number written =
    let fault_of : ℕ → ℕ → Result ℕ RunFault = λ k w. Err (record { number = k; side = f.side; offset = f.offset; cause = f.cause; written = w }) in
    ap (λ (k : ℕ). fault_of k f.written) number ∙ ap (λ (w : ℕ). fault_of (n + 1) w) written

over_at : (conversion : Conversion) (pairs : List (List ℕ × List ℕ)) (at : Remains) (sent : List ℕ) (answer : Result ℕ RunFault) → Ends conversion pairs at sent [] answer
    → is_read_stop answer ≡ false → is_write_stop answer ≡ false → IsOverAt conversion (length pairs) at (length sent) answer
over_at conversion pairs at sent (Ok number) ends u v = record { why = None; over = ends.input; works = refl; is = ap Ok ends.count }
over_at conversion pairs at sent (Err fault) ends u v = elim ends.stops [
  | inl s ↦ record { why = Some (reason_of fault); over = s.stops; works = u; is = fault_is fault (length pairs) (length sent) s.next (omega (arith, ends.written)) }
  | inr s ↦ absurd (not_in_write conversion pairs at sent [] fault s v)
]

pub conversion_is_one : NextIsOne → ConversionsAreDecided → ConversionIsOne
conversion_is_one next decided conversion bytes rest left written other answer second has block one two =
    let settled = is_settled next decided conversion has block in
    let a = over_at conversion one.pairs (remains one.opened one.left rest) written answer one.ends one.read one.wrote in
    let b = over_at conversion two.pairs (remains two.opened two.left left) other second two.ends two.read two.wrote in
    let (alls, counts, whys, rests) = same_run conversion 0 (length one.pairs) (length two.pairs) 0 one.pairs two.pairs bytes one.opened two.opened one.left two.left rest left a.why b.why settled
    one.each two.each one.come two.come (omega arith) (omega arith) a.over b.over a.works b.works in
    let outputs : written ≡ other = one.output ∙ ap (written_of conversion.out_form) alls ∙ sym two.output in
    let sizes : length written ≡ length other = ap length outputs in (
      outputs,
      a.is ∙ ap (λ (n : ℕ). answer_of n (length written) a.why) counts ∙ ap (λ (n : ℕ). answer_of (length two.pairs) n a.why) sizes
          ∙ ap (answer_of (length two.pairs) (length other)) whys ∙ sym b.is,
      rests,
    )
