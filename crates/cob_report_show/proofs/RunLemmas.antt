-- Records that were shown so far, one more, and the end.
use Rattle.std.proofs.Common.{◌≡◌, ℕ, ◌+◌, ◌-◌, ◌^◌, ◌<◌, ◌≤◌, min, Bool, true, false, List, [], ◌∷◌, ◌++◌, length, take, refl, sym, subst, ◌∙◌, ap, append-nil, arith, inl, inr, None, Some, Option, Ok, Err, Result}
use Rattle.std.proofs.lemmas.Grind.{common_steps}
use Rattle.std.proofs.lemmas.List.Concat.{flat_map-append}
use Rattle.std.proofs.lemmas.List.{length-append}
use Rattle.std.specs.Io.KnownBytes.{append_known}
use Rattle.cob_copybook_tree.specs.Forests.{Forest}
use Rattle.cob_copybook_tree.specs.Nodes.{Resolved}
use Rattle.cob_layout_places.specs.declared.counts.CountFault.{CountFault}
use Rattle.cob_move_data.specs.declared.operands.Side.TheVariants.{In, Out}
use Rattle.cob_layout.specs.Counting.{CountsOf}
use Rattle.cob_layout.specs.Standing.{Standing, StandsIn}
use Rattle.cob_layout.specs.Storage.{current_length, greatest_length}
use Rattle.cob_records.specs.declared.records.Form.{Form}
use Rattle.cob_records.specs.declared.records.Form.TheVariants.{Fixed, Variable, Blocked}
use Rattle.cob_records.specs.declared.records.RecordFault.{RecordFault}
use Rattle.cob_records.specs.declared.records.RecordFault.TheVariants.{Truncated, Descriptor, Spanned, Length, BlockDescriptor, PastBlock, ReadFailed}
use Rattle.cob_records.specs.Device.{Told, Took}
use Rattle.cob_records.specs.BlockReads.{ReadsInBlock}
use Rattle.cob_records.specs.Forms.{Come, ComesFirst, ReadsInForm}
use Rattle.cob_records.specs.Frame.{Reads, IsLength, IsRecord}
use Rattle.cob_convert_stream.specs.declared.fault.Cause.TheVariants.{Limit, Record}
use Rattle.cob_convert_stream.specs.declared.fault.Reason.{Reason}
use Rattle.cob_convert_stream.specs.Input.{Remains, records_in}
use Rattle.cob_convert_stream.specs.Reasons.{frame_reason}
use Rattle.cob_report_show.specs.declared.records.ShowFault.{ShowFault}
use Rattle.cob_report_show.specs.declared.records.ShowFault.TheVariants.{Memory, Run}
use Rattle.cob_report_show.specs.Lines.{AreRecordLines, BeginRecordLines}
use Rattle.cob_convert_stream.specs.Sizes.{IsFitting}
use Rattle.cob_report_show.specs.Runs.{AreRecordsShown, EndsShow, IsLegible, IsRecordShown, ReadsNext, Shows, StopsReading, lines_of, most_shown, count_reason}
use Rattle.cob_report_show.specs.Sent.{Sends}
use Rattle.cob_report_show.proofs.RecordLemmas.{own_places}
use Rattle.cob_report_show.proofs.SentLemmas.{append_none, append_twice}

-- ---- the next record

told_as : (r0 r1 : Option (List ℕ)) (P Q : List ℕ → List ℕ → Type 0) → Told r0 r1 P → ((left rest : List ℕ) → P left rest → Q left rest) → Told r0 r1 Q
told_as None r1 P Q t f = tt
told_as (Some xs) None P Q t f = absurd t
told_as (Some xs) (Some ys) P Q t f = f xs ys t

pub whole_of : (form : Form) (greatest count : ℕ) (slot : List ℕ) → IsLength form greatest count → length slot ≡ greatest → IsRecord form greatest (take count slot)
whole_of Fixed greatest count slot is room = grind (arith, common_steps)
whole_of Variable greatest count slot (low, high) room =
    let size : length (take count slot) ≡ count = grind (arith, common_steps) in
    rw size (low, high)
whole_of (Blocked most) greatest count slot (low, high) room =
    let size : length (take count slot) ≡ count = grind (arith, common_steps) in
    rw size (low, high)

taken_long : (count : ℕ) (slot : List ℕ) → count ≤ length slot → length (take count slot) ≡ count
taken_long count slot room = grind (arith, common_steps)

pub legible_of : (form : Form) (tree : Forest Resolved) (s : Standing) (slot : List ℕ) (count : ℕ) → count ≤ length slot → StandsIn tree (take count slot) s
    → IsFitting form (current_length s.counts tree) count → IsLegible form tree (take count slot) s
legible_of form tree s slot count room stands fits = record {
  counts = subst (λ (c : List ℕ). CountsOf tree (take count slot) (Ok c)) (sym stands.2.0) stands.1;
  laid = own_places tree stands.0 s stands.2;
  long = subst (λ (n : ℕ). IsFitting form (current_length s.counts tree) n) (sym (taken_long count slot room)) fits;
}

-- a record that was read came first, and stands at the front of the slice
came_first : (form : Form) (greatest opened : ℕ) (slot : List ℕ) (count after : ℕ) (left rest : List ℕ) → ReadsInForm form greatest opened slot (Ok (Some count)) after left rest
    → (count ≤ length slot) × IsRecord form greatest (take count slot) × ComesFirst form opened (take count slot) left after rest
came_first Fixed greatest opened slot count after left rest ((within, whole, frame), is) = (within, whole, (frame, is))
came_first Variable greatest opened slot count after left rest ((within, whole, frame), is) = (within, whole, (frame, is))
came_first (Blocked most) greatest opened slot count after left rest (within, whole, comes) = (within, whole, comes)

pub next_whole : (form : Form) (tree : Forest Resolved) (opened after : ℕ) (slot : List ℕ) (count : ℕ) (r0 r1 : Option (List ℕ))
    → Told r0 r1 (ReadsInForm form (greatest_length tree) opened slot (Ok (Some count)) after) → Told r0 r1 (ReadsNext form tree opened slot (Ok (Some count)) after)
next_whole form tree opened after slot count r0 r1 t =
    told_as r0 r1 (ReadsInForm form (greatest_length tree) opened slot (Ok (Some count)) after) (ReadsNext form tree opened slot (Ok (Some count)) after) t
    (λ left rest p. (came_first form (greatest_length tree) opened slot count after left rest p).2)

refused_unblocked : (form : Form) (greatest : ℕ) (slot left rest : List ℕ) (fault : RecordFault) → Reads form greatest slot (Err fault) left rest → Reads form greatest [] (Err fault) left rest
refused_unblocked form greatest slot left rest (Truncated seen) reads = reads
refused_unblocked form greatest slot left rest Descriptor reads = reads
refused_unblocked form greatest slot left rest Spanned reads = reads
refused_unblocked form greatest slot left rest Length reads = reads
refused_unblocked form greatest slot left rest ReadFailed reads = reads
refused_unblocked form greatest slot left rest _ reads = absurd reads

refused_in_block : (most greatest opened : ℕ) (slot : List ℕ) (after : ℕ) (left rest : List ℕ) (fault : RecordFault) → ReadsInBlock most greatest opened slot (Err fault) after left rest
    → ReadsInBlock most greatest opened [] (Err fault) after left rest
refused_in_block most greatest opened slot after left rest (Truncated seen) reads = reads
refused_in_block most greatest opened slot after left rest Descriptor reads = reads
refused_in_block most greatest opened slot after left rest Spanned reads = reads
refused_in_block most greatest opened slot after left rest Length reads = reads
refused_in_block most greatest opened slot after left rest ReadFailed reads = reads
refused_in_block most greatest opened slot after left rest BlockDescriptor reads = reads
refused_in_block most greatest opened slot after left rest PastBlock reads = reads
refused_in_block most greatest opened slot after left rest _ reads = absurd reads

-- what was refused says nothing of the slice
refused_reading : (form : Form) (greatest opened : ℕ) (slot : List ℕ) (after : ℕ) (left rest : List ℕ) (fault : RecordFault) → ReadsInForm form greatest opened slot (Err fault) after left rest
    → ReadsInForm form greatest opened [] (Err fault) after left rest
refused_reading Fixed greatest opened slot after left rest fault (reads, is) = (refused_unblocked Fixed greatest slot left rest fault reads, is)
refused_reading Variable greatest opened slot after left rest fault (reads, is) = (refused_unblocked Variable greatest slot left rest fault reads, is)
refused_reading (Blocked most) greatest opened slot after left rest fault reads = refused_in_block most greatest opened slot after left rest fault reads

pub next_refused : (form : Form) (tree : Forest Resolved) (opened after : ℕ) (slot : List ℕ) (fault : RecordFault) (why : Reason) (r0 r1 : Option (List ℕ)) → why ≡ frame_reason fault
    → Told r0 r1 (ReadsInForm form (greatest_length tree) opened slot (Err fault) after) → Told r0 r1 (ReadsNext form tree opened slot (Err why) after)
next_refused form tree opened after slot fault why r0 r1 is t =
    told_as r0 r1 (ReadsInForm form (greatest_length tree) opened slot (Err fault) after) (ReadsNext form tree opened slot (Err why) after) t
    (λ left rest p. inl (fault, refused_reading form (greatest_length tree) opened slot after left rest fault p, is))

pub next_miscounted : (form : Form) (tree : Forest Resolved) (opened after : ℕ) (slot : List ℕ) (count : ℕ) (fault : CountFault) (why : Reason) (r0 r1 : Option (List ℕ)) → why ≡ count_reason fault
    → CountsOf tree (take count slot) (Err fault) → Told r0 r1 (ReadsInForm form (greatest_length tree) opened slot (Ok (Some count)) after) → Told r0 r1 (ReadsNext form tree opened slot (Err why) after)
next_miscounted form tree opened after slot count fault why r0 r1 is counts t =
    told_as r0 r1 (ReadsInForm form (greatest_length tree) opened slot (Ok (Some count)) after) (ReadsNext form tree opened slot (Err why) after) t
    (λ left rest p.
    let (within, whole, first) = came_first form (greatest_length tree) opened slot count after left rest p in
    inr (take count slot, (whole, first), inl (fault, counts, is)))

pub next_unfitting : (form : Form) (tree : Forest Resolved) (s : Standing) (opened after : ℕ) (slot : List ℕ) (count : ℕ) (why : Reason) (r0 r1 : Option (List ℕ)) → why ≡ frame_reason Length
    → StandsIn tree (take count slot) s → (IsFitting form (current_length s.counts tree) count → ⊥)
    → Told r0 r1 (ReadsInForm form (greatest_length tree) opened slot (Ok (Some count)) after) → Told r0 r1 (ReadsNext form tree opened slot (Err why) after)
next_unfitting form tree s opened after slot count why r0 r1 is stands other t =
    told_as r0 r1 (ReadsInForm form (greatest_length tree) opened slot (Ok (Some count)) after) (ReadsNext form tree opened slot (Err why) after) t
    (λ left rest p.
    let (within, whole, first) = came_first form (greatest_length tree) opened slot count after left rest p in
    inr (
      take count slot,
      (whole, first),
      inr (
        s.counts,
        subst (λ (c : List ℕ). CountsOf tree (take count slot) (Ok c)) (sym stands.2.0) stands.1,
        λ fits. other (subst (λ (n : ℕ). IsFitting form (current_length s.counts tree) n) (taken_long count slot within) fits),
        is,
      ),
    ))

-- what stops the reading of a record stands on the input's side
reads_side : (form : Form) (tree : Forest Resolved) (opened : ℕ) (why : Reason) (after : ℕ) (left rest : List ℕ) → StopsReading form tree opened why after left rest → why.side ≡ In
reads_side form tree opened why after left rest (inl (fault, reads, is)) = ap (λ (r : Reason). r.side) is
reads_side form tree opened why after left rest (inr (input, comes, inl (fault, counts, is))) = ap (λ (r : Reason). r.side) is ∙ count_side fault.short fault.offset
  where
    count_side : (short : Bool) (offset : ℕ) → (count_reason (record { offset = offset; short = short })).side ≡ In
    count_side true offset = refl
    count_side false offset = refl
reads_side form tree opened why after left rest (inr (input, comes, inr (counts, are, unfit, is))) = ap (λ (r : Reason). r.side) is

-- ---- the records so far

-- n records came and are legible, and their lines went out
pub record ListedSoFar (form : Form) (tree : Forest Resolved) (n written opened : ℕ) (r0 r w0 w : Option (List ℕ)) : Type 0 where
  pub pairs : List (List ℕ × List ℕ)
  pub each : AreRecordsShown form tree 0 pairs
  pub count : length pairs ≡ n
  pub sum : written ≡ min (length (lines_of pairs)) (2 ^ 64 - 1)
  pub came : Told r0 r (λ bytes rest. Come form 0 (records_in pairs) bytes opened rest)
  pub appended : w ≡ append_known w0 (lines_of pairs)

told_same : (form : Form) (r : Option (List ℕ)) → Told r r (λ bytes rest. Come form 0 [] bytes 0 rest)
told_same form None = tt
told_same form (Some xs) = (refl, refl)

pub none_listed : (form : Form) (tree : Forest Resolved) (r w : Option (List ℕ)) → ListedSoFar form tree 0 0 0 r r w w
none_listed form tree r w = record { pairs = []; each = tt; count = refl; sum = refl; came = told_same form r; appended = append_none w }

-- one reading behind another
told_both : (r0 r1 r2 : Option (List ℕ)) (P Q S : List ℕ → List ℕ → Type 0) → Told r0 r1 P → Told r1 r2 Q
    → ((bytes mid rest : List ℕ) → P bytes mid → Q mid rest → S bytes rest) → Told r0 r2 S
told_both None r1 r2 P Q S p q f = tt
told_both (Some xs) None r2 P Q S p q f = absurd p
told_both (Some xs) (Some mid) None P Q S p q f = absurd q
told_both (Some xs) (Some mid) (Some rest) P Q S p q f = f xs mid rest p q

records_more : (pairs : List (List ℕ × List ℕ)) (pair : List ℕ × List ℕ) → records_in (pairs ++ pair ∷ []) ≡ records_in pairs ++ pair.0 ∷ []
records_more [] pair = refl
records_more (p ∷ pairs) pair = ap (λ (xs : List (List ℕ)). p.0 ∷ xs) (records_more pairs pair)

come_one : (form : Form) (start : ℕ) (bodies : List (List ℕ)) (body bytes : List ℕ) (mid : ℕ) (more : List ℕ) (after : ℕ) (rest : List ℕ)
    → Come form start bodies bytes mid more → ComesFirst form mid body more after rest → Come form start (bodies ++ body ∷ []) bytes after rest
come_one form start [] body bytes mid more after rest (same, is) first =
    (after, rest, subst (λ (xs : List ℕ). ComesFirst form start body xs after rest) (sym same) (subst (λ (k : ℕ). ComesFirst form k body more after rest) is first), (refl, refl))
come_one form start (b ∷ bodies) body bytes mid more after rest (k, behind, one, come) first =
    (k, behind, one, come_one form k bodies body behind mid more after rest come first)

-- without blocks none is open
at_end : (form : Form) (bodies : List (List ℕ)) (bytes : List ℕ) (opened : ℕ) (left slot rest : List ℕ) (after greatest start : ℕ) → start ≡ 0
    → Come form start bodies bytes opened left → ReadsInForm form greatest opened slot (Ok None) after left rest → (opened ≡ 0) × (left ≡ []) × (rest ≡ [])
at_end Fixed [] bytes opened left slot rest after greatest start zero (same, is) reads = (is ∙ zero, reads.0.0, reads.0.1)
at_end Fixed (b ∷ bodies) bytes opened left slot rest after greatest start zero (mid, more, (frame, is), come) reads =
    at_end Fixed bodies more opened left slot rest after greatest mid (is ∙ zero) come reads
at_end Variable [] bytes opened left slot rest after greatest start zero (same, is) reads = (is ∙ zero, reads.0.0, reads.0.1)
at_end Variable (b ∷ bodies) bytes opened left slot rest after greatest start zero (mid, more, (frame, is), come) reads =
    at_end Variable bodies more opened left slot rest after greatest mid (is ∙ zero) come reads
at_end (Blocked most) bodies bytes opened left slot rest after greatest start zero come (none, done, is, end) = (none, is, end)

each_more : (form : Form) (tree : Forest Resolved) (m : ℕ) (pairs : List (List ℕ × List ℕ)) (pair : List ℕ × List ℕ) → AreRecordsShown form tree m pairs
    → IsRecordShown form tree (m + length pairs + 1) pair → AreRecordsShown form tree m (pairs ++ pair ∷ [])
each_more form tree m [] pair each one =
    let is : m + 0 + 1 ≡ m + 1 = omega arith in
    (subst (λ (k : ℕ). IsRecordShown form tree k pair) is one, tt)
each_more form tree m (p ∷ pairs) pair each one =
    let is : m + length (p ∷ pairs) + 1 ≡ m + 1 + length pairs + 1 = omega arith in
    (each.0, each_more form tree (m + 1) pairs pair each.1 (subst (λ (k : ℕ). IsRecordShown form tree k pair) is one))

pub one_listed : (form : Form) (tree : Forest Resolved) (n written total opened after count : ℕ) (slot : List ℕ) (s : Standing) (begun : List ℕ → Type 0) (r0 r1 r2 w0 w1 w2 : Option (List ℕ))
    → ListedSoFar form tree n written opened r0 r1 w0 w1 → Told r1 r2 (ReadsNext form tree opened slot (Ok (Some count)) after)
    → IsRecord form (greatest_length tree) (take count slot) → IsLegible form tree (take count slot) s
    → Took w1 w2 (Sends (AreRecordLines (record { tree = tree; places = s; bytes = take count slot }) (n + 1)) begun written total (Ok tt))
    → ListedSoFar form tree (n + 1) total after r0 r2 w0 w2
one_listed form tree n written total opened after count slot s begun r0 r1 r2 w0 w1 w2 so_far next whole legible (p, (lines, sum), took) =
    let pair : List ℕ × List ℕ = (take count slot, p) in
    let outs : lines_of (so_far.pairs ++ pair ∷ []) ≡ lines_of so_far.pairs ++ p
    = flat_map-append (λ (q : List ℕ × List ℕ). q.1) so_far.pairs (pair ∷ []) ∙ ap (λ xs. lines_of so_far.pairs ++ xs) (append-nil p) in
    let number : n + 1 ≡ 0 + length so_far.pairs + 1 = omega (arith, so_far.count) in
    let more = sum (omega (arith, so_far.sum)) in
    record {
      pairs = so_far.pairs ++ pair ∷ [];
      each = each_more form tree 0 so_far.pairs pair so_far.each (subst (λ (k : ℕ). IsRecordShown form tree k pair) number (record { whole = whole; places = s; legible = legible; lines = lines }));
      count = omega (arith, length-append so_far.pairs (pair ∷ []), so_far.count);
      sum = rw outs (omega (arith, length-append (lines_of so_far.pairs) p, so_far.sum, more));
      came = told_both r0 r1 r2 _ _ _ so_far.came next (λ bytes mid rest before first.
          subst (λ (bodies : List (List ℕ)). Come form 0 bodies bytes after rest) (sym (records_more so_far.pairs pair))
          (come_one form 0 (records_in so_far.pairs) (take count slot) bytes opened mid after rest before first));
      appended = append_twice (lines_of so_far.pairs) p w0 w1 w2 so_far.appended took ∙ ap (λ xs. append_known w0 xs) (sym outs);
    }

-- ---- the end

-- what is behind the records
abbrev unshown_at : ℕ → List ℕ → List ℕ → Remains
unshown_at opened left rest = record { opened = opened; left = left; rest = rest }

-- the fault of a record that stopped it, for this reason
abbrev pub fault_for : ℕ → ℕ → Reason → ShowFault
fault_for number written why = Run (record { number = number; side = why.side; offset = why.offset; cause = why.cause; written = written })

ends_at : (form : Form) (tree : Forest Resolved) (n written count sent : ℕ) (at : Remains) (part : List ℕ) (answer : Result ℕ ShowFault) → count ≡ n → written ≡ min sent (2 ^ 64 - 1)
    → EndsShow form tree n written at part answer → EndsShow form tree count sent at part answer
ends_at form tree n written count sent at part (Ok number) e s ends = rw e ends
ends_at form tree n written count sent at part (Err Memory) e s ends = rw e ends
ends_at form tree n written count sent at part (Err (Run fault)) e s ends =
    rw e (ends.0, omega (arith, ends.1, s), ends.2)

pub listed_ends : (form : Form) (tree : Forest Resolved) (n written opened : ℕ) (answer : Result ℕ ShowFault) (part : List ℕ) (r0 r1 r2 w0 w1 w2 : Option (List ℕ)) (P : List ℕ → List ℕ → Type 0)
    → ListedSoFar form tree n written opened r0 r1 w0 w1 → Told r1 r2 P → w2 ≡ append_known w1 part
    → ((bodies : List (List ℕ)) (bytes left rest : List ℕ) → Come form 0 bodies bytes opened left → P left rest → EndsShow form tree n written (unshown_at opened left rest) part answer)
    → Told r0 r2 (Shows form tree answer w0 w2)
listed_ends form tree n written opened answer part r0 r1 r2 w0 w1 w2 P so_far next put f =
    told_both r0 r1 r2 _ P (Shows form tree answer w0 w2) so_far.came next
    (λ bytes left rest come p. record {
      pairs = so_far.pairs;
      opened = opened;
      left = left;
      part = part;
      come = come;
      each = so_far.each;
      output = append_twice (lines_of so_far.pairs) part w0 w1 w2 so_far.appended put;
      ends = ends_at form tree n written (length so_far.pairs) (length (lines_of so_far.pairs)) (unshown_at opened left rest) part answer so_far.count so_far.sum
          (f (records_in so_far.pairs) bytes left rest come p);
    })

pub clean_end : (form : Form) (tree : Forest Resolved) (n written opened after : ℕ) (slot : List ℕ) (r0 r1 r2 w0 w1 : Option (List ℕ)) → ListedSoFar form tree n written opened r0 r1 w0 w1 → n < most_shown
    → Told r1 r2 (ReadsNext form tree opened slot (Ok None) after) → Told r0 r2 (Shows form tree (Ok n) w0 w1)
clean_end form tree n written opened after slot r0 r1 r2 w0 w1 so_far low next =
    listed_ends form tree n written opened (Ok n) [] r0 r1 r2 w0 w1 w1 (ReadsNext form tree opened slot (Ok None) after) so_far next (append_none w1)
    (λ bodies bytes left rest come p.
    let (closed, none, end) = at_end form bodies bytes opened left slot rest after (greatest_length tree) 0 refl come p in (refl, low, closed, none, end, refl))

pub read_end : (form : Form) (tree : Forest Resolved) (n written opened after : ℕ) (why : Reason) (slot : List ℕ) (answer : Result ℕ ShowFault) (r0 r1 r2 w0 w1 : Option (List ℕ)) → ListedSoFar form tree n written opened r0 r1 w0 w1 → n < most_shown
    → Told r1 r2 (ReadsNext form tree opened slot (Err why) after)
    → answer ≡ Err (Run (record { number = n + 1; side = why.side; offset = why.offset; cause = why.cause; written = written }))
    → Told r0 r2 (Shows form tree answer w0 w1)
read_end form tree n written opened after why slot answer r0 r1 r2 w0 w1 so_far low next is =
    subst (λ (a : Result ℕ ShowFault). Told r0 r2 (Shows form tree a w0 w1)) (sym is)
    (listed_ends form tree n written opened (Err (Run (record { number = n + 1; side = why.side; offset = why.offset; cause = why.cause; written = written }))) [] r0 r1 r2 w0 w1 w1
    (ReadsNext form tree opened slot (Err why) after) so_far next (append_none w1)
    (λ bodies bytes left rest come p. (
      refl,
      omega (arith, so_far.sum),
      inr (inl (record { below = low; nothing = refl; side = reads_side form tree opened why after left rest p; after = after; stops = p })),
    )))

pub write_end : (form : Form) (tree : Forest Resolved) (n written total opened after count : ℕ) (fault : RecordFault) (slot : List ℕ) (s : Standing) (is : List ℕ → Type 0) (answer : Result ℕ ShowFault) (r0 r1 r2 w0 w1 w2 : Option (List ℕ))
    → ListedSoFar form tree n written opened r0 r1 w0 w1 → n < most_shown → Told r1 r2 (ReadsNext form tree opened slot (Ok (Some count)) after)
    → IsRecord form (greatest_length tree) (take count slot) → IsLegible form tree (take count slot) s
    → Took w1 w2 (Sends is (BeginRecordLines (record { tree = tree; places = s; bytes = take count slot }) (n + 1)) written total (Err fault))
    → answer ≡ Err (Run (record { number = n + 1; side = Out; offset = 0; cause = Record fault; written = total }))
    → Told r0 r2 (Shows form tree answer w0 w2)
write_end form tree n written total opened after count fault slot s is answer r0 r1 r2 w0 w1 w2 so_far low next whole legible (p, (begun, sum), took) at =
    subst (λ (a : Result ℕ ShowFault). Told r0 r2 (Shows form tree a w0 w2)) (sym at)
    (listed_ends form tree n written opened (Err (Run (record { number = n + 1; side = Out; offset = 0; cause = Record fault; written = total }))) p r0 r1 r2 w0 w1 w2
    (ReadsNext form tree opened slot (Ok (Some count)) after) so_far next took
    (λ bodies bytes left rest come q. (
      refl,
      sum (omega (arith, so_far.sum)),
      inr (inr (record {
        below = low;
        input = take count slot;
        after = after;
        comes = (whole, q);
        places = s;
        legible = legible;
        begun = begun;
        side = refl;
        offset = refl;
        why = fault;
        cause = refl;
      })),
    )))

told_here : (r : Option (List ℕ)) → Told r r (λ left rest. rest ≡ left)
told_here None = tt
told_here (Some xs) = refl

pub limit_end : (form : Form) (tree : Forest Resolved) (n written opened : ℕ) (answer : Result ℕ ShowFault) (r0 r1 w0 w1 : Option (List ℕ)) → ListedSoFar form tree n written opened r0 r1 w0 w1 → n ≡ most_shown
    → answer ≡ Err (Run (record { number = n + 1; side = In; offset = 0; cause = Limit; written = written }))
    → Told r0 r1 (Shows form tree answer w0 w1)
limit_end form tree n written opened answer r0 r1 w0 w1 so_far end is =
    subst (λ (a : Result ℕ ShowFault). Told r0 r1 (Shows form tree a w0 w1)) (sym is)
    (listed_ends form tree n written opened (Err (Run (record { number = n + 1; side = In; offset = 0; cause = Limit; written = written }))) [] r0 r1 r1 w0 w1 w1
    (λ left rest. rest ≡ left) so_far (told_here r1) (append_none w1)
    (λ bodies bytes left rest come p. (refl, omega (arith, so_far.sum), inl (record { limit = end; unread = p; nothing = refl; side = refl; offset = refl; cause = refl }))))

-- nothing was read or written
pub unshown : (form : Form) (tree : Forest Resolved) (answer : Result ℕ ShowFault) (r w : Option (List ℕ)) → answer ≡ Err Memory → Told r r (Shows form tree answer w w)
unshown form tree answer None w is = tt
unshown form tree answer (Some xs) w is = record {
  pairs = [];
  opened = 0;
  left = xs;
  part = [];
  come = (refl, refl);
  each = tt;
  output = append_none w;
  ends = subst (λ (a : Result ℕ ShowFault). EndsShow form tree 0 0 (unshown_at 0 xs xs) [] a) (sym is) (refl, refl, refl);
}
