-- Where none is rejected a run that sets records aside is a run; and a record that was set aside is rejected again.
use Rattle.std.proofs.Common.{◌≡◌, ℕ, ◌+◌, false, List, [], ◌∷◌, ◌++◌, length, refl, sym, subst, ◌∙◌, ap, arith, inl, inr, None, Some, Option, Ok, Err, Result}
use Rattle.std.proofs.Math.ListN.{length-append}
use Rattle.std.specs.List.{AllByRecursion}
use Rattle.cob_records.specs.Alone.{AloneIsOneRecord, framed_alone}
use Rattle.cob_records.specs.declared.records.Form.{Form}
use Rattle.cob_records.specs.declared.records.Form.TheVariants.{Fixed, Variable, Blocked}
use Rattle.cob_records.specs.Forms.{Come, written_of}
use Rattle.cob_convert_record.specs.Conversion.{Conversion}
use Rattle.cob_convert_stream.specs.declared.fault.Reason.{Reason}
use Rattle.cob_convert_stream.specs.declared.fault.RunFault.{RunFault}
use Rattle.cob_convert_stream.specs.Input.{Remains, records_in}
use Rattle.cob_convert.specs.declared.aside.AsideFault.{AsideFault}
use Rattle.cob_convert.specs.declared.aside.AsideOutcome.{AsideOutcome}
use Rattle.cob_convert.specs.declared.aside.AsideOutcome.TheVariants as ending
use Rattle.cob_convert.specs.declared.aside.Tally.{Tally}
use Rattle.cob_convert.specs.Run.{InRead, IsConverted, StopsFor, records_out}
use Rattle.cob_convert_stream.specs.Reasons.{fault_at}
use Rattle.cob_convert.specs.Outcomes.{Became, HasItsOutcome, Outcome, WasRejected, append_notes, converted_of, inputs_of, notes_behind, notes_of, rejected_of}
use Rattle.cob_convert.specs.Aside.{IsOverAside, Outputs, RanAside, StopsAside, answer_over, count_of, tally_of}
use Rattle.cob_convert.specs.AsideLaws.{AsideIsRun, IsConversion, RejectedAgain, RejectsNone, is_device_fault, IsPlainAnswer}
use Rattle.cob_convert.proofs.AsideOne.{IsWorking, not_unwritten, working}
use Rattle.cob_convert.proofs.Carried.{remains}
use Rattle.cob_convert.proofs.Rejections.{rejected_unread, rejected_unwritten, stops_record}

-- ---- records of which none was rejected

-- these are pairs of a record and what it became
record ArePairs (conversion : Conversion) (records : List (List ℕ × Outcome)) : Type 0 where
  pairs : List (List ℕ × List ℕ)
  each : AllByRecursion (IsConverted conversion) pairs
  inputs : inputs_of records ≡ records_in pairs
  outputs : converted_of records ≡ records_out pairs
  count : length records ≡ length pairs

are_pairs : (conversion : Conversion) (records : List (List ℕ × Outcome)) → AllByRecursion (HasItsOutcome conversion) records → length (rejected_of records) ≡ 0
    → ArePairs conversion records
are_pairs conversion [] each none = record { pairs = []; each = tt; inputs = refl; outputs = refl; count = refl }
are_pairs conversion ((input, Became written) ∷ records) (one, each) none =
    let rest = are_pairs conversion records each none in
    record {
      pairs = (input, written) ∷ rest.pairs;
      each = (one, rest.each);
      inputs = ap (λ (xs : List (List ℕ)). input ∷ xs) rest.inputs;
      outputs = ap (λ (xs : List (List ℕ)). written ∷ xs) rest.outputs;
      count = omega (arith, rest.count);
    }
are_pairs conversion ((input, WasRejected why) ∷ records) (one, each) none = absurd (omega (arith, none))

-- ---- why it stops

stops_plain : (conversion : Conversion) (most : ℕ) (records : List (List ℕ × Outcome)) (n : ℕ) (at : Remains) (why : Reason) → length records ≡ n → StopsAside conversion most records at why
    → StopsFor conversion n at why
stops_plain conversion most records n at why count (inl limit) = inl (record { limit = sym count ∙ limit.limit; unread = limit.unread; reason = limit.reason })
stops_plain conversion most records n at why count (inr (low, inl reads)) = inr (omega (arith, low, count), InRead reads)
stops_plain conversion most records n at why count (inr (low, inr rejects)) =
    inr (omega (arith, low, count), stops_record conversion at rejects.input why rejects.came rejects.rejected)

plain_by : (conversion : Conversion) (most : ℕ) (bytes rest : List ℕ) (before now : Outputs) (answer : Result Tally AsideFault) → (ran : RanAside conversion most answer bytes rest before now)
    → length (rejected_of ran.records) ≡ 0 → (why : AsideOutcome) → IsOverAside conversion most ran.records (remains ran.opened ran.left rest) ran.aside_part why → IsWorking why
    → answer ≡ answer_over (tally_of ran.records) (length ran.records) (count_of ran.written) why
    → ran.written ≡ written_of conversion.out_form (converted_of ran.records) → IsConversion conversion bytes rest before now answer
plain_by conversion most bytes rest before now answer ran none ending.Done (ends, nil) works is all =
    let plain = are_pairs conversion ran.records ran.each none in (
      ran.written,
      Ok (length (converted_of ran.records)),
      ran.output,
      subst (λ (a : Result Tally AsideFault). IsPlainAnswer a (Ok (length (converted_of ran.records)))) (sym is) refl,
      record {
        pairs = plain.pairs;
        opened = ran.opened;
        left = ran.left;
        come = subst (λ (xs : List (List ℕ)). Come conversion.in_form 0 xs bytes ran.opened ran.left) plain.inputs ran.come;
        each = plain.each;
        output = all ∙ ap (written_of conversion.out_form) plain.outputs;
        ends = record {
          count = ap length plain.outputs ∙ pairs_size plain.pairs;
          input = record { below = omega (arith, ends.below, plain.count); closed = ends.closed; none = ends.none; rest = ends.rest };
          all = all ∙ ap (written_of conversion.out_form) plain.outputs;
          nothing = refl;
        };
        read = refl;
        wrote = refl;
      },
    )
  where
    pairs_size : (pairs : List (List ℕ × List ℕ)) → length (records_out pairs) ≡ length pairs
    pairs_size [] = refl
    pairs_size (p ∷ pairs) = omega (arith, pairs_size pairs)
plain_by conversion most bytes rest before now answer ran none (ending.Stopped why) (stops, nil) (unread, unwritten) is all =
    let plain = are_pairs conversion ran.records ran.each none in
    let stop = fault_at (length ran.records + 1) why (count_of ran.written) in (
      ran.written,
      Err stop,
      ran.output,
      subst (λ (a : Result Tally AsideFault). IsPlainAnswer a (Err stop)) (sym is) refl,
      record {
        pairs = plain.pairs;
        opened = ran.opened;
        left = ran.left;
        come = subst (λ (xs : List (List ℕ)). Come conversion.in_form 0 xs bytes ran.opened ran.left) plain.inputs ran.come;
        each = plain.each;
        output = all ∙ ap (written_of conversion.out_form) plain.outputs;
        ends = record {
          written = omega arith;
          stops = inl (record {
            stops = stops_plain conversion most ran.records (length plain.pairs) (remains ran.opened ran.left rest) why plain.count stops;
            next = omega (arith, plain.count);
            all = all ∙ ap (written_of conversion.out_form) plain.outputs;
            nothing = refl;
          });
        };
        read = unread;
        wrote = unwritten;
      },
    )
plain_by conversion most bytes rest before now answer ran none (ending.NotSetAside cause) over works is all = absurd works

plain_of : (conversion : Conversion) (most : ℕ) (bytes rest : List ℕ) (before now : Outputs) (answer : Result Tally AsideFault) → (ran : RanAside conversion most answer bytes rest before now)
    → length (rejected_of ran.records) ≡ 0 → is_device_fault answer ≡ false → IsConversion conversion bytes rest before now answer
plain_of conversion most bytes rest before now answer ran none works =
    elim ran.ends [
      | inl ends ↦ plain_by conversion most bytes rest before now answer ran none ends.why ends.over
          (working ends.why (tally_of ran.records) (length ran.records) (count_of ran.written) answer ends.is works) ends.is ends.all
      | inr ends ↦ absurd (not_unwritten conversion most ran.records ran.opened ran.left rest ran.written ran.aside_part answer ends works)
    ]

-- an answer that counts is that of the records
counts_rejected : (t u : Tally) (n w : ℕ) (why : AsideOutcome) → Ok t ≡ answer_over u n w why → t.rejected ≡ u.rejected
counts_rejected t u n w ending.Done e = let same : ◌≡◌ {A = Result Tally AsideFault} (Ok t) (Ok u) = e in let one : t ≡ u = cc in ap (λ (x : Tally). x.rejected) one
counts_rejected t u n w (ending.Stopped why) e = absurd (cc)
counts_rejected t u n w (ending.NotSetAside cause) e = absurd (cc)

of_none : (conversion : Conversion) (most : ℕ) (bytes rest : List ℕ) (before now : Outputs) (answer : Result Tally AsideFault) → RanAside conversion most answer bytes rest before now
    → RejectsNone answer → IsConversion conversion bytes rest before now answer
of_none conversion most bytes rest before now (Err stop) ran none = absurd none
of_none conversion most bytes rest before now (Ok tally) ran none =
    plain_of conversion most bytes rest before now (Ok tally) ran
    (elim ran.ends [
      | inl ends ↦ sym (counts_rejected tally (tally_of ran.records) (length ran.records) (count_of ran.written) ends.why ends.is) ∙ none
      | inr ends ↦ absurd (not_unwritten conversion most ran.records ran.opened ran.left rest ran.written ran.aside_part (Ok tally) ends refl)
    ]) refl

-- ---- a run that noted none

none_behind : {X : Type 0} (xs ys : List X) → xs ≡ xs ++ ys → ys ≡ []
none_behind xs [] e = refl
none_behind xs (y ∷ ys) e = absurd (omega (arith, ap length e, length-append xs (y ∷ ys)))

-- each record that is rejected is noted
none_rejected : (conversion : Conversion) (before records : List (List ℕ × Outcome)) → notes_behind conversion before records ≡ [] → length (rejected_of records) ≡ 0
none_rejected conversion before [] none = refl
none_rejected conversion before ((input, Became written) ∷ records) none = none_rejected conversion (before ++ (input, Became written) ∷ []) records none
none_rejected conversion before ((input, WasRejected why) ∷ records) none = absurd (cc)

same_notes : (known : Option (List RunFault)) (notes more : List RunFault) → known ≡ Some notes → append_notes known more ≡ Some notes → notes ≡ notes ++ more
same_notes None notes more known same = absurd (cc)
same_notes (Some told) notes more known same =
    let first : told ≡ notes = cc in
    let all : told ++ more ≡ notes = cc in
    sym all ∙ ap (λ (xs : List RunFault). xs ++ more) first

of_unnoted : (conversion : Conversion) (most : ℕ) (bytes rest : List ℕ) (before now : Outputs) (answer : Result Tally AsideFault) (notes : List RunFault)
    → RanAside conversion most answer bytes rest before now → before.notes ≡ Some notes → now.notes ≡ Some notes → is_device_fault answer ≡ false
    → IsConversion conversion bytes rest before now answer
of_unnoted conversion most bytes rest before now answer notes ran known still works =
    let more : List RunFault = notes_of conversion ran.records in
    let none : more ≡ [] = none_behind notes more (same_notes before.notes notes more known (sym ran.told ∙ still)) in
    plain_of conversion most bytes rest before now answer ran (none_rejected conversion [] ran.records none) works

pub aside_is_run : AsideIsRun
aside_is_run = record {
  at_none = λ conversion bytes rest before now answer ran works. plain_of conversion 0 bytes rest before now answer ran (omega (arith, ran.within)) works;
  of_none = of_none;
  of_unnoted = of_unnoted;
}

-- ---- a record that was set aside

none_written : (form : Form) → [] ≡ written_of form []
none_written Fixed = refl
none_written Variable = refl
none_written (Blocked most) = refl

pub rejected_again : AloneIsOneRecord → RejectedAgain
rejected_again alone conversion input more why whole room rejected = record {
  pairs = [];
  opened = 0;
  left = framed_alone conversion.in_form input ++ more;
  come = (refl, refl);
  each = tt;
  output = none_written conversion.out_form;
  ends = record {
    written = refl;
    stops = inl (record {
      stops = inr (
        omega arith,
        stops_record conversion (remains 0 (framed_alone conversion.in_form input ++ more) more) input why
            (record { whole = whole; after = 0; frame = alone.comes conversion.in_form input more room }) rejected,
      );
      next = refl;
      all = none_written conversion.out_form;
      nothing = refl;
    });
  };
  read = rejected_unread conversion input why rejected;
  wrote = rejected_unwritten conversion input why rejected;
}
