-- A run back over what a run there wrote.
use Rattle.std.proofs.Common.{◌≡◌, ℕ, ◌<◌, List, [], ◌∷◌, length, refl, sym, ap, subst, ◌∙◌, arith}
use Rattle.std.specs.List.{AllByRecursion}
use Rattle.cob_records.specs.declared.records.Form.{Form}
use Rattle.cob_records.specs.declared.records.Form.TheVariants.{Fixed, Variable, Blocked}
use Rattle.cob_records.specs.Frame.{IsRecord}
use Rattle.cob_records.specs.Forms.{Come, FitsForm, FormsAreFrames, written_of}
use Rattle.cob_convert_stream.specs.Input.{records_in}
use Rattle.cob_convert_record.specs.Conversion.{Conversion, in_length, out_length}
use Rattle.cob_convert.specs.Run.{IsConverted, most_records, records_out}
use Rattle.cob_back_moves.specs.Returns.{HoldsAgain}
use Rattle.cob_back_moves.proofs.KeepsLaw.{length_tree}
use Rattle.cob_back_runs.specs.Keeps.{ComesBack, Keeps}
use Rattle.cob_back_runs.specs.Laws.{LosslessRuns}
use Rattle.cob_back_runs.proofs.ComeLemmas.{HasRoomIn, written_comes}

-- the records back, each with what it becomes, and the records there, each with what comes back of it
record Backs (there back : Conversion) (pairs : List (List ℕ × List ℕ)) : Type 0 where
  backs : List (List ℕ × List ℕ)
  trips : List (List ℕ × List ℕ)
  read : records_in backs ≡ records_out pairs
  each : AllByRecursion (IsConverted back) backs
  many : length backs ≡ length pairs
  input : records_in trips ≡ records_in pairs
  output : records_out trips ≡ records_out backs
  held : AllByRecursion (λ (pair : List ℕ × List ℕ). HoldsAgain there.records.input pair.0 pair.1) trips
  room : AllByRecursion (λ (body : List ℕ). IsRecord back.in_form (in_length back) body) (records_out pairs)

backs_of : (there back : Conversion) → Keeps there back → (pairs : List (List ℕ × List ℕ)) → AllByRecursion (IsConverted there) pairs → Backs there back pairs
backs_of there back keeps [] all =
    record { backs = []; trips = []; read = refl; each = tt; many = refl; input = refl; output = refl; held = tt; room = tt }
backs_of there back keeps (p ∷ pairs) all =
    let rest = backs_of there back keeps pairs all.1 in
    let home : ComesBack there back p.0 p.1 = keeps.each p.0 p.1 all.0.sized all.0.converts in
    record {
      backs = (p.1, home.last) ∷ rest.backs;
      trips = (p.0, home.last) ∷ rest.trips;
      read = ap (λ (bs : List (List ℕ)). p.1 ∷ bs) rest.read;
      each = (record { whole = home.whole; sized = home.sized; converts = home.becomes }, rest.each);
      many = omega (arith, rest.many);
      input = ap (λ (bs : List (List ℕ)). p.0 ∷ bs) rest.input;
      output = ap (λ (bs : List (List ℕ)). home.last ∷ bs) rest.output;
      held = (home.again, rest.held);
      room = (home.whole, rest.room);
    }

room_for : (form : Form) (greatest : ℕ) (body : List ℕ) → FitsForm form greatest → IsRecord form greatest body → HasRoomIn form body
room_for Fixed greatest body fits is = tt
room_for Variable greatest body fits is = tt
room_for (Blocked most) greatest body fits is = (is.0, omega (arith, fits, is.1))

rooms_for : (form : Form) (greatest : ℕ) (bodies : List (List ℕ)) → FitsForm form greatest → AllByRecursion (λ (body : List ℕ). IsRecord form greatest body) bodies
    → AllByRecursion (HasRoomIn form) bodies
rooms_for form greatest [] fits all = tt
rooms_for form greatest (b ∷ bs) fits all = (room_for form greatest b fits all.0, rooms_for form greatest bs fits all.1)

pub lossless_runs : FormsAreFrames → LosslessRuns
lossless_runs law there back bytes written number fits form keeps run =
    let b = backs_of there back keeps run.pairs run.each in
    let same : in_length back ≡ out_length there = sym (length_tree there.records.output back.records.input keeps.turned.middle) in
    let fits_back : FitsForm back.in_form (in_length back) = rw (form, same) fits in
    let comes : Come back.in_form 0 (records_out run.pairs) (written_of back.in_form (records_out run.pairs)) 0 [] =
    written_comes law back.in_form (records_out run.pairs) (rooms_for back.in_form (in_length back) (records_out run.pairs) fits_back b.room) in
    let is_written : written_of back.in_form (records_out run.pairs) ≡ written = ap (λ (f : Form). written_of f (records_out run.pairs)) form ∙ sym run.output in
    let come : Come back.in_form 0 (records_in b.backs) written 0 [] =
    subst (λ (bodies : List (List ℕ)). Come back.in_form 0 bodies written 0 []) (sym b.read)
    (subst (λ (xs : List ℕ). Come back.in_form 0 (records_out run.pairs) xs 0 []) is_written comes) in
    let again : List ℕ = written_of back.out_form (records_out b.backs) in
    let came : Come there.in_form 0 (records_in run.pairs) bytes 0 [] =
    subst (λ (left : List ℕ). Come there.in_form 0 (records_in run.pairs) bytes 0 left) run.ends.input.none
    (subst (λ (opened : ℕ). Come there.in_form 0 (records_in run.pairs) bytes opened run.left) run.ends.input.closed run.come) in (
      again,
      record {
        pairs = b.backs;
        opened = 0;
        left = [];
        come = come;
        each = b.each;
        output = refl;
        ends = record {
          count = run.ends.count ∙ sym b.many;
          input = record { below = subst (λ (n : ℕ). n < most_records) (sym b.many) run.ends.input.below; closed = refl; none = refl; rest = refl };
          all = refl;
          nothing = refl;
        };
        read = refl;
        wrote = refl;
      },
      record {
        pairs = b.trips;
        come = subst (λ (bodies : List (List ℕ)). Come there.in_form 0 bodies bytes 0 []) (sym b.input) came;
        output = ap (λ (bodies : List (List ℕ)). written_of back.out_form bodies) (sym b.output);
        each = b.held;
      },
    )
