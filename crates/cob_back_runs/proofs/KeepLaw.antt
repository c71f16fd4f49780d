-- Conversions that lose nothing keep what the first one converts.
use Rattle.std.proofs.Common.{◌≡◌, ℕ, ◌<◌, List, length, take, refl, sym, ap, subst, ◌∙◌, arith, Ok, Result}
use Rattle.std.proofs.lemmas.List.{take_all}
use Rattle.cob_records.specs.declared.records.Form.{Form}
use Rattle.cob_records.specs.declared.records.Form.TheVariants.{Fixed, Variable, Blocked}
use Rattle.cob_records.specs.Frame.{IsRecord}
use Rattle.cob_copybook_tree.specs.Forests.{Forest}
use Rattle.cob_copybook_tree.specs.Nodes.{Resolved}
use Rattle.cob_copybook.specs.Bytes.{RecordsTakeBytes}
use Rattle.cob_layout_places.specs.declared.counts.CountFault.{CountFault}
use Rattle.cob_layout_places.specs.declared.varying.Table.{Table}
use Rattle.cob_layout_places.specs.Counts.{Taken}
use Rattle.cob_layout_places.specs.Cover.{AreNumbered}
use Rattle.cob_layout.specs.Counting.{CountsOf, greatest_counts}
use Rattle.cob_layout.specs.Sound.{RecordsAreSound}
use Rattle.cob_layout.specs.Storage.{current_length, greatest_length}
use Rattle.cob_layout.proofs.GreatestLemmas.{are_greatest}
use Rattle.cob_convert_stream.specs.Output.{IsOutputOf}
use Rattle.cob_convert_stream.specs.Sizes.{IsSized}
use Rattle.cob_move_initial.specs.Laws.{OneInitial}
use Rattle.cob_back_moves.specs.Apart.{VaryNone}
use Rattle.cob_back_moves.specs.Laws.{ReturnsKeep}
use Rattle.cob_back_moves.proofs.KeepsLaw.{length_tree}
use Rattle.cob_move_apply.specs.Applied.{done}
use Rattle.cob_move_deeds.specs.Deeds.{moves_of_deeds}
use Rattle.cob_move_deeds.specs.Laws.{StraightIsApplied}
use Rattle.cob_back_runs.specs.Laws.{LosslessKeep}

-- ---- records in which no table varies

ok_is : (a b : List ℕ) → ◌≡◌ {A = Result (List ℕ) CountFault} (Ok a) (Ok b) → a ≡ b
ok_is a b e = cc

counts_there : (t : Forest Resolved) (bytes : List ℕ) → VaryNone t → CountsOf t bytes (Ok (greatest_counts t))
counts_there t bytes none = subst (λ (xs : List Table). Taken t bytes xs (greatest_counts t) (Ok (greatest_counts t))) (sym none) refl

counts_are : (t : Forest Resolved) (bytes c : List ℕ) → VaryNone t → CountsOf t bytes (Ok c) → c ≡ greatest_counts t
counts_are t bytes c none h = ok_is c (greatest_counts t) (subst (λ (xs : List Table). Taken t bytes xs (greatest_counts t) (Ok c)) none h)

all_of_it : (t : Forest Resolved) → AreNumbered 0 t → current_length (greatest_counts t) t ≡ greatest_length t
all_of_it t num = (are_greatest t (greatest_counts t) num refl).length

current_all : (t : Forest Resolved) (bytes c : List ℕ) → AreNumbered 0 t → VaryNone t → CountsOf t bytes (Ok c) → current_length c t ≡ greatest_length t
current_all t bytes c num none h = ap (λ (d : List ℕ). current_length d t) (counts_are t bytes c none h) ∙ all_of_it t num

take_whole : (n : ℕ) (bytes : List ℕ) → length bytes ≡ n → take n bytes ≡ bytes
take_whole n bytes e = take_all n bytes (omega (arith, e))

sized_long : (form : Form) (t : Forest Resolved) (bytes : List ℕ) → AreNumbered 0 t → VaryNone t → IsSized form t bytes → length bytes ≡ greatest_length t
sized_long Fixed t bytes num none h = h
sized_long Variable t bytes num none (c, is, size) = size ∙ current_all t bytes c num none is
sized_long (Blocked most) t bytes num none (c, is, size) = size ∙ current_all t bytes c num none is

long_sized : (form : Form) (t : Forest Resolved) (bytes : List ℕ) → AreNumbered 0 t → VaryNone t → length bytes ≡ greatest_length t → IsSized form t bytes
long_sized Fixed t bytes num none e = e
long_sized Variable t bytes num none e = (greatest_counts t, counts_there t bytes none, e ∙ sym (all_of_it t num))
long_sized (Blocked most) t bytes num none e = (greatest_counts t, counts_there t bytes none, e ∙ sym (all_of_it t num))

long_record : (form : Form) (greatest : ℕ) (bytes : List ℕ) → 0 < greatest → length bytes ≡ greatest → IsRecord form greatest bytes
long_record Fixed greatest bytes some e = e
long_record Variable greatest bytes some e = (omega (arith, some, e), omega (arith, e))
long_record (Blocked most) greatest bytes some e = (omega (arith, some, e), omega (arith, e))

written_all : (form : Form) (t : Forest Resolved) (storage written : List ℕ) → AreNumbered 0 t → VaryNone t → length storage ≡ greatest_length t → IsOutputOf form t storage written
    → written ≡ storage
written_all Fixed t storage written num none size (counts, e) = e
written_all Variable t storage written num none size (c, is, e) =
    e ∙ ap (λ (n : ℕ). take n storage) (current_all t storage c num none is) ∙ take_whole (greatest_length t) storage size
written_all (Blocked most) t storage written num none size (c, is, e) =
    e ∙ ap (λ (n : ℕ). take n storage) (current_all t storage c num none is) ∙ take_whole (greatest_length t) storage size

all_written : (form : Form) (t : Forest Resolved) (storage : List ℕ) → AreNumbered 0 t → VaryNone t → length storage ≡ greatest_length t → IsOutputOf form t storage storage
all_written Fixed t storage num none size = ((greatest_counts t, counts_there t storage none), refl)
all_written Variable t storage num none size =
    (greatest_counts t, counts_there t storage none, sym (ap (λ (n : ℕ). take n storage) (all_of_it t num) ∙ take_whole (greatest_length t) storage size))
all_written (Blocked most) t storage num none size =
    (greatest_counts t, counts_there t storage none, sym (ap (λ (n : ℕ). take n storage) (all_of_it t num) ∙ take_whole (greatest_length t) storage size))

pub lossless_keep : StraightIsApplied → ReturnsKeep → OneInitial → RecordsAreSound → RecordsTakeBytes → LosslessKeep
lossless_keep straight law one sound some there back ready ready_back (straight_there, straight_back, lossless) = record {
  turned = lossless.turned;
  each = λ input written sized becomes.
      let num_in = (sound there.records.input ready.input).numbered in
      let num_out = (sound there.records.output ready.output).numbered in
      let num_middle = (sound back.records.input ready_back.input).numbered in
      let num_end = (sound back.records.output ready_back.output).numbered in
      let (image, is, size) = ready.image in
      let (start, starts, start_size) = ready_back.image in
      let same : becomes.initial ≡ image = one there.records.output becomes.initial image becomes.begins is in
      let long = sized_long there.in_form there.records.input input num_in lossless.input.steady sized in
      let (after_size, kept) = law there.records back.records (moves_of_deeds there.deeds) (moves_of_deeds back.deeds) input becomes.initial becomes.last start
      ready.input ready.output ready_back.input ready_back.output lossless.turned lossless.input lossless.output lossless.input_back lossless.output_back
      ready.moves ready_back.moves lossless.returns long (ap length same ∙ size) start_size
      ((straight there.records there.deeds input becomes.initial (done becomes.last) straight_there).0 becomes.carried) in
      let (last, applied, last_size, again) = kept in
      let all : written ≡ becomes.last = written_all there.out_form there.records.output becomes.last written num_out lossless.output.steady after_size becomes.writes in
      let middle : length written ≡ greatest_length back.records.input =
      ap length all ∙ after_size ∙ length_tree there.records.output back.records.input lossless.turned.middle in
      record {
        whole = long_record back.in_form (greatest_length back.records.input) written (some back.records.input ready_back.input).1 middle;
        sized = long_sized back.in_form back.records.input written num_middle lossless.input_back.steady middle;
        last = last;
        becomes = record {
          initial = start;
          begins = starts;
          last = last;
          carried = (straight back.records back.deeds written start (done last) straight_back).1 (rw all applied);
          writes = all_written back.out_form back.records.output last num_end lossless.output_back.steady last_size;
        };
        again = again;
      };
}
