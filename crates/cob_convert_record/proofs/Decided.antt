-- What becomes of one record is determined.
use Rattle.std.proofs.Common.{◌≡◌, ℕ, List, sym, ◌∙◌, ap, subst, Option, Some, None, Err, Result, inl, inr}
use Rattle.cob_copybook_tree.specs.Forests.{Forest}
use Rattle.cob_copybook_tree.specs.Nodes.{Resolved}
use Rattle.cob_layout_places.specs.declared.counts.CountFault.{CountFault}
use Rattle.cob_layout.specs.Counting.{CountsOf}
use Rattle.cob_layout.specs.Laws.{OneOfAll}
use Rattle.cob_move_initial.specs.Initial.{IsInitial}
use Rattle.cob_move_initial.specs.Laws.{OneInitial}
use Rattle.cob_move_data.specs.declared.operands.Side.TheVariants.{Out}
use Rattle.cob_convert_record.specs.Conversion.{Conversion}
use Rattle.cob_move_apply.specs.declared.stop.Stop.{Stop}
use Rattle.cob_move_apply.specs.declared.stop.StopCause.TheVariants.{Count as CountCause}
use Rattle.cob_move_apply.specs.Located.{stop_at}
use Rattle.cob_move_apply.specs.Applied.{Ending, done, stopped}
use Rattle.cob_move_deeds.specs.Deeds.{Carried}
use Rattle.cob_move_deeds.specs.Laws.{OneCarried}
use Rattle.cob_move_deeds.specs.Tests.{Judged}
use Rattle.cob_convert_stream.specs.Laws.{RecordsAreJudgedOnce}
use Rattle.cob_convert_stream.specs.Output.{IsOutputOf}
use Rattle.cob_convert_record.specs.Becoming.{Becomes, StopsAt}
use Rattle.cob_convert_record.specs.Laws.{ConversionsAreDecided}

-- two faults of the counts of one storage are one
one_fault : OneOfAll → (t : Forest Resolved) (bytes : List ℕ) (a b : CountFault) → CountsOf t bytes (Err a) → CountsOf t bytes (Err b) → a ≡ b
one_fault law t bytes a b p q =
    let same : ◌≡◌ {A = Result (List ℕ) CountFault} (Err a) (Err b) = law t bytes (Err a) (Err b) p q in
    cc

-- a stop is no end of all that is done
stopped_or_done : (stop : Stop) (a b : List ℕ) → stopped stop a ≡ done b → ⊥
stopped_or_done stop a b same =
    let stops : ◌≡◌ {A = Option Stop} (Some stop) None = ap (λ (e : Ending). e.stop) same in
    cc

-- two stops of one ending are one
same_stop : (a b : Stop) (x y : List ℕ) → stopped a x ≡ stopped b y → a ≡ b
same_stop a b x y same =
    let stops : Some a ≡ Some b = ap (λ (e : Ending). e.stop) same in
    cc

-- what a conversion does ends in one way, whichever initial storage is named
endings_agree : OneInitial → OneCarried → (c : Conversion) (input i j : List ℕ) (a b : Ending)
    → IsInitial c.records.output i → IsInitial c.records.output j
    → Carried (Judged c.records) c.records c.deeds input i a → Carried (Judged c.records) c.records c.deeds input j b → a ≡ b
endings_agree initial ending c input i j a b begins starts p q =
    let same : i ≡ j = initial c.records.output i j begins starts in
    ending c.records c.deeds input j a b (subst (λ (x : List ℕ). Carried (Judged c.records) c.records c.deeds input x a) same p) q

one_output : RecordsAreJudgedOnce → OneInitial → OneCarried → (c : Conversion) (input a b : List ℕ) → Becomes c input a → Becomes c input b → a ≡ b
one_output judged initial ending c input a b p q =
    let same : done p.last ≡ done q.last = endings_agree initial ending c input p.initial q.initial (done p.last) (done q.last) p.begins q.begins p.carried q.carried in
    let last : p.last ≡ q.last = ap (λ (e : Ending). e.storage) same in
    (judged c.out_form c.records.output).one_output q.last a b (subst (λ (x : List ℕ). IsOutputOf c.out_form c.records.output x a) last p.writes) q.writes

one_stop : OneOfAll → OneInitial → OneCarried → (c : Conversion) (input : List ℕ) (a b : Stop) → StopsAt c input a → StopsAt c input b → a ≡ b
one_stop law initial ending c input a b p q =
    let agree : (x y : Ending) → Carried (Judged c.records) c.records c.deeds input p.initial x → Carried (Judged c.records) c.records c.deeds input q.initial y → x ≡ y
    = λ x y s t. endings_agree initial ending c input p.initial q.initial x y p.begins q.begins s t in
    elim p.stops [
      | inl s ↦ elim q.stops [
        | inl t ↦ same_stop a b p.last q.last (agree (stopped a p.last) (stopped b q.last) s t)
        | inr (t, lacking) ↦ absurd (stopped_or_done a p.last q.last (agree (stopped a p.last) (done q.last) s t))
      ]
      | inr (s, missing) ↦ elim q.stops [
        | inl t ↦ absurd (stopped_or_done b q.last p.last (sym (agree (done p.last) (stopped b q.last) s t)))
        | inr (t, lacking) ↦
            let (f, faulty, at) = missing in
            let (g, also, there) = lacking in
            let last : p.last ≡ q.last = ap (λ (e : Ending). e.storage) (agree (done p.last) (done q.last) s t) in
            let one : f ≡ g = one_fault law c.records.output q.last f g (subst (λ (x : List ℕ). CountsOf c.records.output x (Err f)) last faulty) also in
            at ∙ ap (λ (x : CountFault). stop_at Out x.offset CountCause) one ∙ sym there
      ]
    ]

not_both : RecordsAreJudgedOnce → OneInitial → OneCarried → (c : Conversion) (input written : List ℕ) (stop : Stop) → Becomes c input written → StopsAt c input stop → ⊥
not_both judged initial ending c input written stop p q =
    let agree : (y : Ending) → Carried (Judged c.records) c.records c.deeds input q.initial y → done p.last ≡ y
    = λ y t. endings_agree initial ending c input p.initial q.initial (done p.last) y p.begins q.begins p.carried t in
    elim q.stops [
      | inl t ↦ stopped_or_done stop q.last p.last (sym (agree (stopped stop q.last) t))
      | inr (t, missing) ↦
          let (f, faulty, at) = missing in
          let last : p.last ≡ q.last = ap (λ (e : Ending). e.storage) (agree (done q.last) t) in
          (judged c.out_form c.records.output).output_or_fault q.last written f
          (subst (λ (x : List ℕ). IsOutputOf c.out_form c.records.output x written) last p.writes) faulty
    ]

pub conversions_are_decided : RecordsAreJudgedOnce → OneOfAll → OneInitial → OneCarried → ConversionsAreDecided
conversions_are_decided judged law initial ending c = record {
  sized_or_misfit = (judged c.in_form c.records.input).sized_or_misfit;
  one_misfit = (judged c.in_form c.records.input).one_misfit;
  one_output = λ input a b p q. one_output judged initial ending c input a b p q;
  one_stop = λ input a b p q. one_stop law initial ending c input a b p q;
  not_both = λ input written stop p q. not_both judged initial ending c input written stop p q;
}
