use Rattle.std.proofs.Common.{ℕ, sym, subst, take}
use Rattle.std.proofs.lemmas.Result.{err_from_is_err_and}
use Rattle.cob_move_initial.specs.Initial.{IsInitial}
use Rattle.cob_convert_record.specs.Conversion.{Conversion}
use Rattle.cob_move_deeds.specs.Prepared.{deeds_of}
use Rattle.cob_move_apply.specs.declared.stop.Stop.{Stop}
use Rattle.cob_convert_record.specs.Becoming.{Becomes, IsCountStop, StopsAt}
use Rattle.cob_convert_stream.specs.Output.{IsOutputOf}
use Rattle.cob_convert_record.proofs.Outcomes.{at_move, at_count, becomes, if_error, if_value}
use Rattle.cob_convert_record.proofs.conversion.Conversion.convert_kept.Goals as goal

pub returns-in_err-apply_kept-clause-stops : goal.returns-in_err-apply_kept-clause-stops
returns-in_err-apply_kept-clause-stops c =
    let p = err_from_is_err_and c.from_residual.result c.from_residual.ensures.1 in
    let own : Conversion = record { in_form = c.self.inside.in_form; out_form = c.self.inside.out_form; records = record { input = c.self.inside.input; output = c.self.inside.output }; deeds = deeds_of (record { input = c.self.inside.input; output = c.self.inside.output }) c.self.inside.deeds } in
    let begins : IsInitial c.self.inside.output c.begin.new.output
    = subst (λ (x : Conversion). IsInitial x.records.output c.begin.new.output) (sym c.self.view_is) c.begin.ensures in
    let stops : StopsAt own c.args.input.now c.in_err-apply_kept.field-0.0
    = at_move own c.args.input.now c.begin.new.output c.apply_kept.new.output c.in_err-apply_kept.field-0.0 begins c.in_err-apply_kept.ensures.carried in
    rw (p.1, p.2) (subst (λ (x : Conversion). StopsAt x c.args.input.now c.in_err-apply_kept.field-0.0) c.self.view_is stops)

pub returns-clause-stops : goal.returns-clause-stops
returns-clause-stops c =
    let own : Conversion = record { in_form = c.self.inside.in_form; out_form = c.self.inside.out_form; records = record { input = c.self.inside.input; output = c.self.inside.output }; deeds = deeds_of (record { input = c.self.inside.input; output = c.self.inside.output }) c.self.inside.deeds } in
    let begins : IsInitial c.self.inside.output c.begin.new.output
    = subst (λ (x : Conversion). IsInitial x.records.output c.begin.new.output) (sym c.self.view_is) c.begin.ensures in
    if_error c.kept_output_length.result (λ (stop : Stop). IsCountStop c.self.inside.output c.apply_kept.new.output stop)
    (λ (stop : Stop). StopsAt c.args.self.now c.args.input.now stop) c.kept_output_length.ensures.stops
    (λ stop faulty. subst (λ (x : Conversion). StopsAt x c.args.input.now stop) c.self.view_is
    (at_count own c.args.input.now c.begin.new.output c.apply_kept.new.output stop begins c.in_ok-apply_kept.ensures.carried faulty))

pub returns-clause-converts : goal.returns-clause-converts
returns-clause-converts c =
    let own : Conversion = record { in_form = c.self.inside.in_form; out_form = c.self.inside.out_form; records = record { input = c.self.inside.input; output = c.self.inside.output }; deeds = deeds_of (record { input = c.self.inside.input; output = c.self.inside.output }) c.self.inside.deeds } in
    let begins : IsInitial c.self.inside.output c.begin.new.output
    = subst (λ (x : Conversion). IsInitial x.records.output c.begin.new.output) (sym c.self.view_is) c.begin.ensures in
    if_value c.kept_output_length.result (λ (made : ℕ). IsOutputOf c.self.inside.out_form c.self.inside.output c.apply_kept.new.output (take made c.apply_kept.new.output))
    (λ (made : ℕ). Becomes c.args.self.now c.args.input.now (take made c.apply_kept.new.output)) c.kept_output_length.ensures.written
    (λ made writes. subst (λ (x : Conversion). Becomes x c.args.input.now (take made c.apply_kept.new.output)) c.self.view_is
    (becomes own c.args.input.now c.begin.new.output c.apply_kept.new.output (take made c.apply_kept.new.output) begins c.in_ok-apply_kept.ensures.carried writes))
