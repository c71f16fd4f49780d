use Rattle.std.proofs.Common.{ap, subst, sym, ◌∙◌}
use Rattle.cob_records.specs.Forms.{FitsForm, outlet_of}
use Rattle.cob_convert_record.specs.Conversion.{Conversion, conversion_by, in_length, out_length}
use Rattle.cob_convert_record.specs.Rooms.{capacity_for}
use Rattle.cob_convert.proofs.converter.Converter.with_reading.Goals as goal

pub invariant_of-result : goal.invariant_of-result
invariant_of-result c =
    let (input, output, room, outlet, fits) = c.self.invariant in
    let is = c.with_reading.ensures in
    (input ∙ sym (ap in_length is), output ∙ sym (ap out_length is), room ∙ sym (ap (λ (x : Conversion). capacity_for x.records) is), outlet ∙ sym (ap (λ (x : Conversion). outlet_of x.out_form) is), subst (λ (x : Conversion). FitsForm x.out_form (out_length x)) (sym is) fits)

pub returns : goal.returns
returns c = c.with_reading.ensures ∙ ap (conversion_by c.args.reading) c.self.view_is
