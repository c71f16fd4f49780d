use Rattle.std.proofs.Common.{refl, sym, subst}
use Rattle.cob_layout.specs.Counting.{greatest_counts}
use Rattle.cob_records.specs.declared.records.Form.{Form}
use Rattle.cob_convert_stream.specs.Output.{IsOutputOf}
use Rattle.cob_convert_stream.proofs.writing.is_always_whole.Goals as goal

pub returns-in-Fixed : goal.returns-in-Fixed
returns-in-Fixed c = λ whole storage. subst (λ (f : Form). IsOutputOf f c.args.layout.now storage storage) (sym c.in-Fixed.is)
    ((greatest_counts c.args.layout.now, c.varies.ensures.same c.if-varies.false storage), refl)
