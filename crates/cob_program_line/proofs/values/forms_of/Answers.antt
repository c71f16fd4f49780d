use Rattle.std.proofs.Common.{codes, inl, inr, refl, ◌∙◌}
use Rattle.cob_program_options.specs.Looks.{Look, look_of}
use Rattle.cob_program_line.specs.declared.fault.LineFault.TheVariants.{Block, Form, Reading}
use Rattle.cob_program_line.proofs.Apps.{block_beside, block_sized, both_forms, fault_is, has_reading, named_sized, same_letter, sized_again, told}
use Rattle.cob_program_line.proofs.values.forms_of.Goals as goal

pub returns-in_err-in_form-clause-fault : goal.returns-in_err-in_form-clause-fault
returns-in_err-in_form-clause-fault c =
    let look : Look = look_of c.args.options.now in
    told c.from_residual.result _ _
    (λ fault is. fault_is look fault Form (is ∙ c.in_err-in_form.ensures.fault.0) (codes "in-form", inr (inl refl), c.in_err-in_form.ensures.fault.1))
    c.from_residual.ensures.1

pub returns-in_err-out_form-clause-fault : goal.returns-in_err-out_form-clause-fault
returns-in_err-out_form-clause-fault c =
    let look : Look = look_of c.args.options.now in
    told c.from_residual-in_err-out_form.result _ _
    (λ fault is. fault_is look fault Form (is ∙ c.in_err-out_form.ensures.fault.0) (codes "out-form", inr (inr (inl refl)), c.in_err-out_form.ensures.fault.1))
    c.from_residual-in_err-out_form.ensures.1

pub returns-in_err-reading-clause-fault : goal.returns-in_err-reading-clause-fault
returns-in_err-reading-clause-fault c =
    let look : Look = look_of c.args.options.now in
    told c.from_residual-in_err-reading.result _ _
    (λ fault is. fault_is look fault Reading (is ∙ c.in_err-reading.ensures.fault.0)
    (both_forms look _ _ c.requires.only c.requires.neither c.in_ok-in_form.ensures.named c.in_ok-out_form.ensures.named, c.in_err-reading.ensures.fault.1))
    c.from_residual-in_err-reading.ensures.1

pub returns-in_err-in_block-clause-fault : goal.returns-in_err-in_block-clause-fault
returns-in_err-in_block-clause-fault c =
    let look : Look = look_of c.args.options.now in
    told c.from_residual-in_err-in_block.result _ _
    (λ fault is. fault_is look fault Block (is ∙ c.in_err-in_block.ensures.fault.0) (
      (both_forms look _ _ c.requires.only c.requires.neither c.in_ok-in_form.ensures.named c.in_ok-out_form.ensures.named, has_reading look _ c.in_ok-reading.ensures.named),
      inl (c.in_ok-in_form.in_form, c.in_ok-in_form.ensures.named, c.in_err-in_block.ensures.fault.1),
    ))
    c.from_residual-in_err-in_block.ensures.1

pub returns-in_err-out_block-clause-fault : goal.returns-in_err-out_block-clause-fault
returns-in_err-out_block-clause-fault c =
    let look : Look = look_of c.args.options.now in
    told c.from_residual-in_err-out_block.result _ _
    (λ fault is. fault_is look fault Block (is ∙ c.in_err-out_block.ensures.fault.0) (
      (both_forms look _ _ c.requires.only c.requires.neither c.in_ok-in_form.ensures.named c.in_ok-out_form.ensures.named, has_reading look _ c.in_ok-reading.ensures.named),
      inr (c.in_ok-out_form.out_form, c.in_ok-out_form.ensures.named, c.in_err-out_block.ensures.fault.1),
    ))
    c.from_residual-in_err-out_block.ensures.1

pub returns-in_err-in_block-clause-lacks : goal.returns-in_err-in_block-clause-lacks
returns-in_err-in_block-clause-lacks c =
    let look : Look = look_of c.args.options.now in
    told c.from_residual-in_err-in_block.result _ _
    (λ fault is forms says. c.in_err-in_block.ensures.lacks forms.in_block
    (block_beside look (codes "in-block") forms.input c.in_ok-in_form.in_form forms.in_block
    (same_letter look (codes "in-form") forms.input c.in_ok-in_form.in_form says.in_letter c.in_ok-in_form.ensures.named) says.in_size))
    c.from_residual-in_err-in_block.ensures.1

pub returns-in_err-out_block-clause-lacks : goal.returns-in_err-out_block-clause-lacks
returns-in_err-out_block-clause-lacks c =
    let look : Look = look_of c.args.options.now in
    told c.from_residual-in_err-out_block.result _ _
    (λ fault is forms says. c.in_err-out_block.ensures.lacks forms.out_block
    (block_beside look (codes "out-block") forms.output c.in_ok-out_form.out_form forms.out_block
    (same_letter look (codes "out-form") forms.output c.in_ok-out_form.out_form says.out_letter c.in_ok-out_form.ensures.named) says.out_size))
    c.from_residual-in_err-out_block.ensures.1

pub returns-clause-named : goal.returns-clause-named
returns-clause-named c =
    let look : Look = look_of c.args.options.now in record {
      in_letter = named_sized look (codes "in-form") c.in_ok-in_form.in_form c.sized.result c.in_ok-in_block.in_block c.sized.ensures.value c.in_ok-in_form.ensures.named;
      out_letter = named_sized look (codes "out-form") c.in_ok-out_form.out_form c.sized-2.result c.in_ok-out_block.out_block c.sized-2.ensures.value c.in_ok-out_form.ensures.named;
      in_size = block_sized look (codes "in-block") c.in_ok-in_form.in_form c.sized.result c.in_ok-in_block.in_block c.sized.ensures.value c.in_ok-in_block.ensures.named;
      out_size = block_sized look (codes "out-block") c.in_ok-out_form.out_form c.sized-2.result c.in_ok-out_block.out_block c.sized-2.ensures.value c.in_ok-out_block.ensures.named;
      in_sized = sized_again c.in_ok-in_form.in_form c.sized.result c.in_ok-in_block.in_block c.sized.ensures.value;
      out_sized = sized_again c.in_ok-out_form.out_form c.sized-2.result c.in_ok-out_block.out_block c.sized-2.ensures.value;
      reads = c.in_ok-reading.ensures.named;
    }
