use Rattle.std.proofs.Common.{◌≡◌, true, false, sym, subst, ◌∙◌}
use Rattle.cob_copybook_entries.specs.Parts.{IsUnsigned}
use Rattle.cob_copybook_entries.proofs.Literals.{literal_from, literal_only}
use Rattle.cob_copybook_entries.proofs.value.is_numeric_literal.Goals as goal

pub returns : goal.returns
returns c = record {
  yes = λ t. literal_from c.args.text.now (subst (IsUnsigned false) c.without_sign.ensures (c.is_unsigned.ensures.0 t));
  no = λ f l h. let t = c.is_unsigned.ensures.1 (subst (IsUnsigned false) (sym c.without_sign.ensures) (literal_only c.args.text.now l h)) in let k : true ≡ false = sym t ∙ f in cc;
}
