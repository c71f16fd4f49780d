use Rattle.std.proofs.Common.{refl}
use Rattle.cob_report_compare.proofs.AddLemmas.{is_full, is_not_full}
use Rattle.cob_report_compare.proofs.BytesLemmas.{byte_last, byte_none}
use Rattle.cob_report_compare.proofs.bytes.add_byte.Goals as goal

pub returns-then-not-is_full-clause-told : goal.returns-then-not-is_full-clause-told
returns-then-not-is_full-clause-told c =
    byte_last c.args.byte c.args.told.now _ (is_not_full c.is_full.result _ c.is_full.ensures.value c.is_full.ensures.fits c.if-not-is_full.true) c.push.ensures.items refl

pub returns-else-not-is_full-clause-told : goal.returns-else-not-is_full-clause-told
returns-else-not-is_full-clause-told c =
    byte_none c.args.byte c.args.told.now _ (is_full c.is_full.result _ c.is_full.ensures.value c.if-not-is_full.false) refl refl
