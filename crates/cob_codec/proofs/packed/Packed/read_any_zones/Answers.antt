use Rattle.std.proofs.Common.{◌∙◌, inr}
use Rattle.cob_codec.specs.AnyZones.{AreFilled, IsPackedByAnyZones}
use Rattle.cob_codec.specs.Packed.{IsPacked}
use Rattle.cob_codec.proofs.AnyZoneLaws.{one_packed}
use Rattle.cob_codec.proofs.AnyZoneLemmas.{filled_zero, packed_alone, unless_told}
use Rattle.cob_codec.proofs.PackedLaws.{one_number}
use Rattle.cob_codec.proofs.SignLemmas.{only_from}
use Rattle.cob_codec.proofs.packed.Packed.read_any_zones.Goals as goal

pub returns-then-is_filled-clause-only : goal.returns-then-is_filled-clause-only
returns-then-is_filled-clause-only c = λ negative digits it.
    let shape = c.args.shape.now in
    let found : IsPackedByAnyZones shape.digits shape.signed c.args.bytes.now c.new.result.negative c.new.result.digits =
    inr (filled_zero shape.digits c.args.bytes.now c.new.result.negative c.new.result.digits _ c.requires.long (c.is_filled.ensures.0 c.if-is_filled.true)
    (c.new.ensures.digits ∙ c.zeros.ensures) c.new.ensures.sign) in
    one_packed shape.digits shape.signed c.args.bytes.now c.new.result.negative negative c.new.result.digits digits found it

pub returns-clause-only : goal.returns-clause-only
returns-clause-only c = λ negative digits it.
    let shape = c.args.shape.now in
    let strict : IsPacked shape.digits shape.signed c.args.bytes.now negative digits =
    packed_alone shape.digits shape.signed c.args.bytes.now negative digits
    (unless_told c.is_filled.result (AreFilled c.args.bytes.now) c.is_filled.ensures c.if-is_filled.false) it in
    only_from c.read_packed.result _ _ _ c.read_packed.ensures.found c.read_packed.ensures.none (λ none. none negative digits strict)
    (λ v found. one_number shape.digits shape.signed c.args.bytes.now v.negative negative v.digits digits found strict)
