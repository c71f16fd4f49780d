use Rattle.std.proofs.Common.{sym, subst, map, List, ℕ}
use Rattle.cob_report_show.specs.Elements.{named_item}
use Rattle.cob_report_compare.specs.Equal.{printed_of}
use Rattle.cob_report_compare.specs.Files.{TakesKey}
use Rattle.cob_report_compare.proofs.heads.hold_key.Goals as goal

pub key_offset-requires-clause-some : goal.key_offset-requires-clause-some
key_offset-requires-clause-some c = (c.is_below.ensures.yes c.if-is_below.true).1

pub returns-then-is_below-clause-refuses : goal.returns-then-is_below-clause-refuses
returns-then-is_below-clause-refuses c =
    let (key, parts) = c.in_default.ensures.key in
    let (more, some, above) = c.is_below.ensures.yes c.if-is_below.true in
    (more, (c.take_key.new.slot, key, c.in_default.ensures.bytes, parts, λ old is. above old key is parts, c.key_offset.ensures))

pub returns-clause-takes : goal.returns-clause-takes
returns-clause-takes c =
    let (key, parts) = c.in_default.ensures.key in
    subst (λ (bytes : List ℕ). TakesKey (map named_item c.args.keys.now) (printed_of c.args.compared) c.args.first c.args.held.now bytes) (sym c.copy_from_slice.ensures.after)
    (c.in_default.ensures.bytes, (key, parts, λ more old is. c.is_below.ensures.no c.if-is_below.false more old key is parts))
