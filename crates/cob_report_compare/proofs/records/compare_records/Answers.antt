use Rattle.std.proofs.Common.{rules, ◌≡◌, map}
use Rattle.cob_report_show.specs.Elements.{named_item}
use Rattle.cob_report_compare.specs.Equal.{EqualByValue, printed_of}
use Rattle.cob_report_compare.proofs.ToldLemmas.{equal_of_none, none_of_equal}
use Rattle.cob_report_compare.proofs.records.compare_records.Goals as goal
use Rattle.cob_report_compare.proofs.records.compare_records.Goals.{else-occur_alike-via-then-occur_alike+else-is_empty, else-occur_alike-via-else-occur_alike}

pub returns-then-eq : goal.returns-then-eq
returns-then-eq c =
    let same : c.args.left.bytes.now ≡ c.args.right.bytes.now = search rules in
    record {
      is = (
        same,
        c.same_bytes_are_equal.ensures (map named_item c.args.items.now) (printed_of c.args.left) (printed_of c.args.right) c.greatest.ensures.record c.requires.items c.requires.one
            c.requires.left c.requires.right same,
      );
    }

pub returns-then-is_empty : goal.returns-then-is_empty
returns-then-is_empty c =
    let other : c.args.left.bytes.now ≡ c.args.right.bytes.now → ⊥ = search rules in
    let (all, are, first) = c.differences-told.ensures.told in
    record {
      is = (
        other,
        equal_of_none (printed_of c.args.left) (printed_of c.args.right) (map named_item c.args.items.now) all (c.occur_alike.ensures.yes c.if-occur_alike.true) are
            (c.is_empty.ensures.yes all first c.if-is_empty.true),
      );
    }

pub returns : goal.returns
returns c =
    let l = printed_of c.args.left in
    let r = printed_of c.args.right in
    let xs = map named_item c.args.items.now in
    let (all, are, first) = c.differences-told.ensures.told in
    let unequal : EqualByValue xs l r → ⊥ = elim c.else-occur_alike.branch [
      | else-occur_alike-via-then-occur_alike+else-is_empty w ↦ λ equal. w.is_empty.ensures.no all first w.if-is_empty.false (none_of_equal l r xs all are equal)
      | else-occur_alike-via-else-occur_alike w ↦ λ equal. c.occur_alike.ensures.no w.if-occur_alike.false equal.alike
    ] in
    record { is = (unequal, (all, are, first)) }
