use Rattle.std.proofs.Common.{◌≡◌, ◌<◌, ◌≤◌, ◌∙◌, ap, arith, refl, rules, sym, length, Ok, Err}
use Rattle.std.specs.Prelude.{slice_index, slice_set}
use Rattle.cob_layout_places.specs.Counts.{tables_of}
use Rattle.cob_layout_places.specs.Needs.{is_read}
use Rattle.cob_layout.specs.Counting.{greatest_counts}
use Rattle.cob_layout.specs.Kept.{kept_numbers}
use Rattle.cob_layout.proofs.LoneLemmas.{HasLone, has_lone, is_lone, lone_met, lone_refused, lone_taken}
use Rattle.cob_layout.proofs.LoneSumLemmas.{lone_most, lone_small, lone_sums}
use Rattle.cob_layout.proofs.NeedLemmas.{own_index}
use Rattle.cob_layout.proofs.ReachLemmas.{reach_kept}
use Rattle.cob_layout.proofs.RefreshLemmas.{needed_anew}
use Rattle.cob_layout.proofs.TakingLemmas.{number_below}
use Rattle.cob_layout.proofs.layout.Layout.read_lone.Goals as goal

pub offset_bounds-counts-lone : goal.offset_bounds-counts-lone
offset_bounds-counts-lone c =
    let u = c.args.self.now in
    let lt : c.args.lone.now.table.number < length c.args.counts.now = number_below u c.args.lone.now.table (length c.args.counts.now) c.requires.sound (is_lone u c.args.lone.now.table c.requires.lone.only) c.requires.counts in
    search rules

pub bounds-counts-lone : goal.bounds-counts-lone
bounds-counts-lone c =
    let u = c.args.self.now in
    number_below u c.args.lone.now.table (length c.args.counts.now) c.requires.sound (is_lone u c.args.lone.now.table c.requires.lone.only) c.requires.counts

pub returns-in-Err-clause-err : goal.returns-in-Err-clause-err
returns-in-Err-clause-err c =
    let u = c.args.self.now in
    let r = c.args.reference.now.node in
    let h = c.in-Err.ensures.read in
    needed_anew c.needs_are_read.ensures c.one_place.ensures u c.args.bytes.now r c.args.receiving c.args.reference.now.subscripts.items c.args.kept.now (Err c.in-Err.fault) h.0
    c.requires.sound c.requires.refers (ap length c.requires.unread ∙ sym (ap length c.requires.lone.only)) c.requires.kept
    (lone_refused u c.args.bytes.now (is_read u r c.args.receiving) c.args.lone.now.table (kept_numbers c.args.kept.now) c.in-Err.fault h.0 c.requires.lone.only c.requires.read h.1)

pub returns-in-Err-clause-reads : goal.returns-in-Err-clause-reads
returns-in-Err-clause-reads c =
    let u = c.args.self.now in
    let r = c.args.reference.now.node in
    let h = c.in-Err.ensures.read in
    (Err c.in-Err.fault, h.0, lone_refused u c.args.bytes.now (is_read u r c.args.receiving) c.args.lone.now.table (kept_numbers c.args.kept.now) c.in-Err.fault h.0 c.requires.lone.only c.requires.read h.1, h.2)

pub returns-clause-reads : goal.returns-clause-reads
returns-clause-reads c =
    let u = c.args.self.now in
    let h = c.in-Ok.ensures.read in
    (Ok (slice_set (greatest_counts u) c.args.lone.now.table.number c.in-Ok.number), h.0, lone_taken u c.args.bytes.now (is_read u c.args.reference.now.node c.args.receiving) c.args.lone.now.table (kept_numbers c.args.kept.now) c.in-Ok.number h.0 c.requires.lone.only c.requires.read h.1, h.2)

pub returns-clause-came : goal.returns-clause-came
returns-clause-came c =
    let u = c.args.self.now in
    let r = c.args.reference.now.node in
    let x = c.args.lone.now.table in
    let below : x.number < length c.args.counts.now = number_below u x (length c.args.counts.now) c.requires.sound (is_lone u x c.requires.lone.only) c.requires.counts in
    let e = slice_set c.args.counts.now x.number c.in-Ok.number in
    let m : HasLone u c.args.bytes.now r c.args.receiving (kept_numbers c.args.kept.now) c.keep_lone.new.kept e =
    has_lone c.needs_are_read.ensures c.one_place.ensures u c.args.bytes.now r c.args.receiving c.args.reference.now.subscripts.items x (kept_numbers c.args.kept.now) c.keep_lone.new.kept e c.in-Ok.number
    c.requires.sound c.requires.refers c.requires.lone.only c.requires.read c.in-Ok.ensures.keeps c.in-Ok.ensures.kept (own_index c.args.counts.now x.number x.number c.in-Ok.number refl below) in
    (m.counts, m.needed, m.place, m.kept)

pub put_lone_sums-requires-clause-room : goal.put_lone_sums-requires-clause-room
put_lone_sums-requires-clause-room c =
    let u = c.args.self.now in
    let below : c.args.lone.now.table.number < length c.args.counts.now = number_below u c.args.lone.now.table (length c.args.counts.now) c.requires.sound (is_lone u c.args.lone.now.table c.requires.lone.only) c.requires.counts in
    omega (arith, below, c.requires.counts, c.requires.sums)

pub put_lone_sums-requires-clause-small : goal.put_lone_sums-requires-clause-small
put_lone_sums-requires-clause-small c =
    let u = c.args.self.now in
    let x = c.args.lone.now.table in
    let v = c.in-Ok.number in
    let below : x.number < length c.args.counts.now = number_below u x (length c.args.counts.now) c.requires.sound (is_lone u x c.requires.lone.only) c.requires.counts in
    let e = slice_set c.args.counts.now x.number v in
    let own : slice_index e x.number ≡ v = own_index c.args.counts.now x.number x.number v refl below in
    let most : v ≤ x.most = lone_most u c.args.bytes.now x c.keep_lone.new.kept v c.requires.lone.only c.in-Ok.ensures.keeps c.in-Ok.ensures.kept in
    lone_small u c.args.lone.now e v c.requires.sound c.requires.lone own most

pub returns-clause-sums : goal.returns-clause-sums
returns-clause-sums c =
    let u = c.args.self.now in
    let x = c.args.lone.now.table in
    let v = c.in-Ok.number in
    let below : x.number < length c.args.counts.now = number_below u x (length c.args.counts.now) c.requires.sound (is_lone u x c.requires.lone.only) c.requires.counts in
    let e = slice_set c.args.counts.now x.number v in
    let own : slice_index e x.number ≡ v = own_index c.args.counts.now x.number x.number v refl below in
    let most : v ≤ x.most = lone_most u c.args.bytes.now x c.keep_lone.new.kept v c.requires.lone.only c.in-Ok.ensures.keeps c.in-Ok.ensures.kept in
    lone_sums u c.args.lone.now e v c.put_lone_sums.new.sums c.requires.sound c.requires.lone own most c.put_lone_sums.ensures

pub returns-clause-reach : goal.returns-clause-reach
returns-clause-reach c =
    let u = c.args.self.now in
    let x = c.args.lone.now.table in
    let v = c.in-Ok.number in
    let below : x.number < length c.args.counts.now = number_below u x (length c.args.counts.now) c.requires.sound (is_lone u x c.requires.lone.only) c.requires.counts in
    let e = slice_set c.args.counts.now x.number v in
    let own : slice_index e x.number ≡ v = own_index c.args.counts.now x.number x.number v refl below in
    let most : v ≤ x.most = lone_most u c.args.bytes.now x c.keep_lone.new.kept v c.requires.lone.only c.in-Ok.ensures.keeps c.in-Ok.ensures.kept in
    let sums = lone_sums u c.args.lone.now e v c.put_lone_sums.new.sums c.requires.sound c.requires.lone own most c.put_lone_sums.ensures in
    reach_kept u u 18446744073709551615 (tables_of u) e c.put_lone_sums.new.sums c.keep_lone.new.kept refl refl (lone_met u 18446744073709551615 e x c.keep_lone.new.kept v c.requires.lone.only c.in-Ok.ensures.kept own) sums
