-- Every record description is sound.
use Rattle.std.proofs.Common.{◌≡◌, sym, subst, [], arith}
use Rattle.std.specs.Prelude.{None}
use Rattle.std.specs.List.{AllByRecursion}
use Rattle.cob_copybook_tree.specs.Forests.{Forest}
use Rattle.cob_copybook_tree.specs.Nodes.{Resolved}
use Rattle.cob_copybook_tree.specs.Resolving.{resolved}
use Rattle.cob_copybook_rules.specs.Areas.{ArePossible}
use Rattle.cob_copybook.proofs.Storages.{possible}
use Rattle.cob_layout_places.specs.Lengths.{FitsInRecord}
use Rattle.cob_layout_places.specs.Cover.{AreNumbered}
use Rattle.cob_layout_places.specs.Counts.{tables_of}
use Rattle.cob_layout.specs.Sound.{HoldSome, AreNested, AreStorable, RecordsAreSound}
use Rattle.cob_layout.proofs.Numbers.{numbered}
use Rattle.cob_layout.proofs.Shapes.{filled, nested}
use Rattle.cob_copybook.proofs.Ones.{IsOne, one_entry, one_resolved}
use Rattle.cob_layout.proofs.Fits.{may_occur, leaves, in_areas, redefines_nothing}
use Rattle.cob_layout.proofs.Storables.{storable}
use Rattle.cob_layout.proofs.Counted.{IsCountedIn, all_counted, countable, ahead}

pub sound : RecordsAreSound
sound t (role, text, book) =
    let is = book.is in
    let w = is.written in
    let counts = is.stored.counts in
    let tree : resolved counts 0 None None w ≡ t = sym is.stored.tree in
    let occur = subst ArePossible tree (possible counts 0 0 None None w is.agree.tables is.agree.filled) in
    let items = storable counts 0 None None w is.agree.usages is.agree.placements in
    let one = subst IsOne tree (one_resolved counts 0 None None w (one_entry book.entries w is.stands)) in
    let fit : FitsInRecord 0 t = record {
      possible = may_occur t occur;
      leaves = leaves t occur;
      areas = in_areas [] t is.stored.fit.areas;
      small = omega (arith, is.stored.fit.short);
    } in
    let counted = subst (λ (f : Forest Resolved). AllByRecursion (IsCountedIn f) (tables_of f)) tree (all_counted counts w is.stored.counted items) in
    record {
      fit = fit;
      filled = subst HoldSome tree (filled counts 0 None None w is.agree.filled);
      areas = is.stored.fit.areas;
      numbered = subst (AreNumbered 0) tree (numbered counts 0 None None w);
      nested = subst (AreNested 0) tree (nested counts 0 0 None None w is.agree.tables);
      countable = countable t (tables_of t) counted;
      ahead = ahead t (tables_of t) counted;
      storable = subst AreStorable tree items;
      values = is.stored.fit.values;
      first = redefines_nothing t one is.stored.fit.areas;
    }
