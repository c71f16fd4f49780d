use Rattle.std.proofs.Common.{ℕ, List, ap, ◌∙◌, refl}
use Rattle.cob_source.specs.Reading.{open_in}
use Rattle.cob_source.proofs.Columns.{kept}
use Rattle.cob_source.proofs.joined.add_columns.Goals as goal

pub returns : goal.returns
returns c =
    let added = kept c.args.number c.args.skipped c.kept_columns-end.result c.args.text.now c.args.joined.now.cells.items c.push_columns.new.cells.items c.args.joined.now.quote c.open_behind-quote.result c.requires.short c.kept_columns-end.ensures.within
    c.kept_columns-end.ensures.spaces c.kept_columns-end.ensures.whole c.in_ok-push_columns.ensures c.requires.quote (c.open_behind-quote.ensures ∙ ap (λ (l : List ℕ). open_in c.args.joined.now.quote l) c.behind.ensures) in
    record { cells = added.stands; quote = added.open_is; last = refl }
