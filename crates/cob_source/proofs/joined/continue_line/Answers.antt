use Rattle.std.proofs.Common.{◌≡◌, ℕ, ◌+◌, ◌<◌, ◌≤◌, List, ◌++◌, length, drop, refl, sym, ap, subst, ◌∙◌, arith}
use Rattle.std.specs.Prelude.{Option, Some, None}
use Rattle.cob_source.specs.declared.token.Cell.{Cell}
use Rattle.cob_source.specs.Cuts.{open_quote}
use Rattle.cob_source.specs.Lines.{spaces, program_text, indicator, left_out, continued_text, continued, filled, cells_from}
use Rattle.cob_source.specs.Words.{is_bad_continuation}
use Rattle.cob_source.proofs.Trims.{spaces_before, not_blank}
use Rattle.cob_source.specs.Reading.{LeavesOutSpaces}
use Rattle.cob_source.proofs.Opens.{open_trim_end}
use Rattle.cob_source.proofs.joined.continue_line.Goals as goal

pub returns-then-is_bad-clause-fault : goal.returns-then-is_bad-clause-fault
returns-then-is_bad-clause-fault c =
    (sym (c.is_bad.ensures c.args.line.now c.written_in-text.ensures.columns ∙ ap (λ (l : List Cell). is_bad_continuation l c.args.line.now) c.as_slice.ensures.value) ∙ c.if-is_bad.true, refl)

-- what is open where the continuation is joined
open_before : (q : Option ℕ) (cells : List Cell) → open_quote (continued_text q cells) ≡ open_quote cells
open_before None cells = open_trim_end cells
open_before (Some q) cells = refl

few : (q : Option ℕ) (text : List ℕ) → spaces text < length text → length text ≤ 65 → left_out q text ≤ 65
few None text some short = omega arith
few (Some q) text some short = omega arith

pub add_columns-requires : goal.add_columns-requires
add_columns-requires c =
    let line = c.args.line.now in
    let short : length (program_text line) ≤ 65 = rw (← c.written_in-text.ensures.columns) c.written_in-text.ensures.short in
    record {
      few = rw (c.make_ready-skipped.ensures.skipped, c.written_in-text.ensures.columns) (few c.args.joined.now.quote (program_text line) (spaces_before _ (not_blank (indicator line) (program_text line) c.requires.kind)) short);
      short = c.written_in-text.ensures.short;
      quote = c.make_ready-skipped.ensures.quote ∙ c.requires.quote ∙ sym (ap open_quote c.make_ready-skipped.ensures.cells ∙ open_before c.args.joined.now.quote c.args.joined.now.cells.items);
    }

continued_is : (q : Option ℕ) (text line : List ℕ) (n skipped : ℕ) (old base new : List Cell) → base ≡ continued_text q old → skipped ≡ left_out q text → LeavesOutSpaces new (base ++ cells_from n (8 + skipped) (drop skipped (filled text)))
    → text ≡ program_text line → q ≡ open_quote old → LeavesOutSpaces new (continued (open_quote old) n old line)
continued_is q text line n skipped old base new b s stands t r =
    subst (LeavesOutSpaces new)
    (ap (λ (l : List Cell). l ++ cells_from n (8 + skipped) (drop skipped (filled text))) b
    ∙ ap (λ (k : ℕ). continued_text q old ++ cells_from n (8 + k) (drop k (filled text))) s
    ∙ ap (λ (x : List ℕ). continued_text q old ++ cells_from n (8 + left_out q x) (drop (left_out q x) (filled x))) t
    ∙ ap (λ (x : Option ℕ). continued x n old line) r)
    stands

pub returns-clause-ok : goal.returns-clause-ok
returns-clause-ok c =
    let q = c.args.joined.now.quote in
    let old = c.args.joined.now.cells.items in
    let base = c.make_ready-skipped.new.joined.cells.items in
    record {
      fits = sym (c.is_bad.ensures c.args.line.now c.written_in-text.ensures.columns ∙ ap (λ (l : List Cell). is_bad_continuation l c.args.line.now) c.as_slice.ensures.value) ∙ c.if-is_bad.false;
      stands = continued_is q _ c.args.line.now _ _ old base _ c.make_ready-skipped.ensures.cells c.make_ready-skipped.ensures.skipped c.in_ok-add_columns.ensures.cells c.written_in-text.ensures.columns c.requires.quote;
      open_is = c.in_ok-add_columns.ensures.quote;
      last_is = c.in_ok-add_columns.ensures.last;
    }
