-- Rows of a ruler of bytes, and the parts of runs that stand in them.
use Rattle.std.specs.Prelude.{◌≡◌, ◌+◌, ◌*◌, ◌<◌, ◌≤◌, ◌%◌, ℕ}
use Rattle.cob_report_html.specs.declared.rulers.RulerPart.{RulerPart}
use Rattle.cob_report_html.specs.declared.rulers.TheConstants.{ROW}

-- The part of a run that stands in the row in which it begins: it begins with the run and within a row, has bytes where the run has some, and ends with the
-- run or with the row.
pub record IsRowPart (offset long : ℕ) (part : RulerPart) : Type 0 where
  pub begins : part.row * ROW + part.before ≡ offset
  pub within : part.before + part.length ≤ ROW
  pub some : 0 < long → 0 < part.length
  pub most : part.length ≤ long
  pub ends : part.length < long → part.before + part.length ≡ ROW

-- So many rows are the ones that a run meets: from the row's start on it ends in the last of them, and there are none where it has no byte.
pub record AreRows (offset long rows : ℕ) : Type 0 where
  pub ends : 0 < long → offset % ROW + long ≤ rows * ROW
  pub last : 0 < long → rows * ROW < offset % ROW + long + ROW
  pub none : long ≡ 0 → rows ≡ 0
