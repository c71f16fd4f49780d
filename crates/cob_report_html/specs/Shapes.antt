-- What shapes print.
use Rattle.std.specs.Prelude.{ℕ, List, ◌++◌, decimal}
use lib.Chars.{codes}
use Rattle.cob_report_html.specs.declared.shapes.StraightLine.{StraightLine}
use Rattle.cob_report_html.specs.declared.shapes.LevelCurve.{LevelCurve}
use Rattle.cob_report_html.specs.declared.shapes.Rectangle.{Rectangle}

-- a line, its ends by hundredths of the width and by units from above
abbrev pub line_text : StraightLine → List ℕ
line_text line =
    codes "<line x1=\"" ++ decimal line.x1 ++ codes "%\" y1=\"" ++ decimal line.y1 ++ codes "\" x2=\"" ++ decimal line.x2 ++ codes "%\" y2=\"" ++ decimal line.y2
    ++ codes "\"/>"

-- a curve from the left edge to the right one, level at both ends
abbrev pub curve_text : LevelCurve → List ℕ
curve_text curve =
    codes "<path d=\"M0 " ++ decimal curve.from ++ codes "C45 " ++ decimal curve.from ++ codes " 55 " ++ decimal curve.to ++ codes " 100 " ++ decimal curve.to
    ++ codes "\"/>"

-- a rectangle
abbrev pub rectangle_text : Rectangle → List ℕ
rectangle_text r =
    codes "<rect x=\"" ++ decimal r.x ++ codes "\" y=\"" ++ decimal r.y ++ codes "\" width=\"" ++ decimal r.width ++ codes "\" height=\"" ++ decimal r.height
    ++ codes "\"/>"
