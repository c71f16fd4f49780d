-- Runs, part by part.
use Rattle.std.specs.Prelude.{◌≡◌, ◌≤◌, List, ◌++◌, length, Option}
use Rattle.cob_picture.specs.declared.symbol.Symbol.{Symbol}
use Rattle.cob_picture.specs.declared.symbol.Run.{Run}
use Rattle.cob_picture.specs.declared.edited.Split.{Split}
use Rattle.cob_picture.specs.declared.edited.EditedPart.TheVariants.{Lead, Currency, Front, Whole, PointPart, Fraction, Trail}
use Rattle.cob_picture.specs.Positions.{written_out}
use Rattle.cob_picture.specs.Runs.{ArePositive}
use Rattle.cob_picture.specs.Edited.{AreOf, Stops, Edited}

-- a part of the runs, taken as far as it goes from the symbols, and the symbols behind it
pub record IsFrontPart (symbols : List Symbol) (taken : List Run) (rest : List Symbol) : Type 0 where
  pub parts : symbols ≡ written_out taken ++ rest
  pub short : length taken ≤ 50
  pub positive : ArePositive taken

-- the seven parts one behind the other, each as long as may be, and what is left
pub record IsSplit (q : Option Symbol) (symbols : List Symbol) (lead currency front whole point fraction trail rest : List Run) : Type 0 where
  pub s1 : List Symbol
  pub s2 : List Symbol
  pub s3 : List Symbol
  pub s4 : List Symbol
  pub s5 : List Symbol
  pub s6 : List Symbol
  pub p1 : IsFrontPart symbols lead s1
  pub p2 : IsFrontPart s1 currency s2
  pub p3 : IsFrontPart s2 front s3
  pub p4 : IsFrontPart s3 whole s4
  pub p5 : IsFrontPart s4 point s5
  pub p6 : IsFrontPart s5 fraction s6
  pub p7 : IsFrontPart s6 trail (written_out rest)
  pub of1 : AreOf Lead q (written_out lead)
  pub of2 : AreOf Currency q (written_out currency)
  pub of3 : AreOf Front q (written_out front)
  pub of4 : AreOf Whole q (written_out whole)
  pub of5 : AreOf PointPart q (written_out point)
  pub of6 : AreOf Fraction q (written_out fraction)
  pub of7 : AreOf Trail q (written_out trail)
  pub not1 : Stops Lead q s1
  pub not2 : Stops Currency q s2
  pub not3 : Stops Front q s3
  pub not4 : Stops Whole q s4
  pub not5 : Stops PointPart q s5
  pub not6 : Stops Fraction q s6
  pub not7 : Stops Trail q (written_out rest)
  pub left : ArePositive rest

-- the runs are split so, with this symbol of the run
abbrev pub IsSplitOf : Option Symbol → List Run → Split → Type 0
IsSplitOf q runs split =
    IsSplit q (written_out runs) split.lead.now split.currency.now split.front.now split.whole.now split.point.now split.fraction.now split.trail.now split.rest.now

-- the parts of a picture, from their runs
abbrev pub edited_of : (lead currency front whole point fraction trail : List Run) → Edited
edited_of lead currency front whole point fraction trail = record {
  lead = written_out lead;
  currency = written_out currency;
  front = written_out front;
  whole = written_out whole;
  point = written_out point;
  fraction = written_out fraction;
  trail = written_out trail;
}

-- the parts of a picture whose runs are split so
abbrev pub edited_in : Split → Edited
edited_in split = edited_of split.lead.now split.currency.now split.front.now split.whole.now split.point.now split.fraction.now split.trail.now

-- a part has few runs, none of them of nothing
abbrev pub HasFewRuns : List Run → Type 0
HasFewRuns runs = (length runs ≤ 50) × ArePositive runs

-- each part has few runs
pub record HaveFewRuns (lead currency front whole point fraction trail : List Run) : Type 0 where
  pub r1 : HasFewRuns lead
  pub r2 : HasFewRuns currency
  pub r3 : HasFewRuns front
  pub r4 : HasFewRuns whole
  pub r5 : HasFewRuns point
  pub r6 : HasFewRuns fraction
  pub r7 : HasFewRuns trail

-- each part of the split has few runs
abbrev pub HasFewInParts : Split → Type 0
HasFewInParts split = HaveFewRuns split.lead.now split.currency.now split.front.now split.whole.now split.point.now split.fraction.now split.trail.now
