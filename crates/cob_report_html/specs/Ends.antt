-- What single moves join.
use Rattle.std.specs.Prelude.{◌≡◌, ◌==◌, ◌&&◌, ◌<◌, ℕ, Bool, false, List, Option, None, Some, length, get_or, slice_index_or}
use Rattle.std.specs.List.{count_by}
use Rattle.cob_report_html.specs.declared.ends.JoinedEnds.{JoinedEnds}
use Rattle.cob_report_html.specs.declared.ends.Origin.{Origin}
use Rattle.cob_report_html.specs.declared.ends.Origin.TheVariants.{Input, Output, Constant}

-- whether two moves send from the same
abbrev pub same_origin : Origin → Origin → Bool
same_origin (Input one) (Input other) = one == other
same_origin (Output one) (Output other) = one == other
same_origin (Constant one) (Constant other) = one == other
same_origin one other = false

-- whether two moves join the same
abbrev pub same : JoinedEnds → JoinedEnds → Bool
same one other = same_origin one.from other.from && (one.to == other.to)

-- no single move before this one joins the same
pub record IsFirst (singles : List JoinedEnds) (at : ℕ) : Type 0 where
  pub none : (k : ℕ) (d : JoinedEnds) → k < at → same (slice_index_or singles at d) (slice_index_or singles k d) ≡ false

-- of the single move at this place: it is the first that joins the same, and so many do; or it isn't
abbrev pub IsCount : List JoinedEnds → ℕ → Option ℕ → Type 0
IsCount singles at (Some count) = IsFirst singles at × ((d : JoinedEnds) → count ≡ count_by (same (slice_index_or singles at d)) singles)
IsCount singles at None = IsFirst singles at → ⊥

-- each of these says so of the single move at its place
pub record AreCountsAtFirsts (singles : List JoinedEnds) (counts : List (Option ℕ)) : Type 0 where
  pub many : length counts ≡ length singles
  pub each : (at : ℕ) → at < length singles → IsCount singles at (get_or counts at None)
