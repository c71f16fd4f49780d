-- Which bytes of an entry are told.
use Rattle.std.specs.Prelude.{◌≡◌, ◌≤◌, ◌<◌, ◌-◌, ◌*◌, ℕ, List, length, take, drop}
use Rattle.cob_report_explain.specs.declared.values.Told.{Told}
use Rattle.cob_report_explain.specs.declared.values.Told.TheVariants as told

-- how many bytes are told in front, and how many at the end, where not all are told
abbrev pub at_each_end : ℕ
at_each_end = 64

-- These are told of some bytes: all where they are at most twice as many as are told at each end; else the first and the last, and how many they are.
abbrev pub AreToldOf : List ℕ → Told → Type 0
AreToldOf bytes (told.Whole all) = (length bytes ≤ 2 * at_each_end) × (all.now ≡ bytes)
AreToldOf bytes (told.Ends first last all) =
    (2 * at_each_end < length bytes) × (first.now ≡ take at_each_end bytes) × (last.now ≡ drop (length bytes - at_each_end) bytes) × (all ≡ length bytes)
