-- One more record is one more of all that are counted.
use Rattle.std.proofs.Common.{◌≡◌, ◌+◌, ◌<◌, ◌∷◌, ◌++◌, ◌∙◌, [], ℕ, List, min, ap, arith}
use Rattle.cob_report_run.specs.Causes.{greatest_count, records_of}
use Rattle.cob_report_run.specs.declared.causes.CauseCount.{CauseCount}

-- none is counted
pub none_counted : (counts : List CauseCount) → counts ≡ [] → records_of counts + 0 ≡ 0
unfolding records_of
none_counted counts is = ap (λ all. records_of all + 0) is

-- one more of a part is one more of all
one_more : (first rest all more : ℕ) → all ≡ first + rest → more ≡ min (first + 1) greatest_count → all < greatest_count → more + rest ≡ all + 1
one_more first rest all more is added below = omega (arith, is, added, below)

-- one more for the first reason
pub more_of_first : (first now : CauseCount) (rest all : List CauseCount) → all ≡ first ∷ rest → now.records ≡ min (first.records + 1) greatest_count
    → records_of all < greatest_count → records_of (now ∷ rest) ≡ records_of all + 1
unfolding records_of
more_of_first first now rest all is added below = one_more first.records (records_of rest) (records_of all) now.records (ap records_of is) added below

-- one more for a reason behind the first
behind_first : (first rest all now : ℕ) → all ≡ first + rest → (rest < greatest_count → now ≡ rest + 1) → all < greatest_count → first + now ≡ all + 1
behind_first first rest all now is counted below =
    let more : now ≡ rest + 1 = counted (omega (arith, is, below)) in
    omega (arith, is, more)

pub more_of_rest : (first : CauseCount) (rest all now : List CauseCount) → all ≡ first ∷ rest
    → (records_of rest < greatest_count → records_of now ≡ records_of rest + 1) → records_of all < greatest_count
    → records_of (first ∷ now) ≡ records_of all + 1
unfolding records_of
more_of_rest first rest all now is counted below =
    behind_first first.records (records_of rest) (records_of all) (records_of now) (ap records_of is) counted below

-- a number by itself
alone : (n : ℕ) → n + 0 ≡ 0 + n
alone n = omega arith

-- a number more in front of a sum
further : (n all front last : ℕ) → all ≡ front + last → n + all ≡ n + front + last
further n all front last is = omega (arith, is)

-- a reason behind all others
records_behind : (counts : List CauseCount) (last : CauseCount) → records_of (counts ++ last ∷ []) ≡ records_of counts + last.records
unfolding records_of
records_behind [] last = alone last.records
records_behind (count ∷ counts) last =
    further count.records (records_of (counts ++ last ∷ [])) (records_of counts) last.records (records_behind counts last)

-- one more for a reason of its own
pub one_behind : (counts now : List CauseCount) (last : CauseCount) → last.records ≡ 1 → now ≡ counts ++ last ∷ [] → records_of now ≡ records_of counts + 1
one_behind counts now last one is = ap records_of is ∙ records_behind counts last ∙ ap (λ n. records_of counts + n) one
