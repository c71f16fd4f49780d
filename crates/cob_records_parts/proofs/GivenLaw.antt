-- What is given of a stream is what is chosen of the records that come of it, and what is given behind them.
use Rattle.std.proofs.Common.{◌≡◌, ◌∙◌, ℕ, zero, suc, ◌+◌, ◌-◌, ◌<◌, ◌≤◌, false, List, [], ◌∷◌, ◌++◌, length, take, drop, refl, sym, ap, arith, append_assoc, Some, Ok, Err}
use Rattle.std.proofs.lemmas.Grind.{common_steps}
use Rattle.std.specs.List.{AllByRecursion}
use Rattle.cob_limits.specs.Limits.{longest_record}
use Rattle.cob_records.specs.Alone.{framed_alone}
use Rattle.cob_records.specs.Forms.{Come, ComesFirst, HasBlockSize, ReadsInForm}
use Rattle.cob_records.specs.Frame.{IsRecord, is_read_failure}
use Rattle.cob_records.specs.declared.records.Form.{Form}
use Rattle.cob_records.specs.declared.records.Form.TheVariants.{Fixed, Variable, Blocked}
use Rattle.cob_records_parts.specs.Choices.{HasCome, HasStopped, all_alone}
use Rattle.cob_records_parts.specs.StillGiven.{GivenAreChosen, given_of, fault_mark, one_given}
use Rattle.cob_records_parts.specs.declared.choice.Stopped.{Stopped}
use Rattle.cob_records_parts.proofs.FirstLaw.{first_is}
use Rattle.cob_records_parts.proofs.Foretelling.{given_at}

-- ---- a record that comes

all_of : (xs : List ℕ) → take (length xs) xs ≡ xs
all_of xs = grind (arith, common_steps)

-- a record that comes first is one that a reading gives
pub reads_first : (form : Form) (greatest left : ℕ) (body bytes : List ℕ) (mid : ℕ) (more : List ℕ) → IsRecord form greatest body → ComesFirst form left body bytes mid more
    → ReadsInForm form greatest left body (Ok (Some (length body))) mid bytes more
reads_first Fixed greatest left body bytes mid more is (frame, same) = rw (all_of body) ((omega arith, is, frame), same)
reads_first Variable greatest left body bytes mid more is (frame, same) = rw (all_of body) ((omega arith, is, frame), same)
reads_first (Blocked most) greatest left body bytes mid more is comes = rw (all_of body) (omega arith, is, comes)

-- what a record that comes first gives, and what is given behind it
gives_first : (form : Form) (greatest over most left : ℕ) (body bytes : List ℕ) (mid : ℕ) (more : List ℕ) → HasBlockSize form → 0 < greatest → greatest ≤ longest_record
    → IsRecord form greatest body → ComesFirst form left body bytes mid more
    → given_of form greatest over (suc most) left bytes ≡ one_given form over body ++ given_of form greatest (over - 1) most mid more
gives_first form greatest over most left body bytes mid more block low high is comes =
    ap (given_at form greatest over most)
    (first_is form greatest left body (Ok (Some (length body))) mid bytes more block low high (reads_first form greatest left body bytes mid more is comes) refl)
    ∙ ap (λ (xs : List ℕ). one_given form over xs ++ given_of form greatest (over - 1) most mid more) (all_of body)

-- ---- records that come

-- what a further record gives of those that are given
one_chosen : (form : Form) (over : ℕ) (body : List ℕ) (bodies : List (List ℕ)) (behind : List ℕ)
    → one_given form over body ++ (all_alone form (drop (over - 1) bodies) ++ behind) ≡ all_alone form (drop over (body ∷ bodies)) ++ behind
one_chosen form zero body bodies behind = sym (append_assoc (framed_alone form body) (all_alone form bodies) behind)
one_chosen form (suc n) body bodies behind =
    let less : suc n - 1 ≡ n = omega arith in
    ap (λ (k : ℕ). all_alone form (drop k bodies) ++ behind) less

gives_all : (form : Form) (greatest over most left : ℕ) (bodies : List (List ℕ)) (bytes : List ℕ) (after : ℕ) (rest : List ℕ) → HasBlockSize form → 0 < greatest
    → greatest ≤ longest_record → AllByRecursion (IsRecord form greatest) bodies → Come form left bodies bytes after rest → length bodies ≤ most
    → given_of form greatest over most left bytes
    ≡ all_alone form (drop over bodies) ++ given_of form greatest (over - length bodies) (most - length bodies) after rest
gives_all form greatest over most left [] bytes after rest block low high each (is, same) within =
    let none : drop {A = List ℕ} over [] ≡ [] = grind (arith, common_steps) in
    let first : over - 0 ≡ over = omega arith in
    let second : most - 0 ≡ most = omega arith in
    rw (none, first, second) (ap (given_of form greatest over most left) is ∙ ap (λ (k : ℕ). given_of form greatest over most k rest) (sym same))
gives_all form greatest over zero left (body ∷ bodies) bytes after rest block low high each come within = absurd (omega (arith, within))
gives_all form greatest over (suc most) left (body ∷ bodies) bytes after rest block low high (one, each) (mid, more, comes, come) within =
    let others = gives_all form greatest (over - 1) most mid bodies more after rest block low high each come (omega (arith, within)) in
    let less : (over - 1) - length bodies ≡ over - length (body ∷ bodies) = omega arith in
    let fewer : most - length bodies ≡ suc most - length (body ∷ bodies) = omega arith in
    gives_first form greatest over most left body bytes mid more block low high one comes
    ∙ ap (λ (xs : List ℕ). one_given form over body ++ xs) others
    ∙ one_chosen form over body bodies (given_of form greatest ((over - 1) - length bodies) (most - length bodies) after rest)
    ∙ ap (λ (n : ℕ). all_alone form (drop over (body ∷ bodies)) ++ given_of form greatest n (most - length bodies) after rest) less
    ∙ ap (λ (n : ℕ). all_alone form (drop over (body ∷ bodies)) ++ given_of form greatest (over - length (body ∷ bodies)) n after rest) fewer

-- what has come, and what is given behind it
come_given : (form : Form) (greatest skip last number left : ℕ) (chosen bytes rest : List ℕ) → HasBlockSize form → 0 < greatest → greatest ≤ longest_record → number ≤ last
    → HasCome form greatest skip number left chosen bytes rest
    → given_of form greatest skip last 0 bytes ≡ chosen ++ given_of form greatest (skip - number) (last - number) left rest
come_given form greatest skip last number left chosen bytes rest block low high within come =
    gives_all form greatest skip last 0 come.bodies bytes left rest block low high come.each come.come (omega (arith, come.many, within))
    ∙ ap (λ (xs : List ℕ). xs ++ given_of form greatest (skip - length come.bodies) (last - length come.bodies) left rest) (sym come.those)
    ∙ ap (λ (n : ℕ). chosen ++ given_of form greatest (skip - n) (last - n) left rest) come.many

stopped_given : (form : Form) (greatest skip last : ℕ) (stop : Stopped) (chosen bytes rest : List ℕ) → HasBlockSize form → 0 < greatest → greatest ≤ longest_record
    → stop.number ≤ last → is_read_failure (Err stop.fault) ≡ false → HasStopped form greatest skip stop chosen bytes rest
    → given_of form greatest skip last 0 bytes ≡ chosen ++ fault_mark stop.fault
stopped_given form greatest skip last stop chosen bytes rest block low high within works stops =
    let n : ℕ = length stops.bodies in
    let more : last - n ≡ suc (last - (n + 1)) = omega (arith, stops.next, within) in
    gives_all form greatest skip last 0 stops.bodies bytes stops.opened stops.left block low high stops.each stops.come (omega (arith, stops.next, within))
    ∙ ap (λ (xs : List ℕ). xs ++ given_of form greatest (skip - n) (last - n) stops.opened stops.left) (sym stops.those)
    ∙ ap (λ (k : ℕ). chosen ++ given_of form greatest (skip - n) k stops.opened stops.left) more
    ∙ ap (λ (xs : List ℕ). chosen ++ xs) (ap (given_at form greatest (skip - n) (last - (n + 1)))
    (first_is form greatest stops.opened stops.slice (Err stop.fault) stops.after stops.left rest block low high stops.reads works))

pub given_are_chosen : GivenAreChosen
given_are_chosen = record { come = come_given; stopped = stopped_given }
