-- The line of a condition-name, behind its entry alone.
use Rattle.std.proofs.Common.{◌≡◌, ℕ, ◌==◌, if◌then◌else◌, Bool, true, false, List, [], ap, arith}
use Rattle.std.proofs.lemmas.Bool.Decides.{nat_tests}
use Rattle.cob_copybook_conditions.specs.Names.{PlainConditionName}
use Rattle.cob_report_show.specs.Conditions.{name_line, name_line_of}

pub line_behind : (number : ℕ) (n : PlainConditionName) → n.entry ≡ number → name_line_of number n ≡ name_line n
line_behind number n is =
    let same : (n.entry == number) ≡ true = grind (arith, nat_tests) in
    ap (λ (b : Bool). if b then name_line n else []) same

pub no_line_behind : (number : ℕ) (n : PlainConditionName) → (n.entry ≡ number → ⊥) → name_line_of number n ≡ []
no_line_behind number n other =
    let differs : (n.entry == number) ≡ false = grind (arith, nat_tests) in
    ap (λ (b : Bool). if b then name_line n else []) differs
