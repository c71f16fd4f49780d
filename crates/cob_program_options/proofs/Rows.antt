-- What is found on words, row by row.
use Rattle.std.proofs.Common.{◌≡◌, ◌∙◌, ◌||◌, Bool, true, false, refl, sym, ap, List, [], ◌∷◌, ◌++◌, Some, None, codes, cond, true≢false}
use Rattle.std.specs.Str.{bytes_eq}
use Rattle.std.proofs.lemmas.List.{append-nil}
use Rattle.clap.specs.Walk.{Row, Text, at_row, has_row, more_values, used}
use Rattle.clap.specs.Faults.{use_fault}
use Rattle.clap.specs.declared.error.kind.ErrorKind.TheVariants.{ArgumentConflict}
use Rattle.clap.specs.declared.parser.matches.ValueSource.TheVariants.{CommandLine}
use Rattle.clap.specs.declared.builder.value_parser.Reading.TheVariants.{AsWritten}
use Rattle.cob_program_options.proofs.Rules.{flag_rule, or_false, valued_rule}

-- the row of an option that is given
abbrev pub given_row : Text × Text → Row
given_row g = record { id = g.0; values = g.1 ∷ []; count = None; source = Some CommandLine; reading = AsWritten }

pub add_row : (id : Text) (change : Row → List Row) (missing rows : List Row) → has_row id rows ≡ false → at_row id change missing rows ≡ rows ++ missing
add_row id change missing [] none = refl
add_row id change missing (r ∷ rows) none = go (bytes_eq r.id id) refl (add_row id change missing rows)
  where
    go : (b : Bool) → bytes_eq r.id id ≡ b → (has_row id rows ≡ false → at_row id change missing rows ≡ rows ++ missing)
        → at_row id change missing (r ∷ rows) ≡ (r ∷ rows) ++ missing
    go true e later = absurd (true≢false (sym (ap (λ b. b || has_row id rows) e) ∙ none))
    go false e later = rw e (ap (λ rs. r ∷ rs) (later (sym (ap (λ b. b || has_row id rows) e) ∙ none)))

pub has_added : (name : Text) (rows : List Row) (r : Row) → has_row name (rows ++ r ∷ []) ≡ (has_row name rows || bytes_eq r.id name)
has_added name [] r = or_false (bytes_eq r.id name)
has_added name (x ∷ rows) r = go (bytes_eq x.id name) (has_added name rows r)
  where
    go : (b : Bool) → has_row name (rows ++ r ∷ []) ≡ (has_row name rows || bytes_eq r.id name)
        → (b || has_row name (rows ++ r ∷ [])) ≡ ((b || has_row name rows) || bytes_eq r.id name)
    go true later = refl
    go false later = later

-- an option that is not there yet gets a row with its value
pub used_valued : (name : Text) (required : Bool) (defaults : List Text) (value : Text) (rows : List Row) → has_row name rows ≡ false
    → used (valued_rule name required defaults) (value ∷ []) rows ≡ rows ++ given_row (name, value) ∷ []
used_valued name required defaults value rows none =
    let bare = add_row name (λ _. []) [] rows none ∙ append-nil rows in
    rw bare (add_row name (more_values CommandLine (value ∷ [])) (given_row (name, value) ∷ []) rows none)

pub used_flag : (name : Text) (rows : List Row) → has_row name rows ≡ false → used (flag_rule name) [] rows ≡ rows ++ given_row (name, codes "true") ∷ []
used_flag name rows none =
    let bare = add_row name (λ _. []) [] rows none ∙ append-nil rows in
    rw bare (add_row name (more_values CommandLine (codes "true" ∷ [])) (given_row (name, codes "true") ∷ []) rows none)

-- it is refused exactly where it is there
pub valued_fault : (name : Text) (required : Bool) (defaults : List Text) (value : Text) (rows : List Row)
    → use_fault false (valued_rule name required defaults) (value ∷ []) rows ≡ cond (has_row name rows) (ArgumentConflict ∷ []) []
valued_fault name required defaults value rows = go (has_row name rows) refl
  where
    go : (b : Bool) → has_row name rows ≡ b → use_fault false (valued_rule name required defaults) (value ∷ []) rows ≡ cond b (ArgumentConflict ∷ []) []
    go true e = rw e refl
    go false e = rw e refl

pub flag_fault : (name : Text) (rows : List Row) → use_fault false (flag_rule name) [] rows ≡ cond (has_row name rows) (ArgumentConflict ∷ []) []
flag_fault name rows = go (has_row name rows) refl
  where
    go : (b : Bool) → has_row name rows ≡ b → use_fault false (flag_rule name) [] rows ≡ cond b (ArgumentConflict ∷ []) []
    go true e = rw e refl
    go false e = rw e refl
