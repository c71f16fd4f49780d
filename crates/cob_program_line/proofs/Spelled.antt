-- What the parser finds is what words spell.
use Rattle.std.proofs.Common.{◌≡◌, ◌∙◌, Bool, true, false, refl, sym, ap, List, [], ◌∷◌, Option, Some, None, is_some, option_map, cond, find, subst, true≢false}
use Rattle.std.specs.Prelude.{unwrap_or}
use Rattle.std.specs.List.{list_all}
use Rattle.std.specs.Str.{bytes_eq}
use Rattle.clap.specs.Words.{Row, Text, first_of, is_simple, is_simple_and_free, subcommand_of}
use Rattle.clap.specs.Faults.{fault_of}
use Rattle.cob_program_options.specs.Options.{Given, Options, found_at, taken}
use Rattle.cob_program_options.specs.Looks.{Look}
use Rattle.cob_program_options.proofs.Rules.{same_text}
use Rattle.cob_program_options.proofs.Level.{level_complete, level_sound, level_there, rows_of_given}
use Rattle.cob_program_options.proofs.Looks.{are_sound, both, look_same, names_only, names_there, sound_names}
use Rattle.cob_program_options.specs.Commands.{Commands, IsComplete, Spells, commands}
use Rattle.cob_program_options.specs.Program.{program_app}
use Rattle.cob_program_line.proofs.Top.{known_fault, known_rows, unknown}

-- the parser's own definitions say of this program what it finds in words, and why it refuses them
pub program_is_simple : is_simple program_app ≡ true
program_is_simple = refl

pub program_is_free : is_simple_and_free program_app ≡ true
program_is_free = refl

-- the options of each command are sound
all_sound : list_all (λ (c : Text × Options). are_sound c.1) commands ≡ true
all_sound = refl

sound_in : (cs : Commands) → list_all (λ (c : Text × Options). are_sound c.1) cs ≡ true → (w : Text) (os : Options) → found_at w cs ≡ Some os → are_sound os ≡ true
sound_in [] all w os is = absurd (true≢false (sym (ap is_some is)))
sound_in (c ∷ cs) all w os is = go (bytes_eq c.0 w) (both _ _ all) is (λ rest here. sound_in cs rest w os here)
  where
    go : (b : Bool) → (are_sound c.1 ≡ true) × (list_all (λ (c : Text × Options). are_sound c.1) cs ≡ true)
        → option_map (λ (it : Text × Options). it.1) (cond b (Some c) (find (λ it. bytes_eq it.0 w) cs)) ≡ Some os
        → (list_all (λ (c : Text × Options). are_sound c.1) cs ≡ true → found_at w cs ≡ Some os → are_sound os ≡ true) → are_sound os ≡ true
    go true h here later = subst (λ (x : Options). are_sound x ≡ true) (ap (λ o. unwrap_or o c.1) here) h.0
    go false h here later = later h.1 here

pub sound_of : (w : Text) (os : Options) → found_at w commands ≡ Some os → are_sound os ≡ true
sound_of w os is = sound_in commands all_sound w os is

-- a name that is none of these commands' names
abbrev pub IsNone : Text → Commands → Type 0
IsNone w [] = Unit {0}
IsNone w (o ∷ cs) = (w ≡ o.0 → ⊥) × IsNone w cs

-- names none of them
pub no_command : (cs : Commands) (w : Text) (os : Options) → IsNone w cs → found_at w cs ≡ Some os → ⊥
no_command [] w os none is = true≢false (sym (ap is_some is))
no_command (o ∷ cs) w os none is = go (bytes_eq o.0 w) refl is (no_command cs w os none.1)
  where
    go : (b : Bool) → bytes_eq o.0 w ≡ b → found_at w (o ∷ cs) ≡ Some os → (found_at w cs ≡ Some os → ⊥) → ⊥
    go true e here later = none.0 (sym (same_text o.0 w e))
    go false e here later = later (sym (ap (λ b. option_map (λ it. it.1) (cond b (Some o) (find (λ it. bytes_eq it.0 w) cs))) e) ∙ here)

-- words that spell a command pass
pub spelled_passes : (words : List Text) (os : Options) (given : Given) → Spells words os given → fault_of program_app words ≡ []
spelled_passes [] os given h = absurd h
spelled_passes (w ∷ rest) os given h = known_fault w os h.0 rest ∙ level_complete w os rest given (sound_names os (sound_of w os h.0)) h.1 h.2

-- what the parser found is what the words spell
pub record Found (words : List Text) (name : Text) (rows : List Row) : Type 0 where
  pub os : Options
  pub given : Given
  pub known : found_at name commands ≡ Some os
  pub spells : Spells words os given
  pub same : rows ≡ rows_of_given os given
  pub rest : List Text
  pub first : words ≡ name ∷ rest

-- words that pass spell a command, whose rows are found
spelled_by : (words : List Text) → (words ≡ [] → ⊥) → fault_of program_app words ≡ []
    → (name : Text) × (rows : List Row) × (subcommand_of program_app words ≡ Some (name, rows)) × Found words name rows
spelled_by [] some passed = absurd (some refl)
spelled_by (w ∷ rest) some passed = go (found_at w commands) refl
  where
    go : (o : Option Options) → found_at w commands ≡ o
        → (name : Text) × (rows : List Row) × (subcommand_of program_app (w ∷ rest) ≡ Some (name, rows)) × Found (w ∷ rest) name rows
    go None is = absurd (unknown w rest is passed)
    go (Some os) is =
        let through = sym (known_fault w os is rest) ∙ passed in
        let level = level_sound w os rest through in (
          w,
          rows_of_given os level.0,
          known_rows w os is rest ∙ ap (λ r. Some (w, r)) level.2,
          record { os = os; given = level.0; known = is; spells = (is, level.1, level_there w os rest level.0 level.2 through); same = refl; rest = rest; first = refl },
        )

pub found_in : (words : List Text) (name : Text) (rows : List Row) → (words ≡ [] → ⊥) → fault_of program_app words ≡ []
    → subcommand_of program_app words ≡ Some (name, rows) → Found words name rows
found_in words name rows some passed found =
    let b = spelled_by words some passed in
    let same : ◌≡◌ {A = Text × List Row} (b.0, b.1) (name, rows) = ap (λ o. unwrap_or o (name, rows)) (sym b.2 ∙ found) in
    subst (λ (p : Text × List Row). Found words p.0 p.1) same b.3

-- so each option names there what the words give it
pub look_found : (words : List Text) (name : Text) (rows : List Row) (f : Found words name rows) → ◌≡◌ {A = Look} (λ id. first_of id rows) (taken f.os f.given)
look_found words name rows f = ap (λ (r : List Row). λ id. first_of id r) f.same ∙ look_same f.os f.given (sound_of name f.os f.known)

pub complete_by : (words : List Text) (name : Text) (rows : List Row) → Found words name rows → IsComplete name (λ id. first_of id rows)
complete_by [] name rows f = absurd f.spells
complete_by (w ∷ rest) name rows f =
    subst (λ (look : Look). IsComplete name look) (sym (look_found (w ∷ rest) name rows f))
    (f.os, f.known, names_there f.os f.given (sound_of name f.os f.known) f.spells.2, names_only f.os rest f.given f.spells.1)

-- the options of the command of this name
pub named_options : (w name : Text) (os named : Options) → found_at w commands ≡ Some os → w ≡ name → found_at name commands ≡ Some named → named ≡ os
named_options w name os named is same here = ap (λ o. unwrap_or o []) (sym here ∙ (sym (ap (λ n. found_at n commands) same) ∙ is))
