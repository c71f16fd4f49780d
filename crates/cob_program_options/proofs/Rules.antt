-- The rules of `clap` for options of this crate, and how it finds them.
use Rattle.std.proofs.Common.{◌≡◌, ◌&&◌, ◌||◌, ◌==◌, ℕ, Bool, true, false, not, refl, ap, List, [], ◌∷◌, Option, Some, None, is_some, option_map, codes, find, cond}
use Rattle.std.specs.Str.{bytes_eq}
use Rattle.std.proofs.lemmas.Slice.Eq.{bytes_eq-Decides}
use Rattle.clap.specs.Walk.{Rule, Text, arg_by_id, arg_by_index, arg_by_long, arg_by_short, has_long}
use Rattle.clap.specs.Simple.{filled, help_rule, new_rule}
use Rattle.clap.specs.declared.builder.action.ArgAction.TheVariants.{Set, SetTrue}
use Rattle.clap.specs.declared.builder.value_parser.ValueParser.TheVariants as vp
use Rattle.cob_program_options.specs.Options.{Alone, Default, OptionKind, Optional, Options, Request, Required, found_at}

-- an option with a value
abbrev pub valued_rule : Text → Bool → List Text → Rule
valued_rule name required defaults = record (new_rule name) {
  long = Some name;
  action = Some Set;
  range = Some (record { start_inclusive = 1; end_inclusive = 1 });
  value_names = 1;
  defaults = defaults;
  parser = Some vp.String;
  required = required;
}

-- an option that stands alone
abbrev pub flag_rule : Text → Rule
flag_rule name = record (new_rule name) {
  long = Some name;
  action = Some SetTrue;
  range = Some (record { start_inclusive = 0; end_inclusive = 0 });
  defaults = codes "false" ∷ [];
  missing = codes "true" ∷ [];
  parser = Some vp.Bool;
}

-- the option that asks for help
abbrev pub request_rule : Text → Rule
request_rule name = record (filled help_rule) { id = name; long = Some name }

-- the rule of an option
abbrev pub rule_from : Text → OptionKind → Rule
rule_from name Required = valued_rule name true []
rule_from name (Default value) = valued_rule name false (value ∷ [])
rule_from name Optional = valued_rule name false []
rule_from name Alone = flag_rule name
rule_from name Request = request_rule name

-- the rules of a command's options
abbrev pub rules_from : Options → List Rule
rules_from [] = []
rules_from (o ∷ os) = rule_from o.0 o.1 ∷ rules_from os

pub same_text : (a b : Text) → bytes_eq a b ≡ true → a ≡ b
same_text a b e = (bytes_eq-Decides a b).0 e

pub same_as_itself : (a : Text) → bytes_eq a a ≡ true
same_as_itself a = (bytes_eq-Decides a a).1 refl

pub or_false : (b : Bool) → (b || false) ≡ b
or_false true = refl
or_false false = refl

-- a test that each rule meets as its name does finds the rule of the option of that name
pub find_rule : (test : Rule → Bool) (name : Text) → ((n : Text) (kind : OptionKind) → test (rule_from n kind) ≡ bytes_eq n name) → (os : Options)
    → find test (rules_from os) ≡ option_map (rule_from name) (found_at name os)
find_rule test name same [] = refl
find_rule test name same (o ∷ os) = go (bytes_eq o.0 name) refl (find_rule test name same os)
  where
    go : (b : Bool) → bytes_eq o.0 name ≡ b → find test (rules_from os) ≡ option_map (rule_from name) (found_at name os)
        → find test (rule_from o.0 o.1 ∷ rules_from os) ≡ option_map (rule_from name) (found_at name (o ∷ os))
    go true e later = rw (same o.0 o.1, e) (ap (λ n. Some (rule_from n o.1)) (same_text o.0 name e))
    go false e later = rw (same o.0 o.1, e) later

pub by_id : (os : Options) (name : Text) → arg_by_id (rules_from os) name ≡ option_map (rule_from name) (found_at name os)
by_id os name = find_rule (λ a. bytes_eq a.id name) name each os
  where
    each : (n : Text) (kind : OptionKind) → bytes_eq (rule_from n kind).id name ≡ bytes_eq n name
    each n Required = refl
    each n (Default value) = refl
    each n Optional = refl
    each n Alone = refl
    each n Request = refl

pub by_long : (os : Options) (name : Text) → arg_by_long (rules_from os) name ≡ option_map (rule_from name) (found_at name os)
by_long os name = find_rule (λ a. not (is_some a.index) && has_long a name) name each os
  where
    each : (n : Text) (kind : OptionKind) → (not (is_some (rule_from n kind).index) && has_long (rule_from n kind) name) ≡ bytes_eq n name
    each n Required = or_false (bytes_eq n name)
    each n (Default value) = or_false (bytes_eq n name)
    each n Optional = or_false (bytes_eq n name)
    each n Alone = or_false (bytes_eq n name)
    each n Request = or_false (bytes_eq n name)

-- no option has a place of its own
pub by_index : (os : Options) (i : ℕ) → arg_by_index (rules_from os) i ≡ None
by_index [] i = refl
by_index (o ∷ os) i = go o.1 (by_index os i)
  where
    go : (kind : OptionKind) → arg_by_index (rules_from os) i ≡ None → arg_by_index (rule_from o.0 kind ∷ rules_from os) i ≡ None
    go Required later = later
    go (Default value) later = later
    go Optional later = later
    go Alone later = later
    go Request later = later

-- a letter finds a request for help, or nothing
abbrev pub AsksOrNot : Option Rule → Type 0
AsksOrNot None = Unit {0}
AsksOrNot (Some a) = (name : Text) × (a ≡ request_rule name)

pub by_short : (os : Options) (x : ℕ) → AsksOrNot (arg_by_short (rules_from os) x)
by_short [] x = tt
by_short (o ∷ os) x = go o.1 (by_short os x)
  where
    asks : (b : Bool) → AsksOrNot (arg_by_short (rules_from os) x) → AsksOrNot (cond b (Some (request_rule o.0)) (arg_by_short (rules_from os) x))
    asks true later = (o.0, refl)
    asks false later = later

    go : (kind : OptionKind) → AsksOrNot (arg_by_short (rules_from os) x) → AsksOrNot (arg_by_short (rule_from o.0 kind ∷ rules_from os) x)
    go Required later = later
    go (Default value) later = later
    go Optional later = later
    go Alone later = later
    go Request later = asks ((104 == x) || false) later
