-- What the parser found of a command's options is what the words give them.
use Rattle.std.proofs.Common.{◌≡◌, ◌∙◌, ◌&&◌, ◌==◌, Bool, true, false, not, refl, sym, ap, List, [], ◌∷◌, length, Option, Some, None, is_some, option_map, codes, find, cond, true≢false}
use Rattle.std.specs.Option.{option_or}
use Rattle.std.specs.Str.{bytes_eq}
use Rattle.std.proofs.Math.Path.{fun_ext}
use Rattle.clap.specs.Lexer.{has_byte}
use Rattle.clap.specs.Words.{Text, first_of}
use Rattle.cob_program_options.specs.Options.{Alone, AreOptions, AreThere, Default, Given, IsThere, OptionKind, Optional, Options, Request, Required, alone, apart, default_of, ended, found_at, joined, none, taken}
use Rattle.cob_program_options.specs.Looks.{AreAll, AreNamed, IsNamed, Look}
use Rattle.cob_program_options.proofs.Rules.{same_as_itself, same_text}
use Rattle.cob_program_options.proofs.Level.{default_entry, defaults_in, look_is, pick, rows_of_given, value_in}
use Rattle.cob_program_options.proofs.Walks.{AreNames, stands_some, takes_some}

-- options whose names are apart, have a character or more, and no `=`
abbrev pub are_sound : Options → Bool
are_sound [] = true
are_sound (o ∷ os) = not (is_some (found_at o.0 os)) && (not (length o.0 == 0) && (not (has_byte 61 o.0) && are_sound os))

pub both : (a b : Bool) → (a && b) ≡ true → (a ≡ true) × (b ≡ true)
both true b e = (refl, e)
both false b e = absurd (true≢false (sym e))

is_false : (a : Bool) → not a ≡ true → a ≡ false
is_false true e = absurd (true≢false (sym e))
is_false false e = refl

is_none : {V : Type 0} (x : Option V) → not (is_some x) ≡ true → x ≡ None
is_none None e = refl
is_none (Some v) e = absurd (true≢false (sym e))

-- what is sound of the first of options, and of the others
record Sound (name : Text) (os : Options) : Type 0 where
  fresh : found_at name os ≡ None
  long : (length name == 0) ≡ false
  plain : has_byte 61 name ≡ false
  rest : are_sound os ≡ true

sound_of : (name : Text) (os : Options) → (not (is_some (found_at name os)) && (not (length name == 0) && (not (has_byte 61 name) && are_sound os))) ≡ true → Sound name os
sound_of name os e =
    let one = both _ _ e in
    let two = both _ _ one.1 in
    let three = both _ _ two.1 in record {
      fresh = is_none (found_at name os) one.0;
      long = is_false _ two.0;
      plain = is_false _ three.0;
      rest = three.1;
    }

pub sound_names : (os : Options) → are_sound os ≡ true → AreNames os
sound_names [] e = tt
sound_names (o ∷ os) e = let h = sound_of o.0 os e in ((h.long, h.plain), sound_names os h.rest)

-- the first option of a name gives its default
default_is : (os : Options) → are_sound os ≡ true → (name : Text) → value_in (defaults_in name os) ≡ default_of (found_at name os)
default_is [] e name = refl
default_is (o ∷ os) e name = let h = sound_of o.0 os e in go o.0 o.1 (bytes_eq o.0 name) refl h.fresh (default_is os h.rest name)
  where
    go : (n : Text) (kind : OptionKind) (b : Bool) → bytes_eq n name ≡ b → found_at n os ≡ None → value_in (defaults_in name os) ≡ default_of (found_at name os)
        → value_in (option_or (pick b (default_entry n kind)) (defaults_in name os))
        ≡ default_of (option_map (λ (it : Text × OptionKind). it.1) (cond b (Some (n, kind)) (find (λ it. bytes_eq it.0 name) os)))
    go n kind false e fresh later = later
    go n kind true e fresh later = by kind (later ∙ ap default_of (sym (ap (λ m. found_at m os) (same_text n name e)) ∙ fresh))
      where
        by : (kind : OptionKind) → value_in (defaults_in name os) ≡ None → value_in (option_or (default_entry n kind) (defaults_in name os)) ≡ default_of (Some kind)
        by Required empty = empty
        by (Default v) empty = refl
        by Optional empty = empty
        by Alone empty = refl
        by Request empty = empty

-- what is found in the rows is what the options name
pub look_same : (os : Options) (given : Given) → are_sound os ≡ true → ◌≡◌ {A = Look} (λ name. first_of name (rows_of_given os given)) (taken os given)
look_same os given sound = fun_ext (λ name. look_is os given name (default_is os sound name))

-- each of some options is the first of its name
abbrev AreFirst : Options → Options → Type 0
AreFirst all [] = Unit {0}
AreFirst all (o ∷ os) = (found_at o.0 all ≡ Some o.1) × AreFirst all os

first_found : (o : Text × OptionKind) (os : Options) (name : Text) (b : Bool) → bytes_eq o.0 name ≡ b
    → found_at name (o ∷ os) ≡ option_map (λ (it : Text × OptionKind). it.1) (cond b (Some o) (find (λ it. bytes_eq it.0 name) os))
first_found o os name b e = ap (λ c. option_map (λ (it : Text × OptionKind). it.1) (cond c (Some o) (find (λ it. bytes_eq it.0 name) os))) e

behind : (o : Text × OptionKind) (all : Options) → found_at o.0 all ≡ None → (os : Options) → AreFirst all os → AreFirst (o ∷ all) os
behind o all fresh [] h = tt
behind o all fresh (x ∷ os) h = (go (bytes_eq o.0 x.0) refl, behind o all fresh os h.1)
  where
    go : (b : Bool) → bytes_eq o.0 x.0 ≡ b → found_at x.0 (o ∷ all) ≡ Some x.1
    go true e = absurd (true≢false (sym (ap is_some (sym fresh ∙ (ap (λ n. found_at n all) (same_text o.0 x.0 e) ∙ h.0)))))
    go false e = first_found o all x.0 false e ∙ h.0

are_first : (os : Options) → are_sound os ≡ true → AreFirst os os
are_first [] e = tt
are_first (o ∷ os) e = let h = sound_of o.0 os e in
    (first_found o os o.0 true (same_as_itself o.0), behind o os h.fresh os (are_first os h.rest))

-- an option that is given, or has a default, names something
names_all : (all : Options) (given : Given) (os : Options) → AreFirst all os → AreThere os given → AreNamed os (taken all given)
names_all all given [] first there = tt
names_all all given (o ∷ os) first there = (go o.0 o.1 first.0 there.0, names_all all given os first.1 there.1)
  where
    some : (x : Option Text) (v : Text) → is_some (option_or x (Some v)) ≡ true
    some None v = refl
    some (Some u) v = refl

    go : (n : Text) (kind : OptionKind) → found_at n all ≡ Some kind → IsThere kind n given → IsNamed kind n (taken all given)
    go n Required is (v, e) = ap (λ x. is_some (option_or x (default_of (found_at n all)))) e
    go n (Default v) is there = ap (λ k. is_some (option_or (found_at n given) (default_of k))) is ∙ some (found_at n given) v
    go n Optional is there = tt
    go n Alone is there = tt
    go n Request is there = tt

pub names_there : (os : Options) (given : Given) → are_sound os ≡ true → AreThere os given → AreNamed os (taken os given)
names_there os given sound there = names_all os given os (are_first os sound) there

-- what has to be there names something
abbrev IsAsked : OptionKind → Text → Look → Type 0 → Type 0
IsAsked Required name look rest = (is_some (look name) ≡ true) × rest
IsAsked kind name look rest = rest

abbrev pub AreAsked : Options → Look → Type 0
AreAsked [] look = Unit {0}
AreAsked (o ∷ os) look = IsAsked o.1 o.0 look (AreAsked os look)

asked_there : (all : Options) (given : Given) (os : Options) → AreFirst all os → AreAsked os (taken all given) → AreThere os given
asked_there all given [] first asked = tt
asked_there all given (o ∷ os) first asked = go o.0 o.1 first.0 asked (asked_there all given os first.1)
  where
    given_is : (n : Text) (x : Option Text) → found_at n given ≡ x → is_some (option_or x None) ≡ true → (v : Text) × (found_at n given ≡ Some v)
    given_is n None e some = absurd (true≢false (sym some))
    given_is n (Some v) e some = (v, e)

    go : (n : Text) (kind : OptionKind) → found_at n all ≡ Some kind → IsAsked kind n (taken all given) (AreAsked os (taken all given))
        → (AreAsked os (taken all given) → AreThere os given) → IsThere kind n given × AreThere os given
    go n Required is asked later = (
      given_is n (found_at n given) refl (sym (ap (λ k. is_some (option_or (found_at n given) (default_of k))) is) ∙ asked.0),
      later asked.1,
    )
    go n (Default v) is asked later = (tt, later asked)
    go n Optional is asked later = (tt, later asked)
    go n Alone is asked later = (tt, later asked)
    go n Request is asked later = (tt, later asked)

pub asked_given : (os : Options) (given : Given) → are_sound os ≡ true → AreAsked os (taken os given) → AreThere os given
asked_given os given sound asked = asked_there os given os (are_first os sound) asked

-- what is given is an option
given_next : (os : Options) (given : Given) (n v name : Text) → is_some (found_at n os) ≡ true → found_at name os ≡ None → found_at name given ≡ None
    → found_at name ((n, v) ∷ given) ≡ None
given_next os given n v name known unknown later = go (bytes_eq n name) refl
  where
    go : (b : Bool) → bytes_eq n name ≡ b → found_at name ((n, v) ∷ given) ≡ None
    go true e = absurd (true≢false (sym known ∙ (ap (λ m. is_some (found_at m os)) (same_text n name e) ∙ ap is_some unknown)))
    go false e = ap (λ c. option_map (λ (it : Text × Text). it.1) (cond c (Some (n, v)) (find (λ it. bytes_eq it.0 name) given))) e ∙ later

given_known : (os : Options) (words : List Text) (given : Given) → AreOptions os words given → (name : Text) → found_at name os ≡ None → found_at name given ≡ None
given_known os words given none name unknown = refl
given_known os words given ended name unknown = refl
given_known os words given (apart n v later others takes is fresh A) name unknown =
    given_next os others n v name (takes_some _ takes) unknown (given_known os later others A name unknown)
given_known os words given (joined n v later others takes fresh A) name unknown =
    given_next os others n v name (takes_some _ takes) unknown (given_known os later others A name unknown)
given_known os words given (alone n later others stands fresh A) name unknown =
    given_next os others n (codes "true") name (stands_some _ stands) unknown (given_known os later others A name unknown)

pub names_only : (os : Options) (words : List Text) (given : Given) → AreOptions os words given → AreAll os (taken os given)
names_only os words given A name unknown = ap (λ x. option_or x (default_of (found_at name os))) (given_known os words given A name unknown) ∙ ap default_of unknown
