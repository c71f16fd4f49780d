-- What is given of chosen records that are all that is left of their source, or its first bytes.
use Rattle.std.proofs.Common.{◌≡◌, ◌∙◌, ℕ, zero, suc, ◌-◌, ◌<◌, ◌≤◌, ◌==◌, ◌&&◌, nat_lt, Bool, true, false, if◌then◌else◌, List, [], ◌∷◌, ◌++◌, length, take, drop, refl, sym, ap, arith, rules, None, Some, Option}
use Rattle.std.proofs.Math.ListN.{length-append}
use Rattle.std.proofs.lemmas.Grind.{common_steps}
use Rattle.std.specs.List.{AllByRecursion}
use Rattle.std.specs.Prelude.{IfOk, option_map}
use Rattle.cob_records.specs.Device.{Told, greatest_count}
use Rattle.cob_records.specs.Forms.{Come}
use Rattle.cob_records.specs.Frame.{IsRecord, descriptor, framed, is_unblocked}
use Rattle.cob_records.specs.declared.records.Form.{Form}
use Rattle.cob_records.specs.declared.records.Form.TheVariants.{Fixed, Variable, Blocked}
use Rattle.cob_records_parts.specs.Aheads.{ahead_in, chosen_ahead_of}
use Rattle.cob_records_parts.specs.Choices.{HasCome, all_alone}
use Rattle.cob_records_parts.specs.Helds.{held_bytes, holds_none}
use Rattle.cob_records_parts.specs.Incomings.{GivesAllBehind}
use Rattle.cob_records_parts.specs.Parts.{at_most}
use Rattle.cob_records_parts.specs.Rests.{IsGivenBehind, RestGives, RestIsBehind, ahead_behind, chosen_ahead, rest_by}
use Rattle.cob_records_parts.specs.Walks.{HasWalkedTo}
use Rattle.cob_records_parts.specs.declared.ahead.Ahead.{Ahead}
use Rattle.cob_records_parts.specs.declared.ahead.Ahead.TheVariants as ahead
use Rattle.cob_records_parts.specs.declared.choice.Choice.{Choice}
use Rattle.cob_records_parts.specs.declared.choice.Stopped.{Stopped}
use Rattle.cob_records_parts.specs.declared.chosen.Chosen.{Chosen}
use Rattle.cob_records_parts.specs.declared.walk.Walk.{Walk}

-- ---- without blocks

closed : (form : Form) (left : ℕ) (bodies : List (List ℕ)) (bytes : List ℕ) (after : ℕ) (rest : List ℕ) → is_unblocked form ≡ true
    → Come form left bodies bytes after rest → after ≡ left
closed Fixed left [] bytes after rest plain (is, same) = same
closed Fixed left (body ∷ bodies) bytes after rest plain (mid, more, (frame, stays), others) = closed Fixed mid bodies more after rest plain others ∙ stays
closed Variable left [] bytes after rest plain (is, same) = same
closed Variable left (body ∷ bodies) bytes after rest plain (mid, more, (frame, stays), others) = closed Variable mid bodies more after rest plain others ∙ stays
closed (Blocked most) left bodies bytes after rest plain come = absurd (cc)

none_alone : (form : Form) (greatest : ℕ) (bodies : List (List ℕ)) → is_unblocked form ≡ true → 0 < greatest → AllByRecursion (IsRecord form greatest) bodies
    → all_alone form bodies ≡ [] → bodies ≡ []
none_alone form greatest [] plain low each none = refl
none_alone Fixed greatest (body ∷ bodies) plain low (is, each) none =
    absurd (omega (arith, low, is, ap (length {A = ℕ}) none, length-append body (all_alone Fixed bodies)))
none_alone Variable greatest (body ∷ bodies) plain low ((some, most), each) none =
    absurd (omega (
      arith,
      some,
      ap (length {A = ℕ}) none,
      length-append (framed Variable body) (all_alone Variable bodies),
      length-append (descriptor (length body)) body,
    ))
none_alone (Blocked most) greatest (body ∷ bodies) plain low each none = absurd (cc)

all_dropped : {X : Type 0} (P : X → Type 0) (n : ℕ) (xs : List X) → AllByRecursion P xs → AllByRecursion P (drop n xs)
all_dropped P zero xs all = all
all_dropped P (suc n) [] all = tt
all_dropped P (suc n) (x ∷ xs) (one, all) = all_dropped P n xs all

none_dropped : {X : Type 0} (n : ℕ) (xs : List X) → drop n xs ≡ [] → length xs ≤ n
none_dropped n [] none = omega arith
none_dropped zero (x ∷ xs) none = absurd (cc)
none_dropped (suc n) (x ∷ xs) none = omega (arith, none_dropped n xs none)

-- ---- where nothing is held

both : (a b : Bool) → (a && b) ≡ true → (a ≡ true) × (b ≡ true)
both true true e = (refl, refl)
both true false e = absurd (cc)
both false b e = absurd (cc)

none_held : (at from end : ℕ) (front items : List ℕ) → length front ≡ 8 → (at == 8) ≡ true → (from == end) ≡ true
    → drop at front ++ take (end - from) (drop from items) ≡ []
none_held at from end front items long e f =
    let eight : at ≡ 8 = search rules in
    let same : from ≡ end = search rules in
    let given : drop at front ≡ [] = grind (arith, common_steps) in
    let no_more : end - from ≡ 0 = omega (arith, same) in
    rw (given, no_more) refl

-- ---- how much is ahead

-- the records are not given apart
abbrev Joined : Ahead → Type 0
Joined a = a ≡ ahead.Apart → ⊥

joined_of : (stop : Option Stopped) (spent : Bool) (walk : Walk) (a : Ahead) → ahead_behind stop spent walk ≡ a → Joined a
    → (spent ≡ true) × (chosen_ahead_of walk ≡ a)
joined_of None true walk a e joined = (refl, e)
joined_of None false walk a e joined = absurd (joined (sym e))
joined_of (Some stop) spent walk a e joined = absurd (joined (sym e))

reached : (b : Bool) (x a : Ahead) → (if b then ahead.Apart else x) ≡ a → Joined a → (b ≡ false) × (x ≡ a)
reached true x a e joined = absurd (joined (sym e))
reached false x a e joined = (refl, e)

unblocked : (form : Form) (greatest : ℕ) (is_all : Bool) (count : ℕ) (a : Ahead) → ahead_in form greatest is_all count ≡ a → Joined a → is_unblocked form ≡ true
unblocked Fixed greatest is_all count a e joined = refl
unblocked Variable greatest is_all count a e joined = refl
unblocked (Blocked most) greatest is_all count a e joined = absurd (joined (sym e))

-- what stands behind the records that are passed over
behind : (form : Form) (greatest skip number left : ℕ) (held first mid : List ℕ) → is_unblocked form ≡ true → 0 < greatest → nat_lt number skip ≡ false
    → held ≡ [] → HasCome form greatest skip number left held first mid → (bound : Option ℕ) → IsGivenBehind form greatest skip bound first (at_most bound mid)
behind form greatest skip number left held first mid plain low reaches none come bound =
    let dropped : drop skip come.bodies ≡ [] =
    none_alone form greatest (drop skip come.bodies) plain low (all_dropped (IsRecord form greatest) skip come.bodies come.each) (sym come.those ∙ none) in
    let few : length come.bodies ≤ skip = none_dropped skip come.bodies dropped in
    let enough : skip ≤ number = search rules in
    let shut : left ≡ 0 = closed form 0 come.bodies first left mid plain come.come in
    record {
      passed = come.bodies;
      behind = mid;
      each = come.each;
      come = rw shut at come.come;
      many = omega (arith, come.many, few, enough);
      all = refl;
    }

joined_rest : {R : Type 0} (coming : R → Option (List ℕ)) (source : Chosen R) (a : Ahead) (bound : Option ℕ) → chosen_ahead source ≡ a → Joined a
    → (form : Form) (greatest : ℕ) (choice : Choice) (first : List ℕ) → GivesAllBehind form greatest choice (Some first) (coming source.inner) source
    → RestGives coming form greatest choice.skip first (record { inner = source.inner; bytes = bound })
joined_rest coming source a bound is joined form greatest choice first gives =
    let walk = source.walk in
    let (spent, ahead_is) = joined_of source.stopped (holds_none source.held) walk a is joined in
    let (reaches, in_is) = reached (nat_lt walk.number walk.skip) (ahead_in walk.form walk.greatest (walk.last == greatest_count) (walk.last - walk.number)) a ahead_is joined in
    let plain = unblocked walk.form walk.greatest (walk.last == greatest_count) (walk.last - walk.number) a in_is joined in
    let (eight, same) = both (source.held.at == 8) (source.held.from == source.held.end) spent in
    let none : held_bytes source.held ≡ [] =
    none_held source.held.at source.held.from source.held.end source.held.front source.held.body.items source.held.front_long eight same in
    told (coming source.inner) gives.none (λ mid come. behind walk.form walk.greatest walk.skip walk.number walk.left (held_bytes source.held) first mid plain
    walk.low reaches none come bound)
  where
    told : (now : Option (List ℕ)) → Told (Some first) now (HasWalkedTo source.walk (held_bytes source.held))
        → ((mid : List ℕ) → HasWalkedTo source.walk (held_bytes source.held) first mid
        → IsGivenBehind source.walk.form source.walk.greatest source.walk.skip bound first (at_most bound mid))
        → (given : List ℕ) × (option_map (at_most bound) now ≡ Some given) × IsGivenBehind form greatest choice.skip bound first given
    told None come f = absurd come
    told (Some mid) come f = (at_most bound mid, refl, rw (← gives.form_is, ← gives.greatest_is, ← gives.skip_is) (f mid come))

by_ahead : {R : Type 0} (coming : R → Option (List ℕ)) (source : Chosen R) (form : Form) (greatest : ℕ) (choice : Choice) (first : List ℕ)
    → GivesAllBehind form greatest choice (Some first) (coming source.inner) source → (a : Ahead) → chosen_ahead source ≡ a
    → IfOk (rest_by a source) (RestGives coming form greatest choice.skip first)
by_ahead coming source form greatest choice first gives ahead.All is = joined_rest coming source ahead.All None is (λ e. absurd (cc)) form greatest choice first gives
by_ahead coming source form greatest choice first gives (ahead.Bytes count) is =
    joined_rest coming source (ahead.Bytes count) (Some count) is (λ e. absurd (cc)) form greatest choice first gives
by_ahead coming source form greatest choice first gives ahead.Apart is = tt

pub rest_is_behind : {R : Type 0} (coming : R → Option (List ℕ)) (source : Chosen R) → RestIsBehind coming source
rest_is_behind coming source = λ form greatest choice first gives. by_ahead coming source form greatest choice first gives (chosen_ahead source) refl
