-- Values that are read by any zones, where strict zones give none.
use Rattle.std.proofs.Common.{◌≡◌, ◌↔◌, ◌∙◌, ℕ, Bool, true, false, List, refl, sym, subst, Option, Some, None}
use Rattle.std.specs.Prelude.{IfSome, IsSomeAnd, is_some}
use Rattle.cob_codec.specs.Readings.{keeping_zones}
use Rattle.cob_codec.specs.declared.reading.Reading.{Reading}
use Rattle.cob_copybook_tree.specs.declared.node.Item.{Item}
use Rattle.cob_copybook_tree.specs.declared.node.Kind.{Kind}
use Rattle.cob_copybook_tree.specs.Items.{IsSentBy}
use Rattle.cob_copybook_tree.specs.Resolving.{is_number}
use Rattle.cob_move_receive.specs.Sent.{Sent}
use Rattle.cob_report_explain.specs.Anyhow.{GivesBy, IsMark, IsReadAnyhow}

there_is : {A : Type 0} (reading : Reading) (i : Item) (bytes : List ℕ) (o : Option A) (negative : A → Bool) (digits : A → List ℕ)
    → IfSome o (λ v. IsSentBy reading i bytes (negative v) (digits v)) → is_some o ≡ true → GivesBy reading i bytes
there_is reading i bytes None negative digits found e = cc
there_is reading i bytes (Some v) negative digits found e = (negative v, digits v, found)

is_there : {A : Type 0} (reading : Reading) (i : Item) (bytes : List ℕ) (o : Option A) (negative : A → Bool) (digits : A → List ℕ)
    → ((n : Bool) (ds : List ℕ) → IsSentBy reading i bytes n ds → IsSomeAnd o (λ v. (negative v ≡ n) × (digits v ≡ ds))) → GivesBy reading i bytes → is_some o ≡ true
is_there reading i bytes None negative digits only (n, ds, sent) = absurd (only n ds sent)
is_there reading i bytes (Some v) negative digits only gives = refl

-- what is read is there exactly where the bytes represent a number
pub read_gives : {A : Type 0} (reading : Reading) (i : Item) (bytes : List ℕ) (o : Option A) (negative : A → Bool) (digits : A → List ℕ) (r : Bool) → r ≡ is_some o
    → IfSome o (λ v. IsSentBy reading i bytes (negative v) (digits v))
    → ((n : Bool) (ds : List ℕ) → IsSentBy reading i bytes n ds → IsSomeAnd o (λ v. (negative v ≡ n) × (digits v ≡ ds))) → (r ≡ true) ↔ GivesBy reading i bytes
read_gives reading i bytes o negative digits r is found only = (
  λ e. there_is reading i bytes o negative digits found (sym is ∙ e),
  λ gives. is ∙ is_there reading i bytes o negative digits only gives,
)

is_so : (reading : Reading) (i : Item) (bytes : List ℕ) → IsReadAnyhow reading i bytes → is_number i ≡ true
is_so reading i bytes (is, gives, refuses) = is

gives_so : (reading : Reading) (i : Item) (bytes : List ℕ) → IsReadAnyhow reading i bytes → GivesBy reading i bytes
gives_so reading i bytes (is, gives, refuses) = gives

refuses_so : (reading : Reading) (i : Item) (bytes : List ℕ) → IsReadAnyhow reading i bytes → GivesBy (keeping_zones reading) i bytes → ⊥
refuses_so reading i bytes (is, gives, refuses) = refuses

never_true : {A : Type 0} → false ≡ true → A
never_true e = cc

-- strict zones are a reading too
pub strictly_gives : (x y : Reading) (i : Item) (bytes : List ℕ) (r : Bool) → x ≡ y → (r ≡ true) ↔ GivesBy x i bytes → (r ≡ true) ↔ GivesBy y i bytes
strictly_gives x y i bytes r is h = subst (λ (z : Reading). (r ≡ true) ↔ GivesBy z i bytes) is h

-- what strict zones read is not read so
pub strictly_read : (reading : Reading) (i : Item) (bytes : List ℕ) → GivesBy (keeping_zones reading) i bytes → (false ≡ true) ↔ IsReadAnyhow reading i bytes
strictly_read reading i bytes gives = (never_true, λ h. absurd (refuses_so reading i bytes h gives))

-- what strict zones refuse is read so exactly where the reading in use gives a number
pub refused_read : (reading : Reading) (i : Item) (bytes : List ℕ) (wide strict : Bool) → is_number i ≡ true → (wide ≡ true) ↔ GivesBy reading i bytes
    → (strict ≡ true) ↔ GivesBy (keeping_zones reading) i bytes → strict ≡ false → (wide ≡ true) ↔ IsReadAnyhow reading i bytes
refused_read reading i bytes wide strict is wider stricter refused =
    let none : GivesBy (keeping_zones reading) i bytes → ⊥ = λ gives. never_true (sym refused ∙ stricter.1 gives) in (
      λ e. (is, wider.0 e, none),
      λ h. wider.1 (gives_so reading i bytes h),
    )

-- what is no number's item is not read so
pub no_number : (reading : Reading) (i : Item) (bytes : List ℕ) → is_number i ≡ false → (false ≡ true) ↔ IsReadAnyhow reading i bytes
no_number reading i bytes is = (never_true, λ h. never_true (sym is ∙ is_so reading i bytes h))

-- the mark of a receiver of this kind is that of another name of it
pub mark_of : (a b : Kind) (s : Sent) (mark : Bool) → a ≡ b → IsMark a s mark → IsMark b s mark
mark_of a b s mark is h = subst (λ (k : Kind). IsMark k s mark) is h
