-- An entry without where it lies in memory, and without its line.
use Rattle.std.specs.Prelude.{ℕ, ℤ, Bool, List, Option, option_map}
use Rattle.cob_picture.specs.Positions.{PlainPicture}
use Rattle.cob_copybook_entry.specs.declared.kinds.Usage.{Usage}
use Rattle.cob_copybook_entry.specs.declared.kinds.Sign.{Sign}
use Rattle.cob_copybook_entry.specs.declared.kinds.Figurative.{Figurative}
use Rattle.cob_copybook_entry.specs.declared.value.Value.{Value}
use Rattle.cob_copybook_entry.specs.declared.value.Value.TheVariants as value
use Rattle.cob_copybook_entry.specs.declared.entry.Entry.{Entry}
use Rattle.cob_copybook_entry.specs.declared.entry.Occurs.{Occurs}
use Rattle.cob_copybook_entry.specs.declared.entry.Occurs.TheVariants as occurs

-- the constant of a VALUE clause: whether a number's sign is written, its minus, digits and scale; a literal's characters; a figurative
-- constant; or ALL and a literal's characters
pub data PlainValue : Type 0 where
  Numeric : Bool → Bool → List ℕ → ℤ → PlainValue
  Quoted : List ℕ → PlainValue
  Figure : Figurative → PlainValue
  Repeated : List ℕ → PlainValue

-- how often an entry occurs: a number of times, or from a least to a greatest one, as the count of this name with these qualifiers says
pub data PlainOccurs : Type 0 where
  Fixed : ℕ → PlainOccurs
  Varying : ℕ → ℕ → List ℕ → List (List ℕ) → PlainOccurs

-- what an entry's clauses say; an entry without a name is FILLER
pub record PlainEntry : Type 0 where
  pub level : ℕ
  pub name : Option (List ℕ)
  pub redefines : Option (List ℕ)
  pub picture : Option PlainPicture
  pub usage : Option Usage
  pub sign : Option Sign
  pub occurs : Option PlainOccurs
  pub value : Option PlainValue
  pub justified : Bool
  pub blank : Bool

-- the constant of a VALUE clause, as it was read
abbrev pub plain_value : Value → PlainValue
plain_value (value.Number signed n) = Numeric signed n.negative n.digits n.scale
plain_value (value.Literal t) = Quoted t
plain_value (value.Figurative f) = Figure f
plain_value (value.All t) = Repeated t

-- how often an entry occurs, as it was read
abbrev pub plain_occurs : Occurs → PlainOccurs
plain_occurs (occurs.Fixed n) = Fixed n
plain_occurs (occurs.Varying least most count) = Varying least most count.name count.qualifiers.items

-- an entry, as it was read
abbrev pub plain_entry : Entry → PlainEntry
plain_entry e = record {
  level = e.level;
  name = e.name;
  redefines = e.redefines;
  picture = e.picture;
  usage = e.usage;
  sign = e.sign;
  occurs = option_map plain_occurs e.occurs;
  value = option_map plain_value e.value;
  justified = e.justified;
  blank = e.blank;
}
