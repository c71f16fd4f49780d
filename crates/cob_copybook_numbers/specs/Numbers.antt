-- The entries of a record's tree in the order of its text.
use Rattle.std.specs.Prelude.{◌≡◌, ℕ, ◌+◌, List, [], ◌∷◌}
use Rattle.cob_copybook_entry.specs.Described.{PlainEntry}
use Rattle.cob_copybook_tree.specs.Nodes.{Resolved}

-- an entry of a tree is the one that is written so: its level, name, REDEFINES and VALUE are what is written
pub record IsWrittenAs (d : PlainEntry) (e : Resolved) : Type 0 where
  pub level : e.level ≡ d.level
  pub name : e.name ≡ d.name
  pub redefines : e.redefines ≡ d.redefines
  pub value : e.value ≡ d.value

-- entries of a tree are those that are written, one for one, and have numbers one behind another from this one on
abbrev pub AreNumberedInOrder : ℕ → List PlainEntry → List Resolved → Type 0
AreNumberedInOrder n [] [] = Unit {0}
AreNumberedInOrder n (d ∷ ds) (e ∷ es) = (e.number ≡ n) × IsWrittenAs d e × AreNumberedInOrder (n + 1) ds es
AreNumberedInOrder n ds es = ⊥
