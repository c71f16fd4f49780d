-- Places that have a byte.
use Rattle.std.proofs.Common.{◌≡◌, ◌⊎◌, ℕ, ◌<◌, Bool, true, false, ◌||◌, List, [], ◌∷◌, get_or, length, refl, sym, ap, ◌∙◌, inl, inr}
use Rattle.std.specs.Bool.{Decides}
use Rattle.std.specs.List.{list_any}
use Rattle.cob_copybook_tree.specs.Forests.{Forest}
use Rattle.cob_copybook_tree.specs.Nodes.{Resolved}
use Rattle.cob_layout_places.specs.Cover.{Occurrence}
use Rattle.cob_layout.specs.declared.fields.Place.{Place}
use Rattle.cob_move_apply.specs.Some.{SomeOf}
use Rattle.cob_report_cover.specs.Covered.{AreMarks, HasOffset, has_offset}
use Rattle.cob_report_cover.specs.Gathered.{Gathers, HasPlaceWhere, IsPassed}

first_or : (a b : Bool) → (a || b) ≡ true → (a ≡ true) ⊎ (b ≡ true)
first_or true b h = inl refl
first_or false b h = inr h

or_first : (a b : Bool) → a ≡ true → (a || b) ≡ true
or_first true b h = refl
or_first false b h = absurd (cc)

or_second : (a b : Bool) → b ≡ true → (a || b) ≡ true
or_second true b h = refl
or_second false b h = h

any_some : (f : Place → Bool) (ps : List Place) → list_any f ps ≡ true → SomeOf (IsPassed f) ps
any_some f [] h = absurd (cc)
any_some f (p ∷ ps) h = elim (first_or (f p) (list_any f ps) h) [ inl here ↦ inl here | inr there ↦ inr (any_some f ps there) ]

some_any : (f : Place → Bool) (ps : List Place) → SomeOf (IsPassed f) ps → list_any f ps ≡ true
some_any f [] h = absurd h
some_any f (p ∷ ps) (inl here) = or_first (f p) (list_any f ps) here
some_any f (p ∷ ps) (inr there) = or_second (f p) (list_any f ps) (some_any f ps there)

-- some place has the byte exactly where some occurrence stands where it is
covers : (tree : Forest Resolved) (ps : List Place) (xs : List Occurrence) (o : ℕ) (b : Bool) → b ≡ list_any (has_offset o) ps → Gathers tree ps xs
    → Decides b (SomeOf (HasPlaceWhere tree (HasOffset o)) xs)
covers tree ps xs o b is gathers = (
  λ h. (gathers (has_offset o)).0 (any_some (has_offset o) ps (sym is ∙ h)),
  λ h. is ∙ some_any (has_offset o) ps ((gathers (has_offset o)).1 h),
)

-- and so of all bytes, where the same places were looked through
pub are_marks : (tree : Forest Resolved) (ps qs : List Place) (xs : List Occurrence) (marks : List Bool) → qs ≡ ps
    → ((o : ℕ) → o < length marks → get_or marks o false ≡ list_any (has_offset o) qs) → Gathers tree ps xs
    → AreMarks (λ (o : ℕ). SomeOf (HasPlaceWhere tree (HasOffset o)) xs) marks
are_marks tree ps qs xs marks same each gathers o lt =
    covers tree ps xs o (get_or marks o false) (each o lt ∙ ap (λ (rs : List Place). list_any (has_offset o) rs) same) gathers
