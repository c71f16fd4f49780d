-- What was written of a text, piece by piece.
use Rattle.std.proofs.Common.{◌≡◌, ℕ, ◌+◌, ◌<◌, ◌≤◌, List, [], ◌∷◌, ◌++◌, length, drop, get_or, map, refl, sym, ap, ◌∙◌, append_assoc, append-nil}
use Rattle.std.specs.List.{flat_map}
use Rattle.std.specs.Fmt.{HasWritten, IsPlainFormatter}
use Rattle.std.specs.declared.fmt.Formatter.{Formatter}
use Rattle.std.proofs.Output.{has_written_append, has_written_of_eq, writes_in_calls_nil}
use Rattle.std.proofs.lemmas.Grind.{flat_map-append}
use Rattle.std.proofs.lemmas.List.{drop_all, drop_more}
use Rattle.cob_report_boxes.specs.Shown.{shown, shown_character}

-- some of the whole text was written, and the rest is left
abbrev pub WroteSoFar : {W : Type 0} → (W → List ℕ → W → Type 0) → Formatter W → List ℕ → List ℕ → Formatter W → Type 0
WroteSoFar took f whole left g = (done : List ℕ) × HasWritten took f done g × (done ++ left ≡ whole)

module _ {W : Type 0} (took : W → List ℕ → W → Type 0) where
  pub none_written : (f : Formatter W) (whole : List ℕ) → IsPlainFormatter f → WroteSoFar took f whole whole f
  none_written f whole plain = ([], record { wrote = writes_in_calls_nil took f.writer; plain = plain }, refl)

  pub more_written : (f g h : Formatter W) (whole left now next : List ℕ) → WroteSoFar took f whole left g → left ≡ now ++ next → HasWritten took g now h
      → WroteSoFar took f whole next h
  more_written f g h whole left now next (done, wrote, is) cut this = (
    done ++ now,
    has_written_append took f done g now h wrote this,
    append_assoc done now next ∙ ap (λ (t : List ℕ). done ++ t) (sym cut) ∙ is,
  )

  pub all_written : (f g : Formatter W) (whole left : List ℕ) → WroteSoFar took f whole left g → left ≡ [] → HasWritten took f whole g
  all_written f g whole left (done, wrote, is) end =
      has_written_of_eq took f done whole g (sym (append-nil done) ∙ ap (λ (t : List ℕ). done ++ t) (sym end) ∙ is) wrote

-- of the texts of a list the next one, and those that are left behind it
pub texts_left : {X : Type 0} (text : X → List ℕ) (xs : List X) (i : ℕ) (x : X) → i < length xs → x ≡ get_or xs i x
    → flat_map text (drop i xs) ≡ text x ++ flat_map text (drop (i + 1) xs)
texts_left text xs i x low is =
    ap (λ ys. flat_map text ys) (drop_more xs i x low) ∙ ap (λ y. text y ++ flat_map text (drop (i + 1) xs)) (sym is)

-- the same of the bytes of a list
pub byte_left : (text : ℕ → List ℕ) (xs : List ℕ) (i : ℕ) → i < length xs → flat_map text (drop i xs) ≡ text (get_or xs i 0) ++ flat_map text (drop (i + 1) xs)
byte_left text xs i low = ap (λ ys. flat_map text ys) (drop_more xs i 0 low)

-- no text is left
pub no_texts_left : {X : Type 0} (text : X → List ℕ) (xs : List X) (i : ℕ) → length xs ≤ i → flat_map text (drop i xs) ≡ []
no_texts_left text xs i end = ap (λ ys. flat_map text ys) (drop_all i xs end)

-- texts one behind another are shown one behind another
pub shown_append : (xs ys : List ℕ) → shown (xs ++ ys) ≡ shown xs ++ shown ys
shown_append xs ys = flat_map-append shown_character xs ys

-- the same of the texts of a list
pub shown_each : {X : Type 0} (text : X → List ℕ) (xs : List X) → shown (flat_map text xs) ≡ flat_map (λ x. shown (text x)) xs
shown_each text [] = refl
shown_each text (x ∷ xs) = shown_append (text x) (flat_map text xs) ∙ ap (λ (t : List ℕ). shown (text x) ++ t) (shown_each text xs)

-- texts of what is seen of a list
pub each_of_map : {X Y : Type 0} (view : X → Y) (text : Y → List ℕ) (xs : List X) → flat_map text (map view xs) ≡ flat_map (λ x. text (view x)) xs
each_of_map view text [] = refl
each_of_map view text (x ∷ xs) = ap (λ (t : List ℕ). text (view x) ++ t) (each_of_map view text xs)
