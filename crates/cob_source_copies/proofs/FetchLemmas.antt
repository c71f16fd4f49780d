-- Texts fetched one after another.
use Rattle.std.proofs.Common.{◌≡◌, ℕ, ◌+◌, ◌*◌, Bool, true, false, if◌then◌else◌, bytes_eq, List, [], ◌∷◌, ◌++◌, length, map, refl, sym, subst, Option, Some, None}
use Rattle.std.specs.List.{AllByRecursion}
use Rattle.std.proofs.lemmas.Slice.Eq.{bytes_eq-Decides}
use Rattle.cob_limits.specs.Limits.{longest_text}
use Rattle.cob_source.specs.Tokens.{Lexeme}
use Rattle.cob_source.specs.declared.format.TextFormat.{TextFormat}
use Rattle.cob_source.specs.Formats.{AreWordsIn}
use Rattle.cob_source_copies.specs.Statements.{WrittenTextName}
use Rattle.cob_source_copies.specs.Texts.{CopiedText, has_copy, is_one_library, is_one_name, text_named}
use Rattle.cob_source_copies.specs.Libraries.{LibraryGrows, IsTextAdded, IsKnown, MakeLibrary, NamedText, on_line}

joined : (ts us : List NamedText) (a b c : List CopiedText) → MakeLibrary ts a b → MakeLibrary us b c → MakeLibrary (ts ++ us) a c
joined [] us a b c e y = subst (λ (l : List CopiedText). MakeLibrary us l c) (sym e) y
joined (t ∷ ts) us a b c (ws, more, are, added, x) y = (ws, more, are, added, joined ts us more b c x y)

pub grows_none : (a : List CopiedText) → LibraryGrows a a
grows_none a = ([], refl)

pub grows_both : (a b c : List CopiedText) → LibraryGrows a b → LibraryGrows b c → LibraryGrows a c
grows_both a b c (ts, x) (us, y) = (ts ++ us, joined ts us a b c x y)

pub grows_one : (n : WrittenTextName) (format : TextFormat) (text : List ℕ) (ws : List Lexeme) (a b : List CopiedText) → AreWordsIn format text ws → IsTextAdded n (map (on_line ((length a + 1) * longest_text)) ws) a b → LibraryGrows a b
grows_one n format text ws a b are added = (record { named = n; format = format; text = text } ∷ [], (ws, b, are, added, refl))

-- ---- known names

known_step : (b : Bool) (t u : CopiedText) (r s : Option CopiedText) → (r ≡ Some u → s ≡ Some u) → (if b then Some t else r) ≡ Some u → (if b then Some t else s) ≡ Some u
known_step true t u r s more e = e
known_step false t u r s more e = more e

found_front : (a xs : List CopiedText) (n : WrittenTextName) (u : CopiedText) → text_named a n ≡ Some u → text_named (a ++ xs) n ≡ Some u
found_front [] xs n u e = absurd cc
found_front (t ∷ a) xs n u e = known_step (is_one_name t.named n) t u (text_named a n) (text_named (a ++ xs) n) (found_front a xs n u) e

known_front : (a xs : List CopiedText) (n : WrittenTextName) → IsKnown a n → IsKnown (a ++ xs) n
known_front a xs n (u, e) = (u, found_front a xs n u e)

known_made : (ts : List NamedText) (a b : List CopiedText) (n : WrittenTextName) → MakeLibrary ts a b → IsKnown a n → IsKnown b n
known_made [] a b n e k = subst (λ (l : List CopiedText). IsKnown l n) e k
known_made (t ∷ ts) a b n (ws, more, are, (done, x, is), y) k =
    known_made ts more b n y (subst (λ (l : List CopiedText). IsKnown l n) (sym is) (known_front a (record { named = t.named; words = done; holds_copy = has_copy (map (on_line ((length a + 1) * longest_text)) ws) } ∷ []) n k))

pub stays_known : (a b : List CopiedText) (n : WrittenTextName) → LibraryGrows a b → IsKnown a n → IsKnown b n
stays_known a b n (ts, x) k = known_made ts a b n x k

same_bytes : (xs : List ℕ) → bytes_eq xs xs ≡ true
same_bytes xs = (bytes_eq-Decides xs xs).1 refl

same_library : (l : Option (List ℕ)) → is_one_library l l ≡ true
same_library None = refl
same_library (Some t) = same_bytes t

same_name : (n : WrittenTextName) → is_one_name n n ≡ true
same_name n = let first = same_bytes n.name in let second = same_library n.library in rw (first, second) refl

one_known : (b : Bool) (t : CopiedText) (r : Option CopiedText) → ((u : CopiedText) × (r ≡ Some u)) → (u : CopiedText) × ((if b then Some t else r) ≡ Some u)
one_known true t r k = (t, refl)
one_known false t r k = k

last_known : (a : List CopiedText) (t : CopiedText) → IsKnown (a ++ t ∷ []) t.named
last_known [] t = (t, let same = same_name t.named in rw same refl)
last_known (s ∷ a) t = one_known (is_one_name s.named t.named) s (text_named (a ++ t ∷ []) t.named) (last_known a t)

pub added_known : (n : WrittenTextName) (ws : List Lexeme) (a b : List CopiedText) → IsTextAdded n ws a b → IsKnown b n
added_known n ws a b (done, x, is) =
    subst (λ (l : List CopiedText). IsKnown l n) (sym is) (last_known a (record { named = n; words = done; holds_copy = has_copy ws }))

-- where the names that are left are known in a library that goes on from this one, all are
abbrev pub LeftNames : List CopiedText → (rest names : List WrittenTextName) → Type 0
LeftNames now rest names = (texts : List CopiedText) → LibraryGrows now texts → AllByRecursion (IsKnown texts) rest → AllByRecursion (IsKnown texts) names

pub names_left : (now : List CopiedText) (names : List WrittenTextName) → LeftNames now names names
names_left now names = λ texts grows all. all

pub one_fetched : (now next : List CopiedText) (rest more names : List WrittenTextName) (n : WrittenTextName) → rest ≡ n ∷ more → LibraryGrows now next → IsKnown next n → LeftNames now rest names → LeftNames next more names
one_fetched now next rest more names n e grew known left = λ texts grows all.
    left texts (grows_both now next texts grew grows) (subst (λ (t : List WrittenTextName). AllByRecursion (IsKnown texts) t) (sym e) (stays_known next texts n grows known, all))

pub all_fetched : (now : List CopiedText) (rest names : List WrittenTextName) → rest ≡ [] → LeftNames now rest names → AllByRecursion (IsKnown now) names
all_fetched now rest names e left = left now (grows_none now) (subst (λ (t : List WrittenTextName). AllByRecursion (IsKnown now) t) (sym e) tt)
