-- Characters at the places of an alphanumeric edited picture.
use Rattle.std.proofs.Common.{◌≡◌, ℕ, zero, suc, ◌+◌, ◌<◌, Bool, true, false, cond, List, [], ◌∷◌, length, take, drop, get_or, refl, sym, ap, ◌∙◌, arith, count_by, zero-add}
use Rattle.std.specs.Prelude.{if◌then◌else◌, slice_index_or}
use Rattle.std.proofs.lemmas.List.{get_or-drop, same_lists, get_or_default}
use Rattle.std.proofs.lemmas.List.Sums.{sum_by-cons}
use Rattle.cob_picture.specs.declared.symbol.Symbol.{Symbol}
use Rattle.cob_picture.specs.declared.position.Position.{Position}
use Rattle.cob_edit.specs.Pictured.{insertion_byte}
use Rattle.cob_picture.specs.Counts.{is_character}
use Rattle.cob_edit.specs.Characters.{position, character_at, HasCharacters, characters_from, OneSpelling}

-- ---- the text place by place

length-spelled : (ps : List Position) (sender : List ℕ) → length (characters_from ps sender) ≡ length ps
length-spelled [] sender = refl
length-spelled (p ∷ ps) sender = at (is_character p.role) (length-spelled ps (drop 1 sender)) (length-spelled ps sender)
  where
    at : (b : Bool) → length (characters_from ps (drop 1 sender)) ≡ length ps → length (characters_from ps sender) ≡ length ps → length (if b then slice_index_or sender 0 64 ∷ characters_from ps (drop 1 sender) else insertion_byte p.symbol ∷ characters_from ps sender) ≡ suc (length ps)
    at true h k = omega (arith, h)
    at false h k = omega (arith, k)

spelled_at : (ps : List Position) (sender : List ℕ) (j : ℕ) → j < length ps → get_or (characters_from ps sender) j 0 ≡ character_at ps sender j
spelled_at [] sender j lt = absurd (omega arith)
spelled_at (p ∷ ps) sender zero lt = at (is_character p.role)
  where
    at : (b : Bool) → get_or (if b then slice_index_or sender 0 64 ∷ characters_from ps (drop 1 sender) else insertion_byte p.symbol ∷ characters_from ps sender) 0 0 ≡ (if b then slice_index_or sender 0 64 else insertion_byte p.symbol)
    at true = refl
    at false = refl
spelled_at (p ∷ ps) sender (suc j) lt =
    at (is_character p.role) (spelled_at ps (drop 1 sender) j (omega arith)) (spelled_at ps sender j (omega arith))
    ∙ sym (ap (λ n. if is_character (position ps j).role then slice_index_or sender n 64 else insertion_byte (position ps j).symbol) (sum_by-cons (λ (q : Position). cond (is_character q.role) 1 0) p (take j ps)))
  where
    moved : (r : Bool) (s : Symbol) → (if r then slice_index_or (drop 1 sender) (count_by (λ q. is_character q.role) (take j ps)) 64 else insertion_byte s) ≡ (if r then slice_index_or sender (1 + count_by (λ q. is_character q.role) (take j ps)) 64 else insertion_byte s)
    moved true s = get_or-drop 1 sender (count_by (λ q. is_character q.role) (take j ps)) 64
    moved false s = refl

    at : (b : Bool) → get_or (characters_from ps (drop 1 sender)) j 0 ≡ character_at ps (drop 1 sender) j → get_or (characters_from ps sender) j 0 ≡ character_at ps sender j → get_or (if b then slice_index_or sender 0 64 ∷ characters_from ps (drop 1 sender) else insertion_byte p.symbol ∷ characters_from ps sender) (suc j) 0 ≡ (if is_character (position ps j).role then slice_index_or sender (cond b 1 0 + count_by (λ q. is_character q.role) (take j ps)) 64 else insertion_byte (position ps j).symbol)
    at true h k = h ∙ moved (is_character (position ps j).role) (position ps j).symbol
    at false h k = k ∙ ap (λ n. if is_character (position ps j).role then slice_index_or sender n 64 else insertion_byte (position ps j).symbol) (sym (zero-add (count_by (λ q. is_character q.role) (take j ps))))

pub spelled_has : (ps : List Position) (sender : List ℕ) → HasCharacters ps sender (characters_from ps sender)
spelled_has ps sender = record { one_length = length-spelled ps sender; each = spelled_at ps sender }

pub one_spelling : OneSpelling
one_spelling ps sender x y a b =
    same_lists x y (a.one_length ∙ sym b.one_length) (λ i d lt.
    let inside : i < length ps = omega (arith, a.one_length) in
    let under : i < length y = omega (arith, b.one_length) in
    get_or_default x i d 0 lt ∙ a.each i inside ∙ sym (b.each i inside) ∙ get_or_default y i 0 d under)
