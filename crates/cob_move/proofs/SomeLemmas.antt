-- One of several, and each of several.
use Rattle.std.proofs.Common.{◌≡◌, ℕ, ◌+◌, ◌<◌, List, [], ◌∷◌, ◌++◌, length, get_or, map, drop, sym, ap, subst, ◌∙◌, inl, inr, ◌⊎◌}
use Rattle.std.proofs.lemmas.List.{at_drop_more}
use Rattle.std.specs.List.{AllByRecursion}
use Rattle.cob_move_apply.specs.Some.{SomeOf}

pub left : {P Q : Type 0} → (Q → ⊥) → P ⊎ Q → P
left f (inl p) = p
left f (inr q) = absurd (f q)

pub right : {P Q : Type 0} → (P → ⊥) → P ⊎ Q → Q
right f (inl p) = absurd (f p)
right f (inr q) = q

pub some_map : {A : Type 0} (P Q : A → Type 0) → ((x : A) → P x → Q x) → (xs : List A) → SomeOf P xs → SomeOf Q xs
some_map P Q f [] h = h
some_map P Q f (x ∷ xs) (inl p) = inl (f x p)
some_map P Q f (x ∷ xs) (inr h) = inr (some_map P Q f xs h)

pub some_front : {A : Type 0} (P : A → Type 0) (xs ys : List A) → SomeOf P xs → SomeOf P (xs ++ ys)
some_front P [] ys h = absurd h
some_front P (x ∷ xs) ys (inl p) = inl p
some_front P (x ∷ xs) ys (inr h) = inr (some_front P xs ys h)

pub some_behind : {A : Type 0} (P : A → Type 0) (xs ys : List A) → SomeOf P ys → SomeOf P (xs ++ ys)
some_behind P [] ys h = h
some_behind P (x ∷ xs) ys h = inr (some_behind P xs ys h)

pub none_of : {A : Type 0} (P : A → Type 0) → ((x : A) → P x → ⊥) → (xs : List A) → SomeOf P xs → ⊥
none_of P f [] h = h
none_of P f (x ∷ xs) (inl p) = f x p
none_of P f (x ∷ xs) (inr h) = none_of P f xs h

-- what each is, none may be
pub clash : {A : Type 0} (N P : A → Type 0) → ((x : A) → N x → P x → ⊥) → (xs : List A) → AllByRecursion N xs → SomeOf P xs → ⊥
clash N P f [] all some = some
clash N P f (x ∷ xs) all (inl p) = f x all.0 p
clash N P f (x ∷ xs) all (inr h) = clash N P f xs all.1 h

pub all_append : {A : Type 0} (P : A → Type 0) (xs ys : List A) → AllByRecursion P xs → AllByRecursion P ys → AllByRecursion P (xs ++ ys)
all_append P [] ys h k = k
all_append P (x ∷ xs) ys h k = (h.0, all_append P xs ys h.1 k)

pub all_here : {A : Type 0} (P : A → Type 0) (xs ys : List A) (x : A) → AllByRecursion P (xs ++ x ∷ ys) → P x
all_here P [] ys x h = h.0
all_here P (y ∷ xs) ys x h = all_here P xs ys x h.1

pub all_map : {A B : Type 0} (P : A → Type 0) (Q : B → Type 0) (f : A → B) → ((x : A) → P x → Q (f x)) → (xs : List A) → AllByRecursion P xs → AllByRecursion Q (map f xs)
all_map P Q f g [] h = tt
all_map P Q f g (x ∷ xs) h = (g x h.0, all_map P Q f g xs h.1)

pub all_weaken : {A : Type 0} (P Q : A → Type 0) → ((x : A) → P x → Q x) → (xs : List A) → AllByRecursion P xs → AllByRecursion Q xs
all_weaken P Q g [] h = tt
all_weaken P Q g (x ∷ xs) h = (g x h.0, all_weaken P Q g xs h.1)

-- the elements from a place on
pub next : {A : Type 0} (xs : List A) (i : ℕ) (x : A) → i < length xs → x ≡ get_or xs i x → drop i xs ≡ x ∷ drop (i + 1) xs
next {A} xs i x lt is = at_drop_more (λ (ys : List A). ys) xs i x lt ∙ ap (λ (y : A). y ∷ drop (i + 1) xs) (sym is)

pub some_here : {A B : Type 0} (f : A → B) (P : B → Type 0) (xs : List A) (i : ℕ) (x : A) → i < length xs → x ≡ get_or xs i x → P (f x) → SomeOf P (map f (drop i xs))
some_here {A} {B} f P xs i x lt is p = subst (λ (ys : List A). SomeOf P (map f ys)) (sym (next xs i x lt is)) (inl p)

pub some_later : {A B : Type 0} (f : A → B) (P : B → Type 0) (xs : List A) (i : ℕ) (x : A) → i < length xs → x ≡ get_or xs i x → SomeOf P (map f (drop (i + 1) xs)) → SomeOf P (map f (drop i xs))
some_later {A} {B} f P xs i x lt is p = subst (λ (ys : List A). SomeOf P (map f ys)) (sym (next xs i x lt is)) (inr p)
