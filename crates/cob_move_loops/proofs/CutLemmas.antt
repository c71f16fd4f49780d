-- Words in which as many loops, or choices of a kind, are closed as are opened.
use Rattle.std.proofs.Common.{◌≡◌, ℕ, Bool, true, false, List, [], ◌∷◌, ◌++◌, refl, sym, ap, subst, ◌∙◌, Option, Some, None}
use Rattle.cob_source.specs.Tokens.{Lexeme}
use Rattle.cob_move_loops.specs.declared.edges.Edge.{Edge}
use Rattle.cob_move_loops.specs.declared.edges.Edge.TheVariants as edge
use Rattle.cob_move_loops.specs.declared.edges.Pair.{Pair}
use Rattle.cob_move_loops.specs.declared.edges.Pair.TheVariants as pair
use Rattle.cob_move_loops.specs.declared.parts.ChoiceKind.{ChoiceKind}
use Rattle.cob_move_loops.specs.Passages.{PartFirst, edge_of, open_behind, open_by}

pub open_append : (k : Pair) (by_branch : Bool) (d : Option ℕ) (ws us : List Lexeme) → open_behind k by_branch d (ws ++ us) ≡ open_behind k by_branch (open_behind k by_branch d ws) us
open_append k by_branch d [] us = refl
open_append k by_branch d (w ∷ ws) us = open_append k by_branch (open_by by_branch (edge_of k w) d) ws us

-- behind a word that ends none, nothing is open any more
none_stays : (k : Pair) (by_branch : Bool) (ws : List Lexeme) → open_behind k by_branch None ws ≡ None
none_stays k by_branch [] = refl
none_stays k by_branch (w ∷ ws) = none_stays k by_branch ws

some_none : (n : ℕ) → None ≡ Some n → ⊥
some_none n e = cc

-- nothing comes first, or a word that ends what the words before it are in
abbrev pub StopFirst : Pair → Bool → List Lexeme → Type 0
StopFirst k by_branch [] = Unit {0}
StopFirst k by_branch (w ∷ ws) = open_by by_branch (edge_of k w) (Some 0) ≡ None

pub stop_none : (k : Pair) (by_branch : Bool) (d : Option ℕ) (w : Lexeme) (ws : List Lexeme) (n : ℕ) → d ≡ Some 0 → open_by by_branch (edge_of k w) (Some 0) ≡ None
    → open_behind k by_branch d (w ∷ ws) ≡ Some n → ⊥
stop_none k by_branch d w ws n here stop there =
    some_none n (sym (none_stays k by_branch ws) ∙ ap (λ (o : Option ℕ). open_behind k by_branch o ws) (sym stop) ∙ ap (λ (o : Option ℕ). open_behind k by_branch o (w ∷ ws)) (sym here) ∙ there)

-- words are cut in one way at the word that ends what they are in
pub cut_one : (k : Pair) (by_branch : Bool) (d : Option ℕ) (own us a b : List Lexeme) → open_behind k by_branch d own ≡ Some 0 → StopFirst k by_branch a
    → open_behind k by_branch d us ≡ Some 0 → StopFirst k by_branch b → own ++ a ≡ us ++ b → (own ≡ us) × (a ≡ b)
cut_one k by_branch d [] [] a b x is y si same = (refl, same)
cut_one k by_branch d [] (v ∷ us) a b x is y si same = absurd (stop_none k by_branch d v us 0 x (subst (λ (t : List Lexeme). StopFirst k by_branch t) same is) y)
cut_one k by_branch d (w ∷ own) [] a b x is y si same = absurd (stop_none k by_branch d w own 0 y (subst (λ (t : List Lexeme). StopFirst k by_branch t) (sym same) si) x)
cut_one k by_branch d (w ∷ own) (v ∷ us) a b x is y si same =
    let first : w ≡ v = cc in
    let tail : own ++ a ≡ us ++ b = cc in
    let there : open_behind k by_branch (open_by by_branch (edge_of k w) d) us ≡ Some 0 = ap (λ (q : Lexeme). open_behind k by_branch (open_by by_branch (edge_of k q) d) us) first ∙ y in
    let rest = cut_one k by_branch (open_by by_branch (edge_of k w) d) own us a b x is there si tail in
    let left : own ≡ us = rest.0 in
    (cc, rest.1)

pub closes_stop : (k : Pair) (by_branch : Bool) (w : Lexeme) → edge_of k w ≡ Some edge.Closes → open_by by_branch (edge_of k w) (Some 0) ≡ None
closes_stop k by_branch w is = ap (λ (o : Option Edge). open_by by_branch o (Some 0)) is

pub part_stop : (kind : ChoiceKind) (ws : List Lexeme) → PartFirst kind ws → StopFirst (pair.Choice kind) true ws
part_stop kind [] is = tt
part_stop kind (w ∷ ws) is = ap (λ (o : Option Edge). open_by true o (Some 0)) is

-- words are cut in one way at the word that closes the loop or choice which they are in
pub close_one : (k : Pair) (own us : List Lexeme) (e f : Lexeme) (a b : List Lexeme) → open_behind k false (Some 0) own ≡ Some 0 → edge_of k e ≡ Some edge.Closes
    → open_behind k false (Some 0) us ≡ Some 0 → edge_of k f ≡ Some edge.Closes → own ++ e ∷ a ≡ us ++ f ∷ b → (own ≡ us) × (a ≡ b)
close_one k own us e f a b x is y si same =
    let cut = cut_one k false (Some 0) own us (e ∷ a) (f ∷ b) x (closes_stop k false e is) y (closes_stop k false f si) same in
    let both : e ∷ a ≡ f ∷ b = cut.1 in
    let tail : a ≡ b = cc in
    (cut.0, tail)

-- words that end where some are open have no such cut
pub no_cut : (k : Pair) (by_branch : Bool) (own more : List Lexeme) (e : Lexeme) (n : ℕ) → open_behind k by_branch (Some 0) own ≡ Some 0 → open_by by_branch (edge_of k e) (Some 0) ≡ None
    → open_behind k by_branch (Some 0) (own ++ e ∷ more) ≡ Some n → ⊥
no_cut k by_branch own more e n closed stop there =
    stop_none k by_branch (open_behind k by_branch (Some 0) own) e more n closed stop (sym (open_append k by_branch (Some 0) own (e ∷ more)) ∙ there)
