-- What is told of the statements of a paragraph.
use Rattle.std.proofs.Common.{◌≡◌, ℕ, List, [], ◌∷◌, ◌++◌, take, drop, refl, sym, subst, inl, inr}
use Rattle.std.proofs.lemmas.List.{take-append-drop}
use Rattle.std.specs.Prelude.{IfSome, OnOk, Option, Some, None, Result, Ok, Err}
use Rattle.std.specs.List.{AllByRecursion}
use Rattle.cob_source.specs.Tokens.{Lexeme}
use Rattle.cob_source.specs.Words.{AreParagraphWordsOf}
use Rattle.cob_copybook_tree.specs.Forests.{Forest}
use Rattle.cob_copybook_tree.specs.Nodes.{Resolved}
use Rattle.cob_move_names.specs.Valued.{PlainConditionNames}
use Rattle.cob_move_statements.specs.declared.fault.MoveFault.{MoveFault}
use Rattle.cob_move.specs.Bodies.{IsBodyIn}
use Rattle.cob_move.specs.Paragraphs.{IsRefusalOf}
use Rattle.cob_report_refused_moves.specs.Statements.{AreMoveRefusals, BeginsThere, FirstIsOf, HasRun, IsMoveRefusal, IsRefusedStatement, IsRefusedThere, IsRunOf}
use Rattle.cob_report_refusals.specs.declared.refusal.MoveRefusal.{MoveRefusal}
use Rattle.cob_report_refusals.specs.declared.spots.Spot.{Spot}

all_behind : (P : MoveRefusal → Type 0) (a b : List MoveRefusal) → AllByRecursion P a → AllByRecursion P b → AllByRecursion P (a ++ b)
all_behind P [] b ha hb = hb
all_behind P (x ∷ a) b ha hb = (ha.0, all_behind P a b ha.1 hb)

pub all_before : (P : MoveRefusal → Type 0) (a b : List MoveRefusal) → AllByRecursion P (a ++ b) → AllByRecursion P a × AllByRecursion P b
all_before P [] b h = (tt, h)
all_before P (x ∷ a) b h = let (p, q) = all_before P a b h.1 in ((h.0, p), q)

-- one more is told
pub all_pushed : (text : List ℕ) (input output : Forest Resolved) (names : PlainConditionNames) (a : List MoveRefusal) (r : MoveRefusal) (items : List MoveRefusal) → items ≡ a ++ r ∷ []
    → AreMoveRefusals text input output names a → IsMoveRefusal text input output names r → AreMoveRefusals text input output names items
all_pushed text input output names a r items e all told = subst (AreMoveRefusals text input output names) (sym e) (all_behind (IsMoveRefusal text input output names) a (r ∷ []) all (told, tt))

-- the statements of words that stand in the body of a text are those of the text
pub has_run : (text : List ℕ) (input output : Forest Resolved) (words body run : List Lexeme) → AreParagraphWordsOf text words → IsBodyIn words body → IsRunOf run body → HasRun text input output run
has_run text input output words body run are is on = λ f own one refused. (
  record {
    words = words;
    body = body;
    run = run;
    own = own;
    are_words = are;
    is_body = is;
    is_run = on;
    is_one = one;
    refused = refused;
  },
  refl,
)

-- a refusal, and others before and behind
pub begin_all : (text : List ℕ) (input output : Forest Resolved) (names : PlainConditionNames) (r : MoveRefusal) (before behind items : List MoveRefusal) → items ≡ (r ∷ before) ++ behind
    → IsRefusalOf r.fault text input output names → IfSome r.at (IsRefusedThere r.fault text input output) → AreMoveRefusals text input output names before → AreMoveRefusals text input output names behind → AreMoveRefusals text input output names items
begin_all text input output names r before behind items e h at a b = subst (AreMoveRefusals text input output names) (sym e) ((inl h, at), all_behind (IsMoveRefusal text input output names) before behind a b)

pub begin_is : (fault : MoveFault) (r : MoveRefusal) (before behind items : List MoveRefusal) → items ≡ (r ∷ before) ++ behind → r.fault ≡ fault → FirstIsOf fault items
begin_is fault r before behind items e same = subst (FirstIsOf fault) (sym e) same

pub begin_some : (fault : MoveFault) (items : List MoveRefusal) → FirstIsOf fault items → items ≡ [] → ⊥
begin_some fault items h e = subst (FirstIsOf fault) e h

-- the first so many, and the others
all_parts : (P : MoveRefusal → Type 0) (n : ℕ) (rs : List MoveRefusal) → AllByRecursion P rs → AllByRecursion P (take n rs) × AllByRecursion P (drop n rs)
all_parts P n rs all = all_before P (take n rs) (drop n rs) (subst (AllByRecursion P) (sym (take-append-drop n rs)) all)

pub all_cut : (P : MoveRefusal → Type 0) (n : ℕ) (rs front back : List MoveRefusal) → front ≡ take n rs → back ≡ drop n rs → AllByRecursion P rs → AllByRecursion P front × AllByRecursion P back
all_cut P n rs front back e f all = let parts = all_parts P n rs all in (subst (AllByRecursion P) (sym e) parts.0, subst (AllByRecursion P) (sym f) parts.1)

pub all_behind_first : (P : MoveRefusal → Type 0) (r : MoveRefusal) (rest rs : List MoveRefusal) → rest ≡ r ∷ rs → AllByRecursion P rest → AllByRecursion P rs
all_behind_first P r rest rs e all = (subst (AllByRecursion P) e all).1

pub first_of : (P : MoveRefusal → Type 0) (r : MoveRefusal) (rest rs : List MoveRefusal) → rest ≡ r ∷ rs → AllByRecursion P rest → P r
first_of P r rest rs e all = (subst (AllByRecursion P) e all).0

-- what holds where an answer is Ok, and what follows from it
pub on_wider : {A E : Type 0} {P Q : Type 0} (r : Result A E) → (P → Q) → OnOk r P → OnOk r Q
on_wider (Ok a) f h = f h
on_wider (Err e) f h = tt

pub some_wider : {A : Type 0} {P Q : A → Type 0} (o : Option A) → ((a : A) → P a → Q a) → IfSome o P → IfSome o Q
some_wider (Some a) f h = f a h
some_wider None f h = tt

-- a refused statement of the text, told where it begins
pub statement_told : (text : List ℕ) (input output : Forest Resolved) (names : PlainConditionNames) (f : MoveFault) (own : List Lexeme) (at : Option Spot) → IsRefusedStatement f text input output own
    → IfSome at (λ s. BeginsThere s own) → IsMoveRefusal text input output names (record { fault = f; at = at })
statement_told text input output names f own at h begins =
    (inr h.0, some_wider at (λ s b. (h.0, subst (BeginsThere s) (sym h.1) b)) begins)
