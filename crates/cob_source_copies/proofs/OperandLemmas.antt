-- The operands of a statement.
use Rattle.std.proofs.Common.{◌≡◌, true, false, List, [], ◌∷◌, ◌++◌, refl, sym, ap, ◌∙◌, append_assoc, append-nil, Option, Some, None, option_map}
use Rattle.cob_source.specs.Tokens.{Lexeme}
use Rattle.cob_source_copies.specs.Exchanges.{Replacing}
use Rattle.cob_source_copies.specs.Statements.{Operands, WrittenOperand, ends_statement, open_at, operands_at, operands_before, operands_in, replacing_of, replacings_in, with_replacing}

none_before : (o : Option Operands) → option_map (operands_before []) o ≡ o
none_before None = refl
none_before (Some o) = refl

pub first : (begun : Option (List Lexeme)) (ws : List Lexeme) → option_map (operands_before []) (operands_in begun ws) ≡ operands_in begun ws
first begun ws = none_before (operands_in begun ws)

before_both : (a b : List WrittenOperand) (o : Option Operands) → option_map (operands_before (a ++ b)) o ≡ option_map (operands_before a) (option_map (operands_before b) o)
before_both a b None = refl
before_both a b (Some o) = ap (λ (t : List WrittenOperand). Some (record { all = t; behind = o.behind })) (append_assoc a b o.all)

goes : (begun : Option (List Lexeme)) (w : Lexeme) (ws : List Lexeme) → ends_statement begun w.kind ≡ false
    → operands_in begun (w ∷ ws) ≡ option_map (operands_before (operands_at begun w)) (operands_in (open_at begun w) ws)
goes begun w ws e = rw e refl

stops : (begun : Option (List Lexeme)) (w : Lexeme) (ws : List Lexeme) → ends_statement begun w.kind ≡ true → operands_in begun (w ∷ ws) ≡ Some (record { all = []; behind = ws })
stops begun w ws e = rw e refl

-- one word more is read
pub read_more : (given next : List WrittenOperand) (begun after : Option (List Lexeme)) (ws more : List Lexeme) (w : Lexeme) (all : Option Operands) → ws ≡ w ∷ more → ends_statement begun w.kind ≡ false
    → next ≡ given ++ operands_at begun w → after ≡ open_at begun w
    → option_map (operands_before given) (operands_in begun ws) ≡ all → option_map (operands_before next) (operands_in after more) ≡ all
read_more given next begun after ws more w all e on made is so =
    ap (λ (t : List WrittenOperand). option_map (operands_before t) (operands_in after more)) made
    ∙ ap (λ (t : Option (List Lexeme)). option_map (operands_before (given ++ operands_at begun w)) (operands_in t more)) is
    ∙ before_both given (operands_at begun w) (operands_in (open_at begun w) more)
    ∙ ap (λ (t : Option Operands). option_map (operands_before given) t) (sym (goes begun w more on))
    ∙ ap (λ (t : List Lexeme). option_map (operands_before given) (operands_in begun t)) (sym e) ∙ so

-- a period ends the statement
pub ended : (given : List WrittenOperand) (begun : Option (List Lexeme)) (ws more : List Lexeme) (w : Lexeme) (all : Option Operands) → ws ≡ w ∷ more → ends_statement begun w.kind ≡ true
    → option_map (operands_before given) (operands_in begun ws) ≡ all → Some (record { all = given; behind = more }) ≡ all
ended given begun ws more w all e on so =
    ap (λ (t : List WrittenOperand). Some (record { all = t; behind = more })) (sym (append-nil given))
    ∙ ap (λ (t : Option Operands). option_map (operands_before given) t) (sym (stops begun w more on))
    ∙ ap (λ (t : List Lexeme). option_map (operands_before given) (operands_in begun t)) (sym e) ∙ so

-- ---- x BY y

-- these before others
abbrev pub replacings_before : List Replacing → Option (List Replacing) → Option (List Replacing)
replacings_before out rest = option_map (λ rs. out ++ rs) rest

pub replacings_first : (rest : Option (List Replacing)) → replacings_before [] rest ≡ rest
replacings_first None = refl
replacings_first (Some rs) = refl

one_before : (out : List Replacing) (r : Replacing) (rest : Option (List Replacing)) → replacings_before (out ++ r ∷ []) rest ≡ replacings_before out (with_replacing (Some r) rest)
one_before out r None = refl
one_before out r (Some rs) = ap (λ (t : List Replacing). Some t) (append_assoc out (r ∷ []) rs)

pub replacings_more : (out next : List Replacing) (r : Replacing) (os more : List WrittenOperand) (x by y : WrittenOperand) (all : Option (List Replacing)) → os ≡ x ∷ by ∷ y ∷ more
    → Some r ≡ replacing_of x by y → next ≡ out ++ r ∷ [] → replacings_before out (replacings_in os) ≡ all → replacings_before next (replacings_in more) ≡ all
replacings_more out next r os more x by y all e is made so =
    ap (λ (t : List Replacing). replacings_before t (replacings_in more)) made
    ∙ one_before out r (replacings_in more)
    ∙ ap (λ (t : Option Replacing). replacings_before out (with_replacing t (replacings_in more))) is
    ∙ ap (λ (t : List WrittenOperand). replacings_before out (replacings_in t)) (sym e) ∙ so

pub replacings_none : (out : List Replacing) (os more : List WrittenOperand) (x by y : WrittenOperand) (all : Option (List Replacing)) → os ≡ x ∷ by ∷ y ∷ more
    → None ≡ replacing_of x by y → replacings_before out (replacings_in os) ≡ all → None ≡ all
replacings_none out os more x by y all e is so =
    ap (λ (t : Option Replacing). replacings_before out (with_replacing t (replacings_in more))) is
    ∙ ap (λ (t : List WrittenOperand). replacings_before out (replacings_in t)) (sym e) ∙ so

pub replacings_short : (out : List Replacing) (os rest : List WrittenOperand) (all : Option (List Replacing)) → os ≡ rest → replacings_in rest ≡ None
    → replacings_before out (replacings_in os) ≡ all → None ≡ all
replacings_short out os rest all e none so =
    ap (λ (t : Option (List Replacing)). replacings_before out t) (sym none) ∙ ap (λ (t : List WrittenOperand). replacings_before out (replacings_in t)) (sym e) ∙ so

pub replacings_end : (out : List Replacing) (os : List WrittenOperand) (all : Option (List Replacing)) → os ≡ [] → replacings_before out (replacings_in os) ≡ all → Some out ≡ all
replacings_end out os all e so =
    ap (λ (t : List Replacing). Some t) (sym (append-nil out)) ∙ ap (λ (t : List WrittenOperand). replacings_before out (replacings_in t)) (sym e) ∙ so
