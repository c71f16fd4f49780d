-- Paragraphs one behind another.
use Rattle.std.proofs.Common.{◌≡◌, ℕ, Bool, true, false, List, [], ◌∷◌, ◌++◌, length, refl, sym, ap, subst, ◌∙◌, append_assoc, arith}
use Rattle.std.proofs.lemmas.List.{length-append}
use Rattle.std.proofs.lemmas.Grind.{flat_map-append}
use Rattle.std.specs.List.{AllByRecursion}
use Rattle.cob_source.specs.Ahead.{AreReadOf}
use Rattle.cob_source.specs.Tokens.{Lexeme}
use Rattle.cob_source.specs.declared.ahead.WordsAhead.{WordsAhead}
use Rattle.cob_copybook_clauses.proofs.TableLemmas.{name_plain}
use Rattle.cob_copybook_clauses.specs.declared.term.WordClass.TheVariants as term
use Rattle.cob_copybook_tree.specs.Forests.{Forest}
use Rattle.cob_copybook_tree.specs.Nodes.{Resolved}
use Rattle.cob_move_data.specs.declared.operands.StatementMoves.{StatementMoves}
use Rattle.cob_move_data.specs.Moves.{Move, moves, statement_moves}
use Rattle.cob_move_loops.specs.Laws.{NoTurn}
use Rattle.cob_move_loops.specs.Passages.{Moves, NoMore}
use Rattle.cob_move_loops.specs.Words.{IsOther}
use Rattle.cob_move_names.specs.Candidates.{Candidate}
use Rattle.cob_move_statements.specs.Statements.{FollowsStatements, IsEndedStatement, IsHeading, IsParagraph, Several}
use Rattle.cob_move_statements.specs.Written.{WrittenStatement}
use Rattle.cob_move_tests.specs.declared.entries.Entries.{Entries}
use Rattle.cob_move_tests.specs.Entries.{AllMayBeNamed, nameable, records_of}
use Rattle.cob_move.specs.Meaning.{AreMeanings}
use Rattle.cob_move.specs.Pieces.{AddsMoves, IsParagraphAmong, SaysSoFar}
use Rattle.cob_move.proofs.MeaningLemmas.{meant_here}
use Rattle.cob_move.proofs.PlainLemmas.{plain_passage, plain_spelled}

several_both : {V : Type 0} (Is : V → List Lexeme → Type 0) (a b : List V) (ws us : List Lexeme) → Several Is a ws → Several Is b us → Several Is (a ++ b) (ws ++ us)
several_both Is [] b ws us none h = subst (λ (t : List Lexeme). Several Is b (t ++ us)) (sym none) h
several_both Is (v ∷ a) b ws us (own, rest, is, cut, others) h =
    (own, rest ++ us, is, ap (λ (t : List Lexeme). t ++ us) cut ∙ append_assoc own rest us, several_both Is a b rest us others h)

pub meanings_both : (all : List Candidate) (input output : Forest Resolved) (ss ts : List WrittenStatement) (ms ns : List Move) → AreMeanings all input output ss ms → AreMeanings all input output ts ns → AreMeanings all input output (ss ++ ts) (ms ++ ns)
meanings_both all input output [] ts ms ns none h = subst (λ (t : List Move). AreMeanings all input output ts (t ++ ns)) (sym none) h
meanings_both all input output (s ∷ ss) ts ms ns (own, more, is, others, cut) h =
    (own, more ++ ns, is, meanings_both all input output ss ts more ns others h, ap (λ (t : List Move). t ++ ns) cut ∙ append_assoc own more ns)

others_both : (a b : List Lexeme) → AllByRecursion IsOther a → AllByRecursion IsOther b → AllByRecursion IsOther (a ++ b)
others_both [] b are all = all
others_both (w ∷ a) b are all = (are.0, others_both a b are.1 all)

-- where MOVE comes first there is no heading
no_heading : (heading body : List Lexeme) → IsHeading heading → FollowsStatements (heading ++ body) → heading ≡ []
no_heading [] body named first = refl
no_heading (w ∷ []) body named first = absurd named
no_heading (w ∷ stop ∷ []) body named first = absurd (let never : term.Move ≡ term.Plain = sym first ∙ name_plain w named.0 in cc)
no_heading (w ∷ stop ∷ v ∷ ws) body named first = absurd named

paragraph_both : (ws us : List Lexeme) (ss ts : List WrittenStatement) → IsParagraph ws ss → IsParagraph us ts → FollowsStatements us → IsParagraph (ws ++ us) (ss ++ ts)
paragraph_both ws us ss ts p q first =
    let none : q.heading ≡ [] = no_heading q.heading q.body q.named (subst FollowsStatements q.words first) in
    let same : us ≡ q.body = q.words ∙ ap (λ (t : List Lexeme). t ++ q.body) none in
    record {
      heading = p.heading;
      body = p.body ++ us;
      named = p.named;
      some = omega (arith, p.some, length-append ss ts);
      statements = several_both IsEndedStatement ss ts p.body us p.statements (subst (λ (t : List Lexeme). Several IsEndedStatement ts t) (sym same) q.statements);
      words = ap (λ (t : List Lexeme). t ++ us) p.words ∙ append_assoc p.heading p.body us;
    }

pub begins_says : (text : List ℕ) (e : Entries) (words : List Lexeme) (old new : List StatementMoves) (ahead : WordsAhead) (more : Bool) → AreReadOf text words ahead more → AddsMoves e words old new → old ≡ [] → SaysSoFar text e new ahead more
begins_says text e words old new ahead more read a none =
    let same : a.own ≡ new = sym (a.added ∙ ap (λ (t : List StatementMoves). t ++ a.own) none) in
    record {
      words = words;
      statements = a.statements;
      are_read = read;
      plain = a.plain;
      spelled = a.spelled;
      meant = subst (λ (t : List StatementMoves). AreMeanings (nameable e) e.input.now e.output.now a.statements (moves (records_of e) t)) same a.meant;
      many = sym (ap length same) ∙ a.many;
    }

pub goes_on_says : (text : List ℕ) (e : Entries) (words : List Lexeme) (old new : List StatementMoves) (before ahead : WordsAhead) (more : Bool) (s : SaysSoFar text e old before true) → AreReadOf text (s.words ++ words) ahead more → AddsMoves e words old new → FollowsStatements words → SaysSoFar text e new ahead more
goes_on_says text e words old new before ahead more s read a first =
    let same : moves (records_of e) old ++ moves (records_of e) a.own ≡ moves (records_of e) new =
    sym (ap (λ (t : List StatementMoves). moves (records_of e) t) a.added ∙ flat_map-append (statement_moves (records_of e)) old a.own) in
    record {
      words = s.words ++ words;
      statements = s.statements ++ a.statements;
      are_read = read;
      plain = others_both s.words words s.plain a.plain;
      spelled = paragraph_both s.words words s.statements a.statements s.spelled a.spelled first;
      meant = subst (λ (t : List Move). AreMeanings (nameable e) e.input.now e.output.now (s.statements ++ a.statements) t) same
          (meanings_both (nameable e) e.input.now e.output.now s.statements a.statements (moves (records_of e) old) (moves (records_of e) a.own) s.meant a.meant);
      many = omega (arith, ap length a.added, length-append old a.own, length-append s.statements a.statements, s.many, a.many);
    }

pub more_says : (text : List ℕ) (e : Entries) (list : List StatementMoves) (ahead : WordsAhead) (more : Bool) → SaysSoFar text e list ahead more → more ≡ true → SaysSoFar text e list ahead true
more_says text e list ahead more s is = subst (λ (b : Bool). SaysSoFar text e list ahead b) is s

-- where no more pieces are left the text says the moves
pub all_said : (text : List ℕ) (e : Entries) (list : List StatementMoves) (ahead : WordsAhead) (more : Bool) → SaysSoFar text e list ahead more → more ≡ false → AllMayBeNamed e → NoTurn → IsParagraphAmong text e list
all_said text e list ahead more s none named no_turn = (
  record {
    words = s.words;
    passage = Moves s.spelled.body NoMore;
    statements = s.statements;
    are_words = subst (λ (b : Bool). AreReadOf text s.words ahead b) none s.are_read;
    has = plain_passage s.words s.statements s.spelled s.plain;
    literal = tt;
    counters = record { apart = tt; no_entries = tt };
    spelled = plain_spelled no_turn s.spelled.body s.statements s.spelled.statements;
    meant = meant_here (nameable e) (records_of e) s.statements list named s.meant;
  },
  s.many,
)
