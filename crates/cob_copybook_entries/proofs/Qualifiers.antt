-- The qualifiers of a written entry's count are names, so that they fit where names are kept.
use Rattle.std.proofs.Common.{ℕ, List, [], ◌∷◌, Option, Some, None, sym, subst}
use Rattle.cob_source.specs.Tokens.{Lexeme}
use Rattle.cob_copybook_clauses.specs.Written.{WrittenName, WrittenClauses, WrittenEntry, names_behind}
use Rattle.cob_copybook_clauses.specs.Clauses.{Clause, Redefines, Picture, Stored, Signed, Occurs, Value, Justified, Blank, SaysClause, AreQualifiers, IsVaried}
use Rattle.cob_copybook_clauses.specs.Entries.{SaysClauses, End, Then, put, bare, IsWritten}
use Rattle.cob_copybook_entries.specs.Short.{AreShort, HasShortQualifiers, HasShortCount}

names_short : (ws : List Lexeme) → AreQualifiers ws → AreShort (names_behind ws)
names_short [] h = tt
names_short (w ∷ []) h = absurd h
names_short (w ∷ n ∷ ws) h = (h.1.1.short, names_short ws h.2)

count_short : (count : Option WrittenName) (least : Option (List ℕ)) (ws : List Lexeme) → IsVaried count least ws → HasShortQualifiers count
count_short None least ws h = tt
count_short (Some name) least ws h = subst AreShort (sym h.qualifiers) (names_short h.behind h.qualified)

clause_short : (c : Clause) (f : WrittenClauses) (words : List Lexeme) → SaysClause c words → HasShortCount f.occurs → HasShortCount (put c f).occurs
clause_short (Redefines n) f words h short = short
clause_short (Picture p) f words h short = short
clause_short (Stored u) f words h short = short
clause_short (Signed s) f words h short = short
clause_short (Occurs t) f words h short = count_short t.count t.least h.3.count h.3.varied
clause_short (Value c) f words h short = short
clause_short Justified f words h short = short
clause_short Blank f words h short = short

says_short : (ws : List Lexeme) (f g : WrittenClauses) → SaysClauses ws f g → HasShortCount f.occurs → HasShortCount g.occurs
says_short ws f g (End none same) short = subst (λ (h : WrittenClauses). HasShortCount h.occurs) same short
says_short ws f g (Then {more = more} c words spells are absent says) short = says_short more (put c f) g says (clause_short c f words spells short)

pub written_short : (s : List Lexeme) (e : WrittenEntry) → IsWritten s e → HasShortCount e.clauses.occurs
written_short s e h = says_short h.more bare e.clauses h.says tt
