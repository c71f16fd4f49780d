-- What follows from the definitions, said as laws.
use Rattle.std.specs.Prelude.{◌≡◌, ℕ, false, List, []}
use Rattle.cob_source.specs.Tokens.{Lexeme}
use Rattle.cob_move_loops.specs.Passages.{Breaks, IsPassage, Passage}
use Rattle.cob_move_loops.specs.Turns.{in_turn}

-- Law: words say one passage at most.
abbrev pub OnePassage : Type 0
OnePassage = (p q : Passage) (ws : List Lexeme) → IsPassage p ws → IsPassage q ws → p ≡ q

-- Law: words that break off are no passage.
abbrev pub BreaksNone : Type 0
BreaksNone = (ws : List Lexeme) (line : ℕ) → Breaks ws line → (p : Passage) → IsPassage p ws → ⊥

-- Law: outside of loops words are as they are written.
abbrev pub NoTurn : Type 0
NoTurn = (ws : List Lexeme) → in_turn [] false 0 ws ≡ ws
