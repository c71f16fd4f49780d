-- What the tests of a choice are held against, by the number of its entry.
use Rattle.std.specs.Prelude.{ℕ, List}
use Rattle.cob_move_data.specs.Moves.{Sender}
use Rattle.cob_move_tests.specs.Asked.{IsAsked}
use Rattle.cob_move_tests.specs.declared.entries.NamedEntry.{NamedEntry}
use Rattle.cob_move_choices.specs.declared.subjects.Subject.{Subject}
use Rattle.cob_move_choices.specs.declared.subjects.Subject.TheVariants as subject
use Rattle.cob_move_choices.specs.Choices.{Against, AnEntry, Truth}

-- what the tests of a choice are held against, where each number stands for this entry
abbrev pub against : (ℕ → Sender) → Subject → Against
against entry subject.Truth = Truth
against entry (subject.Entry number) = AnEntry (entry number)

-- it is among the entries that are asked for
abbrev pub IsSubjectAsked : List NamedEntry → Subject → Type 0
IsSubjectAsked asked subject.Truth = Unit {0}
IsSubjectAsked asked (subject.Entry number) = IsAsked asked number
