use Rattle.std.proofs.Common.{subst}
use Rattle.cob_program_line.specs.Lines.{HasBlocks}
use Rattle.cob_program_commands.proofs.handed.with_handed_books.Goals as goal

pub returns-in-Convert : goal.returns-in-Convert
returns-in-Convert c = record { blocks = subst HasBlocks c.in-Convert.is c.requires; ends = rw c.in-Convert.is (λ code h. h) }

pub returns-in-Check : goal.returns-in-Check
returns-in-Check c = record { blocks = subst HasBlocks c.in-Check.is c.requires; ends = rw c.in-Check.is (λ code h. h) }

pub returns-in-Explain : goal.returns-in-Explain
returns-in-Explain c = record { blocks = subst HasBlocks c.in-Explain.is c.requires; ends = rw c.in-Explain.is (λ code h. h) }

pub returns-in-Map : goal.returns-in-Map
returns-in-Map c = record { blocks = subst HasBlocks c.in-Map.is c.requires; ends = rw c.in-Map.is (λ code h. h) }

pub returns-in-Lossless : goal.returns-in-Lossless
returns-in-Lossless c = record { blocks = subst HasBlocks c.in-Lossless.is c.requires; ends = rw c.in-Lossless.is (λ code h. h) }

pub returns-in-Draft : goal.returns-in-Draft
returns-in-Draft c = record { blocks = subst HasBlocks c.in-Draft.is c.requires; ends = rw c.in-Draft.is (λ code h. h) }

pub returns-in-Layout : goal.returns-in-Layout
returns-in-Layout c = record { blocks = subst HasBlocks c.in-Layout.is c.requires; ends = rw c.in-Layout.is (λ code h. h) }

pub returns-in-Show : goal.returns-in-Show
returns-in-Show c = record { blocks = subst HasBlocks c.in-Show.is c.requires; ends = rw c.in-Show.is (λ code h. h) }

pub returns-in-Compare : goal.returns-in-Compare
returns-in-Compare c = record { blocks = subst HasBlocks c.in-Compare.is c.requires; ends = rw c.in-Compare.is (λ code h. h) }

pub returns-in-Pieces : goal.returns-in-Pieces
returns-in-Pieces c = record { blocks = subst HasBlocks c.in-Pieces.is c.requires; ends = rw c.in-Pieces.is (λ code h. h) }

pub returns-in-Job : goal.returns-in-Job
returns-in-Job c = record { blocks = subst HasBlocks c.in-Job.is c.requires; ends = rw c.in-Job.is (λ code h. h) }

pub returns-in-Completion : goal.returns-in-Completion
returns-in-Completion c = record { blocks = subst HasBlocks c.in-Completion.is c.requires; ends = rw c.in-Completion.is (λ code h. h) }

pub returns-in-Manual : goal.returns-in-Manual
returns-in-Manual c = record { blocks = subst HasBlocks c.in-Manual.is c.requires; ends = rw c.in-Manual.is (λ code h. h) }
