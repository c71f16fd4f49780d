use Rattle.cob_program_commands.proofs.commands.perform_line.Goals as goal

pub returns-in-Job : goal.returns-in-Job
returns-in-Job g c = rw c.in-Job.is (c.do_job.ensures.0, tt, c.do_job.ensures.1)

pub returns-in-Convert : goal.returns-in-Convert
returns-in-Convert g c = (_, rw c.in-Convert.is c.do_asked_conversion.ensures, c.code.ensures)

pub returns-in-Check : goal.returns-in-Check
returns-in-Check g c = (_, rw c.in-Check.is c.do_checking.ensures, c.code-in-Check.ensures)

pub returns-in-Layout : goal.returns-in-Layout
returns-in-Layout g c = (_, rw c.in-Layout.is c.do_layout.ensures, c.code-in-Layout.ensures)

pub returns-in-Show : goal.returns-in-Show
returns-in-Show g c = (_, rw c.in-Show.is c.do_asked_show.ensures, c.code-in-Show.ensures)

pub returns-in-Compare : goal.returns-in-Compare
returns-in-Compare g c = (_, rw c.in-Compare.is c.do_compare.ensures, c.code-in-Compare.ensures)

pub returns-in-Pieces : goal.returns-in-Pieces
returns-in-Pieces g c = (_, rw c.in-Pieces.is c.do_asked_pieces.ensures, c.code-in-Pieces.ensures)

pub returns-in-Lossless : goal.returns-in-Lossless
returns-in-Lossless g c = (_, rw c.in-Lossless.is c.do_lossless.ensures, c.code-in-Lossless.ensures)

pub returns-in-Explain : goal.returns-in-Explain
returns-in-Explain g c = (_, rw c.in-Explain.is c.do_explain.ensures, c.code-in-Explain.ensures)

pub returns-in-Draft : goal.returns-in-Draft
returns-in-Draft g c = (_, rw c.in-Draft.is c.do_draft.ensures, c.code-in-Draft.ensures)

pub returns-in-Completion : goal.returns-in-Completion
returns-in-Completion g c = (_, rw c.in-Completion.is c.do_completion.ensures, c.code-in-Completion.ensures)

pub returns-in-Manual : goal.returns-in-Manual
returns-in-Manual g c = (_, rw c.in-Manual.is c.do_manual.ensures, c.code-in-Manual.ensures)

pub returns-in-Map : goal.returns-in-Map
returns-in-Map g c = (_, rw c.in-Map.is c.do_map.ensures, c.code-in-Map.ensures)
