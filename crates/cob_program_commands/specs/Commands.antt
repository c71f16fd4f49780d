-- With which number the program ends: that of the status of what its words came to.
use Rattle.std.specs.Prelude.{◌≡◌, ◌⊎◌, ℕ, Bool, List, Option, None, Some, ⊤, if◌then◌else◌}
use Rattle.clap.specs.Words.{Text, kind_of}
use Rattle.cob_program_line.specs.Lines.{IsCommandLineOf, IsFaultOf, is_answer_kind}
use Rattle.cob_program_words.specs.Meant.{meant}
use Rattle.cob_program_line.specs.declared.line.CommandLine.{CommandLine}
use Rattle.cob_program_line.specs.declared.line.Line.{Line}
use Rattle.cob_program_line.specs.declared.line.Line.TheVariants as line
use Rattle.cob_program_line.specs.declared.fault.LineFault.{LineFault}
use Rattle.cob_program_line.specs.declared.fault.LineFault.TheVariants as refusal
use Rattle.cob_convert.specs.Statuses.{code_of}
use Rattle.cob_convert.specs.declared.status.Status.{Status}
use Rattle.cob_convert.specs.declared.status.Status.TheVariants as status
use Rattle.cob_program_copies.specs.Handing.{HasBooks, LacksHanding, status_of_handing}
use Rattle.cob_program_copies.specs.declared.fault.HandingFault.{HandingFault}
use Rattle.cob_program_faults.specs.Ends.{EndsAmong, EndsAs, EndsAtRecord}
use Rattle.cob_program_texts.specs.CheckEnds.{EndsCheck}
use Rattle.cob_program_texts.specs.DraftEnds.{MayEndDraft}
use Rattle.cob_program_compare.specs.Ends.{EndsCompare}
use Rattle.cob_program_list.specs.Ends.{MayEndLayout, MayEndListing}
use Rattle.cob_program_texts.specs.LosslessEnds.{MayEndLossless}
use Rattle.cob_program_manual.specs.Ends.{MayEndPrinting}
use Rattle.cob_program_report.specs.Ends.{EndsReported}
pub use Rattle.cob_program_report.specs.Ends.{EndsConvert}

-- how a conversion ends, by whether its run is reported too
abbrev pub EndsAsked : {A B : Type 0} → Option A → Option B → Bool → Status → Type 0
EndsAsked None rejects atomic end = EndsConvert rejects atomic end
EndsAsked (Some report) rejects atomic end = EndsReported (EndsConvert rejects atomic end) end

-- How a command line ends, by what it asks for: with the status of what its command came to, which may have the faults of that command. With which
-- status a job ends is promised by `cob_program_job`.
abbrev pub EndsLine : Line → Status → Type 0
EndsLine line.Job end = ⊤
EndsLine (line.Convert options) end = EndsAsked options.report options.rejects options.atomic end
EndsLine (line.Check options) end = EndsCheck options.strict end
EndsLine (line.Layout options) end = EndsAmong MayEndLayout end
EndsLine (line.Show options) end = EndsAmong MayEndListing end
EndsLine (line.Compare options) end = EndsCompare end
EndsLine (line.Pieces options) end = EndsAmong MayEndListing end
EndsLine (line.Lossless options) end = EndsAmong MayEndLossless end
EndsLine (line.Explain options) end = EndsAtRecord end
EndsLine (line.Draft options) end = EndsAmong MayEndDraft end
EndsLine line.Completion end = EndsAmong MayEndPrinting end
EndsLine line.Manual end = EndsAmong MayEndPrinting end
EndsLine (line.Map options) end = EndsAtRecord end

-- the number of a status with which this command line ends
abbrev pub IsEndOfLine : Line → ℕ → Type 0
IsEndOfLine said code = (end : Status) × EndsLine said end × (code ≡ code_of end)

-- the number of a status with which a command line ends whose copybooks are not handed over, and which reads some
abbrev pub IsEndOfUnhanded : Line → ℕ → Type 0
IsEndOfUnhanded said code = HasBooks said × (fault : HandingFault) × (end : Status) × LacksHanding fault × EndsAs (status_of_handing fault) end × (code ≡ code_of end)

-- the number of a status with which a command line ends: that of its command, or that of copybooks which were not handed over to it
abbrev pub IsEndOfSaid : Line → ℕ → Type 0
IsEndOfSaid said code = IsEndOfLine said code ⊎ IsEndOfUnhanded said code

-- The status of words that are refused: help and the version are all that such words ask for; want of memory is told as that; other words are
-- malformed.
abbrev pub status_of_refusal : LineFault → Status
status_of_refusal (refusal.Words error) = if is_answer_kind (kind_of error) then status.Done else status.Malformed
status_of_refusal refusal.Form = status.Malformed
status_of_refusal refusal.Reading = status.Malformed
status_of_refusal refusal.Block = status.Malformed
status_of_refusal refusal.Piece = status.Malformed
status_of_refusal refusal.Number = status.Malformed
status_of_refusal refusal.Pieces = status.Malformed
status_of_refusal refusal.Listing = status.Malformed
status_of_refusal refusal.Lrecl = status.Malformed
status_of_refusal refusal.Measure = status.Malformed
status_of_refusal refusal.NotText = status.Malformed
status_of_refusal refusal.Memory = status.Memory

-- the number of a status with which words end that are refused so
abbrev pub IsEndOfRefusal : LineFault → ℕ → Type 0
IsEndOfRefusal fault code = (end : Status) × EndsAs (status_of_refusal fault) end × (code ≡ code_of end)

-- Words are refused for this: memory was, or they are no command line, by the first rule that they break.
abbrev pub RefusesWords : List Text → LineFault → Type 0
RefusesWords words fault = (fault ≡ refusal.Memory) ⊎ (((said : CommandLine) → IsCommandLineOf words said → ⊥) × IsFaultOf words fault)

-- The program ends with this number, where its words mean these: a command line is carried out, and other words are refused.
pub data IsEndOfMeant (words : List Text) (code : ℕ) : Type 0 where
  CarriedOut : (said : CommandLine) → IsCommandLineOf words said → IsEndOfSaid said.line code → IsEndOfMeant words code
  Refused : (fault : LineFault) → RefusesWords words fault → IsEndOfRefusal fault code → IsEndOfMeant words code

-- The program ends with this number, called with these words: as what they mean says. Want of memory refuses any words.
abbrev pub IsEndOfWords : List Text → ℕ → Type 0
IsEndOfWords words code = IsEndOfMeant (meant words) code
