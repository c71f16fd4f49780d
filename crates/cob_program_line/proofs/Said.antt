-- What the parser finds is what the words say.
use Rattle.std.proofs.Common.{◌⊎◌, inl, inr, ◌≡◌, ◌∙◌, refl, sym, ap, List, [], ◌∷◌, Some, is_some, codes, subst}
use Rattle.std.specs.Prelude.{unwrap_or}
use Rattle.clap.specs.Words.{Row, Text, first_of, subcommand_of}
use Rattle.clap.specs.Faults.{fault_of}
use Rattle.clap.specs.Kinds.{HasKind, IsAmong, Kinds}
use Rattle.clap.specs.Values.{kind_of}
use Rattle.clap.specs.declared.error.Error.{Error}
use Rattle.clap.specs.declared.error.kind.ErrorKind.{ErrorKind}
use Rattle.clap.specs.declared.error.kind.ErrorKind.TheVariants as kind
use Rattle.cob_program_line.specs.declared.fault.LineFault.{LineFault}
use Rattle.cob_program_line.specs.declared.fault.LineFault.TheVariants.{Block, Form, Listing, Lrecl, Measure, Memory, NotText, Number, Piece, Pieces, Reading, Words}
use Rattle.cob_program_options.specs.Options.{Given, Options, found_at, taken}
use Rattle.cob_program_options.specs.Commands.{Spells, check_options, commands, compare_options, convert_options, draft_options, explain_options, help_options, layout_options, lossless_options, map_options, pieces_options, show_options}
use Rattle.cob_program_options.specs.Looks.{Look}
use Rattle.cob_program_line.specs.Faults.{IsFaultIn, IsFaultOf, fault_by_kind, words_fault}
use Rattle.cob_program_line.specs.Lines.{IsCommand, IsCommandLineOf, SaysCommand}
use Rattle.cob_program_options.specs.Program.{program_app}
use Rattle.cob_program_line.specs.declared.line.CommandLine.{CommandLine}
use Rattle.cob_program_line.specs.declared.line.Line.{Line}
use Rattle.cob_program_line.specs.declared.line.Line.TheVariants as line
use Rattle.cob_program_options.proofs.Level.{level_complete, level_rows, rows_of_given}
use Rattle.cob_program_options.proofs.Looks.{AreAsked, asked_given, look_same, sound_names}
use Rattle.cob_program_options.proofs.Turns.{not_nil}
use Rattle.cob_program_line.proofs.Spelled.{Found, look_found, named_options, sound_of, spelled_passes}
use Rattle.cob_program_line.proofs.Top.{known_fault, known_rows}

-- what an option names that is none is a fault of the words
pub option_fault : (words : List Text) (name : Text) (rows : List Row) (fault : LineFault) → Found words name rows → IsFaultIn (λ id. first_of id rows) fault
    → IsFaultOf words fault
option_fault words name rows fault f h = go fault (subst (λ (look : Look). IsFaultIn look fault) (look_found words name rows f) h)
  where
    go : (fault : LineFault) → IsFaultIn (taken f.os f.given) fault → IsFaultOf words fault
    go (Words error) h = absurd h
    go Form h = (f.os, f.given, f.spells, h)
    go Reading h = (f.os, f.given, f.spells, h)
    go Block h = (f.os, f.given, f.spells, h)
    go Listing h = (f.os, f.given, f.spells, h)
    go Piece h = (f.os, f.given, f.spells, h)
    go Number h = (f.os, f.given, f.spells, h)
    go Pieces h = (f.os, f.given, f.spells, h)
    go Lrecl h = (f.os, f.given, f.spells, h)
    go Measure h = (f.os, f.given, f.spells, h)
    go NotText h = absurd h
    go Memory h = absurd h

-- words that pass say what the parser finds in them
pub said_by : (words : List Text) (name : Text) (rows : List Row) (said : CommandLine) → Found words name rows
    → SaysCommand name (λ id. first_of id rows) said → IsCommandLineOf words said
said_by [] name rows said f h = absurd f.spells
said_by (w ∷ rest) name rows said f h =
    let named = subst (λ (look : Look). SaysCommand name look said) (look_found (w ∷ rest) name rows f) h in
    (f.os, f.given, f.spells.0, f.spells.1, subst (λ (n : Text). SaysCommand n (taken f.os f.given) said) (ap (first_word name) (sym f.first)) named)
  where
    first_word : Text → List Text → Text
    first_word n [] = n
    first_word n (v ∷ vs) = v

-- a command line names what has to be there
asked_by : (w : Text) (os : Options) (look : Look) (said : Line) → found_at w commands ≡ Some os → IsCommand w look said → AreAsked os look
asked_by w os look line.Job is h = absurd h
asked_by w os look (line.Convert o) is (same, h) = subst (λ (x : Options). AreAsked x look) (named_options w (codes "convert") os convert_options is same refl)
    (ap is_some h.texts.in_book, (ap is_some h.texts.out_book, (ap is_some h.texts.moves, (ap is_some h.input, (ap is_some h.output, tt)))))
asked_by w os look (line.Check o) is (same, h) = subst (λ (x : Options). AreAsked x look) (named_options w (codes "check") os check_options is same refl)
    (ap is_some h.texts.in_book, (ap is_some h.texts.out_book, (ap is_some h.texts.moves, tt)))
asked_by w os look (line.Layout o) is (same, h) = subst (λ (x : Options). AreAsked x look) (named_options w (codes "layout") os layout_options is same refl)
    (ap is_some h.book, tt)
asked_by w os look (line.Show o) is (same, h) = subst (λ (x : Options). AreAsked x look) (named_options w (codes "show") os show_options is same refl)
    (ap is_some h.book, (ap is_some h.input, tt))
asked_by w os look (line.Compare o) is (same, h) = subst (λ (x : Options). AreAsked x look) (named_options w (codes "compare") os compare_options is same refl)
    (ap is_some h.book, (ap is_some h.left, (ap is_some h.right, tt)))
asked_by w os look (line.Pieces o) is (same, h) = subst (λ (x : Options). AreAsked x look) (named_options w (codes "pieces") os pieces_options is same refl)
    (ap is_some h.book, (ap is_some h.input, (ap is_some h.pieces.1, tt)))
asked_by w os look (line.Lossless o) is (same, h) = subst (λ (x : Options). AreAsked x look) (named_options w (codes "lossless") os lossless_options is same refl)
    (ap is_some h.in_book, (ap is_some h.out_book, (ap is_some h.there, (ap is_some h.back, tt))))
asked_by w os look (line.Explain o) is (same, h) = subst (λ (x : Options). AreAsked x look) (named_options w (codes "explain") os explain_options is same refl)
    (ap is_some h.texts.in_book, (ap is_some h.texts.out_book, (ap is_some h.texts.moves, (ap is_some h.input, tt))))
asked_by w os look (line.Draft o) is (same, h) = subst (λ (x : Options). AreAsked x look) (named_options w (codes "draft") os draft_options is same refl)
    (ap is_some h.in_book, (ap is_some h.out_book, tt))
asked_by w os look (line.Map o) is (same, h) = subst (λ (x : Options). AreAsked x look) (named_options w (codes "map") os map_options is same refl)
    (ap is_some h.texts.in_book, (ap is_some h.texts.out_book, (ap is_some h.texts.moves, tt)))
asked_by w os look line.Completion is same = subst (λ (x : Options). AreAsked x look) (named_options w (codes "completion") os help_options is same refl) tt
asked_by w os look line.Manual is same = subst (λ (x : Options). AreAsked x look) (named_options w (codes "manual") os help_options is same refl) tt

-- and words that say something pass, and the parser finds it in them
pub found_by : (words : List Text) (said : CommandLine) → (words ≡ [] → ⊥) → IsCommandLineOf words said
    → (fault_of program_app words ≡ []) × (name : Text) × (rows : List Row) × (subcommand_of program_app words ≡ Some (name, rows)) × SaysCommand name (λ id. first_of id rows) said
found_by [] said some h = absurd (some refl)
found_by (w ∷ rest) said some (os, given, is, A, h) =
    let sound = sound_of w os is in
    let names = sound_names os sound in
    let there = asked_given os given sound (asked_by w os (taken os given) said.line is h.command) in (
      known_fault w os is rest ∙ level_complete w os rest given names A there,
      w,
      rows_of_given os given,
      known_rows w os is rest ∙ ap (λ r. Some (w, r)) (level_rows w os rest given names A),
      subst (λ (look : Look). SaysCommand w look said) (sym (look_same os given sound)) h,
    )

-- what words say is what the parser found
pub named_by : (words : List Text) (name : Text) (rows : List Row) (said : CommandLine) → (words ≡ [] → ⊥) → subcommand_of program_app words ≡ Some (name, rows)
    → IsCommandLineOf words said → SaysCommand name (λ id. first_of id rows) said
named_by words name rows said some found h =
    let b = found_by words said some h in
    let same : ◌≡◌ {A = Text × List Row} (b.1, b.2) (name, rows) = ap (λ o. unwrap_or o (name, rows)) (sym b.3 ∙ found) in
    subst (λ (p : Text × List Row). SaysCommand p.0 (λ id. first_of id p.1) said) same b.4

-- a parser's error is want of memory, or the words say nothing
pub refusal : (words : List Text) (error : Error) (fault : LineFault) (kinds : Kinds) → HasKind kinds error → ((said : CommandLine) → IsCommandLineOf words said → kinds ≡ [])
    → fault ≡ words_fault error → (fault ≡ Memory) ⊎ ((said : CommandLine) → IsCommandLineOf words said → ⊥)
refusal words error fault kinds (inl memory) passes is = inl (is ∙ ap (λ k. fault_by_kind k error) memory)
refusal words error fault [] (inr among) passes is = absurd among
refusal words error fault (k ∷ ks) (inr among) passes is = inr (λ said h. not_nil k ks (passes said h))

-- or is told as a fault of the words
by_kind : (k : ErrorKind) (error : Error) → (fault_by_kind k error ≡ Memory) ⊎ (fault_by_kind k error ≡ Words error)
by_kind kind.OutOfMemory error = inl refl
by_kind _ error = inr refl

pub words_refused : (words : List Text) (error : Error) (fault : LineFault) → HasKind (fault_of program_app words) error → fault ≡ words_fault error
    → (fault ≡ Memory) ⊎ IsFaultOf words fault
words_refused words error fault (inl memory) is = inl (is ∙ ap (λ k. fault_by_kind k error) memory)
words_refused words error fault (inr among) is = go (by_kind (kind_of error) error)
  where
    nothing : (kinds : Kinds) → fault_of program_app words ≡ kinds → IsAmong (kind_of error) kinds → (os : Options) (given : Given) → Spells words os given → ⊥
    nothing [] e in_none os given h = in_none
    nothing (k ∷ ks) e in_some os given h = not_nil k ks (sym e ∙ spelled_passes words os given h)

    go : (fault_by_kind (kind_of error) error ≡ Memory) ⊎ (fault_by_kind (kind_of error) error ≡ Words error) → (fault ≡ Memory) ⊎ IsFaultOf words fault
    go (inl memory) = inl (is ∙ memory)
    go (inr told) = inr (subst (IsFaultOf words) (sym (is ∙ told)) (nothing (fault_of program_app words) refl among, among))
