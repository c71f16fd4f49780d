-- What the parser says of a command, and of what it found, in the words of this crate.
use Rattle.std.proofs.Common.{Bool, Result, Ok, Err, IsErrAnd, IfErr, codes, subst, ◌∙◌, ◌≡◌, inl, inr, ◌==◌, ℕ, arith, [], ◌∷◌, Option, Some, None, true, false, refl, sym, ap, true≢false}
use Rattle.std.specs.Prelude.{is_some, unwrap_or}
use Rattle.std.proofs.lemmas.Bool.Decides.{nat_tests}
use Rattle.clap.specs.Words.{Text}
use Rattle.cob_program_line.specs.Numbers.{SaysNumber}
use Rattle.cob_program_options.specs.Commands.{compare_options, pieces_options, show_options}
use Rattle.cob_program_options.specs.Looks.{AreAll, Look}
use Rattle.cob_program_line.specs.Named.{NamesBlock, NamesBound, NamesNumber, NamesReading, NamesRightForm, binary_by_word, form_by_letter, letter_of, listing_by_word, sized_by, word_of_binary, word_of_listing, word_of_zones, zones_by_word}
use Rattle.cob_program_line.specs.Faults.{HasCounts, HasForms, HasListing, HasLrecl, HasPiece, HasPieces, HasSizes, IsFaultIn, LacksABlock, LacksBlock, LacksBound, LacksCount, LacksForm, LacksListing, LacksNumber, LacksPiece, LacksReading, LacksSize}
use Rattle.cob_program_line.specs.Lines.{NameChoice, NameForms, NamePiece}
use Rattle.cob_program_line.specs.declared.line.Forms.{Forms}
use Rattle.cob_program_line.specs.declared.line.Listing.{Listing}
use Rattle.cob_program_line.specs.declared.line.Listing.TheVariants as listing
use Rattle.cob_program_line.specs.declared.fault.LineFault.{LineFault}
use Rattle.cob_codec.specs.Readings.{reads_whole, takes_any_zones}
use Rattle.cob_codec.specs.declared.reading.Reading.{Reading}
use Rattle.cob_records.specs.BlockSize.{SaysBlockSize}
use Rattle.cob_records.specs.declared.records.Form.{Form}
use Rattle.cob_records.specs.declared.records.Form.TheVariants.{Fixed, Variable, Blocked}

-- a letter is no other
other_letter : (a b : ℕ) (letter : Text) → (a == b) ≡ false → a ∷ [] ≡ letter → letter ≡ b ∷ [] → ⊥
other_letter a b letter differ p q =
    let same : a ≡ b = ap first_letter (p ∙ q) in true≢false (sym (subst (λ (n : ℕ). (a == n) ≡ true) same (itself a)) ∙ differ)
  where
    first_letter : Text → ℕ
    first_letter [] = 0
    first_letter (c ∷ cs) = c

    itself : (n : ℕ) → (n == n) ≡ true
    itself n = grind (arith, nat_tests)

-- an option that names a form does not lack one
pub has_form : (look : Look) (name : Text) (f : Form) → look name ≡ Some (letter_of f) → LacksForm look name → ⊥
has_form look name f named (letter, is, none) = true≢false (sym (ap is_some (sym none ∙ ap form_by_letter same) ∙ back f))
  where
    back : (f : Form) → is_some (form_by_letter (letter_of f)) ≡ true
    back Fixed = refl
    back Variable = refl
    back (Blocked most) = refl

    same : letter ≡ letter_of f
    same = ap (λ o. unwrap_or o letter) (sym is ∙ named)

-- an option that names nothing names no word
absent : (look : Look) (name word : Text) → look name ≡ None → look name ≡ Some word → ⊥
absent look name word none is = true≢false (sym (ap is_some (sym none ∙ is)))

pub no_form : (look : Look) (name : Text) → look name ≡ None → LacksForm look name → ⊥
no_form look name none lacks = absent look name lacks.0 none lacks.1

-- none of the options for a form lacks one
pub has_forms : (look : Look) → (LacksForm look (codes "form") → ⊥) → (LacksForm look (codes "in-form") → ⊥) → (LacksForm look (codes "out-form") → ⊥)
    → (LacksForm look (codes "right-form") → ⊥) → HasForms look
has_forms look one two three four (name, is, lacks) = elim is [
  | inl e ↦ one (subst (LacksForm look) e lacks)
  | inr (inl e) ↦ two (subst (LacksForm look) e lacks)
  | inr (inr (inl e)) ↦ three (subst (LacksForm look) e lacks)
  | inr (inr (inr e)) ↦ four (subst (LacksForm look) e lacks)
]

pub both_forms : (look : Look) (f g : Form) → look (codes "form") ≡ None → look (codes "right-form") ≡ None → look (codes "in-form") ≡ Some (letter_of f)
    → look (codes "out-form") ≡ Some (letter_of g) → HasForms look
both_forms look f g none neither from to =
    has_forms look (no_form look (codes "form") none) (has_form look (codes "in-form") f from) (has_form look (codes "out-form") g to)
    (no_form look (codes "right-form") neither)

-- an option that names one of two words, which say something, does not lack one
has_word : (look : Look) (name : Text) (by : Text → Option Bool) (word_by : Bool → Text) (b : Bool) → ((b : Bool) → is_some (by (word_by b)) ≡ true)
    → look name ≡ Some (word_by b) → (word : Text) → look name ≡ Some word → by word ≡ None → ⊥
has_word look name by word_by b back named word is none = true≢false (sym (ap is_some (sym none ∙ ap by same) ∙ back b))
  where
    same : word ≡ word_by b
    same = ap (λ o. unwrap_or o word) (sym is ∙ named)

binary_back : (b : Bool) → is_some (binary_by_word (word_of_binary b)) ≡ true
binary_back false = refl
binary_back true = refl

zones_back : (b : Bool) → is_some (zones_by_word (word_of_zones b)) ≡ true
zones_back false = refl
zones_back true = refl

-- the options for the reading that name one do not lack one
pub has_reading : (look : Look) (r : Reading) → NamesReading look r → LacksReading look → ⊥
has_reading look r named (inl (word, is, none)) = has_word look (codes "binary") binary_by_word word_of_binary (reads_whole r) binary_back named.binary word is none
has_reading look r named (inr (word, is, none)) = has_word look (codes "zones") zones_by_word word_of_zones (takes_any_zones r) zones_back named.zones word is none

-- nor do they where they are not there
no_reading : (look : Look) → look (codes "binary") ≡ None → look (codes "zones") ≡ None → LacksReading look → ⊥
no_reading look binary zones (inl lacks) = absent look (codes "binary") lacks.0 binary lacks.1
no_reading look binary zones (inr lacks) = absent look (codes "zones") lacks.0 zones lacks.1

-- a size is named beside a form as beside another of the same letter
pub block_beside : (look : Look) (name : Text) (f g : Form) (size : ℕ) → letter_of f ≡ letter_of g → NamesBlock look name f size → NamesBlock look name g size
block_beside look name Fixed Fixed size same is = is
block_beside look name Fixed Variable size same is = is
block_beside look name Fixed (Blocked n) size same is = absurd (other_letter 102 98 (letter_of (Blocked n)) refl same refl)
block_beside look name Variable Fixed size same is = is
block_beside look name Variable Variable size same is = is
block_beside look name Variable (Blocked n) size same is = absurd (other_letter 118 98 (letter_of (Blocked n)) refl same refl)
block_beside look name (Blocked m) Fixed size same is = absurd (other_letter 98 102 (codes "f") refl same refl)
block_beside look name (Blocked m) Variable size same is = absurd (other_letter 98 118 (codes "v") refl same refl)
block_beside look name (Blocked m) (Blocked n) size same is = is

-- two forms that one option names have one letter
pub same_letter : (look : Look) (name : Text) (f g : Form) → look name ≡ Some (letter_of f) → look name ≡ Some (letter_of g) → letter_of f ≡ letter_of g
same_letter look name f g p q = ap (λ o. unwrap_or o (letter_of f)) (sym p ∙ q)

-- an option that names a size of blocks does not lack one
has_size : (look : Look) (name : Text) (f : Form) (size : ℕ) → NamesBlock look name f size → LacksSize look name f → ⊥
has_size look name Fixed size is lacks = lacks
has_size look name Variable size is lacks = lacks
has_size look name (Blocked most) size (word, named, says) (other, is, none) =
    none size (subst (λ (w : Text). SaysBlockSize w size) (ap (λ o. unwrap_or o word) (sym named ∙ is)) says)

has_block : (look : Look) (form_name block_name : Text) (f : Form) (size : ℕ) → look form_name ≡ Some (letter_of f) → NamesBlock look block_name f size
    → LacksBlock look form_name block_name → ⊥
has_block look form_name block_name f size named names (g, is, lacks) =
    has_size look block_name g size (block_beside look block_name f g size (same_letter look form_name f g named is) names) lacks

pub have_blocks : (look : Look) (f g : Form) (m n : ℕ) → look (codes "in-form") ≡ Some (letter_of f) → look (codes "out-form") ≡ Some (letter_of g)
    → NamesBlock look (codes "in-block") f m → NamesBlock look (codes "out-block") g n → LacksABlock look → ⊥
have_blocks look f g m n from to in_size out_size (inl lacks) = has_block look (codes "in-form") (codes "in-block") f m from in_size lacks
have_blocks look f g m n from to in_size out_size (inr lacks) = has_block look (codes "out-form") (codes "out-block") g n to out_size lacks

letter_sized : (size : ℕ) (f : Form) → letter_of (sized_by size f) ≡ letter_of f
letter_sized size Fixed = refl
letter_sized size Variable = refl
letter_sized size (Blocked most) = refl

sized_twice : (size : ℕ) (f : Form) → sized_by size f ≡ sized_by size (sized_by size f)
sized_twice size Fixed = refl
sized_twice size Variable = refl
sized_twice size (Blocked most) = refl

pub sized_again : (f g : Form) (size : ℕ) → g ≡ sized_by size f → g ≡ sized_by size g
sized_again f g size is = is ∙ sized_twice size f ∙ ap (sized_by size) (sym is)

pub named_sized : (look : Look) (name : Text) (f g : Form) (size : ℕ) → g ≡ sized_by size f → look name ≡ Some (letter_of f) → look name ≡ Some (letter_of g)
named_sized look name f g size is named = named ∙ ap Some (sym (letter_sized size f) ∙ ap letter_of (sym is))

pub block_sized : (look : Look) (name : Text) (f g : Form) (size : ℕ) → g ≡ sized_by size f → NamesBlock look name f size → NamesBlock look name g size
block_sized look name f g size is named = block_beside look name f g size (sym (letter_sized size f) ∙ ap letter_of (sym is)) named

-- the option for the listing that names one does not lack one
has_listing : (look : Look) (l : Listing) → look (codes "as") ≡ Some (word_of_listing l) → LacksListing look → ⊥
has_listing look l named (word, is, none) = true≢false (sym (ap is_some (sym none ∙ ap listing_by_word same) ∙ back l))
  where
    back : (l : Listing) → is_some (listing_by_word (word_of_listing l)) ≡ true
    back listing.Text = refl
    back listing.Json = refl
    back listing.Csv = refl

    same : word ≡ word_of_listing l
    same = ap (λ o. unwrap_or o word) (sym is ∙ named)

-- an option that names a number does not lack one
pub has_number : (look : Look) (name : Text) (least number : ℕ) → NamesNumber look name least number → LacksNumber look name least → ⊥
has_number look name least number (word, named, says, low) (other, is, none) =
    none number (subst (λ (w : Text). SaysNumber w number) (ap (λ o. unwrap_or o word) (sym named ∙ is)) says) low

pub has_bound : (look : Look) (name : Text) (most : Option ℕ) → NamesBound look name most → LacksBound look name → ⊥
has_bound look name None named (word, is, other, none) = other (ap (λ o. unwrap_or o word) (sym is ∙ named))
has_bound look name (Some number) (word, named, says, low) (other, is, all, none) =
    none number (subst (λ (w : Text). SaysNumber w number) (ap (λ o. unwrap_or o word) (sym named ∙ is)) says)

has_piece : (look : Look) (from : ℕ) (bytes : Option ℕ) (first : ℕ) → NamePiece look from bytes first → LacksPiece look → ⊥
has_piece look from bytes first h (inl lacks) = has_number look (codes "from") 0 from h.offset lacks
has_piece look from bytes first h (inr (inl lacks)) = has_bound look (codes "bytes") bytes h.size lacks
has_piece look from bytes first h (inr (inr lacks)) = has_number look (codes "record") 1 first h.number lacks

-- where the forms of both files are named, nothing is wrong before a listing
pub before_listing : (look : Look) (forms : Forms) → look (codes "form") ≡ None → look (codes "right-form") ≡ None → NameForms look forms → HasSizes look
before_listing look forms none neither h = (
  (both_forms look forms.input forms.output none neither h.in_letter h.out_letter, has_reading look forms.reading h.reads),
  have_blocks look forms.input forms.output forms.in_block forms.out_block h.in_letter h.out_letter h.in_size h.out_size,
)

-- nor before a piece where there is no listing, nor before a number of records where the piece is named
pub before_piece : (look : Look) → look (codes "as") ≡ None → HasSizes look → HasListing look
before_piece look none before = (before, λ lacks. absent look (codes "as") lacks.0 none lacks.1)

pub before_counts : (look : Look) (from : ℕ) (bytes : Option ℕ) (first : ℕ) → NamePiece look from bytes first → HasListing look → HasPiece look
before_counts look from bytes first h before = (before, has_piece look from bytes first h)

-- nor where one form is named, and the options before are not there
one_form : (look : Look) (f : Form) → look (codes "form") ≡ Some (letter_of f) → look (codes "in-form") ≡ None → look (codes "out-form") ≡ None
    → (LacksForm look (codes "right-form") → ⊥) → look (codes "binary") ≡ None → look (codes "zones") ≡ None → HasSizes look
one_form look f named from to right binary zones = (
  (
    has_forms look (has_form look (codes "form") f named) (no_form look (codes "in-form") from) (no_form look (codes "out-form") to) right,
    no_reading look binary zones,
  ),
  λ lacks. elim lacks [
    | inl block ↦ absent look (codes "in-form") _ from block.1
    | inr block ↦ absent look (codes "out-form") _ to block.1
  ],
)

no_piece : (look : Look) → look (codes "from") ≡ None → look (codes "bytes") ≡ None → look (codes "record") ≡ None → LacksPiece look → ⊥
no_piece look from bytes first (inl lacks) = absent look (codes "from") lacks.0 from lacks.1
no_piece look from bytes first (inr (inl lacks)) = absent look (codes "bytes") lacks.0 bytes lacks.1
no_piece look from bytes first (inr (inr lacks)) = absent look (codes "record") lacks.0 first lacks.1

no_count : (look : Look) → look (codes "skip") ≡ None → look (codes "records") ≡ None → look (codes "most-rejects") ≡ None → (LacksBound look (codes "most") → ⊥)
    → LacksCount look → ⊥
no_count look skip records most told (inl lacks) = absent look (codes "skip") lacks.0 skip lacks.1
no_count look skip records most told (inr (inl lacks)) = absent look (codes "records") lacks.0 records lacks.1
no_count look skip records most told (inr (inr (inl lacks))) = absent look (codes "most-rejects") lacks.0 most lacks.1
no_count look skip records most told (inr (inr (inr lacks))) = told lacks

-- an option that names nothing lacks no bound
pub no_bound : (look : Look) (name : Text) → look name ≡ None → LacksBound look name → ⊥
no_bound look name none lacks = absent look name lacks.0 none lacks.1

pub show_form : (look : Look) (f : Form) → AreAll show_options look → look (codes "form") ≡ Some (letter_of f) → HasSizes look
show_form look f all named =
    one_form look f named (all (codes "in-form") refl) (all (codes "out-form") refl) (no_form look (codes "right-form") (all (codes "right-form") refl))
    (all (codes "binary") refl) (all (codes "zones") refl)

pub show_listing : (look : Look) (f : Form) (l : Listing) → AreAll show_options look → look (codes "form") ≡ Some (letter_of f) → look (codes "as") ≡ Some (word_of_listing l)
    → HasPiece look
show_listing look f l all named listed = (
  (show_form look f all named, has_listing look l listed),
  no_piece look (all (codes "from") refl) (all (codes "bytes") refl) (all (codes "record") refl),
)

pub pieces_form : (look : Look) (f : Form) → AreAll pieces_options look → look (codes "form") ≡ Some (letter_of f) → HasCounts look
pieces_form look f all named = (
  (
    before_piece look (all (codes "as") refl) (one_form look f named (all (codes "in-form") refl) (all (codes "out-form") refl)
        (no_form look (codes "right-form") (all (codes "right-form") refl)) (all (codes "binary") refl) (all (codes "zones") refl)),
    no_piece look (all (codes "from") refl) (all (codes "bytes") refl) (all (codes "record") refl),
  ),
  no_count look (all (codes "skip") refl) (all (codes "records") refl) (all (codes "most-rejects") refl) (no_bound look (codes "most") (all (codes "most") refl)),
)

-- where the forms of a comparison are named, no form is wrong, and nothing before a number of records
pub compared_forms : (look : Look) (f g : Form) → AreAll compare_options look → look (codes "form") ≡ Some (letter_of f) → NamesRightForm look f g → HasPiece look
compared_forms look f g all named right = (
  before_piece look (all (codes "as") refl)
      (one_form look f named (all (codes "in-form") refl) (all (codes "out-form") refl) (has_right right) (all (codes "binary") refl) (all (codes "zones") refl)),
  no_piece look (all (codes "from") refl) (all (codes "bytes") refl) (all (codes "record") refl),
)
  where
    has_right : NamesRightForm look f g → LacksForm look (codes "right-form") → ⊥
    has_right (inl names) lacks = no_form look (codes "right-form") names.0 lacks
    has_right (inr names) lacks = has_form look (codes "right-form") g names.0 lacks

-- nor a record length, where it is named how many are told
pub compared_most : (look : Look) (most : Option ℕ) → AreAll compare_options look → NamesBound look (codes "most") most → HasPiece look → HasLrecl look
compared_most look most all named before = (
  (
    (
      before,
      no_count look (all (codes "skip") refl) (all (codes "records") refl) (all (codes "most-rejects") refl) (has_bound look (codes "most") most named),
    ),
    λ lacks. absent look (codes "pieces") lacks.0 (all (codes "pieces") refl) lacks.1,
  ),
  λ lacks. absent look (codes "lrecl") lacks.0 (all (codes "lrecl") refl) lacks.1,
)

-- nothing is wrong before a record length where there is no number of pieces, nor where there are no numbers of records either
no_pieces : (look : Look) → look (codes "pieces") ≡ None → HasCounts look → HasPieces look
no_pieces look none before = (before, λ lacks. absent look (codes "pieces") lacks.0 none lacks.1)

pub chosen : (look : Look) (skip : ℕ) (records most : Option ℕ) → NameChoice look skip records → NamesBound look (codes "most-rejects") most → look (codes "most") ≡ None
    → look (codes "pieces") ≡ None → HasPiece look → HasPieces look
chosen look skip records most choice bound told pieces before = no_pieces look pieces (before, has_counts)
  where
    has_counts : LacksCount look → ⊥
    has_counts (inl lacks) = has_number look (codes "skip") 0 skip choice.passed lacks
    has_counts (inr (inl lacks)) = has_bound look (codes "records") records choice.most lacks
    has_counts (inr (inr (inl lacks))) = has_bound look (codes "most-rejects") most bound lacks
    has_counts (inr (inr (inr lacks))) = no_bound look (codes "most") told lacks

pub chosen_alone : (look : Look) (skip : ℕ) (records : Option ℕ) → NameChoice look skip records → look (codes "most-rejects") ≡ None → look (codes "most") ≡ None
    → look (codes "pieces") ≡ None → HasPiece look → HasPieces look
chosen_alone look skip records choice most told pieces before = no_pieces look pieces (before, has_counts)
  where
    has_counts : LacksCount look → ⊥
    has_counts (inl lacks) = has_number look (codes "skip") 0 skip choice.passed lacks
    has_counts (inr (inl lacks)) = has_bound look (codes "records") records choice.most lacks
    has_counts (inr (inr (inl lacks))) = no_bound look (codes "most-rejects") most lacks
    has_counts (inr (inr (inr lacks))) = no_bound look (codes "most") told lacks

pub one_record : (look : Look) (number : ℕ) → NamesNumber look (codes "record") 1 number → look (codes "from") ≡ None → look (codes "bytes") ≡ None
    → look (codes "skip") ≡ None → look (codes "records") ≡ None → look (codes "most-rejects") ≡ None → look (codes "most") ≡ None
    → look (codes "pieces") ≡ None → HasListing look → HasPieces look
one_record look number named from bytes skip records most told pieces before =
    no_pieces look pieces ((before, has_piece), no_count look skip records most (no_bound look (codes "most") told))
  where
    has_piece : LacksPiece look → ⊥
    has_piece (inl lacks) = absent look (codes "from") lacks.0 from lacks.1
    has_piece (inr (inl lacks)) = absent look (codes "bytes") lacks.0 bytes lacks.1
    has_piece (inr (inr lacks)) = has_number look (codes "record") 1 number named lacks

pub cut_in : (look : Look) (pieces : ℕ) → NamesNumber look (codes "pieces") 1 pieces → HasCounts look → HasPieces look
cut_in look pieces named before = (before, λ lacks. has_number look (codes "pieces") 1 pieces named lacks)

-- a fault that is one of the options
pub fault_is : (look : Look) (told kind : LineFault) → told ≡ kind → IsFaultIn look kind → IsFaultIn look told
fault_is look told kind is h = subst (IsFaultIn look) (sym is) h

-- what holds of a fault that is handed on
pub told : {T E : Type 0} (r : Result T E) (Q P : E → Type 0) → ((e : E) → Q e → P e) → IsErrAnd r Q → IfErr r P
told (Ok x) Q P step h = absurd h
told (Err e) Q P step h = step e h
