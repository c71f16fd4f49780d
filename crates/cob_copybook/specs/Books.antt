-- Which tree a copybook's text stands for, and which rule it breaks.
use Rattle.std.specs.Prelude.{◌≡◌, ◌≢◌, ◌⊎◌, ℕ, false, ◌==◌, if◌then◌else◌, List, [], ◌∷◌, codes, Some, None}
use Rattle.cob_source.specs.Tokens.{Lexeme}
use Rattle.cob_source.specs.Words.{AreWordsOf, IsSourceRefusal}
use Rattle.cob_source.specs.declared.fault.SourceRule.TheVariants as source
use Rattle.cob_copybook_entry.specs.Described.{PlainEntry}
use Rattle.cob_copybook_entries.specs.Books.{AreEntriesOf, BreaksEntryRule as BreaksWords}
use Rattle.cob_copybook_entry.specs.declared.fault.BookRule.{BookRule}
use Rattle.cob_copybook_entry.specs.declared.fault.BookRule.TheVariants as rule
use Rattle.cob_copybook_tree.specs.Forests.{Forest}
use Rattle.cob_copybook_tree.specs.Nodes.{Resolved}
use Rattle.cob_copybook.specs.declared.role.Role.{Role}
use Rattle.cob_copybook.specs.declared.role.Role.TheVariants.{In, Out}
use Rattle.cob_copybook.specs.Records.{IsRecordOf, BreaksRecord}

-- the name of a record that its text doesn't name
abbrev pub record_name : Role → List ℕ
record_name In = codes "IN-RECORD"
record_name Out = codes "OUT-RECORD"

-- a record of this name, with no other clause
abbrev pub implied : Role → PlainEntry
implied role = record {
  level = 1;
  name = Some (record_name role);
  redefines = None;
  picture = None;
  usage = None;
  sign = None;
  occurs = None;
  value = None;
  justified = false;
  blank = false;
}

-- a text that doesn't begin with level 01 is read as if it stood under a record named by its role
abbrev pub with_record : Role → List PlainEntry → List PlainEntry
with_record role [] = implied role ∷ []
with_record role (d ∷ ds) = if d.level == 1 then d ∷ ds else implied role ∷ d ∷ ds

-- the text has these entries
pub record HasEntries (role : Role) (text : List ℕ) (ds : List PlainEntry) : Type 0 where
  pub words : List Lexeme
  pub entries : List PlainEntry
  pub are_words : AreWordsOf text words
  pub are_entries : AreEntriesOf words entries
  pub with : ds ≡ with_record role entries

-- The text is a well-formed record description, and this is its tree.
pub record IsBookOf (role : Role) (text : List ℕ) (t : Forest Resolved) : Type 0 where
  pub entries : List PlainEntry
  pub has : HasEntries role text entries
  pub is : IsRecordOf entries t

-- a tree is a record where it is that of some text, in one of the roles
abbrev pub IsRecordDescription : Forest Resolved → Type 0
IsRecordDescription t = (role : Role) × (text : List ℕ) × IsBookOf role text t

-- the words of the text break the rule
abbrev pub BreaksText : BookRule → List ℕ → Type 0
BreaksText r text = (words : List Lexeme) × AreWordsOf text words × BreaksWords r words

-- the entries of the text break the rule
abbrev pub BreaksEntries : Role → BookRule → List ℕ → Type 0
BreaksEntries role r text = (ds : List PlainEntry) × HasEntries role text ds × BreaksRecord r ds

-- the text breaks the rule of the reference format on this line, or its words break the rule; want of memory is no line's, and no rule
-- of the reference format
abbrev pub IsTextRefusal : BookRule → ℕ → List ℕ → Type 0
IsTextRefusal (rule.Source r) line text = (r ≢ source.Memory) × IsSourceRefusal r line text
IsTextRefusal rule.Memory line text = line ≡ 0
IsTextRefusal r line text = BreaksText r text

-- a refusal names a rule that is broken: by the text or its words, or by its entries
abbrev pub IsBookRefusal : Role → BookRule → ℕ → List ℕ → Type 0
IsBookRefusal role r line text = IsTextRefusal r line text ⊎ BreaksEntries role r text

-- want of memory
abbrev pub IsMemory : BookRule → Type 0
IsMemory rule.Memory = Unit {0}
IsMemory r = ⊥
