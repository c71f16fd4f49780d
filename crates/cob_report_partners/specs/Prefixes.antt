-- Names behind prefixes, by which entries are compared.
use Rattle.std.specs.Prelude.{◌≡◌, ℕ, Bool, ◌&&◌, bytes_eq, nat_lt, if◌then◌else◌, List, [], length, map, take, drop, Option, option_map}
use Rattle.cob_copybook_names.specs.Naming.{Bearer}
use Rattle.cob_report_partners.specs.Entries.{DraftEntry}
use Rattle.cob_report_partners.specs.Partners.{input_bearers, output_bearers}
use Rattle.cob_report_partners.specs.declared.prefixes.Prefixes.{Prefixes}
use Rattle.cob_report_partners.specs.declared.records.BothRecords.{BothRecords}

-- a name begins with a prefix, and has more behind it
abbrev pub begins_with : (prefix name : List ℕ) → Bool
begins_with prefix name = nat_lt (length prefix) (length name) && bytes_eq (take (length prefix) name) prefix

-- a name behind a prefix: without it where it begins with it, and else as it is
abbrev pub behind_prefix : (prefix name : List ℕ) → List ℕ
behind_prefix prefix name = if begins_with prefix name then drop (length prefix) name else name

-- the name of an entry behind a prefix, if it has one
abbrev pub name_behind : List ℕ → Option (List ℕ) → Option (List ℕ)
name_behind prefix name = option_map (behind_prefix prefix) name

-- an entry as it is compared: its name and those of the groups above it behind a prefix
abbrev pub bearer_behind : List ℕ → Bearer DraftEntry → Bearer DraftEntry
bearer_behind prefix b = record { name = name_behind prefix b.name; above = map (behind_prefix prefix) b.above; entry = b.entry }

-- The entries of both records as they are compared: each record has its prefix, and all else that is known of an entry stays.
pub record AreBehind (prefixes : Prefixes) (own compared : BothRecords) : Type 0 where
  pub inputs : input_bearers compared ≡ map (bearer_behind prefixes.input.now) (input_bearers own)
  pub outputs : output_bearers compared ≡ map (bearer_behind prefixes.output.now) (output_bearers own)

-- law: behind no prefix each name is as it is
abbrev pub NoPrefixChangesNothing : Type 0
NoPrefixChangesNothing = (name : List ℕ) → behind_prefix [] name ≡ name
