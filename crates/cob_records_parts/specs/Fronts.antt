-- What stands before a record that stands by itself in a stream.
use Rattle.std.specs.Prelude.{ℕ, ◌+◌, List, [], ◌++◌}
use Rattle.cob_records.specs.Frame.{descriptor}
use Rattle.cob_records.specs.declared.records.Form.{Form}
use Rattle.cob_records.specs.declared.records.Form.TheVariants.{Fixed, Variable, Blocked}

-- the descriptors before a record of so many bytes that stands by itself
abbrev pub front_of : Form → ℕ → List ℕ
front_of Fixed count = []
front_of Variable count = descriptor count
front_of (Blocked most) count = descriptor (4 + count) ++ descriptor count
