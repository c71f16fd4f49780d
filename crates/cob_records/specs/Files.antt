-- Ends over files, as their callers see them.
use Rattle.std.specs.Prelude.{ℕ, Bool, true, false, ◌==◌, List, [], ◌∷◌, Option}
use Rattle.cob_records.specs.declared.files.Opened.{Opened}
use Rattle.cob_records.specs.declared.files.Opened.TheVariants.{Named, Standard}

-- how many bytes the buffer of an end holds
abbrev pub buffer_size : ℕ
buffer_size = 65536

-- the name stands for a standard stream: it is a hyphen alone
abbrev pub names_standard : List ℕ → Bool
names_standard (byte ∷ []) = byte == 45
names_standard _ = false

-- a standard stream was opened
abbrev pub is_standard : {F S : Type 0} → Opened F S → Bool
is_standard (Named file) = false
is_standard (Standard stream) = true

-- what is told of the file or of the stream, whichever was opened
abbrev pub told_of : {F S : Type 0} → (F → Option (List ℕ)) → (S → Option (List ℕ)) → Opened F S → Option (List ℕ)
told_of file stream (Named x) = file x
told_of file stream (Standard x) = stream x
