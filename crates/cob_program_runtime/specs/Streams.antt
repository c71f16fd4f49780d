-- The numbers that the system has for the standard streams.
use Rattle.std.specs.Prelude.{⊤, ◌≤ℤ◌, ℤ, pos, Option, None, Some}

-- Standard input, standard output and standard error have the numbers 0 to 2.
abbrev pub IsStandard : ℤ → Type 0
IsStandard number = number ≤ℤ pos 2

-- an open file that tells its number has that of a standard stream
abbrev pub HasStandard : Option ℤ → Type 0
HasStandard None = ⊤
HasStandard (Some number) = IsStandard number

-- what is kept of files has such a number
abbrev pub KeepsStandard : {F : Type 0} → (F → Option ℤ) → Option F → Type 0
KeepsStandard number None = ⊤
KeepsStandard number (Some file) = HasStandard (number file)
