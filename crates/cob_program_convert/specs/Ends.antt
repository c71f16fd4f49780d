-- Which faults the command `convert` can have, by whether an output that is there is kept until all is done.
use Rattle.std.specs.Prelude.{◌⊎◌, Bool}
use Rattle.cob_program_faults.specs.declared.fault.CommandFault.{CommandFault}
use Rattle.cob_program_faults.specs.Texts.{LacksConversion}
use Rattle.cob_program_ends.specs.Aside.{LacksAsideEnds}
use Rattle.cob_program_ends.specs.Ends.{LacksEnds}
use Rattle.cob_program_run.specs.Ends.{LacksOutput, LacksOutputs}

-- The faults that `convert` can have: of its texts, of its ends, of its run; and, where an output that is there is kept until all is done, that the
-- new one was not renamed.
abbrev pub MayEndConvert : Bool → CommandFault → Type 0
MayEndConvert atomic told = LacksConversion told ⊎ LacksEnds told ⊎ LacksOutput atomic told

-- The faults that `convert --rejects` can have: of its texts, of its ends, of its run; and, where what is there is kept until all is done, that one of
-- the new files was not renamed.
abbrev pub MayEndAside : Bool → CommandFault → Type 0
MayEndAside atomic told = LacksConversion told ⊎ LacksAsideEnds told ⊎ LacksOutputs atomic told
