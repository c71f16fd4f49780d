use Rattle.cob_program_map.proofs.command.print_named.Goals as goal

pub print_lined-requires-clause-names : goal.print_lined-requires-clause-names
print_lined-requires-clause-names g c = (
  rw c.as_slice.ensures.value c.in_ok-in_names.ensures.found,
  rw c.as_slice-2.ensures.value c.in_ok-out_names.ensures.found,
)
