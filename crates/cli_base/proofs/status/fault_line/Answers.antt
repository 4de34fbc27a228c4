use Rattle.cli_base.proofs.status.fault_line.Goals as goal

pub returns-in-OutOfMemory-clause-line : goal.returns-in-OutOfMemory-clause-line
returns-in-OutOfMemory-clause-line c = rw c.in-OutOfMemory.is c.append-in-OutOfMemory.ensures.items

pub returns-in-NotBlank-clause-line : goal.returns-in-NotBlank-clause-line
returns-in-NotBlank-clause-line c = rw c.in-NotBlank.is c.append-in-NotBlank.ensures.items
