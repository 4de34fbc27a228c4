-- How the program ends where its reading of a store fails. This project's own, docs/PROGRAM.md, "The program".
use Rattle.log_visits.specs.declared.fault.ClientFault.{ClientFault}
use Rattle.log_visits.specs.declared.fault.ClientFault.TheVariants as client
use Rattle.cli_base.specs.declared.status.Status.{Status}
use Rattle.cli_base.specs.declared.status.Status.TheVariants as statuses

abbrev pub reading_status : ClientFault → Status
reading_status client.NotAStore = statuses.NotAStore
reading_status client.WrongKey = statuses.WrongKey
reading_status (client.Damaged at) = statuses.Damaged at
reading_status (client.Tampered batch at) = statuses.Tampered batch at
reading_status (client.NoHolder known) = statuses.NoHolder known
reading_status client.Unseen = statuses.Unseen
reading_status client.DiskFault = statuses.DiskFault
reading_status client.OutOfMemory = statuses.OutOfMemory
