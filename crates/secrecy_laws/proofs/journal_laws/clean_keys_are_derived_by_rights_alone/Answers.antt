use Rattle.secrecy_laws.proofs.Clean.{clean_reached, clean_rightful}
use Rattle.secrecy_laws.proofs.journal_laws.clean_keys_are_derived_by_rights_alone.Goals as goal

pub returns : goal.returns
returns c = record { edges = clean_reached; rights = clean_rightful }
