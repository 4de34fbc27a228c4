use Rattle.store_owner.proofs.SoundVisits.{files_open, holders_there, keys_open}
use Rattle.store_owner.proofs.sound_laws.owners_visits_open_all.Goals as goal

pub returns-clause-keys : goal.returns-clause-keys
returns-clause-keys c = keys_open

pub returns-clause-holders : goal.returns-clause-holders
returns-clause-holders c = holders_there

pub returns-clause-sized : goal.returns-clause-sized
returns-clause-sized c = files_open
