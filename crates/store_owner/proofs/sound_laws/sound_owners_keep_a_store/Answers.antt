use Rattle.store_owner.proofs.SoundStores.{epoch_few, files_below, folders_few, holders_few, own_kept}
use Rattle.store_owner.proofs.sound_laws.sound_owners_keep_a_store.Goals as goal

pub returns-clause-store : goal.returns-clause-store
returns-clause-store c = own_kept

pub returns-clause-folders : goal.returns-clause-folders
returns-clause-folders c = folders_few

pub returns-clause-files : goal.returns-clause-files
returns-clause-files c = files_below

pub returns-clause-holders : goal.returns-clause-holders
returns-clause-holders c = holders_few

pub returns-clause-epoch : goal.returns-clause-epoch
returns-clause-epoch c = epoch_few
