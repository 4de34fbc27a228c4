use Rattle.cry_base.specs.Store.{HolderEntry}
use Rattle.folder_nodes.proofs.Rowed.{some_of}
use Rattle.group_laws.proofs.Handed.{hands_on}
use Rattle.group_laws.proofs.laws.replacements_hand_on.Goals as goal

pub returns : goal.returns
returns c = λ limits g n valid some none. hands_on limits g n valid (some_of HolderEntry _ some) none
