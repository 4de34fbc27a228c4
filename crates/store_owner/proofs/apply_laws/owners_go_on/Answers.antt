use Rattle.store_owner.proofs.OwnerGoesOn.{behind_then, disk_then, further_then, owner_then}
use Rattle.store_owner.proofs.apply_laws.owners_go_on.Goals as goal

pub returns : goal.returns
returns c = record {
  owner = λ m r drawn old new was shows is low bound fine suits done. owner_then m r drawn old new was shows is low bound fine suits done;
  disk = λ m r drawn old new was shows is low bound fine suits done. disk_then m r drawn old new was shows is low bound fine suits done;
  further = λ r drawn old new was shows done. further_then r drawn old new was shows done;
  behind = λ m r drawn old new was shows is low bound fine suits done. behind_then m r drawn old new was shows is low bound fine suits done;
}
