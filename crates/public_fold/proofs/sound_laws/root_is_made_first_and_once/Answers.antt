use Rattle.std.proofs.Common.{refl}
use Rattle.cry_base.specs.Store.{no_store}
use Rattle.public_fold.proofs.NoteMoves.{first_is_root, root_once, strict_root_once}
use Rattle.public_fold.proofs.sound_laws.root_is_made_first_and_once.Goals as goal

pub returns : goal.returns
returns c = record { first = λ strict note t. first_is_root strict no_store note t refl; once = root_once; strict_once = strict_root_once }
