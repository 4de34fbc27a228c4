use Rattle.store_owner.proofs.FewKeys.{few_keys}
use Rattle.store_owner.proofs.sound_laws.sound_owners_draw_few_keys.Goals as goal

pub returns : goal.returns
returns c = few_keys
