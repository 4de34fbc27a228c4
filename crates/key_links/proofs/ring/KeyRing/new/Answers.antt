use Rattle.key_links.specs.Ringed.{parts_of, role_of}
use Rattle.key_links.proofs.Ringing.{alone}
use Rattle.key_links.proofs.ring.KeyRing.new.Goals as goal
use Rattle.key_links.specs.declared.any_key.AnyKey.TheVariants.{Owner}

pub returns : goal.returns
unfolding role_of parts_of
returns c = alone c.new.result.spare c.new.result.rows (Owner c.args.owner) c.new.ensures
