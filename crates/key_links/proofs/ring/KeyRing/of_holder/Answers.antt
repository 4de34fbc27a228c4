use Rattle.key_links.specs.Ringed.{parts_of, role_of}
use Rattle.key_links.proofs.Ringing.{alone}
use Rattle.key_links.proofs.ring.KeyRing.of_holder.Goals as goal
use Rattle.key_links.specs.declared.any_key.AnyKey.TheVariants.{Holder}

pub returns : goal.returns
unfolding role_of parts_of
returns c = alone c.new.result.spare c.new.result.rows (Holder c.args.key) c.new.ensures
