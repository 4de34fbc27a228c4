use Rattle.hmac_seal.specs.Hmac.{hmac}
use Rattle.hmac_seal.proofs.state.Hmac.end.Goals as goal

pub returns : goal.returns
unfolding hmac
returns c = λ key message held.
    rw (c.finalize.ensures _ held.inner) at (c.finalize-2.ensures _ (c.update.ensures _ held.outer))
