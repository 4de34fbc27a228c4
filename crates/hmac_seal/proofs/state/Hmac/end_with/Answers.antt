use Rattle.std.proofs.Common.{◌++◌, append_assoc, ap, subst, sym, ◌∙◌}
use Rattle.sha2.specs.Hashers.{Holds256}
use Rattle.sha2.specs.Sha256.{sha256}
use Rattle.hmac_seal.specs.Hmac.{block_key, hmac, xor_each}
use Rattle.hmac_seal.proofs.state.Hmac.end_with.Goals as goal

pub returns : goal.returns
unfolding hmac
returns c = λ key message held.
    let pad = xor_each 0x36 (block_key key) in
    let begun = subst (λ s. Holds256 s (pad ++ message)) (sym c.same-inner.ensures) held.inner in
    let all = append_assoc (pad ++ message) c.args.a.now c.args.b.now ∙ append_assoc pad message (c.args.a.now ++ c.args.b.now) in
    let digest = c.finalize.ensures _ (c.extend.ensures _ (c.update.ensures _ begun)) ∙ ap sha256 all in
    let outer = subst (λ s. Holds256 s (xor_each 0x5c (block_key key))) (sym c.same-outer.ensures) held.outer in
    rw digest at (c.finalize-2.ensures _ (c.update-2.ensures _ outer))
