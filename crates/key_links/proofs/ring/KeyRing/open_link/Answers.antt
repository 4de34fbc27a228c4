use Rattle.std.proofs.Common.{refl, sym, ap, subst, ◌∙◌}
use Rattle.std.proofs.lemmas.Bool.{false≢true}
use Rattle.key_links.specs.Ended.{source_role}
use Rattle.key_links.specs.Ringed.{IsWithKey, key_of, parts_of, role_of}
use Rattle.key_links.proofs.Sourced.{link_opened}
use Rattle.key_links.proofs.ring.KeyRing.open_link.Goals as goal

pub returns-in_err-key-clause-opens : goal.returns-in_err-key-clause-opens
returns-in_err-key-clause-opens c = λ from to nonce has is.
    let ring = c.args.self.now in
    let link = c.args.link.now in
    let own = ap (key_of ring) (sym c.source_role.ensures) ∙ c.opening_key.ensures.parts in
    absurd (false≢true (c.in_err-key.ensures.authentic.1 (link_opened (key_of ring (source_role link)) (parts_of c.opening_key.result.now) from to nonce link own has is).0))

pub returns-clause-opens : goal.returns-clause-opens
returns-clause-opens c = λ from to nonce has is.
    let ring = c.args.self.now in
    let link = c.args.link.now in
    let own = ap (key_of ring) (sym c.source_role.ensures) ∙ c.opening_key.ensures.parts in
    let opened = link_opened (key_of ring (source_role link)) (parts_of c.opening_key.result.now) from to nonce link own has is in (
      refl,
      subst (λ role. IsWithKey c.keep.new.self ring role to) c.in_ok-key.ensures.role
          (subst (λ key. IsWithKey c.keep.new.self ring (role_of c.in_ok-key.key) key) (c.in_ok-key.ensures.parts ∙ opened.1) c.keep.ensures.key),
    )
