use Rattle.std.proofs.Common.{◌≡◌, sym, ap, ◌∙◌}
use Rattle.key_links.specs.Ended.{sealing_role}
use Rattle.key_links.specs.Opened.{text_of, with_text}
use Rattle.key_links.specs.Ringed.{key_of, parts_of}
use Rattle.key_links.proofs.InPlace.{on_ok}
use Rattle.key_links.proofs.Sourced.{text_opened}
use Rattle.key_links.proofs.ring.KeyRing.open_text.Goals as goal
use Rattle.record_format.specs.Plain.{plain_content}

pub returns-clause-opens : goal.returns-clause-opens
returns-clause-opens c = λ key nonce text has is.
    let ring = c.args.self.now in
    let content = c.args.content.now in
    let own = ap (key_of ring) (sym c.sealing_role.ensures) ∙ c.opening_key-key.ensures.parts in
    let opened = text_opened (key_of ring (sealing_role content.kind content.object)) (parts_of c.opening_key-key.result.now) key nonce text (plain_content content) own has is in
    let ok = c.open_any.ensures.authentic.1 opened.0 in (
      ok,
      on_ok (c.open_any.new.content ≡ with_text content (text_of (parts_of c.opening_key-key.result.now) (plain_content content))) c.open_any.result ok c.open_any.ensures.opened
          ∙ ap (with_text content) opened.1,
    )
