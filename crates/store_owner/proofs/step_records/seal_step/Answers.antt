use Rattle.std.proofs.Common.{length, map, ap, subst, ◌∙◌, arith}
use Rattle.chacha_seal.specs.Serials.{serial_of}
use Rattle.cry_base.specs.Sets.{In}
use Rattle.cry_base.specs.declared.roles.Role.{Role}
use Rattle.key_links.specs.Ringed.{key_of}
use Rattle.move_plan.specs.Change.{change_of}
use Rattle.record_format.specs.Plain.{plain_content}
use Rattle.role_graph.specs.Edges.{edges}
use Rattle.public_fold.specs.Journal.{note_step}
use Rattle.public_fold.specs.KeyStep.{is_strict}
use Rattle.public_fold.specs.Records.{pieces_of}
use Rattle.journal_bytes.specs.Ringing.{key_after}
use Rattle.journal_bytes.proofs.StepSealed.{between_told, contents_count, contents_told, gets_key, holds_after, last_told, links_count, links_told, payload_is, payload_weighs, skeleton_weighs}
use Rattle.store_owner.proofs.step_records.seal_step.Goals as goal

pub give_keys-requires-clause-no_owner : goal.give_keys-requires-clause-no_owner
give_keys-requires-clause-no_owner c = λ key i. c.requires.can_seal.no_owner key (subst (In key) c.as_slice-keys.ensures i)

pub put_links-requires-clause-held : goal.put_links-requires-clause-held
put_links-requires-clause-held c = λ l i.
    let can = c.requires.can_seal.each_link l (subst (In l) c.as_slice-edges.ensures i) in
    record {
      is_tabled = can.is_tabled;
      source = gets_key c.args.ring.now c.give_keys.new.ring _ _ _ c.args.drawn.now l.edge.from c.as_slice-keys.ensures c.requires.can_seal.enough_drawn (c.give_keys.ensures.keys l.edge.from) can.has_source;
      target = gets_key c.args.ring.now c.give_keys.new.ring _ _ _ c.args.drawn.now l.edge.to c.as_slice-keys.ensures c.requires.can_seal.enough_drawn (c.give_keys.ensures.keys l.edge.to) can.has_target;
    }

pub put_contents-requires-clause-sealed : goal.put_contents-requires-clause-sealed
put_contents-requires-clause-sealed c = λ h i.
    let can = c.requires.can_seal.each_content h (subst (In h) c.as_slice-heads.ensures i) in
    record {
      kind_from_one = can.kind_from_one;
      kind_to_three = can.kind_to_three;
      key = gets_key c.args.ring.now c.give_keys.new.ring _ _ _ c.args.drawn.now _ c.as_slice-keys.ensures c.requires.can_seal.enough_drawn (c.give_keys.ensures.keys _) can.has_key;
      text_from = can.text_from;
      text_to = can.text_to;
    }

pub returns-clause-payload : goal.returns-clause-payload
unfolding note_step
returns-clause-payload c = λ keys at told after holds is.
    let made = λ (r : Role). c.give_keys.ensures.keys r ∙ ap (λ g. key_after (key_of c.args.ring.now r) (serial_of c.args.counter.now.epoch c.args.counter.now.count) g c.args.drawn.now r) c.as_slice-keys.ensures in
    let links = links_told c.give_keys.new.ring c.args.counter.now c.give_keys.new.counter c.as_slice-keys.result.now c.args.skeleton.now.keys.items c.room.inside.links.items c.put_links.new.links.items
    c.as_slice-edges.result.now c.args.skeleton.now.links.items c.put_links.ensures.links c.room.invariant.0 c.as_slice-edges.ensures c.give_keys.ensures.counter c.as_slice-keys.ensures in
    let between = between_told c.args.counter.now c.give_keys.new.counter c.put_links.new.counter _ _ c.as_slice-keys.result.now c.args.skeleton.now.keys.items c.as_slice-edges.result.now c.args.skeleton.now.links.items
    c.give_keys.ensures.counter c.as_slice-keys.ensures c.put_links.ensures.counter c.as_slice-edges.ensures in
    let contents = contents_told c.give_keys.new.ring c.args.counter.now c.put_links.new.counter (length c.args.skeleton.now.keys.items) (length c.args.skeleton.now.links.items) c.args.text.items
    (map plain_content c.put_contents.new.contents.items) c.as_slice-heads.result.now c.args.skeleton.now.contents.items c.put_contents.ensures.contents c.as_slice-heads.ensures between in
    payload_is keys at.keys (edges at.store) (change_of (is_strict at.keys) at.store told) (pieces_of told after) c.args.drawn.now c.args.ring.now c.give_keys.new.ring c.args.counter.now c.args.skeleton.now
    holds is.can_be_sealed is.is_skeleton c.requires.can_seal.enough_drawn made c.args.text.items is.is_text c.args.note c.put_links.new.links.items (map plain_content c.put_contents.new.contents.items) links contents

pub returns-clause-keys : goal.returns-clause-keys
unfolding note_step
returns-clause-keys c = λ keys at told after holds can shape.
    let made = λ (r : Role). c.give_keys.ensures.keys r ∙ ap (λ g. key_after (key_of c.args.ring.now r) (serial_of c.args.counter.now.epoch c.args.counter.now.count) g c.args.drawn.now r) c.as_slice-keys.ensures in
    let between = between_told c.args.counter.now c.give_keys.new.counter c.put_links.new.counter _ _ c.as_slice-keys.result.now c.args.skeleton.now.keys.items c.as_slice-edges.result.now c.args.skeleton.now.links.items
    c.give_keys.ensures.counter c.as_slice-keys.ensures c.put_links.ensures.counter c.as_slice-edges.ensures in
    let last = last_told c.args.counter.now c.put_links.new.counter c.put_contents.new.counter _ (length c.args.skeleton.now.keys.items) (length c.args.skeleton.now.links.items) c.as_slice-heads.result.now
    c.args.skeleton.now.contents.items between c.put_contents.ensures.counter c.as_slice-heads.ensures in
    holds_after keys at.keys (edges at.store) (change_of (is_strict at.keys) at.store told) (pieces_of told after) c.args.drawn.now c.args.ring.now c.give_keys.new.ring c.args.counter.now c.args.skeleton.now
    holds can shape c.requires.can_seal.enough_drawn made c.put_contents.new.counter last

pub returns-clause-has : goal.returns-clause-has
returns-clause-has c = λ role will.
    gets_key c.args.ring.now c.give_keys.new.ring _ _ _ c.args.drawn.now role c.as_slice-keys.ensures c.requires.can_seal.enough_drawn (c.give_keys.ensures.keys role) will

pub returns-clause-spellable : goal.returns-clause-spellable
returns-clause-spellable c =
    let links = links_told c.give_keys.new.ring c.args.counter.now c.give_keys.new.counter c.as_slice-keys.result.now c.args.skeleton.now.keys.items c.room.inside.links.items c.put_links.new.links.items
    c.as_slice-edges.result.now c.args.skeleton.now.links.items c.put_links.ensures.links c.room.invariant.0 c.as_slice-edges.ensures c.give_keys.ensures.counter c.as_slice-keys.ensures in
    let between = between_told c.args.counter.now c.give_keys.new.counter c.put_links.new.counter _ _ c.as_slice-keys.result.now c.args.skeleton.now.keys.items c.as_slice-edges.result.now c.args.skeleton.now.links.items
    c.give_keys.ensures.counter c.as_slice-keys.ensures c.put_links.ensures.counter c.as_slice-edges.ensures in
    let contents = contents_told c.give_keys.new.ring c.args.counter.now c.put_links.new.counter (length c.args.skeleton.now.keys.items) (length c.args.skeleton.now.links.items) c.args.text.items
    (map plain_content c.put_contents.new.contents.items) c.as_slice-heads.result.now c.args.skeleton.now.contents.items c.put_contents.ensures.contents c.as_slice-heads.ensures between in
    let many = links_count _ _ c.put_links.new.links.items c.args.skeleton.now.links.items links in
    let few = contents_count _ _ _ (map plain_content c.put_contents.new.contents.items) c.args.skeleton.now.contents.items contents in
    record {
      note = c.note_is_spelled.ensures;
      link_count = omega (arith, many, c.requires.can_seal.enough_serials);
      content_count = omega (arith, few, c.requires.can_seal.one_content);
      links = c.put_links.ensures.spelled;
      contents = c.put_contents.ensures.spelled;
    }

pub returns-clause-size : goal.returns-clause-size
returns-clause-size c = λ at told after is.
    let links = links_told c.give_keys.new.ring c.args.counter.now c.give_keys.new.counter c.as_slice-keys.result.now c.args.skeleton.now.keys.items c.room.inside.links.items c.put_links.new.links.items
    c.as_slice-edges.result.now c.args.skeleton.now.links.items c.put_links.ensures.links c.room.invariant.0 c.as_slice-edges.ensures c.give_keys.ensures.counter c.as_slice-keys.ensures in
    let between = between_told c.args.counter.now c.give_keys.new.counter c.put_links.new.counter _ _ c.as_slice-keys.result.now c.args.skeleton.now.keys.items c.as_slice-edges.result.now c.args.skeleton.now.links.items
    c.give_keys.ensures.counter c.as_slice-keys.ensures c.put_links.ensures.counter c.as_slice-edges.ensures in
    let contents = contents_told c.give_keys.new.ring c.args.counter.now c.put_links.new.counter (length c.args.skeleton.now.keys.items) (length c.args.skeleton.now.links.items) c.args.text.items
    (map plain_content c.put_contents.new.contents.items) c.as_slice-heads.result.now c.args.skeleton.now.contents.items c.put_contents.ensures.contents c.as_slice-heads.ensures between in
    payload_weighs (note_step at told after) c.args.skeleton.now c.args.text.items c.args.note c.give_keys.new.ring _ _ c.put_links.new.links.items (map plain_content c.put_contents.new.contents.items) is links contents

pub returns-clause-skeleton_size : goal.returns-clause-skeleton_size
returns-clause-skeleton_size c =
    let links = links_told c.give_keys.new.ring c.args.counter.now c.give_keys.new.counter c.as_slice-keys.result.now c.args.skeleton.now.keys.items c.room.inside.links.items c.put_links.new.links.items
    c.as_slice-edges.result.now c.args.skeleton.now.links.items c.put_links.ensures.links c.room.invariant.0 c.as_slice-edges.ensures c.give_keys.ensures.counter c.as_slice-keys.ensures in
    let between = between_told c.args.counter.now c.give_keys.new.counter c.put_links.new.counter _ _ c.as_slice-keys.result.now c.args.skeleton.now.keys.items c.as_slice-edges.result.now c.args.skeleton.now.links.items
    c.give_keys.ensures.counter c.as_slice-keys.ensures c.put_links.ensures.counter c.as_slice-edges.ensures in
    let contents = contents_told c.give_keys.new.ring c.args.counter.now c.put_links.new.counter (length c.args.skeleton.now.keys.items) (length c.args.skeleton.now.links.items) c.args.text.items
    (map plain_content c.put_contents.new.contents.items) c.as_slice-heads.result.now c.args.skeleton.now.contents.items c.put_contents.ensures.contents c.as_slice-heads.ensures between in
    skeleton_weighs c.args.skeleton.now c.args.text.items c.args.note c.give_keys.new.ring _ _ c.put_links.new.links.items (map plain_content c.put_contents.new.contents.items) links contents
