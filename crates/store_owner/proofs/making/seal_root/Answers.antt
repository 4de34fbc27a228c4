use Rattle.std.proofs.Common.{◌∙◌, arith, ap, Some}
use Rattle.cry_base.specs.Store.{root_store}
use Rattle.record_format.specs.Plain.{plain_payload}
use Rattle.record_format.specs.Told.{told_note}
use Rattle.public_fold.specs.Journal.{root_note}
use Rattle.journal_bytes.specs.Notes.{declared_note}
use Rattle.store_owner.specs.Making.{first_stand, made_note}
use Rattle.store_owner.proofs.RootSealed.{alone, can_now, held_now, held_then, payload_now, root_size, told_now}
use Rattle.store_owner.proofs.making.seal_root.Goals as goal

pub seal_step-payload-requires-clause-can_seal : goal.seal_step-payload-requires-clause-can_seal
seal_step-payload-requires-clause-can_seal c =
    can_now c.args.owner.now c.adopt_owner.new.self c.new-counter.result c.args.skeleton.now c.args.keys.now c.new-name.result.items
    (c.adopt_owner.ensures.key.here ∙ ap Some c.owner.ensures) c.new-counter.ensures c.new-name.ensures c.requires.skeleton
    c.requires.five (let kept = c.adopt_owner.ensures.spare in let room = c.requires.ring_room in omega (arith, kept, room))

pub returns-clause-payload : goal.returns-clause-payload
unfolding declared_note root_note
returns-clause-payload c =
    let here = c.adopt_owner.ensures.key.here ∙ ap Some c.owner.ensures in
    payload_now c.args.owner.now c.adopt_owner.new.self c.new-counter.result c.args.skeleton.now c.args.keys.now c.new-name.result.items
    here c.new-counter.ensures c.new-name.ensures c.requires.skeleton
    (plain_payload c.seal_step-payload.result)
    (c.seal_step-payload.ensures.payload (alone c.args.owner.now) first_stand made_note root_store
    (held_now c.args.owner.now c.adopt_owner.new.self c.new-counter.result c.args.skeleton.now c.args.keys.now c.new-name.result.items here c.new-counter.ensures c.new-name.ensures c.requires.skeleton)
    (told_now c.args.owner.now c.adopt_owner.new.self c.new-counter.result c.args.skeleton.now c.args.keys.now c.new-name.result.items here c.new-counter.ensures c.new-name.ensures c.requires.skeleton))

pub returns-clause-size : goal.returns-clause-size
unfolding told_note root_note
returns-clause-size c =
    let here = c.adopt_owner.ensures.key.here ∙ ap Some c.owner.ensures in
    c.seal_step-payload.ensures.size first_stand made_note root_store
    (told_now c.args.owner.now c.adopt_owner.new.self c.new-counter.result c.args.skeleton.now c.args.keys.now c.new-name.result.items here c.new-counter.ensures c.new-name.ensures c.requires.skeleton)
    ∙ root_size

pub returns-clause-held : goal.returns-clause-held
returns-clause-held c =
    let here = c.adopt_owner.ensures.key.here ∙ ap Some c.owner.ensures in
    let told = told_now c.args.owner.now c.adopt_owner.new.self c.new-counter.result c.args.skeleton.now c.args.keys.now c.new-name.result.items here c.new-counter.ensures c.new-name.ensures c.requires.skeleton in
    held_then c.args.owner.now c.adopt_owner.new.self c.new-counter.result c.args.skeleton.now c.args.keys.now c.new-name.result.items
    here c.new-counter.ensures c.new-name.ensures c.requires.skeleton c.seal_step-payload.new.ring c.seal_step-payload.new.counter
    (c.seal_step-payload.ensures.keys (alone c.args.owner.now) first_stand made_note root_store
    (held_now c.args.owner.now c.adopt_owner.new.self c.new-counter.result c.args.skeleton.now c.args.keys.now c.new-name.result.items here c.new-counter.ensures c.new-name.ensures c.requires.skeleton)
    told.can_be_sealed told.is_skeleton)
