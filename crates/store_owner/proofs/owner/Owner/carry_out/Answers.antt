use Rattle.std.proofs.Common.{inl, inr, ◌≡◌, ◌≤◌, ◌∙◌, ◌++◌, List, None, Option, Some, ap, arith, length, refl, replicate, subst, sym, ℕ}
use Rattle.batch_log.specs.Moments.{FromThenOn}
use Rattle.commit_journal.proofs.StoppedCommits.{stays}
use Rattle.chacha_seal.specs.Serials.{Counting}
use Rattle.cry_base.specs.Store.{Store}
use Rattle.folder_nodes.specs.Titles.{tree_store}
use Rattle.record_format.specs.Plain.{plain_payload}
use Rattle.record_format.specs.Sizes.{payload_size}
use Rattle.record_format.specs.Spelling.{spell_payload}
use Rattle.record_format.specs.Told.{told_note}
use Rattle.record_format.proofs.Lengths.{length-spell_payload}
use Rattle.public_fold.specs.KeyStep.{is_strict}
use Rattle.public_fold.specs.Standing.{IsSeenAs, stand_of}
use Rattle.public_fold.specs.declared.heads.Skeleton.{Skeleton}
use Rattle.journal_bytes.specs.Owning.{IsTreeOf}
use Rattle.journal_bytes.specs.Sealing.{CanSeal}
use Rattle.store_owner.specs.Deeds.{AreDeedTitles, deed_key, deed_of, deed_refusal, IsDeedChange, Suits}
use Rattle.store_owner.specs.Applying.{IsCarriedOut, IsInterrupted}
use Rattle.store_owner.specs.Counted.{IsWithin}
use Rattle.store_owner.specs.Owned.{OwnerView}
use Rattle.store_owner.specs.Planning.{HasBegun, IsDrafted, IsFurnished, planned_size}
use Rattle.store_owner.specs.Sound.{own_store}
use Rattle.store_owner.specs.declared.counted.Counted.{Counted}
use Rattle.store_owner.specs.Published.{PublishesWithin}
use Rattle.store_owner.specs.Stopping.{HandsAll, StopsWithin}
use Rattle.command_plan.specs.declared.name_change.NameChange.{NameChange}
use Rattle.store_owner.proofs.Counts.{within_limit, within_on}
use Rattle.store_owner.proofs.CarriedOut.{batches_for, carried, ends_for, fits_for, sealed_for, size_for, skeleton_for, starts_for, text_for}
use Rattle.store_owner.proofs.NotesKeyed.{adds_holder, holder_drawn}
use Rattle.store_owner.proofs.PublishedCommands.{early_published, late_published}
use Rattle.store_owner.proofs.StoppedCommands.{all_handed, early_stops, late_stops, time_then}
use Rattle.store_owner.proofs.owner.Owner.carry_out.Goals as goal

pub take_key-reply-requires-clause-holder : goal.take_key-reply-requires-clause-holder
take_key-reply-requires-clause-holder g c = λ is.
    let old : OwnerView = c.args.self.now in
    let at = stand_of c.self.inside.state in
    let seen = subst (λ (o : OwnerView). IsSeenAs o.state at) c.self.view_is c.is_seen.ensures in (
      holder_drawn _ c.args.change.note c.args.change.ready.skeleton c.args.drawn.now (c.requires.drafted.is_skeleton at seen) c.requires.count is,
      c.requires.drafted.text_room (adds_holder c.args.change.note (own_store old) (deed_of c.args.asked.now) _ (c.requires.drafted.told (own_store old) (c.sound_owners_keep_a_store.ensures.store old)) is),
    )

pub seal_step-payload-requires-clause-can_seal : goal.seal_step-payload-requires-clause-can_seal
seal_step-payload-requires-clause-can_seal g c =
    let i = c.self.inside in
    let old : OwnerView = record { key = i.key.bytes; journal = i.journal; state = i.state; names = i.names; ring = i.ring; counter = i.counter; file_bytes = i.limits.file_bytes; tally = i.tally } in
    let r = deed_of c.args.asked.now in
    let drawn = c.args.drawn.now in
    let before = c.args.change in
    let after = c.take_key-reply.new.self in
    let at = stand_of i.state in
    let keyed = c.take_key-reply.ensures.keyed in
    let drafted : IsDrafted r old before = subst (λ (o : OwnerView). IsDrafted r o before) (sym c.self.view_is) c.requires.drafted in
    let furnished : IsFurnished r old before c.args.room = subst (λ (o : OwnerView). IsFurnished r o before c.args.room) (sym c.self.view_is) c.requires.furnished in
    let own = c.sound_owners_keep_a_store.ensures.store old in
    let sound = (c.self.invariant (ap (λ (o : OwnerView). o.journal.is_closed) c.self.view_is ∙ c.requires.open)).0 in
    let accepted : deed_refusal (is_strict old.state.keys) (own_store old) r old.file_bytes ≡ None = subst (λ (o : OwnerView). deed_refusal (is_strict o.state.keys) (own_store o) r o.file_bytes ≡ None) (sym c.self.view_is) c.requires.accepted in
    let fits = fits_for r drawn old before after at drafted keyed c.requires.count c.requires.sizes own c.is_seen.ensures in
    let has : HasBegun i.journal c.begin.new.journal i.counter c.in-Ok.counter (g.D.Disk.shown c.args.disk.now) (g.D.Disk.shown c.begin.new.disk) =
    subst (λ (k : Option Counting). HasBegun i.journal c.begin.new.journal k c.in-Ok.counter (g.D.Disk.shown c.args.disk.now) (g.D.Disk.shown c.begin.new.disk)) c.take.ensures.value c.in-Ok.ensures.begun in
    let can = c.sound_owners_can_seal.ensures old r drawn before.ready.skeleton old.ring c.in-Ok.counter sound c.requires.form accepted
    (λ x saw. skeleton_for r drawn old before after at drafted keyed c.requires.count c.requires.sizes own c.is_seen.ensures x (own_store old) saw own) fits
    refl furnished.ring_room c.requires.count c.requires.sizes (starts_for i.journal.has_epoch i.counter c.in-Ok.counter c.begin.new.journal.epoch i.journal.epoch has.epoch has.starts_as) in
    subst (λ (s : Skeleton). CanSeal i.ring c.in-Ok.counter s drawn after.text.items) (sym (c.skeleton.ensures ∙ keyed.skeleton))
    (subst (λ (t : List ℕ). CanSeal i.ring c.in-Ok.counter before.ready.skeleton drawn t)
    (sym (text_for r drawn old before after at drafted keyed c.requires.count c.requires.sizes own c.is_seen.ensures)) can)

pub commit_within-requires-clause-room : goal.commit_within-requires-clause-room
commit_within-requires-clause-room g c =
    let i = c.self.inside in
    let old : OwnerView = record { key = i.key.bytes; journal = i.journal; state = i.state; names = i.names; ring = i.ring; counter = i.counter; file_bytes = i.limits.file_bytes; tally = i.tally } in
    let r = deed_of c.args.asked.now in
    let drawn = c.args.drawn.now in
    let before = c.args.change in
    let after = c.take_key-reply.new.self in
    let at = stand_of i.state in
    let keyed = c.take_key-reply.ensures.keyed in
    let drafted : IsDrafted r old before = subst (λ (o : OwnerView). IsDrafted r o before) (sym c.self.view_is) c.requires.drafted in
    let furnished : IsFurnished r old before c.args.room = subst (λ (o : OwnerView). IsFurnished r o before c.args.room) (sym c.self.view_is) c.requires.furnished in
    let own = c.sound_owners_keep_a_store.ensures.store old in
    let has : HasBegun i.journal c.begin.new.journal i.counter c.in-Ok.counter (g.D.Disk.shown c.args.disk.now) (g.D.Disk.shown c.begin.new.disk) =
    subst (λ (k : Option Counting). HasBegun i.journal c.begin.new.journal k c.in-Ok.counter (g.D.Disk.shown c.args.disk.now) (g.D.Disk.shown c.begin.new.disk)) c.take.ensures.value c.in-Ok.ensures.begun in
    let size : payload_size (plain_payload c.seal_step-payload.result) ≡ planned_size r before =
    c.seal_step-payload.ensures.skeleton_size ∙ size_for r drawn old before after at drafted keyed c.requires.count c.requires.sizes own c.is_seen.ensures c.skeleton.result.now c.skeleton.ensures in
    let room = has.room in let fit = furnished.journal_room in omega (arith, size, room, fit)

pub commit_within-requires-clause-ends : goal.commit_within-requires-clause-ends
commit_within-requires-clause-ends g c =
    let i = c.self.inside in
    let old : OwnerView = record { key = i.key.bytes; journal = i.journal; state = i.state; names = i.names; ring = i.ring; counter = i.counter; file_bytes = i.limits.file_bytes; tally = i.tally } in
    let r = deed_of c.args.asked.now in
    let drawn = c.args.drawn.now in
    let before = c.args.change in
    let after = c.take_key-reply.new.self in
    let at = stand_of i.state in
    let keyed = c.take_key-reply.ensures.keyed in
    let drafted : IsDrafted r old before = subst (λ (o : OwnerView). IsDrafted r o before) (sym c.self.view_is) c.requires.drafted in
    let furnished : IsFurnished r old before c.args.room = subst (λ (o : OwnerView). IsFurnished r o before c.args.room) (sym c.self.view_is) c.requires.furnished in
    let own = c.sound_owners_keep_a_store.ensures.store old in
    let has : HasBegun i.journal c.begin.new.journal i.counter c.in-Ok.counter (g.D.Disk.shown c.args.disk.now) (g.D.Disk.shown c.begin.new.disk) =
    subst (λ (k : Option Counting). HasBegun i.journal c.begin.new.journal k c.in-Ok.counter (g.D.Disk.shown c.args.disk.now) (g.D.Disk.shown c.begin.new.disk)) c.take.ensures.value c.in-Ok.ensures.begun in
    let size : payload_size (plain_payload c.seal_step-payload.result) ≡ planned_size r before =
    c.seal_step-payload.ensures.skeleton_size ∙ size_for r drawn old before after at drafted keyed c.requires.count c.requires.sizes own c.is_seen.ensures c.skeleton.result.now c.skeleton.ensures in
    ends_for i.journal.has_epoch i.journal.end c.begin.new.journal.end i.journal.limit c.begin.new.journal.limit (planned_size r before) (payload_size (plain_payload c.seal_step-payload.result)) has.end has.limit size furnished.ends_within

pub settle-requires-clause-can : goal.settle-requires-clause-can
settle-requires-clause-can g c =
    let i = c.self.inside in
    let old : OwnerView = record { key = i.key.bytes; journal = i.journal; state = i.state; names = i.names; ring = i.ring; counter = i.counter; file_bytes = i.limits.file_bytes; tally = i.tally } in
    let r = deed_of c.args.asked.now in
    let drafted : IsDrafted r old c.args.change = subst (λ (o : OwnerView). IsDrafted r o c.args.change) (sym c.self.view_is) c.requires.drafted in
    c.take_key-reply.ensures.keyed.can i.state drafted.can_settle

pub settle-requires-clause-room : goal.settle-requires-clause-room
settle-requires-clause-room g c =
    let i = c.self.inside in
    let old : OwnerView = record { key = i.key.bytes; journal = i.journal; state = i.state; names = i.names; ring = i.ring; counter = i.counter; file_bytes = i.limits.file_bytes; tally = i.tally } in
    let r = deed_of c.args.asked.now in
    let furnished : IsFurnished r old c.args.change c.args.room = subst (λ (o : OwnerView). IsFurnished r o c.args.change c.args.room) (sym c.self.view_is) c.requires.furnished in
    subst (λ (s : Skeleton). (1 ≤ i.state.spare) × (length s.keys.items ≤ i.state.key_spare)) (sym c.take_key-reply.ensures.keyed.skeleton) furnished.state_room

pub with-tally-requires : goal.with-tally-requires
with-tally-requires g c =
    let i = c.self.inside in
    let before = c.args.change in
    let both = c.self.invariant (ap (λ (o : OwnerView). o.journal.is_closed) c.self.view_is ∙ c.requires.open) in
    let old : OwnerView = record { key = i.key.bytes; journal = i.journal; state = i.state; names = i.names; ring = i.ring; counter = i.counter; file_bytes = i.limits.file_bytes; tally = i.tally } in
    let r = deed_of c.args.asked.now in
    let furnished : IsFurnished r old before c.args.room = subst (λ (o : OwnerView). IsFurnished r o before c.args.room) (sym c.self.view_is) c.requires.furnished in
    record {
      within = within_limit r i.tally (told_note before.note) before.ready.skeleton (length (before.text.items ++ deed_key r (replicate 32 0))) i.journal both.1 furnished.ends_within c.journal_is_within.ensures.bound;
    }

pub invariant_of-self-2 : goal.invariant_of-self-2
invariant_of-self-2 g c = λ still.
    let i = c.self.inside in
    let old : OwnerView = record { key = i.key.bytes; journal = i.journal; state = i.state; names = i.names; ring = i.ring; counter = i.counter; file_bytes = i.limits.file_bytes; tally = i.tally } in
    let r = deed_of c.args.asked.now in
    let drawn = c.args.drawn.now in
    let before = c.args.change in
    let after = c.take_key-reply.new.self in
    let at = stand_of i.state in
    let keyed = c.take_key-reply.ensures.keyed in
    let drafted : IsDrafted r old before = subst (λ (o : OwnerView). IsDrafted r o before) (sym c.self.view_is) c.requires.drafted in
    let furnished : IsFurnished r old before c.args.room = subst (λ (o : OwnerView). IsFurnished r o before c.args.room) (sym c.self.view_is) c.requires.furnished in
    let own = c.sound_owners_keep_a_store.ensures.store old in
    let both = c.self.invariant (ap (λ (o : OwnerView). o.journal.is_closed) c.self.view_is ∙ c.requires.open) in
    let sound = both.0 in
    let accepted : deed_refusal (is_strict old.state.keys) (own_store old) r old.file_bytes ≡ None = subst (λ (o : OwnerView). deed_refusal (is_strict o.state.keys) (own_store o) r o.file_bytes ≡ None) (sym c.self.view_is) c.requires.accepted in
    let fits = fits_for r drawn old before after at drafted keyed c.requires.count c.requires.sizes own c.is_seen.ensures in
    let has : HasBegun i.journal c.begin.new.journal i.counter c.in-Ok.counter (g.D.Disk.shown c.args.disk.now) (g.D.Disk.shown c.begin.new.disk) =
    subst (λ (k : Option Counting). HasBegun i.journal c.begin.new.journal k c.in-Ok.counter (g.D.Disk.shown c.args.disk.now) (g.D.Disk.shown c.begin.new.disk)) c.take.ensures.value c.in-Ok.ensures.begun in
    let titles : (s : Store) → IsTreeOf (tree_store i.state.tree i.names) s → AreDeedTitles s r i.names c.change_names.new.names = λ s tree.
    c.deeds_leave_the_titles.ensures.titles (tree_store i.state.tree i.names) s r i.names c.change_names.new.names after.titles tree
    (subst (λ (t : NameChange). IsDeedChange (tree_store i.state.tree i.names) r i.names t) (sym keyed.titles) drafted.titles_are) c.change_names.ensures in
    let new : OwnerView = record { key = i.key.bytes; journal = c.commit_within.new.journal; state = c.settle.new.self; names = c.change_names.new.names; ring = c.seal_step-payload.new.ring; counter = Some c.seal_step-payload.new.counter; file_bytes = i.limits.file_bytes; tally = c.with-tally.result } in
    let was = g.D.Disk.shown c.args.disk.now in
    let shows = g.D.Disk.shown c.commit_within.new.disk in
    let done : IsCarriedOut r drawn old new was shows =
    carried r drawn old before after at drafted keyed c.requires.count c.requires.sizes own c.is_seen.ensures new was (g.D.Disk.shown c.begin.new.disk) shows c.begin.new.journal c.in-Ok.counter c.seal_step-payload.new.counter
    c.skeleton.result.now (plain_payload c.seal_step-payload.result) has c.in-Ok.ensures.told refl refl c.settle.ensures c.skeleton.ensures c.seal_step-payload.ensures.payload c.seal_step-payload.ensures.keys refl
    c.in-Ok-commit_within.ensures.joined c.in-Ok-commit_within.ensures.behind c.in-Ok-commit_within.ensures.begun titles in
    let behind = c.in-Ok-commit_within.ensures.behind in
    let spelled = length-spell_payload (plain_payload c.seal_step-payload.result) c.seal_step-payload.ensures.spellable in
    let size : payload_size (plain_payload c.seal_step-payload.result) ≡ planned_size r before =
    c.seal_step-payload.ensures.skeleton_size ∙ size_for r drawn old before after at drafted keyed c.requires.count c.requires.sizes own c.is_seen.ensures c.skeleton.result.now c.skeleton.ensures in (
      c.carried_out_owners_stay_sound.ensures r drawn old new was shows sound c.requires.form accepted fits done
          (batches_for i.journal.has_epoch new.journal.batches c.begin.new.journal.batches i.journal.batches behind.batches has.batches) (behind.epoch ∙ has.epoch),
      subst (λ (t : Counted). IsWithin t new.journal.end) (sym c.with-tally.ensures)
          (within_on r i.tally (told_note before.note) before.ready.skeleton (length (before.text.items ++ deed_key r (replicate 32 0))) i.journal.end c.begin.new.journal.end (length (spell_payload (plain_payload c.seal_step-payload.result))) new.journal.end i.journal.has_epoch
          both.1 has.end (spelled ∙ size) behind.end),
    )

pub returns-clause-done : goal.returns-clause-done
returns-clause-done g c =
    let i = c.self.inside in
    let old : OwnerView = record { key = i.key.bytes; journal = i.journal; state = i.state; names = i.names; ring = i.ring; counter = i.counter; file_bytes = i.limits.file_bytes; tally = i.tally } in
    let r = deed_of c.args.asked.now in
    let drawn = c.args.drawn.now in
    let before = c.args.change in
    let after = c.take_key-reply.new.self in
    let at = stand_of i.state in
    let keyed = c.take_key-reply.ensures.keyed in
    let drafted : IsDrafted r old before = subst (λ (o : OwnerView). IsDrafted r o before) (sym c.self.view_is) c.requires.drafted in
    let furnished : IsFurnished r old before c.args.room = subst (λ (o : OwnerView). IsFurnished r o before c.args.room) (sym c.self.view_is) c.requires.furnished in
    let own = c.sound_owners_keep_a_store.ensures.store old in
    let has : HasBegun i.journal c.begin.new.journal i.counter c.in-Ok.counter (g.D.Disk.shown c.args.disk.now) (g.D.Disk.shown c.begin.new.disk) =
    subst (λ (k : Option Counting). HasBegun i.journal c.begin.new.journal k c.in-Ok.counter (g.D.Disk.shown c.args.disk.now) (g.D.Disk.shown c.begin.new.disk)) c.take.ensures.value c.in-Ok.ensures.begun in
    let titles : (s : Store) → IsTreeOf (tree_store i.state.tree i.names) s → AreDeedTitles s r i.names c.change_names.new.names = λ s tree.
    c.deeds_leave_the_titles.ensures.titles (tree_store i.state.tree i.names) s r i.names c.change_names.new.names after.titles tree
    (subst (λ (t : NameChange). IsDeedChange (tree_store i.state.tree i.names) r i.names t) (sym keyed.titles) drafted.titles_are) c.change_names.ensures in
    let new : OwnerView = record { key = i.key.bytes; journal = c.commit_within.new.journal; state = c.settle.new.self; names = c.change_names.new.names; ring = c.seal_step-payload.new.ring; counter = Some c.seal_step-payload.new.counter; file_bytes = i.limits.file_bytes; tally = c.with-tally.result } in
    let was = g.D.Disk.shown c.args.disk.now in
    let shows = g.D.Disk.shown c.commit_within.new.disk in
    let done : IsCarriedOut r drawn old new was shows =
    carried r drawn old before after at drafted keyed c.requires.count c.requires.sizes own c.is_seen.ensures new was (g.D.Disk.shown c.begin.new.disk) shows c.begin.new.journal c.in-Ok.counter c.seal_step-payload.new.counter
    c.skeleton.result.now (plain_payload c.seal_step-payload.result) has c.in-Ok.ensures.told refl refl c.settle.ensures c.skeleton.ensures c.seal_step-payload.ensures.payload c.seal_step-payload.ensures.keys refl
    c.in-Ok-commit_within.ensures.joined c.in-Ok-commit_within.ensures.behind c.in-Ok-commit_within.ensures.begun titles in
    subst (λ (o : OwnerView). IsCarriedOut r drawn o new was shows) c.self.view_is done

pub returns-in_default-clause-interrupted : goal.returns-in_default-clause-interrupted
returns-in_default-clause-interrupted g c =
    let i = c.self.inside in
    let old : OwnerView = record { key = i.key.bytes; journal = i.journal; state = i.state; names = i.names; ring = i.ring; counter = i.counter; file_bytes = i.limits.file_bytes; tally = i.tally } in
    let fault = c.in_default.ensures.interrupted in
    subst (λ (o : OwnerView). IsInterrupted (deed_of c.args.asked.now) c.args.drawn.now o (g.D.Disk.shown c.args.disk.now) (g.D.Disk.shown c.begin.new.disk)) c.self.view_is
    (inl (fault.0, (old.journal, refl, fault.1)))

pub returns-in_default-commit_within-clause-interrupted : goal.returns-in_default-commit_within-clause-interrupted
unfolding sealed_for
returns-in_default-commit_within-clause-interrupted g c =
    let i = c.self.inside in
    let old : OwnerView = record { key = i.key.bytes; journal = i.journal; state = i.state; names = i.names; ring = i.ring; counter = i.counter; file_bytes = i.limits.file_bytes; tally = i.tally } in
    let r = deed_of c.args.asked.now in
    let drawn = c.args.drawn.now in
    let before = c.args.change in
    let after = c.take_key-reply.new.self in
    let at = stand_of i.state in
    let keyed = c.take_key-reply.ensures.keyed in
    let drafted : IsDrafted r old before = subst (λ (o : OwnerView). IsDrafted r o before) (sym c.self.view_is) c.requires.drafted in
    let own = c.sound_owners_keep_a_store.ensures.store old in
    let was = g.D.Disk.shown c.args.disk.now in
    let showed = g.D.Disk.shown c.begin.new.disk in
    let has : HasBegun i.journal c.begin.new.journal i.counter c.in-Ok.counter was showed =
    subst (λ (k : Option Counting). HasBegun i.journal c.begin.new.journal k c.in-Ok.counter was showed) c.take.ensures.value c.in-Ok.ensures.begun in
    let sealed = sealed_for r drawn old before after at drafted keyed c.requires.count c.requires.sizes own c.is_seen.ensures was showed c.begin.new.journal c.in-Ok.counter
    c.skeleton.result.now (plain_payload c.seal_step-payload.result) has c.in-Ok.ensures.told c.skeleton.ensures c.seal_step-payload.ensures.payload in
    subst (λ (o : OwnerView). IsInterrupted r drawn o was (g.D.Disk.shown c.commit_within.new.disk)) c.self.view_is
    (inr (sealed, c.in_default-commit_within.ensures.interrupted))

-- ---- what a stop leaves

pub returns-in_default-clause-stops : goal.returns-in_default-clause-stops
returns-in_default-clause-stops g c =
    let i = c.self.inside in
    let old : OwnerView = record { key = i.key.bytes; journal = i.journal; state = i.state; names = i.names; ring = i.ring; counter = i.counter; file_bytes = i.limits.file_bytes; tally = i.tally } in
    let D = g.D.Disk in
    let a = c.args.disk.now in
    let b = c.begin.new.disk in
    let r = deed_of c.args.asked.now in
    subst (λ (o : OwnerView). StopsWithin r c.args.drawn.now o (D.shown a) (D.shown b) (D.may_leave a) (D.may_leave b) (D.since b (D.moment a))) c.self.view_is
    (λ m is low bound fine.
    early_stops m r c.args.drawn.now old (D.shown a) (D.may_leave a) is low bound fine (subst (λ (o : OwnerView). Suits o.state.keys r) (sym c.self.view_is) c.requires.suits) (D.shown b) (D.may_leave b) (D.since b (D.moment a)) c.in_default.ensures.adds)

pub returns-in_default-commit_within-clause-stops : goal.returns-in_default-commit_within-clause-stops
unfolding sealed_for
returns-in_default-commit_within-clause-stops g c =
    let i = c.self.inside in
    let old : OwnerView = record { key = i.key.bytes; journal = i.journal; state = i.state; names = i.names; ring = i.ring; counter = i.counter; file_bytes = i.limits.file_bytes; tally = i.tally } in
    let D = g.D.Disk in
    let a = c.args.disk.now in
    let b = c.begin.new.disk in
    let e = c.commit_within.new.disk in
    let r = deed_of c.args.asked.now in
    let drawn = c.args.drawn.now in
    let before = c.args.change in
    let after = c.take_key-reply.new.self in
    let at = stand_of i.state in
    let keyed = c.take_key-reply.ensures.keyed in
    let drafted : IsDrafted r old before = subst (λ (o : OwnerView). IsDrafted r o before) (sym c.self.view_is) c.requires.drafted in
    let own = c.sound_owners_keep_a_store.ensures.store old in
    let was = D.shown a in
    let showed = D.shown b in
    let has : HasBegun i.journal c.begin.new.journal i.counter c.in-Ok.counter was showed =
    subst (λ (k : Option Counting). HasBegun i.journal c.begin.new.journal k c.in-Ok.counter was showed) c.take.ensures.value c.in-Ok.ensures.begun in
    let sealed = sealed_for r drawn old before after at drafted keyed c.requires.count c.requires.sizes own c.is_seen.ensures was showed c.begin.new.journal c.in-Ok.counter
    c.skeleton.result.now (plain_payload c.seal_step-payload.result) has c.in-Ok.ensures.told c.skeleton.ensures c.seal_step-payload.ensures.payload in
    subst (λ (o : OwnerView). StopsWithin r drawn o was (D.shown e) (D.may_leave a) (D.may_leave e) (D.since e (D.moment a))) c.self.view_is
    (λ m is low bound fine.
    late_stops m r drawn old was (D.may_leave a) is low bound fine (subst (λ (o : OwnerView). Suits o.state.keys r) (sym c.self.view_is) c.requires.suits) sealed (D.may_leave b) c.in-Ok.ensures.calm (D.shown e) (D.may_leave e) (D.moment b) (D.moment a) (D.since b) (D.since e)
    c.in-Ok.ensures.later c.in_default-commit_within.ensures.time c.in-Ok.ensures.added c.in-Ok.ensures.adds c.in_default-commit_within.ensures.adds)

pub returns-in_default-commit_within-clause-time : goal.returns-in_default-commit_within-clause-time
returns-in_default-commit_within-clause-time g c =
    let D = g.D.Disk in
    let a = c.args.disk.now in
    let b = c.begin.new.disk in
    time_then (D.moment a) (D.moment b) (D.since a) (D.since b) (D.since c.commit_within.new.disk) c.in-Ok.ensures.later c.in-Ok.ensures.time c.in_default-commit_within.ensures.time

pub returns-clause-stops : goal.returns-clause-stops
unfolding sealed_for
returns-clause-stops g c =
    let i = c.self.inside in
    let old : OwnerView = record { key = i.key.bytes; journal = i.journal; state = i.state; names = i.names; ring = i.ring; counter = i.counter; file_bytes = i.limits.file_bytes; tally = i.tally } in
    let D = g.D.Disk in
    let a = c.args.disk.now in
    let b = c.begin.new.disk in
    let e = c.commit_within.new.disk in
    let r = deed_of c.args.asked.now in
    let drawn = c.args.drawn.now in
    let before = c.args.change in
    let after = c.take_key-reply.new.self in
    let at = stand_of i.state in
    let keyed = c.take_key-reply.ensures.keyed in
    let drafted : IsDrafted r old before = subst (λ (o : OwnerView). IsDrafted r o before) (sym c.self.view_is) c.requires.drafted in
    let own = c.sound_owners_keep_a_store.ensures.store old in
    let was = D.shown a in
    let showed = D.shown b in
    let has : HasBegun i.journal c.begin.new.journal i.counter c.in-Ok.counter was showed =
    subst (λ (k : Option Counting). HasBegun i.journal c.begin.new.journal k c.in-Ok.counter was showed) c.take.ensures.value c.in-Ok.ensures.begun in
    let sealed = sealed_for r drawn old before after at drafted keyed c.requires.count c.requires.sizes own c.is_seen.ensures was showed c.begin.new.journal c.in-Ok.counter
    c.skeleton.result.now (plain_payload c.seal_step-payload.result) has c.in-Ok.ensures.told c.skeleton.ensures c.seal_step-payload.ensures.payload in
    subst (λ (o : OwnerView). StopsWithin r drawn o was (D.shown e) (D.may_leave a) (D.may_leave e) (D.since e (D.moment a))) c.self.view_is
    (λ m is low bound fine.
    late_stops m r drawn old was (D.may_leave a) is low bound fine (subst (λ (o : OwnerView). Suits o.state.keys r) (sym c.self.view_is) c.requires.suits) sealed (D.may_leave b) c.in-Ok.ensures.calm (D.shown e) (D.may_leave e) (D.moment b) (D.moment a) (D.since b) (D.since e)
    c.in-Ok.ensures.later c.in-Ok-commit_within.ensures.time c.in-Ok.ensures.added c.in-Ok.ensures.adds c.in-Ok-commit_within.ensures.adds)

pub returns-clause-handed : goal.returns-clause-handed
unfolding sealed_for
returns-clause-handed g c =
    let i = c.self.inside in
    let old : OwnerView = record { key = i.key.bytes; journal = i.journal; state = i.state; names = i.names; ring = i.ring; counter = i.counter; file_bytes = i.limits.file_bytes; tally = i.tally } in
    let D = g.D.Disk in
    let a = c.args.disk.now in
    let b = c.begin.new.disk in
    let e = c.commit_within.new.disk in
    let r = deed_of c.args.asked.now in
    let drawn = c.args.drawn.now in
    let before = c.args.change in
    let after = c.take_key-reply.new.self in
    let at = stand_of i.state in
    let keyed = c.take_key-reply.ensures.keyed in
    let drafted : IsDrafted r old before = subst (λ (o : OwnerView). IsDrafted r o before) (sym c.self.view_is) c.requires.drafted in
    let own = c.sound_owners_keep_a_store.ensures.store old in
    let was = D.shown a in
    let showed = D.shown b in
    let has : HasBegun i.journal c.begin.new.journal i.counter c.in-Ok.counter was showed =
    subst (λ (k : Option Counting). HasBegun i.journal c.begin.new.journal k c.in-Ok.counter was showed) c.take.ensures.value c.in-Ok.ensures.begun in
    let sealed = sealed_for r drawn old before after at drafted keyed c.requires.count c.requires.sizes own c.is_seen.ensures was showed c.begin.new.journal c.in-Ok.counter
    c.skeleton.result.now (plain_payload c.seal_step-payload.result) has c.in-Ok.ensures.told c.skeleton.ensures c.seal_step-payload.ensures.payload in
    subst (λ (o : OwnerView). HandsAll r drawn o was (D.shown e)) c.self.view_is
    (λ m is low bound fine.
    all_handed m r drawn old was (D.may_leave a) is low bound fine (subst (λ (o : OwnerView). Suits o.state.keys r) (sym c.self.view_is) c.requires.suits) sealed (D.may_leave b) c.in-Ok.ensures.calm (D.shown e) c.in-Ok.ensures.added c.in-Ok-commit_within.ensures.added)

pub returns-clause-time : goal.returns-clause-time
returns-clause-time g c =
    let D = g.D.Disk in
    let a = c.args.disk.now in
    let b = c.begin.new.disk in
    time_then (D.moment a) (D.moment b) (D.since a) (D.since b) (D.since c.commit_within.new.disk) c.in-Ok.ensures.later c.in-Ok.ensures.time c.in-Ok-commit_within.ensures.time

-- ---- what is published

pub returns-in_default-clause-published : goal.returns-in_default-clause-published
returns-in_default-clause-published g c =
    let i = c.self.inside in
    let old : OwnerView = record { key = i.key.bytes; journal = i.journal; state = i.state; names = i.names; ring = i.ring; counter = i.counter; file_bytes = i.limits.file_bytes; tally = i.tally } in
    let D = g.D.Disk in
    let a = c.args.disk.now in
    let b = c.begin.new.disk in
    let r = deed_of c.args.asked.now in
    subst (λ (o : OwnerView). PublishesWithin r o (D.shown a) (D.may_leave a) (FromThenOn D.moment D.since a b)) c.self.view_is
    (λ m is low bound fine rests.
    early_published m r c.args.drawn.now old (D.shown a) (D.may_leave a) is low bound fine (subst (λ (o : OwnerView). Suits o.state.keys r) (sym c.self.view_is) c.requires.suits) rests g.row.D.Denot D.moment D.since a b c.in_default.ensures.published)

pub returns-in_default-commit_within-clause-published : goal.returns-in_default-commit_within-clause-published
unfolding sealed_for
returns-in_default-commit_within-clause-published g c =
    let i = c.self.inside in
    let old : OwnerView = record { key = i.key.bytes; journal = i.journal; state = i.state; names = i.names; ring = i.ring; counter = i.counter; file_bytes = i.limits.file_bytes; tally = i.tally } in
    let D = g.D.Disk in
    let a = c.args.disk.now in
    let b = c.begin.new.disk in
    let e = c.commit_within.new.disk in
    let r = deed_of c.args.asked.now in
    let drawn = c.args.drawn.now in
    let before = c.args.change in
    let after = c.take_key-reply.new.self in
    let at = stand_of i.state in
    let keyed = c.take_key-reply.ensures.keyed in
    let drafted : IsDrafted r old before = subst (λ (o : OwnerView). IsDrafted r o before) (sym c.self.view_is) c.requires.drafted in
    let own = c.sound_owners_keep_a_store.ensures.store old in
    let was = D.shown a in
    let showed = D.shown b in
    let has : HasBegun i.journal c.begin.new.journal i.counter c.in-Ok.counter was showed =
    subst (λ (k : Option Counting). HasBegun i.journal c.begin.new.journal k c.in-Ok.counter was showed) c.take.ensures.value c.in-Ok.ensures.begun in
    let sealed = sealed_for r drawn old before after at drafted keyed c.requires.count c.requires.sizes own c.is_seen.ensures was showed c.begin.new.journal c.in-Ok.counter
    c.skeleton.result.now (plain_payload c.seal_step-payload.result) has c.in-Ok.ensures.told c.skeleton.ensures c.seal_step-payload.ensures.payload in
    subst (λ (o : OwnerView). PublishesWithin r o was (D.may_leave a) (FromThenOn D.moment D.since a e)) c.self.view_is
    (λ m is low bound fine rests.
    late_published m r drawn old was (D.may_leave a) is low bound fine (subst (λ (o : OwnerView). Suits o.state.keys r) (sym c.self.view_is) c.requires.suits) rests g.row.D.Denot D.moment D.since sealed (D.may_leave b) c.in-Ok.ensures.calm a b e
    (λ d. stays (D.moment d) (D.since d) (D.shown d) (D.may_leave d) (λ s left at. g.met.D.Disk.only_now d s left at)
    (λ t s left early is leaves. g.met.D.Disk.counts_now d t s left early is leaves))
    c.in-Ok.ensures.published c.in_default-commit_within.ensures.published)

pub returns-clause-published : goal.returns-clause-published
unfolding sealed_for
returns-clause-published g c =
    let i = c.self.inside in
    let old : OwnerView = record { key = i.key.bytes; journal = i.journal; state = i.state; names = i.names; ring = i.ring; counter = i.counter; file_bytes = i.limits.file_bytes; tally = i.tally } in
    let D = g.D.Disk in
    let a = c.args.disk.now in
    let b = c.begin.new.disk in
    let e = c.commit_within.new.disk in
    let r = deed_of c.args.asked.now in
    let drawn = c.args.drawn.now in
    let before = c.args.change in
    let after = c.take_key-reply.new.self in
    let at = stand_of i.state in
    let keyed = c.take_key-reply.ensures.keyed in
    let drafted : IsDrafted r old before = subst (λ (o : OwnerView). IsDrafted r o before) (sym c.self.view_is) c.requires.drafted in
    let own = c.sound_owners_keep_a_store.ensures.store old in
    let was = D.shown a in
    let showed = D.shown b in
    let has : HasBegun i.journal c.begin.new.journal i.counter c.in-Ok.counter was showed =
    subst (λ (k : Option Counting). HasBegun i.journal c.begin.new.journal k c.in-Ok.counter was showed) c.take.ensures.value c.in-Ok.ensures.begun in
    let sealed = sealed_for r drawn old before after at drafted keyed c.requires.count c.requires.sizes own c.is_seen.ensures was showed c.begin.new.journal c.in-Ok.counter
    c.skeleton.result.now (plain_payload c.seal_step-payload.result) has c.in-Ok.ensures.told c.skeleton.ensures c.seal_step-payload.ensures.payload in
    subst (λ (o : OwnerView). PublishesWithin r o was (D.may_leave a) (FromThenOn D.moment D.since a e)) c.self.view_is
    (λ m is low bound fine rests.
    late_published m r drawn old was (D.may_leave a) is low bound fine (subst (λ (o : OwnerView). Suits o.state.keys r) (sym c.self.view_is) c.requires.suits) rests g.row.D.Denot D.moment D.since sealed (D.may_leave b) c.in-Ok.ensures.calm a b e
    (λ d. stays (D.moment d) (D.since d) (D.shown d) (D.may_leave d) (λ s left at. g.met.D.Disk.only_now d s left at)
    (λ t s left early is leaves. g.met.D.Disk.counts_now d t s left early is leaves))
    c.in-Ok.ensures.published c.in-Ok-commit_within.ensures.published)
