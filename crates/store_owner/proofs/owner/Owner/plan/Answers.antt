use Rattle.std.proofs.Common.{◌≡◌, ◌≤◌, ◌<◌, ◌∙◌, Err, ap, arith, refl, subst, sym}
use Rattle.std.proofs.lemmas.Bool.{false≢true}
use Rattle.commit_journal.specs.Journals.{JournalState, end_with}
use Rattle.cry_base.specs.Limits.{most_file_bytes, most_store_bytes}
use Rattle.folder_nodes.specs.Titles.{tree_store}
use Rattle.record_format.specs.Told.{told_note}
use Rattle.public_fold.specs.Journal.{store_of}
use Rattle.public_fold.specs.declared.heads.Skeleton.{Skeleton}
use Rattle.journal_bytes.specs.Folds.{public_stand}
use Rattle.journal_bytes.specs.Sealing.{skeleton_size}
use Rattle.store_owner.specs.Deeds.{deed_end, deed_of, deed_payload}
use Rattle.store_owner.specs.Owned.{OwnerView}
use Rattle.store_owner.specs.Planning.{planned_size}
use Rattle.store_owner.proofs.Measured.{accepted_journal}
use Rattle.store_owner.proofs.OtherRoom.{drafted_still}
use Rattle.store_owner.specs.Sound.{IsSound, own_store}
use Rattle.store_owner.proofs.OwnAnswers.{past_is_full, unfit_is_full, within_is_accepted}
use Rattle.store_owner.proofs.Planned.{far_past, is_accepted, is_full, not_within, past_end, size_due, skeleton_due, within_end}
use Rattle.store_owner.proofs.owner.Owner.plan.Goals as goal

pub returns-in-Err-Unfit-clause-answers : goal.returns-in-Err-Unfit-clause-answers
returns-in-Err-Unfit-clause-answers c =
    let o : OwnerView = c.args.self.now in
    let r = deed_of c.args.asked.now in
    let limit : o.journal.limit ≤ most_store_bytes = subst (λ (x : OwnerView). x.journal.limit ≤ most_store_bytes) c.self.view_is c.journal_is_within.ensures.bound in
    let sound : IsSound o = subst IsSound c.self.view_is (c.self.invariant (ap (λ (x : OwnerView). x.journal.is_closed) c.self.view_is ∙ c.requires.open)).0 in
    let own = c.sound_owners_keep_a_store.ensures.store o in
    let unrefused = c.requires.accepted (own_store o) own in
    let bounded : o.file_bytes ≤ most_file_bytes = subst (λ (x : OwnerView). x.file_bytes ≤ most_file_bytes) c.self.view_is (c.self.invariant (ap (λ (x : OwnerView). x.journal.is_closed) c.self.view_is ∙ c.requires.open)).0.bounded in (
      refl,
      λ m is.
          let store = c.owners_keep_the_store.ensures m o is in
          let accepted = accepted_journal m o r o.file_bytes is (c.requires.accepted (store_of m) store) in
          let unfit = c.draft.ensures.unfit (c.in-Err-Unfit.is ∙ ap Err c.in-Err-Unfit.field-0-is) (public_stand m) (store_of m) is.seen store in
          let past = c.commands_are_measured.ensures.fits m r o is bounded c.requires.suits accepted unfit in
          is_full o m r accepted (omega (arith, past, limit)),
      unfit_is_full o r sound unrefused own (c.draft.ensures.unfit (c.in-Err-Unfit.is ∙ ap Err c.in-Err-Unfit.field-0-is)),
    )

pub returns-in_default-clause-answers : goal.returns-in_default-clause-answers
returns-in_default-clause-answers c =
    let o : OwnerView = c.args.self.now in
    let r = deed_of c.args.asked.now in
    let limit : o.journal.limit ≤ most_store_bytes = subst (λ (x : OwnerView). x.journal.limit ≤ most_store_bytes) c.self.view_is c.journal_is_within.ensures.bound in
    let sound : IsSound o = subst IsSound c.self.view_is (c.self.invariant (ap (λ (x : OwnerView). x.journal.is_closed) c.self.view_is ∙ c.requires.open)).0 in
    let own = c.sound_owners_keep_a_store.ensures.store o in
    let unrefused = c.requires.accepted (own_store o) own in
    let change = c.in-Ok.change in
    let size : skeleton_size (told_note change.note) c.skeleton.result.now c.sealed_len-text.result ≡ planned_size r change =
    ap (λ (s : Skeleton). skeleton_size (told_note change.note) s c.sealed_len-text.result) c.skeleton.ensures
    ∙ ap (λ n. skeleton_size (told_note change.note) change.ready.skeleton n) (c.sealed_len-text.ensures.length (tree_store o.state.tree o.names) c.requires.found) in
    let far = far_past o _ (planned_size r change) limit size c.in_default.ensures in (
      refl,
      λ m is.
          let store = c.owners_keep_the_store.ensures m o is in
          let accepted = accepted_journal m o r o.file_bytes is (c.requires.accepted (store_of m) store) in
          let due = size_due m r o change c.in-Ok.ensures.drafted is store (c.commands_are_measured.ensures.payload m r o change.ready.skeleton is accepted (skeleton_due m r o change c.in-Ok.ensures.drafted is store)) in
          let end = c.commands_are_measured.ensures.end m r o is in
          is_full o m r accepted (past_end o (planned_size r change) (deed_payload m r) (deed_end m o.journal.has_epoch r) due end far),
      past_is_full o r sound unrefused change c.in-Ok.ensures.drafted own far,
    )

pub returns-then-not-fits-clause-answers : goal.returns-then-not-fits-clause-answers
returns-then-not-fits-clause-answers c =
    let o : OwnerView = c.args.self.now in
    let r = deed_of c.args.asked.now in
    let limit : o.journal.limit ≤ most_store_bytes = subst (λ (x : OwnerView). x.journal.limit ≤ most_store_bytes) c.self.view_is c.journal_is_within.ensures.bound in
    let sound : IsSound o = subst IsSound c.self.view_is (c.self.invariant (ap (λ (x : OwnerView). x.journal.is_closed) c.self.view_is ∙ c.requires.open)).0 in
    let own = c.sound_owners_keep_a_store.ensures.store o in
    let unrefused = c.requires.accepted (own_store o) own in
    let change = c.in-Ok.change in
    let size : skeleton_size (told_note change.note) c.skeleton.result.now c.sealed_len-text.result ≡ planned_size r change =
    ap (λ (s : Skeleton). skeleton_size (told_note change.note) s c.sealed_len-text.result) c.skeleton.ensures
    ∙ ap (λ n. skeleton_size (told_note change.note) change.ready.skeleton n) (c.sealed_len-text.ensures.length (tree_store o.state.tree o.names) c.requires.found) in
    let some = c.in-Some.ensures in
    let sized : c.in-Some.size ≡ planned_size r change = some.1 ∙ size in
    let past : o.journal.limit < end_with o.journal (planned_size r change) =
    subst (λ n. o.journal.limit < end_with o.journal n) sized
    (subst (λ (x : OwnerView). x.journal.limit < end_with x.journal c.in-Some.size) c.self.view_is (not_within (end_with c.self.inside.journal c.in-Some.size) c.self.inside.journal.limit (λ l. false≢true (c.if-not-fits.ensures.1 l)))) in (
      refl,
      λ m is.
          let store = c.owners_keep_the_store.ensures m o is in
          let accepted = accepted_journal m o r o.file_bytes is (c.requires.accepted (store_of m) store) in
          let due = size_due m r o change c.in-Ok.ensures.drafted is store (c.commands_are_measured.ensures.payload m r o change.ready.skeleton is accepted (skeleton_due m r o change c.in-Ok.ensures.drafted is store)) in
          let end = c.commands_are_measured.ensures.end m r o is in
          is_full o m r accepted (past_end o (planned_size r change) (deed_payload m r) (deed_end m o.journal.has_epoch r) due end past),
      past_is_full o r sound unrefused change c.in-Ok.ensures.drafted own past,
    )

pub returns-clause-answers : goal.returns-clause-answers
returns-clause-answers c =
    let o : OwnerView = c.args.self.now in
    let r = deed_of c.args.asked.now in
    let limit : o.journal.limit ≤ most_store_bytes = subst (λ (x : OwnerView). x.journal.limit ≤ most_store_bytes) c.self.view_is c.journal_is_within.ensures.bound in
    let sound : IsSound o = subst IsSound c.self.view_is (c.self.invariant (ap (λ (x : OwnerView). x.journal.is_closed) c.self.view_is ∙ c.requires.open)).0 in
    let own = c.sound_owners_keep_a_store.ensures.store o in
    let unrefused = c.requires.accepted (own_store o) own in
    let bounded : o.file_bytes ≤ most_file_bytes = subst (λ (x : OwnerView). x.file_bytes ≤ most_file_bytes) c.self.view_is (c.self.invariant (ap (λ (x : OwnerView). x.journal.is_closed) c.self.view_is ∙ c.requires.open)).0.bounded in
    let change = c.in-Ok.change in
    let size : skeleton_size (told_note change.note) c.skeleton.result.now c.sealed_len-text.result ≡ planned_size r change =
    ap (λ (s : Skeleton). skeleton_size (told_note change.note) s c.sealed_len-text.result) c.skeleton.ensures
    ∙ ap (λ n. skeleton_size (told_note change.note) change.ready.skeleton n) (c.sealed_len-text.ensures.length (tree_store o.state.tree o.names) c.requires.found) in
    let some = c.in-Some.ensures in
    let sized : c.in-Some.size ≡ planned_size r change = some.1 ∙ size in
    let within : end_with o.journal (planned_size r change) ≤ o.journal.limit =
    subst (λ n. end_with o.journal n ≤ o.journal.limit) sized
    (subst (λ (x : OwnerView). end_with x.journal c.in-Some.size ≤ x.journal.limit) c.self.view_is (c.if-not-fits.ensures.0 refl)) in (
      drafted_still r o c.furnish.new.self change c.furnish.ensures.room c.in-Ok.ensures.drafted,
      record {
        records_room = c.in_ok-room.ensures.records;
        state_room = c.in_ok-room.ensures.state;
        ring_room = c.in_ok-room.ensures.ring;
        names_room = c.in_ok-room.ensures.names;
        journal_room = subst (λ n. n ≤ c.furnish.new.self.journal.room) sized c.in_ok-room.ensures.payload;
        ends_within = subst (λ (j : JournalState). end_with j (planned_size r change) ≤ j.limit) (sym c.furnish.ensures.room.journal) within;
      },
      λ m is.
          let store = c.owners_keep_the_store.ensures m o is in
          let accepted = accepted_journal m o r o.file_bytes is (c.requires.accepted (store_of m) store) in
          let due = size_due m r o change c.in-Ok.ensures.drafted is store (c.commands_are_measured.ensures.payload m r o change.ready.skeleton is accepted (skeleton_due m r o change c.in-Ok.ensures.drafted is store)) in
          let end = c.commands_are_measured.ensures.end m r o is in
          is_accepted o m r accepted (within_end o (planned_size r change) (deed_payload m r) (deed_end m o.journal.has_epoch r) due end within),
      within_is_accepted o r sound unrefused change c.in-Ok.ensures.drafted own within,
      λ m is.
          let store = c.owners_keep_the_store.ensures m o is in
          let accepted = accepted_journal m o r o.file_bytes is (c.requires.accepted (store_of m) store) in
          let due = size_due m r o change c.in-Ok.ensures.drafted is store (c.commands_are_measured.ensures.payload m r o change.ready.skeleton is accepted (skeleton_due m r o change c.in-Ok.ensures.drafted is store)) in
          let end = c.commands_are_measured.ensures.end m r o is in
          let skeleton = skeleton_due m r o change c.in-Ok.ensures.drafted is store in
          let ends : deed_end m o.journal.has_epoch r ≤ most_store_bytes = let w = within_end o (planned_size r change) (deed_payload m r) (deed_end m o.journal.has_epoch r) due end within in omega (arith, w, limit) in
          (c.commands_are_measured.ensures.draws m r o change.ready.skeleton is accepted skeleton, c.commands_are_measured.ensures.few m r o is bounded accepted ends),
    )
