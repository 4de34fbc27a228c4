use Rattle.std.proofs.Common.{◌∙◌, ap, refl, subst, sym}
use Rattle.commit_journal.specs.Journals.{JournalState}
use Rattle.store_owner.specs.Counted.{IsWithin}
use Rattle.store_owner.specs.Owned.{OwnerView}
use Rattle.store_owner.proofs.OtherRoom.{sound_still}
use Rattle.store_owner.proofs.owner.Owner.furnish.Goals as goal

pub invariant_of-self-in_err-reserve : goal.invariant_of-self-in_err-reserve
invariant_of-self-in_err-reserve c = λ still.
    let i = c.self.inside in
    let both = c.self.invariant (sym (ap (λ (j : JournalState). j.is_closed) c.prepare.ensures.state) ∙ still) in
    let old : OwnerView = record { key = i.key.bytes; journal = i.journal; state = i.state; names = i.names; ring = i.ring; counter = i.counter; file_bytes = i.limits.file_bytes; tally = i.tally } in (
      sound_still old _ (record {
        key = refl;
        journal = c.prepare.ensures.state;
        state = c.reserve.ensures.content;
        folder_names = refl;
        file_names = refl;
        ring_keys = refl;
        counter = refl;
        file_bytes = refl;
        tally = refl;
      }) both.0,
      subst (λ (j : JournalState). IsWithin i.tally j.end) (sym c.prepare.ensures.state) both.1,
    )

pub invariant_of-self-in_err-reserve-2 : goal.invariant_of-self-in_err-reserve-2
invariant_of-self-in_err-reserve-2 c = λ still.
    let i = c.self.inside in
    let both = c.self.invariant (sym (ap (λ (j : JournalState). j.is_closed) c.prepare.ensures.state) ∙ still) in
    let old : OwnerView = record { key = i.key.bytes; journal = i.journal; state = i.state; names = i.names; ring = i.ring; counter = i.counter; file_bytes = i.limits.file_bytes; tally = i.tally } in (
      sound_still old _ (record {
        key = refl;
        journal = c.prepare.ensures.state;
        state = c.reserve.ensures.content;
        folder_names = c.reserve-2.ensures.folders;
        file_names = c.reserve-2.ensures.files;
        ring_keys = refl;
        counter = refl;
        file_bytes = refl;
        tally = refl;
      }) both.0,
      subst (λ (j : JournalState). IsWithin i.tally j.end) (sym c.prepare.ensures.state) both.1,
    )

pub invariant_of-self-2 : goal.invariant_of-self-2
invariant_of-self-2 c = λ still.
    let i = c.self.inside in
    let both = c.self.invariant (sym (ap (λ (j : JournalState). j.is_closed) c.prepare.ensures.state) ∙ still) in
    let old : OwnerView = record { key = i.key.bytes; journal = i.journal; state = i.state; names = i.names; ring = i.ring; counter = i.counter; file_bytes = i.limits.file_bytes; tally = i.tally } in (
      sound_still old _ (record {
        key = refl;
        journal = c.prepare.ensures.state;
        state = c.reserve.ensures.content;
        folder_names = c.reserve-2.ensures.folders;
        file_names = c.reserve-2.ensures.files;
        ring_keys = c.reserve-3.ensures.keys;
        counter = refl;
        file_bytes = refl;
        tally = refl;
      }) both.0,
      subst (λ (j : JournalState). IsWithin i.tally j.end) (sym c.prepare.ensures.state) both.1,
    )
