-- What runs and stops leave of what was published.
use Rattle.std.proofs.Common.{◌≡◌, ◌≤◌, ⊎_elim, ℕ, List, Option, Some, sym, subst, ◌∙◌}
use Rattle.batch_log.specs.Moments.{FromThenOn}
use Rattle.batch_log.proofs.InOrder.{on_ends, on_in_one, on_maps, on_throughout}
use Rattle.commit_journal.specs.Holding.{IsBetween, IsPrefix}
use Rattle.commit_journal.proofs.KeptLemmas.{prefix_same, prefix_trans}
use Rattle.cry_io.specs.Stops.{IsDurable}
use Rattle.cry_io.specs.declared.disk.Disk as disk
use Rattle.journal_bytes.specs.Bytes.{batches_of}
use Rattle.journal_bytes.specs.Journals.{HoldsBetween, ShowsJournal, StandsForJournal}
use Rattle.journal_bytes.proofs.Grown.{batches_grow, journal_recovered}
use Rattle.public_fold.specs.Journal.{Journal}
use Rattle.store_owner.specs.Published.{HasPublished, StaysPublished, published_batches}
use Rattle.store_owner.proofs.PublishedCommands.{published_front}
use Rattle.stop_laws.specs.Runs.{CallOver, IsLeft, Runs}
use Rattle.stop_laws.specs.Runs.CallOver.{ByOther, ByOwner, ByServe, ByUpgrade}
use Rattle.stop_laws.specs.Runs.Runs.{Begun, Ran, StopsBehind, StopsIn}
use Rattle.stop_laws.proofs.Left.{all_left, call_stands, left_between}

-- where nothing is pending, what is left is what is shown
pub calm_stays : (key : List ℕ) (shown : Option (List ℕ)) (may_leave : List ℕ → Type 0) → IsDurable may_leave shown → StaysPublished key shown may_leave
calm_stays key shown may_leave durable s is c left =
    let same : s ≡ c = let both = sym is ∙ durable c left in cc in
    subst (HasPublished key s) same (published_front key s)

module _ {D : Type 0} (disks : disk.Ghosts D)
    (counted : (d : D) (t : ℕ) (s c : List ℕ) → t ≤ disks.moment d → disks.shown d ≡ Some s → disks.may_leave d c → disks.since d t s c) (key : List ℕ) where
  abbrev Came : D → D → Type 0
  Came start now = Runs disks key start now

  abbrev Call : D → D → Type 0
  Call before after = CallOver disks key before after

  call_later : (before after : D) → Call before after → disks.moment before ≤ disks.moment after
  call_later before after (ByOwner run) = run.later
  call_later before after (ByServe call) = call.later
  call_later before after (ByUpgrade call) = call.later
  call_later before after (ByOther call) = call.later

  abbrev On : D → D → (List ℕ → List ℕ → Type 0) → Type 0
  On before after = FromThenOn disks.moment disks.since before after

  -- one call
  call_keeps : (before after : D) (l h : Journal) → HoldsBetween key l h (disks.shown before) (disks.may_leave before) → StaysPublished key (disks.shown before) (disks.may_leave before)
      → Call before after → On before after (HasPublished key)
  call_keeps before after l h held stays (ByOwner run) =
      let at = held.shows.2 in
      let shows : ShowsJournal key at.held (disks.shown before) = (held.shows.0, held.shows.1, at.stands_for) in
      run.published key at.held run.hands_in shows stays
  call_keeps before after l h held stays (ByServe call) =
      let at = held.shows.2 in
      let shows : ShowsJournal key at.held (disks.shown before) = (held.shows.0, held.shows.1, at.stands_for) in
      call.published key at.held call.hands_in shows stays
  call_keeps before after l h held stays (ByUpgrade call) =
      let at = held.shows.2 in
      let shows : ShowsJournal key at.held (disks.shown before) = (held.shows.0, held.shows.1, at.stands_for) in
      call.published key at.held call.hands_in shows stays
  call_keeps before after l h held stays (ByOther call) =
      on_in_one D disks.moment disks.since (HasPublished key) before after call.later call.time
      (λ s c t e at next.
      let is = (call.same s c at).0 in
      ⊎_elim
      (λ left. stays s is e left)
      (λ shows. let same : s ≡ e = let both = sym is ∙ shows in cc in subst (HasPublished key s) same (published_front key s))
      (call.same t e next).1)

  module _ (start : D) (m1 m2 : Journal) (holds : HoldsBetween key m1 m2 (disks.shown start) (disks.may_leave start)) (stays : StaysPublished key (disks.shown start) (disks.may_leave start)) where
    pub all_stay : (now : D) → Came start now → StaysPublished key (disks.shown now) (disks.may_leave now)
    all_stay now Begun = stays
    all_stay now (Ran {before = before} {after = after} runs run) = λ s is c left.
        let so_far = all_left disks counted key start m1 m2 holds before runs in
        on_throughout D disks.moment disks.since (HasPublished key) before now (call_keeps before now so_far.0 so_far.1 so_far.3 (all_stay before runs) run) s c
        (counted now (disks.moment before) s c (call_later before now run) is left)
    all_stay now (StopsBehind {before = before} {after = after} {bytes = bytes} runs left is) = calm_stays key (disks.shown now) (disks.may_leave now) is.1
    all_stay now (StopsIn {before = before} {after = after} {next = next} {there = there} {bytes = bytes} runs run at is) = calm_stays key (disks.shown now) (disks.may_leave now) is.1

    pub all_keep : (before after : D) → Came start before → Call before after → On before after (HasPublished key)
    all_keep before after runs run =
        let so_far = all_left disks counted key start m1 m2 holds before runs in
        call_keeps before after so_far.0 so_far.1 so_far.3 (all_stay before runs) run

    -- behind the run
    pub ends_keep : ((d : D) (s c : List ℕ) → disks.since d (disks.moment d) s c → (disks.shown d ≡ Some s) × disks.may_leave d c) → (before after : D) → Came start before → Call before after
        → (s c bytes : List ℕ) → disks.since after (disks.moment before) s c → disks.may_leave after bytes → HasPublished key s bytes
    ends_keep present before after runs run s c bytes at left =
        let behind = all_left disks counted key start m1 m2 holds after (Ran runs run) in
        on_ends D disks.moment disks.since (HasPublished key) before after (all_keep before after runs run) (disks.shown after) (disks.may_leave after) (λ x y is. present after x y is)
        (λ t x y early is leaves. counted after t x y early is leaves) s c behind.3.shows.0 bytes at behind.3.shows.1 left

    -- behind a stop, and whatever comes then
    pub later_keep : (before after next last : D) → Came start before → Call before after
        → On before after (λ s c. (bytes : List ℕ) → IsLeft disks c next → Came next last → disks.may_leave last bytes → HasPublished key s bytes)
    later_keep before after next last runs run =
        let so_far = all_left disks counted key start m1 m2 holds before runs in
        on_maps D disks.moment disks.since (HasPublished key) (λ s c. (bytes : List ℕ) → IsLeft disks c next → Came next last → disks.may_leave last bytes → HasPublished key s bytes)
        (λ s c. Unit {0}) (λ s c. (held : Journal) × StandsForJournal key held c) before after
        (λ s c t l one stands kept bytes is more left.
        let held = stands.0 in
        let here : IsBetween (StandsForJournal key) held held l = record { held = held; from = prefix_same held; to = prefix_same held; stands_for = stands.1 } in
        let then = all_left disks counted key next held held (left_between disks counted key start held held l next here is) last more in
        let end = then.3.leaves bytes left in
        let longer = batches_grow key held end.held (prefix_trans held then.0 end.held then.2 end.from) in
        let of_l = subst (IsPrefix (published_batches key s)) (journal_recovered key held l stands.1) kept in
        subst (IsPrefix (published_batches key s)) (sym (journal_recovered key end.held bytes end.stands_for))
        (prefix_trans (published_batches key s) (batches_of key held) (batches_of key end.held) of_l longer))
        (all_keep before after runs run)
        (λ s c at. tt)
        (call_stands disks counted key start before after so_far.0 so_far.1 so_far.3 run)
