-- What calls of the program unveil, and that what they unveil keeps its secrets.
use Rattle.std.proofs.Common.{◌≡◌, ◌≢◌, ◌≤◌, ◌+◌, ℕ, List, [], ◌∷◌, ◌++◌, All, length, Some, arith, sym, ap, subst, ◌∙◌, length-append}
use Rattle.batch_log.specs.Moments.{FromThenOn}
use Rattle.batch_log.proofs.InOrder.{on_maps}
use Rattle.commit_journal.specs.Holding.{IsBetween, IsPrefix}
use Rattle.commit_journal.specs.Image.{Batch, batch_veil, empty_slot}
use Rattle.commit_journal.specs.Standing.{HasSizes, StandsWhole}
use Rattle.commit_journal.proofs.KeptLemmas.{prefix_same, prefix_trans}
use Rattle.cry_io.specs.declared.disk.Disk as disk
use Rattle.cli_running.specs.Running.{lines_behind, lines_in}
use Rattle.cli_sessions.specs.Sessions.{seen_from}
use Rattle.cli_sessions.specs.Stopping.{KeepsUpTo}
use Rattle.journal_bytes.specs.Bytes.{batches_of}
use Rattle.journal_bytes.specs.Journals.{HoldsBetween, StandsForJournal}
use Rattle.journal_bytes.proofs.Grown.{batches_grow, journal_recovered}
use Rattle.public_fold.specs.Journal.{Journal}
use Rattle.secrecy_laws.proofs.Departed.{keeps_departures}
use Rattle.secrecy_laws.proofs.Secrets.{keeps_secret, opens_by_gain}
use Rattle.stop_laws.specs.Runs.{CallOver, IsLeft, Runs, WasShown}
use Rattle.stop_laws.specs.Runs.CallOver.{ByOther, ByOwner, ByServe, ByUpgrade}
use Rattle.stop_laws.proofs.Kept.{all_keep}
use Rattle.stop_laws.proofs.Lasting.{never_lost}
use Rattle.stop_laws.proofs.Left.{all_left, call_stands, left_between, left_of_runs}
use Rattle.store_owner.specs.Published.{HasPublished, StaysPublished, published_batches}
use Rattle.handed_laws.specs.Unveiled.{CallUnveils, HasNoEmptyVeil, KeepsUnveiled, ShowsUnveiled}
use Rattle.handed_laws.proofs.Handed.{run_shows}
use Rattle.handed_laws.proofs.Publishing.{last_published}
use Rattle.handed_laws.proofs.Runs.{Reaches, reached_by}
use Rattle.handed_laws.proofs.Serves.{served_reached}
use Rattle.handed_laws.proofs.Upgrades.{upgrade_reached}

-- a journal with what a list published
kept_by : (key s bytes : List ℕ) (j : Journal) → StandsForJournal key j bytes → IsPrefix (published_batches key s) (batches_of key j) → KeepsUnveiled key s bytes
kept_by key s bytes j stands has = record {
  journal = j;
  stands_for = stands;
  has = has;
  secret = λ h. keeps_secret j stands.valid h;
  gained = λ h. opens_by_gain j stands.valid h;
  departed = λ two h. keeps_departures j stands.valid two h;
}

-- of what is left now
pub kept_now : (key s bytes : List ℕ) (j : Journal) → StandsForJournal key j bytes → HasPublished key s bytes → KeepsUnveiled key s bytes
kept_now key s bytes j stands has = kept_by key s bytes j stands (subst (IsPrefix (published_batches key s)) (journal_recovered key j bytes stands) has)

module _ {D : Type 0} (disks : disk.Ghosts D)
    (counted : (d : D) (t : ℕ) (s c : List ℕ) → t ≤ disks.moment d → disks.shown d ≡ Some s → disks.may_leave d c → disks.since d t s c)
    (present : (d : D) (s c : List ℕ) → disks.since d (disks.moment d) s c → (disks.shown d ≡ Some s) × disks.may_leave d c)
    (may_be_left : (d : D) (s : List ℕ) → disks.shown d ≡ Some s → disks.may_leave d s) (key : List ℕ)
    (start : D) (m1 m2 : Journal) (holds : HoldsBetween key m1 m2 (disks.shown start) (disks.may_leave start)) where
  abbrev Came : D → D → Type 0
  Came from now = Runs disks key from now

  -- the writes of a call that opened the store
  opened_unveils : (before after : D) (m : Journal) (x : List ℕ) → disks.shown before ≡ Some x → StandsForJournal key m x
      → Reaches key m (KeepsUpTo key m (disks.shown before) (disks.shown after) (disks.may_leave before) (disks.since after (disks.moment before)))
      → (s left : List ℕ) → disks.since after (disks.moment before) s left
      → (m reached : Journal) × StandsForJournal key m x × IsPrefix m reached × (HasNoEmptyVeil key reached → ShowsUnveiled key m reached x (disks.shown after) s)
  opened_unveils before after m x is stands to s left at = (
    m,
    to.reached,
    stands,
    to.longer,
    λ veiled. run_shows key m to.reached x (disks.shown before) (disks.shown after) (disks.since after (disks.moment before)) is stands to.longer to.valid
        to.whole_keys veiled (to.kept.hands x is) s left at,
  )

  -- the journal that a call finds
  finds : (before : D) → Came start before → (x : List ℕ) → disks.shown before ≡ Some x → (m : Journal) × StandsForJournal key m x
  finds before runs x is =
      let held = (all_left disks counted key start m1 m2 holds before runs).3.shows in
      let same : held.0 ≡ x = let both = sym held.1 ∙ is in cc in
      (held.2.held, subst (StandsForJournal key held.2.held) same held.2.stands_for)

  -- the writes of a call
  pub call_unveils : (before after : D) → Came start before → (call : CallOver disks key before after) (x s left : List ℕ) → disks.shown before ≡ Some x
      → disks.since after (disks.moment before) s left → CallUnveils disks key before after call x s
  call_unveils before after runs (ByOwner run) x s left is at =
      let found = finds before runs x is in
      let m = found.0 in
      let stands = found.1 in
      let seen = seen_from run.left_before run.left_after (disks.shown before) (disks.shown after) run.written_before run.written_after in
      let to = reached_by key m stands.valid (lines_behind (lines_in run.typed)) seen (disks.may_leave after)
      (KeepsUpTo key m (disks.shown before) (disks.shown after) (disks.may_leave before) (disks.since after (disks.moment before)))
      stands.whole_keys run.status run.asked (run.ran key m run.hands_in (x, is, stands)) in
      opened_unveils before after m x is stands to s left at
  call_unveils before after runs (ByServe call) x s left is at =
      let found = finds before runs x is in
      let m = found.0 in
      let stands = found.1 in
      let seen = seen_from call.left_before call.left_after (disks.shown before) (disks.shown after) call.written_before call.written_after in
      let to = served_reached key m stands.valid seen (disks.may_leave after)
      (KeepsUpTo key m (disks.shown before) (disks.shown after) (disks.may_leave before) (disks.since after (disks.moment before)))
      stands.whole_keys call.status call.turns call.asked (call.ran key m call.hands_in (x, is, stands)) in
      opened_unveils before after m x is stands to s left at
  call_unveils before after runs (ByUpgrade call) x s left is at =
      let found = finds before runs x is in
      let m = found.0 in
      let stands = found.1 in
      let seen = seen_from call.left_before call.left_after (disks.shown before) (disks.shown after) call.written_before call.written_after in
      let to = upgrade_reached key m stands.valid stands.whole_keys seen (disks.may_leave after)
      (KeepsUpTo key m (disks.shown before) (disks.shown after) (disks.may_leave before) (disks.since after (disks.moment before)))
      call.status (call.ran key m call.hands_in (x, is, stands)) in
      opened_unveils before after m x is stands to s left at
  call_unveils before after runs (ByOther call) x s left is at = let both = sym (call.same s left at).0 ∙ is in cc

  module _ (stays : StaysPublished key (disks.shown start) (disks.may_leave start)) where
    -- all that was shown, of what is left in the end
    pub ends_secret : (now : D) (runs : Came start now) (s bytes : List ℕ) → WasShown disks key start now runs s → disks.may_leave now bytes → KeepsUnveiled key s bytes
    ends_secret now runs s bytes was left =
        let of = left_of_runs disks counted key start m1 m2 holds now runs bytes left in
        kept_now key s bytes of.journal of.stands_for (never_lost disks counted present may_be_left key start m1 m2 holds stays now runs s was bytes left)

    -- what is shown in a call, of what is left behind a stop in it, and behind whatever comes then
    pub later_secret : (before after next last : D) → Came start before → CallOver disks key before after
        → FromThenOn disks.moment disks.since before after (λ s c. (bytes : List ℕ) → IsLeft disks c next → Came next last → disks.may_leave last bytes → KeepsUnveiled key s bytes)
    later_secret before after next last runs call =
        let so_far = all_left disks counted key start m1 m2 holds before runs in
        on_maps D disks.moment disks.since (HasPublished key) (λ s c. (bytes : List ℕ) → IsLeft disks c next → Came next last → disks.may_leave last bytes → KeepsUnveiled key s bytes)
        (λ s c. Unit {0}) (λ s c. (held : Journal) × StandsForJournal key held c) before after
        (λ s c t l one stands kept bytes is more left.
        let held = stands.0 in
        let here : IsBetween (StandsForJournal key) held held l = record { held = held; from = prefix_same held; to = prefix_same held; stands_for = stands.1 } in
        let then = all_left disks counted key next held held (left_between disks counted key start held held l next here is) last more in
        let end = then.3.leaves bytes left in
        let longer = batches_grow key held end.held (prefix_trans held then.0 end.held then.2 end.from) in
        let of_l = subst (IsPrefix (published_batches key s)) (journal_recovered key held l stands.1) kept in
        kept_by key s bytes end.held end.stands_for (prefix_trans (published_batches key s) (batches_of key held) (batches_of key end.held) of_l longer))
        (all_keep disks counted key start m1 m2 holds stays before after runs call)
        (λ s c at. tt)
        (call_stands disks counted key start before after so_far.0 so_far.1 so_far.3 call)

-- ---- a veil key that comes too early

pub early_breaks : (key : List ℕ) (m : Journal) (b : Batch) (shown left : List ℕ) → All HasSizes (batches_of key m ++ b ∷ []) → batch_veil key b ≢ empty_slot
    → StandsWhole key (batches_of key m ++ b ∷ []) shown → StandsForJournal key m left → KeepsUnveiled key shown left → ⊥
early_breaks key m b shown left sizes veiled whole stands keeps =
    let bs = batches_of key m in
    let has = prefix_trans (bs ++ b ∷ []) (published_batches key shown) (batches_of key keeps.journal) (last_published key bs b shown whole sizes veiled) keeps.has in
    let same : batches_of key keeps.journal ≡ bs = sym (journal_recovered key keeps.journal left keeps.stands_for) ∙ journal_recovered key m left stands in
    let long : length (bs ++ b ∷ []) + length has.0 ≡ length bs = sym (length-append (bs ++ b ∷ []) has.0) ∙ ap (λ (l : List Batch). length l) (has.1 ∙ same) in
    let more = length-append bs (b ∷ []) in
    let no : ⊥ = omega (arith, long, more) in
    no
