-- Calls of the program in a list of calls: those that aren't a run, a call of `serve` or an upgrade by the owner leave the store as it is.
use Rattle.std.proofs.Common.{◌≡◌, ◌≤◌, ◌≢◌, ◌⊎◌, ⊎_elim, inl, inr, ℕ, Bool, true, false, List, [], length, take, drop, Some, None, Result, Ok, Err, arith, refl, sym, ap, subst, ◌∙◌}
use Rattle.std.specs.Prelude.{IsTrue, codes, if◌then◌else◌, is_some, nat_le, slice_range, ◌++◌, ◌∷◌}
use Rattle.std.specs.Str.{bytes_eq}
use Rattle.std.proofs.lemmas.Bool.{false_from_ne_true}
use Rattle.std.proofs.lemmas.Slice.Eq.{bytes_eq-Decides}
use Rattle.chacha_seal.specs.Sealing.{check_of}
use Rattle.commit_journal.specs.Answering.{Fault, NotAStore, WrongKey, and_then}
use Rattle.commit_journal.specs.Holding.{GoesOn}
use Rattle.commit_journal.specs.Log.{behind_header, start_at, start_of}
use Rattle.commit_journal.specs.Logs.{writer_log}
use Rattle.commit_journal.specs.Moments.{IsSameThroughout}
use Rattle.commit_journal.specs.Opening.{LeavesGated, OwnedLog, opening_verdict, owned_log}
use Rattle.commit_journal.specs.WholeLogs.{whole_log}
use Rattle.commit_journal.specs.declared.past.Past.{Past}
use Rattle.commit_journal.proofs.Followed.{and_then_ok}
use Rattle.commit_journal.proofs.Judged.{start_short}
use Rattle.commit_journal.proofs.Reopened.{opened_standing}
use Rattle.commit_journal.proofs.Writers.{batches_alone, opened_as_read}
use Rattle.cry_base.specs.Layout.{first_gate_offset, header_len, magic_len}
use Rattle.cry_base.specs.Limits.{most_store_bytes}
use Rattle.cry_io.specs.Reading.{IsOnlyRead}
use Rattle.cry_io.specs.declared.disk.Disk as disk
use Rattle.cli_making.specs.Promises.Gen.{GenEnds}
use Rattle.cli_making.specs.Promises.Make.{MakeEnds}
use Rattle.cli_running.specs.Promises.Run.{RunEnds}
use Rattle.cli_running.specs.Running.{HandsInFirst, RunsOpened, RunsUnopened, key_in_lines, lines_in}
use Rattle.cli_serving.specs.Promises.Serve.{ServeEnds, ServesOpened}
use Rattle.cli_upgrading.specs.Promises.Upgrade.{UpgradeEnds}
use Rattle.cli_upgrading.specs.Upgrading.{HandsInAlone, UpgradesOpened, UpgradesUnopened}
use Rattle.cli_base.specs.Status.{is_before_write}
use Rattle.cli_base.specs.World.{Senses, World}
use Rattle.cli_base.specs.declared.status.Status.{Status}
use Rattle.cli_base.specs.declared.status.Status.TheVariants as statuses
use Rattle.cli_sessions.specs.Opening.{HasOpened, LeavesUnopened, WasOpened, WasTried}
use Rattle.cli_sessions.proofs.RunEnds.{still_told}
use Rattle.cli_sessions.proofs.StopLemmas.{time_still}
use Rattle.journal_bytes.specs.Bytes.{bodies_of}
use Rattle.journal_bytes.specs.Journals.{ShowsJournal, StandsForJournal}
use Rattle.log_visits.specs.Asking.{failure_of, open_with, opened_store, verdict}
use Rattle.log_visits.specs.Asking.Asking.{ToWrite}
use Rattle.log_visits.specs.Judging.{OfBytes, of_bytes, read_through, then_on}
use Rattle.public_fold.specs.Journal.{Journal}
use Rattle.stop_laws.specs.Others.{IsByOther, IsUpgradeByOther}
use Rattle.stop_laws.specs.Runs.{LeavesStore, RunOver, ServeOver, UpgradeOver}
use Rattle.store_owner.specs.Owned.{OwnerView}
use Rattle.store_owner.proofs.OpenedBehind.{within}

-- ---- a key with another check

other_bytes : (xs ys : List ℕ) → (xs ≡ ys → ⊥) → bytes_eq xs ys ≡ false
other_bytes xs ys other = false_from_ne_true (bytes_eq xs ys) (λ t. other ((bytes_eq-Decides xs ys).0 t))

module _ (owner key bytes : List ℕ) (other : check_of owner ≢ check_of key) where
  abbrev header : List ℕ
  header = take header_len bytes

  abbrev check : List ℕ
  check = slice_range header magic_len first_gate_offset

  abbrev started : Bool → Bool → Bool → Result Past Fault
  started a b d = if a then (if b then (if d then Ok (behind_header header) else Err WrongKey) else Err NotAStore) else Err NotAStore

  known : (a b d : Bool) (past : Past) → bytes_eq check (check_of owner) ≡ d → started a b d ≡ Ok past → started a b (bytes_eq check (check_of key)) ≡ Err WrongKey
  known true true true past is e =
      let same : check ≡ check_of owner = (bytes_eq-Decides check (check_of owner)).0 is in
      let no_match : bytes_eq check (check_of key) ≡ false = other_bytes check (check_of key) (λ q. other (sym same ∙ q)) in
      ap (λ d. started true true d) no_match
  known true true false past is e = absurd cc
  known true false d past is e = absurd cc
  known false b d past is e = absurd cc

  other_start : (past : Past) → start_at owner bytes ≡ Ok past → start_at key bytes ≡ Err WrongKey
  unfolding start_at start_of
  other_start past e =
      known (nat_le header_len (length bytes)) (bytes_eq (take magic_len header) (codes "CRYPTREE" ++ 1 ∷ [])) (bytes_eq check (check_of owner)) past refl e

  other_opening : (limit : ℕ) (log : OwnedLog) → opening_verdict limit owner bytes ≡ Ok log → opening_verdict limit key bytes ≡ Err WrongKey
  unfolding opening_verdict and_then
  other_opening limit log e =
      let start = and_then_ok (start_at owner bytes) (λ past. owned_log limit owner past 0 (drop header_len bytes)) log e in
      ap (λ r. and_then r (λ past. owned_log limit key past 0 (drop header_len bytes))) (other_start start.0 start.1)

opened_journal : (owner : List ℕ) (m : Journal) (bytes : List ℕ) → StandsForJournal owner m bytes → opening_verdict most_store_bytes owner bytes ≡ Ok (whole_log owner (bodies_of owner m))
opened_journal owner m bytes stands =
    opened_standing most_store_bytes owner (bodies_of owner m) bytes (omega arith) (within most_store_bytes owner m bytes stands stands.valid.1)

refused_verdict : (key bytes : List ℕ) → opening_verdict most_store_bytes key bytes ≡ Err WrongKey → verdict (ToWrite key) bytes ≡ Some (OfBytes WrongKey)
unfolding verdict failure_of opened_store open_with then_on of_bytes read_through and_then
refused_verdict key bytes is =
    let read : writer_log key bytes ≡ Err WrongKey = sym (opened_as_read key bytes) ∙ ap batches_alone is in
    ap (λ log. failure_of (open_with key log)) read

-- a store isn't empty
pub store_has_bytes : (owner : List ℕ) (m : Journal) (bytes : List ℕ) → StandsForJournal owner m bytes → length bytes ≢ 0
unfolding opening_verdict and_then
store_has_bytes owner m bytes stands none =
    let opened = opened_journal owner m bytes stands in
    let start = and_then_ok (start_at owner bytes) (λ past. owned_log most_store_bytes owner past 0 (drop header_len bytes)) (whole_log owner (bodies_of owner m)) opened in
    let short : start_at owner bytes ≡ Err NotAStore = start_short owner bytes (omega (arith, none)) in
    let long : start_at owner bytes ≡ Ok start.0 = start.1 in
    let both : Err NotAStore ≡ Ok start.0 = sym short ∙ long in
    absurd cc

-- ---- calls

module _ {D : Type 0} (disks : disk.Ghosts D)
    (counted : (d : D) (t : ℕ) (s c : List ℕ) → t ≤ disks.moment d → disks.shown d ≡ Some s → disks.may_leave d c → disks.since d t s c)
    (present : (d : D) (s c : List ℕ) → disks.since d (disks.moment d) s c → (disks.shown d ≡ Some s) × disks.may_leave d c)
    (may_be_left : (d : D) (s : List ℕ) → disks.shown d ≡ Some s → disks.may_leave d s) where
  abbrev Leaves : D → D → Type 0
  Leaves before after = LeavesStore disks before after

  abbrev Same : D → D → Type 0
  Same before after = (s c : List ℕ) → disks.since after (disks.moment before) s c
      → (disks.shown before ≡ Some s) × (disks.may_leave before c ⊎ (disks.shown before ≡ Some c))

  -- one that touches nothing
  pub untouched_leaves : (before after : D) → after ≡ before → Leaves before after
  untouched_leaves before after is =
      let here : Leaves before before = record {
        later = omega arith;
        time = time_still (disks.moment before) (disks.since before) (disks.shown before) (disks.may_leave before) (present before) (counted before);
        shows = refl;
        leaves = λ c left. inl left;
        same = λ s c at. let now = present before s c at in (now.0, inl now.1);
      } in
      subst (Leaves before) (sym is) here

  -- one that only reads
  pub read_leaves : (before after : D) → IsOnlyRead disks before after → IsSameThroughout disks before after → Leaves before after
  read_leaves before after read moments = record {
    later = moments.later;
    time = moments.time;
    shows = read.same_bytes;
    leaves = λ c left. inl ((read.same_stops c).0 left);
    same = λ s c at. let now = moments.same s c at in (now.0, inl now.1);
  }

  -- at the end it is as it was at each moment
  pub same_leaves : (before after : D) (x : List ℕ) → disks.shown before ≡ Some x → disks.moment before ≤ disks.moment after
      → GoesOn (disks.moment before) (disks.since before) (disks.since after) → is_some (disks.shown after) ≡ is_some (disks.shown before) → Same before after → Leaves before after
  same_leaves before after x is later time told same =
      let end = still_told (disks.shown after) (disks.shown before) x told is in
      let shown = same end.0 end.0 (counted after (disks.moment before) end.0 end.0 later end.1 (may_be_left after end.0 end.1)) in
      record {
        later = later;
        time = time;
        shows = end.1 ∙ sym shown.0;
        leaves = λ c left. (same end.0 c (counted after (disks.moment before) end.0 c later end.1 left)).1;
        same = same;
      }

  -- what opening leaves under a key of another
  tried_same : (before after : D) (status : Status) (owner key : List ℕ) (m : Journal) → ShowsJournal owner m (disks.shown before) → check_of owner ≢ check_of key
      → WasTried disks status key before after → Same before after
  tried_same before after status owner key m shows other tried s c at =
      let x = shows.0 in
      let wrong = other_opening owner key x other most_store_bytes (whole_log owner (bodies_of owner m)) (opened_journal owner m x shows.2) in
      let gated : (y : List ℕ) → LeavesGated most_store_bytes key x y → y ≡ x = λ y leaves.
      ⊎_elim (λ same. same) (λ log. let no : Err WrongKey ≡ Ok log.0 = sym wrong ∙ log.1 in absurd cc) leaves in
      ⊎_elim
      (λ first. (shows.1 ∙ ap (λ z. Some z) (sym first.0), inl first.1))
      (λ filled. (shows.1 ∙ ap (λ z. Some z) (sym (gated s filled.0)), inr (shows.1 ∙ ap (λ z. Some z) (sym (gated c filled.1)))))
      (tried.throughout x shows.1 s c at)

-- a call between two worlds
module _ {S R D W : Type 0} (see : Senses S R D W)
    (counted : (d : D) (t : ℕ) (s c : List ℕ) → t ≤ see.disks.moment d → see.disks.shown d ≡ Some s → see.disks.may_leave d c → see.disks.since d t s c)
    (present : (d : D) (s c : List ℕ) → see.disks.since d (see.disks.moment d) s c → (see.disks.shown d ≡ Some s) × see.disks.may_leave d c)
    (may_be_left : (d : D) (s : List ℕ) → see.disks.shown d ≡ Some s → see.disks.may_leave d s) (status : Status) (before after : World S R D W) where
  abbrev LeavesDisk : Type 0
  LeavesDisk = LeavesStore see.disks before.disk after.disk

  abbrev SameDisk : Type 0
  SameDisk = Same see.disks counted present may_be_left before.disk after.disk

  disk_untouched : after.disk ≡ before.disk → LeavesDisk
  disk_untouched is = untouched_leaves see.disks counted present may_be_left before.disk after.disk is

  -- a run by the owner
  pub owner_run : (owner typed : List ℕ) → see.inputs.left before.input ≡ Some typed → key_in_lines (lines_in typed) ≡ Some owner
      → RunEnds see status before after → RunOver see.disks owner before.disk after.disk
  owner_run owner typed told hands run = record {
    status = status;
    typed = typed;
    asked = run.asked;
    left_before = see.randoms.left before.random;
    left_after = see.randoms.left after.random;
    written_before = see.outs.written before.out;
    written_after = see.outs.written after.out;
    hands_in = hands;
    later = run.later;
    ran = run.ran typed told;
    published = run.published typed told;
  }

  -- a call of `serve` by the owner
  pub owner_serve : (owner typed : List ℕ) → see.inputs.left before.input ≡ Some typed → key_in_lines (lines_in typed) ≡ Some owner
      → ServeEnds see status before after → ServeOver see.disks owner before.disk after.disk
  owner_serve owner typed told hands call = record {
    status = status;
    typed = typed;
    turns = call.turns;
    asked = call.asked;
    left_before = see.randoms.left before.random;
    left_after = see.randoms.left after.random;
    written_before = see.outs.written before.out;
    written_after = see.outs.written after.out;
    hands_in = hands;
    lines = call.lines typed told;
    later = call.later;
    ran = call.served typed told;
    published = call.published typed told;
  }

  -- an upgrade by the owner
  pub owner_upgrade : (owner typed : List ℕ) → see.inputs.left before.input ≡ Some typed → HandsInAlone typed owner
      → UpgradeEnds see status before after → UpgradeOver see.disks owner before.disk after.disk
  owner_upgrade owner typed told hands call = record {
    status = status;
    typed = typed;
    left_before = see.randoms.left before.random;
    left_after = see.randoms.left after.random;
    written_before = see.outs.written before.out;
    written_after = see.outs.written after.out;
    hands_in = hands;
    later = call.later;
    ran = call.ran typed told;
    printed = call.printed;
    published = call.published typed told;
  }

  -- a call that opens a store, whose input hands in no key, or one of another
  module _ (HandsIn : List ℕ → List ℕ → Type 0) (owner : List ℕ) (m : Journal) (typed : List ℕ) (told : see.inputs.left before.input ≡ Some typed)
      (shows : ShowsJournal owner m (see.disks.shown before.disk)) (other : (key : List ℕ) → HandsIn typed key → check_of owner ≢ check_of key) where
    unopened_same : LeavesUnopened HandsIn see status before after → SameDisk
    unopened_same left s c at =
        ⊎_elim
        (λ (is : after.disk ≡ before.disk). (disk_untouched is).same s c at)
        (λ tried. tried_same see.disks counted present may_be_left before.disk after.disk status owner tried.0 m shows (other tried.0 (tried.1 typed told)) tried.2 s c at)
        left.store

    never_opened : (key : List ℕ) → HandsIn typed key → (of : OwnerView) (opened : D) → WasOpened see.disks key of before.disk opened → SameDisk
    never_opened key hands of opened opening s c at =
        let x = shows.0 in
        let wrong = other_opening owner key x (other key hands) most_store_bytes (whole_log owner (bodies_of owner m)) (opened_journal owner m x shows.2) in
        let no : None ≡ Some (OfBytes WrongKey) = sym (opening.passes x shows.1) ∙ refused_verdict key x wrong in
        absurd cc

    opening_leaves : (Opened : Type 0) → (Opened → (key : List ℕ) × HandsIn typed key × (of : OwnerView) × (opened : D) × WasOpened see.disks key of before.disk opened)
        → LeavesUnopened HandsIn see status before after ⊎ Opened
        → see.disks.moment before.disk ≤ see.disks.moment after.disk
        → GoesOn (see.disks.moment before.disk) (see.disks.since before.disk) (see.disks.since after.disk)
        → is_some (see.disks.shown after.disk) ≡ is_some (see.disks.shown before.disk) → LeavesDisk
    opening_leaves Opened was opening later time stays_told =
        same_leaves see.disks counted present may_be_left before.disk after.disk shows.0 shows.1 later time stays_told
        (λ s c at. ⊎_elim (λ left. unopened_same left s c at) (λ opened. let it = was opened in never_opened it.0 it.1 it.2 it.3 it.4 s c at) opening)

    has_opened : (refusal : Status) (version : ℕ) → HasOpened HandsIn refusal version see status before after
        → (key : List ℕ) × HandsIn typed key × (of : OwnerView) × (opened : D) × WasOpened see.disks key of before.disk opened
    has_opened refusal version is = (is.key, is.hands_in typed told, is.owner, is.opened, is.opening)

  module _ (owner : List ℕ) (m : Journal) (typed : List ℕ) (told : see.inputs.left before.input ≡ Some typed)
      (shows : ShowsJournal owner m (see.disks.shown before.disk)) where
    pub run_leaves_store : IsByOther owner typed → RunEnds see status before after
        → is_some (see.disks.shown after.disk) ≡ is_some (see.disks.shown before.disk) → LeavesDisk
    run_leaves_store other run stays_told =
        opening_leaves HandsInFirst owner m typed told shows other (HasOpened HandsInFirst statuses.NeedsUpgrade 2 see status before after)
        (has_opened HandsInFirst owner m typed told shows other statuses.NeedsUpgrade 2)
        (⊎_elim (λ (it : RunsUnopened see status run.asked run.answered before after). inl it.left) (λ (it : RunsOpened see status run.asked run.answered before after). inr it.opened) run.opening) run.later run.time stays_told

    pub serve_leaves_store : IsByOther owner typed → ServeEnds see status before after
        → is_some (see.disks.shown after.disk) ≡ is_some (see.disks.shown before.disk) → LeavesDisk
    serve_leaves_store other call stays_told =
        opening_leaves HandsInFirst owner m typed told shows other (ServesOpened see status call.turns call.asked before after)
        (λ it. (it.key, it.hands_in typed told, it.owner, it.opened, it.opening))
        (elim call.opening [ inl it ↦ inl it.0 | inr it ↦ inr it ]) call.later call.time stays_told

    pub upgrade_leaves_store : IsUpgradeByOther owner typed → UpgradeEnds see status before after
        → is_some (see.disks.shown after.disk) ≡ is_some (see.disks.shown before.disk) → LeavesDisk
    upgrade_leaves_store other call stays_told =
        opening_leaves HandsInAlone owner m typed told shows other (HasOpened HandsInAlone statuses.AlreadyNew 1 see status before after)
        (has_opened HandsInAlone owner m typed told shows other statuses.AlreadyNew 1)
        (⊎_elim (λ (it : UpgradesUnopened see status before after). inl it.left) (λ (it : UpgradesOpened see status before after). inr it.opened) call.opening) call.later call.time stays_told

  -- over a store that stands `make` and `gen` answer that the disk isn't blank
  module _ (owner : List ℕ) (m : Journal) (sized : (s : List ℕ) → see.disks.shown before.disk ≡ Some s → length s ≡ see.disks.size_of before.disk)
      (shows : ShowsJournal owner m (see.disks.shown before.disk)) where
    has_size : see.disks.size_of before.disk ≢ 0
    has_size none = store_has_bytes owner m shows.0 shows.2 (sized shows.0 shows.1 ∙ none)

    pub make_leaves_store : MakeEnds see status before after → LeavesDisk
    make_leaves_store made = disk_untouched (made.disk_kept (subst (λ s. IsTrue (is_before_write s)) (sym (made.not_blank.1 has_size)) refl))

    pub gen_leaves_store : (seed count : ℕ) → GenEnds see status before after seed count → LeavesDisk
    gen_leaves_store seed count made = disk_untouched (made.blank_kept (made.not_blank.1 has_size)).1
