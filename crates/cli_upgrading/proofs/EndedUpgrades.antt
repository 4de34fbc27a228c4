-- How an upgrade ends whose owner stands for a journal, over a disk that rests there.
use Rattle.std.proofs.Common.{◌≡◌, ◌≢◌, ◌<◌, inl, inr, ℕ, Bool, true, false, cond, drop, nat_lt, List, [], ◌∷◌, ◌++◌, length, Option, Some, None, Result, Ok, Err, append_assoc, arith, refl, sym, ap, subst, ◌∙◌, length-append}
use Rattle.std.specs.Prelude.{IsTrue}
use Rattle.std.proofs.lemmas.List.Elements.{All-nil}
use Rattle.commit_journal.specs.Holding.{IsPrefix}
use Rattle.commit_journal.proofs.KeptLemmas.{prefix_same}
use Rattle.commit_journal.specs.Standing.{StandsWhole}
use Rattle.cry_base.specs.declared.commands.Refusal.{Refusal}
use Rattle.cry_base.specs.declared.commands.Refusal.TheVariants.{Full}
use Rattle.cry_base.specs.declared.commands.Reply.{Reply}
use Rattle.cry_base.specs.declared.commands.Reply.TheVariants as replies
use Rattle.cry_base.specs.declared.limits.Limits.{Limits}
use Rattle.cry_io.specs.Stops.{IsDurable}
use Rattle.cry_io.specs.Told.{WhereBothTold}
use Rattle.journal_bytes.specs.Bytes.{batches_of, image_of}
use Rattle.journal_bytes.specs.Script.{answer_with, opened}
use Rattle.journal_bytes.specs.Upgrading.{upgrade_answer, upgrade_end, upgraded_then}
use Rattle.public_fold.specs.Journal.{Journal, keys_of}
use Rattle.public_fold.specs.Journal.Entry.{Session, Upgraded}
use Rattle.cli_base.specs.declared.status.Status.{Status}
use Rattle.cli_base.specs.declared.status.Status.TheVariants as statuses
use Rattle.cli_sessions.proofs.OwnerEnds.{behind_still, owner_end}
use Rattle.cli_sessions.proofs.PublishedLines.{failed_has, kept_has}
use Rattle.cli_sessions.proofs.RunLemmas.{rests_there}
use Rattle.cli_sessions.proofs.StopLemmas.{rests_settled, stays_begun}
use Rattle.cli_sessions.proofs.Versions.{is_second, owners_version}
use Rattle.cli_sessions.specs.Published.{KeepsBatches, LinesPublish}
use Rattle.cli_sessions.specs.Sessions.{KeepsBehind, KeepsFrom, LeavesAt, RanDry, Seen, apply_status, seen_from, version_limits}
use Rattle.cli_sessions.specs.Stopping.{LinesKeepUpTo}
use Rattle.store_owner.proofs.OwnerGoesOn.{drops_more}
use Rattle.store_owner.specs.Applying.{Answers, IsDone, IsKeptBy}
use Rattle.store_owner.specs.Deeds.Deed.{Upgrading}
use Rattle.store_owner.specs.Owned.{IsOwnerOf, OwnerView, limits_in}
use Rattle.store_owner.specs.Published.{HasPublished, PublishesOn}
use Rattle.store_owner.specs.Sessions.{StandsAt}
use Rattle.store_owner.specs.Taking.{FallsShort, keys_planned}
use Rattle.store_owner.specs.Stopping.{ComesToRest, RestsAt, StopsBetween}
use Rattle.store_owner.specs.declared.apply_fault.ApplyFault.{ApplyFault}
use Rattle.store_owner.specs.declared.apply_fault.ApplyFault.TheVariants as faults
use Rattle.cli_upgrading.proofs.UpgradeCases.{told_cases}
use Rattle.cli_upgrading.specs.Upgrading.{EndsUpgrade, HasAnswered, HasRested, PrintsReply, is_told}

-- it is refused because the store is too full, and for no other cause
only_full : (b : Bool) (why : Refusal) → answer_with None b ≡ Some why → why ≡ Full
unfolding answer_with
only_full true why is = cc
only_full false why is = cc

refused_full : (limits : Limits) (m : Journal) (begun : Bool) (why : Refusal) → upgrade_answer limits m begun ≡ Some why → why ≡ Full
unfolding upgrade_answer
refused_full limits m begun why is = only_full (nat_lt limits.store_bytes (upgrade_end m begun)) why is

module _ (key : List ℕ) (m : Journal) (first_shown : Option (List ℕ)) (old new : OwnerView)
    (left_before left_after was shows written_before written_after : Option (List ℕ))
    (might may : List ℕ → Type 0) (since : List ℕ → List ℕ → Type 0) (stands : StandsAt version_limits key (opened m []) old was)
    (durable : IsDurable might was) (kept_from : KeepsFrom (length (image_of key m)) first_shown was) (one : (keys_of m).version ≡ 1) where
  abbrev seen : Seen
  seen = seen_from left_before left_after first_shown shows written_before written_after

  abbrev KeepsTo : Journal → Type 0
  KeepsTo = LinesKeepUpTo key m was shows since

  abbrev Ended : Status → Type 0
  Ended status = EndsUpgrade status key m seen may KeepsTo

  rests : RestsAt key m was might
  rests = rests_there version_limits key m old was might stands durable

  -- what is said of the owner's key, limits and epoch is said of these
  keyed_rest : (high : Journal) → ComesToRest old.key m high was shows might may since → ComesToRest key m high was shows might may since
  keyed_rest high comes = subst (λ k. ComesToRest k m high was shows might may since) stands.has_key comes

  not_begun : old.journal.has_epoch ≡ false
  unfolding opened
  not_begun = stands.has_begun

  limited : (o : Option Refusal) → upgrade_answer (limits_in old) m old.journal.has_epoch ≡ o → upgrade_answer version_limits m false ≡ o
  limited o is = subst (λ (l : Limits). upgrade_answer l m false ≡ o) stands.has_limits (subst (λ b. upgrade_answer (limits_in old) m b ≡ o) not_begun is)

  -- ---- the disk shows what it showed

  leaves_still : ComesToRest key m m was shows might may since → shows ≡ was → LeavesAt key m m seen may
  leaves_still comes same =
      let now = comes.rests rests in
      record { settled = rests_settled key m shows may now; none_pending = now.durable; keeps = behind_still key m first_shown was shows same kept_from }

  kept_still : ComesToRest key m m was shows might may since → KeepsTo m
  kept_still comes = record { grown = prefix_same m; kept = comes.stops.kept rests; hands = comes.stops.hands }

  rested : ComesToRest old.key m m was shows might may since → shows ≡ was → HasRested 1 key m seen may KeepsTo
  rested comes same =
      let here = keyed_rest m comes in record { is_version = one; leaves = leaves_still here same; kept = kept_still here }

  -- ---- it is answered

  abbrev AnswersSo : Reply → Type 0
  AnswersSo reply = (answered : HasAnswered key m seen may KeepsTo) × (answered.reply ≡ reply)

  refused : (why : Refusal) → upgrade_answer (limits_in old) m old.journal.has_epoch ≡ Some why → ComesToRest old.key m m was shows might may since
      → left_after ≡ left_before → shows ≡ was → AnswersSo (replies.Refused why)
  refused why is comes undrawn same =
      let here = keyed_rest m comes in
      let full = limited (Some why) is in
      let cause = refused_full version_limits m false why full in (
        record {
          first = one;
          reply = replies.Refused why;
          drawn = [];
          drawn_sizes = All-nil (λ (k : List ℕ). length k ≡ 32);
          now = m;
          answers = inr (full ∙ ap Some cause, refl, ap replies.Refused cause, refl);
          draws = λ x y before after. let both = sym before ∙ sym undrawn ∙ after in cc;
          leaves = leaves_still here same;
          kept = kept_still here;
        },
        refl,
      )

  -- how much longer the journal is
  abbrev then : List (List ℕ) → Journal
  then drawn = upgraded_then m false drawn

  longer : (drawn : List (List ℕ)) → length m < length (then drawn)
  longer drawn = omega (arith, length-append (m ++ Session ∷ []) (Upgraded drawn ∷ []), length-append m (Session ∷ []))

  grown : (drawn : List (List ℕ)) → IsPrefix m (then drawn)
  grown drawn = (Session ∷ Upgraded drawn ∷ [], sym (append_assoc m (Session ∷ []) (Upgraded drawn ∷ [])))

  begun_then : (drawn : List (List ℕ)) → m ++ cond old.journal.has_epoch [] (Session ∷ []) ++ Upgraded drawn ∷ [] ≡ then drawn
  begun_then drawn = ap (λ b. m ++ cond b [] (Session ∷ []) ++ Upgraded drawn ∷ []) not_begun

  abbrev Done : Reply → Type 0
  Done reply = IsDone m Upgrading reply old new left_before left_after was shows might may since

  done_rests : (reply : Reply) (is : Done reply) → ComesToRest key m (then is.drawn) was shows might may since
  done_rests reply is = subst (λ j. ComesToRest key m j was shows might may since) (begun_then is.drawn) (keyed_rest _ is.comes_to_rest)

  done_behind : (reply : Reply) (is : Done reply) → KeepsBehind key m (then is.drawn) first_shown shows
  unfolding opened
  done_behind reply is =
      let low = length (image_of key m) in
      let end = owner_end key (then is.drawn) new (is.same_key ∙ stands.has_key) (subst (λ j. IsOwnerOf j new) (begun_then is.drawn) is.owner_is) in
      let start = owner_end key m old stands.has_key stands.owner_is in
      let whole : StandsWhole old.key (batches_of old.key m) stands.disk_stands.0 =
      subst (λ k. StandsWhole k (batches_of k m) stands.disk_stands.0) (sym stands.has_key) stands.disk_stands.2 in
      record {
        behind = λ c y e f.
            let s = stands.disk_stands.0 in
            subst (λ k. drop k y ≡ drop k c) end
            (is.disk_behind s y stands.disk_stands.1 f whole
            ∙ drops_more low new.journal.end c s (omega (arith, start, is.further)) (kept_from c s e stands.disk_stands.1));
        unchanged = λ same.
            let long = longer is.drawn in
            let lengths = ap (λ (j : Journal). length j) same in absurd (let none : ⊥ = omega (arith, long, lengths) in none);
      }

  done : (reply : Reply) → Done reply → AnswersSo reply
  done reply is =
      let comes = done_rests reply is in
      let now = comes.rests rests in (
        record {
          first = one;
          reply = reply;
          drawn = is.drawn;
          drawn_sizes = is.drawn_sizes;
          now = then is.drawn;
          answers = inl (limited None is.accepted, is.drawn_count, is.reply_is, refl);
          draws = is.next_bytes;
          leaves = record {
            settled = rests_settled key (then is.drawn) shows may now;
            none_pending = now.durable;
            keeps = done_behind reply is;
          };
          kept = record { grown = grown is.drawn; kept = comes.stops.kept rests; hands = comes.stops.hands };
        },
        refl,
      )

  pub answered : (reply : Reply) → Answers (Ok reply) m Upgrading old new left_before left_after was shows might may since
      → ((why : Refusal) → reply ≡ replies.Refused why → (left_after ≡ left_before) × (shows ≡ was)) → AnswersSo reply
  answered replies.Done is kept = done replies.Done is
  answered (replies.Made holder drawn) is kept = done (replies.Made holder drawn) is
  answered (replies.Refused why) is kept = refused why is.0 is.2 (kept why refl).0 (kept why refl).1

  -- and the reply was to be printed
  pub told : (reply : Reply) → AnswersSo reply → (status : Status) → IsTrue (is_told status) → WhereBothTold written_before written_after (PrintsReply status reply)
      → Ended status
  told reply so status is =
      told_cases (λ s. WhereBothTold written_before written_after (PrintsReply s reply) → Ended s)
      (λ prints. (so.0, subst (λ r. WhereBothTold written_before written_after (PrintsReply statuses.Done r)) (sym so.1) prints))
      (λ prints. (so.0, subst (λ r. WhereBothTold written_before written_after (PrintsReply statuses.WriteFault r)) (sym so.1) prints))
      (λ prints. inr (inr so.0)) status is

  -- ---- it met a fault

  pub stopped : (fault : ApplyFault) → Answers (Err fault) m Upgrading old new left_before left_after was shows might may since
      → (IsTrue old.journal.is_closed → ⊥) → (fault ≢ faults.DiskFault → shows ≡ was) → (fault ≡ faults.OutOfMemory → left_after ≡ left_before)
      → Ended (apply_status fault)
  stopped faults.RandomFault is unclosed same undrawn = (rested is.2 (same (λ e. absurd cc)), limited None is.0)
  stopped (faults.RandomShort left need) is unclosed same undrawn = (
    rested is.6 (same (λ e. absurd cc)),
    limited None is.0,
    record { is_need = is.2; is_short = is.3; were_left = is.4; nothing_left = is.5 },
  )
  stopped faults.DiskFault is unclosed same undrawn =
      let cut = is.2 in
      let high = then cut.drawn in
      let stops : StopsBetween key m high was shows might may since =
      subst (λ j. StopsBetween key m j was shows might may since) (begun_then cut.drawn)
      (subst (λ k. StopsBetween k m (m ++ cond old.journal.has_epoch [] (Session ∷ []) ++ Upgraded cut.drawn ∷ []) was shows might may since) stands.has_key cut.stops) in
      inr (record {
        first = one;
        is_accepted = limited None is.0;
        drawn = cut.drawn;
        drawn_count = cut.drawn_count;
        drawn_sizes = cut.drawn_sizes;
        draws = cut.next_bytes;
        holds = stops.holds rests;
        kept = record { grown = grown cut.drawn; kept = stops.kept rests; hands = stops.hands };
      })
  stopped faults.Closed is unclosed same undrawn = absurd (unclosed is.0)
  stopped faults.OutOfMemory is unclosed same undrawn = inr (inl (rested is.1 (same (λ e. absurd cc)), undrawn refl))

-- the owner stands for the journal, in whatever words
pub stands_for : (key : List ℕ) (m : Journal) (o : OwnerView) (was : Option (List ℕ)) → StandsAt version_limits key (opened m []) o was → IsOwnerOf m o
unfolding opened
stands_for key m o was stands = stands.owner_is

pub first_version : (key : List ℕ) (m : Journal) (o : OwnerView) (was : Option (List ℕ)) → StandsAt version_limits key (opened m []) o was → o.state.keys.version ≡ 1
    → (keys_of m).version ≡ 1
first_version key m o was stands one = sym (owners_version m o (stands_for key m o was stands)) ∙ one

-- ---- a store that is of version 2 already, of which nothing was touched

pub rested_new : (key : List ℕ) (m : Journal) (first_shown : Option (List ℕ)) (o : OwnerView) (left was written : Option (List ℕ)) (might : List ℕ → Type 0)
    (moment : ℕ) (since : ℕ → List ℕ → List ℕ → Type 0) → StandsAt version_limits key (opened m []) o was → IsDurable might was
    → KeepsFrom (length (image_of key m)) first_shown was → ((s c : List ℕ) → since moment s c → (was ≡ Some s) × might c) → o.state.keys.version ≢ 1
    → EndsUpgrade statuses.AlreadyNew key m (seen_from left left first_shown was written written) might (LinesKeepUpTo key m was was (since moment))
unfolding opened
rested_new key m first_shown o left was written might moment since stands durable kept_from only other =
    let rests = rests_there version_limits key m o was might stands durable in
    let stays = stays_begun key m moment was might since only rests in (
      record {
        is_version = is_second m stands.owner_is.valid (λ one. other (owners_version m o stands.owner_is ∙ one));
        leaves = record {
          settled = rests_settled key m was might rests;
          none_pending = durable;
          keeps = behind_still key m first_shown was was refl kept_from;
        };
        kept = record { grown = stays.grown; kept = stays.kept; hands = stays.hands };
      },
      refl,
    )

-- ---- what is published

answered_has : (reply : Reply) (m : Journal) (old new : OwnerView) (left_before left_after was shows : Option (List ℕ)) (might may : List ℕ → Type 0) (since : List ℕ → List ℕ → Type 0)
    → Answers (Ok reply) m Upgrading old new left_before left_after was shows might may since → RestsAt old.key m was might → KeepsBatches old.key m since
answered_has replies.Done m old new left_before left_after was shows might may since is rests = kept_has old.key m _ _ since (is.comes_to_rest.stops.kept rests)
answered_has (replies.Made holder key) m old new left_before left_after was shows might may since is rests = kept_has old.key m _ _ since (is.comes_to_rest.stops.kept rests)
answered_has (replies.Refused why) m old new left_before left_after was shows might may since is rests = kept_has old.key m m m since (is.2.stops.kept rests)

pub result_has : (result : Result Reply ApplyFault) (m : Journal) (old new : OwnerView) (left_before left_after was shows : Option (List ℕ)) (might may : List ℕ → Type 0)
    (since : List ℕ → List ℕ → Type 0) → Answers result m Upgrading old new left_before left_after was shows might may since → RestsAt old.key m was might
    → KeepsBatches old.key m since
result_has (Ok reply) m old new left_before left_after was shows might may since is rests =
    answered_has reply m old new left_before left_after was shows might may since is rests
result_has (Err fault) m old new left_before left_after was shows might may since is rests =
    failed_has fault m Upgrading old new left_before left_after was shows might may since is rests

pub publishes : (result : Result Reply ApplyFault) (key : List ℕ) (m : Journal) (old new : OwnerView) (left_before left_after was shows : Option (List ℕ)) (might may : List ℕ → Type 0)
    (since : List ℕ → List ℕ → Type 0) (from_then_on : (List ℕ → List ℕ → Type 0) → Type 0) → StandsAt version_limits key (opened m []) old was → IsDurable might was
    → Answers result m Upgrading old new left_before left_after was shows might may since → PublishesOn old was might from_then_on → LinesPublish key m since from_then_on
publishes result key m old new left_before left_after was shows might may since from_then_on stands durable is kept =
    let rests = rests_there version_limits key m old was might stands durable in
    let own : RestsAt old.key m was might = subst (λ k. RestsAt k m was might) (sym stands.has_key) rests in
    record {
      kept = subst (λ k. from_then_on (HasPublished k)) stands.has_key (kept m (stands_for key m old was stands) own);
      has = subst (λ k. KeepsBatches k m since) stands.has_key (result_has result m old new left_before left_after was shows might may since is own);
    }

-- ---- what is said of a fault's status

pub short_fault : (fault : ApplyFault) (left need : ℕ) → apply_status fault ≡ statuses.RandomShort left need → fault ≡ faults.RandomShort left need
short_fault faults.RandomFault left need is = absurd cc
short_fault (faults.RandomShort had wanted) left need is = cc
short_fault faults.DiskFault left need is = absurd cc
short_fault faults.Closed left need is = absurd cc
short_fault faults.OutOfMemory left need is = absurd cc

pub ran_dry : (old : OwnerView) (left need : ℕ) (before after : Option (List ℕ)) → FallsShort old Upgrading left need before after → RanDry left need before after
ran_dry old left need before after short = record {
  drawn = [];
  drawn_sizes = All-nil (λ (k : List ℕ). length k ≡ 32);
  keys = keys_planned old short.at Upgrading;
  is_need = short.is_need short.at short.seen;
  is_short = short.is_short;
  were_left = λ x was. (x, refl, short.were_left x was);
  nothing_left = short.nothing_left;
}

pub disk_kept : {R D : Type 0} (fault : ApplyFault) (old new : OwnerView) (random_old random_new : R) (disk_old disk_new : D)
    → IsKeptBy (Err fault) old new random_old random_new disk_old disk_new → fault ≢ faults.DiskFault → disk_new ≡ disk_old
disk_kept faults.RandomFault old new random_old random_new disk_old disk_new kept other = kept.1
disk_kept (faults.RandomShort left need) old new random_old random_new disk_old disk_new kept other = kept.1
disk_kept faults.DiskFault old new random_old random_new disk_old disk_new kept other = absurd (other refl)
disk_kept faults.Closed old new random_old random_new disk_old disk_new kept other = kept.2
disk_kept faults.OutOfMemory old new random_old random_new disk_old disk_new kept other = kept.2

pub random_kept : {R D : Type 0} (fault : ApplyFault) (old new : OwnerView) (random_old random_new : R) (disk_old disk_new : D)
    → IsKeptBy (Err fault) old new random_old random_new disk_old disk_new → fault ≡ faults.OutOfMemory → random_new ≡ random_old
random_kept faults.RandomFault old new random_old random_new disk_old disk_new kept is = absurd cc
random_kept (faults.RandomShort left need) old new random_old random_new disk_old disk_new kept is = absurd cc
random_kept faults.DiskFault old new random_old random_new disk_old disk_new kept is = absurd cc
random_kept faults.Closed old new random_old random_new disk_old disk_new kept is = absurd cc
random_kept faults.OutOfMemory old new random_old random_new disk_old disk_new kept is = kept.1

pub refused_kept : {R D : Type 0} (reply : Reply) (why : Refusal) (old new : OwnerView) (random_old random_new : R) (disk_old disk_new : D)
    → IsKeptBy (Ok reply) old new random_old random_new disk_old disk_new → reply ≡ replies.Refused why → (random_new ≡ random_old) × (disk_new ≡ disk_old)
refused_kept reply why old new random_old random_new disk_old disk_new kept is =
    let same = subst (λ r. IsKeptBy (Ok r) old new random_old random_new disk_old disk_new) is kept in (same.1, same.2)
