-- What an owner promises of a command holds from where the disk was only read before it.
use Rattle.std.proofs.Common.{◌≡◌, ◌≤◌, ◌⊎◌, inl, ℕ, List, Option, Some, Result, Ok, Err, arith, refl, sym, subst, ◌∙◌}
use Rattle.std.specs.Prelude.{◌↔◌}
use Rattle.batch_log.specs.Handing.{IsStage, IsTornStage}
use Rattle.batch_log.specs.Moments.{FromThenOn, GoesOn, Throughout}
use Rattle.batch_log.proofs.Handed.{at_start}
use Rattle.batch_log.proofs.InOrder.{on_in_both, on_in_one}
use Rattle.batch_log.proofs.Moments.{goes_on_then, in_both}
use Rattle.batch_log.proofs.WrittenMoments.{told_one}
use Rattle.commit_journal.specs.Gates.{recovered}
use Rattle.commit_journal.specs.Holding.{IsKept, IsPrefix}
use Rattle.commit_journal.proofs.KeptLemmas.{prefix_same, prefix_trans}
use Rattle.commit_journal.proofs.OpenedMoments.{read_throughout}
use Rattle.cry_base.specs.Requests.{Request}
use Rattle.cry_base.specs.declared.commands.Reply.{Reply}
use Rattle.cry_base.specs.declared.commands.Reply.TheVariants as replies
use Rattle.cry_io.specs.Reading.{IsOnlyRead}
use Rattle.cry_io.specs.declared.disk.Disk as disk
use Rattle.journal_bytes.specs.Bytes.{batches_of}
use Rattle.journal_bytes.specs.Journals.{Kept, StandsForJournal}
use Rattle.journal_bytes.proofs.Grown.{batches_grow, journal_recovered}
use Rattle.public_fold.specs.Journal.{Journal}
use Rattle.cli_sessions.specs.OwnerSteps.{AnswersIn, FailsIn, Scene}
use Rattle.cli_sessions.specs.Published.{KeepsBatches}
use Rattle.cli_sessions.proofs.RunLemmas.{Fails, IsCounted, IsPresent, Step}
use Rattle.cli_sessions.proofs.StopLemmas.{time_still}
use Rattle.store_owner.specs.Applying.{Answers, IsCutShort, IsDone}
use Rattle.store_owner.specs.Deeds.{Deed}
use Rattle.store_owner.specs.Deeds.Deed.{Commanded}
use Rattle.store_owner.specs.Owned.{IsOwnerOf, OwnerView}
use Rattle.store_owner.specs.Published.{HasPublished, PublishesOn, published_batches}
use Rattle.store_owner.specs.Stopping.{ComesToRest, RestsAt, StopsBetween, journal_writes}
use Rattle.store_owner.specs.declared.apply_fault.ApplyFault.{ApplyFault}
use Rattle.store_owner.specs.declared.apply_fault.ApplyFault.TheVariants as faults
use Rattle.store_owner.proofs.PublishedCommands.{journal_published, rests_for}

-- ---- one call, by what the disk is at its moments

-- between two moments of a disk nothing was written: what is shown and left stays, at each moment between them too
pub record StaysSame (was shown : Option (List ℕ)) (left leaves : List ℕ → Type 0) (first now : ℕ) (past since : ℕ → List ℕ → List ℕ → Type 0) : Type 0 where
  pub shows : shown ≡ was
  pub stops : (c : List ℕ) → leaves c ↔ left c
  pub later : first ≤ now
  pub time : GoesOn first past since
  pub same : Throughout (λ s c. (was ≡ Some s) × left c) (since first)

module _ (was : Option (List ℕ)) (left leaves : List ℕ → Type 0) (first now : ℕ) (past since later : ℕ → List ℕ → List ℕ → Type 0)
    (read : StaysSame was was left leaves first now past since) (goes : GoesOn now since later) where
  rests_then : (key : List ℕ) (m : Journal) → RestsAt key m was left → RestsAt key m was leaves
  rests_then key m rests = record { shows = rests.shows; durable = λ c may. rests.durable c ((read.stops c).0 may) }

  -- what is kept in the call was kept before it
  kept_from : (key : List ℕ) (low high : Journal) → RestsAt key low was left → Kept key low low high (later now) → Kept key low low high (later first)
  kept_from key low high rests kept =
      in_both first now since later (λ s c. IsKept (StandsForJournal key) low low high c) read.later goes
      (λ s c at.
      let is = read.same s c at in
      (let held : IsKept (StandsForJournal key) low low high c = record {
        held = low;
        from = prefix_same low;
        to = inl (prefix_same low);
        stands_for = rests_for key low was left rests c (rests.durable c is.1);
      } in held))
      kept

  stops_from : (key : List ℕ) (low high : Journal) (shows : Option (List ℕ)) (may : List ℕ → Type 0) → StopsBetween key low high was shows leaves may (later now) →
      StopsBetween key low high was shows left may (later first)
  stops_from key low high shows may stops = record {
    kept = λ rests. kept_from key low high rests (stops.kept (rests_then key low rests));
    holds = λ rests. stops.holds (rests_then key low rests);
    hands = λ x x_is.
        let writes = journal_writes key low high in
        in_both first now since later (λ s c. IsStage writes x s ⊎ (Unit {0} × (shows ≡ Some s) × IsTornStage writes x s)) read.later goes
        (λ s c at. inl (subst (λ r. IsStage writes x r) (told_one was x s x_is (read.same s c at).0) (at_start writes x)))
        (stops.hands x x_is);
  }

  rest_from : (key : List ℕ) (low high : Journal) (shows : Option (List ℕ)) (may : List ℕ → Type 0) → ComesToRest key low high was shows leaves may (later now) →
      ComesToRest key low high was shows left may (later first)
  rest_from key low high shows may comes = record {
    stops = stops_from key low high shows may comes.stops;
    rests = λ rests. comes.rests (rests_then key low rests);
    handed = comes.handed;
  }

  done_from : (m : Journal) (d : Deed) (reply : Reply) (old new : OwnerView) (left_before left_after shows : Option (List ℕ)) (may : List ℕ → Type 0) →
      IsDone m d reply old new left_before left_after was shows leaves may (later now) → IsDone m d reply old new left_before left_after was shows left may (later first)
  done_from m d reply old new left_before left_after shows may done = record {
    drawn = done.drawn;
    drawn_count = done.drawn_count;
    drawn_sizes = done.drawn_sizes;
    accepted = done.accepted;
    reply_is = done.reply_is;
    owner_is = done.owner_is;
    has_begun = done.has_begun;
    same_key = done.same_key;
    same_limits = done.same_limits;
    next_bytes = done.next_bytes;
    disk_stands = done.disk_stands;
    further = done.further;
    disk_behind = done.disk_behind;
    comes_to_rest = rest_from old.key m _ shows may done.comes_to_rest;
  }

  cut_from : (m : Journal) (d : Deed) (old : OwnerView) (left_before left_after shows : Option (List ℕ)) (may : List ℕ → Type 0) →
      IsCutShort m d old left_before left_after was shows leaves may (later now) → IsCutShort m d old left_before left_after was shows left may (later first)
  cut_from m d old left_before left_after shows may cut = record {
    drawn = cut.drawn;
    drawn_count = cut.drawn_count;
    drawn_sizes = cut.drawn_sizes;
    next_bytes = cut.next_bytes;
    disk_stands = cut.disk_stands;
    stops = stops_from old.key m _ shows may cut.stops;
  }

  answers_from : (result : Result Reply ApplyFault) (m : Journal) (d : Deed) (old new : OwnerView) (left_before left_after shows : Option (List ℕ)) (may : List ℕ → Type 0) →
      Answers result m d old new left_before left_after was shows leaves may (later now) → Answers result m d old new left_before left_after was shows left may (later first)
  answers_from (Ok (replies.Refused why)) m d old new left_before left_after shows may met = (met.0, met.1, rest_from old.key m m shows may met.2)
  answers_from (Ok (replies.Made holder key)) m d old new left_before left_after shows may met = done_from m d (replies.Made holder key) old new left_before left_after shows may met
  answers_from (Ok replies.Done) m d old new left_before left_after shows may met = done_from m d replies.Done old new left_before left_after shows may met
  answers_from (Err (faults.RandomShort given need)) m d old new left_before left_after shows may met =
      (met.0, met.1, met.2, met.3, met.4, met.5, rest_from old.key m m shows may met.6)
  answers_from (Err faults.RandomFault) m d old new left_before left_after shows may met = (met.0, met.1, rest_from old.key m m shows may met.2)
  answers_from (Err faults.DiskFault) m d old new left_before left_after shows may met = (met.0, met.1, cut_from m d old left_before left_after shows may met.2)
  answers_from (Err faults.Closed) m d old new left_before left_after shows may met = (met.0, met.1, rest_from old.key m m shows may met.2)
  answers_from (Err faults.OutOfMemory) m d old new left_before left_after shows may met = (met.0, rest_from old.key m m shows may met.1)

-- ---- a scene

-- the same owner, over the same random bytes
abbrev pub scene_of : OwnerView → Option (List ℕ) → ℕ → Option (List ℕ) → ℕ → ℕ → Scene
scene_of owner left random_faults shown moment disk_faults = record {
  owner = owner;
  left = left;
  shown = shown;
  moment = moment;
  random_faults = random_faults;
  disk_faults = disk_faults;
}

module _ (owner : OwnerView) (random : Option (List ℕ)) (random_faults : ℕ) (was : Option (List ℕ)) (left leaves : List ℕ → Type 0) (first now : ℕ)
    (past since later : ℕ → List ℕ → List ℕ → Type 0) (read : StaysSame was was left leaves first now past since) (few some : ℕ) (counts : few ≤ some) where
  abbrev before_all : Scene
  before_all = scene_of owner random random_faults was first few

  abbrev between : Scene
  between = scene_of owner random random_faults was now some

  pub same_answers : (request : Request) (reply : Reply) (after : Scene) (may : List ℕ → Type 0) → AnswersIn between request reply after leaves may since later →
      AnswersIn before_all request reply after left may past later
  same_answers request reply after may is = record {
    answers = λ m owner_is. answers_from was left leaves first now past since later read is.time (Ok reply) m (Commanded request) owner after.owner random after.left after.shown may (is.answers m owner_is);
    acts = is.acts;
    later = let one = read.later in let two = is.later in omega arith;
    time = goes_on_then first now past since later read.later read.time is.time;
    same_key = is.same_key;
    left_told = is.left_told;
    shown_told = is.shown_told;
    draws = is.draws;
    kept = is.kept;
    counted = is.counted;
    random_counts = is.random_counts;
    disk_counts = let two = is.disk_counts in omega arith;
  }

  pub same_fails : (request : Request) (fault : ApplyFault) (after : Scene) (may : List ℕ → Type 0) → FailsIn between request fault after leaves may since later →
      FailsIn before_all request fault after left may past later
  same_fails request fault after may is = record {
    answers = λ m owner_is. answers_from was left leaves first now past since later read is.time (Err fault) m (Commanded request) owner after.owner random after.left after.shown may (is.answers m owner_is);
    acts = is.acts;
    later = let one = read.later in let two = is.later in omega arith;
    time = goes_on_then first now past since later read.later read.time is.time;
    left_told = is.left_told;
    shown_told = is.shown_told;
    short = is.short;
    undrawn = is.undrawn;
    unwritten = is.unwritten;
    never_closed = is.never_closed;
    random_counts = is.random_counts;
    disk_counts = let two = is.disk_counts in omega arith;
    random_fault = is.random_fault;
    disk_fault = λ failed. let two = is.disk_fault failed in omega arith;
  }

-- ---- an owner, a random source and a disk

module _ (R D : Type 0) (left : R → Option (List ℕ)) (random_faults : R → ℕ) (shown : D → Option (List ℕ)) (disk_faults : D → ℕ)
    (may_leave : D → List ℕ → Type 0) (moment : D → ℕ) (since : D → ℕ → List ℕ → List ℕ → Type 0) where
  -- the disk was only read from the one to the other
  pub record IsRead (a b : D) : Type 0 where
    pub same : StaysSame (shown a) (shown b) (may_leave a) (may_leave b) (moment a) (moment b) (since a) (since b)
    pub counts : disk_faults a ≤ disk_faults b

  -- so it was while the owner and the random source stayed as they were
  abbrev pub Reads : OwnerView × R × D → OwnerView × R × D → Type 0
  Reads x z = (z.0 ≡ x.0) × (z.1 ≡ x.1) × IsRead x.2 z.2

  -- what a stop leaves of a disk that rests has the journal's batches while it is only read
  pub read_has : (key : List ℕ) (m : Journal) (a b : D) → IsRead a b → RestsAt key m (shown a) (may_leave a) → KeepsBatches key m (since b (moment a))
  read_has key m a b read rests = λ s c at.
      let leaves : may_leave a c = (read.same.same s c at).1 in
      subst (IsPrefix (batches_of key m)) (sym (journal_recovered key m c (rests_for key m (shown a) (may_leave a) rests c (rests.durable c leaves)))) (prefix_same (batches_of key m))

  abbrev Goes : OwnerView × R × D → Request → Reply → OwnerView × R × D → Type 0
  Goes = Step R D left random_faults shown disk_faults may_leave moment since

  abbrev Meets : OwnerView × R × D → Request → ApplyFault → OwnerView × R × D → Type 0
  Meets = Fails R D left random_faults shown disk_faults may_leave moment since

  abbrev On : D → D → (List ℕ → List ℕ → Type 0) → Type 0
  On a e = FromThenOn moment since a e

  same_shown : (a b : D) → IsRead a b → StaysSame (shown a) (shown a) (may_leave a) (may_leave b) (moment a) (moment b) (since a) (since b)
  same_shown a b read = record { shows = refl; stops = read.same.stops; later = read.same.later; time = read.same.time; same = read.same.same }

  answers_on : (owner : OwnerView) (random : R) (a b : D) → IsRead a b → (request : Request) (reply : Reply) (y : OwnerView × R × D) →
      AnswersIn (scene_of owner (left random) (random_faults random) (shown b) (moment b) (disk_faults b)) request reply (scene_of y.0 (left y.1) (random_faults y.1) (shown y.2) (moment y.2) (disk_faults y.2))
      (may_leave b) (may_leave y.2) (since b) (since y.2) →
      AnswersIn (scene_of owner (left random) (random_faults random) (shown a) (moment a) (disk_faults a)) request reply (scene_of y.0 (left y.1) (random_faults y.1) (shown y.2) (moment y.2) (disk_faults y.2))
      (may_leave a) (may_leave y.2) (since a) (since y.2)
  answers_on owner random a b read request reply y is =
      same_answers owner (left random) (random_faults random) (shown a) (may_leave a) (may_leave b) (moment a) (moment b) (since a) (since b) (since y.2) (same_shown a b read)
      (disk_faults a) (disk_faults b) read.counts request reply (scene_of y.0 (left y.1) (random_faults y.1) (shown y.2) (moment y.2) (disk_faults y.2)) (may_leave y.2)
      (subst (λ w. AnswersIn (scene_of owner (left random) (random_faults random) w (moment b) (disk_faults b)) request reply
      (scene_of y.0 (left y.1) (random_faults y.1) (shown y.2) (moment y.2) (disk_faults y.2)) (may_leave b) (may_leave y.2) (since b) (since y.2)) read.same.shows is)

  fails_on : (owner : OwnerView) (random : R) (a b : D) → IsRead a b → (request : Request) (fault : ApplyFault) (y : OwnerView × R × D) →
      FailsIn (scene_of owner (left random) (random_faults random) (shown b) (moment b) (disk_faults b)) request fault (scene_of y.0 (left y.1) (random_faults y.1) (shown y.2) (moment y.2) (disk_faults y.2))
      (may_leave b) (may_leave y.2) (since b) (since y.2) →
      FailsIn (scene_of owner (left random) (random_faults random) (shown a) (moment a) (disk_faults a)) request fault (scene_of y.0 (left y.1) (random_faults y.1) (shown y.2) (moment y.2) (disk_faults y.2))
      (may_leave a) (may_leave y.2) (since a) (since y.2)
  fails_on owner random a b read request fault y is =
      same_fails owner (left random) (random_faults random) (shown a) (may_leave a) (may_leave b) (moment a) (moment b) (since a) (since b) (since y.2) (same_shown a b read)
      (disk_faults a) (disk_faults b) read.counts request fault (scene_of y.0 (left y.1) (random_faults y.1) (shown y.2) (moment y.2) (disk_faults y.2)) (may_leave y.2)
      (subst (λ w. FailsIn (scene_of owner (left random) (random_faults random) w (moment b) (disk_faults b)) request fault
      (scene_of y.0 (left y.1) (random_faults y.1) (shown y.2) (moment y.2) (disk_faults y.2)) (may_leave b) (may_leave y.2) (since b) (since y.2)) read.same.shows is)

  -- ---- what is published

  module _ (present : IsPresent R D left random_faults shown disk_faults may_leave moment since) (counted : IsCounted R D left random_faults shown disk_faults may_leave moment since) where
    still : (d : D) → GoesOn (moment d) (since d) (since d)
    still d = time_still (moment d) (since d) (shown d) (may_leave d) (λ s c at. present d s c at) (λ t s c early is leaves. counted d t s c early is leaves)

    -- while a disk that rests is only read
    pub read_keeps : (key : List ℕ) (m : Journal) (a b : D) → IsRead a b → RestsAt key m (shown a) (may_leave a) → On a b (HasPublished key)
    read_keeps key m a b read rests =
        let stands : (c : List ℕ) → shown a ≡ Some c → StandsForJournal key m c = rests_for key m (shown a) (may_leave a) rests in
        on_in_one D moment since (HasPublished key) a b read.same.later read.same.time
        (λ s c t e at then. (journal_published key m s e (stands s (read.same.same s c at).0) (stands e (rests.durable e (read.same.same t e then).1))).0)

    published_on : (o : OwnerView) (a b y : D) → IsRead a b → PublishesOn o (shown b) (may_leave b) (On b y) →
        ((m : Journal) → IsOwnerOf m o → RestsAt o.key m (shown a) (may_leave a) → KeepsBatches o.key m (since y (moment b))) →
        PublishesOn o (shown a) (may_leave a) (On a y)
    published_on o a b y read publishes has m owner_is rests =
        let stands : (c : List ℕ) → shown a ≡ Some c → StandsForJournal o.key m c = rests_for o.key m (shown a) (may_leave a) rests in
        let there : RestsAt o.key m (shown b) (may_leave b) =
        subst (λ w. RestsAt o.key m w (may_leave b)) (sym read.same.shows) (rests_then (shown a) (may_leave a) (may_leave b) (moment a) (moment b) (since a) (since b) (since b) (same_shown a b read) (still b) o.key m rests)
        in
        on_in_both D moment since (HasPublished o.key) a b y still
        (read_keeps o.key m a b read rests)
        (publishes m owner_is there)
        (λ s c t e at then.
        let one = stands s (read.same.same s c at).0 in
        prefix_trans (published_batches o.key s) (batches_of o.key m) (recovered o.key e) (journal_published o.key m s s one one).1 (has m owner_is rests t e then))

    -- a call that kept a journal
    kept_has : (key : List ℕ) (low high reached : Journal) (times : List ℕ → List ℕ → Type 0) → Kept key low high reached times → KeepsBatches key low times
    kept_has key low high reached times kept s c at =
        let k = kept s c at in
        subst (IsPrefix (batches_of key low)) (sym (journal_recovered key k.held c k.stands_for)) (batches_grow key low k.held k.from)

    answered_has : (result : Result Reply ApplyFault) (m : Journal) (d : Deed) (old new : OwnerView) (left_before left_after was shows : Option (List ℕ)) (might may : List ℕ → Type 0)
        (times : List ℕ → List ℕ → Type 0) → Answers result m d old new left_before left_after was shows might may times → RestsAt old.key m was might → KeepsBatches old.key m times
    answered_has (Ok (replies.Refused why)) m d old new left_before left_after was shows might may times met rests = kept_has old.key m _ _ times (met.2.stops.kept rests)
    answered_has (Ok (replies.Made holder key)) m d old new left_before left_after was shows might may times met rests = kept_has old.key m _ _ times (met.comes_to_rest.stops.kept rests)
    answered_has (Ok replies.Done) m d old new left_before left_after was shows might may times met rests = kept_has old.key m _ _ times (met.comes_to_rest.stops.kept rests)
    answered_has (Err (faults.RandomShort given need)) m d old new left_before left_after was shows might may times met rests = kept_has old.key m _ _ times (met.6.stops.kept rests)
    answered_has (Err faults.RandomFault) m d old new left_before left_after was shows might may times met rests = kept_has old.key m _ _ times (met.2.stops.kept rests)
    answered_has (Err faults.DiskFault) m d old new left_before left_after was shows might may times met rests = kept_has old.key m _ _ times (met.2.stops.kept rests)
    answered_has (Err faults.Closed) m d old new left_before left_after was shows might may times met rests = kept_has old.key m _ _ times (met.2.stops.kept rests)
    answered_has (Err faults.OutOfMemory) m d old new left_before left_after was shows might may times met rests = kept_has old.key m _ _ times (met.1.stops.kept rests)

    -- ---- a command behind reads

    step_from : (owner : OwnerView) (random : R) (a b : D) → IsRead a b → (request : Request) (reply : Reply) (y : OwnerView × R × D) →
        Goes (owner, random, b) request reply y → Goes (owner, random, a) request reply y
    step_from owner random a b read request reply y step = (
      answers_on owner random a b read request reply y step.0,
      published_on owner a b y.2 read step.1
          (λ m owner_is rests. answered_has (Ok reply) m (Commanded request) owner y.0 (left random) (left y.1) (shown b) (shown y.2) (may_leave b) (may_leave y.2) (since y.2 (moment b))
          (step.0.answers m owner_is)
          (subst (λ w. RestsAt owner.key m w (may_leave b)) (sym read.same.shows) (rests_then (shown a) (may_leave a) (may_leave b) (moment a) (moment b) (since a) (since b) (since b) (same_shown a b read) (still b) owner.key m rests))),
    )

    fault_from : (owner : OwnerView) (random : R) (a b : D) → IsRead a b → (request : Request) (fault : ApplyFault) (y : OwnerView × R × D) →
        Meets (owner, random, b) request fault y → Meets (owner, random, a) request fault y
    fault_from owner random a b read request fault y met = (
      fails_on owner random a b read request fault y met.0,
      met.1,
      published_on owner a b y.2 read met.2
          (λ m owner_is rests. answered_has (Err fault) m (Commanded request) owner y.0 (left random) (left y.1) (shown b) (shown y.2) (may_leave b) (may_leave y.2) (since y.2 (moment b))
          (met.0.answers m owner_is)
          (subst (λ w. RestsAt owner.key m w (may_leave b)) (sym read.same.shows) (rests_then (shown a) (may_leave a) (may_leave b) (moment a) (moment b) (since a) (since b) (since b) (same_shown a b read) (still b) owner.key m rests))),
    )

    pub step_on : (x z : OwnerView × R × D) → Reads x z → (request : Request) (reply : Reply) (y : OwnerView × R × D) → Goes z request reply y → Goes x request reply y
    step_on x z reads request reply y step =
        step_from x.0 x.1 x.2 z.2 reads.2 request reply y
        (subst (λ (r : R). Goes (x.0, r, z.2) request reply y) reads.1 (subst (λ (o : OwnerView). Goes (o, z.1, z.2) request reply y) reads.0 step))

    pub fault_on : (x z : OwnerView × R × D) → Reads x z → (request : Request) (fault : ApplyFault) (y : OwnerView × R × D) → Meets z request fault y → Meets x request fault y
    fault_on x z reads request fault y met =
        fault_from x.0 x.1 x.2 z.2 reads.2 request fault y
        (subst (λ (r : R). Meets (x.0, r, z.2) request fault y) reads.1 (subst (λ (o : OwnerView). Meets (o, z.1, z.2) request fault y) reads.0 met))

    -- ---- reads one after another

    pub read_nothing : (x : OwnerView × R × D) → Reads x x
    read_nothing x = (
      refl,
      refl,
      record {
        same = record {
          shows = refl;
          stops = λ c. (λ may. may, λ may. may);
          later = omega arith;
          time = still x.2;
          same = λ s c at. present x.2 s c at;
        };
        counts = omega arith;
      },
    )

    pub reads_then : (x y z : OwnerView × R × D) → Reads x y → Reads y z → Reads x z
    reads_then x y z one two =
        let a = one.2.same in
        let b = two.2.same in (
          two.0 ∙ one.0,
          two.1 ∙ one.1,
          record {
            same = record {
              shows = b.shows ∙ a.shows;
              stops = λ c. (λ may. (a.stops c).0 ((b.stops c).0 may), λ may. (b.stops c).1 ((a.stops c).1 may));
              later = let first = a.later in let second = b.later in omega arith;
              time = goes_on_then (moment x.2) (moment y.2) (since x.2) (since y.2) (since z.2) a.later a.time b.time;
              same = in_both (moment x.2) (moment y.2) (since y.2) (since z.2) (λ s c. (shown x.2 ≡ Some s) × may_leave x.2 c) a.later b.time a.same
                  (λ s c at. let is = b.same s c at in (sym a.shows ∙ is.0, (a.stops c).0 is.1));
            };
            counts = let first = one.2.counts in let second = two.2.counts in omega arith;
          },
        )

-- ---- a call that only reads

-- what such a call's clauses say of its disk
pub is_read : (R D : Type 0) (left : R → Option (List ℕ)) (random_faults : R → ℕ) (disks : disk.Ghosts D)
    → ((d : D) (s c : List ℕ) → disks.since d (disks.moment d) s c → (disks.shown d ≡ Some s) × disks.may_leave d c)
    → ((d : D) (t : ℕ) (s c : List ℕ) → t ≤ disks.moment d → disks.shown d ≡ Some s → disks.may_leave d c → disks.since d t s c)
    → (a b : D) → IsOnlyRead disks a b → disks.faults a ≤ disks.faults b → IsRead R D left random_faults disks.shown disks.faults disks.may_leave disks.moment disks.since a b
is_read R D left random_faults disks only counts a b read rose =
    let moments = read_throughout disks only counts a b read in
    record {
      same = record {
        shows = read.same_bytes;
        stops = read.same_stops;
        later = moments.later;
        time = moments.time;
        same = moments.same;
      };
      counts = rose;
    }
