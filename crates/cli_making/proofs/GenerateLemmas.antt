-- How `gen` ends, where its script does or the making of its store.
use Rattle.std.proofs.Common.{true, ◌≡◌, ◌≢◌, ◌<◌, ◌≤◌, ◌+◌, ◌⊎◌, ℕ, List, [], ◌++◌, length, Option, Some, None, Result, Ok, Err, inl, inr, refl, sym, ap, subst, ◌∙◌}
use Rattle.std.specs.Prelude.{is_some, IsTrue}
use Rattle.std.proofs.lemmas.Bool.{false≢true}
use Rattle.batch_log.specs.Moments.{FromThenOn}
use Rattle.commit_journal.specs.Holding.{GoesOn}
use Rattle.cry_base.specs.declared.limits.Limits.{Limits}
use Rattle.cry_io.specs.Told.{WhereTold, WhereBothTold}
use Rattle.cry_io.specs.declared.disk.Disk as disk
use Rattle.cry_io.proofs.ToldLemmas.{told_again}
use Rattle.journal_bytes.specs.Bytes.{batches_of}
use Rattle.journal_bytes.specs.Script.{opened}
use Rattle.key_links.specs.Fresh.{fresh_draw_len, fresh_image, piece}
use Rattle.commit_journal.specs.Standing.{StandsWhole}
use Rattle.public_fold.specs.Journal.{Journal}
use Rattle.script_text.specs.Printing.{owner_line}
use Rattle.store_gen.specs.Rule.{requests}
use Rattle.store_owner.specs.Counted.{root_counted}
use Rattle.store_owner.specs.Making as making
use Rattle.store_owner.specs.Owned.{OwnerView}
use Rattle.store_owner.specs.Sessions.{StandsAt}
use Rattle.store_owner.specs.Tallied.{counted_in, tally_in, tally_of}
use Rattle.store_owner.specs.declared.apply_fault.ApplyFault.{ApplyFault}
use Rattle.store_owner.specs.declared.apply_fault.ApplyFault.TheVariants as faults
use Rattle.store_owner.specs.declared.tally.Tally.{Tally}
use Rattle.cli_making.specs.Figures.{spell_figures}
use Rattle.cli_making.specs.Generating.{Announces, Begins, EndsDry, Fills, Generates, HasFilled, IsUnmade, Tells, script_lines, unheard}
use Rattle.cli_sessions.specs.Sessions.{HasApplied, IsStop, StopsApplying, RanCut, RanDry, Seen, apply_status, version_limits}
use Rattle.cli_making.specs.Making.{StandsMade}
use Rattle.cli_sessions.specs.Published.{LinesPublish}
use Rattle.cli_base.specs.Status.{is_before_print, is_make_answer}
use Rattle.cli_sessions.specs.Stopping.{LinesKeepUpTo}
use Rattle.cli_base.specs.Outside.{PrintsAll, PrintsFront}
use Rattle.cli_base.specs.declared.status.Status.{Status}
use Rattle.cli_base.specs.declared.status.Status.TheVariants.{Done, WriteFault, DiskFault, RandomFault, RandomShort, OutOfMemory}
use Rattle.cli_making.proofs.GeneratedLines.{asks_script, script_stood}
use Rattle.cli_making.proofs.MakeLemmas.{fresh_stands, is_short}

-- ---- a script that was applied to its end

-- a text was told that is this one
pub told_as : (printed text : List ℕ) (before after : Option (List ℕ)) (status : Status) → printed ≡ text
    → (status ≡ Done) × WhereBothTold before after (PrintsAll printed) ⊎ (status ≡ WriteFault) × WhereBothTold before after (PrintsFront printed)
    → Tells status text before after
told_as printed text before after status same (inl done) =
    subst (λ s. Tells s text before after) (sym done.0) (subst (λ (t : List ℕ). WhereBothTold before after (PrintsAll t)) same done.1)
told_as printed text before after status same (inr cut) =
    subst (λ s. Tells s text before after) (sym cut.0) (subst (λ (t : List ℕ). WhereBothTold before after (PrintsFront t)) same cut.1)

module _ (text : List ℕ) (before after : Option (List ℕ)) where
  pub told_answers : (status : Status) → Tells status text before after → IsTrue (is_make_answer status)
  told_answers Done tells = refl
  told_answers WriteFault tells = refl
  told_answers OutOfMemory tells = refl
  told_answers _ tells = absurd tells

  -- how it ends otherwise
  pub never_told : {P : Type 0} (status other : Status) → Tells status text before after → status ≡ other → (Tells other text before after → ⊥) → P
  never_told status other tells is none = absurd (none (subst (λ s. Tells s text before after) is tells))

  -- only for want of memory nothing is printed
  pub told_before : {P : Type 0} (status : Status) → Tells status text before after → (status ≡ OutOfMemory → P) → IsTrue (is_before_print status) → P
  told_before Done tells kept is = absurd (false≢true is)
  told_before WriteFault tells kept is = absurd (false≢true is)
  told_before OutOfMemory tells kept is = kept refl
  told_before _ tells kept is = absurd tells

module _ (seed count : ℕ) (key : List ℕ) (m : Journal) (o : OwnerView) (left_before left_after shown : Option (List ℕ)) (may_leave : List ℕ → Type 0) (KeepsTo : Journal → Type 0)
    (before after : Option (List ℕ)) where
  abbrev seen : Seen
  seen = unheard left_before left_after shown

  abbrev Applied : Type 0
  Applied = HasApplied version_limits key m (requests seed count) o seen may_leave KeepsTo

  -- it is told as `Prints` says
  filled : (Prints : List ℕ → List ℕ → List ℕ → Type 0) → Applied → WhereBothTold before after (Prints (owner_line o.key ++ spell_figures (tally_in o)))
      → HasFilled Prints key m (requests seed count) seen may_leave KeepsTo before after
  filled Prints is prints = record {
    session = is.session;
    draws = is.draws;
    leaves = is.leaves;
    kept = is.kept;
    printed = subst (λ (k : List ℕ). WhereBothTold before after (Prints (owner_line k ++ spell_figures (tally_of is.session.now)))) is.same_key
        (subst (λ (t : Tally). WhereBothTold before after (Prints (owner_line o.key ++ spell_figures t))) is.figures prints);
  }

  untold : Applied → RanCut version_limits key m (script_lines seed count) seen may_leave KeepsTo
  untold is = record {
    asked = requests seed count;
    rest = [];
    asks = asks_script seed count;
    session = is.session;
    stood = script_stood true version_limits m is.session.drawn seed count;
    draws = is.draws;
    leaves = is.leaves;
    kept = is.kept;
    prints = λ x y was now. absurd (let no : None ≡ Some x = was in cc);
  }

  pub told_fills : (status : Status) → Applied → Tells status (owner_line o.key ++ spell_figures (tally_in o)) before after
      → Fills status seed count key m seen may_leave KeepsTo before after
  told_fills Done is tells = filled PrintsAll is tells
  told_fills WriteFault is tells = filled PrintsFront is tells
  told_fills OutOfMemory is tells = untold is
  told_fills _ is tells = absurd tells

  -- ---- one that stopped

  pub stop_fills : (status : Status) → IsStop status → StopsApplying status version_limits key m (script_lines seed count) seen may_leave KeepsTo
      → Fills status seed count key m seen may_leave KeepsTo before after
  stop_fills (RandomShort left need) stop is = is
  stop_fills RandomFault stop is = is
  stop_fills DiskFault stop is = is
  stop_fills OutOfMemory stop is = is
  stop_fills _ stop is = absurd stop

pub stop_answers : (status : Status) → IsStop status → IsTrue (is_make_answer status)
stop_answers (RandomShort left need) stop = refl
stop_answers RandomFault stop = refl
stop_answers DiskFault stop = refl
stop_answers OutOfMemory stop = refl
stop_answers _ stop = absurd stop

pub never_stop : {P : Type 0} (status other : Status) → IsStop status → status ≡ other → (IsStop other → ⊥) → P
never_stop status other stop is none = absurd (none (subst IsStop is stop))

-- ---- the announcement, whether or not the disk tells

pub announces : (status : Status) (key : List ℕ) (o : OwnerView) (before after : Option (List ℕ)) → o.key ≡ key
    → Tells status (owner_line o.key ++ spell_figures (tally_in o)) before after → Announces status key before after
announces Done key o before after same tells =
    (tally_in o, subst (λ (k : List ℕ). WhereBothTold before after (PrintsAll (owner_line k ++ spell_figures (tally_in o)))) same tells)
announces WriteFault key o before after same tells =
    (tally_in o, subst (λ (k : List ℕ). WhereBothTold before after (PrintsFront (owner_line k ++ spell_figures (tally_in o)))) same tells)
announces OutOfMemory key o before after same tells = tt
announces _ key o before after same tells = absurd tells

pub stop_announces : (status : Status) (key : List ℕ) (before after : Option (List ℕ)) → IsStop status → Announces status key before after
stop_announces (RandomShort left need) key before after stop = tt
stop_announces RandomFault key before after stop = tt
stop_announces DiskFault key before after stop = tt
stop_announces OutOfMemory key before after stop = tt
stop_announces _ key before after stop = absurd stop

-- ---- a store that was made

-- the root is all that the journal of a fresh store has
abbrev RootCounted : Type 0
RootCounted = (keys : List (List ℕ)) → counted_in (making.made_with keys) ≡ root_counted

-- its owner and the disk stand where a session begins
begins : RootCounted → (drawn : List ℕ) (o : OwnerView) (shown : Option (List ℕ)) (s : List ℕ) → making.IsMade drawn version_limits o → shown ≡ Some s
    → StandsWhole (piece drawn 0) (batches_of (piece drawn 0) (making.made_with (making.root_keys drawn))) s
    → Begins (piece drawn 0) (making.made_with (making.root_keys drawn)) o shown
unfolding opened
begins root drawn o shown s made told whole = record {
  stands = record {
    owner_is = made.owner;
    has_key = made.same_key;
    has_limits = λ i. record { store_bytes = made.journal.same_limit i; file_bytes = made.same_file_bytes i };
    has_begun = made.journal.not_begun;
    disk_stands = (s, told, whole);
  };
  counted = made.counted ∙ sym (root (making.root_keys drawn));
}

-- so it is where the disk shows what was made
begins_there : RootCounted → (drawn : List ℕ) (o : OwnerView) (shown : Option (List ℕ)) (s : List ℕ) → making.IsMade drawn version_limits o
    → WhereTold shown (λ s. s ≡ fresh_image drawn) → shown ≡ Some s → Begins (piece drawn 0) (making.made_with (making.root_keys drawn)) o shown
begins_there root drawn o shown s made shows told =
    let whole = fresh_stands drawn o made.owner made.same_key s (shows s told) in
    begins root drawn o shown s made told whole.stands

-- `start` is the disk as the making left it
pub generated : {D : Type 0} (disks : disk.Ghosts D) → RootCounted → (status : Status) (seed count : ℕ) (o : OwnerView) (left_before left_between left_after : Option (List ℕ))
    (disk_old start disk_new : D) (before after : Option (List ℕ)) → is_some left_between ≡ is_some left_before → is_some (disks.shown disk_new) ≡ is_some (disks.shown start)
    → (store : making.Makes version_limits left_before left_between (disks.shown disk_old) (disks.shown start) (disks.since start (disks.moment disk_old)) o)
    → StandsMade disks store.hands.drawn disk_old start
    → disks.moment start ≤ disks.moment disk_new → GoesOn (disks.moment start) (disks.since start) (disks.since disk_new)
    → ((key : List ℕ) (m : Journal) → Begins key m o (disks.shown start)
    → Fills status seed count key m (unheard left_between left_after (disks.shown disk_new)) (disks.may_leave disk_new) (LinesKeepUpTo key m (disks.shown start) (disks.shown disk_new) (disks.since disk_new (disks.moment start))) before after)
    → ((key : List ℕ) (m : Journal) → StandsAt version_limits key (opened m []) o (disks.shown start)
    → LinesPublish key m (disks.since disk_new (disks.moment start)) (FromThenOn disks.moment disks.since start disk_new))
    → Announces status o.key before after
    → Generates disks status seed count left_before left_after disk_old disk_new before after
generated disks root status seed count o left_before left_between left_after disk_old start disk_new before after left_told shown_told store stands later time fills publish announced =
    let drawn : List ℕ = store.hands.drawn in
    record {
      behind = left_between;
      behind_told = left_told;
      start = start;
      hands = store.hands;
      stands = stands;
      later = later;
      time = time;
      fills = λ x now.
          let s = told_again (disks.shown disk_new) (disks.shown start) x (sym shown_told) now in
          fills (piece drawn 0) (making.made_with (making.root_keys drawn)) (begins_there root drawn o (disks.shown start) s.0 store.owner store.fresh s.1);
      published = λ x now.
          let s = told_again (disks.shown disk_new) (disks.shown start) x (sym shown_told) now in
          let begun = begins_there root drawn o (disks.shown start) s.0 store.owner store.fresh s.1 in
          publish (piece drawn 0) (making.made_with (making.root_keys drawn)) begun.stands;
      announced = subst (λ (key : List ℕ). Announces status key before after) store.owner.same_key announced;
    }

-- behind the making the random source ended in a command's draw
pub dry_behind : (limits : Limits) (o : OwnerView) (left need : ℕ) (before between after was shown : Option (List ℕ)) (since : List ℕ → List ℕ → Type 0)
    → making.Makes limits before between was shown since o → RanDry left need between after → EndsDry left need before after
dry_behind limits o left need before between after was shown since store dry =
    let hands = store.hands in
    inr (between, λ x y had now. (hands.drawn, hands.all_drawn, hands.next_bytes x y had now), dry)

-- ---- and one that wasn't

pub unmade : (R D : Type 0) (left : R → Option (List ℕ)) (disks : disk.Ghosts D) (fault : ApplyFault) (random_old random_new : R) (disk_old disk_new : D) → is_some (left random_new) ≡ is_some (left random_old)
    → ((had need : ℕ) → fault ≡ faults.RandomShort had need
    → (need ≡ fresh_draw_len) × (had < fresh_draw_len) × WhereBothTold (left random_old) (left random_new) (λ before after. (length before ≡ had) × (after ≡ [])))
    → (fault ≡ faults.DiskFault → WhereBothTold (left random_old) (left random_new) (λ before after. length before ≡ fresh_draw_len + length after))
    → (fault ≡ faults.DiskFault → making.HandsFresh ⊥ (left random_old) (left random_new) (disks.shown disk_old) (disks.shown disk_new) (disks.since disk_new (disks.moment disk_old)))
    → fault ≢ faults.Closed → (fault ≡ faults.OutOfMemory → (random_new ≡ random_old) × (disk_new ≡ disk_old)) → (fault ≢ faults.DiskFault → disk_new ≡ disk_old)
    → IsUnmade left disks (apply_status fault) random_old random_new disk_old disk_new
unmade R D left disks faults.RandomFault random_old random_new disk_old disk_new told short drew hands unclosed none kept = kept (λ e. absurd cc)
unmade R D left disks (faults.RandomShort had need) random_old random_new disk_old disk_new told short drew hands unclosed none kept =
    (is_short had need (left random_old) (left random_new) told (short had need refl), kept (λ e. absurd cc))
unmade R D left disks faults.DiskFault random_old random_new disk_old disk_new told short drew hands unclosed none kept = (drew refl, hands refl)
unmade R D left disks faults.Closed random_old random_new disk_old disk_new told short drew hands unclosed none kept = absurd (unclosed refl)
unmade R D left disks faults.OutOfMemory random_old random_new disk_old disk_new told short drew hands unclosed none kept = none refl

-- a script that was applied didn't stop; and one that stopped did so in one way
pub not_stopped : (status : Status) → (let r : Result (Unit {0}) Status = Ok tt in r) ≢ Err status
not_stopped status is = cc

pub same_stop : (one other : Status) → (let r : Result (Unit {0}) Status = Err one in r) ≡ Err other → one ≡ other
same_stop one other is = cc

-- what isn't told as a fault of the disk isn't one
pub other_fault : (fault : ApplyFault) → apply_status fault ≢ DiskFault → fault ≢ faults.DiskFault
other_fault fault other is = other (ap apply_status is)
