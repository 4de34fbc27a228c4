-- Over a list of runs under heads: each begins an epoch above all that the runs before it spent numbers of.
use Rattle.std.proofs.Common.{◌≡◌, ◌<◌, ◌≤◌, ◌⊎◌, ⊎_elim, inl, inr, ℕ, ◌+◌, List, [], ◌∷◌, length, Some, arith, refl, sym, ap, subst, ◌∙◌, length-append}
use Rattle.std.specs.List.{flat_map}
use Rattle.cry_base.specs.Sets.{In}
use Rattle.cry_base.proofs.Members.{In-append}
use Rattle.public_fold.specs.Journal.{Journal}
use Rattle.public_fold.specs.Journal.Entry.{Session}
use Rattle.cry_io.specs.declared.disk.Disk as disk
use Rattle.head_tree.specs.Heads.{IsPrefix}
use Rattle.attempt_laws.specs.Spent.{Spender, all_spenders, number_of, spenders_in}
use Rattle.attempt_laws.specs.Trials.{Trial, attempt_of, held}
use Rattle.attempt_laws.proofs.Epochs.{epoch_in}
use Rattle.attempt_laws.proofs.Rising.{Rises, rises-append, rises_from, rises_to, rising_differ, spent, spent-append}
use Rattle.cli_heads.proofs.TestLemmas.{held_head_begins}
use Rattle.held_laws.specs.Held.{AreHeld, AreTried, Collides, HeldRun, MakesNoEmptyVeil, SpendOnce}
use Rattle.held_laws.proofs.Leaves.{IsBatchOf, LeavesLog, batch_on, leaf_epoch, leaves_within}
use Rattle.held_laws.proofs.Masked.{Agree, AllAgree, LiesBehind, agree_both, begins_epoch, mask_once, trial_epoch}
use Rattle.held_laws.proofs.OneRun.{Loses, Spends, Tried, one_run}
use Rattle.held_laws.proofs.Spending.{first_of}

-- a log has more leaves than this, and a batch of this epoch, which is none or the last of which numbers were spent
abbrev Knows : ℕ → ℕ → List (List ℕ) → Type 0
Knows epoch batches log = (batches < length log) × ((epoch ≡ 0) ⊎ ((leaf : List ℕ) × IsBatchOf log leaf × (leaf_epoch leaf ≡ epoch)))

knows_on : (epoch batches : ℕ) (log more : List (List ℕ)) → IsPrefix log more → Knows epoch batches log → Knows epoch batches more
knows_on epoch batches log more longer knows =
    let long : length more ≡ length log + length longer.0 = ap (λ (l : List (List ℕ)). length l) longer.1 ∙ length-append log longer.0 in
    let first : batches < length log = knows.0 in (
      omega (arith, first, long),
      ⊎_elim (λ none. inl none) (λ there. inr (there.0, batch_on log more there.0 longer there.1, there.2)) knows.1,
    )

-- it is of a later epoch, and begins that or stands behind more batches
abbrev LiesBeyond : ℕ → ℕ → Trial → Type 0
LiesBeyond epoch batches u = (epoch < trial_epoch u) × ((u.entry ≡ Session) ⊎ (batches < length u.behind))

beyond_less : (epoch batches higher more : ℕ) (u : Trial) → epoch ≤ higher → batches ≤ more → LiesBeyond higher more u → LiesBeyond epoch batches u
beyond_less epoch batches higher more u low few lies =
    let later : higher < trial_epoch u = lies.0 in (
      omega (arith, later, low),
      ⊎_elim (λ is. inl is) (λ (far : more < length u.behind). inr (omega (arith, far, few))) lies.1,
    )

behind_beyond : (epoch batches : ℕ) (m : Journal) (u : Trial) → epoch ≤ epoch_in m → batches ≤ length m → LiesBehind m u → LiesBeyond epoch batches u
behind_beyond epoch batches m u low few lies =
    let is : trial_epoch u ≡ epoch_in m + 1 = lies.0 in (
      omega (arith, is, low),
      ⊎_elim (λ begins. inl begins) (λ (far : length m < length u.behind). inr (omega (arith, far, few))) lies.1,
    )

module _ {D : Type 0} (disks : disk.Ghosts D)
    (counted : (d : D) (t : ℕ) (s c : List ℕ) → t ≤ disks.moment d → disks.shown d ≡ Some s → disks.may_leave d c → disks.since d t s c)
    (present : (d : D) (s c : List ℕ) → disks.since d (disks.moment d) s c → (disks.shown d ≡ Some s) × disks.may_leave d c) (key : List ℕ)
    (veiled : MakesNoEmptyVeil key) where
  abbrev Run : Type 0
  Run = HeldRun disks key

  abbrev FoundOne : List Run → Type 0
  FoundOne runs = (run : Run) × In run runs × Collides disks key run

  -- the journal has come so far
  record HasCome (m : Journal) (epoch batches : ℕ) : Type 0 where
    low : epoch ≤ epoch_in m
    few : batches ≤ length m

  -- so the head that was held tells
  held_come : (run : Run) (epoch batches : ℕ) → Knows epoch batches run.named → HasCome run.found epoch batches ⊎ Collides disks key run
  held_come run epoch batches knows =
      let begins = held_head_begins run.head run.image run.held run.named run.names in
      ⊎_elim
      (λ (longer : IsPrefix run.named begins.0).
      let there = knows_on epoch batches run.named begins.0 longer knows in
      let within = leaves_within key run.found run.image begins.0 run.stands_for begins.1 in
      let size = within.size in
      let first : batches < length begins.0 = there.0 in
      inl (record {
        low = ⊎_elim (λ (none : epoch ≡ 0). omega (arith, none)) (λ at. let low = within.epochs at.0 at.1 in let is : leaf_epoch at.0 ≡ epoch = at.2 in omega (arith, low, is)) there.1;
        few = omega (arith, size, first);
      }))
      (λ found. inr (begins.0, begins.1, found))
      begins.2

  -- what the next head's log has
  abbrev FirstKnows : ℕ → ℕ → List Run → Type 0
  FirstKnows epoch batches [] = Unit {0}
  FirstKnows epoch batches (run ∷ runs) = Knows epoch batches run.named

  others_held : (run : Run) (runs : List Run) → AreHeld disks key (run ∷ runs) → AreHeld disks key runs
  others_held run [] held = tt
  others_held run (next ∷ runs) held = held.1

  knows_still : (run : Run) (runs : List Run) (epoch batches : ℕ) → AreHeld disks key (run ∷ runs) → Knows epoch batches run.named → FirstKnows epoch batches runs
  knows_still run [] epoch batches held knows = tt
  knows_still run (next ∷ runs) epoch batches held knows = knows_on epoch batches run.named next.named held.0.longer knows

  knows_left : (run : Run) (runs : List Run) (epoch batches : ℕ) → AreHeld disks key (run ∷ runs) → LeavesLog key run.left batches epoch → FirstKnows epoch batches runs
  knows_left run [] epoch batches held leaves = tt
  knows_left run (next ∷ runs) epoch batches held leaves =
      let size = leaves.size in
      knows_on epoch batches leaves.log next.named (held.0.has_left leaves.log leaves.read) (omega (arith, size), inr (leaves.leaf, leaves.has, leaves.is))

  -- an epoch of the log that was left, and the batches of the log that the head named
  knows_both : (run : Run) (runs : List Run) (epoch batches older more : ℕ) → AreHeld disks key (run ∷ runs) → LeavesLog key run.left more epoch
      → Knows older batches run.named → FirstKnows epoch batches runs
  knows_both run [] epoch batches older more held leaves knows = tt
  knows_both run (next ∷ runs) epoch batches older more held leaves knows =
      ((knows_on older batches run.named next.named held.0.longer knows).0, (knows_left run (next ∷ runs) epoch more held leaves).1)

  -- ---- all of them

  abbrev joined : List (List Trial) → List Trial
  joined all = flat_map (λ (tried : List Trial). tried) all

  abbrev spent_by : List (List Trial) → List Spender
  spent_by all = spent (joined all)

  record Rise (runs : List Run) (epoch batches : ℕ) : Type 0 where
    all : List (List Trial)
    are : AreTried disks key runs all
    high : ℕ
    rises : Rises number_of (spent_by all) (first_of (epoch + 1)) high
    agree : AllAgree (joined all)
    lie : (u : Trial) → In u (joined all) → LiesBeyond epoch batches u

  -- one run more, before those that go on from a later epoch and more batches
  module _ (run : Run) (runs : List Run) (epoch batches higher more : ℕ) (t : Tried disks key run) (come : HasCome run.found epoch batches) where
    more_rises : epoch ≤ higher → batches ≤ more → Rises number_of (spent t.tried) (first_of (epoch + 1)) (first_of (higher + 1))
        → ((u v : Trial) → In u t.tried → LiesBeyond higher more v → Agree u v) → Rise runs higher more → Rise (run ∷ runs) epoch batches
    more_rises low few mine cross rest =
        let all = joined rest.all in
        record {
          all = t.tried ∷ rest.all;
          are = (t.is, rest.are);
          high = rest.high;
          rises = subst (λ l. Rises number_of l (first_of (epoch + 1)) rest.high) (sym (spent-append t.tried all))
              (rises-append Spender number_of (spent t.tried) (spent all) (first_of (epoch + 1)) (first_of (higher + 1)) rest.high mine rest.rises);
          agree = agree_both t.tried all t.agree rest.agree (λ u v i j. cross u v i (rest.lie v j));
          lie = λ u i. ⊎_elim
              (λ first. behind_beyond epoch batches run.found u come.low come.few (t.lies u first))
              (λ later. beyond_less epoch batches higher more u low few (rest.lie u later))
              ((In-append Trial u t.tried all).0 i);
        }

  nothing_spent : (tried : List Trial) → tried ≡ [] → spent tried ≡ []
  unfolding all_spenders
  nothing_spent tried is = ap spent is

  lost_spent : (m : Journal) (tried : List Trial) → tried ≡ begins_epoch m ∷ [] → spent tried ≡ []
  unfolding all_spenders attempt_of held spenders_in
  lost_spent m tried is = ap spent is

  none_rise : (tried : List Trial) (low high : ℕ) → low ≤ high → spent tried ≡ [] → Rises number_of (spent tried) low high
  none_rise tried low high less none = subst (λ l. Rises number_of l low high) (sym none) less

  module _ (run : Run) (runs : List Run) (epoch batches : ℕ) (t : Tried disks key run) (come : HasCome run.found epoch batches) where
    abbrev here : ℕ
    here = epoch_in run.found

    none_more : t.tried ≡ [] → Rise runs epoch batches → Rise (run ∷ runs) epoch batches
    none_more none rest =
        more_rises run runs epoch batches epoch batches t come (omega arith) (omega arith)
        (none_rise t.tried (first_of (epoch + 1)) (first_of (epoch + 1)) (omega arith) (nothing_spent t.tried none))
        (λ u v i lies. absurd (subst (λ (ts : List Trial). In u ts) none i))
        rest

    lost_agrees : t.tried ≡ begins_epoch run.found ∷ [] → (u v : Trial) → In u t.tried → LiesBeyond here (length run.found) v → Agree u v
    lost_agrees one u v i lies epochs numbers =
        let is : u ≡ begins_epoch run.found = ⊎_elim (λ same. same) (λ no. absurd no) (subst (λ (ts : List Trial). In u ts) one i) in
        let long : length u.behind ≡ length run.found = ap (λ (z : Trial). length z.behind) is in
        ⊎_elim
        (λ begins. inr (ap (λ (z : Trial). z.entry) is, begins))
        (λ (far : length run.found < length v.behind). absurd (let no : ⊥ = omega (arith, far, long, numbers) in no))
        lies.1

    lost_more : Loses key run.left run.found t.tried → Rise runs here (length run.found) → Rise (run ∷ runs) epoch batches
    lost_more loses rest =
        let low = come.low in
        more_rises run runs epoch batches here (length run.found) t come low come.few
        (none_rise t.tried (first_of (epoch + 1)) (first_of (here + 1)) (omega (arith, low)) (lost_spent run.found t.tried loses.one))
        (lost_agrees loses.one)
        rest

    apart : (u v : Trial) → In u t.tried → LiesBeyond (here + 1) batches v → Agree u v
    apart u v i lies epochs numbers =
        let is : trial_epoch u ≡ here + 1 = (t.lies u i).0 in
        let later : here + 1 < trial_epoch v = lies.0 in
        absurd (let no : ⊥ = omega (arith, is, later, epochs) in no)

    some_more : Spends key run.left run.found t.tried → Rise runs (here + 1) batches → Rise (run ∷ runs) epoch batches
    some_more spends rest =
        let low = come.low in
        more_rises run runs epoch batches (here + 1) batches t come (omega (arith, low)) (omega arith)
        (rises_to Spender number_of (spent t.tried) (first_of (epoch + 1)) (first_of (here + 2)) (first_of (here + 1 + 1)) (omega arith)
        (rises_from Spender number_of (spent t.tried) (first_of (epoch + 1)) (first_of (here + 1)) (first_of (here + 2)) (omega (arith, low)) spends.rises))
        apart
        rest

  abbrev All : List Run → ℕ → ℕ → Type 0
  All runs epoch batches = Rise runs epoch batches ⊎ FoundOne runs

  later_found : (run : Run) (runs : List Run) → FoundOne runs → FoundOne (run ∷ runs)
  later_found run runs found = (found.0, inr found.1, found.2)

  no_runs : (epoch batches : ℕ) → Rise [] epoch batches
  unfolding all_spenders
  no_runs epoch batches = record { all = []; are = tt; high = first_of (epoch + 1); rises = omega arith; agree = λ t u i j. absurd i; lie = λ u i. absurd i }

  all_rise : (runs : List Run) (epoch batches : ℕ) → FirstKnows epoch batches runs → AreHeld disks key runs → All runs epoch batches
  all_rise [] epoch batches knows held = inl (no_runs epoch batches)
  all_rise (run ∷ runs) epoch batches knows held =
      let t = one_run disks counted present key veiled run in
      let others = others_held run runs held in
      let here = epoch_in run.found in
      let size = length run.found in
      ⊎_elim
      (λ come. ⊎_elim
      (λ none. ⊎_elim
      (λ rest. inl (none_more run runs epoch batches t come none rest))
      (λ found. inr (later_found run runs found))
      (all_rise runs epoch batches (knows_still run runs epoch batches held knows) others))
      (λ some. ⊎_elim
      (λ loses. ⊎_elim
      (λ rest. inl (lost_more run runs epoch batches t come loses rest))
      (λ found. inr (later_found run runs found))
      (all_rise runs here size (knows_left run runs here size held loses.leaves) others))
      (λ spends. ⊎_elim
      (λ rest. inl (some_more run runs epoch batches t come spends rest))
      (λ found. inr (later_found run runs found))
      (all_rise runs (here + 1) batches (knows_both run runs (here + 1) batches epoch spends.batches held spends.leaves knows) others))
      some)
      t.spends)
      (λ found. inr (run, inl refl, found))
      (held_come run epoch batches knows)

  knows_none : (runs : List Run) → FirstKnows 0 0 runs
  knows_none [] = tt
  knows_none (run ∷ runs) = let many = run.names.count in (omega (arith, many), inl refl)

  pub all_once : (runs : List Run) → AreHeld disks key runs → SpendOnce disks key runs ⊎ FoundOne runs
  all_once runs held =
      ⊎_elim
      (λ (rise : Rise runs 0 0). inl (
        rise.all,
        rise.are,
        rising_differ Spender number_of (spent_by rise.all) (first_of 1) rise.high rise.rises,
        mask_once key (joined rise.all) rise.agree,
      ))
      (λ found. inr found)
      (all_rise runs 0 0 (knows_none runs) held)
