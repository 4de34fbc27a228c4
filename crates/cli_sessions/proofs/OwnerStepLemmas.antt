-- What an owner promises of a command, put together as what `run` asks of it.
use Rattle.std.proofs.Common.{◌≡◌, ◌≤◌, ◌↔◌, ℕ, List, Option, Result, Ok, Err, ap, arith, false, refl}
use Rattle.std.specs.Prelude.{IsTrue, MatchResult, OnOk, is_some, ◌≢◌}
use Rattle.batch_log.specs.Moments.{FromThenOn}
use Rattle.commit_journal.specs.Holding.{GoesOn}
use Rattle.cry_base.specs.Requests.{Request}
use Rattle.cry_base.specs.declared.commands.Reply.{Reply}
use Rattle.cry_base.specs.declared.commands.Reply.TheVariants as replies
use Rattle.cry_io.specs.Stops.{IsDurable}
use Rattle.cli_sessions.specs.OwnerSteps.{AnswersIn, FailsIn, Scene}
use Rattle.public_fold.specs.Journal.{Journal}
use Rattle.store_owner.specs.Acting.{Acts}
use Rattle.store_owner.specs.Applying.{Answers, DiskCounts, IsKeptBy, UnlessDiskFault}
use Rattle.store_owner.specs.Drawing.{FillsByCount}
use Rattle.store_owner.specs.Deeds.Deed.{Commanded}
use Rattle.store_owner.specs.Owned.{IsOwnerOf, OwnerView}
use Rattle.store_owner.specs.Published.{PublishesOn}
use Rattle.store_owner.specs.Tallied.{CountsCommand}
use Rattle.store_owner.specs.Taking.{FallsShort, TakesKeys}
use Rattle.store_owner.specs.declared.apply_fault.ApplyFault.{ApplyFault}
use Rattle.store_owner.specs.declared.apply_fault.ApplyFault.TheVariants as faults

-- an owner and the two objects, as a scene
abbrev pub scene : {R D : Type 0} → (R → Option (List ℕ)) → (R → ℕ) → (D → Option (List ℕ)) → (D → ℕ) → (D → ℕ) → OwnerView → R → D → Scene
scene left random_faults shown moment disk_faults o x d = record {
  owner = o;
  left = left x;
  shown = shown d;
  moment = moment d;
  random_faults = random_faults x;
  disk_faults = disk_faults d;
}

-- each answer, and each fault
pub step_answers : {R D : Type 0} (left : R → Option (List ℕ)) (random_faults : R → ℕ) (shown : D → Option (List ℕ)) (moment : D → ℕ)
    (disk_faults : D → ℕ) (may_leave : D → List ℕ → Type 0) (since : D → ℕ → List ℕ → List ℕ → Type 0) (result : Result Reply ApplyFault)
    (r : Request) (o n : OwnerView) (x y : R) (d e : D)
    → ((m : Journal) → IsOwnerOf m o → Answers result m (Commanded r) o n (left x) (left y) (shown d) (shown e) (may_leave d) (may_leave e) (since e (moment d)))
    → PublishesOn o (shown d) (may_leave d) (FromThenOn moment since d e)
    → moment d ≤ moment e → GoesOn (moment d) (since d) (since e)
    → ((result ≡ Err faults.Closed) ↔ IsTrue o.journal.is_closed) → o.journal.is_closed ≡ false
    → IsKeptBy result o n x y d e → UnlessDiskFault result (IsDurable (may_leave e) (shown e)) → CountsCommand result (Commanded r) o n
    → is_some (shown e) ≡ is_some (shown d) → is_some (left y) ≡ is_some (left x)
    → DiskCounts result (disk_faults d) (disk_faults e) → FillsByCount result (random_faults x) (random_faults y)
    → OnOk result (TakesKeys (left x) (left y))
    → ((had need : ℕ) → result ≡ Err (faults.RandomShort had need) → FallsShort o (Commanded r) had need (left x) (left y)) → n.key ≡ o.key
    → Acts result (Commanded r) o n (left x) (left y) (shown d) (shown e)
    → MatchResult result
    (λ reply. AnswersIn (scene left random_faults shown moment disk_faults o x d) r reply (scene left random_faults shown moment disk_faults n y e)
    (may_leave d) (may_leave e) (since d) (since e) × PublishesOn o (shown d) (may_leave d) (FromThenOn moment since d e))
    (λ fault. FailsIn (scene left random_faults shown moment disk_faults o x d) r fault (scene left random_faults shown moment disk_faults n y e)
    (may_leave d) (may_leave e) (since d) (since e) × (fault ≢ faults.DiskFault → IsDurable (may_leave e) (shown e))
    × PublishesOn o (shown d) (may_leave d) (FromThenOn moment since d e))
step_answers left rf shown moment df may_leave since (Ok (replies.Refused why)) r o n x y d e answers published later time closed unclosed kept calm counted st lt dc rc draws short same acts = (
  record {
    answers = answers;
    acts = acts;
    later = later;
    time = time;
    same_key = same;
    left_told = lt;
    shown_told = st;
    draws = draws;
    kept = λ w is. (ap left kept.1, ap shown kept.2);
    counted = counted;
    random_counts = rc;
    disk_counts = dc;
  },
  published,
)
step_answers left rf shown moment df may_leave since (Ok replies.Done) r o n x y d e answers published later time closed unclosed kept calm counted st lt dc rc draws short same acts = (
  record {
    answers = answers;
    acts = acts;
    later = later;
    time = time;
    same_key = same;
    left_told = lt;
    shown_told = st;
    draws = draws;
    kept = λ w is. absurd cc;
    counted = counted;
    random_counts = rc;
    disk_counts = dc;
  },
  published,
)
step_answers left rf shown moment df may_leave since (Ok (replies.Made holder key)) r o n x y d e answers published later time closed unclosed kept calm counted st lt dc rc draws short same acts = (
  record {
    answers = answers;
    acts = acts;
    later = later;
    time = time;
    same_key = same;
    left_told = lt;
    shown_told = st;
    draws = draws;
    kept = λ w is. absurd cc;
    counted = counted;
    random_counts = rc;
    disk_counts = dc;
  },
  published,
)
step_answers left rf shown moment df may_leave since (Err faults.RandomFault) r o n x y d e answers published later time closed unclosed kept calm counted st lt dc rc draws short same acts = (
  record {
    answers = answers;
    acts = acts;
    later = later;
    time = time;
    left_told = lt;
    shown_told = st;
    short = λ had need is. short had need (ap Err is);
    undrawn = λ is. absurd cc;
    unwritten = λ no. ap shown kept.1;
    never_closed = λ is. absurd cc;
    random_counts = omega (arith, rc);
    disk_counts = dc;
    random_fault = λ is. rc;
    disk_fault = λ is. absurd cc;
  },
  λ no. calm,
  published,
)
step_answers left rf shown moment df may_leave since (Err (faults.RandomShort had need)) r o n x y d e answers published later time closed unclosed kept calm counted st lt dc rc draws short same acts = (
  record {
    answers = answers;
    acts = acts;
    later = later;
    time = time;
    left_told = lt;
    shown_told = st;
    short = λ h m is. short h m (ap Err is);
    undrawn = λ is. absurd cc;
    unwritten = λ no. ap shown kept.1;
    never_closed = λ is. absurd cc;
    random_counts = rc;
    disk_counts = dc;
    random_fault = λ is. absurd cc;
    disk_fault = λ is. absurd cc;
  },
  λ no. calm,
  published,
)
step_answers left rf shown moment df may_leave since (Err faults.DiskFault) r o n x y d e answers published later time closed unclosed kept calm counted st lt dc rc draws short same acts = (
  record {
    answers = answers;
    acts = acts;
    later = later;
    time = time;
    left_told = lt;
    shown_told = st;
    short = λ had need is. short had need (ap Err is);
    undrawn = λ is. absurd cc;
    unwritten = λ no. absurd (no refl);
    never_closed = λ is. absurd cc;
    random_counts = rc;
    disk_counts = omega (arith, dc);
    random_fault = λ is. absurd cc;
    disk_fault = λ is. dc;
  },
  λ no. absurd (no refl),
  published,
)
step_answers left rf shown moment df may_leave since (Err faults.Closed) r o n x y d e answers published later time closed unclosed kept calm counted st lt dc rc draws short same acts =
    let shut : IsTrue o.journal.is_closed = closed.0 refl in
    absurd cc
step_answers left rf shown moment df may_leave since (Err faults.OutOfMemory) r o n x y d e answers published later time closed unclosed kept calm counted st lt dc rc draws short same acts = (
  record {
    answers = answers;
    acts = acts;
    later = later;
    time = time;
    left_told = lt;
    shown_told = st;
    short = λ had need is. short had need (ap Err is);
    undrawn = λ is. ap left kept.1;
    unwritten = λ no. ap shown kept.2;
    never_closed = λ is. absurd cc;
    random_counts = rc;
    disk_counts = dc;
    random_fault = λ is. absurd cc;
    disk_fault = λ is. absurd cc;
  },
  λ no. calm,
  published,
)
