-- What opening answers of a log, one step after another.
use Rattle.std.proofs.Common.{◌≡◌, ℕ, Bool, true, false, List, [], ◌∷◌, ◌++◌, Result, Ok, Err, refl, sym, ap, subst, ◌∙◌}
use Rattle.std.specs.Prelude.{if◌then◌else◌, is_some}
use Rattle.commit_journal.specs.Answering.{Fault, NotAStore, WrongKey, Damaged, Tampered, and_then}
use Rattle.commit_journal.specs.Answering as journal
use Rattle.commit_journal.specs.Opening.{OwnedLog}
use Rattle.commit_journal.specs.Placed.{PlainPlaced}
use Rattle.commit_journal.specs.declared.fault.OpenFault.{OpenFault}
use Rattle.commit_journal.specs.declared.fault.OpenFault.TheVariants as faults
use Rattle.cry_base.specs.Layout.{header_len}
use Rattle.cry_base.specs.Store.{Store, folder_entry}
use Rattle.cry_base.specs.declared.roles.Role.TheVariants.{Owner}
use Rattle.log_visits.specs.Answering.{IsFault, client_fault}
use Rattle.log_visits.specs.Asking.{OpenStore, open_with, with_root}
use Rattle.log_visits.specs.Folding.{folded}
use Rattle.log_visits.specs.Judging.{Failure, OfBytes, of_bytes, read_through, then_on}
use Rattle.log_visits.specs.Opening.{IsOpenedBy}
use Rattle.log_visits.specs.Visiting.{Opened, Reading, visit_all}
use Rattle.log_visits.specs.Visits.{all_visits, writing_visits}
use Rattle.log_visits.specs.declared.fault.ClientFault.{ClientFault}
use Rattle.log_visits.proofs.Viewed.{fault_first}
use Rattle.move_plan.specs.Fitting.{folder_stands}
use Rattle.public_fold.specs.Journal.{Stand, nothing}
use Rattle.public_fold.specs.Standing.{IsSeenAs, PublicView}
use Rattle.role_graph.specs.Rights.Who.{TheOwner}
use Rattle.journal_bytes.proofs.OpenedKeys.{same_ok, then_told}
use Rattle.store_owner.specs.Opened.{AreContents, IsOpenFault, opened_at, opened_of, placed_in, reading_with, rooted, starts_with, view_of, visits_of}
use Rattle.store_owner.specs.declared.opening.Contents.{Contents}

-- ---- the root

pub root_seen : (v : PublicView) (at : Stand) → IsSeenAs v at → is_some (folder_entry v.tree 1) ≡ folder_stands at.store 1
unfolding folder_stands folder_entry
root_seen v at seen = sym (ap (λ (s : Store). is_some (folder_entry s 1)) seen.store)

rooted_ok : (at : Stand) → folder_stands at.store 1 ≡ true → rooted at ≡ Ok at
unfolding rooted
rooted_ok at stands = rw stands refl

rooted_err : (at : Stand) → folder_stands at.store 1 ≡ false → rooted at ≡ Err (Damaged header_len)
unfolding rooted
rooted_err at stands = rw stands refl

rooted_told : (at x : Stand) → rooted at ≡ Ok x → (folder_stands at.store 1 ≡ true) × (at ≡ x)
unfolding rooted
rooted_told at x is =
    (elim (folder_stands at.store 1) as (λ b. (let r : Result Stand Fault = if b then Ok at else Err (Damaged header_len) in r) ≡ Ok x → (b ≡ true) × (at ≡ x)) [
      | true ↦ λ e. (refl, same_ok Stand at x e)
      | false ↦ λ e. absurd cc
    ]) is

-- ---- steps

pub fold_fails : (fault : ClientFault) (owner : List ℕ) (log : List PlainPlaced) → IsFault fault (folded nothing log) → IsFault fault (opened_of owner log)
unfolding opened_of
fold_fails fault owner log is = fault_first fault (folded nothing log) (λ at. and_then (rooted at) (opened_at owner log)) is

step_on : (owner : List ℕ) (log : List PlainPlaced) (at : Stand) → folded nothing log ≡ Ok at → folder_stands at.store 1 ≡ true → opened_of owner log ≡ opened_at owner log at
unfolding opened_of and_then
step_on owner log at folds stands = rw (folds, rooted_ok at stands) refl

pub rootless : (owner : List ℕ) (log : List PlainPlaced) (at : Stand) → folded nothing log ≡ Ok at → folder_stands at.store 1 ≡ false → opened_of owner log ≡ Err (Damaged header_len)
unfolding opened_of and_then
rootless owner log at folds stands = rw (folds, rooted_err at stands) refl

pub visits_fail : (fault : ClientFault) (owner : List ℕ) (log : List PlainPlaced) (at : Stand) → folded nothing log ≡ Ok at → folder_stands at.store 1 ≡ true
    → IsFault fault (visit_all (reading_with log at) (visits_of at) (starts_with owner at)) → IsFault fault (opened_of owner log)
unfolding opened_at
visits_fail fault owner log at folds stands is =
    subst (IsFault fault) (sym (step_on owner log at folds stands))
    (fault_first fault (visit_all (reading_with log at) (visits_of at) (starts_with owner at)) (λ after. Ok (record { reading = reading_with log at; opened = after })) is)

-- all of it was opened
pub contents_are : (owner : List ℕ) (log : List PlainPlaced) (at : Stand) (contents : Contents) → folded nothing log ≡ Ok at → folder_stands at.store 1 ≡ true → IsSeenAs contents.state at
    → (after : Opened) × (visit_all (reading_with log at) (visits_of at) (starts_with owner at) ≡ Ok after) × IsOpenedBy at.store (view_of contents) after
    → (s : OpenStore) × (opened_of owner log ≡ Ok s) × AreContents contents s
unfolding opened_at and_then
contents_are owner log at contents folds stands seen done =
    let s : OpenStore = record { reading = reading_with log at; opened = done.0 } in
    (s, step_on owner log at folds stands ∙ rw done.1 refl, (seen, done.2))

pub log_opens : (owner : List ℕ) (log : List PlainPlaced) (at : Stand) (after : Opened) → folded nothing log ≡ Ok at → folder_stands at.store 1 ≡ true
    → visit_all (reading_with log at) (visits_of at) (starts_with owner at) ≡ Ok after → opened_of owner log ≡ Ok (record { reading = reading_with log at; opened = after })
unfolding opened_at and_then
log_opens owner log at after folds stands done = step_on owner log at folds stands ∙ rw done refl

-- what was gone through
pub record WereOpened (owner : List ℕ) (log : List PlainPlaced) (s : OpenStore) : Type 0 where
  pub folds : folded nothing log ≡ Ok s.reading.stand
  pub stands : folder_stands s.reading.stand.store 1 ≡ true
  pub done : visit_all (reading_with log s.reading.stand) (visits_of s.reading.stand) (starts_with owner s.reading.stand) ≡ Ok s.opened

were : (owner : List ℕ) (log : List PlainPlaced) (at : Stand) (after : Opened) (s : OpenStore) → folded nothing log ≡ Ok at → folder_stands at.store 1 ≡ true
    → visit_all (reading_with log at) (visits_of at) (starts_with owner at) ≡ Ok after → (let x : OpenStore = record { reading = reading_with log at; opened = after } in x) ≡ s → WereOpened owner log s
were owner log at after s folds stands done is =
    subst (WereOpened owner log) is (record { folds = folds; stands = stands; done = done })

pub contents_told : (owner : List ℕ) (log : List PlainPlaced) (s : OpenStore) → opened_of owner log ≡ Ok s → WereOpened owner log s
unfolding opened_of opened_at
contents_told owner log s is =
    let a = then_told Stand OpenStore (folded nothing log) (λ at. and_then (rooted at) (opened_at owner log)) s is in
    let at : Stand = a.0 in
    let b = then_told Stand OpenStore (rooted at) (opened_at owner log) s a.2 in
    let root = rooted_told at b.0 b.1 in
    let go_on : opened_at owner log at ≡ Ok s = ap (opened_at owner log) root.1 ∙ b.2 in
    let c = then_told Opened OpenStore (visit_all (reading_with log at) (visits_of at) (starts_with owner at)) (λ after. Ok (record { reading = reading_with log at; opened = after })) s go_on in
    were owner log at c.0 s a.1 root.0 c.1 (same_ok OpenStore (record { reading = reading_with log at; opened = c.0 }) s c.2)

-- ---- the definition of the verdict

by_visits : (r : Reading) (v : Result Opened Fault)
    → then_on (of_bytes v) (λ (o : Opened). let x : Result OpenStore Failure = Ok (record { reading = r; opened = o }) in x)
    ≡ of_bytes (and_then v (λ (o : Opened). let x : Result OpenStore Fault = Ok (record { reading = r; opened = o }) in x))
unfolding then_on of_bytes and_then
by_visits r (Ok o) = refl
by_visits r (Err fault) = refl

abbrev by_root : List ℕ → Result Reading Failure → Result OpenStore Failure
by_root owner r =
    then_on r (λ r.
    then_on (of_bytes (visit_all r (all_visits r.stand.store TheOwner ++ writing_visits r.stand.store) (record { keys = (Owner, owner) ∷ []; store = r.stand.store }))) (λ o.
    Ok (record { reading = r; opened = o })))

root_or : (owner : List ℕ) (log : List PlainPlaced) (at : Stand) (b : Bool) → folder_stands at.store 1 ≡ b
    → by_root owner (if b then Ok (reading_with log at) else Err (OfBytes (Damaged header_len))) ≡ of_bytes (and_then (if b then Ok at else Err (Damaged header_len)) (opened_at owner log))
unfolding then_on of_bytes and_then opened_at
root_or owner log at true stands = by_visits (reading_with log at) (visit_all (reading_with log at) (visits_of at) (starts_with owner at))
root_or owner log at false stands = refl

by_fold : (owner : List ℕ) (log : List PlainPlaced) (f : Result Stand Fault)
    → by_root owner (then_on (of_bytes (and_then f (λ (stand : Stand). let x : Result Reading Fault = Ok (reading_with log stand) in x))) with_root)
    ≡ of_bytes (and_then f (λ at. and_then (rooted at) (opened_at owner log)))
unfolding then_on of_bytes and_then with_root rooted
by_fold owner log (Err fault) = refl
by_fold owner log (Ok at) = root_or owner log at (folder_stands at.store 1) refl

pub opens_with : (owner : List ℕ) (log : List PlainPlaced) → open_with owner (Ok log) ≡ of_bytes (opened_of owner log)
unfolding open_with read_through and_then opened_of
opens_with owner log = by_fold owner log (folded nothing log)

no_log : (owner : List ℕ) (fault : Fault) → open_with owner (Err fault) ≡ Err (OfBytes fault)
unfolding open_with read_through and_then of_bytes then_on
no_log owner fault = refl

-- ---- faults

client_opens : (fault : OpenFault) (wanted : Result OpenStore Fault) → IsFault (client_fault fault) wanted → IsOpenFault fault (of_bytes wanted)
unfolding of_bytes
client_opens faults.NotAStore wanted is = rw is refl
client_opens faults.WrongKey wanted is = rw is refl
client_opens (faults.Damaged at) wanted is = rw is refl
client_opens (faults.Tampered batch at) wanted is = rw is refl
client_opens faults.DiskFault wanted is = tt
client_opens faults.OutOfMemory wanted is = tt

pub fault_opens : (fault : OpenFault) (client : ClientFault) (wanted : Result OpenStore Fault) → client ≡ client_fault fault → IsFault client wanted → IsOpenFault fault (of_bytes wanted)
fault_opens fault client wanted same is = client_opens fault wanted (subst (λ f. IsFault f wanted) same is)

pub log_fails : (fault : OpenFault) (owner : List ℕ) (log : Result OwnedLog Fault) → journal.IsFault fault log → IsOpenFault fault (open_with owner (placed_in log))
unfolding and_then
log_fails faults.NotAStore owner log is = ap (λ l. open_with owner (placed_in l)) is ∙ no_log owner NotAStore
log_fails faults.WrongKey owner log is = ap (λ l. open_with owner (placed_in l)) is ∙ no_log owner WrongKey
log_fails (faults.Damaged at) owner log is = ap (λ l. open_with owner (placed_in l)) is ∙ no_log owner (Damaged at)
log_fails (faults.Tampered batch at) owner log is = ap (λ l. open_with owner (placed_in l)) is ∙ no_log owner (Tampered batch at)
log_fails faults.DiskFault owner log is = tt
log_fails faults.OutOfMemory owner log is = tt
