-- A store's bytes that are opened for writing, step by step.
use Rattle.std.proofs.Common.{◌≡◌, ℕ, true, false, List, [], ◌∷◌, ◌++◌, Result, Ok, Err, refl}
use Rattle.commit_journal.specs.Answering.{Fault, Damaged, and_then}
use Rattle.commit_journal.specs.Logs.{writer_log}
use Rattle.commit_journal.specs.Placed.{PlainPlaced}
use Rattle.cry_base.specs.Layout.{header_len}
use Rattle.cry_base.specs.declared.roles.Role.TheVariants.{Owner}
use Rattle.log_visits.specs.Asking.{OpenStore, open_with, opened_store, with_root}
use Rattle.log_visits.specs.Folding.{folded}
use Rattle.log_visits.specs.Judging.{Failure, OfBytes, of_bytes, read_through, then_on}
use Rattle.log_visits.specs.Opening.{opened_by}
use Rattle.log_visits.specs.Visiting.{Reading, Opened, visit_all}
use Rattle.log_visits.specs.Visits.{all_visits, writing_visits}
use Rattle.move_plan.specs.Fitting.{folder_stands}
use Rattle.public_fold.specs.Journal.{Stand, nothing}
use Rattle.role_graph.specs.Rights.Who.{TheOwner}

pub log_first : (owner bytes : List ℕ) (fault : Fault) → writer_log owner bytes ≡ Err fault → opened_store owner bytes ≡ Err (OfBytes fault)
unfolding opened_store open_with read_through and_then of_bytes then_on
log_first owner bytes fault e = rw e refl

pub fold_second : (owner bytes : List ℕ) (log : List PlainPlaced) (fault : Fault) → writer_log owner bytes ≡ Ok log → folded nothing log ≡ Err fault → opened_store owner bytes ≡ Err (OfBytes fault)
unfolding opened_store open_with read_through and_then of_bytes then_on
fold_second owner bytes log fault e f = rw (e, f) refl

pub root_third : (owner bytes : List ℕ) (log : List PlainPlaced) (stand : Stand) → writer_log owner bytes ≡ Ok log → folded nothing log ≡ Ok stand → folder_stands stand.store 1 ≡ false →
    opened_store owner bytes ≡ Err (OfBytes (Damaged header_len))
unfolding opened_store open_with read_through and_then of_bytes then_on with_root
root_third owner bytes log stand e f g = rw (e, f, g) refl

visited_by : (r : Reading) (result : Result Opened Fault) → then_on (of_bytes result) (λ o. let s : Result OpenStore Failure = Ok (record { reading = r; opened = o }) in s) ≡ opened_by r result
unfolding of_bytes then_on
visited_by r (Ok o) = refl
visited_by r (Err fault) = refl

pub visits_last : (owner bytes : List ℕ) (log : List PlainPlaced) (stand : Stand) → writer_log owner bytes ≡ Ok log → folded nothing log ≡ Ok stand → folder_stands stand.store 1 ≡ true →
    opened_store owner bytes ≡ opened_by (record { log = log; stand = stand })
    (visit_all (record { log = log; stand = stand }) (all_visits stand.store TheOwner ++ writing_visits stand.store) (record { keys = (Owner, owner) ∷ []; store = stand.store }))
unfolding opened_store open_with read_through and_then of_bytes then_on with_root
visits_last owner bytes log stand e f g =
    let r : Reading = record { log = log; stand = stand } in
    rw (e, f, g) (visited_by r (visit_all r (all_visits stand.store TheOwner ++ writing_visits stand.store) (record { keys = (Owner, owner) ∷ []; store = stand.store })))
