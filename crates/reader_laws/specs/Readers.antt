-- What the visits of whoever reads open. This project's own, docs/FORMAT.md, "Reading" and "Opening for writing".
use Rattle.std.specs.Prelude.{ℕ, List, [], ◌∷◌, ◌++◌, Result}
use Rattle.commit_journal.specs.Answering.{Fault}
use Rattle.cry_base.specs.declared.client.Bundle.{Bundle}
use Rattle.cry_base.specs.declared.roles.Role.TheVariants.{Owner}
use Rattle.log_visits.specs.Judging.{opened_first, who_of}
use Rattle.log_visits.specs.Visiting.{Opened, Reading, visit_all}
use Rattle.log_visits.specs.Visits.{all_visits, file_visits, visits_to_names, writing_visits}
use Rattle.role_graph.specs.Rights.Who.{TheOwner}

-- the visits of a bundle's reader to the names of folders; those to some files behind them; all visits
abbrev pub names_visited : Bundle → Reading → Result Opened Fault
names_visited bundle r = visit_all r (visits_to_names r.stand.store (who_of bundle)) (opened_first bundle r)

abbrev pub files_visited : Bundle → Reading → List ℕ → Opened → Result Opened Fault
files_visited bundle r xs named = visit_all r (file_visits r.stand.store (who_of bundle) xs) named

abbrev pub all_visited : Bundle → Reading → Result Opened Fault
all_visited bundle r = visit_all r (all_visits r.stand.store (who_of bundle)) (opened_first bundle r)

-- all visits of the owner who opens for writing, with this key
abbrev pub visited_to_write : List ℕ → Reading → Result Opened Fault
visited_to_write key r =
    visit_all r (all_visits r.stand.store TheOwner ++ writing_visits r.stand.store)
    (record { keys = (Owner, key) ∷ []; store = r.stand.store })
