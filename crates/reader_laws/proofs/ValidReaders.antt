-- Readers of a valid journal visit it to the end, and see its store.
use Rattle.std.proofs.Common.{◌≡◌, ℕ, List, Ok}
use Rattle.cry_base.specs.declared.client.Bundle.{Bundle}
use Rattle.log_visits.specs.Judging.{opened_first, who_of}
use Rattle.log_visits.specs.View.{view}
use Rattle.log_visits.specs.Visiting.{Opened, visit_all}
use Rattle.log_visits.specs.Visits.{all_visits, file_visits, visits_to_names}
use Rattle.public_fold.specs.Journal.{Journal, store_of}
use Rattle.public_fold.specs.Valid.{IsValid}
use Rattle.journal_bytes.specs.Folds.{public_stand}
use Rattle.journal_bytes.specs.Keys.{AreWhole}
use Rattle.journal_bytes.specs.Opening.{reading_of}
use Rattle.reader_laws.specs.Reading.{AreAllowed, IsReaderOf}
use Rattle.reader_laws.proofs.Readable.{valid_readable}
use Rattle.reader_laws.proofs.Readers.{all_pass, files_pass, names_pass, view_is}

module _ (owner : List ℕ) (m : Journal) (bundle : Bundle) where
  pub names_read : IsValid m → AreWhole owner m → IsReaderOf owner m bundle
      → (after : Opened) × (visit_all (reading_of owner m) (visits_to_names (public_stand m).store (who_of bundle)) (opened_first bundle (reading_of owner m)) ≡ Ok after)
  unfolding public_stand
  names_read valid whole is = names_pass owner m bundle (valid_readable owner m valid whole) is

  pub files_read : (xs : List ℕ) (named : Opened) → IsValid m → AreWhole owner m → IsReaderOf owner m bundle → AreAllowed (store_of m) (who_of bundle) xs
      → visit_all (reading_of owner m) (visits_to_names (public_stand m).store (who_of bundle)) (opened_first bundle (reading_of owner m)) ≡ Ok named
      → (after : Opened) × (visit_all (reading_of owner m) (file_visits (public_stand m).store (who_of bundle) xs) named ≡ Ok after)
  unfolding public_stand
  files_read xs named valid whole is allowed done = files_pass owner m bundle (valid_readable owner m valid whole) is xs named allowed done

  pub all_read : IsValid m → AreWhole owner m → IsReaderOf owner m bundle
      → (after : Opened) × (visit_all (reading_of owner m) (all_visits (public_stand m).store (who_of bundle)) (opened_first bundle (reading_of owner m)) ≡ Ok after)
  unfolding public_stand
  all_read valid whole is = all_pass owner m bundle (valid_readable owner m valid whole) is

  pub view_read : (after : Opened) → IsValid m → AreWhole owner m → IsReaderOf owner m bundle
      → visit_all (reading_of owner m) (all_visits (public_stand m).store (who_of bundle)) (opened_first bundle (reading_of owner m)) ≡ Ok after
      → view after.store (who_of bundle) ≡ view (store_of m) (who_of bundle)
  unfolding public_stand
  view_read after valid whole is done = view_is owner m bundle (valid_readable owner m valid whole) is after done
