-- Whoever reads a journal with the own key has one of its keys.
use Rattle.std.proofs.Common.{inl, ℕ, ◌==◌, List, refl, sym, ◌∙◌}
use Rattle.cry_base.specs.Store.{HolderEntry, holder_entry}
use Rattle.cry_base.specs.declared.client.Bundle.{Bundle}
use Rattle.cry_base.specs.declared.client.Bundle.TheVariants as bundles
use Rattle.cry_base.proofs.Finding.{find-found}
use Rattle.log_visits.specs.Judging.{first_key}
use Rattle.journal_bytes.specs.Keys.{AreWhole, all_keys, owner_parts}
use Rattle.journal_bytes.proofs.LogsWalked.{journal_walked}
use Rattle.public_fold.specs.Journal.{Journal, store_of}
use Rattle.public_fold.specs.Valid.{IsValid}
use Rattle.reader_laws.specs.Reading.{IsReaderOf}
use Rattle.forgery_laws.specs.Written.{HasKeyOf}

pub reader_has_key : (owner : List ℕ) (m : Journal) (bundle : Bundle) → IsValid m → AreWhole owner m → IsReaderOf owner m bundle → HasKeyOf owner m bundle
unfolding first_key all_keys owner_parts holder_entry
reader_has_key owner m (bundles.Owner key) valid whole is = (owner_parts owner, inl refl, is)
reader_has_key owner m (bundles.Holder h key) valid whole is =
    let e : HolderEntry = is.0 in
    let there = (find-found HolderEntry (λ d. d.number == h.0) (store_of m).holders e is.1).0 in
    let w = (journal_walked owner m valid whole).holders_keyed e there in
    (w.0, w.1, is.2 ∙ sym w.3)
