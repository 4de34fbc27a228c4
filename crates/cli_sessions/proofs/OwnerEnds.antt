-- Where the log of an owner ends, and what is kept behind it.
use Rattle.std.proofs.Common.{◌≡◌, ◌+◌, ℕ, List, length, Option, arith, ap, subst, sym, ◌∙◌}
use Rattle.commit_journal.specs.Image.{image}
use Rattle.journal_bytes.specs.Bytes.{batches_of, image_of}
use Rattle.public_fold.specs.Journal.{Journal}
use Rattle.cli_sessions.specs.Sessions.{KeepsBehind, KeepsFrom}
use Rattle.store_owner.proofs.OwnerGoesOn.{drops_more}
use Rattle.store_owner.specs.Owned.{IsOwnerOf, OwnerView}

pub owner_end : (key : List ℕ) (m : Journal) (o : OwnerView) → o.key ≡ key → IsOwnerOf m o → o.journal.end ≡ length (image_of key m) + 1
unfolding image_of
owner_end key m o has_key is =
    is.stands.end
    ∙ ap (λ k. length (image k (batches_of o.key m)) + 1) (is.same_key ∙ has_key)
    ∙ ap (λ k. length (image key (batches_of k m)) + 1) has_key

-- where the disk shows what it showed
pub behind_still : (key : List ℕ) (m : Journal) (first was shows : Option (List ℕ)) → shows ≡ was → KeepsFrom (length (image_of key m)) first was
    → KeepsBehind key m m first shows
behind_still key m first was shows same kept =
    let n = length (image_of key m) in
    subst (λ o. KeepsBehind key m m first o) (sym same) (record {
      behind = λ x y before after. drops_more n (n + 1) x y (omega arith) (kept x y before after);
      unchanged = λ alike. kept;
    })
