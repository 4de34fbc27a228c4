-- An owner who stands for a journal keeps the tree, the names and the grants of its store.
use Rattle.std.proofs.Common.{◌≡◌, ℕ, List, [], ◌∷◌, map, length, refl, sym, ap, ◌∙◌}
use Rattle.std.specs.List.{range_with_len}
use Rattle.cry_base.specs.Store.{Store, HolderEntry}
use Rattle.grant_book.specs.Matching.{AreGrantsOf}
use Rattle.move_plan.specs.Fitting.{public_of}
use Rattle.move_plan.specs.Seen.{keyless}
use Rattle.public_fold.specs.Journal.{Journal, store_of}
use Rattle.public_fold.specs.Standing.{IsSeenAs, PublicView}
use Rattle.journal_bytes.specs.Folds.{public_stand}
use Rattle.journal_bytes.specs.Owning.{IsStoreOf}
use Rattle.store_owner.specs.Owned.{IsOwnerOf, OwnerView}

pub number_keyless : (numbers : List ℕ) → map (λ (e : HolderEntry). e.number) (map keyless numbers) ≡ numbers
number_keyless [] = refl
number_keyless (n ∷ numbers) = ap (λ ns. n ∷ ns) (number_keyless numbers)

number_blank : (holders : List HolderEntry) → map (λ (e : HolderEntry). e.number) (map (λ (e : HolderEntry). record e { key = [] }) holders) ≡ map (λ (e : HolderEntry). e.number) holders
number_blank [] = refl
number_blank (e ∷ holders) = ap (λ ns. e.number ∷ ns) (number_blank holders)

grants_kept : (m : Journal) (v : PublicView) → IsSeenAs v (public_stand m) → AreGrantsOf v.checks v.pairs (store_of m)
unfolding public_stand public_of
grants_kept m v seen = record {
  numbers = sym (number_blank (store_of m).holders) ∙ ap (λ (s : Store). map (λ (e : HolderEntry). e.number) s.holders) seen.store ∙ number_keyless (range_with_len 1 (length v.checks));
  made = ap (λ (s : Store). s.holders_made) seen.store;
  granted = seen.grants.same;
}

pub store_kept : (m : Journal) (o : OwnerView) → IsOwnerOf m o → IsStoreOf o.state.tree o.names (record { checks = o.state.checks; pairs = o.state.pairs; spare = 0 }) (store_of m)
store_kept m o is = record { tree = is.tree; grants = grants_kept m o.state is.seen }
