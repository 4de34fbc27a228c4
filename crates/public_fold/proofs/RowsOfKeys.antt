-- The rows of a state's keys, one for each role that stands.
use Rattle.std.proofs.Common.{◌≡◌, ℕ, zero, suc, ◌+◌, ◌<◌, ◌≤◌, List, [], ◌∷◌, map, inl, inr, ⊎_elim, sym, ap, ◌∙◌, subst, arith, get_or}
use Rattle.std.specs.List.{range_with_len}
use Rattle.std.specs.Prelude.{AllPairs, IsTrue, Some, length, unwrap_or}
use Rattle.std.proofs.lemmas.List.Kept.{AllPairs-cons}
use Rattle.cry_base.specs.Clearances.{clear_base}
use Rattle.cry_base.specs.Sets.{In}
use Rattle.cry_base.specs.Store.{Store, FolderEntry, HolderEntry, no_store}
use Rattle.cry_base.specs.declared.roles.Role.{Role}
use Rattle.cry_base.proofs.Members.{In-map}
use Rattle.folder_nodes.specs.Trees.{IsTree}
use Rattle.grant_book.specs.Granted.{Granted}
use Rattle.index_format.specs.declared.rows.KeyRow.{KeyRow}
use Rattle.move_plan.specs.Seen.{keyless, seen_store}
use Rattle.role_graph.specs.Ascending.{IsAscending}
use Rattle.role_graph.specs.Roles.{role_before}
use Rattle.role_graph.proofs.AtRoles.{ByNumber}
use Rattle.role_graph.proofs.Rising.{get_or-In}
use Rattle.public_fold.specs.Keyed.{IsKept}
use Rattle.public_fold.specs.KeyStep.{newest, present}
use Rattle.public_fold.specs.Rooted.{MayStand}
use Rattle.public_fold.specs.StandingRoles.{rows_of_keys, standing_roles}
use Rattle.public_fold.specs.States.{AreKeyRows, key_row, row_before}
use Rattle.public_fold.proofs.RolesStanding.{StandInOrder, standing_ascend, standing_stands, stands_standing}

pub present_is : (keys : List (Role × ℕ)) (r : Role) (n : ℕ) → newest keys r ≡ Some n → present keys r ≡ n
unfolding present
present_is keys r n e = ap (λ o. unwrap_or o 0) e

rows_ascend : (keys : List (Role × ℕ)) (roles : List Role) → IsAscending roles → AllPairs (λ (a b : KeyRow). IsTrue (row_before a b)) (rows_of_keys keys roles)
unfolding role_before
rows_ascend keys [] up = λ i j d lt within. absurd (omega arith)
rows_ascend keys (r ∷ rs) up =
    let row = λ (q : Role). key_row q (present keys q) in
    AllPairs-cons (λ (a b : KeyRow). IsTrue (row_before a b)) (row r) (map row rs)
    (λ k d lt.
    let w = (In-map Role KeyRow row (get_or (map row rs) k d) rs).0 (get_or-In KeyRow (map row rs) k d lt) in
    subst (λ z. IsTrue (row_before (row r) z)) (sym w.2) (up.0 w.0 w.1))
    (rows_ascend keys rs up.1)

-- no folder has a clearance number
pub folders_low : (s : Store) → MayStand s → (e : FolderEntry) → In e s.folders → e.id < clear_base
unfolding no_store
folders_low s ok e i = ⊎_elim
    (λ (q : s ≡ no_store). absurd (subst (λ (z : Store). In e z.folders) q i))
    (λ r. let low : e.id ≤ s.folders_made = r.counted.each_folder e i in let few : s.folders_made < clear_base = r.folders_below in omega arith) ok

holders_rise : (a n : ℕ) → ByNumber HolderEntry (λ (e : HolderEntry). e.number) (map keyless (range_with_len a n))
holders_rise a zero = λ i j d lt within. absurd (omega arith)
holders_rise a (suc n) =
    AllPairs-cons (λ (x y : HolderEntry). x.number < y.number) (keyless a) (map keyless (range_with_len (a + 1) n))
    (λ k d lt.
    let x = get_or (map keyless (range_with_len (a + 1) n)) k d in
    let w = (In-map ℕ HolderEntry keyless x (range_with_len (a + 1) n)).0 (get_or-In HolderEntry (map keyless (range_with_len (a + 1) n)) k d lt) in
    let low : a + 1 ≤ w.0 = above_start (a + 1) n w.0 w.1 in
    let less : a < (keyless w.0).number = omega arith in
    subst (λ (z : HolderEntry). a < z.number) (sym w.2) less)
    (holders_rise (a + 1) n)
  where
    above_start : (b m x : ℕ) → In x (range_with_len b m) → b ≤ x
    above_start b zero x i = absurd i
    above_start b (suc m) x i = ⊎_elim (λ (e : x ≡ b). omega arith) (λ u. let h : b + 1 ≤ x = above_start (b + 1) m x u in omega arith) i

pub stands_in_order : (t : Store) (g : Granted) → IsTree t → MayStand (seen_store t g) → StandInOrder (seen_store t g)
stands_in_order t g tree ok = record {
  holders = holders_rise 1 (length g.checks);
  folders = tree.folders_ascend;
  files = tree.files_ascend;
  below = folders_low (seen_store t g) ok;
}

pub rows_of_kept : (s : Store) (keys : List (Role × ℕ)) (dirty : List Role) → IsKept s keys dirty → StandInOrder s → AreKeyRows keys (rows_of_keys keys (standing_roles s))
rows_of_kept s keys dirty kept order =
    let row = λ (q : Role). key_row q (present keys q) in record {
      ascend = rows_ascend keys (standing_roles s) (standing_ascend s order);
      each = λ r i.
          let w = (In-map Role KeyRow row r (standing_roles s)).0 i in
          let stands = standing_stands s w.0 w.1 in
          let key = (kept.hold.keyed w.0).0 stands.0 in
          let serial : r.serial ≡ present keys w.0 = ap (λ (z : KeyRow). z.serial) w.2 in
          (w.0, stands.1, w.2 ∙ ap (key_row w.0) (sym serial), key.1 ∙ ap (λ n. Some n) (sym (serial ∙ present_is keys w.0 key.0 key.1)));
      all = λ r n e. ⊎_elim (λ q. inl q)
          (λ i. inr ((In-map Role KeyRow row (key_row r n) (standing_roles s)).1 (r, i, ap (key_row r) (sym (present_is keys r n e)))))
          (stands_standing s r ((kept.hold.keyed r).1 (n, e)));
    }

pub rows_of_table : (t : Store) (g : Granted) (keys : List (Role × ℕ)) (dirty roles : List Role) (rows : List KeyRow) → IsTree t → IsKept (seen_store t g) keys dirty
    → roles ≡ standing_roles (seen_store t g) → rows ≡ rows_of_keys keys roles → AreKeyRows keys rows
rows_of_table t g keys dirty roles rows tree kept e q =
    subst (AreKeyRows keys) (sym (q ∙ ap (rows_of_keys keys) e)) (rows_of_kept (seen_store t g) keys dirty kept (stands_in_order t g tree kept.stands))
