-- A note that fits can be done to the tree and to the grants.
use Rattle.std.proofs.Common.{◌≡◌, ◌≢◌, ◌⊎◌, ℕ, ◌+◌, Bool, true, not, ◌==◌, ◌&&◌, nat_lt, nat_le, List, [], length, Some, None, inl, inr, ⊎_elim, refl, sym, ap, ◌∙◌}
use Rattle.std.specs.Prelude.{is_some, ◌||◌}
use Rattle.std.proofs.lemmas.Bool.{and_parts, eqb-true, eqb-false, not-true, ltb-true, leb-true, false≢true}
use Rattle.cry_base.specs.Clearances.{clear_base}
use Rattle.cry_base.specs.Refusing.{has_child, height_of}
use Rattle.cry_base.specs.Store.{Store, GrantEntry, root_store, depth_of, file_entry, folder_entry, folder_node, has_grant, holder_entry, is_within}
use Rattle.folder_nodes.specs.Changing.{CanShift, HasPlace}
use Rattle.grant_book.specs.Granted.{Granted, IsHolder}
use Rattle.grant_book.specs.Refused.{is_holder}
use Rattle.grant_book.proofs.Ordered.{any_grant_told}
use Rattle.record_format.specs.Noted.{Note}
use Rattle.record_format.specs.Noted.Note.{Root, NewHolder, NewFolder, NewFile, Rewrite, NameFile, NameFolder, DropFile, DropFolder, ShiftFile, ShiftFolder, Give, Take, StrictRoot, Upgrade}
use Rattle.move_plan.specs.Change.{folder_of_file, parent_of_folder}
use Rattle.move_plan.specs.Fitting.{file_stands, fits, folder_stands, has_depth_left, is_next_below, is_other_folder, may_be_granted, may_go_into, needs_root, row_fits}
use Rattle.move_plan.specs.Seen.{seen_store}
use Rattle.move_plan.proofs.Seeing.{child_seen, depth_seen, file_seen, grant_seen, holder_seen, into_seen, other_seen}
use Rattle.public_fold.specs.Changing.{CanChangeGrants, CanChangeTree, checks_then, pairs_then, tree_then}
use Rattle.public_fold.specs.Preparing.{root_made}

place : (t : Store) (f : ℕ) → has_depth_left t f ≡ true → HasPlace t f
unfolding has_depth_left folder_stands
place t f h = let w = and_parts (is_some (folder_entry t f)) (nat_lt (depth_of t (folder_node f)) 64) h in (w.0, ltb-true (depth_of t (folder_node f)) 64 w.1)

other : (t : Store) (f : ℕ) → is_other_folder t f ≡ true → (is_some (folder_entry t f) ≡ true) × (f ≢ 1)
unfolding is_other_folder folder_stands
other t f h = let w = and_parts (is_some (folder_entry t f)) (not (f == 1)) h in (w.0, eqb-false f 1 (not-true (f == 1) w.1))

-- the next number
pub next : (number made : ℕ) → is_next_below number made ≡ true → number ≡ made + 1
unfolding is_next_below
next number made t = eqb-true number (made + 1) (and_parts (number == made + 1) (nat_lt number clear_base) t).0

shift : (t : Store) (f q : ℕ) → may_go_into t f q ≡ true → CanShift t f q
unfolding may_go_into folder_stands
shift t f q h =
    let stands = is_some (folder_entry t q) in
    let apart = not (parent_of_folder t f == q) in
    let outside = not (is_within t q f) in
    let shallow = nat_le (depth_of t (folder_node q) + 1 + height_of t (Some (folder_node f))) 64 in
    let four = and_parts (is_other_folder t f && stands && apart && outside) shallow h in
    let three = and_parts (is_other_folder t f && stands && apart) outside four.0 in
    let two = and_parts (is_other_folder t f && stands) apart three.0 in
    let one = and_parts (is_other_folder t f) stands two.0 in
    let o = other t f one.0 in
    (o.0, o.1, one.1, not-true (is_within t q f) three.1, leb-true (depth_of t (folder_node q) + 1 + height_of t (Some (folder_node f))) 64 four.1)

row_of : (strict : Bool) (s : Store) (note : Note) → fits strict s note ≡ true → row_fits strict s note ≡ true
unfolding fits
row_of strict s note h = (and_parts (row_fits strict s note) (not (needs_root note) || folder_stands s 1) h).0

module _ (strict : Bool) (t : Store) (g : Granted) where
  tree_row : (note : Note) → needs_root note ≡ true → row_fits strict (seen_store t g) note ≡ true → CanChangeTree t note
  unfolding row_fits file_stands needs_root
  tree_row Root n h = absurd (false≢true n)
  tree_row (NewHolder k check) n h = tt
  tree_row (NewFolder f p) n h =
      let w = and_parts (is_next_below f t.folders_made) (has_depth_left (seen_store t g) p) h in
      (next f t.folders_made w.0, place t p (sym (depth_seen t g p) ∙ w.1))
  tree_row (NewFile x f) n h =
      let w = and_parts (is_next_below x t.files_made) (has_depth_left (seen_store t g) f) h in
      (next x t.files_made w.0, place t f (sym (depth_seen t g f) ∙ w.1))
  tree_row (Rewrite x) n h = tt
  tree_row (NameFile x) n h = tt
  tree_row (NameFolder f) n h = tt
  tree_row (DropFile x) n h = sym (file_seen t g x) ∙ h
  tree_row (DropFolder f) n h =
      let w = and_parts (is_other_folder (seen_store t g) f) (not (has_child (seen_store t g) f)) h in
      let o = other t f (sym (other_seen t g f) ∙ w.0) in
      (o.0, o.1, sym (child_seen t g f) ∙ not-true (has_child (seen_store t g) f) w.1)
  tree_row (ShiftFile x q) n h =
      let two = and_parts (is_some (file_entry (seen_store t g) x) && has_depth_left (seen_store t g) q) (not (folder_of_file (seen_store t g) x == q)) h in
      let one = and_parts (is_some (file_entry (seen_store t g) x)) (has_depth_left (seen_store t g) q) two.0 in
      (sym (file_seen t g x) ∙ one.0, place t q (sym (depth_seen t g q) ∙ one.1))
  tree_row (ShiftFolder f q) n h = shift t f q (sym (into_seen t g f q) ∙ h)
  tree_row (Give k f) n h = tt
  tree_row (Take k f) n h = tt
  tree_row StrictRoot n h = absurd (false≢true n)
  tree_row Upgrade n h = tt

  holder_made : (k : ℕ) → is_holder g.checks k ≡ true → IsHolder g.checks k
  holder_made k h = let w = and_parts (nat_le 1 k) (nat_le k (length g.checks)) h in (leb-true 1 k w.0, leb-true k (length g.checks) w.1)

  grants_row : (note : Note) → needs_root note ≡ true → row_fits strict (seen_store t g) note ≡ true → CanChangeGrants g.checks g.pairs note
  unfolding row_fits needs_root
  grants_row Root n h = absurd (false≢true n)
  grants_row (NewHolder k check) n h = eqb-true k (length g.checks + 1) h
  grants_row (NewFolder f p) n h = tt
  grants_row (NewFile x f) n h = tt
  grants_row (Rewrite x) n h = tt
  grants_row (NameFile x) n h = tt
  grants_row (NameFolder f) n h = tt
  grants_row (DropFile x) n h = tt
  grants_row (DropFolder f) n h = tt
  grants_row (ShiftFile x q) n h = tt
  grants_row (ShiftFolder f q) n h = tt
  grants_row (Give k f) n h =
      let two = and_parts (is_some (holder_entry (seen_store t g) k) && may_be_granted strict (seen_store t g) f) (not (has_grant (seen_store t g) k f)) h in
      let one = and_parts (is_some (holder_entry (seen_store t g) k)) (may_be_granted strict (seen_store t g) f) two.0 in (
        holder_made k (sym (holder_seen t g k) ∙ one.0),
        λ i. false≢true (sym (sym (grant_seen t g k f) ∙ not-true (has_grant (seen_store t g) k f) two.1) ∙ (any_grant_told k f g.pairs).1 i),
      )
  grants_row (Take k f) n h = (any_grant_told k f g.pairs).0 (sym (grant_seen t g k f) ∙ h)
  grants_row StrictRoot n h = absurd (false≢true n)
  grants_row Upgrade n h = tt

  pub may_change_tree : (note : Note) → fits strict (seen_store t g) note ≡ true → needs_root note ≡ true → CanChangeTree t note
  may_change_tree note h n = tree_row note n (row_of strict (seen_store t g) note h)

  pub may_change_grants : (note : Note) → fits strict (seen_store t g) note ≡ true → needs_root note ≡ true → CanChangeGrants g.checks g.pairs note
  may_change_grants note h n = grants_row note n (row_of strict (seen_store t g) note h)

-- a note that makes a tree whole makes the root, and that tree is the root's
pub root_is : (note : Note) (tree : Store) → Some tree ≡ root_made note → ((note ≡ Root) ⊎ (note ≡ StrictRoot)) × (tree ≡ root_store)
root_is Root tree made = (inl refl, cc)
root_is (NewHolder k check) tree made = absurd cc
root_is (NewFolder f p) tree made = absurd cc
root_is (NewFile x f) tree made = absurd cc
root_is (Rewrite x) tree made = absurd cc
root_is (NameFile x) tree made = absurd cc
root_is (NameFolder f) tree made = absurd cc
root_is (DropFile x) tree made = absurd cc
root_is (DropFolder f) tree made = absurd cc
root_is (ShiftFile x q) tree made = absurd cc
root_is (ShiftFolder f q) tree made = absurd cc
root_is (Give k f) tree made = absurd cc
root_is (Take k f) tree made = absurd cc
root_is StrictRoot tree made = (inr refl, cc)
root_is Upgrade tree made = absurd cc

-- such a note leaves the root alone
pub root_leaves : (t : Store) (pairs : List GrantEntry) (checks : List (List ℕ)) (note : Note) → (note ≡ Root) ⊎ (note ≡ StrictRoot)
    → (root_store ≡ tree_then t note) × ([] ≡ pairs_then pairs note) × ([] ≡ checks_then checks note)
unfolding tree_then pairs_then checks_then
root_leaves t pairs checks note which = ⊎_elim
    (λ (q : note ≡ Root). (ap (tree_then t) (sym q), ap (pairs_then pairs) (sym q), ap (checks_then checks) (sym q)))
    (λ (q : note ≡ StrictRoot). (ap (tree_then t) (sym q), ap (pairs_then pairs) (sym q), ap (checks_then checks) (sym q)))
    which

-- and every other one needs the root
pub root_needed : (note : Note) → None ≡ root_made note → needs_root note ≡ true
unfolding needs_root
root_needed Root made = absurd cc
root_needed (NewHolder k check) made = refl
root_needed (NewFolder f p) made = refl
root_needed (NewFile x f) made = refl
root_needed (Rewrite x) made = refl
root_needed (NameFile x) made = refl
root_needed (NameFolder f) made = refl
root_needed (DropFile x) made = refl
root_needed (DropFolder f) made = refl
root_needed (ShiftFile x q) made = refl
root_needed (ShiftFolder f q) made = refl
root_needed (Give k f) made = refl
root_needed (Take k f) made = refl
root_needed StrictRoot made = absurd cc
root_needed Upgrade made = refl
