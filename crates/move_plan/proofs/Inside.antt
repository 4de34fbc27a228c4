-- The roles of folders that edges lead on from, as the rows of a shape come.
use Rattle.std.proofs.Common.{◌≡◌, ℕ, ◌+◌, ◌*◌, ◌≤◌, Bool, true, false, cond, List, [], ◌∷◌, ◌++◌, length, map, refl, sym, ap, ◌∙◌, arith, append_assoc}
use Rattle.std.specs.List.{flat_map}
use Rattle.cry_base.specs.Store.{Store, FileEntry, FolderEntry, GrantEntry}
use Rattle.cry_base.specs.declared.roles.Role.{Role}
use Rattle.folder_nodes.specs.Bare.{file_of_row, folder_of_row}
use Rattle.folder_nodes.specs.declared.rows.FileRow.{FileRow}
use Rattle.folder_nodes.specs.declared.rows.FolderRow.{FolderRow}
use Rattle.role_graph.specs.Roles.{clear_of, sub_of, back_of, files_of}
use Rattle.grant_book.specs.Granted.{Granted}
use Rattle.rekey_walk.specs.Strict.{strict_look_ups, strict_roles}
use Rattle.role_graph.specs.Edges.{edges, has_grants}
use Rattle.role_graph.specs.PublicStore.{public_store}
use Rattle.record_format.specs.Noted.{Note}
use Rattle.move_plan.specs.Inner.{clearance_among}
use Rattle.move_plan.specs.Change.{Change, change_of, clearance_in, inner_roles, is_upgrade, row_change, strict_of}
use Rattle.move_plan.specs.LookUps.{change_look_ups, row_look_ups}
use Rattle.move_plan.proofs.Seeing.{edges_seen, row_seen}
use Rattle.role_graph.specs.Adjacent.{at_roles}
use Rattle.move_plan.specs.Seen.{seen_store}

of_rows : (role : ℕ → Role) (rows : List FolderRow) → map (λ r. role r.id.0) rows ≡ map (λ (e : FolderEntry). role e.id) (map folder_of_row rows)
of_rows role [] = refl
of_rows role (r ∷ rows) = ap (λ l. role r.id.0 ∷ l) (of_rows role rows)

of_folders : (t : Store) (role : ℕ → Role) (rows : List FolderRow) → map folder_of_row rows ≡ t.folders → map (λ r. role r.id.0) rows ≡ map (λ (e : FolderEntry). role e.id) t.folders
of_folders t role rows e = of_rows role rows ∙ ap (map (λ (e : FolderEntry). role e.id)) e

clear_rows : (pairs : List GrantEntry) (rows : List FileRow)
    → flat_map (λ r. clearance_among pairs r.id.0) rows ≡ flat_map (λ (e : FileEntry). clearance_among pairs e.id) (map file_of_row rows)
clear_rows pairs [] = refl
clear_rows pairs (r ∷ rows) = ap (λ l. clearance_among pairs r.id.0 ++ l) (clear_rows pairs rows)

-- the five lists, one behind the other
pub all_inner : (t : Store) (g : Granted) (ws xs ys zs : List FolderRow) (fs : List FileRow) (none one two three four five : List Role) → none ≡ []
    → map folder_of_row ws ≡ t.folders → map folder_of_row xs ≡ t.folders → map folder_of_row ys ≡ t.folders → map folder_of_row zs ≡ t.folders
    → map file_of_row fs ≡ t.files
    → one ≡ none ++ map (λ r. clear_of r.id.0) ws → two ≡ one ++ flat_map (λ r. clearance_among g.pairs r.id.0) fs
    → three ≡ two ++ map (λ r. sub_of r.id.0) xs
    → four ≡ three ++ map (λ r. back_of r.id.0) ys → five ≡ four ++ map (λ r. files_of r.id.0) zs → five ≡ inner_roles (seen_store t g)
unfolding inner_roles clearance_in has_grants
all_inner t g ws xs ys zs fs none one two three four five empty w x y z f a b c d e =
    let clears = map (λ (e : FolderEntry). clear_of e.id) t.folders in
    let more = flat_map (λ (e : FileEntry). clearance_among g.pairs e.id) t.files in
    let subs = map (λ (e : FolderEntry). sub_of e.id) t.folders in
    let backs = map (λ (e : FolderEntry). back_of e.id) t.folders in
    let files = map (λ (e : FolderEntry). files_of e.id) t.folders in
    let read : flat_map (λ r. clearance_among g.pairs r.id.0) fs ≡ more = clear_rows g.pairs fs ∙ ap (flat_map (λ (e : FileEntry). clearance_among g.pairs e.id)) f in
    let first : one ≡ clears = a ∙ (λ i. empty i ++ of_folders t clear_of ws w i) in
    let second : two ≡ clears ++ more = b ∙ (λ i. first i ++ read i) in
    let third : three ≡ (clears ++ more) ++ subs = c ∙ (λ i. second i ++ of_folders t sub_of xs x i) in
    let fourth : four ≡ ((clears ++ more) ++ subs) ++ backs = d ∙ (λ i. third i ++ of_folders t back_of ys y i) in
    let fifth : five ≡ (((clears ++ more) ++ subs) ++ backs) ++ files = e ∙ (λ i. fourth i ++ of_folders t files_of zs z i) in
    fifth ∙ append_assoc ((clears ++ more) ++ subs) backs files ∙ append_assoc (clears ++ more) subs (backs ++ files)
    ∙ append_assoc clears more (subs ++ (backs ++ files))

-- which roles are strict, by the tests
pub upgrade_strict : (strict : Bool) (t : Store) (g : Granted) (note : Note) (row : Change) → is_upgrade note ≡ true → inner_roles (seen_store t g) ≡ strict_of strict (seen_store t g) note row
unfolding strict_of
upgrade_strict strict t g note row is_one =
    let s = seen_store t g in
    λ i. cond (sym is_one i) (inner_roles s) (cond strict (strict_roles (edges s) row.removed row.gone) [])

pub others_strict : (strict : Bool) (s : Store) (note : Note) (row : Change) → is_upgrade note ≡ false → strict ≡ true
    → strict_roles (edges s) row.removed row.gone ≡ strict_of strict s note row
unfolding strict_of
others_strict strict s note row other closes =
    λ i. cond (sym other i) (inner_roles s) (cond (sym closes i) (strict_roles (edges s) row.removed row.gone) [])

pub none_strict : (strict : Bool) (s : Store) (note : Note) (row : Change) → is_upgrade note ≡ false → strict ≡ false → [] ≡ strict_of strict s note row
unfolding strict_of
none_strict strict s note row other lazy =
    λ i. cond (sym other i) (inner_roles s) (cond (sym lazy i) (strict_roles (edges s) row.removed row.gone) [])

-- a row with its strict roles is the change, in so many look-ups
pub change_is : (strict : Bool) (s : Store) (note : Note) (row : Change) (listed : List Role) → row ≡ row_change s note → listed ≡ strict_of strict s note row
    → record row { strict = listed } ≡ change_of strict s note
unfolding change_of
change_is strict s note row listed row_is listed_is =
    let all = listed_is ∙ ap (strict_of strict s note) row_is in
    λ i. record (row_is i) { strict = all i }

module _ (strict : Bool) (t : Store) (g : Granted) (u : Store) (note : Note) (before row : ℕ) (same : u ≡ public_store t g.pairs)
    (few : row ≤ before + row_look_ups u note) where
  own_look_ups : row_look_ups u note ≡ row_look_ups (seen_store t g) note
  own_look_ups =
      let es = ap edges same ∙ edges_seen t g in
      let row_is = ap (λ s. row_change s note) same ∙ row_seen t g note in
      (λ i. length (at_roles (es i) (row_is i).gone) + 2 * length (row_is i).gone)

  pub row_within : row ≤ before + change_look_ups strict (seen_store t g) note
  row_within = omega (arith, few, own_look_ups)

  pub strict_within : (w : Store) (made : Change) (now : ℕ) → w ≡ u → made ≡ row_change (seen_store t g) note
      → now ≤ row + cond strict (strict_look_ups (edges w) made.removed) 0 → now ≤ before + change_look_ups strict (seen_store t g) note
  strict_within w made now again made_is more =
      let es = ap edges (again ∙ same) ∙ edges_seen t g in
      let walked : cond strict (strict_look_ups (edges w) made.removed) 0 ≡ cond strict (strict_look_ups (edges (seen_store t g)) (row_change (seen_store t g) note).removed) 0 =
      (λ i. cond strict (strict_look_ups (es i) (made_is i).removed) 0) in
      omega (arith, few, own_look_ups, more, walked)
