-- What is done to rows of names is done to the titles that contracts see.
use Rattle.std.proofs.Common.{◌≡◌, ℕ, Bool, true, false, cond, ◌==◌, List, map, Option, Some, None, refl, sym, ap, ◌∙◌}
use Rattle.std.specs.Option.{option_map}
use Rattle.std.specs.Prelude.{is_some}
use Rattle.cry_base.specs.declared.ids.FolderId.{FolderId}
use Rattle.cry_base.specs.declared.ids.FileId.{FileId}
use Rattle.cry_base.specs.declared.roles.Node.{Node}
use Rattle.cry_base.specs.declared.roles.Node.TheVariants.{Folder, File}
use Rattle.sorted_table.specs.Rows.{row_at, with_row, without, replaced}
use Rattle.folder_nodes.specs.Titles.{Title, Titles, title_at, title_of, is_node}
use Rattle.folder_nodes.specs.Titling.{title_of_row}
use Rattle.folder_nodes.specs.declared.titles.NameRow.{NameRow}
use Rattle.std.proofs.lemmas.Bool.{eqb-true}
use Rattle.folder_nodes.proofs.Lookups.{find-map}
use Rattle.folder_nodes.proofs.Placing.{found_replaced, found_with, found_without}

abbrev pub rank : NameRow → ℕ
rank r = r.id

pub title_row : (rows : List NameRow) (k : ℕ) → title_at (map title_of_row rows) k ≡ option_map title_of_row (row_at rank rows k)
title_row rows k = find-map NameRow Title title_of_row (λ t. t.id == k) rows

map_map : (X Y Z : Type 0) (g : Y → Z) (h : X → Y) (o : Option X) → option_map g (option_map h o) ≡ option_map (λ x. g (h x)) o
map_map X Y Z g h None = refl
map_map X Y Z g h (Some x) = refl

pub name_row : (rows : List NameRow) (k : ℕ) → option_map (λ (r : NameRow). r.name.items) (row_at rank rows k) ≡ option_map (λ (t : Title). t.name) (title_at (map title_of_row rows) k)
name_row rows k = sym (ap (option_map (λ (t : Title). t.name)) (title_row rows k) ∙ map_map NameRow Title (List ℕ) (λ t. t.name) title_of_row (row_at rank rows k))

pub bytes_row : (rows : List NameRow) (k : ℕ) → option_map (λ (r : NameRow). r.bytes.items) (row_at rank rows k) ≡ option_map (λ (t : Title). t.bytes) (title_at (map title_of_row rows) k)
bytes_row rows k = sym (ap (option_map (λ (t : Title). t.bytes)) (title_row rows k) ∙ map_map NameRow Title (List ℕ) (λ t. t.bytes) title_of_row (row_at rank rows k))

map_cond : (X Y : Type 0) (h : X → Y) (b : Bool) (x y : Option X) → option_map h (cond b x y) ≡ cond b (option_map h x) (option_map h y)
map_cond X Y h true x y = refl
map_cond X Y h false x y = refl

-- the look-ups of the titles follow those of the rows
titles_then : (old new : List NameRow) (id : ℕ) (o : Option NameRow) → ((k : ℕ) → row_at rank new k ≡ cond (id == k) o (row_at rank old k)) → (k : ℕ) → title_at (map title_of_row new) k ≡ cond (id == k) (option_map title_of_row o) (title_at (map title_of_row old) k)
titles_then old new id o h k =
    title_row new k ∙ ap (option_map title_of_row) (h k) ∙ map_cond NameRow Title title_of_row (id == k) o (row_at rank old k)
    ∙ ap (cond (id == k) (option_map title_of_row o)) (sym (title_row old k))

-- another title in the place of one
pub titles_replaced : (old new : List NameRow) (row : NameRow) → is_some (row_at rank old row.id) ≡ true → new ≡ replaced rank old row → (k : ℕ) → title_at (map title_of_row new) k ≡ cond (row.id == k) (Some (title_of_row row)) (title_at (map title_of_row old) k)
titles_replaced old new row there e = titles_then old new row.id (Some row) (λ k. ap (λ l. row_at rank l k) e ∙ found_replaced NameRow rank old row k there)

-- a title more, a title less, and one less where there is none
pub titles_with : (old new : List NameRow) (row : NameRow) → new ≡ with_row rank old row → (k : ℕ) → title_at (map title_of_row new) k ≡ cond (row.id == k) (Some (title_of_row row)) (title_at (map title_of_row old) k)
titles_with old new row e = titles_then old new row.id (Some row) (λ k. ap (λ l. row_at rank l k) e ∙ found_with NameRow rank old row k)

pub titles_without : (old new : List NameRow) (id : ℕ) → new ≡ without rank old id → (k : ℕ) → title_at (map title_of_row new) k ≡ cond (id == k) None (title_at (map title_of_row old) k)
titles_without old new id e = titles_then old new id None (λ k. ap (λ l. row_at rank l k) e ∙ found_without NameRow rank old id k)

pub titles_none : (rows : List NameRow) (id : ℕ) → row_at rank rows id ≡ None → (k : ℕ) → title_at (map title_of_row rows) k ≡ cond (id == k) None (title_at (map title_of_row rows) k)
titles_none rows id none k =
    (elim (id == k) as (λ b. id == k ≡ b → title_at (map title_of_row rows) k ≡ cond b None (title_at (map title_of_row rows) k)) [
      | true ↦ λ t. ap (title_at (map title_of_row rows)) (sym (eqb-true id k t)) ∙ title_row rows id ∙ ap (option_map title_of_row) none
      | false ↦ λ t. refl
    ]) refl

abbrev titles : List Title → List Title → ℕ → Titles
titles folders files spare = record { folders = folders; files = files; spare = spare }

-- a node's title, where its book has changed
pub folder_then : (old new files : List Title) (n m : ℕ) (f : FolderId) (o : Option Title) → ((k : ℕ) → title_at new k ≡ cond (f.0 == k) o (title_at old k)) → (other : Node) → title_of (titles new files m) other ≡ cond (is_node (Folder f) other) o (title_of (titles old files n) other)
folder_then old new files n m f o h (Folder g) = h g.0
folder_then old new files n m f o h (File y) = refl

pub file_then : (folders old new : List Title) (n m : ℕ) (x : FileId) (o : Option Title) → ((k : ℕ) → title_at new k ≡ cond (x.0 == k) o (title_at old k)) → (other : Node) → title_of (titles folders new m) other ≡ cond (is_node (File x) other) o (title_of (titles folders old n) other)
file_then folders old new n m x o h (File y) = h y.0
file_then folders old new n m x o h (Folder g) = refl
