-- Rows of names keep their names and digests.
use Rattle.std.proofs.Common.{◌≡◌, ℕ, true, false, cond, ◌==◌, nat_lt, ◌⊎◌, List, ◌∷◌, map, filter, sym, ap, ◌∙◌, subst, ⊎_elim}
use Rattle.cry_base.specs.Sets.{In}
use Rattle.cry_base.proofs.Members.{In-append, In-filter, In-map}
use Rattle.sorted_table.specs.Rows.{with_row, without, replaced}
use Rattle.sorted_table.proofs.Found.{In-without}
use Rattle.folder_nodes.specs.Digests.{name_digest}
use Rattle.folder_nodes.specs.Titles.{Title, MayBeNamed}
use Rattle.folder_nodes.specs.Titling.{IsNamed, AreNamed, title_of_row}
use Rattle.folder_nodes.specs.declared.titles.NameRow.{NameRow}
use Rattle.folder_nodes.proofs.Titled.{rank}

module _ (rows : List NameRow) (named : AreNamed rows) where
  pub named_replaced : (row : NameRow) → IsNamed row → AreNamed (replaced rank rows row)
  named_replaced row is r i =
      let w = (In-map NameRow NameRow (λ (x : NameRow). cond (x.id == row.id) row x) r rows).0 i in
      (elim (w.0.id == row.id) as (λ b. r ≡ cond b row w.0 → IsNamed r) [
        | true ↦ λ e. subst IsNamed (sym e) is
        | false ↦ λ e. subst IsNamed (sym e) (named w.0 w.1)
      ]) w.2

  pub named_with : (row : NameRow) → IsNamed row → AreNamed (with_row rank rows row)
  named_with row is r i =
      let lower = λ (x : NameRow). nat_lt x.id row.id in
      let higher = λ (x : NameRow). nat_lt row.id x.id in
      ⊎_elim
      (λ low. named r (In-filter NameRow lower r rows low).0)
      (λ (rest : (r ≡ row) ⊎ In r (filter higher rows)). ⊎_elim
      (λ (e : r ≡ row). subst IsNamed (sym e) is)
      (λ high. named r (In-filter NameRow higher r rows high).0) rest)
      ((In-append NameRow r (filter lower rows) (row ∷ filter higher rows)).0 i)

  pub named_without : (id : ℕ) → AreNamed (without rank rows id)
  named_without id r i = named r ((In-without NameRow rank rows id r).0 i).0

  -- what is titled has a name, or the root's
  pub titles_named : (t : Title) → In t (map title_of_row rows) → MayBeNamed t.name
  titles_named t i =
      let w = (In-map NameRow Title title_of_row t rows).0 i in
      subst (λ (z : Title). MayBeNamed z.name) (sym w.2) (named w.0 w.1).0

  -- all with the name are among those of its digest
  pub titles_grouped : (ids : List ℕ) (name : List ℕ) (digest : ℕ) → digest ≡ name_digest name → ((r : NameRow) → In r rows → r.digest ≡ digest → In r.id ids) → (t : Title) → In t (map title_of_row rows) → t.name ≡ name → In t.id ids
  titles_grouped ids name digest is all t i same =
      let w = (In-map NameRow Title title_of_row t rows).0 i in
      let own : w.0.name.items ≡ name = ap (λ (z : Title). z.name) (sym w.2) ∙ same in
      subst (λ (z : Title). In z.id ids) (sym w.2) (all w.0 w.1 ((named w.0 w.1).1 ∙ ap name_digest own ∙ sym is))
