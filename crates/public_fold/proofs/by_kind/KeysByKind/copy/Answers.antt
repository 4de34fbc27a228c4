use Rattle.std.proofs.Common.{◌≡◌, ◌<◌, ℕ, List, [], ◌∷◌, get_or, length, map, ap, sym, ◌∙◌, arith}
use Rattle.std.proofs.lemmas.List.{get_or-map}
use Rattle.sorted_table.specs.Tabled.{Tabled}
use Rattle.public_fold.specs.KeyTables.{KeyRows, serial_at, serial_in}
use Rattle.public_fold.specs.declared.key_rows.KeyRow.{KeyRow}
use Rattle.public_fold.proofs.InKinds.{each_kind}
use Rattle.public_fold.proofs.by_kind.KeysByKind.copy.Goals as goal

pub returns : goal.returns
unfolding serial_in
returns c = λ role.
    let old = c.self.inside.tables in
    let rows_of : Tabled KeyRow → List KeyRow = λ t. t.rows in
    let copies : List (Tabled KeyRow) = c.in_ok-copy.field-0 ∷ c.in_ok-copy-2.field-0 ∷ c.in_ok-copy-3.field-0 ∷ c.in_ok-copy-4.field-0
    ∷ c.in_ok-copy-5.field-0 ∷ c.in_ok-copy-6.field-0 ∷ c.in_ok-copy-7.field-0 ∷ [] in
    let same : (i : ℕ) (rows : List KeyRow) (d : Tabled KeyRow) → i < 7 → rows ≡ (get_or old i d).rows → serial_at rows role ≡ serial_at (get_or (map rows_of old) i []) role = λ i rows d low is.
    let within : i < length old = omega (arith, low, c.self.invariant) in
    ap (λ l. serial_at l role) (is ∙ sym (get_or-map rows_of old i d [] within)) in
    each_kind (λ k. serial_at (get_or (map rows_of copies) k []) role ≡ serial_at (get_or (map rows_of old) k []) role)
    (same 0 _ c.index-self-0.result (omega arith) c.in_ok-copy.ensures)
    (same 1 _ c.index-self-1.result (omega arith) c.in_ok-copy-2.ensures)
    (same 2 _ c.index-self-2.result (omega arith) c.in_ok-copy-3.ensures)
    (same 3 _ c.index-self-3.result (omega arith) c.in_ok-copy-4.ensures)
    (same 4 _ c.index-self-4.result (omega arith) c.in_ok-copy-5.ensures)
    (same 5 _ c.index-self-5.result (omega arith) c.in_ok-copy-6.ensures)
    (same 6 _ c.index-self-6.result (omega arith) c.in_ok-copy-7.ensures) role
    ∙ ap (λ (t : KeyRows). serial_in t role) c.self.view_is
