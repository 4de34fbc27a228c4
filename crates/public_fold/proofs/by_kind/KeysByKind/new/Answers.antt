use Rattle.std.proofs.Common.{◌≡◌, List, [], ◌∷◌, get_or, map, None, ap}
use Rattle.public_fold.specs.KeyTables.{serial_at, serial_in}
use Rattle.public_fold.specs.declared.key_rows.KeyRow.{KeyRow}
use Rattle.public_fold.proofs.InKinds.{each_kind}
use Rattle.public_fold.proofs.by_kind.KeysByKind.new.Goals as goal

pub returns : goal.returns
unfolding serial_at serial_in
returns c = λ role.
    let none : (rows : List KeyRow) → rows ≡ [] → serial_at rows role ≡ None = λ rows is. ap (λ l. serial_at l role) is in
    each_kind (λ k. serial_at (get_or (map (λ t. t.rows)
    (c.new.result ∷ c.new-2.result ∷ c.new-3.result ∷ c.new-4.result ∷ c.new-5.result ∷ c.new-6.result ∷ c.new-7.result ∷ [])) k []) role ≡ None)
    (none c.new.result.rows c.new.ensures) (none c.new-2.result.rows c.new-2.ensures) (none c.new-3.result.rows c.new-3.ensures)
    (none c.new-4.result.rows c.new-4.ensures) (none c.new-5.result.rows c.new-5.ensures) (none c.new-6.result.rows c.new-6.ensures)
    (none c.new-7.result.rows c.new-7.ensures) role
