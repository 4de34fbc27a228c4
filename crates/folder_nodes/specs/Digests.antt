-- The number under which a name is looked up. No promise rests on which number it is.
use Rattle.std.specs.Prelude.{ℕ, ◌%◌, List}
use Rattle.std.specs.Hash.DefaultHasher.{initial, write, finish}

-- the lower half of its SipHash-1-3 with both keys 0 (std's `DefaultHasher`)
unfoldable pub name_digest : List ℕ → ℕ
name_digest name = finish (write initial name) % 4294967296
