-- The pieces of a path, as a walk along it meets them.
use Rattle.std.specs.Prelude.{ℕ, List, [], Option, Some, None}
use Rattle.std.specs.Borrow.{Bor}
use Rattle.cry_base.specs.Naming.{split_at_slashes}

-- the pieces between slashes of what is left: none where nothing is
abbrev pub pieces_of : Option (Bor (List ℕ)) → List (List ℕ)
pieces_of None = []
pieces_of (Some left) = split_at_slashes left.now
