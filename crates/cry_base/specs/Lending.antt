-- What a text is once a loan of its bytes is over.
use Rattle.std.specs.Prelude.{ℕ, List, ◌++◌, length, take, drop}
use Rattle.std.specs.Borrow.{Lends, MutBor, Fml, Array, u8}
use Rattle.cry_base.specs.Listed.{Listed}
use Rattle.cry_base.specs.contracts.list.List.{the_row}

-- the text with these bytes in the place of its own. A loan keeps its length, so both are of one length
abbrev pub with_bytes : Listed ℕ → List ℕ → Listed ℕ
with_bytes t bytes = record {
  items = take (length t.items) (bytes ++ drop (length bytes) t.items);
  spare = t.spare;
}

-- the text ends with the bytes that were left behind the loan, and with the room that it had
abbrev pub LendsItems : MutBor (Listed ℕ) → MutBor (List ℕ) → Fml
LendsItems t r = Lends (the_row u8) (Array u8 0) t r (with_bytes t.now)
