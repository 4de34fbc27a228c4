-- Reading fields from left to right. Where a field is bad, a reading tells how many bytes are left from its first
-- byte on, so that no place has to be carried along.
use Rattle.std.specs.Prelude.{ℕ, zero, suc, List, [], ◌∷◌, length, take, drop, Result, Ok, Err, ◌&&◌, nat_lt, nat_le, if◌then◌else◌}
use Rattle.std.specs.Int.{Width, byte_len, from_be_bytes}

-- a value and the bytes after it, or how many bytes are left from the bad field on
abbrev pub Read : Type 0 → Type 0
Read A = Result (A × List ℕ) ℕ

-- goes on where nothing was bad
unfoldable pub and_then : {A B : Type 0} → Result A ℕ → (A → Result B ℕ) → Result B ℕ
and_then (Ok x) f = f x
and_then (Err left) f = Err left

infixl 10 ◌>>=◌
abbrev pub ◌>>=◌ : {A B : Type 0} → Result A ℕ → (A → Result B ℕ) → Result B ℕ
read >>= f = and_then read f

-- a byte from low to high
unfoldable pub byte_between : ℕ → ℕ → List ℕ → Read ℕ
byte_between low high [] = Err 0
byte_between low high (byte ∷ rest) = if nat_le low byte && nat_le byte high then Ok (byte, rest) else Err (suc (length rest))

-- so many bytes
unfoldable pub bytes_at : ℕ → List ℕ → Read (List ℕ)
bytes_at n bytes = if nat_lt (length bytes) n then Err (length bytes) else Ok (take n bytes, drop n bytes)

-- a number of this width, the highest byte first
unfoldable pub number_at : Width → List ℕ → Read ℕ
number_at w bytes = do
  field ← bytes_at (byte_len w) bytes
  Ok (from_be_bytes w field.0, field.1)

-- a number of this width from low to high
unfoldable pub number_between : Width → ℕ → ℕ → List ℕ → Read ℕ
number_between w low high bytes = do
  number ← number_at w bytes
  if nat_le low number.0 && nat_le number.0 high then Ok number else Err (length bytes)

-- so many values, one after the other
unfoldable pub repeat_at : {A : Type 0} → (List ℕ → Read A) → ℕ → List ℕ → Read (List A)
repeat_at value_at zero bytes = Ok ([], bytes)
repeat_at value_at (suc n) bytes = do
  first ← value_at bytes
  others ← repeat_at value_at n first.1
  Ok (first.0 ∷ others.0, others.1)
