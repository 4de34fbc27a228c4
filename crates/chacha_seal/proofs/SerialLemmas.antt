-- No two pairs of an epoch and a count have one serial.
use Rattle.std.proofs.Common.{◌≡◌, ℕ, ◌^◌, ◌<◌, arith}
use Rattle.std.proofs.lemmas.Nat.{same_from_place}
use Rattle.chacha_seal.specs.Serials.{serial_of}

-- a serial has one epoch and one count
pub same_from_serial_of : (e c f d : ℕ) → c < 2 ^ 32 → d < 2 ^ 32
    → serial_of e c ≡ serial_of f d → (e ≡ f) × (c ≡ d)
same_from_serial_of e c f d c_fits d_fits same = same_from_place e c f d (2 ^ 32) c_fits d_fits same

-- the serial of an epoch and a count of 32 bits each has 64 bits
pub serial_of-lt : (e c : ℕ) → e < 2 ^ 32 → c < 2 ^ 32 → serial_of e c < 2 ^ 64
serial_of-lt e c e_fits c_fits = omega arith

-- the serials of a later epoch are above those of an earlier one
pub serial_of-lt-later : (e c f d : ℕ) → e < f → c < 2 ^ 32 → serial_of e c < serial_of f d
serial_of-lt-later e c f d later c_fits = omega arith
