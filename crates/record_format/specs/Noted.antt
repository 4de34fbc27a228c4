-- What a payload says of its command in public: which nodes and holders by number, and no name or byte.
-- This project's own, docs/FORMAT.md, "Notes and payloads".
use Rattle.std.specs.Prelude.{ℕ, List}

-- the fifteen notes, in the order of their codes from 1. A grant is on a folder, or on a file by its clearance number
pub data Note : Type 0 where
  Root : Note
  NewHolder : (holder : ℕ) → (check : List ℕ) → Note
  NewFolder : (folder parent : ℕ) → Note
  NewFile : (file folder : ℕ) → Note
  Rewrite : (file : ℕ) → Note
  NameFile : (file : ℕ) → Note
  NameFolder : (folder : ℕ) → Note
  DropFile : (file : ℕ) → Note
  DropFolder : (folder : ℕ) → Note
  ShiftFile : (file into : ℕ) → Note
  ShiftFolder : (folder into : ℕ) → Note
  Give : (holder folder : ℕ) → Note
  Take : (holder folder : ℕ) → Note
  StrictRoot : Note
  Upgrade : Note
