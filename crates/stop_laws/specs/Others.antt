-- Calls of the program that aren't a run, a call of `serve` or an upgrade by the store's owner. This project's own, docs/MODEL.md.
use Rattle.std.specs.Prelude.{◌≡◌, ◌≢◌, List, ℕ, Some}
use Rattle.chacha_seal.specs.Sealing.{check_of}
use Rattle.cli_running.specs.Running.{key_in_lines, lines_in}
use Rattle.cli_upgrading.specs.Upgrading.{HandsInAlone}

-- The first line hands in no key, or one with another check than the owner's: the header of a store tells the two apart by their checks.
abbrev pub IsByOther : List ℕ → List ℕ → Type 0
IsByOther owner typed = (key : List ℕ) → key_in_lines (lines_in typed) ≡ Some key → check_of owner ≢ check_of key

-- The whole input of an upgrade isn't one line that hands in a key, or that one has another check than the owner's.
abbrev pub IsUpgradeByOther : List ℕ → List ℕ → Type 0
IsUpgradeByOther owner typed = (key : List ℕ) → HandsInAlone typed key → check_of owner ≢ check_of key
