use Rattle.std.proofs.Common.{◌≡◌, take}
use Rattle.cry_base.specs.Sets.{In}
use Rattle.closure_laws.specs.Found.{serials_of}
use Rattle.closure_laws.proofs.trail_search.place_of.Given as goal

abbrev pub invariant-loop-one : goal.invariant-loop-one
invariant-loop-one l = record {
  place : l.place ≡ l.one-index;
  none : In l.serial.0 (serials_of (take l.one-index l.found)) → ⊥;
}
