-- What failed has one fault.
use Rattle.std.proofs.Common.{◌≡◌, Result, Err}
use Rattle.log_visits.specs.declared.fault.ClientFault.{ClientFault}

pub one_fault : (X : Type 0) (r : Result X ClientFault) (a b : ClientFault) → r ≡ Err a → r ≡ Err b → a ≡ b
one_fault X r a b p q = cc
