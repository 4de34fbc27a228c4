use Rattle.std.proofs.Common.{ap}
use Rattle.cry_base.specs.Stepping.{step, effect, accepted}
use Rattle.cry_base.proofs.laws.step_refuses_or_acts.Goals as goal

pub returns : goal.returns
unfolding step accepted
returns c = record {
  refused = λ s r key file_bytes why e. ap (λ o. accepted o (effect s r key)) e;
  accepted = λ s r key file_bytes e. ap (λ o. accepted o (effect s r key)) e;
}
