use Rattle.attempt_laws.specs.Trials.{all_trials}
use Rattle.attempt_laws.proofs.Ranks.{all_apart, apart_share}
use Rattle.attempt_laws.proofs.Written.{same_payload}
use Rattle.attempt_laws.proofs.laws.veil_keys_mask_one_payload.Goals as goal

pub returns : goal.returns
returns c = record { once = λ version keys later. apart_share (all_trials version keys later) (all_apart version keys later); payload = same_payload }
