use Rattle.attempt_laws.proofs.Written.{attempts_told, entered_is, epochs_agree, made_told, numbers_agree}
use Rattle.attempt_laws.proofs.laws.attempts_are_the_batches_written.Goals as goal

pub returns : goal.returns
returns c = record { attempts = attempts_told; made = made_told; epoch = epochs_agree; number = numbers_agree; entered = entered_is }
