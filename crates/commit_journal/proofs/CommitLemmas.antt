-- What holds anyway.
use Rattle.std.proofs.Common.{Result, Ok, Err}
use Rattle.std.specs.Prelude.{IfOk}
pub use Rattle.batch_log.proofs.WrittenMoments.{on_err, on_ok}

-- two facts of the value, if there is one
pub ok_both : {T E : Type 0} (r : Result T E) (P Q R : T → Type 0) → ((x : T) → P x → Q x → R x) → IfOk r P → IfOk r Q → IfOk r R
ok_both (Ok x) P Q R follows p q = follows x p q
ok_both (Err fault) P Q R follows p q = tt
