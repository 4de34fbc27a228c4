-- What is known of a result, where its value was taken out.
use Rattle.std.proofs.Common.{◌≡◌, Some, None, Result, Ok, Err, subst}
use Rattle.std.specs.Prelude.{IsOk, OnOk, MatchResult}
use Rattle.std.specs.Result.{result_ok}

-- what holds at an answer holds where it is one
pub on_ok : {T E : Type 0} (r : Result T E) (P : Type 0) → IsOk r → OnOk r P → P
on_ok (Ok x) P is_ok holds = holds
on_ok (Err e) P is_ok holds = cc

-- a value that was taken out is the result's
pub of_ok : {T E : Type 0} (r : Result T E) (P : T → Type 0) (Q : E → Type 0) (x : T) → MatchResult r P Q → Some x ≡ result_ok r → P x
of_ok (Ok y) P Q x holds is = let same : y ≡ x = cc in subst P same holds
of_ok (Err e) P Q x holds is = cc

-- where there was none it is an error
pub of_err : {T E : Type 0} (r : Result T E) (P : T → Type 0) (Q : E → Type 0) → MatchResult r P Q → None ≡ result_ok r → (e : E) × Q e
of_err (Ok y) P Q holds is = cc
of_err (Err e) P Q holds is = (e, holds)
