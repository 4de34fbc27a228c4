-- What the program answers where it prints one text or says how it ends.
use Rattle.std.specs.Prelude.{◌≡◌, ℕ, List, Option, Result, Ok, Err}
use Rattle.cry_io.specs.Told.{WhereBothTold}
use Rattle.cli_base.specs.Outside.{PrintsAll, PrintsFront}
use Rattle.cli_base.specs.declared.status.Status.{Status}
use Rattle.cli_base.specs.declared.status.Status.TheVariants as statuses

-- this alone
abbrev pub IsExactly : Result (List ℕ) Status → Result (List ℕ) Status → Type 0
IsExactly wanted answer = wanted ≡ answer

-- The answer is one that may be given, and its text was printed, unless something outside failed or memory was wanting.
abbrev pub AnswersAs : Status → (Result (List ℕ) Status → Type 0) → Option (List ℕ) → Option (List ℕ) → Type 0
AnswersAs statuses.Done May before after = (text : List ℕ) × May (Ok text) × WhereBothTold before after (PrintsAll text)
AnswersAs statuses.WriteFault May before after = (text : List ℕ) × May (Ok text) × WhereBothTold before after (PrintsFront text)
AnswersAs statuses.ReadFault May before after = Unit {0}
AnswersAs statuses.DiskFault May before after = Unit {0}
AnswersAs statuses.OutOfMemory May before after = Unit {0}
AnswersAs status May before after = May (Err status)
