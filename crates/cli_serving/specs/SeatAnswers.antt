-- What a session's line does, and what is printed to it. This project's own, docs/PROGRAM.md, "Lines".
use Rattle.std.specs.Prelude.{◌≡◌, ◌++◌, ℕ, List, Option, Result, Ok, Err, take}
use Rattle.cry_io.specs.Told.{WhereBothTold}
use Rattle.read_steps.specs.Steps.{SessionView}
use Rattle.script_text.specs.Seats.{SeatAsk}
use Rattle.session_laws.specs.Seats.{PlainReply}
use Rattle.session_laws.specs.Serving.{spell_plain_reply}
use Rattle.cli_sessions.specs.declared.script.ScriptFault.TheVariants as script
use Rattle.cli_serving.specs.Seating.{FailsSeat, SeatWent}
use Rattle.cli_serving.specs.declared.serve_fault.ServeFault.{ServeFault}
use Rattle.cli_serving.specs.declared.serve_fault.ServeFault.TheVariants as serve

-- the line was done, and its reply printed: all of it, at a write fault a front of it, and without memory for it nothing; or its reading
-- met a fault, and nothing was printed
abbrev pub SeatAnswered : Result (Unit {0}) ServeFault → Option (List ℕ) → SeatAsk → List SessionView → List SessionView
    → Option (List ℕ) → Option (List ℕ) → Type 0
SeatAnswered (Ok _) told ask old new before after = (reply : PlainReply) × SeatWent told ask old reply new
    × WhereBothTold before after (λ b a. a ≡ b ++ spell_plain_reply reply)
SeatAnswered (Err (serve.Script script.WriteFault)) told ask old new before after = (reply : PlainReply) × SeatWent told ask old reply new
    × WhereBothTold before after (λ b a. (n : ℕ) × (a ≡ b ++ take n (spell_plain_reply reply)))
SeatAnswered (Err (serve.Script script.OutOfMemory)) told ask old new before after = (reply : PlainReply)
    × SeatWent told ask old reply new × (after ≡ before)
SeatAnswered (Err (serve.Reading met)) told ask old new before after = FailsSeat told ask old met × (after ≡ before)
SeatAnswered _ told ask old new before after = ⊥
