-- A session that reads one batch more.
use Rattle.std.proofs.Common.{◌≡◌, ◌<◌, ◌≤◌, Bool, [], ◌∷◌, length, Option, None, Some, arith, sym, ap, subst, ◌∙◌, length-append}
use Rattle.cry_base.specs.Layout.{header_len}
use Rattle.commit_journal.specs.Logs.{AreInEpochs}
use Rattle.commit_journal.specs.Placed.{plain_placed}
use Rattle.commit_journal.specs.Streaming.{LogState, ArePlaced}
use Rattle.commit_journal.specs.declared.past.Past.{Past}
use Rattle.commit_journal.specs.declared.placed.Placed.{Placed}
use Rattle.holder_client.specs.Keeping.{ReadsOn, StartsOn}
use Rattle.holder_client.specs.Reads.{HasRead, HasStarts}
use Rattle.holder_client.specs.declared.log_reader.Reader.{Reader}
use Rattle.read_steps.specs.Steps.{GoesOn, IsSession, KeepsOf, SessionView}
use Rattle.read_steps.proofs.Placing.{placed_gated, placed_more}

-- the gate behind its log was read once more
pub session_gated : (s : SessionView) (log : LogState) (ready : Bool) → log ≡ record s.log { past = record s.log.past { gate = log.past.gate } } → IsSession s →
    IsSession (record { bundle = s.bundle; log = log; ready = ready; pinned = s.pinned })
session_gated s log ready same is = record {
  owner = ap (λ (l : LogState). l.owner) same ∙ is.owner;
  placed = subst (λ (l : LogState). ArePlaced header_len 0 0 l.given l.starts l.past) (sym same)
      (placed_gated header_len 0 0 s.log.given s.log.starts s.log.past log.past.gate is.placed);
  within = subst (λ (l : LogState). length l.given ≤ s.pinned) (sym same) is.within;
  counted = is.counted;
}

-- its log has given one batch more
pub session_more : (s : SessionView) (log : LogState) (p : Placed) (start : Past) (ready : Bool) → GoesOn s.log p start log → length s.log.given < s.pinned → IsSession s →
    IsSession (record { bundle = s.bundle; log = log; ready = ready; pinned = s.pinned })
session_more s log p start ready on more is = record {
  owner = on.owner ∙ is.owner;
  placed = rw (on.given, on.starts)
      (placed_more header_len 0 0 s.log.given s.log.starts s.log.past start log.past (plain_placed p) is.placed on.start_is on.behind);
  within = omega (arith, more, ap length on.given, length-append s.log.given (plain_placed p ∷ []));
  counted = is.counted;
}

-- and so is what is kept of it
pub keeps_more : (old log : LogState) (reader new : Reader) (p : Placed) (start : Past) → GoesOn old p start log → KeepsOf old (Some reader) → ReadsOn HasRead reader p new → StartsOn HasStarts reader p start new →
    KeepsOf log (Some new)
keeps_more old log reader new p start on keeps reads starts = (
  subst (HasRead new) (sym on.given) (reads old.given keeps.0 (subst (AreInEpochs 0) on.given on.epochs) on.batch),
  subst (HasStarts new) (sym on.starts) (starts old.starts keeps.1 on.number (omega (arith, on.batch, on.count))),
)

pub keeps_gated : (old log : LogState) (reader : Option Reader) → log ≡ record old { past = record old.past { gate = log.past.gate } } → KeepsOf old reader → KeepsOf log reader
keeps_gated old log None same keeps = tt
keeps_gated old log (Some reader) same keeps = (
  subst (HasRead reader) (sym (ap (λ (l : LogState). l.given) same)) keeps.0,
  subst (HasStarts reader) (sym (ap (λ (l : LogState). l.starts) same)) keeps.1,
)
