-- A batch that was read, without the room that its lists have beside their items.
use Rattle.std.specs.Prelude.{ℕ, List, map}
use Rattle.cry_base.specs.declared.ids.Epoch.{Epoch}
use Rattle.cry_base.specs.Listed.{Listed}
use Rattle.record_format.specs.Plain.{PlainPayload, plain_payload}
use Rattle.commit_journal.specs.declared.placed.Body.{Body}
use Rattle.commit_journal.specs.declared.placed.Body.TheVariants as bodies
use Rattle.commit_journal.specs.declared.placed.Placed.{Placed}

-- the payload of one command, or the begin of an epoch
pub data PlainBody : Type 0 where
  Commands : PlainPayload → PlainBody
  NewEpoch : PlainBody

abbrev pub plain_body : Body → PlainBody
plain_body (bodies.Commands payload) = Commands (plain_payload payload)
plain_body bodies.NewEpoch = NewEpoch

-- a batch's number and epoch, the place of its payload's first byte, and what it carries
pub record PlainPlaced : Type 0 where
  pub batch : ℕ
  pub epoch : Epoch
  pub place : ℕ
  pub body : PlainBody

abbrev pub plain_placed : Placed → PlainPlaced
plain_placed p = record { batch = p.batch; epoch = p.epoch; place = p.place; body = plain_body p.body }

-- the batches of a log, in order
abbrev pub plain_log : Listed Placed → List PlainPlaced
plain_log log = map plain_placed log.items
