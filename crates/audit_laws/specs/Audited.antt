-- What an audit shows of a journal, by serials alone. This project's own, docs/FORMAT.md, "Records", and
-- docs/PROGRAM.md, "What is printed".
use Rattle.std.specs.Prelude.{◌≡◌, ℕ, List, map, Result, Ok}
use Rattle.closure_laws.specs.Seen.{Sight, seen}
use Rattle.cry_base.specs.Listed.{Listed}
use Rattle.cry_base.specs.Sets.{In}
use Rattle.cry_base.specs.declared.client.Bundle.{Bundle}
use Rattle.log_visits.specs.Judging.{Failure, who_of}
use Rattle.public_fold.specs.Journal.{Journal, store_of}
use Rattle.reader_laws.specs.Reading.{if_known}
use Rattle.role_graph.specs.Rights.{Who}
use Rattle.secrecy_laws.specs.Sights.{IsFairlySeen, IsStrictlySeen}
use Rattle.trail_audit.specs.Derived.{PlainSeen, plain_seen, seen_of_sight}
use Rattle.cry_base.specs.declared.client.Seen.{Seen}

-- each name and each file of the journal's history, as it was written, whose key the history derives from the own key of
-- whoever looks; by batch. Holders' keys are left out
unfoldable pub audit_of_journal : Journal → Who → List PlainSeen
audit_of_journal m who = map seen_of_sight (seen m who)

-- the answer to a bundle's reader: that, if the store knows who it is
unfoldable pub audit_answer : Journal → Bundle → Result (List PlainSeen) Failure
audit_answer m bundle = if_known (store_of m) bundle (Ok (audit_of_journal m (who_of bundle)))

-- each of them was shown to the holder when it was written, or a later gain for the holder opened it
abbrev pub AreFairlySeen : Journal → ℕ → List PlainSeen → Type 0
AreFairlySeen m h shown = (s : PlainSeen) → In s shown → (x : Sight) × IsFairlySeen m h x × (s ≡ seen_of_sight x)

-- since it was written each of them was shown to the holder at some moment, or the holder derived it before the store came to have
-- version 2
abbrev pub AreStrictlySeen : Journal → ℕ → List PlainSeen → Type 0
AreStrictlySeen m h shown = (s : PlainSeen) → In s shown → (x : Sight) × IsStrictlySeen m h x × (s ≡ seen_of_sight x)

-- what an answer shows, without the room beside the bytes
abbrev pub seen_items : Listed Seen → List PlainSeen
seen_items answer = map plain_seen answer.items
