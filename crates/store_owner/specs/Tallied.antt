-- The figures of a journal, and how an owner comes to them. This project's own, docs/MODEL.md.
use Rattle.std.specs.Prelude.{◌≡◌, Bool, true, false, not, filter, length, replicate, Result, Ok, Err}
use Rattle.std.specs.List.{flat_map}
use Rattle.cry_base.specs.Store.{Store}
use Rattle.cry_base.specs.declared.commands.Reply.{Reply}
use Rattle.cry_base.specs.declared.commands.Reply.TheVariants as replies
use Rattle.public_fold.specs.Fitted.{told_step}
use Rattle.public_fold.specs.Journal.{Entry, Journal, Stand, keys_of, steps_of}
use Rattle.public_fold.specs.Journal.Entry.{Session, Made, Did, Upgraded}
use Rattle.public_fold.specs.Keyed.{links_of}
use Rattle.public_fold.specs.KeyStep.{Stepped}
use Rattle.public_fold.specs.Lengths.{end_of}
use Rattle.public_fold.specs.Preparing.{begun}
use Rattle.public_fold.specs.Standing.{IsSeenAs}
use Rattle.journal_bytes.specs.Owning.{IsStoreOf}
use Rattle.store_owner.specs.Deeds.{Deed, deed_count, deed_note}
use Rattle.store_owner.specs.Counted.{with_more}
use Rattle.store_owner.specs.Owned.{OwnerView}
use Rattle.store_owner.specs.Sound.{granted_in}
use Rattle.store_owner.specs.declared.apply_fault.ApplyFault.{ApplyFault}
use Rattle.store_owner.specs.declared.counted.Counted.{Counted}
use Rattle.store_owner.specs.declared.tally.Tally.{Tally}

-- ---- of a journal

abbrev pub is_command : Entry → Bool
is_command Session = false
is_command (Made version keys) = false
is_command (Did request keys) = true
is_command (Upgraded keys) = false

-- its commands, and all links and contents that its entries publish
unfoldable pub counted_in : Journal → Counted
counted_in m = record {
  commands = length (filter is_command m);
  links = length (links_of (steps_of m));
  contents = length (flat_map (λ (step : Stepped). step.contents) (steps_of m));
}

-- with the dirty roles behind it, and the end of its log
abbrev pub tally_of : Journal → Tally
tally_of m = record {
  commands = (counted_in m).commands;
  links = (counted_in m).links;
  contents = (counted_in m).contents;
  dirty = length (keys_of m).dirty;
  bytes = end_of m;
}

-- ---- of an owner

abbrev pub tally_in : OwnerView → Tally
tally_in o = record {
  commands = o.tally.commands;
  links = o.tally.links;
  contents = o.tally.contents;
  dirty = length o.state.keys.dirty;
  bytes = o.journal.end;
}

-- one command more is counted, with the records of its step in whatever stand and store the owner keeps
abbrev pub CountsOne : Deed → OwnerView → OwnerView → Type 0
CountsOne d old new = (at : Stand) (s : Store) → IsSeenAs old.state at → IsStoreOf old.state.tree old.names (granted_in old) s
    → let step = told_step (begun (not old.journal.has_epoch) at) (deed_note s d (replicate 32 0)) in
    new.tally ≡ with_more old.tally (deed_count d) (length step.links) (length step.contents)

-- only a command that was accepted is counted
abbrev pub CountsCommand : Result Reply ApplyFault → Deed → OwnerView → OwnerView → Type 0
CountsCommand (Ok (replies.Refused why)) d old new = new.tally ≡ old.tally
CountsCommand (Ok reply) d old new = CountsOne d old new
CountsCommand (Err fault) d old new = new.tally ≡ old.tally

-- the owner who counted all of the journal before a command is answered counts all of that after it
abbrev pub KeepsCount : Deed → Reply → OwnerView → OwnerView → Journal → Journal → Type 0
KeepsCount d reply old new before after = CountsCommand (Ok reply) d old new → old.tally ≡ counted_in before → new.tally ≡ counted_in after
