use Rattle.std.proofs.Common.{sym, ◌∙◌}
use Rattle.commit_journal.proofs.Standings.{recovered_standing, last_slot_standing}
use Rattle.commit_journal.proofs.standing.standing_bytes_tell_their_batches.Goals as goal

pub returns : goal.returns
returns c = record {
  batches = recovered_standing;
  slot = last_slot_standing;
  one = λ owner bs others bytes these those sizes other_sizes.
      sym (recovered_standing owner bs bytes these sizes) ∙ recovered_standing owner others bytes those other_sizes;
}
