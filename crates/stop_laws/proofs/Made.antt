-- What lines, and upgrades, make of a journal.
use Rattle.std.proofs.Common.{◌≡◌, ◌⊎◌, ⊎_elim, ℕ, ◌*◌, true, false, List, [], ◌∷◌, ◌++◌, drop, length, None, append_assoc, sym, ap, subst, ◌∙◌}
use Rattle.std.proofs.lemmas.List.Elements.{All-append}
use Rattle.commit_journal.specs.Holding.{IsPrefix}
use Rattle.commit_journal.proofs.KeptLemmas.{prefix_same, prefix_trans}
use Rattle.cry_base.specs.Requests.{Request}
use Rattle.cry_base.specs.declared.commands.Reply.{Reply}
use Rattle.cli_base.specs.Lines.{InputLine}
use Rattle.cli_sessions.specs.Sessions.{SessionOver, Stood, version_limits}
use Rattle.cli_sessions.specs.Script.{Asks}
use Rattle.cli_sessions.proofs.AnsweredScripts.{going_more, joined_more}
use Rattle.cli_sessions.proofs.StoodLemmas.{stood_behind}
use Rattle.cli_upgrading.specs.Upgrading.{IsAccepted, IsTooFull}
use Rattle.journal_bytes.specs.Script.{Going, accepted_going, answer, draws_of, journal_then, keys_from, line_going, opened, script_going}
use Rattle.journal_bytes.specs.Upgrading.{upgraded_then}
use Rattle.public_fold.specs.Journal.{Journal}
use Rattle.public_fold.specs.Journal.Entry.{Session, Upgraded}
use Rattle.store_owner.specs.Drawing.{AreKeys, joined}
use Rattle.store_owner.proofs.Scripted.{Whole, keys_again, rest_again}
use Rattle.stop_laws.specs.Coming.{IsMadeOf, IsUpgradeOf}

-- a front of what was made was made
pub made_front : (m : Journal) (lines : List InputLine) (j front : Journal) → IsPrefix front j → IsMadeOf m lines j → IsMadeOf m lines front
made_front m lines j front shorter made = record {
  asked = made.asked;
  rest = made.rest;
  asks = made.asks;
  drawn = made.drawn;
  drawn_sizes = made.drawn_sizes;
  stood = made.stood;
  now = made.now;
  begun = made.begun;
  goes = made.goes;
  front = prefix_trans front j made.now shorter made.front;
}

pub upgrade_front : (m j front : Journal) → IsPrefix front j → IsUpgradeOf m j → IsUpgradeOf m front
upgrade_front m j front shorter made = record {
  first = made.first;
  is_accepted = made.is_accepted;
  drawn = made.drawn;
  drawn_count = made.drawn_count;
  drawn_sizes = made.drawn_sizes;
  front = prefix_trans front j (upgraded_then m false made.drawn) shorter made.front;
}

-- an upgrade makes a journal longer, and one that was answered takes nothing away
pub upgrade_begins : (m : Journal) (drawn : List (List ℕ)) → IsPrefix m (upgraded_then m false drawn)
upgrade_begins m drawn = (Session ∷ Upgraded drawn ∷ [], sym (append_assoc m (Session ∷ []) (Upgraded drawn ∷ [])))

pub answered_begins : (m : Journal) (drawn : List (List ℕ)) (reply : Reply) (now : Journal) → IsAccepted m drawn reply now ⊎ IsTooFull m drawn reply now → IsPrefix m now
answered_begins m drawn reply now answers =
    ⊎_elim (λ is. subst (IsPrefix m) (sym is.3) (upgrade_begins m drawn)) (λ full. subst (IsPrefix m) (sym full.3) (prefix_same m)) answers

-- a session makes the journal where it stands
pub session_made : (m : Journal) (asked : List Request) (before after : List InputLine) (asks : Asks asked before after) (session : SessionOver version_limits m asked)
    → Stood true version_limits m session.drawn asks → IsMadeOf m before session.now
session_made m asked before after asks session stood = record {
  asked = asked;
  rest = after;
  asks = asks;
  drawn = session.drawn;
  drawn_sizes = session.drawn_sizes;
  stood = stood;
  now = session.now;
  begun = session.begun;
  goes = session.goes;
  front = prefix_same session.now;
}

-- and the one with its next command, where that is accepted and drew its keys
module _ (m : Journal) (asked : List Request) (next : Request) (session : SessionOver version_limits m asked) (accepted : answer version_limits session.now session.begun next ≡ None)
    (last : List (List ℕ)) (count : length last ≡ draws_of session.now next) (sizes : AreKeys last) where
  abbrev then : List (List ℕ) → List ℕ → Going
  then keys draws = record { journal = journal_then session.now session.begun next keys; begun = true; draws = draws }

  abbrev here : List ℕ → Going
  here draws = record { journal = session.now; begun = session.begun; draws = draws }

  line_made : (draws : List ℕ) → line_going (here (joined last ++ draws)) next (answer version_limits session.now session.begun next) ≡ then last draws
  unfolding line_going accepted_going
  line_made draws =
      let n = draws_of session.now next in
      let keys : keys_from n (joined last ++ draws) ≡ last = ap (λ n. keys_from n (joined last ++ draws)) (sym count) ∙ keys_again last draws sizes in
      let left : drop (32 * n) (joined last ++ draws) ≡ draws = ap (λ n. drop (32 * n) (joined last ++ draws)) (sym count) ∙ rest_again last draws sizes in
      ap (line_going (here (joined last ++ draws)) next) accepted ∙ ap (λ ks. then ks (drop (32 * n) (joined last ++ draws))) keys ∙ ap (then last) left

  pub next_goes : (draws : List ℕ) → script_going version_limits (opened m (joined session.drawn ++ (joined last ++ draws))) (asked ++ next ∷ [])
      ≡ record { journal = journal_then session.now session.begun next last; begun = true; draws = draws }
  unfolding opened
  next_goes draws =
      going_more version_limits (opened m (joined session.drawn ++ (joined last ++ draws))) asked next
      ∙ ap (λ (at : Going). line_going at next (answer version_limits at.journal at.begun next)) (session.goes (joined last ++ draws))
      ∙ line_made draws

  pub next_made : (before after : List InputLine) (asks : Asks (asked ++ next ∷ []) before after) → Stood true version_limits m session.drawn asks
      → IsMadeOf m before (journal_then session.now session.begun next last)
  next_made before after asks stood = record {
    asked = asked ++ next ∷ [];
    rest = after;
    asks = asks;
    drawn = session.drawn ++ last;
    drawn_sizes = All-append Whole session.drawn last session.drawn_sizes sizes;
    stood = stood_behind true version_limits m session.drawn last (asked ++ next ∷ []) before after asks stood;
    now = journal_then session.now session.begun next last;
    begun = true;
    goes = λ draws.
        ap (λ bytes. script_going version_limits (opened m bytes) (asked ++ next ∷ [])) (joined_more session.drawn last draws) ∙ next_goes draws;
    front = prefix_same (journal_then session.now session.begun next last);
  }
