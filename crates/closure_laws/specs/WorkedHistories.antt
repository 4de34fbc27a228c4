-- A worked history, and what opens the words of histories, and those below them, to a computation.
use Rattle.std.specs.Prelude.{[], ◌∷◌, ◌++◌, codes}
use Rattle.std.specs.Fmt.{digits}
use Rattle.cry_base.specs.Requests.Request.{AddHolder, Grant, MakeFolder, Relocate, WriteFile}
use Rattle.public_fold.specs.Journal.{Journal}
use Rattle.public_fold.specs.Journal.Entry.{Session}
use Rattle.public_fold.specs.WorkedSteps.{does, fresh, journals}
use Rattle.closure_laws.specs.History.{published_from, history, trails, derived, own_serial}
use Rattle.closure_laws.specs.Gains.{gives_grant, is_gained_node, gains, gains_from}
use Rattle.closure_laws.specs.Seen.{sight_of, sights_in, sights_from, seen, spell_sight, spell_seen}
use Rattle.closure_laws.specs.Secrecy.{node_of_piece, shown_node, gains_later, kept_content, keeps_from, known_to, keeps_secret}
use Rattle.closure_laws.specs.Invariants.{dirt_is_closed, is_linked, edges_are_linked, links_are_clean, holds_from, invariants_hold}

-- the same departure as in "strict departure", in a store of version 1: the file moves, and no key of its old folder is renewed
unfoldable pub departing_lazily : Journal
departing_lazily = fresh ++ (Session ∷ does 5 (MakeFolder (codes "/a")) ∷ does 5 (MakeFolder (codes "/b"))
    ∷ does 1 (WriteFile (codes "/a/x") (0 ∷ [])) ∷ does 0 (Relocate (codes "/a/x") (codes "/b")) ∷ does 1 AddHolder
    ∷ does 0 (Grant 1 (codes "/a")) ∷ [])

-- every word of a history
unfoldable pub histories : Unit {0}
unfolding dirt_is_closed is_linked edges_are_linked links_are_clean holds_from invariants_hold node_of_piece shown_node gains_later
    kept_content keeps_from known_to keeps_secret digits journals published_from history trails derived own_serial gives_grant
    is_gained_node gains gains_from sight_of sights_in sights_from seen spell_sight spell_seen departing_lazily
histories = tt
