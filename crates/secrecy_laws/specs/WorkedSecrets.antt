-- A worked history in which a holder is led to a file by no gain, and what opens the words of secrets, and those below them, to a
-- computation.
use Rattle.std.specs.Prelude.{List, [], ◌∷◌, ◌++◌, codes}
use Rattle.cry_base.specs.Requests.Request.{AddHolder, MakeFolder, WriteFile, Grant, Relocate}
use Rattle.public_fold.specs.Journal.{Entry, Journal, nothing, entry_step, stand_after}
use Rattle.public_fold.specs.Journal.Entry.{Session}
use Rattle.public_fold.specs.Records.{Content}
use Rattle.public_fold.specs.WorkedSteps.{does, fresh}
use Rattle.closure_laws.specs.WorkedHistories.{histories}
use Rattle.secrecy_laws.specs.Revocation.{is_unseen, unseen_from, derived_unseen, brings_role, opens_content, gain_opens}

-- two folders and a holder; a file that is written in the one folder, and a grant on the other
unfoldable pub folders_made : Journal
folders_made = fresh ++ (Session ∷ does 5 (MakeFolder (codes "/a")) ∷ does 5 (MakeFolder (codes "/b")) ∷ does 1 AddHolder ∷ [])

unfoldable pub the_write : Entry
the_write = does 1 (WriteFile (codes "/a/x") (0 ∷ 255 ∷ []))

unfoldable pub the_grant : Entry
the_grant = does 0 (Grant 1 (codes "/b"))

-- The granted folder is moved to where there is none. No owner accepts that, so no valid journal goes on so: what has no key counts as of
-- serial 0, the owner's, and a link leads there.
unfoldable pub the_leak : Entry
the_leak = does 2 (Relocate (codes "/b") (codes "/c"))

-- up to each of them, and what was written
unfoldable pub file_written : Journal
file_written = folders_made ++ the_write ∷ []

unfoldable pub other_granted : Journal
other_granted = file_written ++ the_grant ∷ []

unfoldable pub file_leaked : Journal
file_leaked = other_granted ++ the_leak ∷ []

unfoldable pub the_contents : List Content
the_contents = (entry_step (stand_after nothing folders_made) the_write).contents

-- every word of a journal's secrets
unfoldable pub secrets : Unit {0}
unfolding histories is_unseen unseen_from derived_unseen brings_role opens_content gain_opens folders_made the_write the_grant the_leak
    file_written other_granted file_leaked the_contents
secrets = tt
