use Rattle.std.proofs.Common.{inl, inr, ⊎_elim}
use Rattle.cry_base.specs.Store.{HolderEntry}
use Rattle.folder_nodes.proofs.Rowed.{some_of}
use Rattle.group_laws.proofs.Fullness.{numbers_are_folders, refused_as_full}
use Rattle.public_fold.proofs.Versioned.{journal_version}
use Rattle.group_laws.proofs.laws.replacements_are_refused_as_full_alone.Goals as goal

pub returns : goal.returns
returns c = λ limits g n valid some. refused_as_full limits g n valid
    (⊎_elim (λ one. inr (numbers_are_folders g.journal n (c.first_version_stores_grant_no_files.ensures g.journal valid one))) (λ two. inl two) (journal_version g.journal valid))
    (some_of HolderEntry _ some)
