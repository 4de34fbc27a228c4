-- What rows that a checkpoint keeps have by laws. This project's own, docs/FORMAT.md, "The checkpoint".
use Rattle.std.specs.Prelude.{◌≡◌, ◌↔◌, ◌^◌, ◌<◌, ◌≤◌, Some, length}
use Rattle.cry_base.specs.declared.roles.Role.TheVariants.{Owner}
use Rattle.public_fold.specs.Journal.{Stand}
use Rattle.public_fold.specs.KeyStep.{newest}
use Rattle.public_fold.specs.Standing.{PublicView}
use Rattle.public_fold.specs.States.{IsBare}

-- as each stand that payloads leave: without names, the owner's key of serial 0, a version that there is, and 0 before the root alone
pub record IsFolded (at : Stand) : Type 0 where
  pub bare : IsBare at.store
  pub owner : newest at.keys.keys Owner ≡ Some 0
  pub known : at.keys.version ≤ 2
  pub unmade : (at.keys.version ≡ 0) ↔ (at.store.folders_made ≡ 0)

-- so few that a checkpoint's numbers and counts have room for them, as each state of a log within the store limit
pub record AreFew (v : PublicView) : Type 0 where
  pub epoch : v.keys.epoch < 2 ^ 30
  pub count : v.keys.count < 2 ^ 30
  pub folders : v.tree.folders_made < 2 ^ 28
  pub files : v.tree.files_made < 2 ^ 28
  pub holders : length v.checks < 2 ^ 28
  pub grants : length v.pairs < 2 ^ 32
