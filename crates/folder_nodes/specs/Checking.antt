-- Which commands a tree refuses, in a store of version 2 where strict is true, and else of version 1. This project's own,
-- docs/FORMAT.md: the causes are tested in their order.
use Rattle.std.specs.Prelude.{ℕ, Bool, true, false, not, filter, find, Option, Some, None, option_map, Result, Ok, Err, IsSome}
use Rattle.cry_base.specs.Refusing.{causes_in}
use Rattle.cry_base.specs.Requests.{Request}
use Rattle.cry_base.specs.Store.{Store, folder_entry, file_entry}
use Rattle.cry_base.specs.declared.commands.Refusal.{Refusal}
use Rattle.cry_base.specs.declared.commands.Refusal.TheVariants.{NoHolder, HasGrant, NoGrant}
use Rattle.cry_base.specs.declared.roles.Node.{Node}
use Rattle.cry_base.specs.declared.roles.Node.TheVariants.{Folder, File}

-- whether holders and grants decide about the cause, and not the tree
unfoldable pub is_of_grants : Refusal → Bool
is_of_grants NoHolder = true
is_of_grants HasGrant = true
is_of_grants NoGrant = true
is_of_grants why = false

-- the first cause that applies, of those that the tree decides about
unfoldable pub tree_refusal : Bool → Store → Request → ℕ → Option Refusal
tree_refusal strict s r file_bytes = option_map (λ cause. cause.1)
    (find (λ cause. cause.0) (filter (λ cause. not (is_of_grants cause.1)) (causes_in strict s r file_bytes)))

-- refused for a cause, where there is one
abbrev pub refused_by : Option Refusal → Result (Unit {0}) Refusal
refused_by None = Ok tt
refused_by (Some why) = Err why

-- the node stands
abbrev pub Stands : Store → Node → Type 0
Stands s (Folder f) = IsSome (folder_entry s f.0)
Stands s (File x) = IsSome (file_entry s x.0)
