use Rattle.std.proofs.Common.{Some, ◌∙◌}
use Rattle.cry_base.specs.declared.roles.Node.TheVariants.{Folder}
use Rattle.store_owner.proofs.making.name_root.Goals as goal

pub returns : goal.returns
returns c = c.set.ensures.titles (Folder (record { 0 = 1 })) ∙ (λ i. Some (record { id = 1; name = c.new-name.ensures i; bytes = c.new-bytes.ensures i }))
