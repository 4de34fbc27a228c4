use Rattle.std.proofs.Common.{min, Some}
use Rattle.cry_base.specs.declared.roles.Node.TheVariants.{Folder, File}
use Rattle.folder_nodes.specs.Titles.{new_title}
use Rattle.folder_nodes.proofs.Titled.{folder_then, file_then}
use Rattle.folder_nodes.proofs.opened_names.OpenedNames.set.Goals as goal

pub returns-in-Folder-clause-titles : goal.returns-in-Folder-clause-titles
returns-in-Folder-clause-titles c =
    λ other. rw (← c.self.view_is, c.in-Folder.is) (folder_then c.self.inside.folders.titles c.put.new.self.titles c.self.inside.files.titles (min c.self.inside.folders.spare c.self.inside.files.spare) (min c.put.new.self.spare c.self.inside.files.spare) c.in-Folder.folder (Some (new_title (Folder c.in-Folder.folder) c.args.name.items c.args.bytes.items)) c.put.ensures.titles other)

pub returns-in-File-clause-titles : goal.returns-in-File-clause-titles
returns-in-File-clause-titles c =
    λ other. rw (← c.self.view_is, c.in-File.is) (file_then c.self.inside.folders.titles c.self.inside.files.titles c.put-in-File.new.self.titles (min c.self.inside.folders.spare c.self.inside.files.spare) (min c.self.inside.folders.spare c.put-in-File.new.self.spare) c.in-File.file (Some (new_title (File c.in-File.file) c.args.name.items c.args.bytes.items)) c.put-in-File.ensures.titles other)
