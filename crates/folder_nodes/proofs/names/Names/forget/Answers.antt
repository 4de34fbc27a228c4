use Rattle.std.proofs.Common.{min, None}
use Rattle.folder_nodes.proofs.Titled.{folder_then, file_then}
use Rattle.folder_nodes.proofs.names.Names.forget.Goals as goal

pub returns-in-Folder-clause-titles : goal.returns-in-Folder-clause-titles
returns-in-Folder-clause-titles c =
    λ other. rw (← c.self.view_is, c.in-Folder.is) (folder_then c.self.inside.folders.titles c.take.new.self.titles c.self.inside.files.titles (min c.self.inside.folders.spare c.self.inside.files.spare) (min c.take.new.self.spare c.self.inside.files.spare) c.in-Folder.folder None c.take.ensures.titles other)

pub returns-in-File-clause-titles : goal.returns-in-File-clause-titles
returns-in-File-clause-titles c =
    λ other. rw (← c.self.view_is, c.in-File.is) (file_then c.self.inside.folders.titles c.self.inside.files.titles c.take-in-File.new.self.titles (min c.self.inside.folders.spare c.self.inside.files.spare) (min c.self.inside.folders.spare c.take-in-File.new.self.spare) c.in-File.file None c.take-in-File.ensures.titles other)
