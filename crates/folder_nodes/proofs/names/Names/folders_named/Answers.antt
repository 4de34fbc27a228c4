use Rattle.folder_nodes.proofs.names.Names.folders_named.Goals as goal

pub returns-clause-all : goal.returns-clause-all
returns-clause-all c = rw (← c.self.view_is) c.named.ensures.all
