use Rattle.std.proofs.Common.{◌++◌, ap, ◌∙◌}
use Rattle.group_book.proofs.Told.{file_not_there, file_there}
use Rattle.group_book.proofs.paths.file_path.Goals as goal

pub returns-in-Some : goal.returns-in-Some
returns-in-Some c =
    file_there c.args.shape.now.tree c.args.names.now c.args.x.0 c.in-Some.folder c.new-path.result.items c.add_names.new.text.items c.append.new.self.items c.append-in-Some.new.self.items
    c.in-Some.ensures c.new-path.ensures c.in_ok-add_names.ensures c.in_ok-append.ensures.items
    (c.in_ok-append-2.ensures.items ∙ ap (λ l. c.append.new.self.items ++ l) c.name_of.ensures)

pub returns : goal.returns
returns c =
    file_not_there c.args.shape.now.tree c.args.names.now c.args.x.0 c.new-path.result.items c.append-2.new.self.items
    c.in_default.ensures c.new-path.ensures c.in_ok-append-3.ensures.items
