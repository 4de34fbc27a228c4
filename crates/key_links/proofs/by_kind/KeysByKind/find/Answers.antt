use Rattle.std.proofs.Common.{ap, ◌∙◌}
use Rattle.sorted_table.specs.Rows.{row_at}
use Rattle.sorted_table.specs.Tabled.{Tabled}
use Rattle.key_links.specs.Ringed.{key_rank}
use Rattle.key_links.specs.declared.any_key.AnyKey.{AnyKey}
use Rattle.key_links.proofs.InTables.{entry_found, entry_rank, file_found, file_rank, holder_found, holder_rank, title_found, title_rank, way_found, way_rank}
use Rattle.key_links.proofs.by_kind.KeysByKind.find.Goals as goal

pub returns-in-Owner : goal.returns-in-Owner
returns-in-Owner c =
    let i = c.self.inside in
    let k = c.args.place.now.0 in
    let rank = holder_rank c.args.role k c.in-Owner.is c.requires in
    c.find.ensures.row
    ∙ holder_found i.holders.rows i.entries.rows i.ways.rows i.titles.rows i.files.rows k c.self.invariant rank
    ∙ ap (λ (t : Tabled AnyKey). row_at key_rank t.rows k) c.self.view_is

pub returns-in-Clear : goal.returns-in-Clear
returns-in-Clear c =
    let i = c.self.inside in
    let k = c.args.place.now.0 in
    let rank = entry_rank c.args.role k c.in-Clear.is c.requires in
    c.find-in-Clear.ensures.row
    ∙ entry_found i.holders.rows i.entries.rows i.ways.rows i.titles.rows i.files.rows k c.self.invariant rank.0 rank.1
    ∙ ap (λ (t : Tabled AnyKey). row_at key_rank t.rows k) c.self.view_is

pub returns-in-Back : goal.returns-in-Back
returns-in-Back c =
    let i = c.self.inside in
    let k = c.args.place.now.0 in
    let rank = way_rank c.args.role k c.in-Back.is c.requires in
    c.find-in-Back.ensures.row
    ∙ way_found i.holders.rows i.entries.rows i.ways.rows i.titles.rows i.files.rows k c.self.invariant rank.0 rank.1
    ∙ ap (λ (t : Tabled AnyKey). row_at key_rank t.rows k) c.self.view_is

pub returns-in-Data : goal.returns-in-Data
returns-in-Data c =
    let i = c.self.inside in
    let k = c.args.place.now.0 in
    let rank = title_rank c.args.role k _ c.in-Data.is c.requires in
    c.find-in-Data.ensures.row
    ∙ title_found i.holders.rows i.entries.rows i.ways.rows i.titles.rows i.files.rows k c.self.invariant rank
    ∙ ap (λ (t : Tabled AnyKey). row_at key_rank t.rows k) c.self.view_is

pub returns-in-File : goal.returns-in-File
returns-in-File c =
    let i = c.self.inside in
    let k = c.args.place.now.0 in
    let rank = file_rank c.args.role k _ c.in-File.is c.requires in
    c.find-in-File.ensures.row
    ∙ file_found i.holders.rows i.entries.rows i.ways.rows i.titles.rows i.files.rows k c.self.invariant rank
    ∙ ap (λ (t : Tabled AnyKey). row_at key_rank t.rows k) c.self.view_is
