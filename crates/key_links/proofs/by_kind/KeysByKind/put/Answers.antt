use Rattle.std.proofs.Common.{◌++◌, subst}
use Rattle.sorted_table.specs.Tabled.{Tabled}
use Rattle.key_links.specs.ByKind.{IsFoundBeside}
use Rattle.key_links.specs.Ringed.{key_rank}
use Rattle.key_links.specs.declared.any_key.AnyKey.{AnyKey}
use Rattle.key_links.proofs.InTables.{entry_put, entry_rank, file_put, file_rank, holder_put, holder_rank, place_of_key, title_put, title_rank, way_put, way_rank}
use Rattle.key_links.proofs.by_kind.KeysByKind.put.Goals as goal

pub returns-in-Owner-clause-rows : goal.returns-in-Owner-clause-rows
returns-in-Owner-clause-rows c =
    let i = c.self.inside in
    let key = c.args.key in
    let after = c.put_row.new.rows.rows in
    let rank = holder_rank c.role.result (key_rank key) c.in-Owner.is (place_of_key key c.role.result c.role.ensures) in
    subst (λ (t : Tabled AnyKey). IsFoundBeside key t.rows (after ++ (i.entries.rows ++ (i.ways.rows ++ (i.titles.rows ++ i.files.rows))))) c.self.view_is
    (holder_put i.holders.rows i.entries.rows i.ways.rows i.titles.rows i.files.rows after key c.self.invariant rank c.put_row.ensures.rows).0

pub invariant_of-self : goal.invariant_of-self
invariant_of-self c =
    let i = c.self.inside in
    let key = c.args.key in
    let after = c.put_row.new.rows.rows in
    let rank = holder_rank c.role.result (key_rank key) c.in-Owner.is (place_of_key key c.role.result c.role.ensures) in
    (holder_put i.holders.rows i.entries.rows i.ways.rows i.titles.rows i.files.rows after key c.self.invariant rank c.put_row.ensures.rows).1

pub returns-in-Clear-clause-rows : goal.returns-in-Clear-clause-rows
returns-in-Clear-clause-rows c =
    let i = c.self.inside in
    let key = c.args.key in
    let after = c.put_row-in-Clear.new.rows.rows in
    let rank = entry_rank c.role.result (key_rank key) c.in-Clear.is (place_of_key key c.role.result c.role.ensures) in
    subst (λ (t : Tabled AnyKey). IsFoundBeside key t.rows (i.holders.rows ++ (after ++ (i.ways.rows ++ (i.titles.rows ++ i.files.rows))))) c.self.view_is
    (entry_put i.holders.rows i.entries.rows i.ways.rows i.titles.rows i.files.rows after key c.self.invariant rank.0 rank.1 c.put_row-in-Clear.ensures.rows).0

pub invariant_of-self-in-Clear : goal.invariant_of-self-in-Clear
invariant_of-self-in-Clear c =
    let i = c.self.inside in
    let key = c.args.key in
    let after = c.put_row-in-Clear.new.rows.rows in
    let rank = entry_rank c.role.result (key_rank key) c.in-Clear.is (place_of_key key c.role.result c.role.ensures) in
    (entry_put i.holders.rows i.entries.rows i.ways.rows i.titles.rows i.files.rows after key c.self.invariant rank.0 rank.1 c.put_row-in-Clear.ensures.rows).1

pub returns-in-Back-clause-rows : goal.returns-in-Back-clause-rows
returns-in-Back-clause-rows c =
    let i = c.self.inside in
    let key = c.args.key in
    let after = c.put_row-in-Back.new.rows.rows in
    let rank = way_rank c.role.result (key_rank key) c.in-Back.is (place_of_key key c.role.result c.role.ensures) in
    subst (λ (t : Tabled AnyKey). IsFoundBeside key t.rows (i.holders.rows ++ (i.entries.rows ++ (after ++ (i.titles.rows ++ i.files.rows))))) c.self.view_is
    (way_put i.holders.rows i.entries.rows i.ways.rows i.titles.rows i.files.rows after key c.self.invariant rank.0 rank.1 c.put_row-in-Back.ensures.rows).0

pub invariant_of-self-in-Back : goal.invariant_of-self-in-Back
invariant_of-self-in-Back c =
    let i = c.self.inside in
    let key = c.args.key in
    let after = c.put_row-in-Back.new.rows.rows in
    let rank = way_rank c.role.result (key_rank key) c.in-Back.is (place_of_key key c.role.result c.role.ensures) in
    (way_put i.holders.rows i.entries.rows i.ways.rows i.titles.rows i.files.rows after key c.self.invariant rank.0 rank.1 c.put_row-in-Back.ensures.rows).1

pub returns-in-Data-clause-rows : goal.returns-in-Data-clause-rows
returns-in-Data-clause-rows c =
    let i = c.self.inside in
    let key = c.args.key in
    let after = c.put_row-in-Data.new.rows.rows in
    let rank = title_rank c.role.result (key_rank key) _ c.in-Data.is (place_of_key key c.role.result c.role.ensures) in
    subst (λ (t : Tabled AnyKey). IsFoundBeside key t.rows (i.holders.rows ++ (i.entries.rows ++ (i.ways.rows ++ (after ++ i.files.rows))))) c.self.view_is
    (title_put i.holders.rows i.entries.rows i.ways.rows i.titles.rows i.files.rows after key c.self.invariant rank c.put_row-in-Data.ensures.rows).0

pub invariant_of-self-in-Data : goal.invariant_of-self-in-Data
invariant_of-self-in-Data c =
    let i = c.self.inside in
    let key = c.args.key in
    let after = c.put_row-in-Data.new.rows.rows in
    let rank = title_rank c.role.result (key_rank key) _ c.in-Data.is (place_of_key key c.role.result c.role.ensures) in
    (title_put i.holders.rows i.entries.rows i.ways.rows i.titles.rows i.files.rows after key c.self.invariant rank c.put_row-in-Data.ensures.rows).1

pub returns-in-File-clause-rows : goal.returns-in-File-clause-rows
returns-in-File-clause-rows c =
    let i = c.self.inside in
    let key = c.args.key in
    let after = c.put_row-in-File.new.rows.rows in
    let rank = file_rank c.role.result (key_rank key) _ c.in-File.is (place_of_key key c.role.result c.role.ensures) in
    subst (λ (t : Tabled AnyKey). IsFoundBeside key t.rows (i.holders.rows ++ (i.entries.rows ++ (i.ways.rows ++ (i.titles.rows ++ after))))) c.self.view_is
    (file_put i.holders.rows i.entries.rows i.ways.rows i.titles.rows i.files.rows after key c.self.invariant rank c.put_row-in-File.ensures.rows).0

pub invariant_of-self-in-File : goal.invariant_of-self-in-File
invariant_of-self-in-File c =
    let i = c.self.inside in
    let key = c.args.key in
    let after = c.put_row-in-File.new.rows.rows in
    let rank = file_rank c.role.result (key_rank key) _ c.in-File.is (place_of_key key c.role.result c.role.ensures) in
    (file_put i.holders.rows i.entries.rows i.ways.rows i.titles.rows i.files.rows after key c.self.invariant rank c.put_row-in-File.ensures.rows).1
