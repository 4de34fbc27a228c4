use Rattle.std.proofs.Common.{rules, ◌≡◌, Option, Err, map, filter, sym, ap, subst, ◌∙◌, arith}
use Rattle.std.specs.Prelude.{option_map}
use Rattle.std.specs.List.{flat_map}
use Rattle.std.proofs.lemmas.Result.{err_from_is_err_and}
use Rattle.cry_base.specs.Store.{Store}
use Rattle.cry_base.specs.declared.client.Line.{Line as Shown}
use Rattle.folder_nodes.specs.Bare.{file_of_row}
use Rattle.folder_nodes.specs.Titles.{tree_store}
use Rattle.log_visits.specs.Answering.{IsFailure}
use Rattle.log_visits.specs.Asking.{file_with, line_at}
use Rattle.holder_client.specs.Beside.{is_row_beside}
use Rattle.holder_client.specs.Filed.{file_stops}
use Rattle.log_visits.specs.Entries.{AreEntryFiles}
use Rattle.log_visits.specs.Judging.{Unseen, who_of}
use Rattle.holder_client.specs.Lines.{plain_line}
use Rattle.log_visits.specs.View.{Line}
use Rattle.log_visits.specs.declared.fault.ClientFault.TheVariants as ClientFault
use Rattle.log_visits.specs.Sights.{AreSights, MayRead}
use Rattle.holder_client.proofs.FiledReads.{rows_stand}
use Rattle.holder_client.proofs.OneFault.{one_fault}
use Rattle.holder_client.proofs.Besides.{files_fail_path, files_pass_path, first_line, folders_named, names_fail_path, names_pass_path, no_line, none_of, shown_beside, stops_beside}
use Rattle.log_visits.proofs.OwnerVisits.{seen_tree}
use Rattle.role_graph.specs.Rights.{Who}
use Rattle.holder_client.proofs.opening_path.open_at.Goals as goal

pub returns-in_err-ring-clause-answer : goal.returns-in_err-ring-clause-answer
returns-in_err-ring-clause-answer g c = λ shown r of_log may.
    let p = err_from_is_err_and c.from_residual-in_err-ring.result c.from_residual-in_err-ring.ensures.1 in
    let state = c.args.state.now in
    let bare = r.stand.store in
    let who = who_of c.args.bundle.now in
    let path = c.args.path.now in
    let tree = seen_tree state r.stand of_log.1 c.in_ok-seen.ensures.tree in
    let listed : AreSights bare who c.in_ok-seen.seen.items =
    subst (λ (w : Who). AreSights bare w c.in_ok-seen.seen.items) c.viewer_of.ensures (c.in_ok-seen.ensures.sights r.stand of_log.1 (subst (λ (w : Who). MayRead bare w) (sym c.viewer_of.ensures) may))
    in
    let seen = subst (AreSights bare who) (sym c.as_slice.ensures.value) listed in
    let come : AreEntryFiles bare who c.as_slice-entries.result.now =
    subst (AreEntryFiles bare who) (sym c.as_slice-entries.ensures.value)
    (subst (λ (w : Who). AreEntryFiles bare w c.in_ok-entered.entered.items) c.viewer_of-2.ensures (c.in_ok-entered.ensures r.stand of_log.1 (subst (λ (w : Who). MayRead bare w) (sym c.viewer_of-2.ensures) may)))
    in
    rw (p.1, p.2) (names_fail_path c.args.bundle.now path r c.in_err-ring.field-0.0 (c.in_err-ring.ensures.answer shown r of_log tree seen come))

pub returns-in-Some-clause-answer : goal.returns-in-Some-clause-answer
returns-in-Some-clause-answer g c = λ shown r of_log may.
    let state = c.args.state.now in
    let bare = r.stand.store in
    let who = who_of c.args.bundle.now in
    let path = c.args.path.now in
    let tree = seen_tree state r.stand of_log.1 c.in_ok-seen.ensures.tree in
    let listed : AreSights bare who c.in_ok-seen.seen.items =
    subst (λ (w : Who). AreSights bare w c.in_ok-seen.seen.items) c.viewer_of.ensures (c.in_ok-seen.ensures.sights r.stand of_log.1 (subst (λ (w : Who). MayRead bare w) (sym c.viewer_of.ensures) may))
    in
    let seen = subst (AreSights bare who) (sym c.as_slice.ensures.value) listed in
    let come : AreEntryFiles bare who c.as_slice-entries.result.now =
    subst (AreEntryFiles bare who) (sym c.as_slice-entries.ensures.value)
    (subst (λ (w : Who). AreEntryFiles bare w c.in_ok-entered.entered.items) c.viewer_of-2.ensures (c.in_ok-entered.ensures r.stand of_log.1 (subst (λ (w : Who). MayRead bare w) (sym c.viewer_of-2.ensures) may)))
    in
    let a = c.in_ok-ring.ensures.answer shown r of_log tree seen come in
    let folders : bare.folders ≡ c.shape-shape.result.now.tree.folders = ap (λ (s : Store). s.folders) of_log.1.store ∙ ap (λ (t : Store). t.folders) (sym c.shape-shape.ensures) in
    let t = tree_store c.shape-shape.result.now.tree c.in_ok-ring.field-0.names in
    let found : Option Line = option_map plain_line c.in_ok-line.field-0 in
    let names = names_pass_path c.args.bundle.now path r a.0 found a.1
    (c.in_ok-line.ensures ∙ ap (line_at path) (folders_named c.shape-shape.result.now.tree bare a.0.store c.in_ok-ring.field-0.names who c.as_slice-2.result.now folders (subst (AreSights bare who) (sym c.as_slice-2.ensures.value) listed) a.2.1))
    in
    names ∙ first_line found (plain_line c.in-Some.line) (file_with r a.0 who path) (ap (option_map plain_line) c.in-Some.is)

pub returns-in_err-files-clause-answer : goal.returns-in_err-files-clause-answer
returns-in_err-files-clause-answer g c = λ shown r of_log may.
    let p = err_from_is_err_and c.from_residual-in_err-files.result c.from_residual-in_err-files.ensures.1 in
    let state = c.args.state.now in
    let bare = r.stand.store in
    let who = who_of c.args.bundle.now in
    let path = c.args.path.now in
    let tree = seen_tree state r.stand of_log.1 c.in_ok-seen.ensures.tree in
    let listed : AreSights bare who c.in_ok-seen.seen.items =
    subst (λ (w : Who). AreSights bare w c.in_ok-seen.seen.items) c.viewer_of.ensures (c.in_ok-seen.ensures.sights r.stand of_log.1 (subst (λ (w : Who). MayRead bare w) (sym c.viewer_of.ensures) may))
    in
    let seen = subst (AreSights bare who) (sym c.as_slice.ensures.value) listed in
    let come : AreEntryFiles bare who c.as_slice-entries.result.now =
    subst (AreEntryFiles bare who) (sym c.as_slice-entries.ensures.value)
    (subst (λ (w : Who). AreEntryFiles bare w c.in_ok-entered.entered.items) c.viewer_of-2.ensures (c.in_ok-entered.ensures r.stand of_log.1 (subst (λ (w : Who). MayRead bare w) (sym c.viewer_of-2.ensures) may)))
    in
    let a = c.in_ok-ring.ensures.answer shown r of_log tree seen come in
    let folders : bare.folders ≡ c.shape-shape.result.now.tree.folders = ap (λ (s : Store). s.folders) of_log.1.store ∙ ap (λ (t : Store). t.folders) (sym c.shape-shape.ensures) in
    let t = tree_store c.shape-shape.result.now.tree c.in_ok-ring.field-0.names in
    let found : Option Line = option_map plain_line c.in_ok-line.field-0 in
    let names = names_pass_path c.args.bundle.now path r a.0 found a.1
    (c.in_ok-line.ensures ∙ ap (line_at path) (folders_named c.shape-shape.result.now.tree bare a.0.store c.in_ok-ring.field-0.names who c.as_slice-2.result.now folders (subst (AreSights bare who) (sym c.as_slice-2.ensures.value) listed) a.2.1))
    in
    let passed = names ∙ no_line found (file_with r a.0 who path) (ap (option_map plain_line) (none_of Shown c.in_ok-line.field-0 c.in_default.not-Some)) in
    let rows = c.files-files.result in
    let is : bare.files ≡ map file_of_row rows = ap (λ (s : Store). s.files) of_log.1.store ∙ sym (c.files-files.ensures ∙ ap (λ (t : Store). t.files) c.shape-shape.ensures) in
    let beside = subst (AreSights bare who) (sym c.as_slice-3.ensures.value) listed in
    let chosen : c.as_slice-rows.result.now ≡ filter (is_row_beside t c.as_slice-3.result.now c.as_slice-entries.result.now path) rows = c.as_slice-rows.ensures.value ∙ c.in_ok-found.ensures in
    let stops = stops_beside c.shape-shape.result.now.tree bare a.0.store c.in_ok-ring.field-0.names who c.as_slice-3.result.now c.as_slice-entries.result.now rows path folders tree beside come is a.2.1
    ∙ ap (flat_map (file_stops c.as_slice-entries.result.now)) (sym chosen)
    in
    rw (p.1, p.2)
    (subst (IsFailure c.in_err-files.field-0.0) (sym passed)
    (files_fail_path r a.0 who path (flat_map (file_stops c.as_slice-entries.result.now) c.as_slice-rows.result.now) c.in_err-files.field-0.0 stops (c.in_err-files.ensures.answer (g.met.R.Records.still_shows c.args.records.now c.args.source.now c.open_names.new.source c.in_ok-ring.ensures.stays shown) r a.0 bare c.in_ok-ring.field-0.names of_log (rows_stand bare who c.as_slice-entries.result.now rows c.as_slice-rows.result.now _ come is chosen) a.2.0 a.2.1)))

pub returns-in-Some-2-clause-answer : goal.returns-in-Some-2-clause-answer
returns-in-Some-2-clause-answer g c = λ shown r of_log may.
    let state = c.args.state.now in
    let bare = r.stand.store in
    let who = who_of c.args.bundle.now in
    let path = c.args.path.now in
    let tree = seen_tree state r.stand of_log.1 c.in_ok-seen.ensures.tree in
    let listed : AreSights bare who c.in_ok-seen.seen.items =
    subst (λ (w : Who). AreSights bare w c.in_ok-seen.seen.items) c.viewer_of.ensures (c.in_ok-seen.ensures.sights r.stand of_log.1 (subst (λ (w : Who). MayRead bare w) (sym c.viewer_of.ensures) may))
    in
    let seen = subst (AreSights bare who) (sym c.as_slice.ensures.value) listed in
    let come : AreEntryFiles bare who c.as_slice-entries.result.now =
    subst (AreEntryFiles bare who) (sym c.as_slice-entries.ensures.value)
    (subst (λ (w : Who). AreEntryFiles bare w c.in_ok-entered.entered.items) c.viewer_of-2.ensures (c.in_ok-entered.ensures r.stand of_log.1 (subst (λ (w : Who). MayRead bare w) (sym c.viewer_of-2.ensures) may)))
    in
    let a = c.in_ok-ring.ensures.answer shown r of_log tree seen come in
    let folders : bare.folders ≡ c.shape-shape.result.now.tree.folders = ap (λ (s : Store). s.folders) of_log.1.store ∙ ap (λ (t : Store). t.folders) (sym c.shape-shape.ensures) in
    let t = tree_store c.shape-shape.result.now.tree c.in_ok-ring.field-0.names in
    let found : Option Line = option_map plain_line c.in_ok-line.field-0 in
    let names = names_pass_path c.args.bundle.now path r a.0 found a.1
    (c.in_ok-line.ensures ∙ ap (line_at path) (folders_named c.shape-shape.result.now.tree bare a.0.store c.in_ok-ring.field-0.names who c.as_slice-2.result.now folders (subst (AreSights bare who) (sym c.as_slice-2.ensures.value) listed) a.2.1))
    in
    let passed = names ∙ no_line found (file_with r a.0 who path) (ap (option_map plain_line) (none_of Shown c.in_ok-line.field-0 c.in_default.not-Some)) in
    let rows = c.files-files.result in
    let is : bare.files ≡ map file_of_row rows = ap (λ (s : Store). s.files) of_log.1.store ∙ sym (c.files-files.ensures ∙ ap (λ (t : Store). t.files) c.shape-shape.ensures) in
    let beside = subst (AreSights bare who) (sym c.as_slice-3.ensures.value) listed in
    let chosen : c.as_slice-rows.result.now ≡ filter (is_row_beside t c.as_slice-3.result.now c.as_slice-entries.result.now path) rows = c.as_slice-rows.ensures.value ∙ c.in_ok-found.ensures in
    let stops = stops_beside c.shape-shape.result.now.tree bare a.0.store c.in_ok-ring.field-0.names who c.as_slice-3.result.now c.as_slice-entries.result.now rows path folders tree beside come is a.2.1
    ∙ ap (flat_map (file_stops c.as_slice-entries.result.now)) (sym chosen)
    in
    let b = c.in_ok-files.ensures.answer (g.met.R.Records.still_shows c.args.records.now c.args.source.now c.open_names.new.source c.in_ok-ring.ensures.stays shown) r a.0 bare c.in_ok-ring.field-0.names of_log (rows_stand bare who c.as_slice-entries.result.now rows c.as_slice-rows.result.now _ come is chosen) a.2.0 a.2.1 in
    let held : Option Line = option_map plain_line c.in_ok-line-2.field-0 in
    let files = files_pass_path r a.0 b.0 who path (flat_map (file_stops c.as_slice-entries.result.now) c.as_slice-rows.result.now) held stops b.1
    (c.in_ok-line-2.ensures ∙ ap (line_at path)
    (shown_beside c.shape-shape.result.now.tree bare b.0.store c.in_ok-ring.field-0.names c.in_ok-files.files.items who c.as_slice-3.result.now c.as_slice-entries.result.now rows path folders tree beside come is (c.in_ok-files.ensures.rows ∙ chosen) b.2))
    in
    passed ∙ files ∙ first_line held (plain_line c.in-Some-2.line) (Err Unseen) (ap (option_map plain_line) c.in-Some-2.is)

pub returns-clause-answer : goal.returns-clause-answer
returns-clause-answer g c = λ shown r of_log may.
    let state = c.args.state.now in
    let bare = r.stand.store in
    let who = who_of c.args.bundle.now in
    let path = c.args.path.now in
    let tree = seen_tree state r.stand of_log.1 c.in_ok-seen.ensures.tree in
    let listed : AreSights bare who c.in_ok-seen.seen.items =
    subst (λ (w : Who). AreSights bare w c.in_ok-seen.seen.items) c.viewer_of.ensures (c.in_ok-seen.ensures.sights r.stand of_log.1 (subst (λ (w : Who). MayRead bare w) (sym c.viewer_of.ensures) may))
    in
    let seen = subst (AreSights bare who) (sym c.as_slice.ensures.value) listed in
    let come : AreEntryFiles bare who c.as_slice-entries.result.now =
    subst (AreEntryFiles bare who) (sym c.as_slice-entries.ensures.value)
    (subst (λ (w : Who). AreEntryFiles bare w c.in_ok-entered.entered.items) c.viewer_of-2.ensures (c.in_ok-entered.ensures r.stand of_log.1 (subst (λ (w : Who). MayRead bare w) (sym c.viewer_of-2.ensures) may)))
    in
    let a = c.in_ok-ring.ensures.answer shown r of_log tree seen come in
    let folders : bare.folders ≡ c.shape-shape.result.now.tree.folders = ap (λ (s : Store). s.folders) of_log.1.store ∙ ap (λ (t : Store). t.folders) (sym c.shape-shape.ensures) in
    let t = tree_store c.shape-shape.result.now.tree c.in_ok-ring.field-0.names in
    let found : Option Line = option_map plain_line c.in_ok-line.field-0 in
    let names = names_pass_path c.args.bundle.now path r a.0 found a.1
    (c.in_ok-line.ensures ∙ ap (line_at path) (folders_named c.shape-shape.result.now.tree bare a.0.store c.in_ok-ring.field-0.names who c.as_slice-2.result.now folders (subst (AreSights bare who) (sym c.as_slice-2.ensures.value) listed) a.2.1))
    in
    let passed = names ∙ no_line found (file_with r a.0 who path) (ap (option_map plain_line) (none_of Shown c.in_ok-line.field-0 c.in_default.not-Some)) in
    let rows = c.files-files.result in
    let is : bare.files ≡ map file_of_row rows = ap (λ (s : Store). s.files) of_log.1.store ∙ sym (c.files-files.ensures ∙ ap (λ (t : Store). t.files) c.shape-shape.ensures) in
    let beside = subst (AreSights bare who) (sym c.as_slice-3.ensures.value) listed in
    let chosen : c.as_slice-rows.result.now ≡ filter (is_row_beside t c.as_slice-3.result.now c.as_slice-entries.result.now path) rows = c.as_slice-rows.ensures.value ∙ c.in_ok-found.ensures in
    let stops = stops_beside c.shape-shape.result.now.tree bare a.0.store c.in_ok-ring.field-0.names who c.as_slice-3.result.now c.as_slice-entries.result.now rows path folders tree beside come is a.2.1
    ∙ ap (flat_map (file_stops c.as_slice-entries.result.now)) (sym chosen)
    in
    let b = c.in_ok-files.ensures.answer (g.met.R.Records.still_shows c.args.records.now c.args.source.now c.open_names.new.source c.in_ok-ring.ensures.stays shown) r a.0 bare c.in_ok-ring.field-0.names of_log (rows_stand bare who c.as_slice-entries.result.now rows c.as_slice-rows.result.now _ come is chosen) a.2.0 a.2.1 in
    let held : Option Line = option_map plain_line c.in_ok-line-2.field-0 in
    let files = files_pass_path r a.0 b.0 who path (flat_map (file_stops c.as_slice-entries.result.now) c.as_slice-rows.result.now) held stops b.1
    (c.in_ok-line-2.ensures ∙ ap (line_at path)
    (shown_beside c.shape-shape.result.now.tree bare b.0.store c.in_ok-ring.field-0.names c.in_ok-files.files.items who c.as_slice-3.result.now c.as_slice-entries.result.now rows path folders tree beside come is (c.in_ok-files.ensures.rows ∙ chosen) b.2))
    in
    passed ∙ files ∙ no_line held (Err Unseen) (ap (option_map plain_line) c.in-None.is)

pub returns-in_err-line-clause-answer : goal.returns-in_err-line-clause-answer
returns-in_err-line-clause-answer g c = λ shown r of_log may.
    let p = err_from_is_err_and c.from_residual-in_err-line.result c.from_residual-in_err-line.ensures.1 in
    rw (p.1, p.2) (search rules)

pub returns-in_err-found-clause-answer : goal.returns-in_err-found-clause-answer
returns-in_err-found-clause-answer g c = λ shown r of_log may.
    let p = err_from_is_err_and c.from_residual-in_err-found.result c.from_residual-in_err-found.ensures.1 in
    rw (p.1, p.2) (search rules)

pub returns-in_err-line-2-clause-answer : goal.returns-in_err-line-2-clause-answer
returns-in_err-line-2-clause-answer g c = λ shown r of_log may.
    let p = err_from_is_err_and c.from_residual-in_err-line-2.result c.from_residual-in_err-line-2.ensures.1 in
    rw (p.1, p.2) (search rules)

pub returns-in_err-files-clause-stays : goal.returns-in_err-files-clause-stays
returns-in_err-files-clause-stays g c =
    g.met.R.Records.twice c.args.source.now c.open_names.new.source c.read_files.new.source c.in_ok-ring.ensures.stays c.in_err-files.ensures.stays

pub returns-in_err-line-2-clause-stays : goal.returns-in_err-line-2-clause-stays
returns-in_err-line-2-clause-stays g c =
    g.met.R.Records.twice c.args.source.now c.open_names.new.source c.read_files.new.source c.in_ok-ring.ensures.stays c.in_ok-files.ensures.stays

pub returns-in-Some-2-clause-stays : goal.returns-in-Some-2-clause-stays
returns-in-Some-2-clause-stays g c =
    g.met.R.Records.twice c.args.source.now c.open_names.new.source c.read_files.new.source c.in_ok-ring.ensures.stays c.in_ok-files.ensures.stays

pub returns-clause-stays : goal.returns-clause-stays
returns-clause-stays g c =
    g.met.R.Records.twice c.args.source.now c.open_names.new.source c.read_files.new.source c.in_ok-ring.ensures.stays c.in_ok-files.ensures.stays

pub returns-in_err-files-clause-disk_fault : goal.returns-in_err-files-clause-disk_fault
returns-in_err-files-clause-disk_fault g c = λ e.
    let p = err_from_is_err_and c.from_residual-in_err-files.result c.from_residual-in_err-files.ensures.1 in
    let mid = g.met.R.Records.counts c.args.source.now c.open_names.new.source c.in_ok-ring.ensures.stays in
    let cause = sym p.2 ∙ one_fault Shown c.from_residual-in_err-files.result p.0 ClientFault.DiskFault p.1 e in
    let rose = c.in_err-files.ensures.disk_fault (ap (λ f. Err f) cause) in
    omega (arith, mid, rose)
