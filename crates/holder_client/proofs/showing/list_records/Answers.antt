use Rattle.std.proofs.Common.{rules, ◌≡◌, List, ◌++◌, Ok, Err, map, filter, sym, ap, subst, ◌∙◌, arith}
use Rattle.std.specs.List.{flat_map}
use Rattle.std.proofs.lemmas.Result.{err_from_is_err_and}
use Rattle.cry_base.specs.Store.{Store}
use Rattle.folder_nodes.specs.Bare.{file_of_row}
use Rattle.folder_nodes.specs.declared.rows.FileRow.{FileRow}
use Rattle.holder_client.specs.Filed.{file_stops, is_allowed}
use Rattle.log_visits.specs.Entries.{AreEntryFiles}
use Rattle.log_visits.specs.Judging.{who_of}
use Rattle.log_visits.specs.Sights.{AreSights, MayRead}
use Rattle.log_visits.specs.Visits.{visits_to_names}
use Rattle.log_visits.specs.declared.fault.ClientFault.TheVariants as ClientFault
use Rattle.log_visits.specs.declared.sights.Sight.{Sight}
use Rattle.holder_client.proofs.FiledReads.{rows_stand}
use Rattle.holder_client.proofs.OneFault.{one_fault}
use Rattle.holder_client.proofs.Listings.{all_pass, allowed_stops, files_fail, names_fail}
use Rattle.log_visits.proofs.OwnerVisits.{seen_tree}
use Rattle.holder_client.proofs.Shows.{view_shown}
use Rattle.role_graph.specs.Rights.{Who}
use Rattle.holder_client.proofs.showing.list_records.Goals as goal

pub returns-in_err-ring-clause-answer : goal.returns-in_err-ring-clause-answer
returns-in_err-ring-clause-answer g c = λ shown r of_log may.
    let p = err_from_is_err_and c.from_residual-in_err-ring.result c.from_residual-in_err-ring.ensures.1 in
    let state = c.args.state.now in
    let bare = r.stand.store in
    let tree = seen_tree state r.stand of_log.1 c.in_ok-seen.ensures.tree in
    let who = who_of c.args.bundle.now in
    let seen : AreSights bare who c.as_slice.result.now =
    subst (AreSights bare who) (sym c.as_slice.ensures.value)
    (subst (λ (w : Who). AreSights bare w c.in_ok-seen.seen.items) c.viewer_of.ensures (c.in_ok-seen.ensures.sights r.stand of_log.1 (subst (λ (w : Who). MayRead bare w) (sym c.viewer_of.ensures) may)))
    in
    let come : AreEntryFiles bare who c.as_slice-entries.result.now =
    subst (AreEntryFiles bare who) (sym c.as_slice-entries.ensures.value)
    (subst (λ (w : Who). AreEntryFiles bare w c.in_ok-entered.entered.items) c.viewer_of-2.ensures (c.in_ok-entered.ensures r.stand of_log.1 (subst (λ (w : Who). MayRead bare w) (sym c.viewer_of-2.ensures) may)))
    in
    rw (p.1, p.2) (names_fail c.args.bundle.now r c.in_err-ring.field-0.0 (c.in_err-ring.ensures.answer shown r of_log tree seen come))

pub returns-in_err-files-clause-answer : goal.returns-in_err-files-clause-answer
returns-in_err-files-clause-answer g c = λ shown r of_log may.
    let p = err_from_is_err_and c.from_residual-in_err-files.result c.from_residual-in_err-files.ensures.1 in
    let state = c.args.state.now in
    let bare = r.stand.store in
    let who = who_of c.args.bundle.now in
    let rows = c.files.result in
    let tree = seen_tree state r.stand of_log.1 c.in_ok-seen.ensures.tree in
    let listed : AreSights bare who c.in_ok-seen.seen.items =
    subst (λ (w : Who). AreSights bare w c.in_ok-seen.seen.items) c.viewer_of.ensures (c.in_ok-seen.ensures.sights r.stand of_log.1 (subst (λ (w : Who). MayRead bare w) (sym c.viewer_of.ensures) may))
    in
    let come : AreEntryFiles bare who c.as_slice-entries.result.now =
    subst (AreEntryFiles bare who) (sym c.as_slice-entries.ensures.value)
    (subst (λ (w : Who). AreEntryFiles bare w c.in_ok-entered.entered.items) c.viewer_of-2.ensures (c.in_ok-entered.ensures r.stand of_log.1 (subst (λ (w : Who). MayRead bare w) (sym c.viewer_of-2.ensures) may)))
    in
    let a = c.in_ok-ring.ensures.answer shown r of_log tree (subst (AreSights bare who) (sym c.as_slice.ensures.value) listed) come in
    let is : bare.files ≡ map file_of_row rows = ap (λ (s : Store). s.files) of_log.1.store ∙ sym (c.files.ensures ∙ ap (λ (t : Store). t.files) c.shape.ensures) in
    let stops = allowed_stops bare who c.as_slice-2.result.now c.as_slice-entries.result.now rows tree (subst (AreSights bare who) (sym c.as_slice-2.ensures.value) listed) come is in
    let chosen = c.as_slice-3.ensures.value ∙ c.in_ok-rows.ensures in
    rw (p.1, p.2)
    (files_fail c.args.bundle.now r (flat_map (file_stops c.as_slice-entries.result.now) c.as_slice-3.result.now) a.0 c.in_err-files.field-0.0 (stops ∙ ap (λ (l : List FileRow). visits_to_names bare who ++ flat_map (file_stops c.as_slice-entries.result.now) l) (sym chosen)) a.1
    (c.in_err-files.ensures.answer (g.met.R.Records.still_shows c.args.records.now c.args.source.now c.open_names.new.source c.in_ok-ring.ensures.stays shown) r a.0 bare c.in_ok-ring.field-0.names of_log (rows_stand bare who c.as_slice-entries.result.now rows c.as_slice-3.result.now _ come is chosen) a.2.0 a.2.1))

pub returns-clause-answer : goal.returns-clause-answer
returns-clause-answer g c = λ shown r of_log may.
    let state = c.args.state.now in
    let bare = r.stand.store in
    let who = who_of c.args.bundle.now in
    let rows = c.files.result in
    let tree = seen_tree state r.stand of_log.1 c.in_ok-seen.ensures.tree in
    let listed : AreSights bare who c.in_ok-seen.seen.items =
    subst (λ (w : Who). AreSights bare w c.in_ok-seen.seen.items) c.viewer_of.ensures (c.in_ok-seen.ensures.sights r.stand of_log.1 (subst (λ (w : Who). MayRead bare w) (sym c.viewer_of.ensures) may))
    in
    let come : AreEntryFiles bare who c.as_slice-entries.result.now =
    subst (AreEntryFiles bare who) (sym c.as_slice-entries.ensures.value)
    (subst (λ (w : Who). AreEntryFiles bare w c.in_ok-entered.entered.items) c.viewer_of-2.ensures (c.in_ok-entered.ensures r.stand of_log.1 (subst (λ (w : Who). MayRead bare w) (sym c.viewer_of-2.ensures) may)))
    in
    let a = c.in_ok-ring.ensures.answer shown r of_log tree (subst (AreSights bare who) (sym c.as_slice.ensures.value) listed) come in
    let is : bare.files ≡ map file_of_row rows = ap (λ (s : Store). s.files) of_log.1.store ∙ sym (c.files.ensures ∙ ap (λ (t : Store). t.files) c.shape.ensures) in
    let stops = allowed_stops bare who c.as_slice-2.result.now c.as_slice-entries.result.now rows tree (subst (AreSights bare who) (sym c.as_slice-2.ensures.value) listed) come is in
    let chosen = c.as_slice-3.ensures.value ∙ c.in_ok-rows.ensures in
    let b = c.in_ok-files.ensures.answer (g.met.R.Records.still_shows c.args.records.now c.args.source.now c.open_names.new.source c.in_ok-ring.ensures.stays shown) r a.0 bare c.in_ok-ring.field-0.names of_log (rows_stand bare who c.as_slice-entries.result.now rows c.as_slice-3.result.now _ come is chosen) a.2.0 a.2.1 in
    let folders : bare.folders ≡ c.shape-2.result.now.tree.folders = ap (λ (s : Store). s.folders) of_log.1.store ∙ ap (λ (t : Store). t.folders) (sym c.shape-2.ensures) in
    let same = c.as_slice-4.ensures.value ∙ sym c.as_slice-2.ensures.value in
    all_pass c.args.bundle.now r (flat_map (file_stops c.as_slice-entries.result.now) c.as_slice-3.result.now) a.0 b.0 (stops ∙ ap (λ (l : List FileRow). visits_to_names bare who ++ flat_map (file_stops c.as_slice-entries.result.now) l) (sym chosen)) a.1 b.1
    ∙ ap Ok (sym (view_shown c.shape-2.result.now.tree bare b.0.store c.in_ok-ring.field-0.names c.in_ok-files.files.items rows who c.as_slice-4.result.now c.as_slice-entries.result.now folders tree is
    (subst (AreSights bare who) (sym c.as_slice-4.ensures.value) listed) come (c.in_ok-files.ensures.rows ∙ chosen ∙ ap (λ (l : List Sight). filter (is_allowed l c.as_slice-entries.result.now) rows) (sym same)) b.2))
    ∙ ap Ok (sym c.in_ok-view_lines.ensures)

pub returns-in_err-rows-clause-answer : goal.returns-in_err-rows-clause-answer
returns-in_err-rows-clause-answer g c = λ shown r of_log may.
    let p = err_from_is_err_and c.from_residual-in_err-rows.result c.from_residual-in_err-rows.ensures.1 in
    rw (p.1, p.2) (search rules)

pub returns-in_err-view_lines-clause-answer : goal.returns-in_err-view_lines-clause-answer
returns-in_err-view_lines-clause-answer g c = λ shown r of_log may.
    let p = err_from_is_err_and c.from_residual-in_err-view_lines.result c.from_residual-in_err-view_lines.ensures.1 in
    rw (p.1, p.2) (search rules)

pub returns-in_err-files-clause-stays : goal.returns-in_err-files-clause-stays
returns-in_err-files-clause-stays g c =
    g.met.R.Records.twice c.args.source.now c.open_names.new.source c.read_files.new.source c.in_ok-ring.ensures.stays c.in_err-files.ensures.stays

pub returns-in_err-view_lines-clause-stays : goal.returns-in_err-view_lines-clause-stays
returns-in_err-view_lines-clause-stays g c =
    g.met.R.Records.twice c.args.source.now c.open_names.new.source c.read_files.new.source c.in_ok-ring.ensures.stays c.in_ok-files.ensures.stays

pub returns-clause-stays : goal.returns-clause-stays
returns-clause-stays g c =
    g.met.R.Records.twice c.args.source.now c.open_names.new.source c.read_files.new.source c.in_ok-ring.ensures.stays c.in_ok-files.ensures.stays

pub returns-in_err-files-clause-disk_fault : goal.returns-in_err-files-clause-disk_fault
returns-in_err-files-clause-disk_fault g c = λ e.
    let p = err_from_is_err_and c.from_residual-in_err-files.result c.from_residual-in_err-files.ensures.1 in
    let mid = g.met.R.Records.counts c.args.source.now c.open_names.new.source c.in_ok-ring.ensures.stays in
    let cause = sym p.2 ∙ one_fault _ c.from_residual-in_err-files.result p.0 ClientFault.DiskFault p.1 e in
    let rose = c.in_err-files.ensures.disk_fault (ap (λ f. Err f) cause) in
    omega (arith, mid, rose)
