use Rattle.std.proofs.Common.{◌∙◌, ap, sym}
use Rattle.cry_base.specs.Requests.{request_of}
use Rattle.folder_nodes.specs.Checking.{refused_by}
use Rattle.folder_nodes.specs.Titles.{tree_store}
use Rattle.journal_bytes.proofs.Refused.{refused_by_grants, refused_by_tree, told_form}
use Rattle.command_plan.proofs.FoundTargets.{number_told, refusal_told, short_told}
use Rattle.command_plan.proofs.resolving.resolve.Goals as goal

pub refusal_by-requires : goal.refusal_by-requires
refusal_by-requires c = number_told c.args.shape.now.tree c.args.names.now c.is_tree.ensures c.requires.files c.in-Ok.ensures.found

pub returns-in-Err-clause-cause : goal.returns-in-Err-clause-cause
returns-in-Err-clause-cause c = λ s is.
    refused_by_tree c.args.strict (tree_store c.args.shape.now.tree c.args.names.now) s (request_of c.args.command.now) c.args.limits.file_bytes c.in-Err.why is.tree
    (ap refused_by c.in-Err.ensures.cause)

pub returns-in-None-clause-cause : goal.returns-in-None-clause-cause
returns-in-None-clause-cause c = λ s is.
    let t = tree_store c.args.shape.now.tree c.args.names.now in
    sym c.in-None.is ∙ c.refusal_by.ensures ∙ refusal_told c.args.grants.now t c.in-Ok.ensures.found
    ∙ refused_by_grants c.args.strict t s c.args.grants.now (request_of c.args.command.now) c.args.limits.file_bytes c.refusals_are_the_stores.ensures is.tree is.grants
    (ap refused_by c.in-Ok.ensures.cause)

pub returns-in-None-clause-form : goal.returns-in-None-clause-form
returns-in-None-clause-form c =
    told_form c.args.strict (tree_store c.args.shape.now.tree c.args.names.now) (request_of c.args.command.now) c.args.limits.file_bytes (ap refused_by c.in-Ok.ensures.cause)

pub returns-in-None-clause-short : goal.returns-in-None-clause-short
returns-in-None-clause-short c =
    let t = tree_store c.args.shape.now.tree c.args.names.now in
    short_told t c.in-Ok.ensures.found (told_form c.args.strict t (request_of c.args.command.now) c.args.limits.file_bytes (ap refused_by c.in-Ok.ensures.cause))

pub returns-in-Some-clause-cause : goal.returns-in-Some-clause-cause
returns-in-Some-clause-cause c = λ s is.
    let t = tree_store c.args.shape.now.tree c.args.names.now in
    sym c.in-Some.is ∙ c.refusal_by.ensures ∙ refusal_told c.args.grants.now t c.in-Ok.ensures.found
    ∙ refused_by_grants c.args.strict t s c.args.grants.now (request_of c.args.command.now) c.args.limits.file_bytes c.refusals_are_the_stores.ensures is.tree is.grants
    (ap refused_by c.in-Ok.ensures.cause)
