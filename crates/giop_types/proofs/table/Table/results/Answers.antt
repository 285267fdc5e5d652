use Rattle.std.proofs.Common.{List, IfOk, ap, drop, map, subst, sym, ◌∙◌}
use Rattle.std.specs.List.{drop-map}
use Rattle.giop_types.specs.declared.operations.Operation.{Operation}
use Rattle.giop_types.specs.declared.operations.Part.TheVariants.{Results}
use Rattle.giop_types.specs.declared.signature.Signature.{Signature}
use Rattle.giop_types.specs.Tables.{IsTold, operations_of, side_of}
use Rattle.giop_types.proofs.Fronts.{drop_least}
use Rattle.giop_types.proofs.table.Table.results.Goals as goal

pub returns : goal.returns
returns c = λ small.
    let all = c.known-known.result.now in
    let left = c.split_at.ensures.back ∙ ap (λ n. drop n all) c.min.ensures ∙ drop_least c.args.others all ∙ ap (drop c.args.others) c.known-known.ensures in
    let told = subst (λ (os : List Operation). IfOk c.told_by.result (λ told. IsTold (map (side_of Results) os) c.args.body.now told)) left (c.told_by.ensures small) in
    subst (λ (all : List Signature). IfOk c.told_by.result (λ told. IsTold all c.args.body.now told)) (sym (drop-map (side_of Results) c.args.others (operations_of c.args.self.now c.args.operation.now))) told
