use Rattle.std.proofs.Common.{List, IfOk, map, subst}
use Rattle.giop_types.specs.declared.operations.Operation.{Operation}
use Rattle.giop_types.specs.declared.operations.Part.TheVariants.{Arguments}
use Rattle.giop_types.specs.Tables.{IsTold, side_of}
use Rattle.giop_types.proofs.table.Table.arguments.Goals as goal

pub returns : goal.returns
returns c = λ small.
    subst (λ (os : List Operation). IfOk c.told_by.result (λ told. IsTold (map (side_of Arguments) os) c.args.body.now told)) c.known.ensures (c.told_by.ensures small)
