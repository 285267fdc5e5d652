use Rattle.std.proofs.Common.{rules, Err}
use Rattle.lemonrudder.specs.Writes.{context_of, request}
use Rattle.lemonrudder.proofs.Written.{no_manner}
use Rattle.lemonrudder.proofs.exports.message.lr_write_request.Goals as goal

pub returns-in-Err : goal.returns-in-Err
returns-in-Err c = (Err c.in-Err.refusal, search rules, no_manner c.args.version c.args.order (λ v o. request v o (record { id = c.args.request_id; wish = c.args.wish; key = c.args.key.now; operation = c.args.operation.now; contexts = context_of c.args.context_id c.args.context.now; body = c.args.body.now })) _ _ c.in-Err.ensures)
