use Rattle.std.proofs.Common.{rules, Err}
use Rattle.lemonrudder.specs.Writes.{reply}
use Rattle.lemonrudder.proofs.Written.{no_manner}
use Rattle.lemonrudder.proofs.exports.message.lr_write_reply.Goals as goal

pub returns-in-Err : goal.returns-in-Err
returns-in-Err c = (Err c.in-Err.refusal, search rules, no_manner c.args.version c.args.order (λ v o. reply v o c.args.request_id c.args.status c.args.body.now) _ _ c.in-Err.ensures)
