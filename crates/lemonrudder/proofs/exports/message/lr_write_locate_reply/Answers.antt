use Rattle.std.proofs.Common.{rules, Err}
use Rattle.lemonrudder.specs.Writes.{locate_reply}
use Rattle.lemonrudder.proofs.Written.{no_manner}
use Rattle.lemonrudder.proofs.exports.message.lr_write_locate_reply.Goals as goal

pub returns-in-Err : goal.returns-in-Err
returns-in-Err c = (Err c.in-Err.refusal, search rules, no_manner c.args.version c.args.order (λ v o. locate_reply v o c.args.request_id c.args.status) _ _ c.in-Err.ensures)
