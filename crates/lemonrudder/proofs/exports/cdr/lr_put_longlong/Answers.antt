use Rattle.std.proofs.Common.{rules}
use Rattle.cdr_core.specs.Parts.{longlong_value}
use Rattle.lemonrudder.proofs.Putting.{puts_number}
use Rattle.lemonrudder.proofs.exports.cdr.lr_put_longlong.Goals as goal

pub returns : goal.returns
returns c = puts_number (longlong_value c.args.value) 8 c.to_be_bytes.result c.to_le_bytes.result c.args.place.now c.put_number.new.self c.args.room.now c.put_number.new.room c.put_number.result _ (search rules) (search rules) (search rules) (search rules)
