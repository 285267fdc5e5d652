use Rattle.ior_core.proofs.Memory.{list_gives}
use Rattle.ior_core.proofs.tagged.read_list.Goals as goal

pub returns : goal.returns
returns c = list_gives c.read_each.result c.args.cursor.now c.count.new.self c.read_each.new.cursor c.in_ok-count.count c.in_ok-count.ensures c.read_each.ensures
