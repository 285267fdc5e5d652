use Rattle.std.proofs.Common.{sym, subst}
use Rattle.std.proofs.lemmas.Result.{on_ok_weaker}
use Rattle.ft_client.specs.Clients.{Called, made, says}
use Rattle.ft_ends.specs.Playing.{call_as}
use Rattle.ft_ends.specs.Private.{IsWireFor}
use Rattle.ft_ends.specs.World.{extended}
use Rattle.ft_ends.proofs.Noted.{taken-more}
use Rattle.ft_ends.proofs.post.call_noted.Goals as goal

pub returns-clause-ok : goal.returns-clause-ok
returns-clause-ok c = on_ok_weaker c.note.result (λ is tells m o stands linked held.
    let call = call_as c.args.call.now in
    let p = c.in_ok-number.ensures.ok tells m o stands linked held in
    (p.0, subst (λ wire. IsWireFor tells wire (extended (says (Called c.args.now call) m) o)) (sym c.note.ensures.wire) p.1)) c.note.ensures.taken

pub returns-clause-taken : goal.returns-clause-taken
returns-clause-taken c = on_ok_weaker c.note.result (λ is m calls stands are.
    let call = call_as c.args.call.now in
    taken-more c.args.post.now.taken.items c.note.new.self.taken.items c.in_ok-number.number call calls (made (Called c.args.now call) m) is (c.in_ok-number.ensures.number m stands) are) c.note.ensures.taken
