use Rattle.std.proofs.Common.{refl}
use Rattle.std.proofs.lemmas.Result.{on_ok_weaker}
use Rattle.ft_orb.specs.Standing.{note_of}
use Rattle.ft_ends.proofs.Serving.{shut-is}
use Rattle.ft_ends.proofs.wire.closed.Goals as goal

pub returns-clause-shut : goal.returns-clause-shut
returns-clause-shut g c = on_ok_weaker c.after_serving.result (λ plain made past x stands held.
    let t = c.close.ensures.table made past stands in
    shut-is g.S.Servant.meaning made c.tellings_are_written.ensures c.close.new.self c.args.wire.now _ past x c.in-Some.number (note_of c.close.result) c.in-Some.is plain t.3 t.0 t.1 t.2 refl refl refl held) c.after_serving.ensures.ok
