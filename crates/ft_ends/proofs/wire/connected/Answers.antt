use Rattle.std.proofs.Common.{◌≡◌, ◌+◌, refl, suc, Some, arith, ap, subst}
use Rattle.ft_client.specs.Clients.{Joined, says}
use Rattle.ft_orb.specs.History.{Opened}
use Rattle.ft_orb.specs.Outputs.{after}
use Rattle.ft_orb.specs.Standing.{Stands, note_of_opening}
use Rattle.ft_ends.proofs.Serving.{joined-is}
use Rattle.ft_ends.proofs.wire.connected.Goals as goal

pub returns-clause-joined : goal.returns-clause-joined
returns-clause-joined g c = λ made past m st fs apart unused none.
    let is : c.args.opened.now + 1 ≡ suc c.args.opened.now = omega arith in
    let stands = subst (λ k. Stands g.S.Servant.meaning made c.connect.new.self (after made.limits past (Opened k) (note_of_opening c.connect.result))) is ((c.connect.ensures.table made past st).1) in
    let joined = joined-is g.S.Servant.meaning made c.connect.new.self c.args.wire.now _ past (suc c.args.opened.now) (note_of_opening c.connect.result) (says (Joined c.args.now) m) c.in_ok-after_opening.ensures.ok stands (ap Some is) (c.in_ok-connected.ensures.out m fs) refl refl none unused in
    (joined.0, c.in_ok-connected.ensures.stands m fs, joined.1, is)
