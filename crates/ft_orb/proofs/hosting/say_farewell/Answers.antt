use Rattle.std.proofs.Common.{◌≡◌, List, ℕ, [], ◌++◌, inr, ap, subst, ◌∙◌}
use Rattle.giop_link.specs.Linking.{close_connection}
use Rattle.ft_orb.specs.Handovers.{octets_in}
use Rattle.ft_orb.specs.Sessions.{TookAll, TookFront}
use Rattle.ft_orb.proofs.Causes.{parted-all, parted-cut, parted-front}
use Rattle.ft_orb.proofs.Elsewhere.{attended-so, read-none, said-all, said-front}
use Rattle.ft_orb.proofs.Streams.{grows-none, parted}
use Rattle.ft_orb.proofs.hosting.say_farewell.Goals as goal

pub returns-in-Err-clause-table : goal.returns-in-Err-clause-table
returns-in-Err-clause-table g c w calls past st going =
    let x = c.in-Err.ensures.table w calls past st going in
    let p = parted c.in-Err.end x.0 x.1 in
    ([], x.0, p.0, p.1, grows-none (g.W.Wire.traffic c.args.wire.now), x.3)

pub returns-in-Ok-clause-table : goal.returns-in-Ok-clause-table
returns-in-Ok-clause-table g c w calls past st going =
    let x = c.in_default.ensures.table w calls past st going in
    let octets : c.deref.result.now ≡ close_connection = c.deref.ensures.value ∙ x.2 ∙ ap (λ (xs : List ℕ). xs ++ close_connection) c.clear.ensures.items in
    let took = subst (λ (xs : List ℕ). TookAll xs (g.W.Wire.traffic c.args.wire.now) (g.W.Wire.traffic c.write_all.new.wire)) octets c.in-Ok.ensures.ok in
    (took.0, x.0, took.1, tt, took.2, x.3)

pub returns-in-Err-write_all-clause-table : goal.returns-in-Err-write_all-clause-table
returns-in-Err-write_all-clause-table g c w calls past st going =
    let x = c.in_default.ensures.table w calls past st going in
    let octets : c.deref.result.now ≡ close_connection = c.deref.ensures.value ∙ x.2 ∙ ap (λ (xs : List ℕ). xs ++ close_connection) c.clear.ensures.items in
    let took = subst (λ (xs : List ℕ). TookFront xs (g.W.Wire.traffic c.args.wire.now) (g.W.Wire.traffic c.write_all.new.wire)) octets c.in-Err-write_all.ensures.err in
    (took.0, x.0, took.1, tt, took.2, x.3)

pub returns-in-Err-clause-wire : goal.returns-in-Err-clause-wire
returns-in-Err-clause-wire g c = read-none (g.W.Wire.traffic c.args.wire.now)

pub returns-in-Ok-clause-wire : goal.returns-in-Ok-clause-wire
returns-in-Ok-clause-wire g c = said-all _ (g.W.Wire.traffic c.args.wire.now) (g.W.Wire.traffic c.write_all.new.wire) c.in-Ok.ensures.ok

pub returns-in-Err-write_all-clause-wire : goal.returns-in-Err-write_all-clause-wire
returns-in-Err-write_all-clause-wire g c = said-front _ (g.W.Wire.traffic c.args.wire.now) (g.W.Wire.traffic c.write_all.new.wire) c.in-Err-write_all.ensures.err

pub returns-in-Err-clause-cause : goal.returns-in-Err-clause-cause
returns-in-Err-clause-cause g c = parted-cut c.in-Err.end c.in-Err.ensures.cut (g.W.Wire.traffic c.args.wire.now)

pub returns-in-Ok-clause-cause : goal.returns-in-Ok-clause-cause
returns-in-Ok-clause-cause g c = parted-all _ (g.W.Wire.traffic c.args.wire.now) (g.W.Wire.traffic c.write_all.new.wire) c.in-Ok.ensures.ok

pub returns-in-Err-write_all-clause-cause : goal.returns-in-Err-write_all-clause-cause
returns-in-Err-write_all-clause-cause g c = parted-front _ (g.W.Wire.traffic c.args.wire.now) (g.W.Wire.traffic c.write_all.new.wire) c.in-Err-write_all.ensures.err

pub returns-in-Err-clause-late : goal.returns-in-Err-clause-late
returns-in-Err-clause-late g c = c.in-Err.ensures.late

pub returns-in-Ok-clause-late : goal.returns-in-Ok-clause-late
returns-in-Ok-clause-late g c =
    attended-so g.H.Host.HoldsLate c.args.connection _ _ [] c.args.host.now c.part.new.self (λ limits past events x. (([], x, tt), ap octets_in x)) c.in_default.ensures.late

pub returns-in-Err-write_all-clause-late : goal.returns-in-Err-write_all-clause-late
returns-in-Err-write_all-clause-late g c =
    attended-so g.H.Host.HoldsLate c.args.connection _ _ [] c.args.host.now c.part.new.self (λ limits past events x. (inr ([], x, tt), ap octets_in x)) c.in_default.ensures.late
