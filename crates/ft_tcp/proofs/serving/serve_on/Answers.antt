use Rattle.std.proofs.Common.{◌≡◌, ◌+◌, true, List, [], ◌∷◌, ◌++◌, length, IfOk, Result, Ok, Err, is_err, refl, sym, subst, arith, length-append}
use Rattle.ft_orb.specs.History as history
use Rattle.ft_orb.specs.Standing.{Stands}
use Rattle.ft_orb.proofs.Streams.{grows-none}
use Rattle.ft_tcp.specs.Visits.{past_with_visits}
use Rattle.ft_tcp.proofs.Visits.{moments-more, past-more, visits-more}
use Rattle.ft_tcp.proofs.serving.serve_on.Goals as goal

if_ok-err : {A E : Type 0} (r : Result A E) (P : A → Type 0) → is_err r ≡ true → IfOk r P
if_ok-err (Ok x) P is = absurd cc
if_ok-err (Err e) P is = tt

pub loop-i-init : goal.loop-i-init
loop-i-init g c made past st = ([], tt, st, grows-none (g.C.Clock.given c.args.clock.now), refl)

pub loop-i-preserved : goal.loop-i-preserved
loop-i-preserved g c made past st =
    let v = c.loop-i.invariant made past st in
    let all = v.4 in
    let number = c.from.ensures in
    let w = c.serve_connection.ensures made (past_with_visits made.limits past 1 v.0) v.2 in
    let next : c.from.result + 1 ≡ length v.0 + 1 = omega (arith, all, number) in
    let longer = length-append v.0 (w.0 ∷ []) in (
      v.0 ++ w.0 ∷ [],
      visits-more g.S.Servant.meaning made past 1 v.0 w.0 (c.from.result + 1) next v.1 w.1,
      subst (λ (p : List history.Event). Stands g.S.Servant.meaning made c.serve_connection.new.server p) (sym (past-more g.S.Servant.meaning made past 1 v.0 w.0 (c.from.result + 1) next)) w.2,
      moments-more v.0 w.0 (g.C.Clock.given c.args.clock.now) (g.C.Clock.given c.loop-i.clock) (g.C.Clock.given c.serve_connection.new.clock) v.3 w.4,
      omega (arith, all, longer),
    )

pub returns-in_err-stream : goal.returns-in_err-stream
returns-in_err-stream g c made past st =
    let v = c.loop-i.invariant made past st in
    let all = v.4 in
    let test = c.loop-i-test.true in
    (v.0, v.1, v.2, v.3, omega (arith, all, test), if_ok-err c.from_residual.result _ c.from_residual.ensures.0)

pub returns : goal.returns
returns g c made past st =
    let v = c.loop-i.invariant made past st in
    let all = v.4 in
    let within = c.loop-i.auto.i-end in
    let test = c.loop-i-test.false in
    (v.0, v.1, v.2, v.3, omega (arith, all, within), omega (arith, all, within, test))
