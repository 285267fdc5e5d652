use Rattle.std.proofs.Common.{List, ℕ, ◌++◌, None, ap, sym, subst, ◌∙◌}
use Rattle.ft_orb.specs.Handovers.{octets_in}
use Rattle.ft_orb.specs.History.{Close}
use Rattle.ft_orb.specs.Outputs.{after}
use Rattle.ft_orb.specs.Sessions.{LosesLate, ServesRead}
use Rattle.ft_orb.specs.Wires.{past_with}
use Rattle.ft_orb.proofs.Causes.{did-as, did-then, parted-cause, read-cause}
use Rattle.ft_orb.proofs.Elsewhere.{late-alone, late-left, late-then, on-joined, read-wire, visited-then}
use Rattle.ft_orb.proofs.Handing.{attends-so}
use Rattle.ft_orb.proofs.Streams.{served-all, served-early}
use Rattle.ft_orb.proofs.hosting.serve_host.Goals as goal
use Rattle.ft_orb.proofs.hosting.serve_host.Goals.{in-Some, in-None}

pub returns-clause-parked : goal.returns-clause-parked
returns-clause-parked g c q =
    let parked = λ (host : g.row.H.Denot). g.H.Host.parked_under host q in
    let told = λ (host : g.row.H.Denot). g.H.Host.told_under host q in
    let f = c.forget.ensures.parked q in
    elim c.match-serve_pieces.branch [
      | in-Some b ↦ let s = b.in-Some.ensures.parked q in (f.0 ∙ ap parked b.host-is ∙ s.0, f.1 ∙ ap told b.host-is ∙ s.1)
      | in-None b ↦
          let s = b.in-None.ensures.parked q in
          let e = b.say_farewell-end.ensures.parked q in
          (f.0 ∙ ap parked b.host-is ∙ e.0 ∙ s.0, f.1 ∙ ap told b.host-is ∙ e.1 ∙ s.1)
    ]

pub returns-clause-waiting : goal.returns-clause-waiting
returns-clause-waiting g c q =
    let waiting = λ (host : g.row.H.Denot). g.H.Host.waiting_under host c.args.connection q in
    let f = c.forget.ensures.waiting q in
    elim c.match-serve_pieces.branch [
      | in-Some b ↦ f ∙ ap waiting b.host-is ∙ b.in-Some.ensures.waiting q
      | in-None b ↦ f ∙ ap waiting b.host-is ∙ b.say_farewell-end.ensures.waiting q ∙ b.in-None.ensures.waiting q
    ]

pub returns-clause-table : goal.returns-clause-table
returns-clause-table g c =
    elim c.match-serve_pieces.branch [
      | in-Some b ↦
          rw (b.end-is, b.wire-is)
          (attends-so g.H.Host.as_owner b.in-Some.ensures.table (λ w calls later past x y.
          served-early (g.H.Host.as_owner w) (g.H.Host.says w) past c.args.connection c.args.max_reads _ _ _ _ (g.H.Host.Holds w later c.serve_pieces.new.host) (g.H.Host.Holds w later c.forget.new.self) b.in-Some.end y
          (λ p h. c.forget.ensures.table w later p (subst (λ (host : g.row.H.Denot). g.H.Host.Holds w later host p) (sym b.host-is) h))))
      | in-None b ↦
          rw (b.end-is, b.wire-is)
          (attends-so g.H.Host.as_owner b.in-None.ensures.table (λ w calls later past x y.
          let then = past_with (g.H.Host.as_owner w).limits past c.args.connection y.0 in
          let f = b.say_farewell-end.ensures.table w later then y.1.turned.stands y.1.ongoing.1 in
          served-all (g.H.Host.as_owner w) (g.H.Host.says w) past c.args.connection c.args.max_reads _ _ _ _ (g.H.Host.Holds w later c.serve_pieces.new.host) (g.H.Host.Holds w later c.forget.new.self) b.say_farewell-end.result _ y f.0 f.2 f.4
          (c.forget.ensures.closed w later then f.1 (subst (λ (host : g.row.H.Denot). g.H.Host.Holds w later host (after (g.H.Host.as_owner w).limits then (Close c.args.connection) f.1)) (sym b.host-is) f.5))))
    ]

pub returns-clause-late : goal.returns-clause-late
returns-clause-late g c =
    let stays = g.H.Host.HoldsLate in
    let lost = λ (host : g.row.H.Denot). LosesLate stays c.args.connection host c.forget.new.self in
    elim c.match-serve_pieces.branch [
      | in-Some b ↦
          rw (b.end-is, b.wire-is)
          (late-left stays c.args.connection _ _ _ c.args.host.now c.serve_pieces.new.host c.forget.new.self
          b.in-Some.ensures.late
          (subst lost b.host-is c.forget.ensures.late))
      | in-None b ↦
          rw (b.end-is, b.wire-is)
          (late-left stays c.args.connection _ _ _ c.args.host.now b.say_farewell-end.new.host c.forget.new.self
          (late-then stays c.args.connection _ _ _
          (λ limits past x y p q. (
            on-joined limits past c.args.connection b.say_farewell-end.result x y p.0 q.0,
            read-wire b.say_farewell-end.result (octets_in (y ++ x)) _ _ (visited-then None x y _ _ _ p.1 (subst (λ (l : List ℕ). ServesRead None l (g.W.Wire.traffic c.serve_pieces.new.wire) (g.W.Wire.traffic b.say_farewell-end.new.wire)) (sym q.1) b.say_farewell-end.ensures.wire)),
          )) _ _ _ c.args.host.now c.serve_pieces.new.host b.say_farewell-end.new.host b.in-None.ensures.late
          (late-alone stays c.args.connection _ _ c.serve_pieces.new.host b.say_farewell-end.new.host b.say_farewell-end.ensures.late))
          (subst lost b.host-is c.forget.ensures.late))
    ]

pub returns-clause-cause : goal.returns-clause-cause
returns-clause-cause g c =
    elim c.match-serve_pieces.branch [
      | in-Some b ↦ rw (b.end-is, b.wire-is) (did-as _ _ (λ acts x. read-cause c.args.max_reads b.in-Some.end acts x) _ _ b.in-Some.ensures.cause)
      | in-None b ↦
          rw (b.end-is, b.wire-is)
          (did-then _ _ _ (λ xs ys x y. parted-cause c.args.max_reads b.say_farewell-end.result xs ys x y) _ _ _ b.in-None.ensures.cause b.say_farewell-end.ensures.cause)
    ]
