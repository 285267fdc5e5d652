use Rattle.std.proofs.Common.{◌≡◌, ℕ, ◌++◌, List, Some, take, IfOk, sym, ap, subst}
use Rattle.giop_frames.specs.declared.limits.Limits.{Limits}
use Rattle.giop_link.specs.Listening.{ListenerStands, heard_in, spoken_by}
use Rattle.giop_tap.specs.declared.sender.Sender.{Sender}
use Rattle.giop_tap.specs.declared.sender.Sender.TheVariants.{Opener, Acceptor}
use Rattle.giop_tap.specs.Tracing.{PairsStand, TraceStands, Traced, counts, news, said_after, talk_after}
use Rattle.giop_tap.proofs.Feeding.{acceptor-fed, all, opener-fed}
use Rattle.giop_tap.proofs.tracer.Trace.feed.Goals as goal

pub returns-in-Opener-clause-stands : goal.returns-in-Opener-clause-stands
returns-in-Opener-clause-stands c = λ t stands.
    let piece : List ℕ = c.args.piece.now in
    let x : Traced = record { limits = c.self.inside.limits; connection = c.self.inside.connection; opener = c.self.inside.opener; acceptor = c.self.inside.acceptor; pairs = c.self.inside.pairs; lends = c.self.inside.lends } in
    let y : Traced = record { limits = c.self.inside.limits; connection = c.self.inside.connection; opener = c.hear.new.listener; acceptor = c.self.inside.acceptor; pairs = c.hear.new.pairs; lends = Some Opener } in
    let old : TraceStands x t = subst (λ (z : Traced). TraceStands z t) (sym c.self.view_is) stands in
    let fed : IfOk c.hear.result (λ n. TraceStands y (talk_after x.limits Opener (take n piece) t)) =
    all c.hear.result
    (λ n. ListenerStands counts x.limits c.hear.new.listener (t.opener ++ take n piece))
    (λ n. PairsStand c.hear.new.pairs (said_after x.connection Opener (news x.limits t.opener (take n piece)) t.earlier))
    (λ n. heard_in (spoken_by counts c.hear.new.listener.message) ≡ news x.limits t.opener (take n piece))
    (λ n. TraceStands y (talk_after x.limits Opener (take n piece) t))
    (λ n heard said brings. opener-fed x c.hear.new.listener c.hear.new.pairs t (take n piece) old heard said brings)
    (c.hear.ensures.stands x.limits t.opener old.opener_stands)
    (c.hear.ensures.pairs x.limits t.opener t.earlier old.opener_stands old.pairs_stand)
    (c.hear.ensures.brings x.limits t.opener old.opener_stands) in
    let limited = subst (λ (l : Limits). IfOk c.hear.result (λ n. TraceStands y (talk_after l Opener (take n piece) t))) (ap (λ (z : Traced). z.limits) c.self.view_is) fed in
    subst (λ (w : Sender). IfOk c.hear.result (λ n. TraceStands (record y { lends = Some w }) (talk_after c.args.self.now.limits w (take n piece) t))) (sym c.in-Opener.is) limited

pub returns-in-Acceptor-clause-stands : goal.returns-in-Acceptor-clause-stands
returns-in-Acceptor-clause-stands c = λ t stands.
    let piece : List ℕ = c.args.piece.now in
    let x : Traced = record { limits = c.self.inside.limits; connection = c.self.inside.connection; opener = c.self.inside.opener; acceptor = c.self.inside.acceptor; pairs = c.self.inside.pairs; lends = c.self.inside.lends } in
    let y : Traced = record { limits = c.self.inside.limits; connection = c.self.inside.connection; opener = c.self.inside.opener; acceptor = c.hear-in-Acceptor.new.listener; pairs = c.hear-in-Acceptor.new.pairs; lends = Some Acceptor } in
    let old : TraceStands x t = subst (λ (z : Traced). TraceStands z t) (sym c.self.view_is) stands in
    let fed : IfOk c.hear-in-Acceptor.result (λ n. TraceStands y (talk_after x.limits Acceptor (take n piece) t)) =
    all c.hear-in-Acceptor.result
    (λ n. ListenerStands counts x.limits c.hear-in-Acceptor.new.listener (t.acceptor ++ take n piece))
    (λ n. PairsStand c.hear-in-Acceptor.new.pairs (said_after x.connection Acceptor (news x.limits t.acceptor (take n piece)) t.earlier))
    (λ n. heard_in (spoken_by counts c.hear-in-Acceptor.new.listener.message) ≡ news x.limits t.acceptor (take n piece))
    (λ n. TraceStands y (talk_after x.limits Acceptor (take n piece) t))
    (λ n heard said brings. acceptor-fed x c.hear-in-Acceptor.new.listener c.hear-in-Acceptor.new.pairs t (take n piece) old heard said brings)
    (c.hear-in-Acceptor.ensures.stands x.limits t.acceptor old.acceptor_stands)
    (c.hear-in-Acceptor.ensures.pairs x.limits t.acceptor t.earlier old.acceptor_stands old.pairs_stand)
    (c.hear-in-Acceptor.ensures.brings x.limits t.acceptor old.acceptor_stands) in
    let limited = subst (λ (l : Limits). IfOk c.hear-in-Acceptor.result (λ n. TraceStands y (talk_after l Acceptor (take n piece) t))) (ap (λ (z : Traced). z.limits) c.self.view_is) fed in
    subst (λ (w : Sender). IfOk c.hear-in-Acceptor.result (λ n. TraceStands (record y { lends = Some w }) (talk_after c.args.self.now.limits w (take n piece) t))) (sym c.in-Acceptor.is) limited
