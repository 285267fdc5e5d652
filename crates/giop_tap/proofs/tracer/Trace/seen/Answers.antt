use Rattle.std.proofs.Common.{◌≡◌, ℕ, Some, IsSomeAnd, sym, ap, subst, ◌∙◌}
use Rattle.giop_core.specs.Lent as lent
use Rattle.giop_frames.specs.Standing.{IsLent}
use Rattle.giop_link.specs.Listening.{Listened}
use Rattle.giop_tap.specs.Tracing.{IsLatest, Traced, end_of}
use Rattle.giop_tap.proofs.Seeing.{latest-seen}
use Rattle.giop_tap.proofs.Telling.{repeats-first, repeats-its-key, repeats-recent}
use Rattle.giop_tap.proofs.tracer.Trace.seen.Goals as goal

pub returns-clause-message : goal.returns-clause-message
returns-clause-message c = λ t stands.
    let x : Traced = c.args.self.now in
    let lends : x.lends ≡ Some c.in_ok-sender.sender = sym (ap (λ (z : Traced). z.lends) c.self.view_is) ∙ c.in_ok-sender.was in
    let has : IsSomeAnd (end_of c.in_ok-sender.sender x).message (λ f. IsLent c.in_ok-message.message f) =
    subst (λ (l : Listened). IsSomeAnd l.message (λ f. IsLent c.in_ok-message.message f)) c.listener.ensures c.in_ok-message.ensures.lent in
    subst (λ (k : ℕ). IsLatest (record { connection = k; sender = c.in_ok-sender.sender; content = lent.content_of c.in_ok-message.message.content }) t.earlier) (sym (ap (λ (z : Traced). z.connection) c.self.view_is))
    (latest-seen x t c.in_ok-sender.sender c.in_ok-message.message stands lends has)

pub returns-clause-first : goal.returns-clause-first
returns-clause-first c = λ t stands none.
    let last : c.args.self.now.pairs.last ≡ Some c.in_ok-tie.tie = sym (ap (λ (z : Traced). z.pairs.last) c.self.view_is) ∙ sym c.last.ensures ∙ c.in_ok-tie.was in
    repeats-first c.args.self.now.pairs t.earlier c.in_ok-tie.tie stands.pairs_stand last none

pub returns-clause-repeats : goal.returns-clause-repeats
returns-clause-repeats c = λ t stands.
    let last : c.args.self.now.pairs.last ≡ Some c.in_ok-tie.tie = sym (ap (λ (z : Traced). z.pairs.last) c.self.view_is) ∙ sym c.last.ensures ∙ c.in_ok-tie.was in
    repeats-its-key c.args.self.now.pairs t.earlier c.in_ok-tie.tie stands.pairs_stand last

pub returns-clause-recent : goal.returns-clause-recent
returns-clause-recent c = λ t stands recent.
    let last : c.args.self.now.pairs.last ≡ Some c.in_ok-tie.tie = sym (ap (λ (z : Traced). z.pairs.last) c.self.view_is) ∙ sym c.last.ensures ∙ c.in_ok-tie.was in
    repeats-recent c.args.self.now.pairs t.earlier c.in_ok-tie.tie stands.pairs_stand last recent
