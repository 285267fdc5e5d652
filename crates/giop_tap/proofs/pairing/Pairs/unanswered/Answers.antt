use Rattle.std.proofs.Common.{◌≡◌, ℕ, List, IfOk, sym, ap, subst}
use Rattle.giop_tap.specs.Pairing.{waiting}
use Rattle.giop_tap.specs.Tracing.{Paired}
use Rattle.giop_tap.specs.Waiting.{AreWaiting, Waits}
use Rattle.giop_tap.proofs.Rising.{waiting-rises}
use Rattle.giop_tap.proofs.Unanswered.{unanswered-wait}
use Rattle.giop_tap.proofs.pairing.Pairs.unanswered.Goals as goal

pub returns : goal.returns
returns c = λ earlier stands.
    let kept = subst (λ (m : Waits). AreWaiting m (waiting earlier)) (sym (ap (λ (p : Paired). p.waiting) c.self.view_is)) stands.waiting_are in
    subst (λ (ns : List ℕ). IfOk c.all_numbers.result (λ v. v.items ≡ ns)) (sym (unanswered-wait earlier)) (c.all_numbers.ensures (waiting earlier) (waiting-rises earlier) kept)
