use Rattle.std.proofs.Common.{rules}
use Rattle.lemonrudder.proofs.Idling.{not_so}
use Rattle.lemonrudder.proofs.Asked.{asked-idle}
use Rattle.lemonrudder.proofs.Offered.{set_anew}
use Rattle.lemonrudder.proofs.serving.Serving.set.Goals as goal

pub invariant_of-self : goal.invariant_of-self
invariant_of-self c = record { asked = asked-idle c.args.self.now.connections c.change-families.new.self c.change-families.ensures.idle }

pub returns : goal.returns
returns c =
    set_anew _ _ _ _ _ c.in_ok-terms.ensures.ok.0 (not_so c.if-self.false) (λ some. not_so c.if-is_asking.false (c.is_asking.ensures.1 some)) c.in_ok-terms.ensures.ok.1 (search rules) c.new.ensures
