use Rattle.std.proofs.Common.{Some, sym, ap, ◌∙◌}
use Rattle.giop_proxy.specs.declared.passes.coming.Part.{Part}
use Rattle.giop_proxy.specs.PassingPrivate.{coming_at, entries}
use Rattle.giop_proxy.proofs.PassingKeys.{place-none, place-some, without-none}
use Rattle.giop_proxy.proofs.passes.joining.take_from.Goals as goal

pub returns-in_err-at-clause-found : goal.returns-in_err-at-clause-found
returns-in_err-at-clause-found c = rw c.from_residual.ensures (place-none c.args.key c.args.parts.now.items c.as_slice.result.now c.as_slice.ensures.value c.in_err-at.ensures)

pub returns-in_err-at-clause-rest : goal.returns-in_err-at-clause-rest
returns-in_err-at-clause-rest c = sym (without-none c.args.key (entries c.args.parts.now.items) (place-none c.args.key c.args.parts.now.items c.as_slice.result.now c.as_slice.ensures.value c.in_err-at.ensures))

pub returns-clause-found : goal.returns-clause-found
returns-clause-found c =
    let f = place-some c.args.key c.args.parts.now.items c.as_slice.result.now c.in_ok-at.at c.as_slice.ensures.value c.in_ok-at.ensures in
    f.part c.remove-message.result ∙ ap (λ (p : Part). Some (coming_at p.message)) (sym c.remove-message.ensures.value)

pub returns-clause-rest : goal.returns-clause-rest
returns-clause-rest c =
    let f = place-some c.args.key c.args.parts.now.items c.as_slice.result.now c.in_ok-at.at c.as_slice.ensures.value c.in_ok-at.ensures in
    ap entries c.remove-message.ensures.items ∙ f.rest
