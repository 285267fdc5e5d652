use Rattle.std.proofs.Common.{◌≡◌, ◌∙◌, ℤ, FitsSigned, Ok, ap, subst, sym}
use Rattle.std.proofs.lemmas.Int.{to_z-of_z}
use Rattle.std.specs.Int.{from_bool, w32, w64}
use Rattle.ft_client.specs.Clients.{Recalled}
use Rattle.lemonrudder.specs.declared.calling.Calling.{Calling}
use Rattle.lemonrudder.specs.Calls.{OnCancel}
use Rattle.lemonrudder.proofs.Clients.{stands_after}
use Rattle.lemonrudder.proofs.calling.Calling.cancel.Goals as goal

pub returns-in_ok-cancel-in-Ok : goal.returns-in_ok-cancel-in-Ok
returns-in_ok-cancel-in-Ok c =
    let call : ◌≡◌ {A = ℤ} c.in-Ok.call c.args.call = c.in-Ok.ensures.1 ∙ to_z-of_z w64 c.args.call c.ranges.call in
    let fits : FitsSigned w32 c.in-Ok.call = subst (λ (z : ℤ). FitsSigned w32 z) (sym c.in-Ok.ensures.1) c.in-Ok.ensures.0 in
    let t : Calling = record c.args.self.now { client = c.cancel.new.self; due = record c.args.self.now.due { octets = c.cancel.new.out } } in
    subst (λ (z : ℤ). OnCancel z c.args.self.now t (Ok c.from.result)) (to_z-of_z w32 c.in-Ok.call fits ∙ call) (λ x st. (
      c.from.ensures ∙ ap from_bool (c.in_ok-cancel-in-Ok.ensures.pending x.client st.client),
      stands_after (Recalled _) c.args.self.now c.cancel.new.self c.cancel.new.out x st (c.in_ok-cancel-in-Ok.ensures.stands x.client st.client) (c.in_ok-cancel-in-Ok.ensures.out x.client st.client),
    ))
