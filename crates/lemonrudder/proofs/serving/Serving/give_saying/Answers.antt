use Rattle.std.proofs.Common.{IsSome, map, inl, inr, refl, subst}
use Rattle.giop_core.specs.Items.{item_at}
use Rattle.ft_log.specs.View.{performed_in}
use Rattle.lemonrudder.specs.declared.terms.Setup.{Setup}
use Rattle.lemonrudder.specs.Outcomes.{Answers}
use Rattle.lemonrudder.proofs.Carrying.{put-back}
use Rattle.lemonrudder.proofs.Handing.{answers-asked, can-same, lent-said, short-said}
use Rattle.lemonrudder.proofs.serving.Serving.give_saying.Goals as goal

pub answer_found-requires : goal.answer_found-requires
answer_found-requires c = record {
  found = c.requires.found;
  can = can-same c.args.found (performed_in c.args.outcome) c.args.self.now (record c.args.self.now { setup = c.take_said-said.new.self; asked = c.in-Ok.self-1-own.given.0 }) refl c.requires.can;
}

pub returns-in_default : goal.returns-in_default
returns-in_default c =
    let some = short-said c.take_said-said.result c.lent.result c.lent.ensures (λ v is. c.in_default.not-Ok v is) in
    inl (subst (λ o. IsSome o) c.take_said-said.ensures.said some, refl, (refl, put-back c.args.self.now.setup c.take_said-said.new.self c.args.ticket c.take_said-said.result c.take_said-said.ensures.said c.take_said-said.ensures.left some, ((λ q. (refl, refl)), refl), λ q. (refl, refl)))

pub returns : goal.returns
returns c =
    let s = c.args.self.now in
    let contexts = map item_at c.in-Ok.contexts.items in
    inr (contexts, lent-said c.take_said-said.result _ c.lent.result c.in-Ok.contexts c.take_said-said.ensures.said c.in-Ok.is c.lent.ensures, subst (λ (u : Setup). Answers c.args.found c.args.count (performed_in c.args.outcome) contexts (record s { setup = u }) c.answer_found.new.self c.answer_found.result) c.take_said-said.ensures.left (answers-asked c.args.found c.args.count (performed_in c.args.outcome) contexts (record s { setup = c.take_said-said.new.self }) c.answer_found.new.self c.answer_found.result c.in-Ok.self-1-own.given.0 (rw c.deref.ensures.value at c.answer_found.ensures)))
