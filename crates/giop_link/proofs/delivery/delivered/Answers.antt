use Rattle.std.proofs.Common.{◌≡◌, None, Ok, sym, ap, subst, ◌∙◌, rules}
use Rattle.giop_core.specs.Lent.{locate_reply_of, reply_of}
use Rattle.giop_core.specs.Places.{Headed, said_by}
use Rattle.giop_link.specs.Answering.{Answer, answer_to}
use Rattle.giop_link.specs.Hearing.{Sound}
use Rattle.giop_link.specs.Listening.{spoken}
use Rattle.giop_link.specs.Private.{told_of}
use Rattle.giop_link.proofs.Lending.{heard-as, said-locate-reply, said-reply, unheard}
use Rattle.giop_link.proofs.Turns.{client_turn_by, is-client-turn}
use Rattle.giop_link.proofs.delivery.delivered.Goals as goal

pub returns-in-Reply-clause-told : goal.returns-in-Reply-clause-told
returns-in-Reply-clause-told c =
    let x = c.args.message.now in
    let m = reply_of c.lend.result in
    let of = said-reply x c.in-Reply.reply c.said.result c.said.ensures c.in-Reply.is in
    let says = subst (λ (y : Headed). said_by y ≡ Ok m) of c.lend.ensures.says in
    c.replied.ensures.told ∙ sym (ap (λ (μ : Sound Answer). told_of (spoken μ)) (heard-as answer_to x m says))

pub returns-in-LocateReply-clause-told : goal.returns-in-LocateReply-clause-told
returns-in-LocateReply-clause-told c =
    let x = c.args.message.now in
    let m = locate_reply_of c.lend-reply.result in
    let of = said-locate-reply x c.in-LocateReply.reply c.said.result c.said.ensures c.in-LocateReply.is in
    let says = subst (λ (y : Headed). said_by y ≡ Ok m) of c.lend-reply.ensures.says in
    sym (ap (λ (μ : Sound Answer). told_of (spoken μ)) (heard-as answer_to x m says))

pub returns-in-Request-clause-told : goal.returns-in-Request-clause-told
returns-in-Request-clause-told c =
    let x = c.args.message.now in
    let never : client_turn_by x.header.kind ≡ Ok None → ⊥ = search rules in
    sym (ap (λ (μ : Sound Answer). told_of (spoken μ)) (unheard answer_to x (client_turn_by x.header.kind) c.requires.valid (is-client-turn x.header.kind) never).1)
