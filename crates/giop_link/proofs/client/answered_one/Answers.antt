use Rattle.std.proofs.Common.{◌≡◌, None, Ok, sym, ap, subst, rules}
use Rattle.giop_core.specs.Lent.{locate_reply_of, reply_of}
use Rattle.giop_core.specs.Places.{Headed, said_by}
use Rattle.giop_link.specs.Answering.{answer_to}
use Rattle.giop_link.specs.Private.{answered_one}
use Rattle.giop_link.proofs.Lending.{heard-as, said-locate-reply, said-reply, unheard}
use Rattle.giop_link.proofs.Turns.{client_turn_by, is-client-turn}
use Rattle.giop_link.proofs.client.answered_one.Goals as goal

pub returns-in-Reply : goal.returns-in-Reply
returns-in-Reply c =
    let x = c.args.message.now in
    let m = reply_of c.lend.result in
    let of = said-reply x c.in-Reply.reply c.said.result c.said.ensures c.in-Reply.is in
    sym (ap answered_one (heard-as answer_to x m (subst (λ (y : Headed). said_by y ≡ Ok m) of c.lend.ensures.says)))

pub returns-in-LocateReply : goal.returns-in-LocateReply
returns-in-LocateReply c =
    let x = c.args.message.now in
    let m = locate_reply_of c.lend-in-LocateReply.result in
    let of = said-locate-reply x c.in-LocateReply.reply c.said.result c.said.ensures c.in-LocateReply.is in
    sym (ap answered_one (heard-as answer_to x m (subst (λ (y : Headed). said_by y ≡ Ok m) of c.lend-in-LocateReply.ensures.says)))

pub returns-in-Request : goal.returns-in-Request
returns-in-Request c =
    let x = c.args.message.now in
    let never : client_turn_by x.header.kind ≡ Ok None → ⊥ = search rules in
    sym (ap answered_one (unheard answer_to x (client_turn_by x.header.kind) c.requires (is-client-turn x.header.kind) never).1)
