use Rattle.std.proofs.Common.{◌≡◌, None, Ok, sym, ap, subst, ◌∙◌, rules}
use Rattle.giop_core.specs.declared.header.Header.{Header}
use Rattle.giop_core.specs.Lent.{cancel_of, locate_request_of, request_of}
use Rattle.giop_core.specs.Places.{Headed, said_by}
use Rattle.giop_core.specs.Said.{IsSaid}
use Rattle.giop_link.specs.Hearing.{meaning_in}
use Rattle.giop_link.specs.Listening.{spoken}
use Rattle.giop_link.proofs.Lending.{heard-as, said-locate-request, said-request, unheard}
use Rattle.giop_link.proofs.Turns.{is-turn, turn_by}
use Rattle.giop_link.proofs.inbound.spoken.Goals as goal

pub returns-in-Request-clause-told : goal.returns-in-Request-clause-told
returns-in-Request-clause-told c =
    let x = c.args.message.now in
    let m = request_of c.lend.result in
    let of = said-request x c.in-Request.request c.said.result c.said.ensures c.in-Request.is in
    let says = subst (λ (y : Headed). said_by y ≡ Ok m) of c.lend.ensures.says in
    ap (λ (h : Header). spoken (meaning_in h.version m)) c.header-version.ensures.header ∙ sym (ap spoken (heard-as meaning_in x m says))

pub returns-in-LocateRequest-clause-told : goal.returns-in-LocateRequest-clause-told
returns-in-LocateRequest-clause-told c =
    let x = c.args.message.now in
    let m = locate_request_of c.lend-locate.result in
    let of = said-locate-request x c.in-LocateRequest.locate c.said.result c.said.ensures c.in-LocateRequest.is in
    let says = subst (λ (y : Headed). said_by y ≡ Ok m) of c.lend-locate.ensures in
    ap (λ (h : Header). spoken (meaning_in h.version m)) c.header-version.ensures.header ∙ sym (ap spoken (heard-as meaning_in x m says))

pub returns-in-Cancel-clause-told : goal.returns-in-Cancel-clause-told
returns-in-Cancel-clause-told c =
    let x = c.args.message.now in
    let says = (subst (IsSaid x) c.in-Cancel.is c.said.ensures).1 in
    sym (ap spoken (heard-as meaning_in x (cancel_of c.in-Cancel.cancel) says))

pub returns-in-Reply-clause-told : goal.returns-in-Reply-clause-told
returns-in-Reply-clause-told c =
    let x = c.args.message.now in
    let never : turn_by x.header.kind ≡ Ok None → ⊥ = search rules in
    sym (ap spoken (unheard meaning_in x (turn_by x.header.kind) c.header-version.ensures.valid (is-turn x.header.kind) never).1)
