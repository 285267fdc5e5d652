use Rattle.std.proofs.Common.{rules, ◌≡◌, ◌++◌, IfErr, OnOk, ℕ, List, [], ◌∷◌, subst, sym}
use Rattle.giop_core.specs.Content.{Rest}
use Rattle.giop_core.specs.Lent.{rest_of}
use Rattle.giop_core.specs.Written.{octets_body}
use Rattle.giop_core.specs.declared.header.Version.TheVariants.{V12}
use Rattle.giop_core.specs.declared.request.ReplyWish.TheVariants.{Full}
use Rattle.ft_client.specs.Calling.{IsRawCallError}
use Rattle.ft_client.specs.Clients.{Called, Client, after, says}
use Rattle.ft_client.specs.Directions.{stream}
use Rattle.ft_client.specs.Messages.{Call, octets_said, raw}
use Rattle.ft_client.specs.Standing.{FtStands, down}
use Rattle.uses.proofs.handing.hand_on.Goals as goal

-- a call that is handed on until a moment
abbrev until : (key operation code_sets : List ℕ) → Rest → ℕ → Call
until key operation code_sets body moment = record {
  object_key = key;
  operation = operation;
  arguments = octets_body body.octets;
  expiration = moment;
  form = raw (record { version = V12; order = body.order; wish = Full; contexts = (1, code_sets) ∷ []; place = body.place });
}

-- src/handing.rt:23:1
pub returns-clause-stands : goal.returns-clause-stands
returns-clause-stands c =
    let call = until c.args.object_key.now c.args.operation.now c.args.code_sets.now (rest_of c.args.body) in
    subst (λ e. OnOk c.call_raw.result ((m : Client) → FtStands c.args.client.now m → FtStands c.call_raw.new.self (after (down m.limits) (Called c.args.now (call e)) m))) c.saturating_add.ensures c.call_raw.ensures.stands

-- src/handing.rt:23:1
pub returns-clause-out : goal.returns-clause-out
returns-clause-out c =
    let call = until c.args.object_key.now c.args.operation.now c.args.code_sets.now (rest_of c.args.body) in
    subst (λ e. OnOk c.call_raw.result ((m : Client) → FtStands c.args.client.now m → c.call_raw.new.out.items ≡ c.args.out.now.items ++ stream octets_said (says (Called c.args.now (call e)) m))) c.saturating_add.ensures c.call_raw.ensures.out

-- src/handing.rt:23:1
pub returns-clause-err : goal.returns-clause-err
returns-clause-err c =
    let call = until c.args.object_key.now c.args.operation.now c.args.code_sets.now (rest_of c.args.body) in
    subst (λ e. IfErr c.call_raw.result (λ why. (m : Client) → FtStands c.args.client.now m → IsRawCallError c.args.now (call e) m why)) c.saturating_add.ensures c.call_raw.ensures.err
