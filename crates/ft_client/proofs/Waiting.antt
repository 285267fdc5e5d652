-- What waits on a link is not sent again there.
use Rattle.std.proofs.Common.{◌≡◌, ◌≢◌, ℕ, suc, ◌<◌, ◌&&◌, nat_le, nat_lt, not, is_some, Bool, true, false, cond, List, [], ◌∷◌, Option, Some, None, refl, sym, ◌∙◌, subst, arith}
use Rattle.std.specs.List.{AllByRecursion}
use Rattle.std.proofs.lemmas.Bool.{and_parts, true≢false}
use Rattle.giop_core.specs.declared.header.Version.{Version}
use Rattle.ft_client.specs.Clients.{Client, Linked, Pending, is_due, says_again, says_resent, transmission_to}
use Rattle.ft_client.specs.Laws.{WaitingIsNotResent}
use Rattle.ft_client.specs.Lives.{AreRising, sent_at}
use Rattle.ft_client.specs.Messages.{Asked}
use Rattle.ft_client.proofs.Living.{calls-complete-once, each-weaker}

-- what is sent on a link is not due there
is_unsent : (b : Bool) → not b ≡ true → b ≡ false
is_unsent true is = sym is
is_unsent false is = refl

due-unsent : (now n : ℕ) (p : Pending) → is_due now n p ≡ true → is_some p.sent ≡ false
due-unsent now n p is = is_unsent (is_some p.sent) (and_parts (not (is_some p.sent)) (not (is_some p.led) && (nat_le now p.call.expiration && nat_lt n 2147483648)) is).0

-- where no unsent call has a number, no transmission has it
again-others : (version : Version) (client_id : List ℕ) (now n r : ℕ) (ps : List Pending) → AllByRecursion (λ q. is_some q.sent ≡ false → q.id ≢ r) ps → AllByRecursion (λ x. x.1.retention_id ≢ r) (sent_at now (says_again version client_id now n ps))
again-others version client_id now n r [] h = tt
again-others version client_id now n r (p ∷ ps) h =
    elim (is_due now n p) as (λ b. is_due now n p ≡ b
    → AllByRecursion (λ x. x.1.retention_id ≢ r) (sent_at now (cond b (Asked (transmission_to version client_id p.id (suc n) p.at p.call) ∷ says_again version client_id now (suc n) ps) (says_again version client_id now n ps)))) [
      | true ↦ λ due. (h.0 (due-unsent now n p due), again-others version client_id now (suc n) r ps h.1)
      | false ↦ λ late. again-others version client_id now n r ps h.1
    ] refl

each-both : {X : Type 0} (P Q R : X → Type 0) → ((x : X) → P x → Q x → R x) → (xs : List X) → AllByRecursion P xs → AllByRecursion Q xs → AllByRecursion R xs
each-both P Q R f [] h k = tt
each-both P Q R f (x ∷ xs) h k = (f x h.0 k.0, each-both P Q R f xs h.1 k.1)

-- no unsent call has the number of one that was sent
abbrev IsSentAlone : List Pending → Pending → Type 0
IsSentAlone ps p = is_some p.sent ≡ true → AllByRecursion (λ q. is_some q.sent ≡ false → q.id ≢ p.id) ps

sent-alone : (last : ℕ) (ps : List Pending) → AreRising last ps → AllByRecursion (IsSentAlone ps) ps
sent-alone last [] h = tt
sent-alone last (p ∷ ps) h = (
  λ sent. (
    λ unsent same. true≢false (sym sent ∙ unsent),
    each-weaker (λ q. p.id < q.id) (λ q. is_some q.sent ≡ false → q.id ≢ p.id) (λ q lt unsent same. absurd (omega (arith, lt, same))) ps h.1,
  ),
  each-both (λ q. p.id < q.id) (IsSentAlone ps) (IsSentAlone (p ∷ ps)) (λ q lt alone sent. (λ unsent same. absurd (omega (arith, lt, same)), alone sent)) ps h.1 (sent-alone last ps h.2),
)

resent-others : (now r : ℕ) (m : Client) (l : Option Linked) → AllByRecursion (λ q. is_some q.sent ≡ false → q.id ≢ r) m.pending → AllByRecursion (λ x. x.1.retention_id ≢ r) (sent_at now (says_resent now m l))
resent-others now r m None h = tt
resent-others now r m (Some l) h = again-others m.version m.client_id now l.given r m.pending h

pub waiting-is-not-resent : WaitingIsNotResent
waiting-is-not-resent client_id version limits down happenings now m is =
    let life = (calls-complete-once client_id version limits down happenings).alive.rising in
    let rising : AreRising m.last m.pending = subst (λ (c : Client). AreRising c.last c.pending) is life in
    each-weaker (IsSentAlone m.pending) (λ p. is_some p.sent ≡ true → AllByRecursion (λ x. x.1.retention_id ≢ p.id) (sent_at now (says_resent now m m.link))) (λ p alone sent. resent-others now p.id m m.link (alone sent)) m.pending (sent-alone m.last m.pending rising)
