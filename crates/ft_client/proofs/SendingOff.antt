-- Calls that were sent and wish for no reply are taken out one by one.
use Rattle.std.proofs.Common.{◌≡◌, ℕ, ℤ, ◌&&◌, not, Bool, true, false, List, is_some, refl, sym, ap, ◌∙◌}
use Rattle.ft_client.specs.declared.ended.Ended.{Ended as CodeEnded}
use Rattle.ft_client.specs.declared.pending.Pending.{Pending as CodePending}
use Rattle.ft_client.specs.Clients.{Client, Pending, is_unsettled, sent_off}
use Rattle.ft_client.specs.Keeping.{Kept, kept_by, kept_of}
use Rattle.ft_client.specs.Messages.{is_oneway, wish_of}
use Rattle.ft_client.specs.Private.{CallsStand}
use Rattle.ft_client.proofs.Leaving.{AllStay, leaves}

-- some of them have been taken out: what is left to be done is the same
pub record IsEnding (n : ℕ) (qs : List CodePending) (cs : List (ℤ × CodeEnded)) (m : Client) : Type 0 where
  pub left : Client
  pub stands : CallsStand qs cs left
  pub same : sent_off left ≡ sent_off m
  pub stay : AllStay is_unsettled n left.pending

not_not : (b : Bool) → not (not b) ≡ b
not_not true = refl
not_not false = refl

-- whether a call leaves, by what the code sees of it
pub leaves_by : (m : Client) (x : CodePending) (p : Pending) (b : Bool) → kept_by x ≡ kept_of m.version m.client_id p → (is_oneway x.wish && is_some x.sent) ≡ b → leaves is_unsettled p ≡ b
leaves_by m x p b k e =
    not_not (is_oneway (wish_of p.call.form) && is_some p.sent) ∙ sym (ap (λ (y : Kept). is_oneway y.wish && is_some y.sent) k) ∙ e
