-- What a trace stands for after octets of a side.
use Rattle.std.proofs.Common.{◌≡◌, ◌≤◌, ℕ, ◌++◌, List, [], ◌∷◌, length, Option, Some, None, Result, Ok, Err, IfOk, refl, sym, subst, arith}
use Rattle.giop_core.specs.Content.{Content}
use Rattle.giop_link.specs.Hearing.{Sound, says, ends}
use Rattle.giop_link.specs.Listening.{Listened, ListenerStands, heard_in, spoken_by}
use Rattle.giop_tap.specs.declared.sender.Sender.{Sender}
use Rattle.giop_tap.specs.declared.sender.Sender.TheVariants.{Opener, Acceptor}
use Rattle.giop_tap.specs.Pairing.{Said}
use Rattle.giop_tap.specs.Tracing.{IsLentLast, Paired, PairsStand, Talk, TraceStands, Traced, counts, news, said_after, talk_after}

-- three facts of an Ok give another
pub all : {E : Type 0} (r : Result ℕ E) (P Q S R : ℕ → Type 0) → ((n : ℕ) → P n → Q n → S n → R n) → IfOk r P → IfOk r Q → IfOk r S → IfOk r R
all (Ok n) P Q S R gives p q s = gives n p q s
all (Err e) P Q S R gives p q s = tt

-- of one message at most that octets bring, it is the latest
latest-said : (connection : ℕ) (sender : Sender) (ms : List Content) (earlier : List Said) → length ms ≤ 1 → IsLentLast connection (Some sender) ms (said_after connection sender ms earlier)
latest-said connection sender [] earlier one = tt
latest-said connection sender (m ∷ []) earlier one = refl
latest-said connection sender (m ∷ n ∷ ms) earlier one = absurd (omega arith)

-- a listener lends one message at most
lent-one : (l : Listened) (ms : List Content) → heard_in (spoken_by counts l.message) ≡ ms → length ms ≤ 1
lent-one l ms is = subst (λ (xs : List Content). length xs ≤ 1) is (one (spoken_by counts l.message))
  where
    one : (m : Option (Sound Content)) → length (heard_in m) ≤ 1
    one None = omega arith
    one (Some (says m)) = omega arith
    one (Some (ends e)) = omega arith

pub opener-fed : (x : Traced) (l : Listened) (p : Paired) (t : Talk) (octets : List ℕ) → TraceStands x t → ListenerStands counts x.limits l (t.opener ++ octets)
    → PairsStand p (said_after x.connection Opener (news x.limits t.opener octets) t.earlier)
    → heard_in (spoken_by counts l.message) ≡ news x.limits t.opener octets
    → TraceStands (record { limits = x.limits; connection = x.connection; opener = l; acceptor = x.acceptor; pairs = p; lends = Some Opener }) (talk_after x.limits Opener octets t)
opener-fed x l p t octets stands heard said brings = record {
  connection_is = stands.connection_is;
  opener_stands = heard;
  acceptor_stands = stands.acceptor_stands;
  pairs_stand = subst (λ (k : ℕ). PairsStand p (said_after k Opener (news x.limits t.opener octets) t.earlier)) stands.connection_is said;
  lent_is =
      subst (λ (ms : List Content). IsLentLast x.connection (Some Opener) ms (said_after t.connection Opener (news x.limits t.opener octets) t.earlier)) (sym brings)
      (subst (λ (k : ℕ). IsLentLast x.connection (Some Opener) (news x.limits t.opener octets) (said_after k Opener (news x.limits t.opener octets) t.earlier)) stands.connection_is
      (latest-said x.connection Opener (news x.limits t.opener octets) t.earlier (lent-one l (news x.limits t.opener octets) brings)));
}

pub acceptor-fed : (x : Traced) (l : Listened) (p : Paired) (t : Talk) (octets : List ℕ) → TraceStands x t → ListenerStands counts x.limits l (t.acceptor ++ octets)
    → PairsStand p (said_after x.connection Acceptor (news x.limits t.acceptor octets) t.earlier)
    → heard_in (spoken_by counts l.message) ≡ news x.limits t.acceptor octets
    → TraceStands (record { limits = x.limits; connection = x.connection; opener = x.opener; acceptor = l; pairs = p; lends = Some Acceptor }) (talk_after x.limits Acceptor octets t)
acceptor-fed x l p t octets stands heard said brings = record {
  connection_is = stands.connection_is;
  opener_stands = stands.opener_stands;
  acceptor_stands = heard;
  pairs_stand = subst (λ (k : ℕ). PairsStand p (said_after k Acceptor (news x.limits t.acceptor octets) t.earlier)) stands.connection_is said;
  lent_is =
      subst (λ (ms : List Content). IsLentLast x.connection (Some Acceptor) ms (said_after t.connection Acceptor (news x.limits t.acceptor octets) t.earlier)) (sym brings)
      (subst (λ (k : ℕ). IsLentLast x.connection (Some Acceptor) (news x.limits t.acceptor octets) (said_after k Acceptor (news x.limits t.acceptor octets) t.earlier)) stands.connection_is
      (latest-said x.connection Acceptor (news x.limits t.acceptor octets) t.earlier (lent-one l (news x.limits t.acceptor octets) brings)));
}
