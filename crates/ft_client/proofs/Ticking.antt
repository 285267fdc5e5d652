-- Calls that are past their expiration are taken out one by one.
use Rattle.std.proofs.Common.{◌≡◌, ℕ, ◌<◌, ◌≤◌, nat_le, Bool, true, false, not, List, [], slice_get, Option, Some, None, refl, sym, ap, ◌∙◌, subst, arith}
use Rattle.std.specs.List.{remove}
use Rattle.std.proofs.lemmas.Bool.Decides.{nat_tests}
use Rattle.giop_link.specs.ClientLinking.{ClientLinked}
use Rattle.giop_link.specs.Ids.{given_up}
use Rattle.ft_client.specs.declared.client.FtClient.{FtClient}
use Rattle.ft_client.specs.Clients.{Client, Ended, Expired, Linked, Pending, completed, is_in_time, without}
use Rattle.ft_client.specs.Standing.{FtStands, IsLinked, LinkFor, sent_ids}
use Rattle.ft_client.proofs.Joining.{is_linked, unlinked}
use Rattle.ft_client.proofs.Leaving.{AllStay, leaves, left_by}
use Rattle.ft_client.proofs.Withdrawing.{link_without, none_sent, removed_unsent, same_link_without}

abbrev pub is_late : ℕ → Pending → Bool
is_late now p = leaves (is_in_time now) p

-- the first so many are in time
abbrev pub AreInTime : ℕ → ℕ → List Pending → Type 0
AreInTime now n ps = AllStay (is_in_time now) n ps

-- a client at a moment
abbrev pub ticked : ℕ → Client → Client
ticked now m = left_by (is_in_time now) Expired m

-- some of the late calls have been taken out: what is left to be done is the same
pub record IsTicking (now n : ℕ) (c : FtClient) (m : Client) : Type 0 where
  pub left : Client
  pub stands : FtStands c left
  pub same : ticked now left ≡ ticked now m
  pub in_time : AreInTime now n left.pending

pub in_time_is : (now e : ℕ) → now ≤ e → not (nat_le now e) ≡ false
in_time_is now e le = grind (arith, nat_tests)

pub late_is : (now e : ℕ) → e < now → not (nat_le now e) ≡ true
late_is now e lt = grind (arith, nat_tests)

-- the link of a client from which a call was taken, and its id given up
pub link_given_up : (m : Client) (p : Pending) (n : ℕ) (ended : Ended) (old new : Option ClientLinked) (sent : Option ℕ) → LinkFor old m m.link → slice_get m.pending n ≡ Some p → remove m.pending n ≡ without p.id m.pending → sent ≡ p.sent
    → (sent ≡ None → new ≡ old) → (old ≡ None → new ≡ None) → ((l : ClientLinked) (r : ℕ) → old ≡ Some l → sent ≡ Some r → new ≡ Some (record l { ids = given_up r l.ids })) → LinkFor new (completed p.id ended m) m.link
link_given_up m p n ended None new sent h at left es unsent gone did =
    let u = unlinked m m.link h in
    let none = none_sent m.pending n p at u.1 in
    let empty : sent_ids (without p.id m.pending) ≡ [] = sym (ap sent_ids left) ∙ removed_unsent m.pending n p at none ∙ u.1 in
    subst (λ o. LinkFor new (completed p.id ended m) o) (sym u.0) (subst (λ o. LinkFor o (completed p.id ended m) None) (sym (gone refl)) empty)
link_given_up m p n ended (Some l0) new sent h at left es unsent gone did = by_sent p.sent refl (is_linked l0 m m.link h)
  where
    to_link : (l : Linked) (l1 : ClientLinked) → m.link ≡ Some l → new ≡ Some l1 → IsLinked l1 (completed p.id ended m) l → LinkFor new (completed p.id ended m) m.link
    to_link l l1 em en k = subst (λ o. LinkFor new (completed p.id ended m) o) (sym em) (subst (λ o. LinkFor o (completed p.id ended m) (Some l)) (sym en) k)

    by_sent : (o : Option ℕ) → p.sent ≡ o → ((l : Linked) × (m.link ≡ Some l) × IsLinked l0 m l) → LinkFor new (completed p.id ended m) m.link
    by_sent None is there = to_link there.0 l0 there.1 (unsent (es ∙ is)) (same_link_without m there.0 l0 n p ended there.2 at is left)
    by_sent (Some r) is there =
        let l1 = record l0 { ids = given_up r l0.ids } in
        to_link there.0 l1 there.1 (did l0 r refl (es ∙ is)) (link_without m there.0 l0 l1 r n p ended there.2 at is left refl)
