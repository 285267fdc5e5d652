-- A call that is cancelled.
use Rattle.std.proofs.Common.{◌≡◌, ◌≢◌, ℕ, zero, suc, ◌<◌, true, false, cond, if◌then◌else◌, List, [], ◌∷◌, ◌++◌, length, slice_get, slice_index_or, Option, Some, None, refl, sym, ap, ◌∙◌, subst, arith}
use Rattle.std.specs.List.{remove}
use Rattle.std.specs.Option.{is_some}
use Rattle.giop_core.specs.declared.header.Version.{Version}
use Rattle.std.proofs.lemmas.List.{append-nil}
use Rattle.giop_link.specs.ClientLinking.{ClientLinked, cancel_octets}
use Rattle.giop_link.specs.Ids.{given_up, is_outstanding}
use Rattle.ft_client.specs.declared.client.FtClient.{FtClient}
use Rattle.ft_client.specs.Clients.{Cancelled, Client, Linked, Pending, completed, recalled, says_recalled, withdrawn, without}
use Rattle.ft_client.specs.Directions.{stream}
use Rattle.ft_client.specs.Messages.{octets_said}
use Rattle.ft_client.specs.Standing.{FtStands, IsLinked, LinkFor, sent_ids}
use Rattle.ft_client.proofs.Joining.{is_linked, unlinked}
use Rattle.ft_client.proofs.Withdrawing.{link_without, none_sent, outstanding_is, removed_unsent, same_link_without}

pub get_is : {A : Type 0} (xs : List A) (i : ℕ) (x d : A) → slice_get xs i ≡ Some x → slice_index_or xs i d ≡ x
get_is [] i x d e = cc
get_is (y ∷ xs) zero x d e = cc
get_is (y ∷ xs) (suc i) x d e = get_is xs i x d e

pub get_there : {A : Type 0} (xs : List A) (i : ℕ) (d : A) → i < length xs → slice_get xs i ≡ Some (slice_index_or xs i d)
get_there [] i d lt = absurd (omega arith)
get_there (y ∷ xs) zero d lt = refl
get_there (y ∷ xs) (suc i) d lt = get_there xs i d (omega arith)

-- what is left of a link, and what is written
pub record IsWithdrawn (m : Client) (p : Pending) (new : Option ClientLinked) (out after : List ℕ) : Type 0 where
  pub link : LinkFor new (completed p.id Cancelled m) m.link
  pub written : after ≡ out ++ stream octets_said (withdrawn m.version p.sent)

nothing_written : (m : Client) (p : Pending) (out after : List ℕ) → p.sent ≡ None → after ≡ out → after ≡ out ++ stream octets_said (withdrawn m.version p.sent)
nothing_written m p out after none is = is ∙ sym (append-nil out) ∙ ap (λ o. out ++ stream octets_said (withdrawn m.version o)) (sym none)

pub is_withdrawn : (m : Client) (p : Pending) (i : ℕ) (old new : Option ClientLinked) (sent : Option ℕ) (out after : List ℕ) → LinkFor old m m.link → slice_get m.pending i ≡ Some p → remove m.pending i ≡ without p.id m.pending → sent ≡ p.sent
    → (sent ≡ None → (new ≡ old) × (after ≡ out)) → (old ≡ None → (new ≡ None) × (after ≡ out))
    → ((l : ClientLinked) (r : ℕ) → old ≡ Some l → sent ≡ Some r → (new ≡ Some (record l { ids = given_up r l.ids })) × (after ≡ out ++ (if is_outstanding r l.ids.outstanding then cancel_octets l.terms.version r else [])))
    → IsWithdrawn m p new out after
is_withdrawn m p i None new sent out after h at left es unsent gone did =
    let u = gone refl in
    let n = unlinked m m.link h in
    let none = none_sent m.pending i p at n.1 in
    let empty : sent_ids (without p.id m.pending) ≡ [] = sym (ap sent_ids left) ∙ removed_unsent m.pending i p at none ∙ n.1 in
    record {
      link = subst (λ o. LinkFor new (completed p.id Cancelled m) o) (sym n.0) (subst (λ o. LinkFor o (completed p.id Cancelled m) None) (sym u.0) empty);
      written = nothing_written m p out after none u.1;
    }
is_withdrawn m p i (Some l0) new sent out after h at left es unsent gone did =
    let there = is_linked l0 m m.link h in
    by_sent p.sent refl there
  where
    to_link : (l : Linked) (l1 : ClientLinked) → m.link ≡ Some l → new ≡ Some l1 → IsLinked l1 (completed p.id Cancelled m) l → LinkFor new (completed p.id Cancelled m) m.link
    to_link l l1 em en k = subst (λ o. LinkFor new (completed p.id Cancelled m) o) (sym em) (subst (λ o. LinkFor o (completed p.id Cancelled m) (Some l)) (sym en) k)

    by_sent : (o : Option ℕ) → p.sent ≡ o → ((l : Linked) × (m.link ≡ Some l) × IsLinked l0 m l) → IsWithdrawn m p new out after
    by_sent None is there =
        let u = unsent (es ∙ is) in
        record { link = to_link there.0 l0 there.1 u.0 (same_link_without m there.0 l0 i p Cancelled there.2 at is left); written = nothing_written m p out after is u.1 }
    by_sent (Some r) is there =
        let l = there.0 in
        let k = there.2 in
        let d = did l0 r refl (es ∙ is) in
        let yes = outstanding_is m l l0 r i p k at is in
        record {
          link = to_link l (record l0 { ids = given_up r l0.ids }) there.1 d.0 (link_without m l l0 (record l0 { ids = given_up r l0.ids }) r i p Cancelled k at is left refl);
          written = d.1 ∙ ap (λ b. out ++ cond b (cancel_octets l0.terms.version r) []) yes ∙ ap (λ t. out ++ cancel_octets t.version r) k.stands.terms_are ∙ ap (λ x. out ++ x) (sym (append-nil (cancel_octets m.version r)))
              ∙ ap (λ o. out ++ stream octets_said (withdrawn m.version o)) (sym is);
        }

pub recalled_stands : (d : FtClient) (m : Client) (o : Option Pending) (p : Pending) → o ≡ Some p → FtStands d (completed p.id Cancelled m) → FtStands d (recalled o m)
recalled_stands d m o p is h = subst (λ x. FtStands d (recalled x m)) (sym is) h

-- a call that was sent is withdrawn by a word
withdrawn_said : (version : Version) (o : Option ℕ) → is_some o ≡ true → withdrawn version o ≢ []
withdrawn_said version None e none = absurd (let k : false ≡ true = e in cc)
withdrawn_said version (Some r) e none = cc

pub recalled_said : (version : Version) (o : Option Pending) (p : Pending) (sent : Option ℕ) → o ≡ Some p → sent ≡ p.sent → is_some sent ≡ true → says_recalled version o ≢ []
recalled_said version o p sent is es some none = withdrawn_said version p.sent (sym (ap is_some es) ∙ some) (sym (ap (says_recalled version) is) ∙ none)
