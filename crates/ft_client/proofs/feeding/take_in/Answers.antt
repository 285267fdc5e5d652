use Rattle.std.proofs.Common.{◌≡◌, List, Some, None, map, refl, sym, ap, ◌∙◌, subst}
use Rattle.std.specs.Option.{option_map}
use Rattle.giop_link.specs.ClientLinking.{Delivered, delivered_at}
use Rattle.giop_link.specs.Hearing.{Sound}
use Rattle.ft_client.specs.declared.pending.Pending.{Pending as CodePending}
use Rattle.ft_client.specs.Ends.{body_of, ended_of}
use Rattle.ft_client.specs.Keeping.{Kept, kept_by}
use Rattle.ft_client.specs.Private.{CallsStand, answered_by, held_back, left_as, left_in, reply_as, reply_in}
use Rattle.ft_client.proofs.Models.{written_over}
use Rattle.ft_client.proofs.Settled.{held_stands, taken_by}
use Rattle.ft_client.proofs.feeding.take_in.Goals as goal
use Rattle.ft_client.proofs.feeding.take_in.Goals.{in-Some-2, in_default-2+in_ok-request_id-2+in-Some-3, in_default-2+in_ok-request_id-2+in_default-3}

abbrev each : List CodePending → List Kept
each ps = map kept_by ps

pub returns-clause-stands : goal.returns-clause-stands
returns-clause-stands c = λ m keeps leads st.
    let o = c.args.link.now.delivery in
    let d : Sound Delivered = delivered_at c.in-Some.delivery in
    let lent : o ≡ Some d = sym c.delivery.ensures.lent ∙ ap (option_map delivered_at) c.in-Some.is in
    elim c.match-branch-2.branch [
      | in-Some-2 w ↦
          let r = w.in-Some-2.request_id in
          let led = option_map body_of w.in-Some-2.led in
          let left : left_in c.args.keeps c.args.leads d ≡ Some (r, led) = sym c.in_ok-request_id.ensures ∙ ap (option_map left_as) w.in-Some-2.is in
          let kept = ap (λ v. each v.items) w.pending-is
          ∙ ap each (written_over w.put_off.new.pending c.args.pending.now.items _ (w.put_off.ensures.len ∙ w.deref_mut.ensures.len)) ∙ w.put_off.ensures.kept m (ap each w.deref_mut.ensures.value ∙ st.pending_are) in
          subst (λ n. CallsStand c.match-branch-2.pending.items c.match-branch-2.completions.items n)
          (sym (taken_by o d m c.args.keeps c.args.leads (Some (r, led)) (reply_in d) lent keeps leads left refl))
          (subst (λ v. CallsStand c.match-branch-2.pending.items v.items (held_back r led m)) (sym w.completions-is) (held_stands r led c.match-branch-2.pending.items c.args.completions.now.items m kept st.completions_are st.rising))
      | in_default-2+in_ok-request_id-2+in-Some-3 w ↦
          let r = w.in-Some-3.request_id in
          let e = ended_of w.in-Some-3.ended in
          let left : left_in c.args.keeps c.args.leads d ≡ None = sym c.in_ok-request_id.ensures ∙ ap (option_map left_as) w.in_default-2.is in
          let reply : reply_in d ≡ Some (r, e) = sym w.in_ok-request_id-2.ensures ∙ ap (option_map reply_as) w.in-Some-3.is in
          subst (λ n. CallsStand c.match-branch-2.pending.items c.match-branch-2.completions.items n)
          (sym (taken_by o d m c.args.keeps c.args.leads None (Some (r, e)) lent keeps leads left reply))
          (subst (λ v. CallsStand v.items c.match-branch-2.completions.items (answered_by None (Some (r, e)) m)) (sym w.pending-is) (subst (λ v. CallsStand w.settle.new.pending.items v.items (answered_by None (Some (r, e)) m)) (sym w.completions-is) (w.settle.ensures.stands m st)))
      | in_default-2+in_ok-request_id-2+in_default-3 w ↦
          let left : left_in c.args.keeps c.args.leads d ≡ None = sym c.in_ok-request_id.ensures ∙ ap (option_map left_as) w.in_default-2.is in
          let reply : reply_in d ≡ None = sym w.in_ok-request_id-2.ensures ∙ ap (option_map reply_as) w.in_default-3.is in
          subst (λ n. CallsStand c.match-branch-2.pending.items c.match-branch-2.completions.items n)
          (sym (taken_by o d m c.args.keeps c.args.leads None None lent keeps leads left reply))
          (subst (λ v. CallsStand v.items c.match-branch-2.completions.items m) (sym w.pending-is) (subst (λ v. CallsStand c.args.pending.now.items v.items m) (sym w.completions-is) st))
    ]
