use Rattle.std.proofs.Common.{◌≡◌, ◌<◌, ◌&&◌, ◌++◌, pos, List, [], ◌∷◌, length, map, slice_index_or, Bool, true, false, is_some, refl, sym, ap, ◌∙◌, subst, arith, add-one}
use Rattle.std.specs.List.{remove}
use Rattle.ft_client.specs.declared.ended.Ended.TheVariants as code
use Rattle.ft_client.specs.declared.pending.Pending.{Pending as CodePending}
use Rattle.ft_client.specs.Clients.{Pending, Sent, completed, is_unsettled}
use Rattle.ft_client.specs.Ends.{completion_of, numbered}
use Rattle.ft_client.specs.Keeping.{Kept, kept_by, kept_of}
use Rattle.ft_client.specs.Messages.{is_oneway}
use Rattle.ft_client.specs.Private.{CallsStand}
use Rattle.ft_client.proofs.Cancelling.{get_is, get_there}
use Rattle.ft_client.proofs.Joining.{map_push}
use Rattle.ft_client.proofs.Leaving.{AllStay, leaves, left_is, left_without, nobody, one_more_stays, stay_without}
use Rattle.ft_client.proofs.Living.{without-rising}
use Rattle.ft_client.proofs.Places.{at_both, found_at, map_remove, same_length}
use Rattle.ft_client.proofs.SendingOff.{leaves_by}
use Rattle.ft_client.proofs.ending.end_sent.Goals as goal
use Rattle.ft_client.proofs.ending.end_sent.Goals.{else-is_oneway-via-else-is_oneway, else-is_oneway-via-then-is_oneway+else-is_some}

pub loop-place-init : goal.loop-place-init
loop-place-init c = record { room = c.requires; few = omega arith; ending = λ m st. record { left = m; stands = st; same = refl; stay = λ j lt. absurd (omega (arith, lt)) } }

pub loop-place-preserved-then-is_some : goal.loop-place-preserved-then-is_some
loop-place-preserved-then-is_some c =
    let l = c.loop-place in
    let h = c.complete.ensures in
    let len = h.len in
    let more = h.more in
    let capacity = h.capacity in
    let was = l.invariant.room in
    let less = l.invariant.few in
    record {
      room = omega (arith, len, more, capacity, was);
      few = omega (arith, len, less);
      ending = λ m st.
          let t = l.invariant.ending m st in
          let a = t.left in
          let ps = l.pending.items in
          let place = l.place in
          let d = c.index.result.now in
          let d2 = c.index-then-is_oneway.result.now in
          let lt : place < length ps = omega arith in
          let x = slice_index_or ps place d in
          let n = same_length kept_by (kept_of a.version a.client_id) ps a.pending t.stands.pending_are in
          let k0 : kept_by x ≡ kept_of a.version a.client_id (slice_index_or a.pending place nobody) = at_both a.version a.client_id ps a.pending place d nobody t.stands.pending_are lt in
          let wish : is_oneway x.wish ≡ true = ap (λ (y : CodePending). is_oneway y.wish) (sym c.index.ensures) ∙ sym c.is_oneway.ensures ∙ c.if-is_oneway.true in
          let same : d2 ≡ x = c.index-then-is_oneway.ensures ∙ get_is ps place x d2 (get_there ps place d lt) in
          let sent : is_some x.sent ≡ true = ap (λ (y : CodePending). is_some y.sent) (sym same) ∙ sym c.is_some.ensures ∙ c.if-is_some.true in
          let here : leaves is_unsettled (slice_index_or a.pending place nobody) ≡ true = leaves_by a x (slice_index_or a.pending place nobody) true k0 (λ i. wish i && sent i) in
          let f = found_at (leaves is_unsettled) a.last a.pending place nobody (omega (arith, lt, n)) here t.stay t.stands.rising in
          let p = f.call in
          let k : kept_by x ≡ kept_of a.version a.client_id p = k0 ∙ ap (λ (q : Pending). kept_of a.version a.client_id q) (get_is a.pending place p nobody f.at) in
          let xid : x.id ≡ pos p.id = ap (λ (y : Kept). y.id) k in
          record {
            left = completed p.id Sent a;
            stands = record {
              pending_are = ap (λ (qs : List CodePending). map kept_by qs) h.pending ∙ map_remove kept_by ps place ∙ ap (λ (ks : List Kept). remove ks place) t.stands.pending_are ∙ sym (map_remove (kept_of a.version a.client_id) a.pending place) ∙ ap (λ (qs : List Pending). map (kept_of a.version a.client_id) qs) f.left;
              completions_are = ap (λ cs. map completion_of cs) (h.ended x (get_there ps place d lt)) ∙ map_push completion_of l.completions.items (x.id, code.Sent) ∙ (λ i. t.stands.completions_are i ++ (xid i, Sent) ∷ []) ∙ sym (map_push numbered a.completions (p.id, Sent));
              rising = without-rising a.last p.id a.pending t.stands.rising;
            };
            same = left_without is_unsettled Sent place a p t.stay f.at f.holds f.left ∙ t.same;
            stay = subst (λ (qs : List Pending). AllStay is_unsettled place qs) f.left (stay_without is_unsettled place a.pending t.stay);
          };
    }

pub loop-place-preserved : goal.loop-place-preserved
loop-place-preserved c =
    let l = c.loop-place in
    record {
      room = l.invariant.room;
      few = l.invariant.few;
      ending = λ m st.
          let t = l.invariant.ending m st in
          let a = t.left in
          let ps = l.pending.items in
          let place = l.place in
          let d = c.index.result.now in
          let lt : place < length ps = omega arith in
          let x = slice_index_or ps place d in
          let k0 : kept_by x ≡ kept_of a.version a.client_id (slice_index_or a.pending place nobody) = at_both a.version a.client_id ps a.pending place d nobody t.stands.pending_are lt in
          let wish : is_oneway x.wish ≡ c.is_oneway.result = ap (λ (y : CodePending). is_oneway y.wish) (sym c.index.ensures) ∙ sym c.is_oneway.ensures in
          let not_both : (is_oneway x.wish && is_some x.sent) ≡ false = elim c.else-is_oneway.branch [
            | else-is_oneway-via-then-is_oneway+else-is_some w ↦
                let d2 = w.index-then-is_oneway.result.now in
                let same : d2 ≡ x = w.index-then-is_oneway.ensures ∙ get_is ps place x d2 (get_there ps place d lt) in
                let sent : is_some x.sent ≡ false = ap (λ (y : CodePending). is_some y.sent) (sym same) ∙ sym w.is_some.ensures ∙ w.if-is_some.false in
                and-none (is_oneway x.wish) (is_some x.sent) sent
            | else-is_oneway-via-else-is_oneway w ↦ ap (λ b. b && is_some x.sent) (wish ∙ w.if-is_oneway.false)
          ] in
          let here : leaves is_unsettled (slice_index_or a.pending place nobody) ≡ false = leaves_by a x (slice_index_or a.pending place nobody) false k0 not_both in
          record { left = a; stands = t.stands; same = t.same; stay = rw add-one (one_more_stays is_unsettled place a.pending t.stay here) };
    }
  where
    and-none : (a b : Bool) → b ≡ false → (a && b) ≡ false
    and-none true b e = e
    and-none false b e = refl

pub returns-clause-stands : goal.returns-clause-stands
returns-clause-stands c = λ m st.
    let l = c.loop-place in
    let t = l.invariant.ending m st in
    let n = same_length kept_by (kept_of t.left.version t.left.client_id) l.pending.items t.left.pending t.stands.pending_are in
    let all = left_is is_unsettled Sent l.place t.left t.stay (omega (arith, n)) in
    subst (λ x. CallsStand l.pending.items l.completions.items x) (sym all ∙ t.same) t.stands
