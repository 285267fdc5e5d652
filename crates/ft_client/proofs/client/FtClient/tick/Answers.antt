use Rattle.std.proofs.Common.{◌≡◌, ◌<◌, ◌++◌, pos, List, [], ◌∷◌, length, map, not, nat_le, slice_index_or, true, false, refl, sym, ap, ◌∙◌, subst, arith, add-one}
use Rattle.std.specs.List.{remove}
use Rattle.ft_client.specs.declared.ended.Ended.TheVariants as code
use Rattle.ft_client.specs.declared.pending.Pending.{Pending as CodePending}
use Rattle.ft_client.specs.Clients.{Expired, Pending, completed, is_in_time}
use Rattle.ft_client.specs.Ends.{completion_of, numbered}
use Rattle.ft_client.specs.Keeping.{Kept, kept_by, kept_of}
use Rattle.ft_client.specs.Standing.{FtStands}
use Rattle.ft_client.proofs.Cancelling.{get_is, get_there}
use Rattle.ft_client.proofs.Ticking.{AreInTime, in_time_is, is_late, late_is, link_given_up}
use Rattle.ft_client.proofs.Joining.{map_push}
use Rattle.ft_client.proofs.Living.{without-rising}
use Rattle.ft_client.proofs.Leaving.{left_is, left_without, nobody, one_more_stays, stay_without}
use Rattle.ft_client.proofs.Places.{at_both, found_at, map_remove, same_length}
use Rattle.ft_client.proofs.client.FtClient.tick.Goals as goal

pub loop-place-init : goal.loop-place-init
loop-place-init c = λ m st. record { left = m; stands = st; same = refl; in_time = λ j lt. absurd (omega (arith, lt)) }

pub loop-place-smaller-then-now-index : goal.loop-place-smaller-then-now-index
loop-place-smaller-then-now-index c = omega arith

pub loop-place-preserved-then-now-index : goal.loop-place-preserved-then-now-index
loop-place-preserved-then-now-index c = λ m st.
    let l = c.loop-place in
    let t = l.invariant m st in
    let ps = l.self.pending.items in
    let d = c.index.result.now in
    let lt : l.place < length ps = omega arith in
    let k : kept_by (slice_index_or ps l.place d) ≡ kept_of t.left.version t.left.client_id (slice_index_or t.left.pending l.place nobody) = at_both t.left.version t.left.client_id ps t.left.pending l.place d nobody t.stands.fields.pending lt in
    let e : d.expiration ≡ (slice_index_or t.left.pending l.place nobody).call.expiration = ap (λ (x : CodePending). x.expiration) c.index.ensures ∙ ap (λ (x : Kept). x.expiration) k in
    let here : is_late c.args.now (slice_index_or t.left.pending l.place nobody) ≡ false = ap (λ x. not (nat_le c.args.now x)) (sym e) ∙ in_time_is c.args.now d.expiration c.if-now-index.true in
    record { left = t.left; stands = t.stands; same = t.same; in_time = rw add-one (one_more_stays (is_in_time c.args.now) l.place t.left.pending t.in_time here) }

pub loop-place-smaller : goal.loop-place-smaller
loop-place-smaller c = let len = c.complete.ensures.len in omega (arith, len)

pub loop-place-preserved : goal.loop-place-preserved
loop-place-preserved c = λ m st.
    let l = c.loop-place in
    let t = l.invariant m st in
    let a = t.left in
    let s = l.self in
    let place = l.place in
    let d = c.index.result.now in
    let d2 = c.index-in-loop-place.result.now in
    let lt : place < length s.pending.items = omega arith in
    let x = slice_index_or s.pending.items place d in
    let n = same_length kept_by (kept_of a.version a.client_id) s.pending.items a.pending t.stands.fields.pending in
    let k0 : kept_by x ≡ kept_of a.version a.client_id (slice_index_or a.pending place nobody) = at_both a.version a.client_id s.pending.items a.pending place d nobody t.stands.fields.pending lt in
    let e : d.expiration ≡ (slice_index_or a.pending place nobody).call.expiration = ap (λ (y : CodePending). y.expiration) c.index.ensures ∙ ap (λ (y : Kept). y.expiration) k0 in
    let here : is_late c.args.now (slice_index_or a.pending place nobody) ≡ true = ap (λ y. not (nat_le c.args.now y)) (sym e) ∙ late_is c.args.now d.expiration c.if-now-index.false in
    let f = found_at (is_late c.args.now) a.last a.pending place nobody (omega (arith, lt, n)) here t.in_time t.stands.fields.rising in
    let p = f.call in
    let k : kept_by x ≡ kept_of a.version a.client_id p = k0 ∙ ap (λ (q : Pending). kept_of a.version a.client_id q) (get_is a.pending place p nobody f.at) in
    let k2 : kept_by (slice_index_or s.pending.items place d2) ≡ kept_of a.version a.client_id p = at_both a.version a.client_id s.pending.items a.pending place d2 nobody t.stands.fields.pending lt ∙ ap (λ (q : Pending). kept_of a.version a.client_id q) (get_is a.pending place p nobody f.at) in
    let sent : d2.sent ≡ p.sent = ap (λ (y : CodePending). y.sent) c.index-in-loop-place.ensures ∙ ap (λ (y : Kept). y.sent) k2 in
    let h = c.give_up.ensures in
    let xid : x.id ≡ pos p.id = ap (λ (y : Kept). y.id) k in
    record {
      left = completed p.id Expired a;
      stands = record {
        fields = record {
          client_id = t.stands.fields.client_id;
          version = t.stands.fields.version;
          limits = t.stands.fields.limits;
          last = t.stands.fields.last;
          pending = ap (λ (ps : List CodePending). map kept_by ps) c.complete.ensures.pending ∙ map_remove kept_by s.pending.items place ∙ ap (λ (ks : List Kept). remove ks place) t.stands.fields.pending ∙ sym (map_remove (kept_of a.version a.client_id) a.pending place) ∙ ap (λ (ps : List Pending). map (kept_of a.version a.client_id) ps) f.left;
          completions = ap (λ cs. map completion_of cs) (c.complete.ensures.ended x (get_there s.pending.items place d lt)) ∙ map_push completion_of s.completions.items (x.id, code.Expired) ∙ (λ i. t.stands.fields.completions i ++ (xid i, Expired) ∷ []) ∙ sym (map_push numbered a.completions (p.id, Expired));
          rising = without-rising a.last p.id a.pending t.stands.fields.rising;
          keeps = t.stands.fields.keeps;
          forwards = t.stands.fields.forwards;
        };
        link = link_given_up a p place Expired s.link c.give_up.new.link d2.sent t.stands.link f.at f.left sent h.unsent h.unlinked h.sent;
      };
      same = left_without (is_in_time c.args.now) Expired place a p t.in_time f.at f.holds f.left ∙ t.same;
      in_time = subst (λ (ps : List Pending). AreInTime c.args.now place ps) f.left (stay_without (is_in_time c.args.now) place a.pending t.in_time);
    }

pub returns : goal.returns
returns c = λ m st.
    let l = c.loop-place in
    let t = l.invariant m st in
    let n = same_length kept_by (kept_of t.left.version t.left.client_id) l.self.pending.items t.left.pending t.stands.fields.pending in
    let all = left_is (is_in_time c.args.now) Expired l.place t.left t.in_time (omega (arith, n)) in
    subst (λ x. FtStands l.self x) (sym all ∙ t.same) t.stands
