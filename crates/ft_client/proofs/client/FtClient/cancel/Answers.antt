use Rattle.std.proofs.Common.{◌≡◌, ℤ, pos, List, [], ◌∷◌, ◌++◌, map, slice_index_or, Some, None, w32, ap, ◌∙◌, sym, subst}
use Rattle.std.specs.List.{position, remove}
use Rattle.std.specs.Option.{is_some}
use Rattle.std.specs.Ordering.{int_eq}
use Rattle.std.proofs.lemmas.Int.{to_z-of_z}
use Rattle.std.proofs.lemmas.List.{append-nil}
use Rattle.std.proofs.lemmas.List.Quantifiers.{position-Some}
use Rattle.ft_client.specs.declared.ended.Ended.TheVariants as code
use Rattle.ft_client.specs.declared.pending.Pending.{Pending as CodePending}
use Rattle.ft_client.specs.Clients.{Cancelled, Pending, find_pending, recalled, says_recalled}
use Rattle.ft_client.specs.Directions.{stream}
use Rattle.ft_client.specs.Ends.{completion_of, numbered}
use Rattle.ft_client.specs.Keeping.{Kept, kept_by, kept_of}
use Rattle.ft_client.specs.Messages.{octets_said}
use Rattle.ft_client.specs.Standing.{FtStands}
use Rattle.ft_client.proofs.Cancelling.{get_is, get_there, is_withdrawn, recalled_said, recalled_stands}
use Rattle.ft_client.proofs.Joining.{map_push}
use Rattle.ft_client.proofs.Living.{without-rising}
use Rattle.ft_client.proofs.Leaving.{nobody}
use Rattle.ft_client.proofs.Places.{at_both, find_is, found_kept, map_remove, none_there}
use Rattle.ft_client.proofs.Sent.{on_err_of}
use Rattle.ft_client.proofs.client.FtClient.cancel.Goals as goal

pub returns-in_default-clause-pending : goal.returns-in_default-clause-pending
returns-in_default-clause-pending c = λ m st.
    let s = c.args.self.now in
    let e : position (λ p. int_eq p.id c.args.id) s.pending.items ≡ None = ap (λ (ps : List CodePending). position (λ p. int_eq p.id c.args.id) ps) (sym c.as_slice.ensures.value) ∙ ap (λ (z : ℤ). position (λ (p : CodePending). int_eq p.id z) c.as_slice.result.now) (sym (to_z-of_z w32 c.args.id c.ranges.id)) ∙ sym c.place_of.ensures ∙ c.in_default.is in
    let find : find_pending c.args.id m.pending ≡ None = find_is c.args.id m.pending ∙ none_there m.version m.client_id (λ k. int_eq k.id c.args.id) s.pending.items m.pending e st.fields.pending in
    sym (ap is_some find)

pub returns-in_default-clause-stands : goal.returns-in_default-clause-stands
returns-in_default-clause-stands c = λ m st.
    let s = c.args.self.now in
    let e : position (λ p. int_eq p.id c.args.id) s.pending.items ≡ None = ap (λ (ps : List CodePending). position (λ p. int_eq p.id c.args.id) ps) (sym c.as_slice.ensures.value) ∙ ap (λ (z : ℤ). position (λ (p : CodePending). int_eq p.id z) c.as_slice.result.now) (sym (to_z-of_z w32 c.args.id c.ranges.id)) ∙ sym c.place_of.ensures ∙ c.in_default.is in
    let find : find_pending c.args.id m.pending ≡ None = find_is c.args.id m.pending ∙ none_there m.version m.client_id (λ k. int_eq k.id c.args.id) s.pending.items m.pending e st.fields.pending in
    subst (λ o. FtStands s (recalled o m)) (sym find) st

pub returns-in_default-clause-out : goal.returns-in_default-clause-out
returns-in_default-clause-out c = λ m st.
    let s = c.args.self.now in
    let e : position (λ p. int_eq p.id c.args.id) s.pending.items ≡ None = ap (λ (ps : List CodePending). position (λ p. int_eq p.id c.args.id) ps) (sym c.as_slice.ensures.value) ∙ ap (λ (z : ℤ). position (λ (p : CodePending). int_eq p.id z) c.as_slice.result.now) (sym (to_z-of_z w32 c.args.id c.ranges.id)) ∙ sym c.place_of.ensures ∙ c.in_default.is in
    let find : find_pending c.args.id m.pending ≡ None = find_is c.args.id m.pending ∙ none_there m.version m.client_id (λ k. int_eq k.id c.args.id) s.pending.items m.pending e st.fields.pending in
    sym (append-nil c.args.out.now.items) ∙ ap (λ o. c.args.out.now.items ++ stream octets_said (says_recalled m.version o)) (sym find)

pub returns-clause-pending : goal.returns-clause-pending
returns-clause-pending c = λ m st.
    let s = c.args.self.now in
    let e : position (λ p. int_eq p.id c.args.id) s.pending.items ≡ Some c.in-Some.place = ap (λ (ps : List CodePending). position (λ p. int_eq p.id c.args.id) ps) (sym c.as_slice.ensures.value) ∙ ap (λ (z : ℤ). position (λ (p : CodePending). int_eq p.id z) c.as_slice.result.now) (sym (to_z-of_z w32 c.args.id c.ranges.id)) ∙ sym c.place_of.ensures ∙ c.in-Some.is in
    let f = found_kept m.version m.client_id (λ k. int_eq k.id c.args.id) m.last s.pending.items m.pending c.in-Some.place c.index.result.now e st.fields.pending st.fields.rising in
    sym (ap is_some (find_is c.args.id m.pending ∙ f.first))

pub returns-clause-stands : goal.returns-clause-stands
returns-clause-stands c = λ m st.
    let s = c.args.self.now in
    let place = c.in-Some.place in
    let d = c.index.result.now in
    let e : position (λ p. int_eq p.id c.args.id) s.pending.items ≡ Some place = ap (λ (ps : List CodePending). position (λ p. int_eq p.id c.args.id) ps) (sym c.as_slice.ensures.value) ∙ ap (λ (z : ℤ). position (λ (p : CodePending). int_eq p.id z) c.as_slice.result.now) (sym (to_z-of_z w32 c.args.id c.ranges.id)) ∙ sym c.place_of.ensures ∙ c.in-Some.is in
    let f = found_kept m.version m.client_id (λ k. int_eq k.id c.args.id) m.last s.pending.items m.pending place d e st.fields.pending st.fields.rising in
    let p = f.call in
    let lt = (position-Some (λ p. int_eq p.id c.args.id) s.pending.items place d e).0 in
    let find : find_pending c.args.id m.pending ≡ Some p = find_is c.args.id m.pending ∙ f.first in
    let x = slice_index_or s.pending.items place d in
    let k : kept_by x ≡ kept_of m.version m.client_id p = at_both m.version m.client_id s.pending.items m.pending place d nobody st.fields.pending lt ∙ ap (λ (q : Pending). kept_of m.version m.client_id q) (get_is m.pending place p nobody f.at) in
    let sent : d.sent ≡ p.sent = ap (λ (y : CodePending). y.sent) c.index.ensures ∙ ap (λ (y : Kept). y.sent) k in
    let h = c.in_ok-withdraw.ensures in
    let w = is_withdrawn m p place s.link c.withdraw.new.link d.sent c.args.out.now.items c.withdraw.new.out.items st.link f.at f.left sent h.unsent h.unlinked h.sent in
    let xid : x.id ≡ pos p.id = ap (λ (y : Kept). y.id) k in
    recalled_stands _ m (find_pending c.args.id m.pending) p find (record {
      fields = record {
        client_id = st.fields.client_id;
        version = st.fields.version;
        limits = st.fields.limits;
        last = st.fields.last;
        pending = ap (λ (ps : List CodePending). map kept_by ps) c.complete.ensures.pending ∙ map_remove kept_by s.pending.items place ∙ ap (λ (ks : List Kept). remove ks place) st.fields.pending ∙ sym (map_remove (kept_of m.version m.client_id) m.pending place) ∙ ap (λ (ps : List Pending). map (kept_of m.version m.client_id) ps) f.left;
        completions = ap (λ cs. map completion_of cs) (c.complete.ensures.ended x (get_there s.pending.items place d lt)) ∙ map_push completion_of s.completions.items (x.id, code.Cancelled) ∙ (λ i. st.fields.completions i ++ (xid i, Cancelled) ∷ []) ∙ sym (map_push numbered m.completions (p.id, Cancelled));
        rising = without-rising m.last p.id m.pending st.fields.rising;
        keeps = st.fields.keeps;
        forwards = st.fields.forwards;
      };
      link = w.link;
    })

pub returns-clause-out : goal.returns-clause-out
returns-clause-out c = λ m st.
    let s = c.args.self.now in
    let place = c.in-Some.place in
    let d = c.index.result.now in
    let e : position (λ p. int_eq p.id c.args.id) s.pending.items ≡ Some place = ap (λ (ps : List CodePending). position (λ p. int_eq p.id c.args.id) ps) (sym c.as_slice.ensures.value) ∙ ap (λ (z : ℤ). position (λ (p : CodePending). int_eq p.id z) c.as_slice.result.now) (sym (to_z-of_z w32 c.args.id c.ranges.id)) ∙ sym c.place_of.ensures ∙ c.in-Some.is in
    let f = found_kept m.version m.client_id (λ k. int_eq k.id c.args.id) m.last s.pending.items m.pending place d e st.fields.pending st.fields.rising in
    let p = f.call in
    let lt = (position-Some (λ p. int_eq p.id c.args.id) s.pending.items place d e).0 in
    let find : find_pending c.args.id m.pending ≡ Some p = find_is c.args.id m.pending ∙ f.first in
    let x = slice_index_or s.pending.items place d in
    let k : kept_by x ≡ kept_of m.version m.client_id p = at_both m.version m.client_id s.pending.items m.pending place d nobody st.fields.pending lt ∙ ap (λ (q : Pending). kept_of m.version m.client_id q) (get_is m.pending place p nobody f.at) in
    let sent : d.sent ≡ p.sent = ap (λ (y : CodePending). y.sent) c.index.ensures ∙ ap (λ (y : Kept). y.sent) k in
    let h = c.in_ok-withdraw.ensures in
    let w = is_withdrawn m p place s.link c.withdraw.new.link d.sent c.args.out.now.items c.withdraw.new.out.items st.link f.at f.left sent h.unsent h.unlinked h.sent in
    w.written ∙ ap (λ o. c.args.out.now.items ++ stream octets_said (says_recalled m.version o)) (sym find)

pub returns-in_err-withdraw-clause-needed : goal.returns-in_err-withdraw-clause-needed
returns-in_err-withdraw-clause-needed c = on_err_of c.from_residual.result (λ m st.
    let s = c.args.self.now in
    let place = c.in-Some.place in
    let d = c.index.result.now in
    let e : position (λ p. int_eq p.id c.args.id) s.pending.items ≡ Some place = ap (λ (ps : List CodePending). position (λ p. int_eq p.id c.args.id) ps) (sym c.as_slice.ensures.value) ∙ ap (λ (z : ℤ). position (λ (p : CodePending). int_eq p.id z) c.as_slice.result.now) (sym (to_z-of_z w32 c.args.id c.ranges.id)) ∙ sym c.place_of.ensures ∙ c.in-Some.is in
    let f = found_kept m.version m.client_id (λ k. int_eq k.id c.args.id) m.last s.pending.items m.pending place d e st.fields.pending st.fields.rising in
    let p = f.call in
    let lt = (position-Some (λ p. int_eq p.id c.args.id) s.pending.items place d e).0 in
    let find : find_pending c.args.id m.pending ≡ Some p = find_is c.args.id m.pending ∙ f.first in
    let x = slice_index_or s.pending.items place d in
    let k : kept_by x ≡ kept_of m.version m.client_id p = at_both m.version m.client_id s.pending.items m.pending place d nobody st.fields.pending lt ∙ ap (λ (q : Pending). kept_of m.version m.client_id q) (get_is m.pending place p nobody f.at) in
    let sent : d.sent ≡ p.sent = ap (λ (y : CodePending). y.sent) c.index.ensures ∙ ap (λ (y : Kept). y.sent) k in
    recalled_said m.version (find_pending c.args.id m.pending) p d.sent find sent c.in_err-withdraw.ensures.needed)
