-- In each world of a schedule the next step may be taken.
use Rattle.std.proofs.Common.{◌≡◌, ℕ, zero, suc, ◌<◌, ◌≤◌, ◌++◌, ◌+◌, List, [], ◌∷◌, get_or, length, map, take, Option, Some, None, IsTrue, is_some, refl, sym, ap, ◌∙◌, subst, arith}
use Rattle.std.specs.List.{AllByRecursion, slice_get}
use Rattle.std.proofs.lemmas.List.{map-append, take_more}
use Rattle.std.proofs.lemmas.Option.{none-some, same_Some}
use Rattle.cdr_core.specs.Laws.{WrittenIsOctets}
use Rattle.cdr_core.specs.Octets.{HoldAll}
use Rattle.cdr_core.specs.declared.order.Order.TheVariants.{Big}
use Rattle.cdr_core.specs.Spelling.{IsClean}
use Rattle.cdr_core.specs.Value.{structure}
use Rattle.cdr_core.specs.View.{values_of}
use Rattle.giop_link.specs.Laws.{HearingGrows}
use Rattle.giop_link.specs.Hearing.{meaning_in}
use Rattle.ft_client.specs.declared.client.FtClient.{FtClient}
use Rattle.ft_client.specs.Clients.{Linked, Pending}
use Rattle.ft_client.specs.Messages.{Transmission}
use Rattle.ft_client.specs.Standing.{down}
use Rattle.ft_orb.specs.Standing.{Shown}
use Rattle.ft_orb.specs.ExactlyOnce.{OneExpiration}
use Rattle.ft_orb.specs.History.{Event, arrivals}
use Rattle.ft_orb.specs.Outputs.{Made}
use Rattle.ft_objects.specs.Servants.{Meaning}
use Rattle.ft_ends.specs.declared.post.Post.{Post}
use Rattle.ft_ends.specs.declared.steps.Call.{Call as CodeCall}
use Rattle.ft_ends.specs.declared.steps.Step.{Step as CodeStep}
use Rattle.ft_ends.specs.declared.steps.Step.TheVariants as code
use Rattle.ft_ends.specs.Both.{AreDistinct}
use Rattle.ft_ends.specs.Fine.{AreFaithful}
use Rattle.ft_ends.specs.Laws.{AreShort, IsFineStep, sides_of}
use Rattle.ft_ends.specs.Playing.{AreBeginning, AreNew, IsCallable, step_as}
use Rattle.ft_ends.specs.Private.{AreHeld, AreSet, AreBare, ClientLaws, IsReady, tells}
use Rattle.ft_ends.specs.World.{Member, Newcomer, Step, Wire, World, client_of, given_out, member_of, moved, start, step, step_of, world}
use Rattle.ft_ends.proofs.Held.{held-new}
use Rattle.ft_ends.proofs.Members.{IsWired}
use Rattle.ft_ends.proofs.Moves.{IsOff, move-is}
use Rattle.ft_ends.proofs.Small.{all-typed}
use Rattle.ft_ends.proofs.Worlds.{IsWorld, one-expiration, run-is, start-is, step-is}

module _ {State : Type 0} (meaning : Meaning State) (made : Made State) (newcomers : List Newcomer) (distinct : AreDistinct newcomers) (of_clients : ClientLaws) (faithful : AreFaithful made.limits down) (grow : HearingGrows meaning_in) (sends : AreShort meaning made)
    (clean : AllByRecursion (λ n. IsClean n.client_id) newcomers) where
  -- a client has a link where it has a connection, whose number is not past the last
  wired-linked : (past : List Event) (opened : ℕ) (sent : List (ℕ × Transmission)) (pending : List Pending) (last : ℕ) (l : Option Linked) (o : Option Wire) → IsWired meaning made past opened sent pending last l o → is_some l ≡ is_some o
  wired-linked past opened sent pending last None None h = refl
  wired-linked past opened sent pending last None (Some x) h = absurd h
  wired-linked past opened sent pending last (Some l) None h = absurd h
  wired-linked past opened sent pending last (Some l) (Some x) h = refl

  wired-known : (past : List Event) (opened : ℕ) (sent : List (ℕ × Transmission)) (pending : List Pending) (last : ℕ) (l : Option Linked) (o : Option Wire) (x : Wire) → o ≡ Some x → IsWired meaning made past opened sent pending last l o → x.number ≤ opened
  wired-known past opened sent pending last l None x on h = absurd (none-some x on)
  wired-known past opened sent pending last None (Some y) x on h = absurd h
  wired-known past opened sent pending last (Some l) (Some y) x on h = subst (λ (c : ℕ). c ≤ opened) (ap (λ (z : Wire). z.number) (same_Some y x on)) h.known

  off-by : (o : Option Wire) (y : ℕ) → ((x : Wire) → o ≡ Some x → x.number ≡ y → ⊥) → IsOff o y
  off-by None y h = tt
  off-by (Some x) y h = h x refl

  module _ (w : World) (s : Step) (fine : IsFineStep s) (h : IsWorld meaning made down newcomers w) where
    after-here : (m : Member) → slice_get w.members (client_of s) ≡ Some m → step (sides_of meaning made down) w s ≡ given_out (sides_of meaning made down) (client_of s) w (moved (sides_of meaning made down) w.past w.opened s m)
    after-here m is = ap (step_of (sides_of meaning made down) w s) is

    others-by : (o : Option Member) → slice_get w.members (client_of s) ≡ o → (k : ℕ) (n : Member) (x : Wire) → slice_get w.members k ≡ Some n → n.wire ≡ Some x → (k ≡ client_of s → ⊥)
        → tells meaning made (step_of (sides_of meaning made down) w s o).past x.number ≡ tells meaning made w.past x.number
    others-by None is k n x at on apart = refl
    others-by (Some m) is k n x at on apart =
        let name = h.named (client_of s) m is in
        let own = h.named k n at in
        let move = move-is meaning made down w.past w.opened name.0.client_id name.0.version m name.2 h.unopened of_clients faithful grow sends h.plain (clean-at (client_of s) name.0 newcomers name.1 clean) s fine in
        let low = wired-known w.past w.opened n.life.sent n.life.client.pending n.life.client.last n.life.client.link n.wire x on own.2.wired in
        (move.others x.number low (off-by m.wire x.number (λ y here same. apart (h.apart k (client_of s) n m x y at is on here (sym same))))).1
      where
        clean-at : (j : ℕ) (q : Newcomer) (ns : List Newcomer) → slice_get ns j ≡ Some q → AllByRecursion (λ p. IsClean p.client_id) ns → IsClean q.client_id
        clean-at j q [] is c = absurd (none-some q is)
        clean-at zero q (p ∷ ns) is c = subst (λ (r : Newcomer). IsClean r.client_id) (same_Some p q is) c.0
        clean-at (suc j) q (p ∷ ns) is c = clean-at j q ns is c.1

    pub ready-is : IsReady meaning made w s
    ready-is = record {
      settled = λ m is.
          let name = h.named (client_of s) m is in
          record {
            linked = wired-linked w.past w.opened m.life.sent m.life.client.pending m.life.client.last m.life.client.link m.wire name.2.wired;
            fresh = (h.unopened (suc w.opened) (omega arith)).1;
            called = record { call = name.2.life.alive.pending; values = all-typed m.life.client.version m.life.client.client_id m.life.client.pending name.2.small.waits };
            once = subst (λ (u : World). OneExpiration (arrivals made.limits u.past)) (after-here m is)
                (one-expiration meaning made down newcomers distinct (step (sides_of meaning made down) w s) (step-is meaning made down newcomers of_clients faithful grow sends clean w s fine h));
          };
      others = others-by (slice_get w.members (client_of s)) refl;
    }

  -- the world of the steps that were taken
  pub world-is : (steps : List Step) → AllByRecursion IsFineStep steps → IsWorld meaning made down newcomers (world (sides_of meaning made down) newcomers steps)
  world-is steps fine = run-is meaning made down newcomers of_clients faithful grow sends clean (start newcomers) steps fine (start-is meaning made down newcomers of_clients.once)

-- The steps of the code.

pub call-fine : WrittenIsOctets → (s : CodeStep) (k now : ℕ) (call : CodeCall) → s ≡ code.Call k now call → IsCallable s → HoldAll (values_of call.arguments.items) → IsFineStep (step_as s)
call-fine octets s k now call is callable held =
    subst (λ (d : CodeStep). IsFineStep (step_as d)) (sym is)
    (record { values = refl; operation = (subst IsCallable is callable).0; arguments = λ place. octets Big (structure (values_of call.arguments.items)) held place; expiration = call.near })

pub recall-fine : WrittenIsOctets → (s : CodeStep) (k number now : ℕ) (call : CodeCall) → s ≡ code.Recall k number now call → IsCallable s → HoldAll (values_of call.arguments.items) → IsFineStep (step_as s)
recall-fine octets s k number now call is callable held =
    subst (λ (d : CodeStep). IsFineStep (step_as d)) (sym is)
    (record { values = refl; operation = (subst IsCallable is callable).0; arguments = λ place. octets Big (structure (values_of call.arguments.items)) held place; expiration = call.near })

pub first-fine : (n : ℕ) (ss : List CodeStep) → AllByRecursion IsFineStep (map step_as ss) → AllByRecursion IsFineStep (map step_as (take n ss))
first-fine zero ss h = tt
first-fine (suc n) [] h = tt
first-fine (suc n) (s ∷ ss) h = (h.0, first-fine n ss h.1)

pub fine-at : (ss : List CodeStep) (i : ℕ) (d : CodeStep) → i < length ss → AllByRecursion IsFineStep (map step_as ss) → IsFineStep (step_as (get_or ss i d))
fine-at [] i d within h = absurd (omega arith)
fine-at (s ∷ ss) zero d within h = h.0
fine-at (s ∷ ss) (suc i) d within h = fine-at ss i d (omega arith) h.1

pub callable-at : (ss : List CodeStep) (i : ℕ) (d : CodeStep) → i < length ss → AllByRecursion IsCallable ss → IsCallable (get_or ss i d)
callable-at [] i d within h = absurd (omega arith)
callable-at (s ∷ ss) zero d within h = h.0
callable-at (s ∷ ss) (suc i) d within h = callable-at ss i d (omega arith) h.1

pub steps-more : (ss : List CodeStep) (i : ℕ) (s : CodeStep) → i < length ss → s ≡ get_or ss i s → map step_as (take (i + 1) ss) ≡ map step_as (take i ss) ++ step_as s ∷ []
steps-more ss i s within is =
    ap (λ (xs : List CodeStep). map step_as xs) (take_more ss i s within) ∙ map-append step_as (take i ss) (get_or ss i s ∷ []) ∙ ap (λ (d : CodeStep). map step_as (take i ss) ++ step_as d ∷ []) (sym is)

-- a client's id has no NUL
pub new-clean : (ns : List Newcomer) (cs : List FtClient) → AreNew ns cs → AllByRecursion (λ n. IsClean n.client_id) ns
new-clean [] [] h = tt
new-clean (n ∷ ns) (c ∷ cs) h = (subst IsClean h.0.fields.client_id c.clean, new-clean ns cs h.1)
new-clean [] (c ∷ cs) h = absurd h
new-clean (n ∷ ns) [] h = absurd h

-- What begins is set.
pub set-is : {State : Type 0} (meaning : Meaning State) (made : Made State) (newcomers : List Newcomer) (server : Shown State) (clients cs : List FtClient) (posts us : List Post) (n : ℕ) → cs ≡ clients → us ≡ posts → n ≡ length clients
    → IsTrue (meaning.is_state made.opening) → AreBare n posts → AreBeginning meaning made newcomers server clients → AreSet meaning made newcomers server cs us
set-is meaning made newcomers server clients cs posts us n clients_same posts_same count state bare h = record {
  stands = h.stands;
  state = state;
  held = subst (λ (vs : List Post). AreHeld (tells meaning made []) (map member_of newcomers) cs vs) (sym posts_same)
      (subst (λ (ds : List FtClient). AreHeld (tells meaning made []) (map member_of newcomers) ds posts) (sym clients_same)
      (held-new (tells meaning made []) newcomers clients posts h.clients_are (subst (λ (k : ℕ). AreBare k posts) count bare)));
  distinct = h.distinct;
  clean = new-clean newcomers clients h.clients_are;
}
