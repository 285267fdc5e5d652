-- A request that was not parked waits on.
use Rattle.std.proofs.Common.{◌≡◌, ℕ, ◌<◌, List, Option, IsSome, sym, ap, subst, ◌∙◌}
use Rattle.std.specs.Option.{option_map}
use Rattle.std.specs.Ordering.{nat_cmp}
use Rattle.std.specs.BTreeMap.{get}
use Rattle.giop_link.specs.Linking.{LinkStands}
use Rattle.ft_log.specs.Holding.{Holding}
use Rattle.ft_log.specs.Logged as log-shown
use Rattle.ft_log.specs.Logged.{logged}
use Rattle.ft_objects.specs.Catalogues.{Offer}
use Rattle.ft_orb.specs.Offerings.{terms_by}
use Rattle.ft_orb.specs.declared.engine.Engine.{Engine}
use Rattle.ft_orb.specs.declared.parked.Parked.{Parked}
use Rattle.ft_orb.specs.declared.parked.Waiter.{Waiter}
use Rattle.ft_orb.specs.declared.pausing.Pending.{Pending}
use Rattle.ft_orb.specs.Engines.{AsksOf, Awaited, KeepsOf, as_server, asks_in, awaited_of, pending_in}
use Rattle.ft_orb.specs.History.{Event, origin}
use Rattle.ft_orb.specs.Owners.{Voice}
use Rattle.ft_orb.specs.Parking.{AsksLate, Settings, by_number, parked_at}
use Rattle.ft_orb.specs.Pauses.{Paused}
use Rattle.ft_orb.specs.Requests.{Call}
use Rattle.ft_orb.specs.Standing.{IsSameBut, Shown, capacity_of, share_of, table_of}
use Rattle.ft_orb.specs.Table.{AreAlike, Table}

module _ {C : Type 0} (offers : C → Offer) (s : Settings) (held : ℕ → Holding) (calls : List Call) (old : Engine C) (past : List Event) (waiting : ℕ → List Waiter) (moment : ℕ) (octets written : List ℕ) (w : Awaited) (a : AsksLate offers s held calls old past waiting moment octets written w) where
  -- nothing changed, but where what is parked lies in memory
  module _ (new : Engine C) (clock : new.keeper.clock ≡ old.keeper.clock) (log : new.keeper.log ≡ old.keeper.log) (catalogue : new.offering ≡ old.offering) (limits : new.limits ≡ old.limits) (greatest : new.greatest ≡ old.greatest) (links : new.links ≡ old.links) (pending : pending_in new ≡ pending_in old) (asks : asks_in new ≡ asks_in old) (places : new.places ≡ old.places)
      (parks : (q : ℕ) → parked_at new q ≡ parked_at old q) where
    keeps-kept : (p : Pending) → KeepsOf offers (by_number s held) calls old past moment octets written p → KeepsOf offers (by_number s held) calls new past moment octets written p
    keeps-kept p k =
        let shown : as_server old calls ≡ as_server new calls = λ i. record { servant = calls; clock = sym clock i; limits = sym limits i; greatest = sym greatest i; links = (sym links i).entries; log = sym log i } in
        record {
          offer_is = ap (terms_by offers) catalogue ∙ k.offer_is;
          waits = pending ∙ k.waits;
          server = k.server;
          answered = k.answered;
          was = k.was;
          link = k.link;
          stands = k.stands;
          same = subst (λ (x : Shown (List Call)). IsSameBut p.connection k.server x) shown k.same;
          clock = clock ∙ k.clock;
          stood = k.stood;
          live = k.live;
          held = ap (λ m. get nat_cmp m p.connection) links ∙ k.held;
          whole = k.whole;
          some = k.some;
          paused = subst (λ (x : ℕ × log-shown.Shown). (voice : Voice) (t : List ℕ) (u : Table (List Call) Holding) → LinkStands s.limits k.was t → AreAlike x.0 (table_of k.server) u
              → Paused s.terms voice (capacity_of k.server) (share_of k.server) s.limits (origin past p.connection) x.0 u t octets k.link calls (logged x.1).entries written p.place.handled p.waiting) (λ i. (sym clock i, sym log i)) k.paused;
        }

    asks-kept : AsksOf offers (by_number s held) calls new past moment octets written w
    asks-kept =
        let x = a.asks in
        record {
          waits = ap (λ (o : Option Pending). option_map awaited_of o) pending ∙ x.waits;
          front = x.front;
          last = x.last;
          completes = x.completes;
          asks = x.asks;
          field = x.field;
          refused = x.refused;
          fit = x.fit;
          question = x.question;
          content = x.content;
          link = x.link;
          held = ap (λ m. get nat_cmp m w.connection) links ∙ x.held;
          heard = x.heard;
          out = x.out;
          pending = x.pending;
          is = x.is;
          asker = x.asker;
          keeps = keeps-kept x.pending x.keeps;
        }

    pub kept-late : AsksLate offers s held calls new past waiting moment octets written w
    kept-late =
        let k = a.parks in
        record {
          asks = asks-kept;
          below = subst (λ (n : ℕ). w.number < n) (sym asks) a.below;
          parks = record {
            places = places ∙ k.places;
            there = λ i n less is. subst (λ (o : Option Parked). IsSome o) (sym (parks n)) (k.there i n less is);
            call = λ n p at. k.call n p (sym (parks n) ∙ at);
            once = k.once;
            below = k.below;
            lists = λ n p at. k.lists n p (sym (parks n) ∙ at);
            opened = λ n p at. k.opened n p (sym (parks n) ∙ at);
          };
        }
