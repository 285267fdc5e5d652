-- How often what is served has changed, after an event; and an engine after such a change.
use Rattle.std.proofs.Common.{◌≡◌, ℕ, suc, List, [], ◌∷◌, refl, sym, subst, ◌∙◌}
use Rattle.std.proofs.lemmas.List.{append-nil}
use Rattle.giop_frames.specs.declared.limits.Limits.{Limits}
use Rattle.ft_log.specs.Holding.{Holding}
use Rattle.ft_log.specs.Logged.{logged}
use Rattle.ft_objects.specs.Catalogues.{Offer}
use Rattle.ft_orb.specs.declared.engine.Engine.{Engine}
use Rattle.ft_orb.specs.declared.events.Note.{Note}
use Rattle.ft_orb.specs.declared.events.Note.TheVariants.{Done, Memory, Refused}
use Rattle.ft_orb.specs.declared.offering.Offering.{Offering}
use Rattle.ft_orb.specs.declared.parked.Waiter.{Waiter}
use Rattle.ft_orb.specs.Engines.{Rests, as_server}
use Rattle.ft_orb.specs.ExactlyOnce.{Arrival}
use Rattle.ft_orb.specs.History.{Changed, Close, Event, Lost, Opened, Piece, arrivals, changes}
use Rattle.ft_orb.specs.Offerings.{terms_by}
use Rattle.ft_orb.specs.Outputs.{after}
use Rattle.ft_orb.specs.Owners.{Owner, owned_rules, owning}
use Rattle.ft_orb.specs.Parking.{Settings, Stays}
use Rattle.ft_orb.specs.Pause.{pending_of}
use Rattle.ft_orb.specs.Pauses.{IsReadyFor}
use Rattle.ft_orb.specs.Requests.{Call, Wanted}
use Rattle.ft_orb.specs.Seen.{seen_table}
use Rattle.ft_orb.specs.Standing.{table_of}
use Rattle.ft_orb.specs.Table.{AreAlike, table_after}

-- nothing that comes on a connection changes it
pub changes-piece : (limits : Limits) (past : List Event) (c moment : ℕ) (octets : List ℕ) (note : Note) → changes (after limits past (Piece c moment octets) note) ≡ changes past
changes-piece limits past c moment octets Done = refl
changes-piece limits past c moment octets Refused = refl
changes-piece limits past c moment octets (Memory handled answered) = refl

pub changes-opened : (limits : Limits) (past : List Event) (c : ℕ) (note : Note) → changes (after limits past (Opened c) note) ≡ changes past
changes-opened limits past c Done = refl
changes-opened limits past c Refused = refl
changes-opened limits past c (Memory handled answered) = refl

pub changes-close : (limits : Limits) (past : List Event) (c : ℕ) (note : Note) → changes (after limits past (Close c) note) ≡ changes past
changes-close limits past c Done = refl
changes-close limits past c Refused = refl
changes-close limits past c (Memory handled answered) = refl

pub changes-lost : (limits : Limits) (past : List Event) (c : ℕ) (note : Note) → changes (after limits past (Lost c) note) ≡ changes past
changes-lost limits past c Done = refl
changes-lost limits past c Refused = refl
changes-lost limits past c (Memory handled answered) = refl

-- what an engine serves changes, and nothing else of it
pub stays-changed : {C : Type 0} (offers : C → Offer) (s : Settings) (held : ℕ → Holding) (calls : List Call) (old : Engine C) (past : List Event) (waiting : ℕ → List Waiter) (o : Offering C) (ready : IsReadyFor (pending_of old.keeper.slot old.asking) (logged old.keeper.log).room) → Stays offers s held calls old past waiting
    → s.terms (suc (changes past)) ≡ terms_by offers o → Stays offers s held calls (record old { offering = o; ready = ready }) (Changed ∷ past) waiting
stays-changed offers s held calls old past waiting o ready h is = record {
  rests = record {
    offer_is = sym is;
    idle = h.rests.idle;
    stands = record {
      limits_are = h.rests.stands.limits_are;
      capacity_is = h.rests.stands.capacity_is;
      share_is = h.rests.stands.share_is;
      moment = h.rests.stands.moment;
      greatest = h.rests.stands.greatest;
      lines = h.rests.stands.lines;
      table = h.rests.stands.table;
    };
  };
  parks = record {
    places = h.parks.places;
    there = h.parks.there;
    call = h.parks.call;
    once = h.parks.once;
    below = h.parks.below;
    lists = h.parks.lists;
    opened = h.parks.opened;
  };
}

-- .. to what is the same
pub rests-changed : {C : Type 0} (offers : C → Offer) (owner : Owner) (calls : List Call) (old : Engine C) (past : List Event) (o : Offering C) (ready : IsReadyFor (pending_of old.keeper.slot old.asking) (logged old.keeper.log).room) → Rests offers owner calls old past
    → terms_by offers o ≡ terms_by offers old.offering → Rests offers owner calls (record old { offering = o; ready = ready }) (Changed ∷ past)
rests-changed offers owner calls old past o ready h is = record {
  offer_is = is ∙ h.offer_is;
  idle = h.idle;
  stands = record {
    limits_are = h.stands.limits_are;
    capacity_is = h.stands.capacity_is;
    share_is = h.stands.share_is;
    moment = h.stands.moment;
    greatest = h.stands.greatest;
    lines = h.stands.lines;
    table = subst (λ (xs : List (Arrival Wanted)). AreAlike old.keeper.clock (table_of (as_server old calls)) (seen_table (owning owner).hold (table_after (owned_rules (owning owner)) (record { state = []; entries = [] }) xs))) (sym (append-nil (arrivals owner.limits past))) h.stands.table;
  };
}
