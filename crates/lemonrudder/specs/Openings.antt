-- A server to which nothing has happened.
use Rattle.std.specs.Prelude.{◌≡◌, ℕ, false, [], ◌∷◌, Some, None}
use Rattle.ft_log.specs.Holding.{Holding}
use Rattle.ft_objects.specs.declared.families.Families.{Families}
use Rattle.ft_objects.specs.Families.{families_offer}
use Rattle.ft_orb.specs.Decisions.{no_counts}
use Rattle.ft_orb.specs.Engines.{asks_in, counts_in, ending_in}
use Rattle.ft_orb.specs.History.{Changed}
use Rattle.ft_orb.specs.Parking.{Stays, parked_in, told_in}
use Rattle.ft_orb.specs.Requests.{terms_of}
use Rattle.ft_orb.specs.Requests as offered
use Rattle.lemonrudder.specs.declared.serving.Serving.{Serving}
use Rattle.lemonrudder.specs.declared.terms.Terms.{Terms}
use Rattle.lemonrudder.specs.Connected.{is_there}
use Rattle.lemonrudder.specs.Serves.{IsIdle}

-- no request was asked for, none is parked, nothing is counted, and no connection has ended
abbrev pub HasDoneNothing : Serving → Type 0
HasDoneNothing t = (asks_in t.engine ≡ 0) × ((q : ℕ) → (parked_in t.engine q ≡ None) × (told_in t.engine q ≡ None)) × (counts_in t.engine ≡ no_counts) × ((c : ℕ) → ending_in t.engine c ≡ None)

-- A server of these objects and families, within these limits, to which nothing has happened. Its engine was made without a bound of
-- the ids of clients, and then that was set, and whether its owner is asked first: what is served has changed twice.
abbrev pub IsNew : Families → Terms → Serving → Type 0
IsNew f terms t = IsIdle t × (t.setup ≡ record { terms = terms; opened = false; said = None }) × (t.engine.offering ≡ record { catalogue = f; longest = Some terms.longest; first = terms.first }) × ((c : ℕ) → is_there t.connections c ≡ false) × (t.ready.keys ≡ []) × HasDoneNothing t
    × ((held : ℕ → Holding) (on : ℕ → offered.Terms) → on 0 ≡ terms_of None (families_offer f) → on 1 ≡ terms_of (Some terms.longest) (families_offer f)
    → on 2 ≡ record (terms_of (Some terms.longest) (families_offer f)) { first = terms.first }
    → Stays families_offer (record { terms = on; limits = terms.limits; capacity = terms.capacity; share = terms.share; places = terms.places }) held [] t.engine (Changed ∷ Changed ∷ []) (λ n. []))
