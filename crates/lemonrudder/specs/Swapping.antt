-- Exchanging what a server has on offer and a catalogue.
use Rattle.std.specs.Prelude.{◌≡◌, ℕ, suc, ◌∷◌, IsSome, Result, Ok}
use Rattle.ft_objects.specs.Families.{families_offer}
use Rattle.ft_orb.specs.Engines.{AreEndings, counts_in, waits_in}
use Rattle.ft_orb.specs.History.{Changed, changes}
use Rattle.ft_orb.specs.Offerings.{terms_by}
use Rattle.ft_orb.specs.Parking.{AreParked, Stays, others_under}
use Rattle.lemonrudder.specs.declared.cataloguing.Cataloguing.{Cataloguing}
use Rattle.lemonrudder.specs.declared.refusal.Refusal.{Refusal}
use Rattle.lemonrudder.specs.declared.refusal.Refusal.TheVariants as refusal
use Rattle.lemonrudder.specs.declared.serving.Serving.{Serving}
use Rattle.lemonrudder.specs.Late.{WhereStays}
use Rattle.lemonrudder.specs.Serves.{IsIdle, IsRefused, KeepsDue, KeepsNotes, KeepsTickets}

-- the objects and families of one go to the other; the bound of the ids of clients, whether the owner is asked first, and exceptions that were declared, stay
abbrev pub Exchanges : (s t : Serving) → (k l : Cataloguing) → Type 0
Exchanges s t k l = (t.engine.offering ≡ record s.engine.offering { catalogue = k.families }) × (l ≡ record k { families = s.engine.offering.catalogue })

-- what is kept, parked and counted stays
abbrev pub KeepsRest : Serving → Serving → Type 0
KeepsRest s t = IsIdle t × (t.setup ≡ s.setup) × KeepsDue s t × KeepsNotes s t × KeepsTickets s t × AreParked s.engine t.engine × ((c q : ℕ) → others_under t.engine c q ≡ others_under s.engine c q) × (counts_in t.engine ≡ counts_in s.engine) × AreEndings s.engine t.engine

-- what comes from now on is served by what is on offer now
abbrev pub ChangesLate : Serving → Serving → Type 0
ChangesLate s t = WhereStays s (λ x held calls past waiting. x.terms (suc (changes past)) ≡ terms_by families_offer t.engine.offering → Stays families_offer x held calls t.engine (Changed ∷ past) waiting)

-- what is on offer and a catalogue are exchanged: not while a request waits
abbrev pub OnSwap : (s t : Serving) → (k l : Cataloguing) → Result ℕ Refusal → Type 0
OnSwap s t k l r = (IsSome (waits_in s.engine) → IsRefused refusal.Asking s t r × (l ≡ k)) × (IsIdle s → (r ≡ Ok 0) × Exchanges s t k l × KeepsRest s t × ChangesLate s t)
