-- What is said of a server before its first connection: its limits.
use Rattle.std.specs.Prelude.{◌≡◌, ◌⊎◌, ℕ, true, Option, Some, None, IsSome, Result, Ok}
use Rattle.ft_orb.specs.Engines.{waits_in}
use Rattle.lemonrudder.specs.declared.refusal.Refusal.{Refusal}
use Rattle.lemonrudder.specs.declared.refusal.Refusal.TheVariants as refusal
use Rattle.lemonrudder.specs.declared.serving.Serving.{Serving}
use Rattle.lemonrudder.specs.declared.terms.Terms.{Terms}
use Rattle.lemonrudder.specs.Limited.{Limited, limited, set_to}
use Rattle.lemonrudder.specs.Openings.{IsNew}
use Rattle.lemonrudder.specs.Serves.{IsRefused}

-- it has had a connection
abbrev pub HasOpened : Serving → Type 0
HasOpened s = (s.setup.opened ≡ true) ⊎ IsSome (waits_in s.engine)

-- it is a new server of what was on offer, within these limits
abbrev pub IsMadeAnew : Limited → Serving → Serving → Result ℕ Refusal → Type 0
IsMadeAnew new s t r = (r ≡ Ok 0) × (terms : Terms) × (limited terms ≡ new) × (terms.seed ≡ s.setup.terms.seed) × IsNew s.engine.offering.catalogue terms t

-- a limit gets a value that is allowed, before the first connection
abbrev pub SetsTo : Option Limited → Serving → Serving → Result ℕ Refusal → Type 0
SetsTo None s t r = IsRefused refusal.Range s t r
SetsTo (Some new) s t r = (HasOpened s → IsRefused refusal.Open s t r) × (¬ (HasOpened s) → IsMadeAnew new s t r)

-- the limit of a number is set
abbrev pub OnSet : (what value : ℕ) → Serving → Serving → Result ℕ Refusal → Type 0
OnSet what value s t r = SetsTo (set_to what value (limited s.setup.terms)) s t r
