-- What is set of a client.
use Rattle.std.specs.Prelude.{◌≡◌, ℕ, ◌==◌, if◌then◌else◌, true, false, ◌⊎◌, Option, Some, None, Result, Ok, Err}
use Rattle.std.specs.Option.{option_map}
use Rattle.giop_core.specs.declared.header.Version.{Version}
use Rattle.giop_frames.specs.declared.limits.Cuts.{Cuts}
use Rattle.giop_frames.specs.declared.limits.Limits.{Limits}
use Rattle.ft_client.specs.Clients.{Happening, Kept, KeptForwards}
use Rattle.ft_client.specs.Made.{is_unused}
use Rattle.lemonrudder.specs.declared.calling.Calling.{Calling}
use Rattle.lemonrudder.specs.declared.refusal.Refusal.{Refusal}
use Rattle.lemonrudder.specs.declared.refusal.Refusal.TheVariants as refusal
use Rattle.lemonrudder.specs.Calls.{Becomes, Standing, Stands, happened}
use Rattle.lemonrudder.specs.Naming.{AreLimits, HasLimits, cuts_named, truth_named, version_named}

-- what is set: what a client keeps, or what it is made with, which is the version of its messages, how many octets one may have that
-- comes, how many may be partial, and where one of 1.1 may be cut
pub data Setting : Type 0 where
  keeping : Happening → Setting
  version : Version → Setting
  message : ℕ → Setting
  partials : ℕ → Setting
  cuts : Cuts → Setting

-- as the header numbers it
abbrev pub setting : (what value : ℕ) → Option Setting
setting what value =
    if what == 1 then option_map (λ keeps. keeping (Kept keeps)) (truth_named value)
    else (if what == 2 then option_map (λ keeps. keeping (KeptForwards keeps)) (truth_named value)
    else (if what == 3 then option_map version (version_named value)
    else (if what == 4 then Some (message value)
    else (if what == 5 then Some (partials value)
    else (if what == 6 then option_map cuts (cuts_named value) else None)))))

-- a client that gave no number, took none up and skipped none, and is not connected, is one that was made so; any other stays as it is
abbrev pub Makes : Version → Limits → Standing → Calling → Result ℕ Refusal → Type 0
Makes v limits x t r =
    (is_unused x.client ≡ true → (r ≡ Ok 0) × Stands t (record x { client = record x.client { version = v; limits = limits } }))
    × (is_unused x.client ≡ false → (r ≡ Err refusal.Open) × Stands t x)

-- .. with limits of these numbers, and the same cuts; or they are not allowed
abbrev pub MakesLimited : (messages partial : ℕ) → Standing → Calling → Result ℕ Refusal → Type 0
MakesLimited messages partial x t r =
    ((limits : Limits) × HasLimits messages partial x.client.limits.cuts limits × Makes x.client.version limits x t r)
    ⊎ ((¬ (AreLimits messages partial)) × (r ≡ Err refusal.Range) × Stands t x)

-- what is set is so from then on; or it is none that can be set
abbrev pub Sets : Option Setting → Calling → Calling → Result ℕ Refusal → Type 0
Sets None s t r = (r ≡ Err refusal.Range) × (t ≡ s)
Sets (Some (keeping h)) s t r = (r ≡ Ok 0) × Becomes (happened h) s t
Sets (Some (version v)) s t r = (x : Standing) → Stands s x → Makes v x.client.limits x t r
Sets (Some (message most)) s t r = (x : Standing) → Stands s x → MakesLimited most x.client.limits.partials x t r
Sets (Some (partials most)) s t r = (x : Standing) → Stands s x → MakesLimited x.client.limits.message most x t r
Sets (Some (cuts c)) s t r = (x : Standing) → Stands s x → Makes x.client.version (record x.client.limits { cuts = c }) x t r

-- one number is set
abbrev pub OnSet : (what value : ℕ) → Calling → Calling → Result ℕ Refusal → Type 0
OnSet what value s t r = Sets (setting what value) s t r
