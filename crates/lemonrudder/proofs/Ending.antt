-- Why a connection ended, once a request on it was answered or declined.
use Rattle.std.proofs.Common.{◌≡◌, ℕ, Option, Some, None, Result, Ok, Err, OnOk, IfErr, refl, subst, sym}
use Rattle.ft_objects.specs.declared.families.Families.{Families}
use Rattle.ft_orb.specs.declared.ending.Ending.TheVariants as why
use Rattle.ft_orb.specs.declared.engine.Engine.{Engine}
use Rattle.ft_orb.specs.declared.error.ServeError.{ServeError}
use Rattle.ft_orb.specs.declared.error.ServeError.TheVariants as serving
use Rattle.ft_orb.specs.Engines.{AreEndings, Awaited, EndsLast, EndsShort, waits_in}
use Rattle.lemonrudder.specs.declared.serving.questions.Found.TheVariants.{Waits}
use Rattle.lemonrudder.specs.Serves.{EndsIfShort}
use Rattle.lemonrudder.specs.Tickets.{IsFound}

-- what is said of the connection on which a request waits is said of that one
on-its : (n c : ℕ) (w : Option Awaited) (Q : ℕ → Type 0) → IsFound (Waits n c) w → ((v : Awaited) → w ≡ Some v → Q v.connection) → Q c
on-its n c None Q found says = absurd found
on-its n c (Some v) Q found says = subst Q found.1 (says v refl)

pub ends-if-short : (n c : ℕ) (old new : Engine Families) (o : Result (Unit {0}) ServeError) → IsFound (Waits n c) (waits_in old) → OnOk o (AreEndings old new)
    → ((w : Awaited) → waits_in old ≡ Some w → IfErr o (λ f. EndsShort old new w.connection f)) → EndsIfShort c old new o
ends-if-short n c old new (Ok x) found same short = same
ends-if-short n c old new (Err f) found same short = on-its n c (waits_in old) (λ k. EndsShort old new k f) found short

pub ends-declined : (n c : ℕ) (old new : Engine Families) (e : ServeError) (h k : ℕ) → IsFound (Waits n c) (waits_in old) → e ≡ serving.Memory h k → ((w : Awaited) → waits_in old ≡ Some w → EndsLast new w.connection why.Memory)
    → EndsIfShort c old new (Err e)
ends-declined n c old new e h k found is last = subst (λ f. EndsShort old new c f) (sym is) (on-its n c (waits_in old) (λ q. EndsLast new q why.Memory) found last)
