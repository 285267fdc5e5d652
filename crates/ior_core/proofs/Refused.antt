-- Which fault octets have as an encapsulation of a reference, or of a profile.
use Rattle.std.proofs.Common.{◌≡◌, ℕ, List, Err, refl, ap, ◌∙◌, inl, inr}
use Rattle.cdr_core.specs.declared.fault.Fault.{Fault}
use Rattle.cdr_core.specs.declared.order.Order.{Order}
use Rattle.cdr_core.specs.Laws.{FaultsStop, ReadIsSpelled, SpelledIsRead, StopsAreFaults}
use Rattle.cdr_core.specs.Reading.{value_at}
use Rattle.cdr_core.specs.Stopping.{Stops}
use Rattle.cdr_core.specs.Value.{Value}
use Rattle.cdr_core.proofs.Refused.{enclosed_fails, enclosed_tells}
use Rattle.cdr_core.proofs.Steps.{bind_err}
use Rattle.ior_core.specs.Grammar.{profile_1_0, reference}
use Rattle.ior_core.specs.Laws.{ProfilesStop, ReferencesStop}
use Rattle.ior_core.specs.Profiles.{body_at, type_of, StopsBody}

pub references_stop : FaultsStop → StopsAreFaults → ReferencesStop
references_stop tell fail octets f = (enclosed_tells (Stops reference) (value_at reference) octets f (tell reference), enclosed_fails (Stops reference) (value_at reference) octets f (fail reference))

body_tells : ReadIsSpelled → FaultsStop → (order : Order) (o : ℕ) (octets : List ℕ) (f : Fault) → body_at order o octets ≡ Err f → StopsBody order o octets f
unfolding body_at
body_tells found tell order o octets f h =
    elim (bind_err (value_at profile_1_0 order o octets) (λ (v : Value × ℕ × List ℕ). value_at (type_of v.0) order o octets) f h) [
      | inl e ↦ inl (tell profile_1_0 order o octets f e)
      | inr x ↦ (let v = x.0.0 in
          let t = found profile_1_0 order o octets v x.0.1 x.0.2 x.1 in
          inr (v, t.front, x.0.2, t.parts, t.holds, tell (type_of v) order o octets f x.2))
    ]

body_fails : SpelledIsRead → StopsAreFaults → (order : Order) (o : ℕ) (octets : List ℕ) (f : Fault) → StopsBody order o octets f → body_at order o octets ≡ Err f
unfolding body_at
body_fails only fail order o octets f (inl h) = rw (fail profile_1_0 order o octets f h) refl
body_fails only fail order o octets f (inr h) =
    let head = ap (value_at profile_1_0 order o) h.3 ∙ only profile_1_0 order h.0 o h.1 h.2 h.4 in
    rw (head, fail (type_of h.0) order o octets f h.5) refl

pub profiles_stop : ReadIsSpelled → SpelledIsRead → FaultsStop → StopsAreFaults → ProfilesStop
profiles_stop found only tell fail octets f = (enclosed_tells StopsBody body_at octets f (body_tells found tell), enclosed_fails StopsBody body_at octets f (body_fails only fail))
