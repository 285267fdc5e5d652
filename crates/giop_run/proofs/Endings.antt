-- How a stream ends.
use Rattle.std.proofs.Common.{◌≡◌, ◌≢◌, ℕ, zero, suc, ◌+◌, ◌<◌, ◌==◌, ◌&&◌, Bool, true, false, if◌then◌else◌, List, length, take, drop, Some, None, Result, Ok, Err, IfOk, refl, sym, ap, subst, ◌∙◌, arith}
use Rattle.std.proofs.lemmas.Bool.{and_parts, eqb-true}
use Rattle.std.proofs.lemmas.List.{take-append-drop}
use Rattle.giop_run.specs.declared.stop.Stop.{Stop}
use Rattle.giop_run.specs.declared.stream.Ending.TheVariants.{Clean, Rest, Fault}
use Rattle.giop_run.specs.declared.stream.Summary.{Summary}
use Rattle.giop_run.specs.Private.{ending_with}
use Rattle.giop_run.specs.StreamEnds.{IsEnding, IsSummary}
use Rattle.giop_frames.specs.declared.fault.StreamFault.{StreamFault}
use Rattle.giop_frames.specs.declared.fault.StreamFault.TheVariants as fault
use Rattle.giop_frames.specs.declared.limits.Limits.{Limits}
use Rattle.giop_frames.specs.Fragments.{partials_in}
use Rattle.giop_frames.specs.Standing.{IsFault, Standing}
use Rattle.giop_frames.specs.Streams.{fault_of, frames_of, messages_of, rest_of, Faults}

-- a fault that is reported is that of the stream
pub reported_fault : (limits : Limits) (s c : List ℕ) (e : StreamFault) → e ≢ fault.Memory → IsFault limits s c e → Faults limits s c e
reported_fault limits s c fault.Memory n h = absurd (n refl)
reported_fault limits s c fault.Failed n h = absurd h
reported_fault limits s c (fault.Header x) n h = h
reported_fault limits s c fault.TooLarge n h = h
reported_fault limits s c fault.UnalignedFragment n h = h
reported_fault limits s c fault.StrayFragment n h = h
reported_fault limits s c fault.TwiceStarted n h = h
reported_fault limits s c fault.TooManyPartial n h = h
reported_fault limits s c (fault.Body x) n h = h
reported_fault limits s c fault.MixedOrder n h = h

-- how a stream ends that is refused
pub refused : (limits : Limits) (octets : List ℕ) (k : ℕ) (a : Standing) (e : StreamFault) (messages : ℕ) → a.limits ≡ limits → e ≢ fault.Memory
    → IsFault a.limits (take k octets) (drop k octets) e → messages ≡ length (messages_of limits (take k octets)) → (fault_of limits octets ≡ Some e) × (messages ≡ length (messages_of limits octets))
refused limits octets k a e messages same not h count =
    let f = reported_fault limits (take k octets) (drop k octets) e not (subst (λ l. IsFault l (take k octets) (drop k octets) e) same h) in
    let all = take-append-drop k octets in
    (subst (λ xs. fault_of limits xs ≡ Some e) all f.is, count ∙ ap length (sym f.same) ∙ ap (λ xs. length (messages_of limits xs)) all)

pub ended : (limits : Limits) (octets : List ℕ) (k : ℕ) (a : Standing) (e : StreamFault) (messages : ℕ) → a.limits ≡ limits
    → IsFault a.limits (take k octets) (drop k octets) e → messages ≡ length (messages_of limits (take k octets))
    → (r : Result Summary Stop) → IfOk r (λ x. (x.messages ≡ messages) × (x.ending ≡ Fault e) × (e ≢ fault.Memory)) → IfOk r (IsSummary limits octets)
ended limits octets k a e messages same h count (Err stop) is = tt
ended limits octets k a e messages same h count (Ok x) is =
    let f = refused limits octets k a e messages same is.2 h count in
    (is.0 ∙ f.1, rw is.1 f.0)

-- two numbers that are not both 0
positive : (a b : ℕ) → (a == 0 && b == 0) ≡ false → 0 < a + b
positive zero zero e = absurd cc
positive zero (suc b) e = omega arith
positive (suc a) b e = omega arith

-- how a stream ends that is not refused
ending_by : (limits : Limits) (s : List ℕ) (octets partial : ℕ) (b : Bool) → (octets == 0 && partial == 0) ≡ b → fault_of limits s ≡ None → octets ≡ length (rest_of limits s) → partial ≡ partials_in (frames_of limits s)
    → IsEnding limits s (if b then Clean else Rest octets partial)
ending_by limits s octets partial true e f o p =
    let none = and_parts (octets == 0) (partial == 0) e in
    (f, sym o ∙ eqb-true octets 0 none.0, sym p ∙ eqb-true partial 0 none.1)
ending_by limits s octets partial false e f o p = (f, o, p, positive octets partial e)

pub ended_with : (limits : Limits) (s : List ℕ) (octets partial : ℕ) → fault_of limits s ≡ None → octets ≡ length (rest_of limits s) → partial ≡ partials_in (frames_of limits s)
    → IsEnding limits s (ending_with octets partial)
ended_with limits s octets partial = ending_by limits s octets partial (octets == 0 && partial == 0) refl
