-- How many octets partial messages hold.
use Rattle.std.proofs.Common.{◌≡◌, ℕ, ◌+◌, ◌*◌, ◌≤◌, ◌<◌, Bool, List, [], ◌∷◌, Option, Some, None, length, drop, get_or, refl, sym, ap, subst, ◌∙◌, arith, vec_len, length-drop}
use Rattle.std.proofs.Math.Nat.{mul-le-mul_left}
use Rattle.std.proofs.lemmas.List.{drop_more}
use Rattle.giop_core.specs.declared.header.Header.{Header}
use Rattle.giop_core.specs.declared.message.Places.{Places}
use Rattle.giop_frames.specs.declared.limits.Limits.{Limits}
use Rattle.giop_frames.specs.declared.partial.Part.{Part}
use Rattle.giop_frames.specs.Standing.{AreShort, AreWithin, IsBounded, entries, frame_held, message_at, parts_held, pending_at}
use Rattle.giop_frames.specs.Streams.{Entry, Stands}
use Rattle.giop_frames.specs.Private.{Needs, IsKept, IsSound}
use Rattle.giop_frames.proofs.Bounds.{waiting-within}
use Rattle.giop_frames.proofs.Needs.{needs-nothing, needs-waits}
use Rattle.giop_frames.proofs.Standing.{stands-empty}

short-held : (limits : Limits) (ps : List Entry) → AreShort limits ps → parts_held ps ≤ limits.message * length ps
short-held limits [] s = omega arith
short-held limits (p ∷ ps) s = omega (arith, s.0, short-held limits ps s.1)

pub held-within : (limits : Limits) (ps : List Entry) → AreWithin limits ps → parts_held ps ≤ limits.message * limits.partials
held-within limits ps w = omega (arith, short-held limits ps w.each, mul-le-mul_left limits.message w.count)

-- within 2 ^ 28, so that no sum wraps
pub held-small : (limits : Limits) (ps : List Entry) → AreWithin limits ps → parts_held ps ≤ 268435456
held-small limits ps w =
    let m = limits.message_in_range in
    let p = limits.partials_in_range in
    omega (arith, held-within limits ps w, mul-le-mul_left limits.message p.1, m.1)

pub part-held : (p : Part) (ps : List Part) → parts_held (entries (p ∷ ps)) ≡ vec_len p.octets + parts_held (entries ps)
part-held p ps = omega (arith, p.headed, length-drop 12 p.octets.items)

-- one part more is counted
pub held-more : (ps : List Part) (i : ℕ) (d : Part) → i < length ps → parts_held (entries (drop i ps)) ≡ vec_len (get_or ps i d).octets + parts_held (entries (drop (i + 1) ps))
held-more ps i d h = ap (λ (qs : List Part). parts_held (entries qs)) (drop_more ps i d h) ∙ part-held (get_or ps i d) (drop (i + 1) ps)

-- the frame that is not whole, or the message that is lent
pub frame-within : (limits : Limits) (complete : Option Header) (b : List ℕ) (needed : ℕ) → Needs limits (pending_at complete b) needed → IsKept limits complete b → length b ≤ limits.message
frame-within limits None b needed needs kept = waiting-within limits b (needs-waits limits b needed needs)
frame-within limits (Some h) b needed needs kept = kept.within

pub frame-held : (limits : Limits) (complete : Option Header) (b : List ℕ) (needed : ℕ) → Needs limits (pending_at complete b) needed → IsKept limits complete b → frame_held (message_at complete b) (pending_at complete b) ≤ limits.message
frame-held limits None b needed needs kept = frame-within limits None b needed needs kept
frame-held limits (Some h) b needed needs kept = omega (arith, length-drop 12 b, kept.headed, kept.within)

-- all that an assembler with these fields holds
pub bounded : (limits : Limits) (failed : Bool) (complete : Option Header) (b : List ℕ) (needed : ℕ) (ps : List Entry) → Needs limits (pending_at complete b) needed → IsKept limits complete b → AreWithin limits ps
    → IsBounded (record { limits = limits; failed = failed; pending = pending_at complete b; parts = ps; message = message_at complete b })
bounded limits failed complete b needed ps needs kept within =
    let frame = frame-held limits complete b needed needs kept in
    record { frame = frame; parts = within; all = omega (arith, frame, held-within limits ps within) }

pub held-fits : (limits : Limits) (complete : Option Header) (b : List ℕ) (needed : ℕ) (ps : List Entry) (n m : ℕ) → n ≡ length b → m ≡ parts_held ps → Needs limits (pending_at complete b) needed → IsKept limits complete b → AreWithin limits ps → n + m ≤ 536870912
held-fits limits complete b needed ps n m is same needs kept w =
    let all = limits.message_in_range in
    omega (arith, is, same, all.1, frame-within limits complete b needed needs kept, held-small limits ps w)

-- an assembler that holds nothing

pub sound-nothing : (limits : Limits) (failed : Bool) (b : List ℕ) (places : Places) (ps : List Entry) → b ≡ [] → ps ≡ [] → IsSound limits failed None b places 12 ps
sound-nothing limits failed b places ps e is = record {
  needs = subst (λ (x : List ℕ). Needs limits x 12) (sym e) (needs-nothing limits);
  kept = tt;
  placed = tt;
  within = subst (AreWithin limits) (sym is) (record { count = omega arith; each = tt });
  silent = λ f. (refl, e, is);
}

pub stands-nothing : (limits : Limits) (b : List ℕ) (ps : List Entry) → b ≡ [] → ps ≡ [] → Stands limits b ps []
stands-nothing limits b ps e is = subst (λ (x : List ℕ). Stands limits x ps []) (sym e) (subst (λ (qs : List Entry). Stands limits [] qs []) (sym is) (stands-empty limits))
