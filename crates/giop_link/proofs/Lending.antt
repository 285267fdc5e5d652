-- What a live link lends.
use Rattle.std.proofs.Common.{◌≡◌, false, List, Option, Some, None, Result, Ok, IsOk, refl, sym, ap, subst, ◌∙◌}
use Rattle.std.specs.List.{list_any}
use Rattle.giop_core.specs.declared.header.Version.{Version}
use Rattle.giop_core.specs.Content.{Content}
use Rattle.giop_core.specs.Places.{Headed, said_by}
use Rattle.giop_core.specs.Said.{IsSaid}
use Rattle.giop_core.specs.declared.reading.Said.{Said}
use Rattle.giop_core.specs.declared.reading.Said.TheVariants as said
use Rattle.giop_frames.specs.Frames.{Frame}
use Rattle.giop_frames.specs.Standing.{frame_of}
use Rattle.giop_link.specs.declared.awaited.Outstanding.{Outstanding}
use Rattle.giop_link.specs.declared.awaited.Wanted.TheVariants as wanted
use Rattle.giop_link.specs.declared.error.LinkFault.{LinkFault}
use Rattle.giop_link.specs.declared.listener.PeerEnd.{PeerEnd}
use Rattle.giop_link.specs.Answering.{Answer, located, replied}
use Rattle.giop_link.specs.Hearing.{Ending, Sound, ends, says, sound_of, sound_read}
use Rattle.giop_link.specs.Ids.{is_of, without}
use Rattle.giop_link.specs.Listening.{IsTurn, spoken, spoken_by, turned}
use Rattle.giop_link.specs.Private.{answered_one, settled_left, settles}
use Rattle.giop_link.proofs.Turns.{reads-as}

-- a message that was read is what its octets say
pub read-spoken : {H : Type 0} (meaning : Version → Content → Sound H) (m : Option Frame) (x : Headed) → Some (frame_of x) ≡ m → spoken (sound_of meaning (frame_of x)) ≡ spoken_by meaning m
read-spoken meaning m x is = ap (spoken_by meaning) is

pub heard-as : {H : Type 0} (meaning : Version → Content → Sound H) (x : Headed) (m : Content) → said_by x ≡ Ok m → sound_of meaning (frame_of x) ≡ meaning x.header.version m
unfolding sound_of
heard-as meaning x m is = ap (sound_read meaning x.header.version) is

-- what it says by its kind is lent of the same message
module _ (x r : Headed) (s : Said) (k : IsSaid x s) where
  pub said-request : s ≡ said.Request r → r ≡ x
  said-request is = (subst (IsSaid x) is k).1

  pub said-reply : s ≡ said.Reply r → r ≡ x
  said-reply is = (subst (IsSaid x) is k).1

  pub said-locate-request : s ≡ said.LocateRequest r → r ≡ x
  said-locate-request is = (subst (IsSaid x) is k).1

  pub said-locate-reply : s ≡ said.LocateReply r → r ≡ x
  said-locate-reply is = (subst (IsSaid x) is k).1

-- nothing is heard in a message of a kind that is not
no-sound : {H : Type 0} (μ : Sound H) (r : Result (Option PeerEnd) LinkFault) → turned μ ≡ r → (r ≡ Ok None → ⊥) → (e : Ending) × (μ ≡ ends e)
no-sound (says m) r is never = absurd (never (sym is))
no-sound (ends e) r is never = (e, refl)

pub unheard : {H : Type 0} (meaning : Version → Content → Sound H) (x : Headed) (r : Result (Option PeerEnd) LinkFault) → IsOk (said_by x) → IsTurn meaning x.header.kind r → (r ≡ Ok None → ⊥) → (e : Ending) × (sound_of meaning (frame_of x) ≡ ends e)
unheard meaning x r ok turn never =
    let y = reads-as meaning (frame_of x) ok in
    no-sound (sound_of meaning (frame_of x)) r (ap turned y.1 ∙ turn x.header.version y.0 y.2) never

-- and the id that it answers is looked for
pub settles-by : (μ : Sound Answer) (o : Outstanding) (os : List Outstanding) → answered_one μ ≡ Some o
    → (settles (spoken μ) os ≡ list_any (is_of o.id (Some o.wanted)) os) × (settled_left (spoken μ) os ≡ without (is_of o.id (Some o.wanted)) os)
settles-by (says (replied id shown)) o os is =
    let at : record { id = id; wanted = wanted.Reply } ≡ o = cc in
    (ap (λ (p : Outstanding). list_any (is_of p.id (Some p.wanted)) os) at, ap (λ (p : Outstanding). without (is_of p.id (Some p.wanted)) os) at)
settles-by (says (located id shown)) o os is =
    let at : record { id = id; wanted = wanted.Location } ≡ o = cc in
    (ap (λ (p : Outstanding). list_any (is_of p.id (Some p.wanted)) os) at, ap (λ (p : Outstanding). without (is_of p.id (Some p.wanted)) os) at)
settles-by (ends e) o os is = absurd (let k : None ≡ Some o = is in cc)

-- what is no answer takes nothing out
pub settles-none : (μ : Sound Answer) (os : List Outstanding) → answered_one μ ≡ None → (settles (spoken μ) os ≡ false) × (settled_left (spoken μ) os ≡ os)
settles-none (says (replied id shown)) os is = absurd (let k : Some (record { id = id; wanted = wanted.Reply }) ≡ None = is in cc)
settles-none (says (located id shown)) os is = absurd (let k : Some (record { id = id; wanted = wanted.Location }) ≡ None = is in cc)
settles-none (ends e) os is = (refl, refl)
