-- What a listener lends to a reader beside the connection, and what octets bring.
use Rattle.std.proofs.Common.{◌≡◌, ℕ, List, [], ◌∷◌, length, drop, Option, Some, None, IsSomeAnd, refl, sym, ap, ◌∙◌}
use Rattle.std.proofs.Math.Seq.{drop-append_seam}
use Rattle.giop_core.specs.declared.message.Message.{Message}
use Rattle.giop_core.specs.Content.{Content}
use Rattle.giop_core.specs.Lent as lent
use Rattle.giop_frames.specs.declared.limits.Limits.{Limits}
use Rattle.giop_frames.specs.Frames.{Frame}
use Rattle.giop_frames.specs.Standing.{IsLent}
use Rattle.giop_link.specs.declared.listener.PeerEnd.{PeerEnd}
use Rattle.giop_link.specs.Hearing.{Sound, sound_of, sound_read}
use Rattle.giop_link.specs.Listening.{Brings, Listened, heard_in, lent_by, spoken, spoken_by, told_with}
use Rattle.giop_tap.specs.Tracing.{counts, news, said_in}

-- what is lent is what the octets bring
pub brought : (limits : Limits) (s t : List ℕ) (m : Option (Sound Content)) → Brings counts limits s t m → news limits s t ≡ heard_in m
brought limits s t m is = ap (λ (xs : List Content). drop (length (said_in limits s)) xs) is.heard_is ∙ drop-append_seam (said_in limits s) (heard_in m)

end-is-silent : (end : Option PeerEnd) → heard_in (told_with end (spoken_by counts None)) ≡ []
end-is-silent None = refl
end-is-silent (Some p) = refl

-- where no message is lent, none is brought
pub silent : (l : Listened) → l.message ≡ None → heard_in (lent_by counts l) ≡ []
silent l is = ap (λ (m : Option Frame). heard_in (told_with l.end (spoken_by counts m))) is ∙ end-is-silent l.end

-- a message that is lent where no end is
pub lent-alone : (l : Listened) → l.end ≡ None → heard_in (lent_by counts l) ≡ heard_in (spoken_by counts l.message)
lent-alone l is = ap (λ (e : Option PeerEnd). heard_in (told_with e (spoken_by counts l.message))) is

-- and where none is lent
pub lent-none : (l : Listened) → l.message ≡ None → heard_in (lent_by counts l) ≡ heard_in (spoken_by counts l.message)
lent-none l is = silent l is ∙ sym (ap (λ (m : Option Frame). heard_in (spoken_by counts m)) is)

pub said : (m : Option Frame) (x : Message) → IsSomeAnd m (λ f. IsLent x f) → heard_in (spoken_by counts m) ≡ lent.content_of x.content ∷ []
unfolding sound_of
said None x is = absurd is
said (Some f) x is = ap (λ r. heard_in (spoken (sound_read counts f.header.version r))) is.content

-- and a message that is lent is the one that is brought
pub spoken-here : (l : Listened) (x : Message) → l.end ≡ None → IsSomeAnd l.message (λ f. IsLent x f) → heard_in (lent_by counts l) ≡ lent.content_of x.content ∷ []
spoken-here l x none is = ap (λ (e : Option PeerEnd). heard_in (told_with e (spoken_by counts l.message))) none ∙ said l.message x is
