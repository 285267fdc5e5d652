-- What a trace lends is the latest message of all.
use Rattle.std.proofs.Common.{◌≡◌, List, [], ◌∷◌, Option, Some, None, IsSomeAnd, sym, ap, subst, ◌∙◌}
use Rattle.giop_core.specs.declared.message.Message.{Message}
use Rattle.giop_core.specs.Content.{Content}
use Rattle.giop_core.specs.Lent as lent
use Rattle.giop_frames.specs.Frames.{Frame}
use Rattle.giop_frames.specs.Standing.{IsLent}
use Rattle.giop_link.specs.Listening.{heard_in, spoken_by}
use Rattle.giop_tap.specs.declared.sender.Sender.{Sender}
use Rattle.giop_tap.specs.Pairing.{Said}
use Rattle.giop_tap.specs.Remembered.{tie_of}
use Rattle.giop_tap.specs.Tracing.{IsLatest, IsLentLast, Paired, PairsStand, Talk, TraceStands, Traced, counts, end_of, lent_from, lent_of}
use Rattle.giop_tap.proofs.News.{said}

-- where no side lends, nothing is lent
pub lent-of-none : (x : Traced) → x.lends ≡ None → lent_of x ≡ []
lent-of-none x is = ap (λ (l : Option Sender). lent_from l x) is

-- nor where a side lends nothing
pub lent-of-silent : (x : Traced) (sender : Sender) → x.lends ≡ Some sender → (end_of sender x).message ≡ None → lent_of x ≡ []
lent-of-silent x sender lends is = ap (λ (l : Option Sender). lent_from l x) lends ∙ silent-end (end_of sender x).message is
  where
    silent-end : (m : Option Frame) → m ≡ None → heard_in (spoken_by counts m) ≡ []
    silent-end m is = ap (λ (m : Option Frame). heard_in (spoken_by counts m)) is

lent-said : (x : Traced) (sender : Sender) (m : Message) → x.lends ≡ Some sender → IsSomeAnd (end_of sender x).message (λ f. IsLent m f) → lent_of x ≡ lent.content_of m.content ∷ []
lent-said x sender m lends has = ap (λ (l : Option Sender). lent_from l x) lends ∙ said (end_of sender x).message m has

-- what a side lends is the latest
pub latest-seen : (x : Traced) (t : Talk) (sender : Sender) (m : Message) → TraceStands x t → x.lends ≡ Some sender → IsSomeAnd (end_of sender x).message (λ f. IsLent m f)
    → IsLatest (record { connection = x.connection; sender = sender; content = lent.content_of m.content }) t.earlier
latest-seen x t sender m stands lends has =
    subst (λ (l : Option Sender). IsLentLast x.connection l (lent.content_of m.content ∷ []) t.earlier) lends
    (subst (λ (ms : List Content). IsLentLast x.connection x.lends ms t.earlier) (lent-said x sender m lends has) stands.lent_is)

-- and what it has to do with others is known
pub untied : (p : Paired) (ms : List Said) (m : Said) → PairsStand p ms → p.last ≡ None → IsLatest m ms → ⊥
untied p [] m stands none latest = latest
untied p (n ∷ earlier) m stands none latest = let h : None ≡ Some (tie_of p.keyed.most n earlier) = sym none ∙ stands.last_is in cc
