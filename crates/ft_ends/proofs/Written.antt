-- What a server writes are the octets of what it says.
use Rattle.std.proofs.Common.{◌≡◌, ℕ, List, [], ◌∷◌, ◌++◌, refl, sym, ap, ◌∙◌, append_assoc, flat_map}
use Rattle.ft_client.specs.Directions.{stream}
use Rattle.ft_objects.specs.Servants.{Meaning}
use Rattle.ft_orb.specs.Tellings.{Telling, octets_told}
use Rattle.ft_ends.specs.Laws.{TellingsAreWritten}
use Rattle.ft_ends.specs.Tellings.{law_told}

pub stream-append : {W : Type 0} (f : W → List ℕ) (xs ys : List W) → stream f (xs ++ ys) ≡ stream f xs ++ stream f ys
stream-append f [] ys = refl
stream-append f (x ∷ xs) ys = ap (λ (o : List ℕ). f x ++ o) (stream-append f xs ys) ∙ sym (append_assoc (f x) (stream f xs) (stream f ys))

each-written : (ts : List Telling) → stream octets_told ts ≡ flat_map octets_told ts
each-written [] = refl
each-written (t ∷ ts) = ap (λ (o : List ℕ). octets_told t ++ o) (each-written ts)

pub tellings-are-written : {State : Type 0} (meaning : Meaning State) → TellingsAreWritten meaning
tellings-are-written meaning made past e = each-written (law_told meaning made past e)
