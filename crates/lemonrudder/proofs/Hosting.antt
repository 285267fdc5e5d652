-- A server of the objects of a catalogue, in the words of the slots that hold both.
use Rattle.std.proofs.Common.{◌≡◌, ℤ, Bool, true, not, Option, Some, None, Result, Ok, refl, sym, subst}
use Rattle.ft_objects.specs.declared.families.Families.{Families}
use Rattle.lemonrudder.specs.declared.cataloguing.Cataloguing.{Cataloguing}
use Rattle.lemonrudder.specs.declared.object.Object.{Object}
use Rattle.lemonrudder.specs.declared.object.Object.TheVariants.{Catalogue, Server}
use Rattle.lemonrudder.specs.declared.refusal.Refusal.{Refusal}
use Rattle.lemonrudder.specs.declared.seed.Seed.{Seed}
use Rattle.lemonrudder.specs.declared.serving.Serving.{Serving}
use Rattle.lemonrudder.specs.declared.terms.Terms.{Terms}
use Rattle.lemonrudder.specs.Hosting.{Hosts, Leaves, Moves, OpensServer}
use Rattle.lemonrudder.specs.Limited.{limited, usual}
use Rattle.lemonrudder.specs.Openings.{IsNew}
use Rattle.lemonrudder.specs.Ownership.{is_held}

-- a catalogue became a server of the objects that it had
pub hosts_new : (seed : Seed) (terms : Terms) (o : Object) (s : Cataloguing) (f : Families) (t : Serving) → o ≡ Catalogue s → f ≡ s.families → limited terms ≡ usual → terms.seed ≡ seed → IsNew f terms t
    → Hosts seed o (Server t) (Ok tt)
hosts_new seed terms o s f t is same within by made =
    subst (λ x. Hosts seed x (Server t) (Ok tt)) (sym is) (t, terms, refl, within, by, subst (λ x. IsNew x terms t) same made)

pub not_held : (o : Option Object) (b : Bool) → b ≡ not (is_held o) → b ≡ true → o ≡ None
not_held None b is empty = refl
not_held (Some x) b is empty = absurd cc

pub opens_server : (seed : Seed) (slot opened catalogue left : Option Object) (r : Result Object Refusal) (answer : ℤ) → slot ≡ None
    → Leaves seed catalogue left r → Moves opened r answer → OpensServer seed slot opened catalogue left answer
opens_server seed slot opened catalogue left r answer none leaves moves =
    subst (λ x. OpensServer seed x opened catalogue left answer) (sym none) (r, leaves, moves)
