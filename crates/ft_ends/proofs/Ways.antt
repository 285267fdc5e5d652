-- Octets on their way, and connections.
use Rattle.std.proofs.Common.{◌≡◌, ℕ, ◌+◌, ◌-◌, min, List, [], ◌++◌, drop, length, take, Option, Some, None, refl, sym, ap, ◌∙◌, subst, append_assoc, arith, length-append}
use Rattle.std.proofs.lemmas.List.{append-nil, length-drop, length-take}
use Rattle.std.proofs.lemmas.Option.{same_Some}
use Rattle.std.proofs.Math.Seq.{drop-append-add}
use Rattle.ft_client.specs.Directions.{stream}
use Rattle.ft_client.specs.Messages.{Said, octets_said}
use Rattle.ft_ends.specs.declared.way.Way.{Way}
use Rattle.ft_ends.specs.declared.wire.Wire.{Wire as CodeWire}
use Rattle.ft_ends.specs.Private.{IsIdle, IsWay, IsWire, IsWireFor}
use Rattle.ft_orb.specs.Tellings.{Telling, octets_told}
use Rattle.ft_ends.specs.World.{Wire, extended}
use Rattle.ft_ends.proofs.Written.{stream-append}

-- what is left of all octets is what it holds after those that were delivered
pub way-left : (way : Way) (all : List ℕ) (went : ℕ) → IsWay way all went → drop went all ≡ drop way.delivered way.octets.items
way-left way all went h = ap (drop went) h.1 ∙ ap (λ (k : ℕ). drop k (h.0 ++ way.octets.items)) h.2 ∙ drop-append-add h.0 way.octets.items way.delivered

-- how many the next are
pub way-next : (way : Way) (all : List ℕ) (went count : ℕ) → IsWay way all went → length (take count (drop went all)) ≡ min count (length way.octets.items - way.delivered)
way-next way all went count h =
    ap (λ (o : List ℕ). length (take count o)) (way-left way all went h) ∙ length-take count (drop way.delivered way.octets.items) ∙ ap (min count) (length-drop way.delivered way.octets.items)

-- more was written
pub way-more : (old new : Way) (all more : List ℕ) (went : ℕ) → new.octets.items ≡ old.octets.items ++ more → new.delivered ≡ old.delivered → IsWay old all went → IsWay new (all ++ more) went
way-more old new all more went is at h =
    (h.0, ap (λ (o : List ℕ). o ++ more) h.1 ∙ append_assoc h.0 old.octets.items more ∙ ap (λ (o : List ℕ). h.0 ++ o) (sym is), h.2 ∙ ap (λ (k : ℕ). length h.0 + k) (sym at))

-- all were delivered, and none are kept
pub way-cleared : (old new : Way) (all : List ℕ) (went n : ℕ) → IsIdle new → old.delivered + n ≡ length old.octets.items → IsWay old all went → IsWay new all (went + n)
way-cleared old new all went n idle full h =
    let was = h.2 in
    let long = ap length h.1 ∙ length-append h.0 old.octets.items in
    let none = idle.delivered in
    (all, sym (append-nil all) ∙ ap (λ (o : List ℕ). all ++ o) (sym idle.octets), omega (arith, was, long, none, full))

-- the same octets at another name
pub way-same : (way : Way) (all other : List ℕ) (went : ℕ) → all ≡ other → IsWay way all went → IsWay way other went
way-same way all other went same h = subst (λ (o : List ℕ). IsWay way o went) same h

-- what is written first
pub way-first : (old new : Way) (all : List ℕ) → new.octets.items ≡ old.octets.items ++ all → new.delivered ≡ old.delivered → IsIdle old → IsWay new all 0
way-first old new all is at idle = ([], ap (λ (o : List ℕ). o ++ all) (sym idle.octets) ∙ sym is, (let none = idle.delivered in omega (arith, at, none)))

pub way-empty : (way : Way) (all : List ℕ) → all ≡ [] → IsIdle way → IsWay way all 0
way-empty way all none idle = ([], none ∙ sym idle.octets, (let zero = idle.delivered in omega (arith, zero)))

-- where nothing is said
pub extended-nothing : (o : Option Wire) → extended [] o ≡ o
extended-nothing None = refl
extended-nothing (Some x) = ap (λ (said : List Said). Some (record x { said = said })) (append-nil x.said)

module _ (tells : ℕ → List Telling) where
  -- a wire for a connection has its number
  pub its-number : (wire : CodeWire) (x : Wire) (n : ℕ) → wire.number ≡ Some n → IsWire tells wire x → n ≡ x.number
  its-number wire x n some h = same_Some n x.number (sym some ∙ h.number)

  -- more is said on a connection, and nothing where there is none
  pub wire-said : (old new : CodeWire) (o : Option Wire) (said : List Said) → new.number ≡ old.number → new.up.delivered ≡ old.up.delivered → new.down ≡ old.down
      → new.up.octets.items ≡ old.up.octets.items ++ stream octets_said said → (o ≡ None → said ≡ []) → IsWireFor tells old o → IsWireFor tells new (extended said o)
  wire-said old new None said number at down is none h = record {
    number = number ∙ h.number;
    up = record { octets = is ∙ (λ i. h.up.octets i ++ stream octets_said (none refl i)); delivered = at ∙ h.up.delivered };
    down = subst IsIdle (sym down) h.down;
  }
  wire-said old new (Some x) said number at down is none h = record {
    number = number ∙ h.number;
    up = way-same new.up (stream octets_said x.said ++ stream octets_said said) (stream octets_said (x.said ++ said)) x.went (sym (stream-append octets_said x.said said))
        (way-more old.up new.up (stream octets_said x.said) (stream octets_said said) x.went is at h.up);
    down = subst (λ w. IsWay w (stream octets_told (tells x.number)) x.came) (sym down) h.down;
  }

-- what is said on the connection is the same after an event elsewhere
pub wire-still : (tells other : ℕ → List Telling) (wire : CodeWire) (x : Wire) → other x.number ≡ tells x.number → IsWire tells wire x → IsWire other wire x
wire-still tells other wire x same h = record {
  number = h.number;
  up = h.up;
  down = way-same wire.down (stream octets_told (tells x.number)) (stream octets_told (other x.number)) x.came (ap (stream octets_told) (sym same)) h.down;
}
