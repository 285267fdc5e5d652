-- Opening a server of the objects of a catalogue.
use Rattle.std.specs.Prelude.{◌≡◌, ℤ, pos, Option, Some, None, Result, Ok, Err}
use Rattle.lemonrudder.specs.declared.object.Object.{Object}
use Rattle.lemonrudder.specs.declared.object.Object.TheVariants.{Catalogue, Server}
use Rattle.lemonrudder.specs.declared.refusal.Refusal.{Refusal}
use Rattle.lemonrudder.specs.declared.refusal.Refusal.TheVariants as refusal
use Rattle.lemonrudder.specs.declared.seed.Seed.{Seed}
use Rattle.lemonrudder.specs.declared.serving.Serving.{Serving}
use Rattle.lemonrudder.specs.declared.terms.Terms.{Terms}
use Rattle.lemonrudder.specs.Limited.{limited, usual}
use Rattle.lemonrudder.specs.Openings.{IsNew}
use Rattle.lemonrudder.specs.Refusals.{error_number}

-- a new server of the objects and families of a catalogue, within the limits that hold where nothing is set; where memory is short, or
-- it is no catalogue, the object is as it was
abbrev pub Hosts : Seed → (before after : Object) → Result (Unit {0}) Refusal → Type 0
Hosts seed (Catalogue s) after (Ok x) = (t : Serving) × (terms : Terms) × (after ≡ Server t) × (limited terms ≡ usual) × (terms.seed ≡ seed) × IsNew s.families terms t
Hosts seed (Catalogue s) after (Err e) = (e ≡ refusal.Memory) × (after ≡ Catalogue s)
Hosts seed before after (Ok x) = ⊥
Hosts seed before after (Err e) = (e ≡ refusal.Empty) × (after ≡ before)

-- the object of a slot becomes such a server, and leaves the slot; or the slot is as it was
abbrev pub Leaves : Seed → (catalogue left : Option Object) → Result Object Refusal → Type 0
Leaves seed (Some x) left (Ok o) = (left ≡ None) × Hosts seed x o (Ok tt)
Leaves seed (Some x) left (Err e) = (left ≡ Some x) × Hosts seed x x (Err e)
Leaves seed None left (Ok o) = ⊥
Leaves seed None left (Err e) = (left ≡ None) × (e ≡ refusal.Empty)

-- it is put into the slot of the server, which is empty, or refused
abbrev pub Moves : Option Object → Result Object Refusal → ℤ → Type 0
Moves opened (Ok o) answer = (answer ≡ pos 0) × (opened ≡ Some o)
Moves opened (Err e) answer = (answer ≡ error_number e) × (opened ≡ None)

-- A server is opened, and leaves the slot of its catalogue empty. It is not where its slot is in use, and where there is no catalogue,
-- in this order, nor where memory is short; both slots are as they were then.
abbrev pub OpensServer : Seed → (server opened catalogue left : Option Object) → ℤ → Type 0
OpensServer seed (Some x) opened catalogue left answer = (answer ≡ error_number refusal.Open) × (opened ≡ Some x) × (left ≡ catalogue)
OpensServer seed None opened catalogue left answer = (r : Result Object Refusal) × Leaves seed catalogue left r × Moves opened r answer
