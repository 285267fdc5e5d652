use Rattle.std.proofs.Common.{◌≡◌, ℕ, List, get_or, Option, Some, sym, ap, ◌∙◌}
use Rattle.std.specs.List.{position}
use Rattle.giop_frames.specs.declared.partial.Key.TheVariants.{Of11}
use Rattle.giop_frames.specs.declared.partial.Part.{Part}
use Rattle.giop_frames.specs.Fragments.{Partial, is_cancelled, is_number}
use Rattle.giop_frames.specs.Naming.{id_in}
use Rattle.giop_frames.specs.Standing.{entry_of, entries}
use Rattle.giop_frames.specs.Streams.{part_in}
use Rattle.giop_frames.proofs.Found.{entries-set, of_key, place-none, place-some}
use Rattle.giop_frames.proofs.partial.Part.is_named.Goals as goal

-- the id that is read is that of the part that was found
named-is : (id : ℕ) (ps : List Part) (at : ℕ) (p : Part) (slice : List ℕ) (o : Option ℕ) → Some at ≡ position (of_key Of11) ps → p ≡ get_or ps at p → slice ≡ p.octets.items → o ≡ id_in p.header.order slice
    → is_number id o ≡ is_cancelled id Of11 (part_in (entries ps) Of11)
named-is id ps at p slice o found is same read =
    let there : part_in (entries ps) Of11 ≡ Some (entry_of p).part = (place-some Of11 ps at (sym found)).part p ∙ ap (λ (q : Part). Some (entry_of q).part) (sym is) in
    ap (is_number id) (read ∙ ap (id_in p.header.order) same) ∙ sym (ap (is_cancelled id Of11) there)

pub returns-in_default-clause-named : goal.returns-in_default-clause-named
returns-in_default-clause-named c = sym (ap (λ (o : Option Partial). is_cancelled c.args.id Of11 o) (place-none Of11 c.args.parts.now.items (ap (position (of_key Of11)) (sym c.as_slice.ensures.value) ∙ sym c.in_default.ensures)))

pub returns-clause-parts : goal.returns-clause-parts
returns-clause-parts c = entries-set c.args.parts.now.items c.in-Some.at _ c.index_mut-part.result.now (ap entry_of c.index_mut-part.ensures.value)

pub returns-clause-named : goal.returns-clause-named
returns-clause-named c =
    c.is.ensures ∙ named-is c.args.id c.args.parts.now.items c.in-Some.at c.index_mut-part.result.now c.as_slice-2.result.now _
    (c.in-Some.ensures ∙ ap (position (of_key Of11)) c.as_slice.ensures.value) c.index_mut-part.ensures.value c.as_slice-2.ensures.value c.read_on-part.ensures.id
