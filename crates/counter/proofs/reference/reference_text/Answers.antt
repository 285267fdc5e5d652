use Rattle.std.proofs.Common.{◌≡◌, List, ℕ, ◌++◌, string_bytes, IfOk, ap, refl, subst, ◌∙◌}
use Rattle.cdr_core.specs.Value.{Value}
use Rattle.ior_core.specs.Profiles.{iiop_body}
use Rattle.ior_core.specs.Text.{reference_text}
use Rattle.ior_core.specs.Writing.{encapsulation_of}
use Rattle.counter.specs.Addresses.{counter_profile}
use Rattle.counter.proofs.Addresses.{reference-is}
use Rattle.counter.proofs.reference.reference_text.Goals as goal

pub returns : goal.returns
returns c =
    let octets : c.write_iiop.new.out.items ≡ encapsulation_of (counter_profile c.args.port) =
    c.in_ok-write_iiop.ensures.ok ∙ ap (λ (xs : List ℕ). xs ++ encapsulation_of (iiop_body c.in_ok-profile_at.field-0)) c.new-octets.ensures.items
    ∙ ap (λ (v : Value). encapsulation_of v) c.in_ok-profile_at.ensures.1 in
    subst (λ (v : Value). IfOk c.print_text.result (λ text. string_bytes text ≡ reference_text v))
    (reference-is c.args.port _ _ _ c.in_ok-from_slice.ensures.items c.in_ok-vec.ensures.items refl octets) c.print_text.ensures
