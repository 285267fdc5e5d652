-- References and profiles that can be written fit their types, and are written as octets.
use Rattle.std.proofs.Common.{◌≡◌, ℕ, zero, suc, ◌<◌, ◌^◌, false, List, [], ◌∷◌, length, pos, refl, arith}
use Rattle.std.proofs.lemmas.Bool.Decides.{nat_tests}
use Rattle.std.proofs.lemmas.Int.{ints}
use Rattle.cdr_core.specs.declared.order.Order.TheVariants.{Big}
use Rattle.cdr_core.specs.Fitting.{AllFit, Fits, InRange}
use Rattle.cdr_core.specs.Form as form
use Rattle.cdr_core.specs.Numbers.{AreOctets}
use Rattle.cdr_core.specs.Parts.{raw, text}
use Rattle.cdr_core.specs.Value as value
use Rattle.cdr_core.specs.Writing.{octets_of, AreWritable, IsWritable}
use Rattle.cdr_core.proofs.WrittenOctets.{written_octets}
use Rattle.cdr_core.specs.Octets.{HoldAll}
use Rattle.ior_core.specs.declared.profile.IiopProfile.{IiopProfile}
use Rattle.ior_core.specs.declared.reference.Ior.{Ior}
use Rattle.ior_core.specs.declared.tagged.Tagged.{Tagged}
use Rattle.ior_core.specs.Grammar.{reference, tagged, tagged_list}
use Rattle.ior_core.specs.Private.{is_0, AreOfCode}
use Rattle.ior_core.specs.Profiles.{iiop_body, type_of, IsWritableProfile}
use Rattle.ior_core.specs.View.{ior_value, list_value, tagged_values}

octet_fits : (n : ℕ) → n < 256 → InRange form.octet (pos n)
octet_fits n lt = (omega (arith, ints), omega (arith, ints, lt))

ushort_fits : (n : ℕ) → n < 2 ^ 16 → InRange form.ushort (pos n)
ushort_fits n lt = (omega (arith, ints), omega (arith, ints, lt))

ulong_fits : (n : ℕ) → n < 2 ^ 32 → InRange form.ulong (pos n)
ulong_fits n lt = (omega (arith, ints), omega (arith, ints, lt))

text_fits : (all : List ℕ) → IsWritable (value.string all) → Fits text (value.string all)
text_fits all h = (omega (arith, h.0), h.0, h.1)

raw_fits : (all : List ℕ) → length all < 2 ^ 32 → Fits raw (value.octets all)
raw_fits all h = (omega (arith, h), h)

each_fits : (all : List Tagged) → AreOfCode all → AreWritable (tagged_values all) → AllFit (Fits tagged) (tagged_values all)
each_fits [] are h = tt
each_fits (t ∷ all) are h = (((refl, ulong_fits t.tag are.0.0), (raw_fits t.octets.items h.0.1.0, tt)), each_fits all are.1 h.1)

list_fits : (all : List Tagged) → AreOfCode all → IsWritable (list_value all) → Fits tagged_list (list_value all)
list_fits all are h = (omega (arith, h.0), h.0, each_fits all are h.1)

pub reference_fits : (ior : Ior) → AreOfCode ior.profiles.items → IsWritable (ior_value ior) → Fits reference (ior_value ior)
reference_fits ior are h = (text_fits ior.type_id.items h.0, (list_fits ior.profiles.items are h.1.0, tt))

hold_all : (all : List Tagged) → AreOfCode all → HoldAll (tagged_values all)
hold_all [] are = tt
hold_all (t ∷ all) are = ((tt, (are.0.1, tt)), hold_all all are.1)

pub reference_octets : (ior : Ior) → AreOctets ior.type_id.items → AreOfCode ior.profiles.items → AreOctets (octets_of Big (ior_value ior) 1)
reference_octets ior id are = written_octets Big (ior_value ior) (id, (hold_all ior.profiles.items are, tt)) 1

has_components : (n : ℕ) → is_0 (suc n) ≡ false
has_components n = grind (arith, nat_tests)

pub profile_fits : (p : IiopProfile) → p.minor < 256 → p.port < 2 ^ 16 → AreOfCode p.components.items → IsWritableProfile p → Fits (type_of (iiop_body p)) (iiop_body p)
profile_fits p minor port are h = by p.minor minor h
  where
    by : (minor : ℕ) → minor < 256 → IsWritableProfile (record p { minor = minor }) → Fits (type_of (iiop_body (record p { minor = minor }))) (iiop_body (record p { minor = minor }))
    by zero lt h =
        let w = h.0.1.1 in
        ((refl, octet_fits 1 (omega arith)), ((refl, octet_fits 0 lt), (text_fits p.host.items w.0, ((refl, ushort_fits p.port port), (raw_fits p.object_key.items w.1.1.0, tt)))))
    by (suc n) lt h =
        let w = h.0.1.1 in
        rw (has_components n) ((refl, octet_fits 1 (omega arith)), ((refl, octet_fits (suc n) lt), (text_fits p.host.items w.0, ((refl, ushort_fits p.port port), (raw_fits p.object_key.items w.1.1.0, (list_fits p.components.items are w.1.1.1.0, tt))))))
