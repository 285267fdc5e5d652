-- Structs and sequences of this grammar, part by part.
use Rattle.std.proofs.Common.{◌≡◌, ℕ, List, [], ◌∷◌, Ok}
use Rattle.cdr_core.specs.declared.order.Order.{Order}
use Rattle.cdr_core.proofs.Fields.{fields_at, sequence_is, structure_is}
use Rattle.cdr_core.specs.Parts.{most, octet, raw, text, ulong, ushort}
use Rattle.cdr_core.specs.Reading.{◌>>=◌, Read, each_at, length_at, value_at}
use Rattle.cdr_core.specs.Value as value
use Rattle.cdr_core.specs.Value.{Value, Values}
use Rattle.cdr_core.specs.View.{forms}
use Rattle.ior_core.specs.Grammar.{profile_1_0, reference, tagged, tagged_list}

pub tagged_is : (order : Order) (o : ℕ) (octets : List ℕ) → ◌≡◌ {A = Read Value} (value_at tagged order o octets) (fields_at (forms (ulong ∷ raw ∷ [])) order o octets >>= λ x. Ok (value.structure x.0, x.1, x.2))
tagged_is order o octets = structure_is (forms (ulong ∷ raw ∷ [])) order o octets

pub list_is : (order : Order) (o : ℕ) (octets : List ℕ) → ◌≡◌ {A = Read Value} (value_at tagged_list order o octets) (length_at order 0 most o octets >>= λ n. each_at (value_at tagged order) n.0 n.1 n.2 >>= λ x. Ok (value.sequence x.0, x.1, x.2))
list_is order o octets = sequence_is most tagged order o octets

pub reference_is : (order : Order) (o : ℕ) (octets : List ℕ) → ◌≡◌ {A = Read Value} (value_at reference order o octets) (fields_at (forms (text ∷ tagged_list ∷ [])) order o octets >>= λ x. Ok (value.structure x.0, x.1, x.2))
reference_is order o octets = structure_is (forms (text ∷ tagged_list ∷ [])) order o octets

pub profile_is : (order : Order) (o : ℕ) (octets : List ℕ) → ◌≡◌ {A = Read Value} (value_at profile_1_0 order o octets) (fields_at (forms (octet ∷ octet ∷ text ∷ ushort ∷ raw ∷ [])) order o octets >>= λ x. Ok (value.structure x.0, x.1, x.2))
profile_is order o octets = structure_is (forms (octet ∷ octet ∷ text ∷ ushort ∷ raw ∷ [])) order o octets
