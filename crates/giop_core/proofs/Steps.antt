-- One step of reading, over any types.
use Rattle.std.proofs.Common.{◌≡◌, ℕ, List, [], ◌∷◌, Ok, Err, refl}
use Rattle.cdr_core.specs.declared.fault.Fault.{Fault}
use Rattle.cdr_core.specs.declared.order.Order.{Order}
use Rattle.cdr_core.proofs.Fields.{fields_at, structure_is}
use Rattle.cdr_core.specs.Fitting.{IsValid}
use Rattle.cdr_core.specs.Form as form
use Rattle.cdr_core.specs.Form.{Form}
use Rattle.cdr_core.specs.Laws.{ReadFits}
use Rattle.cdr_core.specs.Numbers.{AreOctets}
use Rattle.cdr_core.specs.Parts.{long, raw, text, ulong, ulonglong}
use Rattle.cdr_core.specs.Reading.{◌>>=◌, Read, each_at, value_at}
use Rattle.cdr_core.specs.Value as value
use Rattle.cdr_core.specs.Value.{Value, values}
use Rattle.cdr_core.specs.View.{forms}
use Rattle.cdr_core.specs.Writing.{IsWritable}
use Rattle.ior_core.specs.Grammar.{reference, tagged}
use Rattle.giop_core.specs.Items.{list_value, reference_as}
use Rattle.giop_core.specs.Rows.{contexts, ft_request}

-- a struct of two, and one of three, member by member

pub tagged_is : (order : Order) (o : ℕ) (octets : List ℕ) → ◌≡◌ {A = Read Value} (value_at tagged order o octets) (fields_at (forms (ulong ∷ raw ∷ [])) order o octets >>= λ x. Ok (value.structure x.0, x.1, x.2))
tagged_is order o octets = structure_is (forms (ulong ∷ raw ∷ [])) order o octets

pub ft_is : (order : Order) (o : ℕ) (octets : List ℕ) → ◌≡◌ {A = Read Value} (value_at ft_request order o octets) (fields_at (forms (text ∷ long ∷ ulonglong ∷ [])) order o octets >>= λ x. Ok (value.structure x.0, x.1, x.2))
ft_is order o octets = structure_is (forms (text ∷ long ∷ ulonglong ∷ [])) order o octets

module _ (s t : Form) (order : Order) (o : ℕ) (octets : List ℕ) where
  pub pair_short : (f : Fault) → value_at s order o octets ≡ Err f → value_at (form.structure (forms (s ∷ t ∷ []))) order o octets ≡ Err f
  unfolding value_at
  pair_short f e = rw e refl

  pub pair_reads : (u : Value) (p : ℕ) (rest : List ℕ) (v : Value) (q : ℕ) (more : List ℕ) → value_at s order o octets ≡ Ok (u, p, rest) → value_at t order p rest ≡ Ok (v, q, more)
      → value_at (form.structure (forms (s ∷ t ∷ []))) order o octets ≡ Ok (value.structure (values (u ∷ v ∷ [])), q, more)
  unfolding value_at
  pair_reads u p rest v q more d e = rw (d, e) refl

  pub pair_stops : (f : Fault) (u : Value) (p : ℕ) (rest : List ℕ) → value_at s order o octets ≡ Ok (u, p, rest) → value_at t order p rest ≡ Err f
      → value_at (form.structure (forms (s ∷ t ∷ []))) order o octets ≡ Err f
  unfolding value_at
  pair_stops f u p rest d e = rw (d, e) refl

-- an array of three
module _ (t : Form) (order : Order) (o : ℕ) (octets : List ℕ) where
  pub three_stop_1 : (f : Fault) → value_at t order o octets ≡ Err f → value_at (form.array 3 t) order o octets ≡ Err f
  unfolding value_at each_at
  three_stop_1 f e = rw e refl

  module _ (a : Value) (p : ℕ) (rest : List ℕ) (first : value_at t order o octets ≡ Ok (a, p, rest)) where
    pub three_stop_2 : (f : Fault) → value_at t order p rest ≡ Err f → value_at (form.array 3 t) order o octets ≡ Err f
    unfolding value_at each_at
    three_stop_2 f e = rw (first, e) refl

    module _ (b : Value) (q : ℕ) (more : List ℕ) (second : value_at t order p rest ≡ Ok (b, q, more)) where
      pub three_stop_3 : (f : Fault) → value_at t order q more ≡ Err f → value_at (form.array 3 t) order o octets ≡ Err f
      unfolding value_at each_at
      three_stop_3 f e = rw (first, second, e) refl

      pub three_reads : (c : Value) (r : ℕ) (left : List ℕ) → value_at t order q more ≡ Ok (c, r, left) → value_at (form.array 3 t) order o octets ≡ Ok (value.array (values (a ∷ b ∷ c ∷ [])), r, left)
      unfolding value_at each_at
      three_reads c r left e = rw (first, second, e) refl

-- a reference that was read can be written

pub reference_writable : ReadFits → (order : Order) (o : ℕ) (octets : List ℕ) → AreOctets octets → (id : List ℕ) (items : List (ℕ × List ℕ)) (p : ℕ) (rest : List ℕ) (q : ℕ) (more : List ℕ)
    → value_at text order o octets ≡ Ok (value.string id, p, rest) → value_at contexts order p rest ≡ Ok (list_value items, q, more) → IsWritable (reference_as id items)
reference_writable law order o octets are id items p rest q more first second =
    (law reference order o octets (reference_as id items) q more valid are (pair_reads text contexts order o octets (value.string id) p rest (list_value items) q more first second)).1
  where
    valid : IsValid reference
    valid = ((λ e. absurd cc), (tt, (((λ e. absurd cc), (tt, (tt, tt))), tt)))
