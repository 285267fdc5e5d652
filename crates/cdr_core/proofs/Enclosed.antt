-- The octet that names the byte order of an encapsulation, and what follows it.
use Rattle.std.proofs.Common.{◌≡◌, ℕ, Bool, List, length, Ok, ap, arith, refl}
use Rattle.cdr_core.specs.declared.order.Order.TheVariants.{Big}
use Rattle.cdr_core.specs.Encapsulation.{order_at, order_of}
use Rattle.cdr_core.specs.Form as form
use Rattle.cdr_core.specs.Reading.{value_at}
use Rattle.cdr_core.specs.Value as value
use Rattle.cdr_core.proofs.Found.{found}

pub order_enclosed : (octets : List ℕ) (b : Bool) (p : ℕ) (rest : List ℕ) → value_at form.boolean Big 0 octets ≡ Ok (value.boolean b, p, rest) → order_at octets ≡ Ok (order_of (value.boolean b), 1, rest)
unfolding order_at
order_enclosed octets b p rest h =
    let t = found form.boolean Big 0 octets (value.boolean b) p rest h in
    let one : p ≡ 1 = omega (arith, t.place, ap length t.holds) in
    rw (h, one) refl
