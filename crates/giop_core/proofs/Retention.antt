-- What an FT_REQUEST context holds, as it is appended.
use Rattle.std.proofs.Common.{◌≡◌, ℕ, ◌≤◌, ℤ, List, [], ◌∷◌, ◌++◌, length, Err, refl, ap, arith}
use Rattle.cdr_core.specs.declared.order.Order.{Order}
use Rattle.cdr_core.proofs.Appending.{enclosed_puts, keeps_all, puts_one, puts_then}
use Rattle.cdr_core.specs.Writing.{Appends, Writing}
use Rattle.cdr_core.specs.Encapsulation.{byte_order}
use Rattle.cdr_core.specs.Parts.{long_value, ulonglong_value}
use Rattle.cdr_core.specs.Value as value
use Rattle.cdr_core.specs.Value.{Value, Values, values}
use Rattle.giop_core.specs.declared.error.WriteError.{WriteError}
use Rattle.giop_core.specs.declared.error.WriteError.TheVariants.{TooLong, Memory}
use Rattle.giop_core.specs.Written.{ft_octets}
use Rattle.giop_core.specs.Private.{Checks, AddsOctets}
use Rattle.giop_core.proofs.Longs.{first_long}

module _ (order : Order) (client : List ℕ) (id : ℤ) (expiration : ℕ) (old : List ℕ) where
  pub ft_judged : (e : WriteError) → Checks {A = Unit {0}} (value.string client) (Err e) → AddsOctets {A = Unit {0}} (ft_octets order client id expiration) (Err e) old old
  ft_judged TooLong long =
      let others = values (long_value id ∷ ulonglong_value expiration ∷ []) in
      (omega (arith, first_long (value.string client) others long order 1), keeps_all old old refl)
  ft_judged Memory h = absurd h

  -- the three parts, one after the other
  pub ft_put : (w : Writing) (begun one two new : List ℕ) → begun ≡ old ++ byte_order order ∷ [] → w ≡ record { order = order; at = 1; start = length begun }
      → Appends w (value.string client) begun one → Appends w (long_value id) one two → Appends w (ulonglong_value expiration) two new → new ≡ old ++ ft_octets order client id expiration
  ft_put w begun one two new begins is a b c =
      let le : w.start ≤ length begun = omega (arith, ap (λ (v : Writing). v.start) is) in
      let p1 = puts_one w (value.string client) begun one a in
      let p2 = puts_then w (values (value.string client ∷ [])) (long_value id) begun one two le p1 b in
      let p3 = puts_then w (values (value.string client ∷ long_value id ∷ [])) (ulonglong_value expiration) begun two new le p2 c in
      enclosed_puts order (values (value.string client ∷ long_value id ∷ ulonglong_value expiration ∷ [])) w old begun new begins is p3
