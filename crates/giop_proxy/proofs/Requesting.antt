-- A Request as far as its fields: its empty principal is made one of some octets.
use Rattle.std.proofs.Common.{◌≡◌, ◌==◌, inl, inr, ℕ, ◌+◌, ◌-◌, ◌%◌, ◌<◌, ◌≤◌, true, false, List, [], ◌∷◌, ◌++◌, length, take, drop, replicate, Ok, Err, refl, ap, ◌∙◌, arith, length-append}
use Rattle.std.proofs.lemmas.List.{drop_at, take-append-le, take-replicate}
use Rattle.cdr_core.specs.declared.order.Order.{Order}
use Rattle.cdr_core.specs.Parts.{ulong_value}
use Rattle.cdr_core.specs.Private.{Keeps}
use Rattle.cdr_core.specs.Value as value
use Rattle.cdr_core.specs.Value.{Value, Values, values}
use Rattle.cdr_core.specs.Writing.{octets_of_all}
use Rattle.giop_core.specs.declared.error.WriteError.{WriteError}
use Rattle.giop_core.specs.declared.error.WriteError.TheVariants.{TooLong, Memory}
use Rattle.giop_core.specs.declared.header.Version.{Version}
use Rattle.giop_core.specs.declared.header.Version.TheVariants.{V10, V11, V12}
use Rattle.giop_core.specs.declared.request.ReplyWish.{ReplyWish}
use Rattle.giop_core.specs.Content as content
use Rattle.giop_core.specs.Items.{list_value}
use Rattle.giop_core.specs.Written as written
use Rattle.giop_core.specs.Written.{response_expected, zeros}
use Rattle.giop_frames.proofs.Deciding.{test_eq}
use Rattle.giop_proxy.specs.Placing.{principal_for, request_fields}
use Rattle.giop_frames.proofs.Deciding.{test_eq}
use Rattle.giop_proxy.specs.PlacingPrivate.{ends_with, Begins}
use Rattle.giop_proxy.proofs.Ending.{principal-put}
use Rattle.giop_proxy.proofs.Places.{principal_ends}

module _ (order : Order) (id : ℕ) (wish : ReplyWish) (key operation : List ℕ) (contexts : List (ℕ × List ℕ)) where
  abbrev front_10 : Values
  front_10 = values (list_value contexts ∷ ulong_value id ∷ value.boolean (response_expected wish) ∷ value.octets key ∷ value.string operation ∷ [])

  abbrev front_11 : Values
  front_11 = values (list_value contexts ∷ ulong_value id ∷ value.boolean (response_expected wish) ∷ zeros ∷ value.octets key ∷ value.string operation ∷ [])

  abbrev pub bare : Version → List Value
  bare version = written.request_fields version id wish (content.by_key key) operation contexts

  module _ (n : ℕ) (old mid : List ℕ) where
    abbrev pub ended : Version → List Value
    ended version = request_fields version id wish key operation contexts (replicate n 0)

    pub request-ended : (version : Version) (new : List ℕ) → Begins {A = Unit {0}} order (bare version) (Ok tt) old mid → new ≡ ends_with version order n mid → Begins {A = Unit {0}} order (ended version) (Ok tt) old new
    request-ended V10 new b e = (b.0, b.1, principal-put order front_10 n old mid new b.0 b.2 e)
    request-ended V11 new b e = (b.0, b.1, principal-put order front_11 n old mid new b.0 b.2 e)
    request-ended V12 new b e = (b.0, b.1, e ∙ b.2)

    pub request-refused : (version : Version) (e : WriteError) → Begins {A = Unit {0}} order (bare version) (Err e) old mid → Begins {A = Unit {0}} order (ended version) (Err e) old mid
    request-refused V10 TooLong b = (omega (arith, b.0, principal_ends order front_10 [], principal_ends order front_10 (replicate n 0)), b.1)
    request-refused V11 TooLong b = (omega (arith, b.0, principal_ends order front_11 [], principal_ends order front_11 (replicate n 0)), b.1)
    request-refused V12 TooLong b = b
    request-refused version Memory b = b

    pub request-room : (version : Version) → Begins {A = Unit {0}} order (bare version) (Ok tt) old mid → 4 ≤ length mid
    request-room version b =
        let all = octets_of_all order (values (bare version)) 12 in
        omega (arith, ap length b.2, length-append old (b.0 ++ all), length-append b.0 all, b.1)

    pub request-keeps : (version : Version) (new : List ℕ) → Begins {A = Unit {0}} order (bare version) (Ok tt) old mid → new ≡ mid → Keeps old new
    request-keeps version new b e = record { more = b.0 ++ octets_of_all order (values (bare version)) 12; parts = e ∙ b.2 }

-- how long it is

pub principal-none : (place : ℕ) (body : List ℕ) → (length body == 0) ≡ true → replicate 0 0 ≡ principal_for place body
principal-none place [] none = refl
principal-none place (x ∷ xs) none = elim (test_eq (length (x ∷ xs)) 0) [ inl t ↦ absurd (omega (arith, t.1)) | inr t ↦ absurd (let n = t.0 in cc) ]

pub principal-some : (place : ℕ) (body : List ℕ) → (length body == 0) ≡ false → replicate (place % 4) 0 ≡ principal_for place body
principal-some place [] some = absurd cc
principal-some place (x ∷ xs) some = refl

-- its octets, behind its size in place of that of none

abbrev pub four_zeros : List ℕ
four_zeros = 0 ∷ 0 ∷ 0 ∷ 0 ∷ []

pub zeros-taken : (n : ℕ) → n < 4 → take n four_zeros ≡ replicate n 0
zeros-taken n lt = let zero : ℕ = 0 in take-replicate n 4 zero (omega (arith, lt))

pub principal-at : (size at : ℕ) (old octets mid digits new : List ℕ) → at ≡ length old - 4 → 4 ≤ length old → octets ≡ replicate size 0 → mid ≡ old ++ octets → new ≡ take at mid ++ (digits ++ drop (at + 4) mid)
    → new ≡ take (length old - 4) old ++ (digits ++ replicate size 0)
principal-at size at old octets mid digits new is long zeros grown put =
    let front : take at mid ≡ take (length old - 4) old = ap (take at) grown ∙ take-append-le at old octets (omega (arith, is)) ∙ ap (λ (n : ℕ). take n old) is in
    let behind : drop (at + 4) mid ≡ replicate size 0 = ap (drop (at + 4)) grown ∙ drop_at old octets (at + 4) (omega (arith, is, long)) ∙ zeros in
    put ∙ ap (λ (xs : List ℕ). xs ++ (digits ++ drop (at + 4) mid)) front ∙ ap (λ (xs : List ℕ). take (length old - 4) old ++ (digits ++ xs)) behind
