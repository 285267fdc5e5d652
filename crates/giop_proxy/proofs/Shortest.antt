-- No message with the body at its place is shorter than the one that is written.
use Rattle.std.proofs.Common.{◌≡◌, ◌==◌, inl, inr, ℕ, ◌+◌, ◌<◌, ◌≤◌, ◌%◌, Bool, true, false, List, [], ◌∷◌, length, replicate, Some, refl, sym, ap, subst, ◌∙◌, arith, length-append}
use Rattle.std.proofs.lemmas.List.{length-replicate}
use Rattle.cdr_core.specs.declared.order.Order.{Order}
use Rattle.cdr_core.specs.Numbers.{padding}
use Rattle.cdr_core.specs.Parts.{ulong_value}
use Rattle.cdr_core.specs.Value as value
use Rattle.cdr_core.specs.Value.{Value, Values, values}
use Rattle.cdr_core.specs.Writing.{octets_of_all}
use Rattle.giop_core.specs.declared.header.MessageKind.{MessageKind}
use Rattle.giop_core.specs.declared.header.MessageKind.TheVariants as kind
use Rattle.giop_core.specs.declared.header.Version.{Version}
use Rattle.giop_core.specs.declared.header.Version.TheVariants.{V10, V11, V12}
use Rattle.giop_core.specs.Items.{list_value}
use Rattle.giop_core.specs.Written.{behind_gap, behind_header, body_octets, octets_body, response_expected, zeros}
use Rattle.giop_core.proofs.OctetsBody.{body_length}
use Rattle.giop_frames.proofs.Deciding.{test_eq}
use Rattle.giop_proxy.specs.Placing.{begins_at, contexts_with, end_of, may_begin, may_follow, principal_for, reply_for, request_fields, request_for, size_of, wish_in}
use Rattle.giop_proxy.specs.PlacingLaws.{PlacedRepliesAreShort, PlacedRequestsAreShort}
use Rattle.giop_proxy.specs.PlacingPrivate.{begun_at, HasBody}
use Rattle.giop_proxy.proofs.Choosing.{first_chosen, found, reply_longer, request_longer, Chosen, Longer}
use Rattle.giop_proxy.proofs.Places.{behind_length, behind_whole, principal_ends, principal_size}

-- how long a message is

gap-length : (gap : ℕ) (xs : List ℕ) → 0 < length xs → length (behind_gap gap xs) ≡ gap + length xs
gap-length gap [] some = absurd (omega (arith, some))
gap-length gap (x ∷ xs) some = omega (arith, length-append (replicate {A = ℕ} gap 0) (x ∷ xs), length-replicate {A = ℕ} gap 0)

aligned-length : (order : Order) (end : ℕ) (body : List ℕ) → end + length (behind_gap (padding end 8) (octets_of_all order (octets_body body) (end + padding end 8))) ≡ begun_at V12 end body + length body
aligned-length order end [] = refl
aligned-length order end (x ∷ xs) =
    let p = end + padding end 8 in
    let same = body_length order (x ∷ xs) p in
    omega (arith, same, gap-length (padding end 8) (octets_of_all order (octets_body (x ∷ xs)) p) (omega (arith, same)))

plain-begun : (end : ℕ) (body : List ℕ) → (begun_at V10 end body ≡ end) × (begun_at V11 end body ≡ end)
plain-begun end [] = (refl, refl)
plain-begun end (x ∷ xs) = (refl, refl)

body-length : (version : Version) (kind : MessageKind) (order : Order) (end : ℕ) (body : List ℕ) → HasBody kind → end + length (body_octets version kind order (octets_body body) end) ≡ begun_at version end body + length body
body-length V10 kind order end body b = omega (arith, body_length order body end, (plain-begun end body).0)
body-length V11 kind order end body b = omega (arith, body_length order body end, (plain-begun end body).1)
body-length V12 kind order end body (inl is) = rw is (aligned-length order end body)
body-length V12 kind order end body (inr is) = rw is (aligned-length order end body)

size-is : (version : Version) (kind : MessageKind) (order : Order) (body : List ℕ) (fields : List Value) → HasBody kind → size_of version kind order body fields ≡ begun_at version (end_of order fields) body + length body
unfolding behind_header
size-is version kind order body fields b =
    let front = octets_of_all order (values fields) 12 in
    omega (arith, length-append front (body_octets version kind order (octets_body body) (12 + length front)), body-length version kind order (12 + length front) body b)

later-begun : (version : Version) (body : List ℕ) (e f : ℕ) → e + 12 ≤ f → begun_at version e body ≤ begun_at version f body
later-begun V10 [] e f le = omega (arith, le)
later-begun V11 [] e f le = omega (arith, le)
later-begun V12 [] e f le = omega (arith, le)
later-begun V10 (x ∷ xs) e f le = omega (arith, le)
later-begun V11 (x ∷ xs) e f le = omega (arith, le)
later-begun V12 (x ∷ xs) e f le = omega (arith, le)

-- fields without the context that says nothing, or with it

module _ (version : Version) (kind : MessageKind) (order : Order) (place : ℕ) (body : List ℕ) (fields : Bool → List Value) (b : HasBody kind) (longer : Longer order (fields false) (fields true)) where
  abbrev size : List Value → ℕ
  size fs = size_of version kind order body fs

  first-short : (padded : Bool) → size (fields false) ≤ size (fields padded)
  first-short false = omega arith
  first-short true =
      let e = end_of order (fields false) in
      let f = end_of order (fields true) in
      omega (arith, size-is version kind order body (fields false) b, size-is version kind order body (fields true) b, later-begun version body e f (omega (arith, longer)))

  pub form-short : (fs : List Value) → Chosen version order place body fields (Some fs) → (padded : Bool) → may_follow version order place body (fields padded) ≡ true → size fs ≤ size (fields padded)
  form-short fs e false follows =
      let same : Some (fields false) ≡ Some fs = sym (first_chosen version order place body fields follows) ∙ e in
      let is : fields false ≡ fs = cc in
      subst (λ (x : List Value). size x ≤ size (fields false)) is (omega arith)
  form-short fs e true follows = let f = found version order place body fields fs e in by-form f.0 fs f.1
    where
      by-form : (padded : Bool) (fs : List Value) → fields padded ≡ fs → size fs ≤ size (fields true)
      by-form false fs is = subst (λ (x : List Value). size x ≤ size (fields true)) is (first-short true)
      by-form true fs is = subst (λ (x : List Value). size x ≤ size (fields true)) is (omega arith)

-- a Request of 1.0 and 1.1, with any principal of less than four octets

eq-of : (a b : ℕ) → (a == b) ≡ true → a ≡ b
eq-of a b e = elim (test_eq a b) [ inl t ↦ t.1 | inr t ↦ absurd (let n = t.0 in cc) ]

size-mod : (q n place : ℕ) → q % 4 ≡ 0 → n < 4 → (q + n) % 8 ≡ place % 8 → n ≡ place % 4
size-mod q n place whole few is = omega (arith, whole, few, is)

module _ (version : Version) (order : Order) (place : ℕ) (plain : (end : ℕ) → begins_at version end ≡ end) (contexts : List (ℕ × List ℕ)) (make : List (ℕ × List ℕ) → List ℕ → List Value) (front : List (ℕ × List ℕ) → Values)
    (ends : (cs : List (ℕ × List ℕ)) (p : List ℕ) → end_of order (make cs p) ≡ behind_length order (front cs) + length p)
    (longer : (p : List ℕ) → Longer order (make contexts p) (make (contexts_with true contexts) p)) where
  abbrev own : List ℕ → Bool → List Value
  own body padded = make (contexts_with padded contexts) (principal_for place body)

  abbrev sized : List ℕ → List Value → ℕ
  sized body fs = size_of version kind.Request order body fs

  pub any-short : (body : List ℕ) (fs : List Value) → Chosen version order place body (own body) (Some fs) → (padded : Bool) (p : List ℕ) → length p < 4
      → may_follow version order place body (make (contexts_with padded contexts) p) ≡ true → sized body fs ≤ sized body (make (contexts_with padded contexts) p)
  any-short [] fs e padded p few follows =
      let is : own [] false ≡ fs = cc in
      let none : length {A = ℕ} [] ≡ 0 = refl in
      let cs = contexts_with padded contexts in
      let own-size = size-is version kind.Request order [] (own [] false) (inl refl) in
      let padded-size = size-is version kind.Request order [] (own [] padded) (inl refl) in
      let other-size = size-is version kind.Request order [] (make cs p) (inl refl) in
      let first = first-short version kind.Request order place [] (own []) (inl refl) (longer []) padded in
      subst (λ (x : List Value). sized [] x ≤ sized [] (make cs p)) is (omega (arith, own-size, padded-size, other-size, first, ends cs [], ends cs p))
  any-short (x ∷ xs) fs e padded p few follows =
      let body = x ∷ xs in
      let cs = contexts_with padded contexts in
      let other = make cs p in
      let mine = own body padded in
      let at : end_of order other % 8 ≡ place % 8 = ap (λ (n : ℕ). n % 8) (sym (plain (end_of order other))) ∙ eq-of (begins_at version (end_of order other) % 8) (place % 8) follows in
      let n : length p ≡ place % 4 = size-mod (behind_length order (front cs)) (length p) place (behind_whole order (front cs)) few (ap (λ (m : ℕ). m % 8) (sym (ends cs p)) ∙ at) in
      let same : end_of order other ≡ end_of order mine = omega (arith, ends cs p, ends cs (principal_for place body), n, principal_size place x xs) in
      let here : may_follow version order place body mine ≡ true = ap (λ (m : ℕ). may_begin place body (begins_at version m)) (sym same) ∙ follows in
      let short = form-short version kind.Request order place body (own body) (inl refl) (longer (principal_for place body)) fs e padded here in
      let as-long : sized body mine ≡ sized body other =
      size-is version kind.Request order body mine (inl refl) ∙ ap (λ (m : ℕ). begun_at version m body + length body) (sym same) ∙ sym (size-is version kind.Request order body other (inl refl)) in
      omega (arith, short, as-long)

pub requests_short : PlacedRequestsAreShort
requests_short V10 order id wish key operation contexts place body fields e padded principal few follows =
    let w = wish_in V10 wish in
    any-short V10 order place (λ n. refl) contexts (λ cs p. request_fields V10 id w key operation cs p)
    (λ cs. values (list_value cs ∷ ulong_value id ∷ value.boolean (response_expected w) ∷ value.octets key ∷ value.string operation ∷ []))
    (λ cs p. principal_ends order (values (list_value cs ∷ ulong_value id ∷ value.boolean (response_expected w) ∷ value.octets key ∷ value.string operation ∷ [])) p)
    (λ p. request_longer order contexts id w key operation p V10) body fields e padded principal few follows
requests_short V11 order id wish key operation contexts place body fields e padded principal few follows =
    let w = wish_in V11 wish in
    any-short V11 order place (λ n. refl) contexts (λ cs p. request_fields V11 id w key operation cs p)
    (λ cs. values (list_value cs ∷ ulong_value id ∷ value.boolean (response_expected w) ∷ zeros ∷ value.octets key ∷ value.string operation ∷ []))
    (λ cs p. principal_ends order (values (list_value cs ∷ ulong_value id ∷ value.boolean (response_expected w) ∷ zeros ∷ value.octets key ∷ value.string operation ∷ [])) p)
    (λ p. request_longer order contexts id w key operation p V11) body fields e padded principal few follows
requests_short V12 order id wish key operation contexts place body fields e padded principal few follows =
    form-short V12 kind.Request order place body (request_for V12 id wish key operation contexts place body) (inl refl)
    (request_longer order contexts id (wish_in V12 wish) key operation (principal_for place body) V12) fields e padded follows

pub replies_short : PlacedRepliesAreShort
replies_short version order id status contexts place body fields e padded follows =
    form-short version kind.Reply order place body (reply_for version id status contexts) (inr refl) (reply_longer order contexts version id status) fields e padded follows
