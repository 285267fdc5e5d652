-- The first context of an id, and what FT_REQUEST holds.
use Rattle.std.proofs.Common.{◌≡◌, ◌≢◌, ℕ, ◌==◌, ℤ, pos, unsigned_abs, Bool, true, false, cond, List, [], ◌∷◌, ◌++◌, Option, Some, None, Result, Ok, Err, refl, sym, ap, subst, ◌∙◌}
use Rattle.std.proofs.lemmas.Bool.Decides.{Decides-eqb}
use Rattle.cdr_core.specs.declared.fault.Fault.{Fault}
use Rattle.cdr_core.specs.declared.order.Order.{Order}
use Rattle.cdr_core.proofs.Enclosing.{enclosed_found, enclosed_only}
use Rattle.cdr_core.specs.Encapsulation.{encapsulated, IsEncapsulated}
use Rattle.cdr_core.specs.Form as form
use Rattle.cdr_core.specs.Laws.{ReadIsSpelled, SpelledIsRead}
use Rattle.cdr_core.specs.Parts.{long, long_value, text, ulonglong, ulonglong_value}
use Rattle.cdr_core.specs.Reading.{value_at}
use Rattle.cdr_core.specs.Spelling.{Spells, SpellsMembers}
use Rattle.cdr_core.specs.Value as value
use Rattle.cdr_core.specs.Value.{Value, Values, values}
use Rattle.cdr_core.specs.View.{forms}
use Rattle.giop_core.specs.Content.{content_octets, integer, member, natural, parts}
use Rattle.giop_core.specs.Ft.{absent, first_of, ft_by, ft_in, ft_of, present, HasNone, IsFirst}
use Rattle.giop_core.specs.Laws.{AbsentFtIsNowhere, PresentFtIsSpelled}
use Rattle.giop_core.specs.Rows.{ft_request}
use Rattle.giop_core.specs.Written.{ft_value_of}

-- another id isn't looked at
other : (id : ℕ) (x : ℕ × List ℕ) → x.0 ≢ id → (x.0 == id) ≡ false
other id x isnt = by (x.0 == id) (Decides-eqb x.0 id).0
  where
    by : (b : Bool) → (b ≡ true → x.0 ≡ id) → b ≡ false
    by false h = refl
    by true h = absurd (isnt (h refl))

pub first_behind : (id : ℕ) (octets : List ℕ) (more before : List (ℕ × List ℕ)) → HasNone id before → first_of id (before ++ (id, octets) ∷ more) ≡ Some octets
first_behind id octets more [] none =
    let same : (id == id) ≡ true = (Decides-eqb id id).1 refl in
    rw same refl
first_behind id octets more (x ∷ xs) none = rw (other id x none.0) (first_behind id octets more xs none.1)

nowhere : (id : ℕ) (items : List (ℕ × List ℕ)) → HasNone id items → first_of id items ≡ None
nowhere id [] none = refl
nowhere id (x ∷ xs) none = rw (other id x none.0) (nowhere id xs none.1)

-- what the search for the first finds
abbrev Search : ℕ → List (ℕ × List ℕ) → Option (List ℕ) → Type 0
Search id items None = HasNone id items
Search id items (Some octets) = IsFirst id octets items

one_more : (id : ℕ) (x : ℕ × List ℕ) (xs : List (ℕ × List ℕ)) (r : Option (List ℕ)) → x.0 ≢ id → Search id xs r → Search id (x ∷ xs) r
one_more id x xs None isnt h = (isnt, h)
one_more id x xs (Some octets) isnt h = record { before = x ∷ h.before; after = h.after; parts = ap (λ (ys : List (ℕ × List ℕ)). x ∷ ys) h.parts; none = (isnt, h.none) }

searched_by : (id : ℕ) (x : ℕ × List ℕ) (xs : List (ℕ × List ℕ)) → Search id xs (first_of id xs) → (b : Bool) → (x.0 == id) ≡ b → Search id (x ∷ xs) (cond b (Some x.1) (first_of id xs))
searched_by id x xs h true e = record { before = []; after = xs; parts = ap (λ (n : ℕ). (n, x.1) ∷ xs) ((Decides-eqb x.0 id).0 e); none = tt }
searched_by id x xs h false e = one_more id x xs (first_of id xs) (λ is. differ ((Decides-eqb x.0 id).1 is)) h
  where
    differ : (x.0 == id) ≡ true → ⊥
    differ f = cc

searched : (id : ℕ) (items : List (ℕ × List ℕ)) → Search id items (first_of id items)
searched id [] = tt
searched id (x ∷ xs) = searched_by id x xs (searched id xs) (x.0 == id) refl

-- the values of the three fields

text_is : (order : Order) (v : Value) (o : ℕ) (octets : List ℕ) → Spells text order v o octets → v ≡ value.string (content_octets v)
text_is order (value.string xs) o octets h = refl
text_is order _ o octets h = absurd h

long_is : (order : Order) (v : Value) (o : ℕ) (octets : List ℕ) → Spells long order v o octets → v ≡ long_value (integer v)
long_is order (value.number same z) o octets h = ap (λ (k : form.Number). value.number k z) h.0
long_is order _ o octets h = absurd h

ulonglong_is : (order : Order) (v : Value) (o : ℕ) (octets : List ℕ) → Spells ulonglong order v o octets → v ≡ ulonglong_value (natural v)
ulonglong_is order (value.number same z) o octets h =
    let is : z ≡ pos (unsigned_abs z) = h.3 ∙ sym (ap (λ (y : ℤ). pos (unsigned_abs y)) h.3) in
    ap (λ (k : form.Number). value.number k z) h.0 ∙ ap (λ (y : ℤ). value.number form.ulonglong y) is
ulonglong_is order _ o octets h = absurd h

abbrev three : Values → Value
three vs = ft_value_of (content_octets (member 0 vs)) (integer (member 1 vs)) (natural (member 2 vs))

ft_members : (order : Order) (vs : Values) (o : ℕ) (octets : List ℕ) → SpellsMembers (forms (text ∷ long ∷ ulonglong ∷ [])) order vs o octets → value.structure vs ≡ three vs
ft_members order value.no_values o octets h = absurd h
ft_members order (value.value a value.no_values) o octets h = absurd h.second
ft_members order (value.value a (value.value b value.no_values)) o octets h = absurd h.second.second
ft_members order (value.value a (value.value b (value.value c value.no_values))) o octets h =
    let x = text_is order a _ _ h.first in
    let y = long_is order b _ _ h.second.first in
    let z = ulonglong_is order c _ _ h.second.second.first in
    ap (λ (v : Value). value.structure (values (v ∷ b ∷ c ∷ []))) x
    ∙ ap (λ (v : Value). value.structure (values (value.string (content_octets a) ∷ v ∷ c ∷ []))) y
    ∙ ap (λ (v : Value). value.structure (values (value.string (content_octets a) ∷ long_value (integer b) ∷ v ∷ []))) z
ft_members order (value.value a (value.value b (value.value c (value.value d vs)))) o octets h = absurd h.second.second.second

ft_is : (order : Order) (v : Value) (o : ℕ) (octets : List ℕ) → Spells ft_request order v o octets → v ≡ three (parts v)
ft_is order (value.structure vs) o octets h = ft_members order vs o octets h
ft_is order _ o octets h = absurd h

same_present : (c d : List ℕ) (r s : ℤ) (e f : ℕ) → present c r e ≡ present d s f → (c ≡ d) × (r ≡ s) × (e ≡ f)
same_present c d r s e f h = (cc, cc, cc)

module _ (client : List ℕ) (retention : ℤ) (expiration : ℕ) where
  abbrev Holds : List ℕ → Type 0
  Holds octets = IsEncapsulated (λ order. Spells ft_request order (ft_value_of client retention expiration)) octets

  told : (octets : List ℕ) (v : Value) → IsEncapsulated (λ order. Spells ft_request order v) octets → ft_by (Ok v) ≡ present client retention expiration → Holds octets
  told octets v h e =
      let k = same_present (content_octets (member 0 (parts v))) client (integer (member 1 (parts v))) retention (natural (member 2 (parts v))) expiration e in
      let is : v ≡ ft_value_of client retention expiration =
      ft_is h.order v 1 h.front h.holds ∙ ap (λ (x : List ℕ). ft_value_of x (integer (member 1 (parts v))) (natural (member 2 (parts v)))) k.0
      ∙ ap (λ (y : ℤ). ft_value_of client y (natural (member 2 (parts v)))) k.1 ∙ ap (λ (z : ℕ). ft_value_of client retention z) k.2 in
      subst (λ (w : Value). IsEncapsulated (λ order. Spells ft_request order w) octets) is h

  by_read : ReadIsSpelled → (octets : List ℕ) (r : Result Value Fault) → encapsulated (value_at ft_request) octets ≡ r → ft_by r ≡ present client retention expiration → Holds octets
  by_read law octets (Err f) is e = absurd cc
  by_read law octets (Ok v) is e = told octets v (enclosed_found law (λ o w. Spells ft_request o w) (value_at ft_request) (λ o p xs w q rest h. law ft_request o p xs w q rest h) octets v is) e

  by_search : ReadIsSpelled → (items : List (ℕ × List ℕ)) (r : Option (List ℕ)) → Search 13 items r → ft_of r ≡ present client retention expiration → (octets : List ℕ) × IsFirst 13 octets items × Holds octets
  by_search law items None h e = absurd cc
  by_search law items (Some octets) h e = (octets, h, by_read law octets (encapsulated (value_at ft_request) octets) refl e)

pub present_spelled : ReadIsSpelled → SpelledIsRead → PresentFtIsSpelled
unfolding ft_in
present_spelled law only contexts client retention expiration = (
  by_search client retention expiration law contexts (first_of 13 contexts) (searched 13 contexts),
  (λ h. ap (λ (items : List (ℕ × List ℕ)). ft_of (first_of 13 items)) h.1.parts ∙ ap ft_of (first_behind 13 h.0 h.1.after h.1.before h.1.none)
      ∙ ap ft_by (enclosed_only only (λ o w. Spells ft_request o w) (value_at ft_request) (λ o w p front rest s. only ft_request o w p front rest s) h.0 (ft_value_of client retention expiration) h.2)),
)

not_absent : (r : Result Value Fault) → ft_by r ≡ absent → ⊥
not_absent (Ok v) e = cc
not_absent (Err f) e = cc

none_found : (items : List (ℕ × List ℕ)) (r : Option (List ℕ)) → Search 13 items r → ft_of r ≡ absent → HasNone 13 items
none_found items None h e = h
none_found items (Some octets) h e = absurd (not_absent (encapsulated (value_at ft_request) octets) e)

pub absent_nowhere : AbsentFtIsNowhere
unfolding ft_in
absent_nowhere contexts = (none_found contexts (first_of 13 contexts) (searched 13 contexts), (λ none. ap ft_of (nowhere 13 contexts none)))
