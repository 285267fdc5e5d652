-- A message is appended, or it is known why it is not.
use Rattle.std.proofs.Common.{◌≡◌, ℕ, ◌+◌, ◌<◌, ◌≤◌, ◌^◌, Bool, true, false, List, ◌++◌, length, take, drop, map, Option, Some, None, Result, Ok, Err, refl, sym, ap, subst, ◌∙◌, arith, append_assoc, length-append}
use Rattle.std.proofs.lemmas.List.{drop_at, take_at, take-append-drop}
use Rattle.std.specs.Prelude.{OnErr, OnOk}
use Rattle.cdr_core.specs.declared.order.Order.{Order}
use Rattle.cdr_core.specs.Private.{Keeps}
use Rattle.cdr_core.specs.Value.{Value, values}
use Rattle.cdr_core.specs.Writing.{octets_of_all}
use Rattle.cdr_core.proofs.Appending.{keeps_all, kept}
use Rattle.giop_core.specs.declared.error.WriteError.{WriteError}
use Rattle.giop_core.specs.declared.error.WriteError.TheVariants.{TooLong, Memory}
use Rattle.giop_core.specs.declared.header.MessageKind.{MessageKind}
use Rattle.giop_core.specs.declared.header.Version.{Version}
use Rattle.giop_core.specs.Written.{behind_header, message_octets, octets_body}
use Rattle.giop_core.specs.Items.{item_at}
use Rattle.giop_proxy.specs.declared.fields.Fields.{Fields}
use Rattle.giop_proxy.specs.declared.fields.Fields.TheVariants as fields
use Rattle.giop_proxy.specs.declared.placed.PlacingError.{PlacingError}
use Rattle.giop_proxy.specs.declared.placed.PlacingError.TheVariants as refused
use Rattle.giop_proxy.specs.Placing.{end_of, fields_at, principal_for, refused_as, size_of, wish_in, Appends, IsOver}
use Rattle.giop_proxy.specs.PlacingPrivate.{fields_for, with_octets, AppendsAt, Begins, BeginsAt, IsEnded}
use Rattle.giop_proxy.proofs.Choosing.{fields_within, first_chosen, found, none_chosen, reply_longer, request_longer, second_chosen, Follows, Longer}
use Rattle.giop_proxy.proofs.Ending.{message-length}

pub front_kept : (n : ℕ) (xs : List ℕ) → Keeps (take n xs) xs
front_kept n xs = record { more = drop n xs; parts = sym (take-append-drop n xs) }

-- what stands before a message that has begun, and behind the place of its header

module _ (order : Order) (fs : List Value) (old begun : List ℕ) (b : Begins {A = Bool} order fs (Ok true) old begun) where
  pub begun-front : take (length old) begun ≡ old
  begun-front = ap (take (length old)) b.2 ∙ take_at old (b.0 ++ octets_of_all order (values fs) 12) (length old) refl

  pub begun-behind : drop (length old + 12) begun ≡ octets_of_all order (values fs) 12
  begun-behind =
      let all = octets_of_all order (values fs) 12 in
      ap (drop (length old + 12)) (b.2 ∙ sym (append_assoc old b.0 all)) ∙ drop_at (old ++ b.0) all (length old + 12) (omega (arith, length-append old b.0, b.1))

  pub begun-room : length old + 12 ≤ length begun
  begun-room =
      let all = octets_of_all order (values fs) 12 in
      omega (arith, ap length b.2, length-append old (b.0 ++ all), length-append b.0 all, b.1)

  pub begun-end : length begun ≡ length old + end_of order fs
  begun-end =
      let all = octets_of_all order (values fs) 12 in
      omega (arith, ap length b.2, length-append old (b.0 ++ all), length-append b.0 all, b.1)

  pub begun-keeps : Keeps old begun
  begun-keeps = record { more = b.0 ++ octets_of_all order (values fs) 12; parts = b.2 }

module _ (version : Version) (kind : MessageKind) (order : Order) (limit place : ℕ) (body : List ℕ) (forms : Bool → List Value) where
  abbrev chosen : Option (List Value)
  chosen = fields_at version order place body forms

  abbrev pub Answers : Result (Unit {0}) PlacingError → List ℕ → List ℕ → Type 0
  Answers r old new = AppendsAt version kind order limit body chosen r old new

  -- the forms are too long, with the context that says nothing or without it
  over : limit < 2 ^ 32 → (padded : Bool) → 2 ^ 32 ≤ length (octets_of_all order (values (forms padded)) 12) → (fs : List Value) → forms padded ≡ fs → limit < size_of version kind order body fs
  over lt padded long fs is = subst (λ (x : List Value). limit < size_of version kind order body x) is (omega (arith, lt, long, fields_within version kind order body (forms padded)))

  pub first-refused : limit < 2 ^ 32 → length (octets_of_all order (values (forms false)) 12) + 12 ≤ length (octets_of_all order (values (forms true)) 12)
      → (e : WriteError) (old new : List ℕ) → Begins {A = Bool} order (forms false) (Err e) old new → Answers (Err (refused_as e)) old new
  first-refused lt longer TooLong old new h = (each, h.1)
    where
      by-one : (padded : Bool) → 2 ^ 32 ≤ length (octets_of_all order (values (forms padded)) 12)
      by-one false = h.0
      by-one true = omega (arith, h.0, longer)

      each : (fs : List Value) → chosen ≡ Some fs → limit < size_of version kind order body fs
      each fs e = let f = found version order place body forms fs e in over lt f.0 (by-one f.0) fs f.1
  first-refused lt longer Memory old new h = h

  -- the one way is known
  pub one-refused : limit < 2 ^ 32 → (padded : Bool) → ((fs : List Value) → chosen ≡ Some fs → forms padded ≡ fs) → (e : WriteError) (old new : List ℕ) → Begins {A = Bool} order (forms padded) (Err e) old new → Answers (Err (refused_as e)) old new
  one-refused lt padded only TooLong old new h = (λ fs e. over lt padded h.0 fs (only fs e), h.1)
  one-refused lt padded only Memory old new h = h

  -- it goes on with its body

  module _ (padded : Bool) (old begun : List ℕ) (is : chosen ≡ Some (forms padded)) (b : Begins {A = Bool} order (forms padded) (Ok true) old begun) where
    abbrev after : List ℕ
    after = behind_header version kind order (forms padded) (octets_body body)

    told : with_octets version kind order body (drop (length old + 12) begun) ≡ after
    unfolding behind_header
    told = ap (with_octets version kind order body) (begun-behind order (forms padded) old begun b)

    only : (fs : List Value) → chosen ≡ Some fs → forms padded ≡ fs
    only fs e = let both : Some (forms padded) ≡ Some fs = sym is ∙ e in cc

    by-message : (r : Result (Unit {0}) PlacingError) (new : List ℕ) → IsEnded limit (message_octets version kind order after) r old new → Answers r old new
    by-message (Ok x) new h = record { chosen = forms padded; are = is; within = omega (arith, h.0, message-length version kind order after); appended = h.1 }
    by-message (Err refused.TooLong) new h = (λ fs e. subst (λ (x : List Value). limit < size_of version kind order body x) (only fs e) (omega (arith, h.0, message-length version kind order after)), h.1)
    by-message (Err refused.Memory) new h = h
    by-message (Err refused.Place) new h = absurd h
    by-message (Err refused.Status) new h = absurd h
    by-message (Err refused.Operation) new h = absurd h

    pub ended : (r : Result (Unit {0}) PlacingError) (new : List ℕ)
        → IsEnded limit (message_octets version kind order (with_octets version kind order body (drop (length old + 12) begun))) r (take (length old) begun) new → Answers r old new
    ended r new h =
        by-message r new (subst (λ (xs : List ℕ). IsEnded limit (message_octets version kind order xs) r old new) told
        (subst (λ (xs : List ℕ). IsEnded limit (message_octets version kind order (with_octets version kind order body (drop (length old + 12) begun))) r xs new) (begun-front order (forms padded) old begun b) h))

    -- from where it began, by the kind that the code names
    pub ended-at : (start : ℕ) → start ≡ length old → (k : MessageKind) → k ≡ kind → (r : Result (Unit {0}) PlacingError) (new : List ℕ)
        → IsEnded limit (message_octets version k order (with_octets version k order body (drop (start + 12) begun))) r (take start begun) new → Answers r old new
    ended-at start same k is r new h =
        ended r new (subst (λ (n : ℕ). IsEnded limit (message_octets version kind order (with_octets version kind order body (drop (n + 12) begun))) r (take n begun) new) same
        (subst (λ (q : MessageKind). IsEnded limit (message_octets version q order (with_octets version q order body (drop (start + 12) begun))) r (take start begun) new) is h))

-- the two ways to begin

module _ (version : Version) (kind : MessageKind) (order : Order) (place : ℕ) (body : List ℕ) (forms : Bool → List Value) where
  abbrev pub Begun : Result (Unit {0}) PlacingError → List ℕ → List ℕ → Type 0
  Begun r old new = BeginsAt version kind order place body forms r old new

  pub begun-first : (old new : List ℕ) → Follows version order place body forms false true → Begins {A = Bool} order (forms false) (Ok true) old new → Begun (Ok tt) old new
  begun-first old new follows b = (false, first_chosen version order place body forms follows, b)

  pub begun-second : (old new : List ℕ) → Follows version order place body forms false false → Follows version order place body forms true true → Begins {A = Bool} order (forms true) (Ok true) old new → Begun (Ok tt) old new
  begun-second old new not follows b = (true, second_chosen version order place body forms not follows, b)

  pub begun-nowhere : (old new : List ℕ) → Follows version order place body forms false false → Follows version order place body forms true false → Begins {A = Bool} order (forms true) (Ok true) old new → Begun (Err refused.Place) old new
  begun-nowhere old new not never b = (none_chosen version order place body forms not never, begun-keeps order (forms true) old new b)

  pub first-fails : length (octets_of_all order (values (forms false)) 12) + 12 ≤ length (octets_of_all order (values (forms true)) 12) → (e : WriteError) (old new : List ℕ)
      → Begins {A = Bool} order (forms false) (Err e) old new → Begun (Err (refused_as e)) old new
  first-fails longer e old new h = first-refused version kind order 4294967295 place body forms (omega arith) longer e old new h

  pub second-fails : Follows version order place body forms false false → (e : WriteError) (old new : List ℕ) → Begins {A = Bool} order (forms true) (Err e) old new → Begun (Err (refused_as e)) old new
  second-fails not e old new h = one-refused version kind order 4294967295 place body forms (omega arith) true only-second e old new h
    where
      by-form : (padded : Bool) (fs : List Value) → forms padded ≡ fs → Follows version order place body forms padded true → forms true ≡ fs
      by-form true fs is follows = is
      by-form false fs is follows = absurd (let both : false ≡ true = sym not ∙ follows in cc)

      only-second : (fs : List Value) → fields_at version order place body forms ≡ Some fs → forms true ≡ fs
      only-second fs e = let f = found version order place body forms fs e in by-form f.0 fs f.1 f.2

-- a greater limit is passed where a less one is

pub weaker : (version : Version) (kind : MessageKind) (order : Order) (limit : ℕ) (body : List ℕ) (chosen : Option (List Value)) (e : PlacingError) (old new : List ℕ) → limit < 2 ^ 32
    → AppendsAt {A = Unit {0}} version kind order 4294967295 body chosen (Err e) old new → AppendsAt {A = Unit {0}} version kind order limit body chosen (Err e) old new
weaker version kind order limit body chosen refused.TooLong old new lt h = (λ fs e. omega (arith, lt, h.0 fs e), h.1)
weaker version kind order limit body chosen refused.Place old new lt h = h
weaker version kind order limit body chosen refused.Memory old new lt h = h
weaker version kind order limit body chosen refused.Status old new lt h = h
weaker version kind order limit body chosen refused.Operation old new lt h = h

-- what is cut back

module _ (version : Version) (kind : MessageKind) (order : Order) (limit : ℕ) (body : List ℕ) (chosen : Option (List Value)) (start : ℕ) (old mid new : List ℕ) (same : start ≡ length old) where
  abbrev At : Result (Unit {0}) PlacingError → List ℕ → Type 0
  At r xs = AppendsAt version kind order limit body chosen r old xs

  back : (k : Keeps old mid) → new ≡ take start mid → new ≡ old
  back k e = e ∙ ap (λ (n : ℕ). take n mid) same ∙ kept old mid k

  keeps-now : (k : Keeps old mid) → new ≡ take start mid → Keeps old new
  keeps-now k e = keeps_all old new (back k e)

  pub back-appends : (r : Result (Unit {0}) PlacingError) → At r mid → OnOk r (new ≡ mid) → OnErr r (new ≡ take start mid) → At r new
  back-appends (Ok x) h ok err = subst (λ (xs : List ℕ). Appends version kind order limit body chosen old xs) (sym ok) h
  back-appends (Err refused.TooLong) h ok err = (h.0, keeps-now h.1 err)
  back-appends (Err refused.Place) h ok err = (h.0, keeps-now h.1 err)
  back-appends (Err refused.Memory) h ok err = keeps-now h err
  back-appends (Err refused.Status) h ok err = h
  back-appends (Err refused.Operation) h ok err = h

  pub back-same : (r : Result (Unit {0}) PlacingError) → At r mid → OnOk r (new ≡ mid) → OnErr r (new ≡ take start mid) → OnErr r (new ≡ old)
  back-same (Ok x) h ok err = tt
  back-same (Err refused.TooLong) h ok err = back h.1 err
  back-same (Err refused.Place) h ok err = back h.1 err
  back-same (Err refused.Memory) h ok err = back h err
  back-same (Err refused.Status) h ok err = absurd h
  back-same (Err refused.Operation) h ok err = absurd h

-- what each outcome says

module _ (version : Version) (kind : MessageKind) (order : Order) (limit : ℕ) (body : List ℕ) (chosen : Option (List Value)) (old new : List ℕ) where
  abbrev Of : Result (Unit {0}) PlacingError → Type 0
  Of r = AppendsAt version kind order limit body chosen r old new

  pub at-ok : (r : Result (Unit {0}) PlacingError) → Of r → OnOk r (Appends version kind order limit body chosen old new)
  at-ok (Ok x) h = h
  at-ok (Err e) h = tt

  pub at-long : (r : Result (Unit {0}) PlacingError) → Of r → r ≡ Err refused.TooLong → IsOver version kind order limit body chosen
  at-long r h e = (subst Of e h).0

  pub at-place : (r : Result (Unit {0}) PlacingError) → Of r → r ≡ Err refused.Place → chosen ≡ None
  at-place r h e = (subst Of e h).0

  pub at-operation : (r : Result (Unit {0}) PlacingError) → Of r → r ≡ Err refused.Operation → ⊥
  at-operation r h e = subst Of e h

  pub at-status : (r : Result (Unit {0}) PlacingError) → Of r → r ≡ Err refused.Status → ⊥
  at-status r h e = subst Of e h

-- the fields of either kind

pub fields_longer : (version : Version) (order : Order) (f : Fields) (place : ℕ) (body : List ℕ) → Longer order (fields_for version f place body false) (fields_for version f place body true)
fields_longer version order (fields.Request r) place body = request_longer order (map item_at r.contexts.now) r.request_id (wish_in version r.wish) r.object_key.now r.operation.now (principal_for place body) version
fields_longer version order (fields.Reply r) place body = reply_longer order (map item_at r.contexts.now) version r.request_id r.status

-- after a message was begun and cut back, the output is as it was
pub back-again : (order : Order) (fs : List Value) (start : ℕ) (old mid cut : List ℕ) → start ≡ length old → Begins {A = Bool} order fs (Ok true) old mid → cut ≡ take start mid → cut ≡ old
back-again order fs start old mid cut same b e = e ∙ ap (λ (n : ℕ). take n mid) same ∙ begun-front order fs old mid b
