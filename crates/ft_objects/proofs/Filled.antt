-- What a catalogue offers once the object under one key has changed.
use Rattle.std.proofs.Common.{◌≡◌, ◌∙◌, ℕ, Bool, true, false, List, Option, Some, None, Result, Ok, Err, OnOk, OnErr, ap, is_some, sym}
use Rattle.ft_objects.specs.Filling.{changed, ids_at, ids_in, is_raw, is_raw_at, offer_in, offered_at, offered_by, with_object, with_operations, with_raw_object, without_object}
use Rattle.ft_objects.specs.Interfaces.{Interface, no_operation, raw_operation}
use Rattle.ft_objects.specs.declared.object.Object.{Object}
use Rattle.ft_objects.proofs.Named.{changed_same, changed_through, none_is}

-- what holds at either end
pub at_both : {T E P : Type 0} (r : Result T E) → OnOk r P → OnErr r P → P
at_both (Ok x) ok err = ok
at_both (Err x) ok err = err

-- what follows from two clauses
pub on_ok_two : {T E P Q R : Type 0} (r : Result T E) → (P → Q → R) → OnOk r P → OnOk r Q → OnOk r R
on_ok_two (Ok x) f p q = f p q
on_ok_two (Err x) f p q = tt

-- which objects are raw as a whole, and the ids that they name
abbrev pub raw_of_objects : (List ℕ → Option Object) → List ℕ → Bool
raw_of_objects f key = is_raw_at (f key)

abbrev pub ids_of_objects : (List ℕ → Option Object) → List ℕ → Option (List (List ℕ))
ids_of_objects f key = ids_at (f key)

-- the catalogue f, with the object w under the key
module _ (f g : List ℕ → Option Object) (key : List ℕ) (w : Object) (now : g ≡ changed key (Some w) f) where
  offer_now : offer_in g ≡ record { interface = changed key (offered_by w) (offer_in f).interface; knows = changed key true (offer_in f).knows }
  offer_now = ap offer_in now ∙ (λ i. record { interface = changed_through offered_at f key (Some w) i; knows = changed_through (is_some {T = Object}) f key (Some w) i })

  pub raw_now : raw_of_objects g ≡ changed key (is_raw w) (raw_of_objects f)
  raw_now = ap raw_of_objects now ∙ changed_through is_raw_at f key (Some w)

  pub ids_now : ids_of_objects g ≡ changed key (ids_in w) (ids_of_objects f)
  ids_now = ap ids_of_objects now ∙ changed_through ids_at f key (Some w)

  -- where the key named no object
  pub object_added : offered_by w ≡ (λ name. no_operation) → offer_in g ≡ with_object key (offer_in f)
  object_added none = offer_now ∙ ap (λ (i : List ℕ → Interface). record { interface = changed key i (offer_in f).interface; knows = changed key true (offer_in f).knows }) none

  pub raw_added : offered_by w ≡ (λ name. raw_operation) → offer_in g ≡ with_raw_object key (offer_in f)
  raw_added raw = offer_now ∙ ap (λ (i : List ℕ → Interface). record { interface = changed key i (offer_in f).interface; knows = changed key true (offer_in f).knows }) raw

  pub raw_fresh : f key ≡ None → is_raw w ≡ false → raw_of_objects g ≡ raw_of_objects f
  raw_fresh free is = raw_now ∙ changed_same (raw_of_objects f) key (is_raw w) (ap is_raw_at free ∙ sym is)

  pub ids_fresh : f key ≡ None → ids_in w ≡ None → ids_of_objects g ≡ ids_of_objects f
  ids_fresh free is = ids_now ∙ changed_same (ids_of_objects f) key (ids_in w) (ap ids_at free ∙ sym is)

  -- where it named the object o
  module _ (o : Object) (was : f key ≡ Some o) where
    there : offer_in g ≡ with_operations key (offered_by w) (offer_in f)
    there = offer_now ∙ ap (λ (b : List ℕ → Bool). record { interface = changed key (offered_by w) (offer_in f).interface; knows = b }) (changed_same (λ k. is_some (f k)) key true (ap (is_some {T = Object}) was))

    -- F of the operations that it had
    pub operations_now : (F : (List ℕ → Interface) → List ℕ → Interface) → offered_by w ≡ F (offered_by o) → offer_in g ≡ with_operations key (F ((offer_in f).interface key)) (offer_in f)
    operations_now F is = there ∙ ap (λ (i : List ℕ → Interface). with_operations key i (offer_in f)) (is ∙ ap F (sym (ap offered_at was)))

    pub offer_kept : offered_by w ≡ offered_by o → offer_in g ≡ offer_in f
    offer_kept is =
        there ∙ ap (λ (i : List ℕ → List ℕ → Interface). record { interface = i; knows = (offer_in f).knows }) (changed_same (λ k. offered_at (f k)) key (offered_by w) (ap offered_at was ∙ sym is))

    pub raw_kept : is_raw w ≡ is_raw o → raw_of_objects g ≡ raw_of_objects f
    raw_kept is = raw_now ∙ changed_same (raw_of_objects f) key (is_raw w) (ap is_raw_at was ∙ sym is)

    pub ids_kept : ids_in w ≡ ids_in o → ids_of_objects g ≡ ids_of_objects f
    ids_kept is = ids_now ∙ changed_same (ids_of_objects f) key (ids_in w) (ap ids_at was ∙ sym is)

-- the catalogue f, without an object under the key
module _ (f g : List ℕ → Option Object) (key : List ℕ) (now : g ≡ changed key None f) where
  pub offer_gone : offer_in g ≡ without_object key (offer_in f)
  offer_gone = ap offer_in now ∙ (λ i. record { interface = changed_through offered_at f key None i; knows = changed_through (is_some {T = Object}) f key None i })

  pub raw_gone : raw_of_objects g ≡ changed key false (raw_of_objects f)
  raw_gone = ap raw_of_objects now ∙ changed_through is_raw_at f key None

  pub ids_gone : ids_of_objects g ≡ changed key None (ids_of_objects f)
  ids_gone = ap ids_of_objects now ∙ changed_through ids_at f key None

  -- where there was none
  pub none_gone : is_some (f key) ≡ false → g ≡ f
  none_gone none = now ∙ changed_same f key None (none_is (f key) none)
