-- The connection of what waits is there.
use Rattle.std.proofs.Common.{◌≡◌, ◌==◌, ◌∙◌, ℕ, Bool, true, false, [], is_some, IsSome, List, Option, Some, None, Result, Ok, Err, OnOk, OnErr, ap, refl, subst, sym, arith}
use Rattle.std.proofs.lemmas.Grind.{common_steps}
use Rattle.std.specs.Option.{option_map_or}
use Rattle.ft_orb.specs.declared.engine.Engine.{Engine}
use Rattle.ft_orb.specs.declared.engine.Fed.{Fed}
use Rattle.ft_orb.specs.declared.engine.Fed.TheVariants as fed
use Rattle.ft_orb.specs.declared.error.ServeError.{ServeError}
use Rattle.ft_orb.specs.Engines.{Awaited, IsLeftAt, waits_in}
use Rattle.lemonrudder.specs.declared.connections.Connection.{Connection}
use Rattle.lemonrudder.specs.declared.connections.Connections.{Connections}
use Rattle.lemonrudder.specs.declared.serving.questions.Found.TheVariants.{Waits}
use Rattle.lemonrudder.specs.Dues.{owed}
use Rattle.lemonrudder.specs.Tickets.{IsFound}
use Rattle.lemonrudder.specs.Connected.{AreOthers, AreSame, IsSameAt, OnlyDue, connection_at, is_asked_there, is_there, owed_in}

module _ {C : Type 0} where
  -- nothing waits
  pub asked-idle : (k : Connections) (e : Engine C) → waits_in e ≡ None → is_asked_there k e ≡ true
  asked-idle k e idle = ap (λ (o : Option Awaited). option_map_or (λ (w : Awaited). is_there k w.connection) o true) idle

  -- the same waits, and the connections are those that were
  pub asked-still : (k l : Connections) (e f : Engine C) → waits_in f ≡ waits_in e → ((c : ℕ) → is_there l c ≡ is_there k c) → is_asked_there k e ≡ true → is_asked_there l f ≡ true
  asked-still k l e f same stay there = by (waits_in e) (waits_in f) same there
    where
      by : (o p : Option Awaited) → p ≡ o → option_map_or (λ (w : Awaited). is_there k w.connection) o true ≡ true → option_map_or (λ (w : Awaited). is_there l w.connection) p true ≡ true
      by None p is there = ap (λ (x : Option Awaited). option_map_or (λ (w : Awaited). is_there l w.connection) x true) is
      by (Some w) p is there = ap (λ (x : Option Awaited). option_map_or (λ (w : Awaited). is_there l w.connection) x true) is ∙ (stay w.connection ∙ there)

  -- what waits came on this connection
  pub asked-on : (k : Connections) (e : Engine C) (c : ℕ) (w : Awaited) → waits_in e ≡ Some w → w.connection ≡ c → is_there k c ≡ true → is_asked_there k e ≡ true
  asked-on k e c w waits on there = ap (λ (o : Option Awaited). option_map_or (λ (w : Awaited). is_there k w.connection) o true) waits ∙ (ap (is_there k) on ∙ there)

  -- so its connection is there
  pub asked-there : (k : Connections) (e : Engine C) (w : Awaited) → waits_in e ≡ Some w → is_asked_there k e ≡ true → is_there k w.connection ≡ true
  asked-there k e w waits asked = sym (ap (λ (o : Option Awaited). option_map_or (λ (w : Awaited). is_there k w.connection) o true) waits) ∙ asked

-- which are there
pub only-there : (k l : Connections) (c : ℕ) → OnlyDue c k l → (q : ℕ) → is_there l q ≡ is_there k q
only-there k l c only q = by (c == q) refl
  where
    by : (b : Bool) → (c == q) ≡ b → is_there l q ≡ is_there k q
    by true is = let here : c ≡ q = grind (arith, common_steps) in subst (λ x. is_there l x ≡ is_there k x) here only.0
    by false is = (only.1 q is).0

-- two changes of what is due on a connection are one
pub only-only : (c : ℕ) (k l m : Connections) → OnlyDue c k l → OnlyDue c l m → OnlyDue c k m
only-only c k l m x y = (y.0 ∙ x.0, λ q apart. ((y.1 q apart).0 ∙ (x.1 q apart).0, (y.1 q apart).1 ∙ (x.1 q apart).1))

-- .. which may be none
pub only-same : (c : ℕ) (k l : Connections) → OnlyDue c k l → owed_in l c ≡ owed_in k c → AreSame k l
only-same c k l only owed q = by (c == q) refl
  where
    by : (b : Bool) → (c == q) ≡ b → IsSameAt q k l
    by true is = let here : c ≡ q = grind (arith, common_steps) in subst (λ x. IsSameAt x k l) here (only.0, owed)
    by false is = only.1 q is

-- a connection that is not there owes nothing
pub owes-none : (k : Connections) (c : ℕ) → is_there k c ≡ false → owed_in k c ≡ []
owes-none k c none = by (connection_at k c) none
  where
    by : (o : Option Connection) → is_some o ≡ false → option_map_or (λ (x : Connection). owed x.due) o [] ≡ []
    by None is = refl
    by (Some x) is = absurd cc

-- a connection was opened, and is not there again, unless it was before
pub opened-undone : (c : ℕ) (was : Bool) (k l m : Connections) → was ≡ is_there k c → AreOthers c k l → (is_there k c ≡ true → AreSame k l) → AreOthers c l m → (was ≡ false → is_there m c ≡ false) → (was ≡ true → AreSame l m) → AreSame k m
opened-undone c true k l m was opened stays undone gone same q = ((same refl q).0 ∙ (stays (sym was) q).0, (same refl q).1 ∙ (stays (sym was) q).1)
opened-undone c false k l m was opened stays undone gone same q = by (c == q) refl
  where
    by : (b : Bool) → (c == q) ≡ b → IsSameAt q k m
    by true is = let here : c ≡ q = grind (arith, common_steps) in subst (λ y. IsSameAt y k m) here (gone refl ∙ was, owes-none m c (gone refl) ∙ sym (owes-none k c (sym was)))
    by false is = ((undone q is).0 ∙ (opened q is).0, (undone q is).1 ∙ (opened q is).1)

-- nothing is due on a connection that was not there
pub opened-owed : (c : ℕ) (k l : Connections) → (is_there k c ≡ false → owed_in l c ≡ []) → (is_there k c ≡ true → AreSame k l) → owed_in l c ≡ owed_in k c
opened-owed c k l fresh stays = by (is_there k c) refl
  where
    by : (b : Bool) → is_there k c ≡ b → owed_in l c ≡ owed_in k c
    by true is = (stays is c).1
    by false is = fresh is ∙ sym (owes-none k c is)

-- nothing waits
pub idle-by : (b : Bool) (o : Option Awaited) → (IsSome o → b ≡ true) → b ≡ false → o ≡ None
idle-by b None some is = refl
idle-by b (Some w) some is = let y : b ≡ true = some refl in absurd cc

-- what waits came on a connection that is there
pub found-there : {C : Type 0} (k : Connections) (e : Engine C) (n c : ℕ) → IsFound (Waits n c) (waits_in e) → is_asked_there k e ≡ true → is_there k c ≡ true
found-there k e n c found asked = by (waits_in e) found asked
  where
    by : (o : Option Awaited) → IsFound (Waits n c) o → option_map_or (λ (w : Awaited). is_there k w.connection) o true ≡ true → is_there k c ≡ true
    by None found asked = absurd found
    by (Some w) found asked = sym (ap (is_there k) found.1) ∙ asked

-- an equation of what is due, carried to what is due on a connection
pub carry : (P : List ℕ → List ℕ → Type 0) (a b x y : List ℕ) → a ≡ x → y ≡ b → P a b → P x y
carry P a b x y e f h = subst (λ z. P x z) (sym f) (subst (λ z. P z b) e h)

-- what waits after a piece came on its connection
pub asked-left : {C : Type 0} (k : Connections) (e : Engine C) (c size : ℕ) (f : Result Fed ServeError) → IsLeftAt c size f (waits_in e) → is_there k c ≡ true → is_asked_there k e ≡ true
asked-left k e c size (Ok fed.Whole) left there = asked-idle k e left
asked-left k e c size (Ok (fed.Asks taken)) left there = asked-on k e c _ left.6 refl there
asked-left k e c size (Ok (fed.Repeats taken)) left there = asked-idle k e left.2
asked-left k e c size (Err y) left there = asked-idle k e left

-- nothing waits after a call that succeeded, and else what waited
pub asked-after : {C A E : Type 0} (X : Type 0) (k l : Connections) (e f : Engine C) (r : Result A E) → OnOk r (waits_in f ≡ None) → OnErr r ((f ≡ e) × X) → ((c : ℕ) → is_there l c ≡ is_there k c) → is_asked_there k e ≡ true → is_asked_there l f ≡ true
asked-after {C = C} X k l e f (Ok y) idle same there asked = asked-idle l f idle
asked-after {C = C} X k l e f (Err y) idle same there asked = asked-still k l e f (ap (λ (g : Engine C). waits_in g) same.0) there asked
