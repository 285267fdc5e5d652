-- What replies carry.
use Rattle.std.proofs.Common.{◌≡◌, ◌∙◌, ◌⊎◌, ◌==◌, ◌≤◌, if◌then◌else◌, ℕ, Bool, true, false, Bor, List, [], ◌∷◌, ◌++◌, length, map, option_map, Option, Some, None, IsSome, IsTrue, Result, Ok, Err, is_err, ap, inl, inr, refl, sym, subst, arith}
use Rattle.std.proofs.lemmas.Bool.{cases_lt, false≢true}
use Rattle.std.proofs.lemmas.Option.{none-some}
use Rattle.cdr_core.specs.Writing.{octets_of}
use Rattle.cdr_core.specs.declared.order.Order.TheVariants.{Big}
use Rattle.giop_core.specs.declared.header.MessageKind.TheVariants.{Reply}
use Rattle.giop_core.specs.Items.{item_at, list_value}
use Rattle.giop_core.specs.Laws.{rest_after}
use Rattle.giop_core.specs.Written.{reply_fields}
use Rattle.ft_log.specs.Holding.{Holding}
use Rattle.ft_log.specs.Performed.{Performed}
use Rattle.ft_objects.specs.declared.families.Families.{Families}
use Rattle.ft_objects.specs.Families.{families_offer}
use Rattle.ft_orb.specs.declared.answering.Asker.{Asker}
use Rattle.ft_orb.specs.declared.engine.Engine.{Engine}
use Rattle.ft_orb.specs.declared.error.ServeError.{ServeError}
use Rattle.ft_orb.specs.declared.parked.Parked.{Parked}
use Rattle.ft_orb.specs.declared.parked.Waiter.{Waiter}
use Rattle.ft_orb.specs.Carrying.{CanCarry, FitsTold, contexts_limit, due_in, first_of, is_placed, next_of, reply_if, reply_with, unless_failed}
use Rattle.ft_orb.specs.History.{Event}
use Rattle.ft_orb.specs.Parked.{going_in, on_going}
use Rattle.ft_orb.specs.Parking.{Settings, Stays, parked_at, told_in, told_of}
use Rattle.ft_orb.specs.Requests.{Call}
use Rattle.ft_orb.specs.Tellings.{Closing, Failed, Located, Replied, Telling, nothing_yet, reply_told}
use Rattle.ft_orb.proofs.Carried.{carries-none as carried-none}
use Rattle.ft_orb.proofs.Late.{links-go}
use Rattle.lemonrudder.specs.declared.serving.replying.Said.{Said}
use Rattle.lemonrudder.specs.declared.terms.Setup.{Setup}
use Rattle.lemonrudder.specs.Replying.{AreCarried, Carries, Contexts, left_for, said_for}

-- Whether a reply can carry contexts can be told.

both : {P Q : Type 0} → P ⊎ ¬ P → Q ⊎ ¬ Q → (P × Q) ⊎ ¬ (P × Q)
both (inl p) (inl q) = inl (p, q)
both (inl p) (inr never) = inr (λ h. never h.1)
both (inr never) q = inr (λ h. never h.0)

true-or : (b : Bool) → IsTrue b ⊎ ¬ (IsTrue b)
true-or true = inl refl
true-or false = inr (λ h. false≢true h)

most-or : (m n : ℕ) → (n ≤ m) ⊎ ¬ (n ≤ m)
most-or m n = elim (cases_lt m n) [
  | inl more ↦ inr (λ less. omega (arith, more, less))
  | inr less ↦ inl less
]

told-or : (all : Contexts) (p : Performed) (told : Option Telling) → FitsTold all p told ⊎ ¬ (FitsTold all p told)
told-or all p None = inl tt
told-or all p (Some (Replied version order id status body)) =
    both (most-or contexts_limit (length (octets_of Big (list_value all) 12))) (true-or (is_placed p (rest_after version Reply order (reply_fields version id status all) body)))
told-or all p (Some (Located version id status)) = inl tt
told-or all p (Some Failed) = inl tt
told-or all p (Some Closing) = inl tt

can-or : (all : Contexts) (asker : Option Asker) (outcome : Option Performed) → CanCarry all asker outcome ⊎ ¬ (CanCarry all asker outcome)
can-or all None outcome = inl tt
can-or all (Some k) None = inl tt
can-or all (Some k) (Some p) = told-or all p (reply_told k.wish k.version k.request_id p)

abbrev by : {P : Type 0} → P ⊎ ¬ P → Contexts → Contexts
by (inl can) all = all
by (inr cannot) all = []

by-is : {P : Type 0} (d : P ⊎ ¬ P) (all : Contexts) → (P → by d all ≡ all) × (¬ P → by d all ≡ [])
by-is (inl can) all = ((λ _. refl), λ cannot. absurd (cannot can))
by-is (inr cannot) all = ((λ can. absurd (cannot can)), λ _. refl)

-- so what it carries is found
pub carried_by : Contexts → Option Asker → Option Performed → Contexts
carried_by said asker outcome = by (can-or said asker outcome) said

pub carried-are : (said : Contexts) (asker : Option Asker) (outcome : Option Performed) → AreCarried said (carried_by said asker outcome) asker outcome
unfolding carried_by
carried-are said asker outcome = by-is (can-or said asker outcome) said

pub carries-are : (said : Contexts) (outcome : Performed) → Carries said outcome (λ w. carried_by said (Some w.asker) (Some outcome))
carries-are said outcome w = carried-are said (Some w.asker) (Some outcome)

-- each reply can carry none
pub carries-empty : (contexts : List (ℕ × Bor (List ℕ))) (asker : Option Asker) (outcome : Option Performed) → length contexts ≡ 0 → CanCarry (map item_at contexts) asker outcome
carries-empty [] asker outcome none = carried-none asker outcome
carries-empty (x ∷ contexts) asker outcome none = absurd cc

-- of none, none
pub carries-none : (outcome : Performed) → Carries [] outcome (λ w. [])
carries-none outcome w = ((λ _. refl), λ _. refl)

-- Who is told.

-- who waits first is told next
pub due-is : (x : Settings) (held : ℕ → Holding) (calls : List Call) (e : Engine Families) (past : List Event) (waiting : ℕ → List Waiter) (n : ℕ) (outcome : Performed) (w : Waiter) (rest : List Waiter) → Stays families_offer x held calls e past waiting
    → told_in e n ≡ Some outcome → waiting n ≡ w ∷ rest → due_in e n ≡ Some w.asker
due-is x held calls e past waiting n outcome w rest st told is = at (parked_at e n) refl where
  at : (o : Option Parked) → parked_at e n ≡ o → due_in e n ≡ Some w.asker
  at None none = absurd (none-some outcome (sym (ap told_of none) ∙ told))
  at (Some p) some =
      let goes = links-go families_offer x nothing_yet held calls e past st.rests in
      let first : on_going (going_in e.links) p.waiters.items ≡ w ∷ rest = ap (λ (g : ℕ → Bool). on_going g p.waiters.items) goes ∙ (st.parks.lists n p some ∙ is) in
      ap (λ (o : Option Parked). option_map (λ (v : Waiter). v.asker) (next_of (going_in e.links) o)) some ∙ ap (λ (l : List Waiter). option_map (λ (v : Waiter). v.asker) (first_of l)) first

-- what was sent, once it is known who asked and what was told
pub sent-so : (said carried : Contexts) (asker : Option Asker) (told : Option Performed) (k : Asker) (p : Performed) (r : Result (Unit {0}) ServeError) (before out : List ℕ) → asker ≡ Some k → told ≡ Some p → AreCarried said carried (Some k) (Some p)
    → ((cs : Contexts) → AreCarried said cs asker told → out ≡ before ++ unless_failed r (reply_if cs asker told)) → out ≡ before ++ unless_failed r (reply_with carried k p)
sent-so said carried asker told k p r before out who what can sent =
    sent carried (subst (λ a. AreCarried said carried a told) (sym who) (subst (λ t. AreCarried said carried (Some k) t) (sym what) can))
    ∙ (ap (λ a. before ++ unless_failed r (reply_if carried a told)) who ∙ ap (λ t. before ++ unless_failed r (reply_if carried (Some k) t)) what)

pub when-made : (r : Result (Unit {0}) ServeError) (octets : List ℕ) → is_err r ≡ false → unless_failed r octets ≡ octets
when-made (Ok x) octets is = refl
when-made (Err e) octets is = absurd (false≢true (sym is))

pub when-missed : (r : Result (Unit {0}) ServeError) (octets : List ℕ) → is_err r ≡ true → unless_failed r octets ≡ []
when-missed (Ok x) octets is = absurd (false≢true is)
when-missed (Err e) octets is = refl

-- What was said.

whole : (b : Bool) (x : Said) → IsSome (if b then Some x else None) → ◌≡◌ {A = Option Said} (if b then Some x else None) (Some x)
whole true x some = refl
whole false x some = absurd (false≢true some)

pub said-whole : (ticket : ℕ) (o : Option Said) → IsSome (said_for ticket o) → said_for ticket o ≡ o
said-whole ticket None some = absurd (false≢true some)
said-whole ticket (Some x) some = whole (x.ticket == ticket) x some

-- what was taken is put back
pub put-back : (setup new : Setup) (ticket : ℕ) (said : Option Said) → said ≡ said_for ticket setup.said → new ≡ record setup { said = left_for ticket setup.said } → IsSome said → record new { said = said } ≡ setup
put-back setup new ticket said is left some =
    ap (λ (u : Setup). record u { said = said }) left
    ∙ ap (λ (o : Option Said). record setup { said = o }) (is ∙ said-whole ticket setup.said (subst (λ (o : Option Said). IsSome o) is some))
