-- What Replies with service contexts take, and what of them is as without.
use Rattle.std.proofs.Common.{◌≡◌, ◌==◌, ◌∙◌, ◌||◌, ap, refl, sym, ℕ, ◌+◌, ◌*◌, ◌-◌, ◌%◌, ◌<◌, ◌≤◌, ◌^◌, Bool, true, false, arith, List, [], ◌∷◌, ◌++◌, length, length-append, drop, get_or, slice_index_or, replicate, cond, subst, Option, Some, None, Result, Ok, Err, IfErr, IfSome}
use Rattle.std.proofs.lemmas.List.{append-nil, drop_more, length-replicate}
use Rattle.std.proofs.lemmas.Nat.{mod_below}
use Rattle.std.specs.Option.{option_map}
use Rattle.cdr_core.specs.Form as form
use Rattle.cdr_core.specs.Form.{Number, size}
use Rattle.cdr_core.specs.Numbers.{bits_of, padding}
use Rattle.cdr_core.specs.Parts.{ulong_value}
use Rattle.cdr_core.specs.Value as value
use Rattle.cdr_core.specs.Value.{Value, Values, count, no_values, values}
use Rattle.cdr_core.specs.Writing.{number_octets, octets_of, octets_of_all}
use Rattle.cdr_core.specs.declared.order.Order.{Order}
use Rattle.cdr_core.specs.declared.order.Order.TheVariants.{Big}
use Rattle.cdr_core.proofs.Lengths.{number_length}
use Rattle.giop_core.specs.Items.{list_value}
use Rattle.giop_core.specs.Written.{Wrote, behind_gap, behind_header, body_octets, reply_fields}
use Rattle.giop_core.specs.declared.error.WriteError.{WriteError}
use Rattle.giop_core.specs.declared.error.WriteError.TheVariants.{Memory, TooLong}
use Rattle.giop_core.specs.declared.header.MessageKind.TheVariants.{Reply}
use Rattle.giop_core.specs.declared.header.Version.{Version}
use Rattle.giop_core.specs.declared.header.Version.TheVariants.{V10, V11, V12}
use Rattle.giop_core.specs.Content.{Rest}
use Rattle.giop_core.proofs.Sizes.{replies-size}
use Rattle.ft_log.specs.Holding.{Holding, known}
use Rattle.ft_log.specs.Kept.{KeptOutcome}
use Rattle.ft_log.specs.Performed.{Performed, raised, raw, returned, system}
use Rattle.ft_orb.specs.declared.answering.Asker.{Asker}
use Rattle.ft_orb.specs.declared.desk.Step.{Step}
use Rattle.ft_orb.specs.declared.desk.Step.TheVariants.{Answered, Quiet, Unanswered, Unhandled}
use Rattle.ft_orb.specs.declared.keeper.Waiting.{Waiting}
use Rattle.ft_orb.specs.declared.parked.Parked.{Parked}
use Rattle.ft_orb.specs.declared.parked.Waiter.{Waiter}
use Rattle.ft_orb.specs.declared.pausing.Ask.{Ask}
use Rattle.ft_orb.specs.declared.pausing.Pending.{Pending}
use Rattle.ft_orb.specs.declared.serving.Cut.{Cut}
use Rattle.ft_orb.specs.Carrying.{AreShort, CanCarry, FitsBehind, FitsTold, first_of, is_placed, next_of, octets_carrying, reply_carrying, reply_if, reply_with}
use Rattle.ft_orb.specs.Parked.{IsClear, IsCleared, on_going}
use Rattle.ft_orb.specs.Pause.{pending_of}
use Rattle.ft_orb.specs.Private.{IsPut, counted_by}
use Rattle.ft_orb.specs.Tellings.{Closing, Failed, Located, Replied, Telling, octets_if, reply_by, reply_told}
use Rattle.ft_orb.specs.Waits.{Finishes, kept_with}

-- Values take at most twice as many octets at one place as at another, in either order.

some-size : (kind : Number) → 0 < size kind
some-size form.char = omega arith
some-size form.octet = omega arith
some-size form.short = omega arith
some-size form.ushort = omega arith
some-size form.long = omega arith
some-size form.ulong = omega arith
some-size form.longlong = omega arith
some-size form.ulonglong = omega arith

number-twice : (order other : Order) (n x p q : ℕ) → 0 < n → length (number_octets order n p x) ≤ 2 * length (number_octets other n q x)
number-twice order other n x p q some = omega (arith, mod_below (n - p % n) n some, number_length order n p x, number_length other n q x)

mutual
  pub twice : (order other : Order) (v : Value) (p q : ℕ) → length (octets_of order v p) ≤ 2 * length (octets_of other v q)
  twice order other (value.boolean false) p q = omega arith
  twice order other (value.boolean true) p q = omega arith
  twice order other (value.number kind z) p q = number-twice order other (size kind) (bits_of kind z) p q (some-size kind)
  twice order other (value.string text) p q =
      let front = number_octets order 4 p (length text + 1) in
      let front' = number_octets other 4 q (length text + 1) in
      omega (arith, number-twice order other 4 (length text + 1) p q (omega arith), length-append front text, length-append front' text, length-append (front ++ text) (0 ∷ []), length-append (front' ++ text) (0 ∷ []))
  twice order other (value.octets all) p q =
      let front = number_octets order 4 p (length all) in
      let front' = number_octets other 4 q (length all) in
      omega (arith, number-twice order other 4 (length all) p q (omega arith), length-append front all, length-append front' all)
  twice order other (value.sequence vs) p q =
      let front = number_octets order 4 p (count vs) in
      let front' = number_octets other 4 q (count vs) in
      omega (arith, number-twice order other 4 (count vs) p q (omega arith), all-twice order other vs (p + length front) (q + length front'), length-append front (octets_of_all order vs (p + length front)), length-append front' (octets_of_all other vs (q + length front')))
  twice order other (value.array vs) p q = all-twice order other vs p q
  twice order other (value.enumeration n) p q = number-twice order other 4 n p q (omega arith)
  twice order other (value.structure vs) p q = all-twice order other vs p q
  twice order other (value.union d ms) p q =
      let front = octets_of order d p in
      let front' = octets_of other d q in
      omega (arith, twice order other d p q, all-twice order other ms (p + length front) (q + length front'), length-append front (octets_of_all order ms (p + length front)), length-append front' (octets_of_all other ms (q + length front')))

  pub all-twice : (order other : Order) (vs : Values) (p q : ℕ) → length (octets_of_all order vs p) ≤ 2 * length (octets_of_all other vs q)
  all-twice order other value.no_values p q = omega arith
  all-twice order other (value.value v vs) p q =
      let front = octets_of order v p in
      let front' = octets_of other v q in
      omega (arith, twice order other v p q, all-twice order other vs (p + length front) (q + length front'), length-append front (octets_of_all order vs (p + length front)), length-append front' (octets_of_all other vs (q + length front')))

-- So a Reply is short where its contexts are, and its body at the place 24.

-- the octets of three values
three : (order : Order) (a b c : Value) (o : ℕ) (n m k : ℕ) → ((p : ℕ) → length (octets_of order a p) ≤ n) → ((p : ℕ) → length (octets_of order b p) ≤ m) → ((p : ℕ) → length (octets_of order c p) ≤ k) → length (octets_of_all order (values (a ∷ b ∷ c ∷ [])) o) ≤ n + m + k
three order a b c o n m k f g h =
    let first = octets_of order a o in
    let second = octets_of order b (o + length first) in
    let third = octets_of order c (o + length first + length second) in
    omega (arith, f o, g (o + length first), h (o + length first + length second), length-append first (second ++ (third ++ [])), length-append second (third ++ []), length-append {A = ℕ} third [])

ulong-most : (order : Order) (n p : ℕ) → length (octets_of order (ulong_value n) p) ≤ 8
ulong-most order n p = omega (arith, mod_below (4 - p % 4) 4 (omega arith), number_length order 4 p n)

enumeration-most : (order : Order) (n p : ℕ) → length (octets_of order (value.enumeration n) p) ≤ 8
enumeration-most order n p = omega (arith, mod_below (4 - p % 4) 4 (omega arith), number_length order 4 p n)

fields-most : (version : Version) (order : Order) (id status : ℕ) (contexts : List (ℕ × List ℕ)) → length (octets_of_all order (values (reply_fields version id status contexts)) 12) ≤ 16 + 2 * length (octets_of Big (list_value contexts) 12)
fields-most V10 order id status contexts =
    let n = 2 * length (octets_of Big (list_value contexts) 12) in
    let all = three order (list_value contexts) (ulong_value id) (value.enumeration status) 12 n 8 8 (λ p. twice order Big (list_value contexts) p 12) (ulong-most order id) (enumeration-most order status) in
    omega (arith, all)
fields-most V11 order id status contexts =
    let n = 2 * length (octets_of Big (list_value contexts) 12) in
    let all = three order (list_value contexts) (ulong_value id) (value.enumeration status) 12 n 8 8 (λ p. twice order Big (list_value contexts) p 12) (ulong-most order id) (enumeration-most order status) in
    omega (arith, all)
fields-most V12 order id status contexts =
    let n = 2 * length (octets_of Big (list_value contexts) 12) in
    let all = three order (ulong_value id) (value.enumeration status) (list_value contexts) 12 8 8 n (ulong-most order id) (enumeration-most order status) (λ p. twice order Big (list_value contexts) p 12) in
    omega (arith, all)

gap-most : (gap : ℕ) (octets : List ℕ) → length (behind_gap gap octets) ≤ gap + length octets
gap-most gap [] = omega arith
gap-most gap (x ∷ xs) = omega (arith, length-append (replicate {A = ℕ} gap 0) (x ∷ xs), length-replicate {A = ℕ} gap 0)

body-most : (version : Version) (order : Order) (body : Values) (place : ℕ) → length (body_octets version Reply order body place) ≤ 8 + 2 * length (octets_of_all order body 24)
body-most V10 order body place = omega (arith, all-twice order order body place 24)
body-most V11 order body place = omega (arith, all-twice order order body place 24)
body-most V12 order body place =
    let gap = padding place 8 in
    omega (arith, mod_below (8 - place % 8) 8 (omega arith), gap-most gap (octets_of_all order body (place + gap)), all-twice order order body (place + gap) 24)

carried-short : (version : Version) (order : Order) (id status : ℕ) (contexts : List (ℕ × List ℕ)) (body : Values) → AreShort contexts → length (octets_of_all order body 24) ≤ 1048576
    → length (behind_header version Reply order (reply_fields version id status contexts) body) < 2 ^ 32
unfolding behind_header
carried-short version order id status contexts body few short =
    let fields = octets_of_all order (values (reply_fields version id status contexts)) 12 in
    omega (arith, few, short, fields-most version order id status contexts, body-most version order body (12 + length fields), length-append fields (body_octets version Reply order body (12 + length fields)))

-- it is written, or an allocation failed
pub short_written : {A : Type 0} (contexts : List (ℕ × List ℕ)) (version : Version) (order : Order) (id status : ℕ) (body : Values) (r : Result A WriteError) (old new : List ℕ) → AreShort contexts → length (octets_of_all order body 24) ≤ 1048576 →
    Wrote version Reply order (behind_header version Reply order (reply_fields version id status contexts) body) r old new → IfErr r (λ e. (e ≡ Memory) × (new ≡ old))
short_written contexts version order id status body (Ok x) old new few short wrote = tt
short_written contexts version order id status body (Err TooLong) old new few short wrote =
    let long = wrote.0 in
    absurd (omega (arith, long, carried-short version order id status contexts body few short))
short_written contexts version order id status body (Err Memory) old new few short wrote = (refl, wrote)

-- a header is there in each case
pub reply_has_octets : (contexts : List (ℕ × List ℕ)) (version : Version) (order : Order) (id status : ℕ) (body : Values) → 0 < length (reply_carrying contexts version order id status body)
reply_has_octets contexts version order id status body = omega arith

-- Without contexts it is the plain Reply.

bare-octets : (t : Option Telling) → octets_carrying [] t ≡ octets_if t
bare-octets None = refl
bare-octets (Some (Replied version order id status body)) = refl
bare-octets (Some (Located version id status)) = refl
bare-octets (Some Failed) = refl
bare-octets (Some Closing) = refl

pub bare : (asker : Asker) (p : Performed) → reply_with [] asker p ≡ reply_by asker.wish asker.version asker.request_id p
bare asker p = bare-octets (reply_told asker.wish asker.version asker.request_id p)

bare-if : (asker : Option Asker) (own : Asker) (p : Performed) → asker ≡ Some own → reply_if [] asker (Some p) ≡ reply_by own.wish own.version own.request_id p
bare-if asker own p is = ap (λ (k : Option Asker). reply_if [] k (Some p)) is ∙ bare own p

-- where one with contexts has octets, so has it
some-octets : (contexts : List (ℕ × List ℕ)) (t : Option Telling) → 0 < length (octets_carrying contexts t) → 0 < length (octets_if t)
some-octets contexts None some = some
some-octets contexts (Some (Replied version order id status body)) some = reply_has_octets [] version order id status body
some-octets contexts (Some (Located version id status)) some = some
some-octets contexts (Some Failed) some = some
some-octets contexts (Some Closing) some = some

pub some-plain : (contexts : List (ℕ × List ℕ)) (asker : Asker) (p : Performed) → 0 < length (reply_with contexts asker p) → 0 < length (reply_by asker.wish asker.version asker.request_id p)
some-plain contexts asker p some = some-octets contexts (reply_told asker.wish asker.version asker.request_id p) some

-- it was not put where the one with contexts was not
unput-plain : (contexts : List (ℕ × List ℕ)) (own : Asker) (p : Performed) (before after : List ℕ) → IsPut (reply_with contexts own p) Unanswered before after → IsPut (reply_by own.wish own.version own.request_id p) Unanswered before (before ++ [])
unput-plain contexts own p before after put = (append-nil before, some-plain contexts own p put.1)

-- What waits is finished, as it would be by the plain Reply, where the answer is counted ..
module _ (contexts : List (ℕ × List ℕ)) (w : Waiting) (p : Performed) (old new : List (KeptOutcome Holding)) (before after : List ℕ) (handled : ℕ) (kept : new ≡ kept_with w.retained (known p) old) where
  pub finished-plain : (step : Step) (n : ℕ) (r : Result ℕ Cut) → IsPut (reply_with contexts w.asker p) step before after → r ≡ counted_by handled step → r ≡ Ok n → (asker : Option Asker) → asker ≡ Some w.asker → Finishes w p old step new before (before ++ reply_if [] asker (Some p))
  finished-plain Answered n r put by ok asker who = (kept, ap (λ xs. before ++ xs) (bare-if asker w.asker p who))
  finished-plain Quiet n r put by ok asker who = absurd put
  finished-plain Unhandled n r put by ok asker who = absurd put
  finished-plain Unanswered n r put by ok asker who = absurd (let both = sym ok ∙ by in cc)

  -- .. and where it is cut off
  pub cut-plain : (step : Step) (at : Cut) (r : Result ℕ Cut) → IsPut (reply_with contexts w.asker p) step before after → r ≡ counted_by handled step → r ≡ Err at → Finishes w p old step new before (before ++ [])
  cut-plain Answered at r put by err = absurd (let both = sym err ∙ by in cc)
  cut-plain Quiet at r put by err = absurd put
  cut-plain Unhandled at r put by err = absurd put
  cut-plain Unanswered at r put by err = (kept, unput-plain contexts w.asker p before after put)

-- what went out carries the contexts, where the answer is counted ..
pub put-counted : (contexts : List (ℕ × List ℕ)) (own : Asker) (p : Performed) (step : Step) (before after : List ℕ) (handled n : ℕ) (r : Result ℕ Cut) → IsPut (reply_with contexts own p) step before after → r ≡ counted_by handled step → r ≡ Ok n → (asker : Option Asker) → asker ≡ Some own → after ≡ before ++ reply_if contexts asker (Some p)
put-counted contexts own p Answered before after handled n r put by ok asker who = put ∙ ap (λ (k : Option Asker). before ++ reply_if contexts k (Some p)) (sym who)
put-counted contexts own p Quiet before after handled n r put by ok asker who = absurd put
put-counted contexts own p Unhandled before after handled n r put by ok asker who = absurd put
put-counted contexts own p Unanswered before after handled n r put by ok asker who = absurd (let both = sym ok ∙ by in cc)

-- .. and nothing did where it is cut off
pub put-cut : (octets : List ℕ) (step : Step) (before after : List ℕ) (handled : ℕ) (at : Cut) (r : Result ℕ Cut) → IsPut octets step before after → r ≡ counted_by handled step → r ≡ Err at → after ≡ before ++ []
put-cut octets Answered before after handled at r put by err = absurd (let both = sym err ∙ by in cc)
put-cut octets Quiet before after handled at r put by err = absurd put
put-cut octets Unhandled before after handled at r put by err = absurd put
put-cut octets Unanswered before after handled at r put by err = put.0 ∙ sym (append-nil before)

-- who asks in what waits
pub asks-so : (slot : Waiting) (asking : Option Ask) (ask : Ask) → asking ≡ Some ask → option_map (λ (x : Pending). x.waiting.asker) (pending_of slot asking) ≡ Some slot.asker
asks-so slot asking ask is = ap (λ (o : Option Ask). option_map (λ (x : Pending). x.waiting.asker) (pending_of slot o)) is

-- Every Reply can carry none.

or-true : (b : Bool) → (b || true) ≡ true
or-true true = refl
or-true false = refl

none-placed : (p : Performed) (body : Rest) → body.place ≡ 24 → is_placed p body ≡ true
none-placed (returned results) body at = refl
none-placed (raised id members) body at = refl
none-placed (system name minor completion) body at = refl
none-placed (raw status order octets) body at = ap (λ (n : ℕ). length body.octets == 0 || n % 8 == 0) at ∙ or-true (length body.octets == 0)

none-whole : (p : Performed) (version : Version) (order : Order) (id status : ℕ) (body : Values) → FitsTold [] p (Some (Replied version order id status body))
none-whole p version order id status body = (omega arith, none-placed p _ (ap (λ (rest : Rest). rest.place) (replies-size version order id status body).1))

none-told : (p : Performed) (told : Option Telling) → FitsTold [] p told
none-told p None = tt
none-told p (Some (Replied version order id status body)) = none-whole p version order id status body
none-told p (Some (Located version id status)) = tt
none-told p (Some Failed) = tt
none-told p (Some Closing) = tt

pub fits-none : (asker : Asker) (p : Performed) → FitsBehind [] asker p
fits-none asker p = none-told p (reply_told asker.wish asker.version asker.request_id p)

pub carries-none : (asker : Option Asker) (outcome : Option Performed) → CanCarry [] asker outcome
carries-none None outcome = tt
carries-none (Some asker) None = tt
carries-none (Some asker) (Some p) = fits-none asker p

-- who asks can be told so what there is
pub carried-fits : (contexts : List (ℕ × List ℕ)) (asker : Option Asker) (outcome : Option Performed) (k : Asker) (p : Performed) → asker ≡ Some k → outcome ≡ Some p → CanCarry contexts asker outcome → FitsBehind contexts k p
carried-fits contexts asker outcome k p who what can =
    subst (λ (o : Option Performed). IfSome o (λ q. FitsBehind contexts k q)) what (subst (λ (a : Option Asker). IfSome a (λ j. IfSome outcome (λ q. FitsBehind contexts j q))) who can)

-- A reply that is due.

-- who waits first on a connection that goes on
first-due : (goes : ℕ → Bool) (f : Waiter) (tail : List Waiter) → goes f.connection ≡ true → first_of (on_going goes (f ∷ tail)) ≡ Some f
first-due goes f tail up = ap (λ (b : Bool). first_of (cond b (f ∷ on_going goes tail) (on_going goes tail))) up

pub next-first : (goes : ℕ → Bool) (at : Option Parked) (p q : Parked) (f : Waiter) (tail : List Waiter) → at ≡ Some p → IsCleared goes p q → q.waiters.items ≡ f ∷ tail → next_of goes at ≡ Some f
next-first goes at p q f tail was cleared items =
    let up : goes f.connection ≡ true = subst (λ (l : List Waiter). IsClear goes l) items cleared.2 in
    ap (next_of goes) was ∙ ap first_of (sym cleared.1) ∙ ap (λ (l : List Waiter). first_of (on_going goes l)) items ∙ first-due goes f tail up

pub due-first : (goes : ℕ → Bool) (at : Option Parked) (p q : Parked) (f : Waiter) (tail : List Waiter) → at ≡ Some p → IsCleared goes p q → q.waiters.items ≡ f ∷ tail → option_map (λ (w : Waiter). w.asker) (next_of goes at) ≡ Some f.asker
due-first goes at p q f tail was cleared items = ap (option_map (λ (w : Waiter). w.asker)) (next-first goes at p q f tail was cleared items)

pub next-none : (goes : ℕ → Bool) (at : Option Parked) (p q : Parked) → at ≡ Some p → IsCleared goes p q → q.waiters.items ≡ [] → next_of goes at ≡ None
next-none goes at p q was cleared items = ap (next_of goes) was ∙ ap first_of (sym cleared.1) ∙ ap (λ (l : List Waiter). first_of (on_going goes l)) items

pub due-none : (goes : ℕ → Bool) (at : Option Parked) (p q : Parked) → at ≡ Some p → IsCleared goes p q → q.waiters.items ≡ [] → option_map (λ (w : Waiter). w.asker) (next_of goes at) ≡ None
due-none goes at p q was cleared items = ap (option_map (λ (w : Waiter). w.asker)) (next-none goes at p q was cleared items)

-- .. who is at the front of those left
pub next-here : (goes : ℕ → Bool) (at : Option Parked) (p q : Parked) (f : Waiter) → at ≡ Some p → IsCleared goes p q → 0 < length q.waiters.items → f ≡ slice_index_or q.waiters.items 0 f → next_of goes at ≡ Some f
next-here goes at p q f was cleared some first = by q.waiters.items refl
  where
    by : (l : List Waiter) → q.waiters.items ≡ l → next_of goes at ≡ Some f
    by [] items = absurd (let size = ap (λ (l : List Waiter). length l) items in omega (arith, size, some))
    by (w ∷ tail) items =
        let same : f ≡ w = first ∙ ap (λ (l : List Waiter). slice_index_or l 0 f) items in
        next-first goes at p q w tail was cleared items ∙ ap (λ (x : Waiter). Some x) (sym same)

-- who is told next stays so where those whose connections have ended are dropped
pub next-same : (goes : ℕ → Bool) (old new : Option Parked) (p q : Parked) → old ≡ Some p → new ≡ Some q → IsCleared goes p q → next_of goes new ≡ next_of goes old
next-same goes old new p q was is cleared = ap (next_of goes) is ∙ ap first_of cleared.1 ∙ sym (ap (next_of goes) was)

-- the Reply that goes out to it
pub due-reply : (contexts : List (ℕ × List ℕ)) (asker : Option Asker) (told : Option Performed) (k : Asker) (p : Performed) → asker ≡ Some k → told ≡ Some p → reply_if contexts asker told ≡ reply_with contexts k p
due-reply contexts asker told k p who what = ap (λ (a : Option Asker). reply_if contexts a told) who ∙ ap (reply_if contexts (Some k)) what

pub due-untold : (contexts : List (ℕ × List ℕ)) (asker : Option Asker) → reply_if contexts asker None ≡ []
due-untold contexts None = refl
due-untold contexts (Some k) = refl

-- nothing goes out where nobody waits, or there is no outcome
pub unsent-nobody : (contexts : List (ℕ × List ℕ)) (asker : Option Asker) (told : Option Performed) (before : List ℕ) → asker ≡ None → before ≡ before ++ reply_if contexts asker told
unsent-nobody contexts asker told before is = sym (ap (λ (a : Option Asker). before ++ reply_if contexts a told) is ∙ append-nil before)

pub unsent-untold : (contexts : List (ℕ × List ℕ)) (asker : Option Asker) (told : Option Performed) (before : List ℕ) → told ≡ None → before ≡ before ++ reply_if contexts asker told
unsent-untold contexts asker told before is = sym (ap (λ (t : Option Performed). before ++ reply_if contexts asker t) is ∙ ap (λ xs. before ++ xs) (due-untold contexts asker) ∙ append-nil before)

-- who is due is looked for from the front on
module _ (goes : ℕ → Bool) (all : List Waiter) (i : ℕ) (d : Waiter) (lt : i < length all) where
  next-due : first_of (on_going goes (drop i all)) ≡ first_of (cond (goes (get_or all i d).connection) (get_or all i d ∷ on_going goes (drop (i + 1) all)) (on_going goes (drop (i + 1) all)))
  next-due = ap (λ (l : List Waiter). first_of (on_going goes l)) (drop_more all i d lt)

  pub first_here : goes (get_or all i d).connection ≡ true → first_of (on_going goes (drop i all)) ≡ Some (get_or all i d)
  first_here up = next-due ∙ ap (λ (b : Bool). first_of (cond b (get_or all i d ∷ on_going goes (drop (i + 1) all)) (on_going goes (drop (i + 1) all)))) up

  pub first_later : goes (get_or all i d).connection ≡ false → first_of (on_going goes (drop i all)) ≡ first_of (on_going goes (drop (i + 1) all))
  first_later down = next-due ∙ ap (λ (b : Bool). first_of (cond b (get_or all i d ∷ on_going goes (drop (i + 1) all)) (on_going goes (drop (i + 1) all)))) down
