-- A client that is started anew, and takes up what was pending.
use Rattle.std.proofs.Common.{◌≡◌, ℕ, ◌+◌, ◌<◌, ◌≤◌, ◌&&◌, nat_le, nat_lt, Bool, true, false, List, [], ◌∷◌, ◌++◌, length, None, if◌then◌else◌, refl, sym, ◌∙◌, ap, subst, arith, length-append}
use Rattle.std.specs.List.{AllByRecursion}
use Rattle.std.proofs.lemmas.Bool.{false≢true}
use Rattle.std.proofs.lemmas.Bool.Decides.{nat_tests}
use Rattle.std.proofs.lemmas.List.{append-nil, append_assoc}
use Rattle.giop_core.specs.declared.header.Version.{Version}
use Rattle.giop_link.specs.Hearing.{Hearing}
use Rattle.ft_client.specs.Clients.{Client, Pending, Resumed, after, begun, fits, is_resumed, new_client, parted, placed, skipped, stands_in, unsent}
use Rattle.ft_client.specs.Lives.{AreRising, IsLife, Life}
use Rattle.ft_client.specs.Messages.{Answer, has_no_ft}
use Rattle.ft_client.specs.Restarting.{CanRestart, RestartsAreLosses, after_all, led_back, led_nowhere, resumptions, started_anew}
use Rattle.ft_client.proofs.Living.{AreAlike, alive-alike, calls-complete-once}
use Rattle.ft_client.proofs.Unled.{IsUnled, back-unled, unled-life}
use Rattle.ft_client.proofs.Whole.{CanStand, IsWhole, whole-life}

-- a client of this one's id without a link, with so much that was taken up
abbrev taken_up : Client → ℕ → List Pending → Client
taken_up m last ps = record (new_client m.client_id m.version m.limits) { last = last; pending = ps; keeps_transient = m.keeps_transient; keeps_forwards = m.keeps_forwards }

-- calls that begin again
abbrev anew : List Pending → List Pending
anew ps = unsent (led_back ps)

-- the last number among these, or the one before them
abbrev last_of : ℕ → List Pending → ℕ
last_of n [] = n
last_of n (p ∷ ps) = last_of p.id ps

if_so : {A : Type 0} (b : Bool) (x y : A) → b ≡ true → (if b then x else y) ≡ x
if_so true x y is = refl
if_so false x y is = absurd (false≢true is)

tests-hold : (n id now expiration count : ℕ) (own stands fit : Bool) → own ≡ true → n < id → id < 2147483648 → now ≤ expiration → count < 64 → stands ≡ true → fit ≡ true
    → (own && ((nat_lt n id && nat_lt id 2147483648) && (nat_le now expiration && (nat_lt count 64 && (stands && fit))))) ≡ true
tests-hold n id now expiration count own stands fit owns greater long in_time few is fits = grind (arith, nat_tests, owns, greater, long, in_time, few, is, fits)

-- a call that can be taken up is pending then, and not sent
one-resumed : (down : Hearing Answer) (now n : ℕ) (m : Client) (front : List Pending) (p : Pending) → n < p.id → p.id < 2147483648 → length front < 64 → now ≤ p.call.expiration → CanStand m.version m.client_id p.id p.call
    → after down (Resumed now p.id p.call) (taken_up m n front) ≡ taken_up m p.id (front ++ begun p.id p.call None ∷ [])
one-resumed down now n m front p greater long few in_time can =
    if_so (is_resumed now p.id p.call (taken_up m n front)) (placed p.id p.call (taken_up m n front) None) (taken_up m n front)
    (tests-hold n p.id now p.call.expiration (length front) (has_no_ft p.call.form) (stands_in p.id m p.call) (fits p.id m p.call) can.own greater long in_time few can.stands can.fit)

all-resumed : (down : Hearing Answer) (now n last : ℕ) (m : Client) (front ps : List Pending) → last < 2147483648 → length front + length ps ≤ 64 → AllByRecursion (λ p. n < p.id) ps → AreRising last ps
    → AllByRecursion (λ p. now ≤ p.call.expiration) ps → AllByRecursion (λ p. CanStand m.version m.client_id p.id p.call) ps
    → after_all down (resumptions now ps) (taken_up m n front) ≡ taken_up m (last_of n ps) (front ++ anew ps)
all-resumed down now n last m front [] short few greater rising in_time can = ap (λ xs. taken_up m n xs) (sym (append-nil front))
all-resumed down now n last m front (p ∷ ps) short few greater rising in_time can =
    let q : Pending = begun p.id p.call None in
    let long : p.id < 2147483648 = let most = rising.0 in omega (arith, short, most) in
    let room : length front < 64 = omega (arith, few) in
    let one = one-resumed down now n m front p greater.0 long room in_time.0 can.0 in
    let fewer : length (front ++ q ∷ []) + length ps ≤ 64 = let more = length-append front (q ∷ []) in omega (arith, few, more) in
    let rest = all-resumed down now p.id last m (front ++ q ∷ []) ps short fewer rising.1 rising.2 in_time.1 can.1 in
    ap (λ c. after_all down (resumptions now ps) c) one ∙ rest ∙ ap (λ xs. taken_up m (last_of p.id ps) xs) (append_assoc front (q ∷ []) (anew ps))

last-within : (n last : ℕ) (ps : List Pending) → n ≤ last → AreRising last ps → last_of n ps ≤ last
last-within n last [] before rising = before
last-within n last (p ∷ ps) before rising = last-within p.id last ps rising.0 rising.2

-- the last number is known then
skips-to : (m : Client) (n : ℕ) (ps : List Pending) (b : Bool) → (nat_lt n m.last && nat_lt m.last 2147483648) ≡ b → n ≤ m.last → m.last < 2147483648
    → (if b then record (taken_up m n ps) { last = m.last } else taken_up m n ps) ≡ taken_up m m.last ps
skips-to m n ps true is most long = refl
skips-to m n ps false is most long = let same : n ≡ m.last = grind (arith, nat_tests, is, most, long) in ap (λ k. taken_up m k ps) same

above : (version : Version) (client_id : List ℕ) (ps : List Pending) → AllByRecursion (λ p. CanStand version client_id p.id p.call) ps → AllByRecursion (λ p. 0 < p.id) ps
above version client_id [] can = tt
above version client_id (p ∷ ps) can = (can.0.numbered, above version client_id ps can.1)

restarted : (down : Hearing Answer) (now : ℕ) (m : Client) → CanRestart now m → AreRising m.last m.pending → IsWhole m → started_anew down now m ≡ parted (led_nowhere m)
restarted down now m can rising w =
    let few : length {A = Pending} [] + length m.pending ≤ 64 = let most = w.few in omega (arith, most) in
    let all = all-resumed down now 0 m.last m [] m.pending w.long few (above m.version m.client_id m.pending w.each) rising can.in_time w.each in
    let least : 0 ≤ m.last = omega (arith) in
    let most = last-within 0 m.last m.pending least rising in
    ap (λ c. skipped m.last c) all
    ∙ skips-to m (last_of 0 m.pending) (anew m.pending) (nat_lt (last_of 0 m.pending) m.last && nat_lt m.last 2147483648) refl most w.long
    ∙ ap (λ cs. record (taken_up m m.last (anew m.pending)) { completions = cs }) (sym can.taken)

alike-anew : (ps : List Pending) → AreAlike ps (anew ps)
alike-anew [] = tt
alike-anew (p ∷ ps) = (refl, refl, alike-anew ps)

life-anew : (client_id : List ℕ) (version : Version) (l : Life) (m : Client) → m ≡ parted (led_nowhere l.client) → IsLife client_id version l → IsLife client_id version (record l { client = m })
life-anew client_id version l m is h =
    subst (λ (c : Client). IsLife client_id version (record l { client = c })) (sym is)
    (record { alive = alive-alike client_id version l.calls l.taken l.client (anew l.client.pending) None (alike-anew l.client.pending) h.alive; sent = h.sent })

pub restarts-are-losses : RestartsAreLosses
restarts-are-losses client_id version limits down happenings now l is can =
    let w : IsWhole l.client = subst (λ (x : Life). IsWhole x.client) is (whole-life client_id version limits down happenings) in
    let life : IsLife client_id version l = subst (λ (x : Life). IsLife client_id version x) is (calls-complete-once client_id version limits down happenings) in
    let anew : started_anew down now l.client ≡ parted (led_nowhere l.client) = restarted down now l.client can life.alive.rising w in
    record {
      anew = anew;
      lost = λ none.
          let unled : IsUnled l.client = subst (λ (x : Life). IsUnled x.client) is (unled-life client_id version limits down happenings none) in
          anew ∙ ap (λ ps. parted (record l.client { pending = ps })) (back-unled l.client.pending unled.each);
      life = life-anew client_id version l (started_anew down now l.client) anew life;
    }
