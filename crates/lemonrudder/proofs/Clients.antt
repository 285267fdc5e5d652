-- A call on a client, in the words of the slot that holds it, and what it stands for afterwards.
use Rattle.std.proofs.Common.{◌≡◌, ◌∙◌, ℕ, ℤ, ◌≤◌, true, is_some, List, [], ◌∷◌, ◌++◌, length, map, take, drop, Option, Some, None, Result, Ok, Vec, Global, refl, ap, sym, subst, append-nil}
use Rattle.giop_link.specs.ClientLinking.{ClientLinked}
use Rattle.ft_client.specs.declared.client.FtClient.{FtClient}
use Rattle.ft_client.specs.Clients.{Client, Ended, Happening, Linked, Pending, after, parted, says, unsent}
use Rattle.ft_client.specs.Directions.{stream}
use Rattle.ft_client.specs.Ends.{numbered}
use Rattle.ft_client.specs.Messages.{octets_said}
use Rattle.ft_client.specs.Standing.{FtStands, LinkFor, down}
use Rattle.lemonrudder.specs.declared.calling.Calling.{Calling}
use Rattle.lemonrudder.specs.declared.calling.CompletionHead.{CompletionHead}
use Rattle.lemonrudder.specs.declared.object.Object.{Object}
use Rattle.lemonrudder.specs.declared.object.Object.TheVariants.{Client as AClient}
use Rattle.lemonrudder.specs.declared.refusal.Refusal.{Refusal}
use Rattle.lemonrudder.specs.Answers.{OnClient}
use Rattle.lemonrudder.specs.Calls.{OnCancel, Stands, Standing, Takes, happened, head_of, last_end}
use Rattle.lemonrudder.specs.Layouts.{laid, octets_of_completion}
use Rattle.lemonrudder.specs.Dues.{IsPlaced, owed}
use Rattle.lemonrudder.specs.Naming.{or_range}
use Rattle.lemonrudder.specs.Refusals.{number_in}
use Rattle.lemonrudder.proofs.Owing.{grows, stays}

pub on_client : (P : Calling → Calling → Result ℕ Refusal → Type 0) (o : Object) (s t : Calling) (r : Result ℕ Refusal) (answer : ℤ) → o ≡ AClient s → answer ≡ number_in r → P s t r
    → OnClient P (Some o) (Some (AClient t)) answer
on_client P o s t r answer is said holds = subst (λ x. OnClient P (Some x) (Some (AClient t)) answer) (sym is) (t, r, refl, said, holds)

-- of a client that is read
pub on_same_client : (P : Calling → Calling → Result ℕ Refusal → Type 0) (o : Object) (s : Calling) (r : Result ℕ Refusal) (answer : ℤ) → o ≡ AClient s → answer ≡ number_in r → P s s r
    → OnClient P (Some o) (Some o) answer
on_same_client P o s r answer is said holds = subst (λ x. OnClient P (Some x) (Some x) answer) (sym is) (s, r, refl, said, holds)

-- of a call that is cancelled, whose number the code passes on
pub on_cancel : (o : Object) (s t : Calling) (r : Result ℕ Refusal) (answer call passed : ℤ) → passed ≡ call → o ≡ AClient s → answer ≡ number_in r → OnCancel passed s t r → OnClient (OnCancel call) (Some o) (Some (AClient t)) answer
on_cancel o s t r answer call passed same is said holds = on_client (OnCancel call) o s t r answer is said (subst (λ z. OnCancel z s t r) same holds)

-- of a call on one of a number, which the code passes on
pub on_numbered : (P : ℤ → Calling → Calling → Result ℕ Refusal → Type 0) (o : Object) (s t : Calling) (r : Result ℕ Refusal) (answer call passed : ℤ) → passed ≡ call → o ≡ AClient s → answer ≡ number_in r → P passed s t r → OnClient (P call) (Some o) (Some (AClient t)) answer
on_numbered P o s t r answer call passed same is said holds = on_client (P call) o s t r answer is said (subst (λ z. P z s t r) same holds)

-- what is written is appended to what is due
pub stands_after : (h : Happening) (s : Calling) (c : FtClient) (octets : Vec ℕ Global) (x : Standing) → Stands s x → FtStands c (after (down x.client.limits) h x.client)
    → octets.items ≡ s.due.octets.items ++ stream octets_said (says h x.client) → Stands (record s { client = c; due = record s.due { octets = octets } }) (happened h x)
stands_after h s c octets x st client is = record {
  client = client;
  placed = stays s.due.taken s.due.octets.items (stream octets_said (says h x.client)) octets.items st.placed is;
  due = grows s.due.taken s.due.octets.items (stream octets_said (says h x.client)) octets.items st.placed is ∙ ap (λ o. o ++ stream octets_said (says h x.client)) st.due;
  last = st.last;
}

-- what is due has the same octets
pub stands_unwritten : (s : Calling) (c : FtClient) (octets : Vec ℕ Global) (x : Standing) (m : Client) → Stands s x → FtStands c m → octets.items ≡ s.due.octets.items
    → Stands (record s { client = c; due = record s.due { octets = octets } }) (record x { client = m })
stands_unwritten s c octets x m st client is = record {
  client = client;
  placed = subst (λ xs. s.due.taken ≤ length xs) (sym is) st.placed;
  due = ap (λ xs. drop s.due.taken xs) is ∙ st.due;
  last = st.last;
}

-- nothing is written
pub stands_silent : (s : Calling) (c : FtClient) (x : Standing) (m : Client) → Stands s x → FtStands c m → Stands (record s { client = c }) (record x { client = m; due = x.due ++ [] })
stands_silent s c x m st client = record { client = client; placed = st.placed; due = st.due ∙ sym (append-nil x.due); last = st.last }

-- a link of the code is one of the client
pub linked : (link : Option ClientLinked) (m : Client) (l : Option Linked) → LinkFor link m l → is_some link ≡ true → is_some l ≡ true
linked None m None st is = is
linked None m (Some l) st is = absurd st
linked (Some k) m None st is = absurd st
linked (Some k) m (Some l) st is = refl

-- a client that has left its link leaves it again
unsent-twice : (ps : List Pending) → unsent (unsent ps) ≡ unsent ps
unsent-twice [] = refl
unsent-twice (p ∷ ps) = ap (λ qs. record p { sent = None } ∷ qs) (unsent-twice ps)

pub parted-twice : (m : Client) → parted (parted m) ≡ parted m
parted-twice m = ap (λ ps. record m { pending = ps; link = None }) (unsent-twice m.pending)

-- nothing is taken from no completions
pub none_taken : (cs : List (ℕ × Ended)) → [] ≡ map numbered (take 1 cs) → cs ≡ []
none_taken [] e = refl
none_taken (c ∷ cs) e = cc

-- and one from others, the first
pub one_taken : (k : ℤ × Ended) (cs : List (ℕ × Ended)) → k ∷ [] ≡ map numbered (take 1 cs) → (c : ℕ × Ended) × (later : List (ℕ × Ended)) × (cs ≡ c ∷ later) × (k ≡ numbered c)
one_taken k [] e = absurd cc
one_taken k (c ∷ cs) e = (c, cs, refl, cc)

-- a client without completions stays what it is where one is taken
pub nothing_left : (m : Client) → m.completions ≡ [] → record m { completions = drop 1 m.completions } ≡ m
nothing_left m e = ap (λ cs. record m { completions = cs }) (ap (drop 1) e ∙ sym e)

-- no completion is taken, or the first
pub takes_none : (room : List ℕ) (x : Standing) (t : Calling) → x.client.completions ≡ [] → FtStands t.client (record x.client { completions = drop 1 x.client.completions }) → IsPlaced t.due → owed t.due ≡ x.due → last_end t ≡ x.last
    → Takes x.client.completions room room x t (Ok 0)
takes_none room x t none client placed due last =
    subst (λ (cs : List (ℕ × Ended)). Takes cs room room x t (Ok 0)) (sym none) (refl, refl, record { client = subst (FtStands t.client) (nothing_left x.client none) client; placed = placed; due = due; last = last })

pub takes_one : (room new : List ℕ) (h : CompletionHead) (x : Standing) (t : Calling) (k : ℤ × Ended) (c : ℕ × Ended) (later : List (ℕ × Ended)) → x.client.completions ≡ c ∷ later → k ≡ numbered c → new ≡ laid (octets_of_completion h) room → h ≡ head_of k.0 k.1
    → FtStands t.client (record x.client { completions = drop 1 x.client.completions }) → IsPlaced t.due → owed t.due ≡ x.due → last_end t ≡ Some k.1 → Takes x.client.completions room new x t (Ok 1)
takes_one room new h x t k c later some is told said client placed due last =
    subst (λ (cs : List (ℕ × Ended)). Takes cs room new x t (Ok 1)) (sym some)
    (refl, told ∙ ap (λ (e : CompletionHead). laid (octets_of_completion e) room) (said ∙ ap (λ (j : ℤ × Ended). head_of j.0 j.1) is), record { client = client; placed = placed; due = due; last = last ∙ ap (λ (j : ℤ × Ended). Some j.1) is })

-- a number that was taken names what it gave
pub named_ok : {A : Type 0} (o : Option A) (x : A) → ◌≡◌ {A = Result A Refusal} (Ok x) (or_range o) → o ≡ Some x
named_ok None x e = absurd cc
named_ok (Some y) x e = cc
