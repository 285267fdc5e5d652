-- Numbers without gaps: where no call of before is taken up again and no number is skipped.
use Rattle.std.proofs.Common.{◌≡◌, ℕ, suc, ◌+◌, ◌==◌, ◌&&◌, nat_le, nat_lt, Bool, true, false, cond, List, [], ◌∷◌, ◌++◌, length, Option, Some, None, refl, sym, ◌∙◌, subst, arith, length-append}
use Rattle.std.specs.List.{list_any}
use Rattle.std.proofs.lemmas.Bool.{or_parts, true≢false}
use Rattle.std.proofs.lemmas.Bool.Decides.{nat_tests}
use Rattle.std.proofs.lemmas.List.{append-nil}
use Rattle.giop_core.specs.Content.{Rest}
use Rattle.giop_link.specs.Hearing.{Ending, Hearing, news}
use Rattle.ft_client.specs.Clients.{Called, Client, Ended, Fed, Happening, Joined, Kept, KeptForwards, Linked, Parted, Pending, Recalled, Redirected, Resent, Resumed, Skipped, Taken, Ticked, after, answered, asked_at, completed_if, ended_by, ending_of, fed_on, find_pending, is_kept, is_redirected, is_taken, led_by, made, parted_at, placed, placed_on, recalled, resent_if, settled, settled_all, told_of, waiting}
use Rattle.ft_client.specs.Laws.{NumbersHaveNoGaps}
use Rattle.ft_client.specs.Lives.{Life, called_count, goes_on, leaves_out, lived, new_life, one_if}
use Rattle.ft_client.specs.Messages.{Answer, Call, is_oneway, located, replied, wish_of}
use Rattle.ft_client.proofs.Living.{called-append, calls-complete-once}

-- what was given is the numbers from 1 up to the last
abbrev Counted : List (ℕ × Call) → ℕ → Type 0
Counted calls last = (length calls ≡ last) × ((r : ℕ) → called_count r calls ≡ one_if (nat_lt 0 r && nat_le r last))

next-once : (r last : ℕ) → one_if (nat_lt 0 r && nat_le r last) + one_if (suc last == r) ≡ one_if (nat_lt 0 r && nat_le r (suc last))
next-once r last = grind (arith, nat_tests)

none-once : (r : ℕ) → 0 ≡ one_if (nat_lt 0 r && nat_le r 0)
none-once r = grind (arith, nat_tests)

counted-push : (calls : List (ℕ × Call)) (last : ℕ) (call : Call) → Counted calls last → Counted (calls ++ (suc last, call) ∷ []) (suc last)
counted-push calls last call h = (
  (let more = length-append calls ((suc last, call) ∷ []) in let was = h.0 in omega (arith, more, was)),
  λ r.
      let more = called-append r calls ((suc last, call) ∷ []) in
      let was = h.1 r in
      let next = next-once r last in
      omega (arith, more, was, next),
)

-- The last number, and what leaves it.

last-placed_on : (b : Bool) (id : ℕ) (call : Call) (m : Client) (l : Linked) → (placed_on b id call m l).last ≡ id
last-placed_on true id call m l = refl
last-placed_on false id call m l = refl

last-placed : (id : ℕ) (call : Call) (m : Client) (l : Option Linked) → (placed id call m l).last ≡ id
last-placed id call m None = refl
last-placed id call m (Some l) = last-placed_on (is_oneway (wish_of call.form)) id call m l

last-if : (o : Option ℕ) (ended : Ended) (m : Client) → (completed_if o ended m).last ≡ m.last
last-if None ended m = refl
last-if (Some id) ended m = refl

last-answered : (keeps : Bool) (i : ℕ) (led : Option Rest) (ended : Ended) (m : Client) → (answered keeps i led ended m).last ≡ m.last
last-answered true i led ended m = refl
last-answered false i led ended m = last-if (waiting i m.pending) ended m

last-settled : (a : Answer) (m : Client) → (settled a m).last ≡ m.last
last-settled (replied i shown) m = last-answered (is_kept shown m) i (led_by shown) (ended_by shown) m
last-settled (located i shown) m = refl

last-settled_all : (answers : List Answer) (m : Client) → (settled_all answers m).last ≡ m.last
last-settled_all [] m = refl
last-settled_all (a ∷ answers) m = last-settled_all answers (settled a m) ∙ last-settled a m

last-told : (down : Hearing Answer) (octets : List ℕ) (m : Client) (l : Option Linked) → (told_of down octets m l).last ≡ m.last
last-told down octets m None = refl
last-told down octets m (Some l) = last-settled_all (news down l.received octets) (record m { link = Some (record l { received = l.received ++ octets }) })

last-parted : (e : Option Ending) (m : Client) → (parted_at e m).last ≡ m.last
last-parted None m = refl
last-parted (Some e) m = refl

last-resent : (now : ℕ) (m : Client) (l : Option Linked) → (resent_if now m l).last ≡ m.last
last-resent now m None = refl
last-resent now m (Some l) = refl

last-recalled : (o : Option Pending) (m : Client) → (recalled o m).last ≡ m.last
last-recalled None m = refl
last-recalled (Some p) m = refl

last-if_so : (b : Bool) (ps : List Pending) (m : Client) → (cond b (record m { pending = ps }) m).last ≡ m.last
last-if_so true ps m = refl
last-if_so false ps m = refl

-- One happening more.

counted-made : (b : Bool) (call : Call) (m : Client) (calls : List (ℕ × Call)) → Counted calls m.last → Counted (calls ++ cond b ((suc m.last, call) ∷ []) []) (cond b (placed (suc m.last) call m m.link) m).last
counted-made true call m calls h = subst (λ n. Counted (calls ++ (suc m.last, call) ∷ []) n) (sym (last-placed (suc m.last) call m m.link)) (counted-push calls m.last call h)
counted-made false call m calls h = subst (λ cs. Counted cs m.last) (sym (append-nil calls)) h

counted-same : (calls : List (ℕ × Call)) (last next : ℕ) → next ≡ last → Counted calls last → Counted (calls ++ []) next
counted-same calls last next same h = subst (λ cs. Counted cs next) (sym (append-nil calls)) (subst (λ n. Counted calls n) (sym same) h)

counted-after : (down : Hearing Answer) (h : Happening) (m : Client) (calls : List (ℕ × Call)) → leaves_out h ≡ false → Counted calls m.last → Counted (calls ++ made h m) (after down h m).last
counted-after down (Called now call) m calls none k = counted-made (is_taken now call m) call m calls k
counted-after down (Resumed now id call) m calls none k = absurd (true≢false none)
counted-after down (Skipped id) m calls none k = absurd (true≢false none)
counted-after down (Kept keeps) m calls none k = counted-same calls m.last m.last refl k
counted-after down (KeptForwards keeps) m calls none k = counted-same calls m.last m.last refl k
counted-after down (Redirected id key) m calls none k =
    counted-same calls m.last (after down (Redirected id key) m).last (last-if_so (is_redirected key m (find_pending id m.pending)) (asked_at id key m.pending) m) k
counted-after down (Joined now) m calls none k = counted-same calls m.last m.last refl k
counted-after down (Resent now) m calls none k = counted-same calls m.last (resent_if now m m.link).last (last-resent now m m.link) k
counted-after down (Fed octets) m calls none k =
    counted-same calls m.last (fed_on down octets m).last (last-parted (ending_of down octets m.link) (told_of down octets m m.link) ∙ last-told down octets m m.link) k
counted-after down Parted m calls none k = counted-same calls m.last m.last refl k
counted-after down (Recalled id) m calls none k = counted-same calls m.last (recalled (find_pending id m.pending) m).last (last-recalled (find_pending id m.pending) m) k
counted-after down (Ticked now) m calls none k = counted-same calls m.last m.last refl k
counted-after down Taken m calls none k = counted-same calls m.last m.last refl k

counted-lived : (down : Hearing Answer) (hs : List Happening) (l : Life) → list_any leaves_out hs ≡ false → Counted l.calls l.client.last → Counted (lived down hs l).calls (lived down hs l).client.last
counted-lived down [] l none k = k
counted-lived down (h ∷ hs) l none k =
    let parts = or_parts (leaves_out h) (list_any leaves_out hs) none in
    counted-lived down hs (goes_on down h l) parts.1 (counted-after down h l.client l.calls parts.0 k)

pub numbers-have-no-gaps : NumbersHaveNoGaps
numbers-have-no-gaps client_id version limits down happenings none =
    let k = counted-lived down happenings (new_life client_id version limits) none (refl, none-once) in
    record { count = k.0; once = λ r. (calls-complete-once client_id version limits down happenings).alive.once r ∙ k.1 r }
