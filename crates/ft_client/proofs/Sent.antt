-- A kept call that is sent on a link, or not.
use Rattle.std.proofs.Common.{◌≡◌, ◌≢◌, ℕ, suc, ◌+◌, ◌≤◌, true, false, cond, List, [], ◌∷◌, ◌++◌, length, take, drop, Option, Some, refl, sym, ap, ◌∙◌, subst, arith, append_assoc, length-append, Result, Ok, Err}
use Rattle.std.specs.Result.{OnErr}
use Rattle.std.proofs.lemmas.List.{append-nil}
use Rattle.ft_client.proofs.Numbers.{digits_length}
use Rattle.cdr_core.specs.Numbers.{digits_of}
use Rattle.giop_link.specs.ClientLinking.{ClientLinked}
use Rattle.giop_link.specs.Ids.{Ids, one_more, wanted_by}
use Rattle.ft_client.specs.Keeping.{Kept, awaited, ids_after_sending, ids_awaited, is_due, octets_again, sent_again, under}
use Rattle.ft_client.specs.Private.{IsSentOn}
use Rattle.ft_client.specs.Standing.{waiting_ids}
use Rattle.ft_client.proofs.Models.{waiting_wish}

pub not_sent : (now : ℕ) (k : Kept) (link : ClientLinked) (out : List ℕ) → is_due now link.ids.given k ≡ false → IsSentOn now k link link k.sent out out
not_sent now k link out e =
    let g = link.ids.given in
    record {
      again = λ rest. ap (λ b. cond b (record k { sent = Some (suc g) } ∷ sent_again now (suc g) rest) (k ∷ sent_again now g rest)) e;
      given = λ rest. ap (λ b. cond b (ids_after_sending now (suc g) rest) (ids_after_sending now g rest)) e;
      octets = λ rest. ap (λ b. out ++ cond b (under (suc g) k ++ octets_again now (suc g) rest) (octets_again now g rest)) e;
      link = refl;
      one = [];
      waits = λ is h. h ∙ ap (waiting_ids g) (sym (append-nil is));
      awaits = λ rest. ap (λ b. cond b (awaited k.wish (suc g) ++ ids_awaited now (suc g) rest) (ids_awaited now g rest)) e;
      more = [];
      written = sym (append-nil out);
    }

pub was_sent : (now : ℕ) (k : Kept) (link new : ClientLinked) (id : ℕ) (out after : List ℕ) → is_due now link.ids.given k ≡ true → id ≡ suc link.ids.given → new ≡ record link { ids = one_more (wanted_by k.wish) link.ids } → after ≡ out ++ under id k → IsSentOn now k link new (Some id) out after
was_sent now k link new id out after e is same octets =
    let g = link.ids.given in
    let given : new.ids.given ≡ suc g = ap (λ (l : ClientLinked). l.ids.given) same in
    let ids : new.ids ≡ one_more (wanted_by k.wish) link.ids = ap (λ (l : ClientLinked). l.ids) same in
    record {
      again = λ rest. ap (λ b. cond b (record k { sent = Some (suc g) } ∷ sent_again now (suc g) rest) (k ∷ sent_again now g rest)) e ∙ (λ i. record k { sent = Some (sym is i) } ∷ sent_again now (sym given i) rest);
      given = λ rest. ap (λ b. cond b (ids_after_sending now (suc g) rest) (ids_after_sending now g rest)) e ∙ ap (λ n. ids_after_sending now n rest) (sym given);
      octets = λ rest. ap (λ b. out ++ cond b (under (suc g) k ++ octets_again now (suc g) rest) (octets_again now g rest)) e ∙ sym (append_assoc out (under (suc g) k) (octets_again now (suc g) rest))
          ∙ (λ i. (out ++ under (sym is i) k) ++ octets_again now (sym given i) rest) ∙ ap (λ (x : List ℕ). x ++ octets_again now new.ids.given rest) (sym octets);
      link = same ∙ ap (λ (x : Ids). record link { ids = x }) (sym ids);
      one = awaited k.wish (suc g);
      waits = λ js h. ids ∙ ap (one_more (wanted_by k.wish)) h ∙ waiting_wish k.wish g js ∙ ap (λ n. waiting_ids n (js ++ awaited k.wish (suc g))) (sym given);
      awaits = λ rest. ap (λ b. cond b (awaited k.wish (suc g) ++ ids_awaited now (suc g) rest) (ids_awaited now g rest)) e ∙ ap (λ n. awaited k.wish (suc g) ++ ids_awaited now n rest) (sym given);
      more = under id k;
      written = octets;
    }

-- the ids of a link on which some of the calls were sent: those that waited before, and those of the calls
pub record IsAwaiting (now before : ℕ) (ids : Ids) (ks left : List Kept) (is : List ℕ) : Type 0 where
  pub done : List ℕ
  pub waits : ids ≡ waiting_ids ids.given (is ++ done)
  pub all : done ++ ids_awaited now ids.given left ≡ ids_awaited now before ks

pub await_start : (now : ℕ) (ids : Ids) (ks : List Kept) (is : List ℕ) → ids ≡ waiting_ids ids.given is → IsAwaiting now ids.given ids ks ks is
await_start now ids ks is h = record { done = []; waits = h ∙ ap (waiting_ids ids.given) (sym (append-nil is)); all = refl }

pub await_step : (now before : ℕ) (k : Kept) (old new : ClientLinked) (sent : Option ℕ) (out after : List ℕ) (ks left rest : List Kept) (is : List ℕ) → IsSentOn now k old new sent out after → left ≡ k ∷ rest → IsAwaiting now before old.ids ks left is → IsAwaiting now before new.ids ks rest is
await_step now before k old new sent out after ks left rest is h e a = record {
  done = a.done ++ h.one;
  waits = h.waits (is ++ a.done) a.waits ∙ ap (waiting_ids new.ids.given) (append_assoc is a.done h.one);
  all = append_assoc a.done h.one (ids_awaited now new.ids.given rest) ∙ ap (λ xs. a.done ++ xs) (sym (h.awaits rest)) ∙ ap (λ ys. a.done ++ ids_awaited now old.ids.given ys) (sym e) ∙ a.all;
}

-- what holds holds where there is an error
pub on_err_of : {A E P : Type 0} (r : Result A E) → P → OnErr r P
on_err_of (Ok x) p = tt
on_err_of (Err e) p = p

-- Where a call is left that is in time, there are octets to be written.

pub one_is_written : (now n : ℕ) (k : Kept) (rest : List Kept) → is_due now n k ≡ true → 1 ≤ length (octets_again now n (k ∷ rest))
one_is_written now n k rest due =
    let later = octets_again now (suc n) rest in
    let id = digits_of k.order 4 (suc n) in
    let back = drop (k.id_at + 4) k.message in
    let a = length-append (under (suc n) k) later in
    let b = length-append (take k.id_at k.message) (id ++ back) in
    let c = length-append id back in
    let d = digits_length k.order 4 (suc n) in
    let long : 1 ≤ length (under (suc n) k ++ later) = omega (arith, a, b, c, d) in
    subst (λ t. 1 ≤ length (cond t (under (suc n) k ++ later) (octets_again now n rest))) (sym due) long

pub some_are_written : (now n : ℕ) (k : Kept) (ks rest : List Kept) (before out all : List ℕ) → ks ≡ k ∷ rest → is_due now n k ≡ true → before ++ octets_again now n ks ≡ out ++ all → length out ≤ length before → all ≢ []
some_are_written now n k ks rest before out all same due is long none =
    let one : 1 ≤ length (octets_again now n ks) = subst (λ qs. 1 ≤ length (octets_again now n qs)) (sym same) (one_is_written now n k rest due) in
    let e = ap length is in
    let a = length-append before (octets_again now n ks) in
    let b = length-append out all in
    let z : length all ≡ 0 = ap length none in
    omega (arith, one, e, a, b, z, long)
