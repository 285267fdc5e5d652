-- A raw call that is taken, or refused.
use Rattle.std.proofs.Common.{◌≡◌, ℕ, suc, ◌-◌, ◌<◌, ◌≤◌, ◌==◌, ◌%◌, ◌||◌, ◌&&◌, nat_lt, Bool, true, false, not, List, [], ◌∷◌, length, map, refl, sym, ap, ◌∙◌, subst, arith}
use Rattle.std.specs.Borrow.{Bor}
use Rattle.std.specs.List.{list_any}
use Rattle.giop_core.specs.Items.{item_at}
use Rattle.giop_core.specs.declared.error.WriteError.{WriteError}
use Rattle.giop_core.specs.declared.error.WriteError.TheVariants.{Memory, TooLong}
use Rattle.ft_client.specs.declared.client.FtClient.{FtClient}
use Rattle.ft_client.specs.declared.raw_call.RawCall.{RawCall}
use Rattle.ft_client.specs.Calling.{IsRawCallError, IsRawRecallError, call_raw}
use Rattle.ft_client.specs.Clients.{Client, fits, is_resumed, is_taken, stands_in, transmission}
use Rattle.ft_client.specs.Errors.{call_error_of, raw_error_of, raw_recall_error_of, recall_error_of}
use Rattle.ft_client.specs.Messages.{Call, has_no_ft, request_behind, request_octets}
use Rattle.ft_client.specs.Standing.{FtStands}
use Rattle.ft_client.proofs.Octets.{keeps_place_is}
use Rattle.ft_client.proofs.Placing.{few_pending, fits_is, free_is, resumed_is, taken_is, unfit_is}

-- contexts as they are lent
items_any : (xs : List (ℕ × Bor (List ℕ))) → list_any (λ (x : ℕ × List ℕ). x.0 == 13) (map item_at xs) ≡ list_any (λ (x : ℕ × Bor (List ℕ)). x.0 == 13) xs
items_any [] = refl
items_any (x ∷ xs) = ap (λ b. (x.0 == 13) || b) (items_any xs)

pub no_ft_is : (c : RawCall) (b d : Bool) → b ≡ list_any (λ (x : ℕ × Bor (List ℕ)). x.0 == 13) c.contexts.now → b ≡ d → has_no_ft (call_raw c).form ≡ not d
no_ft_is c b d is e = ap not (items_any c.contexts.now ∙ sym is ∙ e)

-- what has been seen of a call before it is written
pub record IsNext (now : ℕ) (call : Call) (m : Client) (n : ℕ) : Type 0 where
  pub own : has_no_ft call.form ≡ true
  pub next : n ≡ suc m.last
  pub in_time : now ≤ call.expiration
  pub last : m.last < 2147483647
  pub few : length m.pending < 64

pub next_is : (s : FtClient) (m : Client) (now : ℕ) (call : Call) (n count : ℕ) → FtStands s m → has_no_ft call.form ≡ true → n ≡ suc s.last → now ≤ call.expiration → n < 2147483648 → count ≡ length s.pending.items → count < 64 → IsNext now call m n
next_is s m now call n count st own next le small counts few =
    let up : n ≡ suc m.last = next ∙ ap suc st.fields.last in
    let same = few_pending s m st.fields.pending in
    record { own = own; next = up; in_time = le; last = omega (arith, up, small); few = omega (arith, same, counts, few) }

module _ (now : ℕ) (call : Call) (m : Client) (n : ℕ) (client_id : List ℕ) (seen : IsNext now call m n) (ei : client_id ≡ m.client_id) where
  pub short_is : length (request_behind (transmission m.version client_id n 1 call)) < 4294967296 → fits (suc m.last) m call ≡ true
  short_is short = subst (λ i. fits i m call ≡ true) seen.next (fits_is call m m.version client_id n refl ei short)

  pub write_error : (e : WriteError) → (e ≡ TooLong → 4294967296 ≤ length (request_behind (transmission m.version client_id n 1 call))) → IsRawCallError now call m (raw_error_of (call_error_of e))
  write_error TooLong h = (seen.own, (seen.in_time, seen.last, seen.few, subst (λ i. fits i m call ≡ false) seen.next (unfit_is call m m.version client_id n refl ei (h refl))))
  write_error Memory h = (seen.own, (seen.in_time, seen.last, seen.few))

-- its body, where it stands in the message
pub place_is : (now : ℕ) (c : RawCall) (m : Client) (n : ℕ) (client_id message : List ℕ) → IsNext now (call_raw c) m n → client_id ≡ m.client_id → message ≡ request_octets (transmission m.version client_id n 1 (call_raw c))
    → stands_in (suc m.last) m (call_raw c) ≡ (length c.body.octets.now == 0 || (length message - length c.body.octets.now) % 8 == c.body.at % 8)
place_is now c m n client_id message seen ei is = keeps_place_is m.client_id (suc m.last) m.version c message (is ∙ (λ i. request_octets (transmission m.version (ei i) (seen.next i) 1 (call_raw c))))

pub raw_taken_is : (now : ℕ) (call : Call) (m : Client) (n : ℕ) → IsNext now call m n → stands_in (suc m.last) m call ≡ true → fits (suc m.last) m call ≡ true → is_taken now call m ≡ true
raw_taken_is now call m n seen place short = taken_is now call m seen.own seen.in_time seen.last seen.few place short

-- what has been seen of a call of before
pub record IsBefore (now : ℕ) (call : Call) (m : Client) (n : ℕ) : Type 0 where
  pub own : has_no_ft call.form ≡ true
  pub free : (nat_lt m.last n && nat_lt n 2147483648) ≡ true
  pub in_time : now ≤ call.expiration
  pub few : length m.pending < 64

pub before_is : (s : FtClient) (m : Client) (now : ℕ) (call : Call) (n count : ℕ) → FtStands s m → has_no_ft call.form ≡ true → (nat_lt s.last n && nat_lt n 2147483648) ≡ true → now ≤ call.expiration → count ≡ length s.pending.items → count < 64 → IsBefore now call m n
before_is s m now call n count st own free le counts few =
    let same = few_pending s m st.fields.pending in
    record { own = own; free = ap (λ k. nat_lt k n && nat_lt n 2147483648) (sym st.fields.last) ∙ free; in_time = le; few = omega (arith, same, counts, few) }

module _ (now : ℕ) (call : Call) (m : Client) (n : ℕ) (client_id : List ℕ) (seen : IsBefore now call m n) (ei : client_id ≡ m.client_id) where
  pub short_again : length (request_behind (transmission m.version client_id n 1 call)) < 4294967296 → fits n m call ≡ true
  short_again short = fits_is call m m.version client_id n refl ei short

  pub write_error_again : (e : WriteError) → (e ≡ TooLong → 4294967296 ≤ length (request_behind (transmission m.version client_id n 1 call))) → IsRawRecallError now n call m (raw_recall_error_of (recall_error_of e))
  write_error_again TooLong h = (seen.own, (free_is m.last n seen.free, seen.in_time, seen.few, unfit_is call m m.version client_id n refl ei (h refl)))
  write_error_again Memory h = (seen.own, (free_is m.last n seen.free, seen.in_time, seen.few))

pub place_again : (c : RawCall) (m : Client) (n : ℕ) (client_id message : List ℕ) → client_id ≡ m.client_id → message ≡ request_octets (transmission m.version client_id n 1 (call_raw c))
    → stands_in n m (call_raw c) ≡ (length c.body.octets.now == 0 || (length message - length c.body.octets.now) % 8 == c.body.at % 8)
place_again c m n client_id message ei is = keeps_place_is m.client_id n m.version c message (is ∙ (λ i. request_octets (transmission m.version (ei i) n 1 (call_raw c))))

pub raw_resumed_is : (now : ℕ) (call : Call) (m : Client) (n : ℕ) → IsBefore now call m n → stands_in n m call ≡ true → fits n m call ≡ true → is_resumed now n call m ≡ true
raw_resumed_is now call m n seen place short = resumed_is now n call m seen.own seen.free seen.in_time seen.few place short
