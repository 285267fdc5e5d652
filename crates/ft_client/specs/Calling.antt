-- What a call asks, and why it is not taken.
use Rattle.std.specs.Prelude.{◌≡◌, ℕ, ℤ, suc, ◌<◌, ◌≤◌, ◌^◌, ◌&&◌, nat_lt, Bool, List, length, map, Option, Some, None, is_some, false, true}
use Rattle.cdr_core.specs.View.{values_of}
use Rattle.cdr_core.specs.declared.values.Val.{Val}
use Rattle.giop_core.specs.Items.{item_at}
use Rattle.giop_core.specs.Written.{octets_body}
use Rattle.giop_core.specs.declared.header.Version.{Version}
use Rattle.ft_client.specs.declared.pending.Asked.{Asked}
use Rattle.ft_client.specs.declared.raw_call.RawCall.{RawCall}
use Rattle.ft_client.specs.declared.error.CallError.{CallError}
use Rattle.ft_client.specs.declared.error.CallError.TheVariants.{Expired, IdsUsed, Memory, TooLong, TooManyCalls}
use Rattle.ft_client.specs.declared.error.RawCallError.{RawCallError}
use Rattle.ft_client.specs.declared.error.RawCallError.TheVariants as raw_call
use Rattle.ft_client.specs.declared.error.RawRecallError.{RawRecallError}
use Rattle.ft_client.specs.declared.error.RawRecallError.TheVariants as raw_recall
use Rattle.ft_client.specs.declared.error.RawRedirectError.{RawRedirectError}
use Rattle.ft_client.specs.declared.error.RawRedirectError.TheVariants as raw_redirect
use Rattle.ft_client.specs.declared.error.RecallError.{RecallError}
use Rattle.ft_client.specs.declared.error.RecallError.TheVariants as recall
use Rattle.ft_client.specs.declared.error.RedirectError.{RedirectError}
use Rattle.ft_client.specs.declared.error.RedirectError.TheVariants as redirect
use Rattle.ft_client.specs.Clients.{Client, Pending, find_pending, fits, stands_in, transmission}
use Rattle.ft_client.specs.Messages.{Call, Transmission, has_no_ft, raw, request_behind, typed}

-- what the code's words ask
abbrev pub call_asked : Asked → Call
call_asked a = record {
  object_key = a.object_key.now;
  operation = a.operation.now;
  arguments = values_of a.arguments.now;
  expiration = a.expiration;
  form = typed;
}

-- what a raw call asks
abbrev pub call_raw : RawCall → Call
call_raw c = record {
  object_key = c.object_key.now;
  operation = c.operation.now;
  arguments = octets_body c.body.octets.now;
  expiration = c.expiration;
  form = raw (record { version = c.version; order = c.body.order; wish = c.wish; contexts = map item_at c.contexts.now; place = c.body.at });
}

abbrev pub first_transmission : Version → List ℕ → ℕ → Call → Transmission
first_transmission version client_id n call = transmission version client_id n 1 call

-- GIOP 9.4.1: its octets after the header can be counted by a message size, or can't
abbrev pub IsShort : Transmission → Type 0
IsShort t = length (request_behind t) < 2 ^ 32

abbrev pub IsLong : Transmission → Type 0
IsLong t = 2 ^ 32 ≤ length (request_behind t)

-- Why a call is not taken at a moment: the first that holds. Memory is asked for only where none of the first three does.
abbrev pub IsCallError : ℕ → Call → Client → CallError → Type 0
IsCallError now call m Expired = call.expiration < now
IsCallError now call m IdsUsed = (now ≤ call.expiration) × (2147483647 ≤ m.last)
IsCallError now call m TooManyCalls = (now ≤ call.expiration) × (m.last < 2147483647) × (64 ≤ length m.pending)
IsCallError now call m TooLong = (now ≤ call.expiration) × (m.last < 2147483647) × (length m.pending < 64) × (fits (suc m.last) m call ≡ false)
IsCallError now call m Memory = (now ≤ call.expiration) × (m.last < 2147483647) × (length m.pending < 64)

-- Why a raw call is not taken at a moment: the first that holds. Memory is as for a call.
abbrev pub IsRawCallError : ℕ → Call → Client → RawCallError → Type 0
IsRawCallError now call m raw_call.FtRequest = has_no_ft call.form ≡ false
IsRawCallError now call m (raw_call.Untaken e) = (has_no_ft call.form ≡ true) × IsCallError now call m e
IsRawCallError now call m raw_call.Misplaced =
    (has_no_ft call.form ≡ true) × (now ≤ call.expiration) × (m.last < 2147483647) × (length m.pending < 64) × (fits (suc m.last) m call ≡ true) × (stands_in (suc m.last) m call ≡ false)

-- a number that is not greater than each that was given or taken up, or is no long
abbrev pub IsUsed : ℕ → Client → Type 0
IsUsed id m = (nat_lt m.last id && nat_lt id 2147483648) ≡ false

abbrev pub IsFree : ℕ → Client → Type 0
IsFree id m = (m.last < id) × (id < 2 ^ 31)

-- Why a call of before is not taken up again at a moment: the first that holds, and Memory as for a call.
abbrev pub IsRecallError : ℕ → ℕ → Call → Client → RecallError → Type 0
IsRecallError now id call m recall.NumberUsed = IsUsed id m
IsRecallError now id call m recall.Expired = IsFree id m × (call.expiration < now)
IsRecallError now id call m recall.TooManyCalls = IsFree id m × (now ≤ call.expiration) × (64 ≤ length m.pending)
IsRecallError now id call m recall.TooLong = IsFree id m × (now ≤ call.expiration) × (length m.pending < 64) × (fits id m call ≡ false)
IsRecallError now id call m recall.Memory = IsFree id m × (now ≤ call.expiration) × (length m.pending < 64)

-- Why a raw call of before is not taken up again at a moment: the first that holds. Memory is as for a call.
abbrev pub IsRawRecallError : ℕ → ℕ → Call → Client → RawRecallError → Type 0
IsRawRecallError now id call m raw_recall.FtRequest = has_no_ft call.form ≡ false
IsRawRecallError now id call m (raw_recall.Untaken e) = (has_no_ft call.form ≡ true) × IsRecallError now id call m e
IsRawRecallError now id call m raw_recall.Misplaced =
    (has_no_ft call.form ≡ true) × IsFree id m × (now ≤ call.expiration) × (length m.pending < 64) × (fits id m call ≡ true) × (stands_in id m call ≡ false)

-- a pending call is led elsewhere
abbrev pub is_led : Option Pending → Bool
is_led None = false
is_led (Some p) = is_some p.led

-- .. and it fits as it is asked for now, or doesn't
abbrev pub IsFitting : ℤ → (ℕ → Call) → Client → Bool → Type 0
IsFitting id asked m fit = (p : Pending) × (find_pending id m.pending ≡ Some p) × (is_some p.led ≡ true) × (fits p.id m (asked p.call.expiration) ≡ fit)

-- Why a call is not redirected, by what it asks until a moment: the first that holds, and Memory as for a call.
abbrev pub IsRedirectError : ℤ → (ℕ → Call) → Client → RedirectError → Type 0
IsRedirectError id asked m redirect.NotForwarded = is_led (find_pending id m.pending) ≡ false
IsRedirectError id asked m redirect.TooLong = IsFitting id asked m false
IsRedirectError id asked m redirect.Memory = is_led (find_pending id m.pending) ≡ true

-- .. and fits, but its body would not stand as it came
abbrev pub IsMisplaced : ℤ → (ℕ → Call) → Client → Type 0
IsMisplaced id asked m = (p : Pending) × (find_pending id m.pending ≡ Some p) × (is_some p.led ≡ true) × (fits p.id m (asked p.call.expiration) ≡ true) × (stands_in p.id m (asked p.call.expiration) ≡ false)

-- Why a raw call is not redirected: the first that holds, and Memory as for a call.
abbrev pub IsRawRedirectError : ℤ → (ℕ → Call) → Client → RawRedirectError → Type 0
IsRawRedirectError id asked m raw_redirect.FtRequest = has_no_ft (asked 0).form ≡ false
IsRawRedirectError id asked m (raw_redirect.Unled e) = (has_no_ft (asked 0).form ≡ true) × IsRedirectError id asked m e
IsRawRedirectError id asked m raw_redirect.Misplaced = (has_no_ft (asked 0).form ≡ true) × IsMisplaced id asked m

-- what a raw call asks until another moment
abbrev pub raw_until : RawCall → ℕ → Call
raw_until c expiration = record (call_raw c) { expiration = expiration }

-- what is called
abbrev pub call_of : List ℕ → List ℕ → List Val → ℕ → Call
call_of object_key operation arguments expiration = record {
  object_key = object_key;
  operation = operation;
  arguments = values_of arguments;
  expiration = expiration;
  form = typed;
}
