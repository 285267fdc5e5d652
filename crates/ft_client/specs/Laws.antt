-- The laws, each over the definitions alone.
use Rattle.std.specs.Prelude.{◌≡◌, ◌≢◌, ℕ, ◌+◌, ◌<◌, ◌≤◌, ◌^◌, true, false, List, length, Some, is_some}
use Rattle.std.specs.List.{AllByRecursion, list_any}
use Rattle.giop_core.specs.declared.header.Version.{Version}
use Rattle.giop_frames.specs.declared.limits.Limits.{Limits}
use Rattle.ft_client.specs.Clients.{Client, Happening, Linked, Resent, says, transmission_to}
use Rattle.giop_link.specs.Hearing.{Hearing}
use Rattle.ft_client.specs.Lives.{HasNoGaps, IsAskedAt, IsLife, Life, goes_on, leaves_out, lived, new_life, redirections, sent_at}
use Rattle.ft_client.specs.Messages.{Answer, Call, request_behind}

-- Whatever happens to a client, and whatever it hears: each call is pending or was completed once, and each transmission of it
-- carries its content, none past its expiration.
abbrev pub CallsCompleteOnce : Type 0
CallsCompleteOnce = (client_id : List ℕ) (version : Version) (limits : Limits) (down : Hearing Answer) (happenings : List Happening) → IsLife client_id version (lived down happenings (new_life client_id version limits))

-- Where no call of before is taken up again and no number is skipped, numbers have no gaps.
abbrev pub NumbersHaveNoGaps : Type 0
NumbersHaveNoGaps = (client_id : List ℕ) (version : Version) (limits : Limits) (down : Hearing Answer) (happenings : List Happening) → list_any leaves_out happenings ≡ false → HasNoGaps (lived down happenings (new_life client_id version limits))

-- What holds of such a client holds after one happening more.
abbrev pub LivesGoOn : Type 0
LivesGoOn = (client_id : List ℕ) (version : Version) (down : Hearing Answer) (h : Happening) (l : Life) → IsLife client_id version l → IsLife client_id version (goes_on down h l)

-- The Request of a call, under whichever object key, is as long under each request id.
abbrev pub RequestsAreAsLong : Type 0
RequestsAreAsLong = (version : Version) (client_id : List ℕ) (id i j : ℕ) (key : List ℕ) (call : Call) → length (request_behind (transmission_to version client_id id i key call)) ≡ length (request_behind (transmission_to version client_id id j key call))

-- Whatever happens to a client: its last number is a long, and its link has given at most 2^31 ids more. So an id that is a ulong is
-- left for each call that is taken.
abbrev pub IdsAreLeft : Type 0
IdsAreLeft = (client_id : List ℕ) (version : Version) (limits : Limits) (down : Hearing Answer) (happenings : List Happening) (m : Client) (l : Linked) → (lived down happenings (new_life client_id version limits)).client ≡ m → m.link ≡ Some l → (m.last < 2 ^ 31) × (l.given ≤ m.last + 2 ^ 31)

-- Whatever happens to a client: a call that was sent on its link, and waits there for the reply, is not among what is sent again on
-- it: no transmission there has its number.
abbrev pub WaitingIsNotResent : Type 0
WaitingIsNotResent = (client_id : List ℕ) (version : Version) (limits : Limits) (down : Hearing Answer) (happenings : List Happening) (now : ℕ) (m : Client) → (lived down happenings (new_life client_id version limits)).client ≡ m → AllByRecursion (λ p. is_some p.sent ≡ true → AllByRecursion (λ x. x.1.retention_id ≢ p.id) (sent_at now (says (Resent now) m))) m.pending

-- Whatever happens to a client, and whatever it hears: each transmission of a call asks under the call's own object key, or under one
-- that a redirection of that call gave.
abbrev pub CallsKeepTheirKeys : Type 0
CallsKeepTheirKeys = (client_id : List ℕ) (version : Version) (limits : Limits) (down : Hearing Answer) (happenings : List Happening) → AllByRecursion (λ x. IsAskedAt (redirections happenings) x.1) (lived down happenings (new_life client_id version limits)).sent
