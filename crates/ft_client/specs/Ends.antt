-- How calls end, in the code's words.
use Rattle.std.specs.Prelude.{ℕ, ℤ, pos, Option, Some, None}
use Rattle.std.specs.Option.{option_map}
use Rattle.std.specs.Borrow.{Bor}
use Rattle.giop_core.specs.Content.{Rest}
use Rattle.giop_core.specs.declared.reply.ReplyStatus.TheVariants.{LocationForward, NoException, SystemException, UserException}
use Rattle.ft_client.specs.declared.ended.Ended.{Ended as CodeEnded}
use Rattle.ft_client.specs.declared.ended.Ended.TheVariants as code
use Rattle.ft_client.specs.declared.ended.ReplyBody.{ReplyBody}
use Rattle.ft_client.specs.Clients.{Cancelled, Ended, Expired, NeedsAddressing, Pending, Sent, Told}

-- a body
abbrev pub body_of : ReplyBody → Rest
body_of b = record { order = b.order; place = b.at; octets = b.octets.items }

-- the number of a call that is led elsewhere, and the reference to which
abbrev pub led_to : Option Pending → Option (ℤ × Rest)
led_to None = None
led_to (Some p) = option_map (λ body. (pos p.id, body)) p.led

-- .. of the code
abbrev pub led_by_code : ℤ × Bor ReplyBody → ℤ × Rest
led_by_code x = (x.0, body_of x.1.now)

-- how a call ended
abbrev pub ended_of : CodeEnded → Ended
ended_of (code.Returned b) = Told NoException (body_of b)
ended_of (code.Raised b) = Told UserException (body_of b)
ended_of (code.System b) = Told SystemException (body_of b)
ended_of (code.Forwarded b) = Told LocationForward (body_of b)
ended_of code.NeedsAddressing = NeedsAddressing
ended_of code.Sent = Sent
ended_of code.Expired = Expired
ended_of code.Cancelled = Cancelled

-- a completion: the number of its call, and how it ended
abbrev pub completion_of : ℤ × CodeEnded → ℤ × Ended
completion_of x = (x.0, ended_of x.1)

-- one of a client
abbrev pub numbered : ℕ × Ended → ℤ × Ended
numbered x = (pos x.0, x.1)
