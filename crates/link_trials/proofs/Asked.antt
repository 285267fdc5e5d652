-- What the writers of requests ask holds in each version of a target that is a key, and of a wish for the whole reply.
use Rattle.std.proofs.Common.{ℕ, List}
use Rattle.giop_core.specs.declared.header.Version.{Version}
use Rattle.giop_core.specs.declared.header.Version.TheVariants.{V10, V11, V12}
use Rattle.giop_core.specs.declared.request.ReplyWish.TheVariants as wish
use Rattle.giop_core.specs.Content.{by_key}
use Rattle.giop_core.specs.Written.{CanAddress, CanAsk}

pub key_can_address : (version : Version) (key : List ℕ) → CanAddress version (by_key key)
key_can_address V10 key = tt
key_can_address V11 key = tt
key_can_address V12 key = tt

pub full_can_ask : (version : Version) → CanAsk version wish.Full
full_can_ask V10 = tt
full_can_ask V11 = tt
full_can_ask V12 = tt
