-- The limits of a server, by their numbers in the header.
use Rattle.std.specs.Prelude.{ℕ, nat_le, Bool, false, ◌&&◌, ◌==◌, if◌then◌else◌, Option, Some, None}
use Rattle.std.specs.Option.{option_map}
use Rattle.giop_frames.specs.declared.limits.Cuts.{Cuts}
use Rattle.giop_frames.specs.declared.limits.Cuts.TheVariants.{Aligned}
use Rattle.lemonrudder.specs.declared.terms.Terms.{Terms}
use Rattle.lemonrudder.specs.Naming.{cuts_named, truth_named}

-- how many octets a message may have, and how many messages of a connection may be partial; how many outcomes are kept, how many of
-- each client; how many requests may be parked, how many of those that came on one connection, and how many may wait for the outcome
-- of one beside the last who came; with how many octets due a connection is fed no more; how many a client's id may have; whether
-- the owner is asked before a request with a key is refused; and where a message of 1.1 may be cut
pub record Limited : Type 0 where
  pub message : ℕ
  pub partials : ℕ
  pub capacity : ℕ
  pub share : ℕ
  pub parked : ℕ
  pub parked_of : ℕ
  pub joined : ℕ
  pub due : ℕ
  pub client_id : ℕ
  pub first : Bool
  pub cuts : Cuts

-- where nothing is set
abbrev pub usual : Limited
usual = record { message = 1048576; partials = 4; capacity = 65536; share = 4294967295; parked = 1024; parked_of = 64; joined = 8; due = 1048576; client_id = 256; first = false; cuts = Aligned }

-- as the library holds them
abbrev pub limited : Terms → Limited
limited t = record { message = t.limits.message; partials = t.limits.partials; capacity = t.capacity; share = t.share; parked = t.places.parked; parked_of = t.places.of_one; joined = t.places.joined; due = t.due; client_id = t.longest; first = t.first; cuts = t.limits.cuts }

-- limits with a new value, where that is not less than the least, nor more than the greatest
abbrev pub if_within : (least greatest value : ℕ) → Limited → Option Limited
if_within least greatest value new = if nat_le least value && nat_le value greatest then Some new else None

-- with another value for the limit of a number; there are none where no limit has the number, or where its value is not allowed
abbrev pub set_to : (what value : ℕ) → Limited → Option Limited
set_to what value x =
    if what == 1 then if_within 4096 16777216 value (record x { message = value })
    else (if what == 2 then if_within 1 16 value (record x { partials = value })
    else (if what == 3 then if_within 0 4294967295 value (record x { capacity = value })
    else (if what == 4 then if_within 0 4294967295 value (record x { share = value })
    else (if what == 5 then if_within 0 4294967295 value (record x { parked = value })
    else (if what == 6 then if_within 0 4294967295 value (record x { parked_of = value })
    else (if what == 7 then if_within 0 4294967295 value (record x { joined = value })
    else (if what == 8 then (if nat_le 1 value then Some (record x { due = value }) else None)
    else (if what == 9 then Some (record x { client_id = value })
    else (if what == 10 then option_map (λ first. record x { first = first }) (truth_named value)
    else (if what == 11 then option_map (λ cuts. record x { cuts = cuts }) (cuts_named value)
    else None))))))))))
