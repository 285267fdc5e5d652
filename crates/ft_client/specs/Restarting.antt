-- A client that crashed, and the one of its id that goes on in its place.
use Rattle.std.specs.Prelude.{◌≡◌, ℕ, ◌≤◌, Bool, false, List, [], ◌∷◌, None}
use Rattle.std.specs.List.{AllByRecursion, list_any}
use Rattle.giop_core.specs.declared.header.Version.{Version}
use Rattle.giop_frames.specs.declared.limits.Limits.{Limits}
use Rattle.giop_link.specs.Hearing.{Hearing}
use Rattle.ft_client.specs.Clients.{Client, Happening, Kept, KeptForwards, Pending, Resumed, Skipped, after, new_client, parted}
use Rattle.ft_client.specs.Lives.{IsLife, Life, lived, new_life}
use Rattle.ft_client.specs.Messages.{Answer}

-- what is done with a client that is started anew: it is told whether TRANSIENT leaves calls pending, and whether a forward does, as
-- the one before was; each call that was pending is taken up again under its number, in order ..
abbrev pub resumptions : ℕ → List Pending → List Happening
resumptions now [] = []
resumptions now (p ∷ ps) = Resumed now p.id p.call ∷ resumptions now ps

abbrev pub after_all : Hearing Answer → List Happening → Client → Client
after_all down [] m = m
after_all down (h ∷ hs) m = after_all down hs (after down h m)

-- .. and then it learns the last number that was given
abbrev pub started_anew : Hearing Answer → ℕ → Client → Client
started_anew down now m = after down (Skipped m.last) (after_all down (resumptions now m.pending) (after down (KeptForwards m.keeps_forwards) (after down (Kept m.keeps_transient) (new_client m.client_id m.version m.limits))))

-- pending calls, each asked for under its own object key, and led nowhere
abbrev pub led_back : List Pending → List Pending
led_back [] = []
led_back (p ∷ ps) = record p { at = p.call.object_key; led = None } ∷ led_back ps

abbrev pub led_nowhere : Client → Client
led_nowhere m = record m { pending = led_back m.pending }

-- what has forwards leave calls pending from now on
abbrev pub keeps_led : Happening → Bool
keeps_led (KeptForwards keeps) = keeps
keeps_led _ = false

-- all completions of a client were taken, and nothing that is pending is past its expiration at a moment
pub record CanRestart (now : ℕ) (m : Client) : Type 0 where
  pub taken : m.completions ≡ []
  pub in_time : AllByRecursion (λ p. now ≤ p.call.expiration) m.pending

-- a client that goes on in the place of that of a life, in which this happened
pub record IsRestarted (client_id : List ℕ) (version : Version) (happenings : List Happening) (l : Life) (m : Client) : Type 0 where
  -- it is the one before, after the loss of its connection, where each call is asked for under its own object key again ..
  pub anew : m ≡ parted (led_nowhere l.client)
  -- .. and just that one where forwards never left a call pending
  pub lost : list_any keeps_led happenings ≡ false → m ≡ parted l.client
  -- so each call of before is pending or was completed once
  pub life : IsLife client_id version (record l { client = m })

-- Whatever happened to a client: where all its completions were taken before it crashed, and nothing that was pending is past its
-- expiration, the one that is started anew is one that lost its connection.
abbrev pub RestartsAreLosses : Type 0
RestartsAreLosses = (client_id : List ℕ) (version : Version) (limits : Limits) (down : Hearing Answer) (happenings : List Happening) (now : ℕ) (l : Life) → lived down happenings (new_life client_id version limits) ≡ l → CanRestart now l.client → IsRestarted client_id version happenings l (started_anew down now l.client)
