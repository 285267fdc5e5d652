-- How the outcome of a request that is parked is told to all who wait for it, one after another.
use Rattle.std.specs.Prelude.{◌≡◌, ◌⊎◌, ◌==◌, ◌&&◌, ◌||◌, ℕ, Bool, true, false, if◌then◌else◌, List, [], ◌∷◌, ◌++◌, Some, Result}
use Rattle.ft_log.specs.Holding.{Holding}
use Rattle.ft_log.specs.Performed.{Performed}
use Rattle.ft_objects.specs.Families.{families_offer}
use Rattle.ft_orb.specs.declared.ending.Ending.TheVariants.{Memory}
use Rattle.ft_orb.specs.declared.error.ServeError.{ServeError}
use Rattle.ft_orb.specs.declared.parked.Waiter.{Waiter}
use Rattle.ft_orb.specs.Carrying.{reply_with}
use Rattle.ft_orb.specs.Engines.{EndsLast}
use Rattle.ft_orb.specs.Deeds.{Missed, Reached, Told, rest_of}
use Rattle.ft_orb.specs.History.{Close, Event, Lost}
use Rattle.ft_orb.specs.Outputs.{after}
use Rattle.ft_orb.specs.Parking.{Settings, Stays, put_at, still, waits_on}
use Rattle.ft_orb.specs.Requests.{Call}
use Rattle.ft_orb.specs.Standing.{note_of}
use Rattle.lemonrudder.specs.declared.serving.Serving.{Serving}
use Rattle.lemonrudder.specs.Connected.{Notes, is_there}
use Rattle.lemonrudder.specs.Replying.{Contexts}
use Rattle.lemonrudder.specs.Serves.{Closes, KeepsEndings, KeepsNotes, is_named, leaves_on, owed_on}

-- what happened, and who waits for outcomes, by the numbers under which requests are parked
pub record Scene : Type 0 where
  pub past : List Event
  pub waiting : ℕ → List Waiter

-- one who waited: a reply to it is due (`Reached`), or memory was short for that, and its connection is lost (`Missed`)
abbrev pub who : Told → Waiter
who (Reached w) = w
who (Missed w) = w

-- who was told waits under number n no more
abbrev pub after_one : Settings → ℕ → Scene → Told → Scene
after_one x n g (Reached w) = record { past = g.past; waiting = put_at n (rest_of (g.waiting n)) g.waiting }
after_one x n g (Missed w) = record { past = Lost w.connection ∷ g.past; waiting = still x.limits (Lost w.connection ∷ g.past) (put_at n (rest_of (g.waiting n)) g.waiting) }

-- the reply that is due on a connection, by the service contexts that each carries
abbrev pub reply_on : ℕ → (Waiter → Contexts) → Performed → Told → List ℕ
reply_on c carried outcome (Reached w) = if w.connection == c then reply_with (carried w) w.asker outcome else []
reply_on c carried outcome (Missed w) = []

-- whether somebody was reached on it
abbrev pub is_reached : ℕ → Told → Bool
is_reached c (Reached w) = w.connection == c
is_reached c (Missed w) = false

-- why a connection ended is noted, where memory was short for a reply
abbrev pub NotesTold : Told → Serving → Serving → Type 0
NotesTold (Reached w) s t = KeepsNotes s t
NotesTold (Missed w) s t = Notes w.connection (Some Memory) s.connections t.connections

-- .. and the engine says that it ended last, for that, or that none did, where its reply was there and only its number could not be named
abbrev pub EndsTold : Told → Serving → Serving → Type 0
EndsTold (Reached w) s t = KeepsEndings s t
EndsTold (Missed w) s t = EndsLast t.engine w.connection Memory ⊎ KeepsEndings s t

-- One who waited was told, the first: on its connection, if that is there, the reply is due after what was, and it is named; and the engine
-- stands for what happened by then.
pub record Tells (x : Settings) (held : ℕ → Holding) (calls : List Call) (n : ℕ) (carried : Waiter → Contexts) (outcome : Performed) (g : Scene) (d : Told) (s t : Serving) : Type 0 where
  pub first : g.waiting n ≡ who d ∷ rest_of (g.waiting n)
  pub there : (c : ℕ) → is_there t.connections c ≡ is_there s.connections c
  pub owed : (c : ℕ) → is_there s.connections c ≡ true → owed_on t c ≡ owed_on s c ++ reply_on c carried outcome d
  pub named : (c : ℕ) → is_named t c ≡ (is_named s c || is_reached c d)
  pub noted : NotesTold d s t
  pub ended : EndsTold d s t
  pub stays : Stays families_offer x held calls t.engine (after_one x n g d).past (after_one x n g d).waiting

-- a connection is leaving, and nobody waits on it any more
abbrev pub is_left : Serving → ℕ → Bool
is_left s c = leaves_on s c && (waits_on s.engine c == 0)

-- goodbye is said on it then, and else nothing changes
abbrev pub Parts : ℕ → Serving → Serving → Type 0
Parts c s t = (is_left s c ≡ true → (o : Result (Unit {0}) ServeError) × Closes c s t o) × (is_left s c ≡ false → t ≡ s)

-- who waits once it was said, or memory was short for that, and the connection is lost
abbrev pub after_goodbye : Settings → ℕ → Result (Unit {0}) ServeError → Scene → Scene
after_goodbye x c o g = let past = after x.limits g.past (Close c) (note_of o) in record { past = past; waiting = still x.limits past g.waiting }

-- .. as far as it was
abbrev pub PartsFrom : Settings → ℕ → (g h : Scene) → (s t : Serving) → Type 0
PartsFrom x c g h s t = (is_left s c ≡ true → (o : Result (Unit {0}) ServeError) × (h ≡ after_goodbye x c o g) × Closes c s t o) × (is_left s c ≡ false → (h ≡ g) × (t ≡ s))

-- These waited, and were told one after another. After each goodbye is said on its connection, where that is leaving and nobody waits on it
-- any more: so behind the last reply.
abbrev pub AreTold : (x : Settings) (held : ℕ → Holding) (calls : List Call) (n : ℕ) (carried : Waiter → Contexts) (outcome : Performed) → List Told → (g h : Scene) → (s t : Serving) → Type 0
AreTold x held calls n carried outcome [] g h s t = (h ≡ g) × (t.connections ≡ s.connections) × (t.ready ≡ s.ready) × KeepsEndings s t
AreTold x held calls n carried outcome (d ∷ later) g h s t = (f : Scene) × (m u : Serving) × Tells x held calls n carried outcome g d s m × PartsFrom x (who d).connection (after_one x n g d) f m u
    × AreTold x held calls n carried outcome later f h u t
