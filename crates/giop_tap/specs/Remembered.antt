-- What is remembered of the keys of requests, and what a message is told to have to do with earlier ones by it. No public
-- contract rests on how it is done: `Pairing` says what of it is promised.
use Rattle.std.specs.Prelude.{ℕ, suc, ◌-◌, ◌==◌, ◌++◌, ℤ, Bool, true, false, List, [], ◌∷◌, length, Option, Some, None, if◌then◌else◌}
use Rattle.std.specs.Option.{option_map}
use Rattle.std.specs.List.{find}
use Rattle.giop_core.specs.Ft.{Ft, absent, bad, present}
use Rattle.giop_tap.specs.declared.pairing.Tie.{Tie}
use Rattle.giop_tap.specs.Pairing.{Named, Said, ft_of, has_key, request_of, weight_of}

-- so that memory stays bounded, keys are forgotten. Remembered are the requests whose keys came last, each key once,
-- and those whose keys came before these
pub record Memory : Type 0 where
  pub last : List Named
  pub before : List Named
  -- how much more the last ones may weigh, whether there are some before, and the message at which some were forgotten first
  pub room : ℕ
  pub has_before : Bool
  pub forgot : Option ℕ

abbrev pub nothing : ℕ → Memory
nothing most = record { last = []; before = []; room = most; has_before = false; forgot = None }

-- those before are forgotten, and the last ones take their place
abbrev pub forgot_at : ℕ → Bool → Option ℕ → Option ℕ
forgot_at number true None = Some number
forgot_at number true (Some earlier) = Some earlier
forgot_at number false forgot = forgot

abbrev pub turned : ℕ → ℕ → Memory → Memory
turned most number s = record { last = []; before = s.last; room = most; has_before = true; forgot = forgot_at number s.has_before s.forgot }

-- so it goes where the last ones leave no room
abbrev pub roomy : ℕ → ℕ → Memory → Memory
roomy most number s = if s.room == 0 then turned most number s else s

abbrev pub pushed : Named → Memory → Memory
pushed n s = record { last = s.last ++ n ∷ []; before = s.before; room = s.room - weight_of n.client_id; has_before = s.has_before; forgot = s.forgot }

-- the first request with a key
abbrev pub number_in : List ℕ → ℤ → List Named → Option ℕ
number_in client retention ns = option_map (λ n. n.number) (find (has_key client retention) ns)

abbrev pub this_or : Option ℕ → Option ℕ → Option ℕ
this_or (Some n) other = Some n
this_or None other = other

abbrev pub first_in : List ℕ → ℤ → Memory → Option ℕ
first_in client retention s = this_or (number_in client retention s.last) (number_in client retention s.before)

-- a request with a key: it is one of the last from now on
abbrev pub number_or : ℕ → Option ℕ → ℕ
number_or number None = number
number_or number (Some first) = first

abbrev pub with_one : Option ℕ → Memory → Memory → Memory
with_one (Some first) s s' = s
with_one None s s' = s'

abbrev pub with_key : ℕ → List ℕ → ℤ → ℕ → Memory → Memory
with_key most client retention number s = with_one (number_in client retention s.last) s
    (pushed (record { client_id = client; retention_id = retention; number = number_or number (number_in client retention s.before) }) (roomy most number s))

abbrev pub remembered_after : ℕ → ℕ → Ft → Memory → Memory
remembered_after most number (present client retention expiration) s = with_key most client retention number s
remembered_after most number absent s = s
remembered_after most number bad s = s

-- what is remembered of messages, the latest first
abbrev pub remembered : ℕ → List Said → Memory
remembered most [] = nothing most
remembered most (m ∷ earlier) = remembered_after most (suc (length earlier)) (ft_of m.content) (remembered most earlier)

-- which request a key repeats: the first that had it, on any connection, as far as it is remembered
abbrev pub first_with : Ft → Memory → Option ℕ
first_with (present client retention expiration) s = first_in client retention s
first_with absent s = None
first_with bad s = None

abbrev pub repeat_of : ℕ → Said → List Said → Option ℕ
repeat_of most m earlier = first_with (ft_of m.content) (remembered most earlier)

-- both
abbrev pub tie_of : ℕ → Said → List Said → Tie
tie_of most m earlier = record { request = request_of m earlier; repeats = repeat_of most m earlier }

-- what the latest message has to do with those before it
abbrev pub last_tie : ℕ → List Said → Option Tie
last_tie most [] = None
last_tie most (m ∷ earlier) = Some (tie_of most m earlier)
