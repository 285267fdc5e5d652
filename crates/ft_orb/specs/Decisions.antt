-- What becomes of what arrives, and counts of it.
use Rattle.std.specs.Prelude.{ℕ, nat_lt, if◌then◌else◌, List, [], ◌∷◌, length, Option, Some, None, Result, Ok, Err}
use Rattle.std.specs.Hash.DefaultHasher.{wrapping_add}
use Rattle.ft_log.specs.Holding.{Holding, known, parked}
use Rattle.ft_log.specs.Keys.{RequestKey, held_of}
use Rattle.ft_log.specs.Kept.{KeptOutcome, kept_for, keys_of, unexpired}
use Rattle.ft_log.specs.declared.system_exception.SystemName.{SystemName}
use Rattle.ft_objects.specs.declared.decided.Decision.{Decision}
use Rattle.ft_objects.specs.declared.decided.Decision.TheVariants as decision
use Rattle.ft_orb.specs.ExactlyOnce.{Absent, Arrival, Bad, Field, Present}
use Rattle.ft_orb.specs.Owners.{owner_rules}
use Rattle.ft_orb.specs.Requests.{Call, Terms, Wanted, asked_at, asking, locating}
use Rattle.ft_orb.specs.Table.{Table, table_step}
use Rattle.ft_orb.specs.declared.counts.Counts.{Counts}
use Rattle.ft_orb.specs.declared.unkept.Unkept.{Unkept}
use Rattle.ft_orb.specs.declared.unkept.Unkept.TheVariants as unkept

-- without a key it is performed, or asks for no call
abbrev pub decision_free : Result Call SystemName → Decision
decision_free (Ok call) = decision.Asked
decision_free (Err name) = decision.Invalid name

module _ (capacity share : ℕ) where
  -- there is room for the outcome of a key beside these, or not
  abbrev pub decision_by_room : RequestKey → List RequestKey → Decision
  decision_by_room key keys =
      if nat_lt (length keys) capacity then (if nat_lt (held_of key.client_id keys) share then decision.Asked else decision.ShareFull)
      else decision.LogFull

  -- a key for which nothing is kept
  abbrev pub decision_new : RequestKey → List (KeptOutcome Holding) → Result Call SystemName → Decision
  decision_new key entries (Err name) = decision.Invalid name
  decision_new key entries (Ok call) = decision_by_room key (keys_of entries)

  -- a key, by what is kept for it
  abbrev pub decision_kept : RequestKey → List (KeptOutcome Holding) → Result Call SystemName → Option Holding → Decision
  decision_kept key entries asked (Some (known outcome)) = decision.Repeated
  decision_kept key entries asked (Some (parked number)) = decision.Joined
  decision_kept key entries asked None = decision_new key entries asked

  -- a request, by its field, where these are kept and not expired
  abbrev pub decision_by : List (KeptOutcome Holding) → (clock : ℕ) → Result Call SystemName → Field → Decision
  decision_by live clock asked Bad = decision.Malformed
  decision_by live clock asked Absent = decision_free asked
  decision_by live clock asked (Present key expiration) =
      if nat_lt expiration clock then decision.Expired
      else decision_kept key live asked (kept_for key live)

-- a locate is no request
abbrev pub decision_for : Wanted → Decision → Decision
decision_for (asking c q) d = d
decision_for (locating c version id to) d = decision.Located

-- what becomes of what arrives, where the log keeps these, unless memory runs out before
abbrev pub decision_on : (ℕ → Terms) → (capacity share : ℕ) → List (KeptOutcome Holding) → Arrival Wanted → Decision
decision_on terms capacity share entries a = decision_for a.content (decision_by capacity share (unexpired a.clock entries) a.clock (asked_at terms a.content) a.field)

-- one more, in 64 bits
abbrev pub one_more : ℕ → ℕ
one_more n = wrapping_add n 1

abbrev pub no_counts : Counts
no_counts = record { asked = 0; repeated = 0; joined = 0; expired = 0; malformed = 0; invalid = 0; log_full = 0; share_full = 0; located = 0; dropped = 0; answered = 0; parked = 0; settled = 0; given_up = 0; declined = 0; withdrawn = 0 }

-- the counts once a request was told an outcome of which nothing is kept: one that waited, or was parked
abbrev pub answered_unkept : Unkept → Counts → Counts
answered_unkept unkept.Performed n = record n { answered = one_more n.answered }
answered_unkept unkept.Refusal n = record n { declined = one_more n.declined }

abbrev pub settled_unkept : Unkept → Counts → Counts
settled_unkept unkept.Performed n = record n { settled = one_more n.settled }
settled_unkept unkept.Refusal n = record n { withdrawn = one_more n.withdrawn }

-- the counts once this became of one more
abbrev pub counted_with : Counts → Decision → Counts
counted_with n decision.Asked = record n { asked = one_more n.asked }
counted_with n decision.Repeated = record n { repeated = one_more n.repeated }
counted_with n decision.Joined = record n { joined = one_more n.joined }
counted_with n decision.Expired = record n { expired = one_more n.expired }
counted_with n decision.Malformed = record n { malformed = one_more n.malformed }
counted_with n (decision.Invalid name) = record n { invalid = one_more n.invalid }
counted_with n decision.LogFull = record n { log_full = one_more n.log_full }
counted_with n decision.ShareFull = record n { share_full = one_more n.share_full }
counted_with n decision.Located = record n { located = one_more n.located }
counted_with n decision.Dropped = record n { dropped = one_more n.dropped }

-- the counts after all of these, which are served one after the other from a table on: what is kept when it comes decides what becomes
-- of each
module _ (terms : ℕ → Terms) (answers : List Call → Call → Holding) (capacity share : ℕ) where
  abbrev pub counted_all : Table (List Call) Holding → List (Arrival Wanted) → Counts → Counts
  counted_all t [] n = n
  counted_all t (a ∷ later) n = counted_all (table_step (owner_rules (asked_at terms) answers capacity share) t a).0 later (counted_with n (decision_on terms capacity share t.entries a))
