-- What becomes of requests where their owner is asked first.
use Rattle.std.specs.Prelude.{◌≡◌, ◌≤◌, ℕ, true, false, List, None, Some, Ok, Err, MatchResult}
use Rattle.giop_core.specs.Keys.{key_of_addressed}
use Rattle.giop_link.specs.Hearing.{Question}
use Rattle.ft_log.specs.Holding.{Holding}
use Rattle.ft_log.specs.Keys.{RequestKey}
use Rattle.ft_log.specs.declared.system_exception.SystemName.{SystemName}
use Rattle.ft_log.specs.declared.system_exception.SystemName.TheVariants.{NoResources}
use Rattle.ft_orb.specs.ExactlyOnce.{Arrival, Present}
use Rattle.ft_orb.specs.Owners.{owned_rules}
use Rattle.ft_orb.specs.Parking.{Settings, by_number}
use Rattle.ft_orb.specs.Requests.{Call, Origin, Terms, Wanted, asked_at, asked_of, asking, call_for, call_within, field_in, field_of, first_with, is_named_within, is_within, origin_of, raw_call, refusal_at}
use Rattle.ft_orb.specs.Table.{Table, table_step}

-- One with a key whose client's id is within the bound asks for its call, where it has one, and nothing would refuse it; or else for its
-- body, with what would refuse it.
abbrev pub FirstsAreAsked : Type 0
FirstsAreAsked = (terms : ℕ → Terms) (c : Origin) (q : Question) (key : RequestKey) (expiration : ℕ) → (terms c.changes).first ≡ true → field_of q.contexts ≡ Present key expiration → is_named_within (terms c.changes).longest key.client_id ≡ true
    → MatchResult (call_for (terms c.changes).interface q (key_of_addressed q.target))
    (λ call. (asked_at terms (asking c q) ≡ Ok call) × (refusal_at terms (asking c q) ≡ None))
    (λ name. (asked_at terms (asking c q) ≡ Ok (raw_call q)) × (refusal_at terms (asking c q) ≡ Some name))

-- So an engine refuses such a request, where it is not over, for want of room alone.
abbrev pub FirstsLackRoom : Type 0
FirstsLackRoom = (s : Settings) (held : ℕ → Holding) (t : Table (List Call) ℕ) (a : Arrival Wanted) (c : Origin) (q : Question) (key : RequestKey) (expiration : ℕ) (name : SystemName)
    → a.content ≡ asking c q → a.field ≡ Present key expiration → field_of q.contexts ≡ Present key expiration → a.clock ≤ expiration
    → (s.terms c.changes).first ≡ true → is_named_within (s.terms c.changes).longest key.client_id ≡ true
    → (table_step (owned_rules (by_number s held)) t a).1 ≡ Err name → name ≡ NoResources

-- Others are asked, or refused, as where the owner is not asked first.
abbrev pub OthersAreNoFirsts : Type 0
OthersAreNoFirsts = (terms : ℕ → Terms) (w : Wanted) → first_with (terms (origin_of w).changes).first (field_in w) ≡ false
    → (refusal_at terms w ≡ None) × (asked_at terms w ≡ call_within (is_within (terms (origin_of w).changes).longest (field_in w)) (asked_of (terms (origin_of w).changes).interface w))
