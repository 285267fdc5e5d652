-- The ids that a client's link gives, and those whose answers it waits for.
use Rattle.std.specs.Prelude.{ℕ, suc, ◌==◌, ◌&&◌, ◌++◌, Bool, true, false, List, [], ◌∷◌, Option, Some, None, if◌then◌else◌}
use Rattle.std.specs.List.{list_any}
use Rattle.giop_core.specs.declared.request.ReplyWish.{ReplyWish}
use Rattle.giop_core.specs.declared.request.ReplyWish.TheVariants as wish
use Rattle.giop_link.specs.declared.awaited.Outstanding.{Outstanding}
use Rattle.giop_link.specs.declared.awaited.Wanted.{Wanted}
use Rattle.giop_link.specs.declared.awaited.Wanted.TheVariants as wanted

-- the ids of a link: how many were given, which are 1, 2, .. in the order of sending, and those of them that are outstanding,
-- each with the kind of answer that is wanted
pub record Ids : Type 0 where
  pub given : ℕ
  pub outstanding : List Outstanding

-- one more id: it is outstanding where an answer is wanted
abbrev pub entered : Option Wanted → ℕ → List Outstanding → List Outstanding
entered None id os = os
entered (Some w) id os = os ++ record { id = id; wanted = w } ∷ []

abbrev pub one_more : Option Wanted → Ids → Ids
one_more w ids = record { given = suc ids.given; outstanding = entered w (suc ids.given) ids.outstanding }

-- GIOP 9.4.2: what a wish waits for
abbrev pub wanted_by : ReplyWish → Option Wanted
wanted_by wish.None = None
wanted_by wish.Empty = Some wanted.Reply
wanted_by wish.Full = Some wanted.Reply

abbrev pub is_kind : Wanted → Wanted → Bool
is_kind wanted.Reply wanted.Reply = true
is_kind wanted.Location wanted.Location = true
is_kind _ _ = false

-- whether it is of an id, and waits for an answer of a kind, or of any
abbrev pub is_of : ℕ → Option Wanted → Outstanding → Bool
is_of id None o = o.id == id
is_of id (Some w) o = o.id == id && is_kind w o.wanted

-- without the first for which a test holds
abbrev pub without : (Outstanding → Bool) → List Outstanding → List Outstanding
without test [] = []
without test (o ∷ os) = if test o then os else o ∷ without test os

abbrev pub is_outstanding : ℕ → List Outstanding → Bool
is_outstanding id os = list_any (is_of id None) os

-- without an id
abbrev pub given_up : ℕ → Ids → Ids
given_up id ids = record ids { outstanding = without (is_of id None) ids.outstanding }
