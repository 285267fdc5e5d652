-- The counter, and beside it an object that leads each caller elsewhere.
use Rattle.std.specs.Prelude.{ℕ, Bool, true, false, ◌||◌, bytes_eq, List, [], ◌∷◌, codes, if◌then◌else◌}
use Rattle.cdr_core.specs.Value.{Values}
use Rattle.cdr_core.specs.declared.order.Order.TheVariants.{Big}
use Rattle.ft_log.specs.Performed.{Performed, raw}
use Rattle.ft_log.specs.declared.outcome.RawStatus.TheVariants.{LocationForward}
use Rattle.ft_objects.specs.Interfaces.{raw_operation}
use Rattle.ft_objects.specs.Servants.{Meaning}
use Rattle.counter.specs.Counter.{counter_meaning}
use Rattle.counter.specs.declared.forwarding.Forwarding.{Forwarding}

-- its object key, `f`
abbrev pub is_elsewhere : List ℕ → Bool
is_elsewhere key = bytes_eq key (codes "f")

-- IOP 7.6.2: the nil reference: an empty type id, and no profiles
abbrev pub nil_reference : List ℕ
nil_reference = 0 ∷ 0 ∷ 0 ∷ 1 ∷ 0 ∷ 0 ∷ 0 ∷ 0 ∷ 0 ∷ 0 ∷ 0 ∷ 0 ∷ []

-- GIOP 9.4.3.2: what is performed under it is a forward; who plays both ends says where a call is asked for then
abbrev pub forward : Performed
forward = raw LocationForward Big nil_reference

-- what is performed under a key, where it is that one, or another
abbrev pub performed_at : Bool → Forwarding → List ℕ → List ℕ → Values → Forwarding × Performed
performed_at true s key name arguments = (s, forward)
performed_at false s key name arguments = (record s { counter = (counter_meaning.apply s.counter key name arguments).0 }, (counter_meaning.apply s.counter key name arguments).1)

-- what the two mean
abbrev pub forwarding_meaning : Meaning Forwarding
forwarding_meaning =
    record {
      is_state = λ s. counter_meaning.is_state s.counter;
      interface = λ key name. if is_elsewhere key then raw_operation else counter_meaning.interface key name;
      knows = λ key. is_elsewhere key || counter_meaning.knows key;
      apply = λ s key name arguments. performed_at (is_elsewhere key) s key name arguments;
    }
