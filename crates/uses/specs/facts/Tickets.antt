-- That the tickets keep a servant's promises. Nobody has to read this proof; it stands here since `impl Servant` cites it.
use Rattle.std.specs.Prelude.{ℕ, ◌+◌, IsTrue}
use Rattle.std.proofs.Common.{rules, refl, ltb-true}
use Rattle.ft_objects.specs.Objects.{Suits}
use Rattle.ft_objects.specs.facts.Objects.{applied_is_servant, bounded_suits, either_suits}
use Rattle.ft_objects.specs.Servants.{IsServant}
use Rattle.uses.specs.Tickets.{is_ulonglong, next, next_types, tickets, tickets_meaning}

given_next : (given : ℕ) → IsTrue (is_ulonglong given) → Suits is_ulonglong next_types (next given)
given_next given h = either_suits (is_ulonglong (given + 1)) (λ e. let k = ltb-true _ _ e in bounded_suits refl e (search rules)) (λ e. bounded_suits refl h tt)

pub tickets_are_servant : IsServant tickets_meaning
tickets_are_servant =
    applied_is_servant tickets (λ given key name arguments. next given) ((λ given key arguments. refl), tt) (record { valid = search rules; suits = λ given arguments h a. given_next given h }, tt)
