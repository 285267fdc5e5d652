use Rattle.std.proofs.Common.{◌≡◌, ◌<◌, ℕ, suc, List, [], ◌∷◌, Ok, ap, arith, drop, inl, inr, length, min, refl, rules, sym}
use Rattle.lemonrudder.specs.Questions.{Tells}
use Rattle.lemonrudder.proofs.Idling.{not_so}
use Rattle.lemonrudder.proofs.serving.Serving.values_of_call.Goals as goal

-- no octets are told without a word
nothing : (octets room : List ℕ) → (0 < length octets → ⊥) → Tells octets room room (Ok 0)
nothing [] [] never = (refl, refl)
nothing [] (x ∷ room) never = let none : min 0 (suc (length room)) ≡ 0 = omega arith in (refl, ap (λ (n : ℕ). drop n (x ∷ room)) (sym none))
nothing (x ∷ octets) room never = absurd (never (omega arith))

pub returns-then-not-have_octets : goal.returns-then-not-have_octets
returns-then-not-have_octets c = (
  λ can. inr (nothing _ c.args.room.now (λ some. not_so c.if-not-have_octets.true (c.have_octets.ensures.1 some))),
  λ cannot. absurd (cannot (c.are_writable.ensures.0 c.if-not-are_writable.false)),
)

pub returns-in_err-write_list : goal.returns-in_err-write_list
returns-in_err-write_list c = (
  λ can. inl (c.have_octets.ensures.0 c.if-not-have_octets.false, (search rules, refl)),
  λ cannot. absurd (cannot (c.are_writable.ensures.0 c.if-not-are_writable.false)),
)
