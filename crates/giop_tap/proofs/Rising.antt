-- The requests that wait stand in the order of their numbers.
use Rattle.std.proofs.Common.{ℕ, suc, ◌<◌, List, [], ◌∷◌, length, arith}
use Rattle.std.specs.List.{AllByRecursion}
use Rattle.giop_tap.specs.declared.part.Part.{Part}
use Rattle.giop_tap.specs.declared.part.Part.TheVariants.{Asks, Answers, Cancels, Apart}
use Rattle.giop_tap.specs.declared.sender.Sender.{Sender}
use Rattle.giop_tap.specs.Pairing.{Asked, Said, is_about, part_of, waiting, waiting_after}
use Rattle.giop_tap.specs.Waiting.{AreRising}
use Rattle.giop_tap.proofs.Stacks.{all-push, all-without, rising-push, rising-without}

-- they rise, and are below a number
pub record RiseBelow (n : ℕ) (ws : List Asked) : Type 0 where
  pub rise : AreRising ws
  pub below : AllByRecursion (λ a. a.number < n) ws

more : (n : ℕ) (ws : List Asked) → AllByRecursion (λ a. a.number < n) ws → AllByRecursion (λ a. a.number < suc n) ws
more n [] all = tt
more n (a ∷ ws) all = let less = all.0 in let l : a.number < suc n = omega arith in (l, more n ws all.1)

step : (n connection : ℕ) (sender : Sender) (part : Part) (ws : List Asked) → RiseBelow n ws → RiseBelow (suc n) (waiting_after n connection sender part ws)
step n connection sender (Asks wanted id) ws r =
    let a : Asked = record { number = n; connection = connection; sender = sender; wanted = wanted; id = id } in
    record { rise = rising-push ws a r.rise r.below; below = all-push (λ b. b.number < suc n) ws a (more n ws r.below) (let l : n < suc n = omega arith in l) }
step n connection sender (Answers wanted id) ws r =
    record { rise = rising-without (is_about connection sender (Answers wanted id)) ws r.rise; below = all-without (λ b. b.number < suc n) (is_about connection sender (Answers wanted id)) ws (more n ws r.below) }
step n connection sender (Cancels id) ws r = record { rise = r.rise; below = more n ws r.below }
step n connection sender Apart ws r = record { rise = r.rise; below = more n ws r.below }

pub rise-below : (earlier : List Said) → RiseBelow (suc (length earlier)) (waiting earlier)
rise-below [] = record { rise = tt; below = tt }
rise-below (m ∷ earlier) = step (suc (length earlier)) m.connection m.sender (part_of m.content) (waiting earlier) (rise-below earlier)

pub waiting-rises : (earlier : List Said) → AreRising (waiting earlier)
waiting-rises earlier = (rise-below earlier).rise
