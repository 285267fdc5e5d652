-- What an order of expirations contains, and how many places it has. No public contract, definition or law uses these words.
use Rattle.std.specs.Prelude.{◌≡◌, ℕ, ◌<◌, List, ◌∷◌, Option, Some}
use Rattle.ft_log.specs.Queue.{fits, kept_dues, place_at}
use Rattle.ft_log.specs.declared.due.Due.{Due}
use Rattle.ft_log.specs.declared.due.Spot.{Spot}
use Rattle.ft_log.specs.declared.order.Order.{Order}

abbrev pub dues : Order → List Due
dues o = kept_dues o.queue

abbrev pub places : Order → ℕ
places o = fits o.queue

-- the place under a slot
abbrev pub under : Order → ℕ → Option ℕ
under o slot = place_at o.queue slot

-- this is where the first is, and it lies before a moment
pub record IsFirst (spot : Spot) (now : ℕ) (o : Order) : Type 0 where
  pub due : Due
  pub rest : List Due
  pub is : dues o ≡ due ∷ rest
  pub before : due.until.0 < now
  pub slot : spot.slot ≡ due.slot
  pub place : under o due.slot ≡ Some spot.place
  pub key : spot.key.key ≡ due.key.key
