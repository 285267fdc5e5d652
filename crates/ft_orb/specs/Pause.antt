-- How far a piece was served, with the request that waits, which the code keeps beside it; and what waits in an engine. A field of
-- `Engine` cites `pending_of`; the other words are those of private functions.
use Rattle.std.specs.Prelude.{Option}
use Rattle.std.specs.Option.{option_map}
use Rattle.ft_orb.specs.declared.keeper.Repeat.{Repeat}
use Rattle.ft_orb.specs.declared.keeper.Waiting.{Waiting}
use Rattle.ft_orb.specs.declared.pausing.Ask.{Ask}
use Rattle.ft_orb.specs.declared.pausing.Pause as code
use Rattle.ft_orb.specs.declared.pausing.Pause.TheVariants as pause
use Rattle.ft_orb.specs.declared.pausing.Pending.{Pending}
use Rattle.ft_orb.specs.declared.pausing.Place.{Place}

pub data Pause : Type 0 where
  Whole : Pause
  Asks : Waiting → Place → Pause
  Repeats : Repeat → Place → Pause
  Due : Place → Pause

abbrev pub pause_by : Waiting → code.Pause → Pause
pause_by w pause.Whole = Whole
pause_by w (pause.Asks place) = Asks w place
pause_by w (pause.Repeats r place) = Repeats r place
pause_by w (pause.Due place) = Due place

-- a request that waits, with how it came
abbrev pub pending_by : Waiting → Ask → Pending
pending_by w a = record { number = a.number; connection = a.connection; waiting = w; place = a.place }

abbrev pub pending_of : Waiting → Option Ask → Option Pending
pending_of w ask = option_map (λ a. pending_by w a) ask
