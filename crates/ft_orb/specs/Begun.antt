-- What comes of a message before anything is performed for it, with the request that is to be performed, which the code keeps beside
-- it. Words of private functions.
use Rattle.ft_orb.specs.declared.desk.Step.{Step}
use Rattle.ft_orb.specs.declared.keeper.Begun as code
use Rattle.ft_orb.specs.declared.keeper.Begun.TheVariants as begun
use Rattle.ft_orb.specs.declared.keeper.Repeat.{Repeat}
use Rattle.ft_orb.specs.declared.keeper.Waiting.{Waiting}

pub data Begun : Type 0 where
  Done : Step → Begun
  Asks : Waiting → Begun
  Repeats : Repeat → Begun

abbrev pub begun_by : Waiting → code.Begun → Begun
begun_by w (begun.Done step) = Done step
begun_by w begun.Asks = Asks w
begun_by w (begun.Repeats r) = Repeats r
