-- A new server of tickets and its one client, and the steps that they take.
use Rattle.std.proofs.Common.{◌≡◌, ℕ, ℤ, List, [], ◌++◌, length, map, take, ap, ◌∙◌, subst}
use Rattle.std.proofs.Math.Seq.{take-length}
use Rattle.giop_frames.specs.declared.limits.Limits.{Limits}
use Rattle.ft_client.specs.declared.client.FtClient.{FtClient}
use Rattle.ft_client.specs.declared.ended.Ended.{Ended as CodeEnded}
use Rattle.ft_client.specs.Standing.{down}
use Rattle.ft_ends.specs.declared.steps.Step.{Step as CodeStep}
use Rattle.ft_ends.specs.Both.{ActsOnce}
use Rattle.ft_ends.specs.Laws.{sides_of}
use Rattle.ft_ends.specs.Playing.{AreBeginning, AreNew, given_of, numbered, step_as}
use Rattle.ft_ends.specs.World.{Step, World, world}
use Rattle.ft_orb.specs.Standing.{Shown, Stands}
use Rattle.uses.specs.Cutting.{newcomers}
use Rattle.uses.specs.Serving.{tickets_made}
use Rattle.uses.specs.Tickets.{tickets_meaning}

pub begins : (limits : Limits) (server : Shown ℕ) (clients : List FtClient) → Stands tickets_meaning (tickets_made limits) server [] → AreNew (newcomers limits) clients
    → AreBeginning tickets_meaning (tickets_made limits) (newcomers limits) server clients
begins limits server clients stands new = record { stands = stands; clients_are = new; distinct = (tt, tt) }

-- all steps are taken
pub taken_are : (steps now : List CodeStep) (expected : List Step) → now ≡ steps → map step_as steps ≡ expected → map step_as (take (length now) now) ≡ expected
taken_are steps now expected same is = ap (map step_as) (take-length now ∙ same) ∙ is

-- the world of the steps
abbrev pub played : Limits → List Step → World
played limits steps = world (sides_of tickets_meaning (tickets_made limits) down) (newcomers limits) steps

-- .. is that of the steps that are expected
module _ (limits : Limits) where
  pub completed_as : (out before : List (ℕ × ℤ × CodeEnded)) (steps expected : List Step) → before ≡ [] → steps ≡ expected
      → map given_of out ≡ map given_of before ++ map numbered (played limits steps).completions → map given_of out ≡ map numbered (played limits expected).completions
  completed_as out before steps expected none same is =
      is ∙ ap (λ (b : List (ℕ × ℤ × CodeEnded)). map given_of b ++ map numbered (played limits steps).completions) none
      ∙ ap (λ (ss : List Step). map numbered (played limits ss).completions) same

  pub once_in : (steps expected : List Step) → steps ≡ expected
      → ActsOnce tickets_meaning (tickets_made limits) (newcomers limits) (played limits steps) → ActsOnce tickets_meaning (tickets_made limits) (newcomers limits) (played limits expected)
  once_in steps expected = subst (λ (ss : List Step). ActsOnce tickets_meaning (tickets_made limits) (newcomers limits) (played limits ss))

  pub stands_in : (server : Shown ℕ) (steps expected : List Step) → steps ≡ expected
      → Stands tickets_meaning (tickets_made limits) server (played limits steps).past → Stands tickets_meaning (tickets_made limits) server (played limits expected).past
  stands_in server steps expected = subst (λ (ss : List Step). Stands tickets_meaning (tickets_made limits) server (played limits ss).past)
