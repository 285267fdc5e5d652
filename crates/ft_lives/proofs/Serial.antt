-- The state beside the rows, where transactions are serial.
use Rattle.std.proofs.Common.{◌≡◌, ℕ, List, [], ◌∷◌, refl, sym, ap}
use Rattle.ft_log.specs.Performed.{Performed}
use Rattle.ft_orb.specs.Requests.{Call}
use Rattle.ft_lives.specs.Lives.{Did, Step, Stored}
use Rattle.ft_lives.specs.Serial.{Acts, Becomes, IsOfCommits, IsSerial, SerialIsOfCommits, Write}
use Rattle.ft_lives.specs.Stores.{Committed, Other, Purged}

module _ {State : Type 0} (apply : State → Call → State × Performed) where
  pub serial-is-of-commits : SerialIsOfCommits apply
  serial-is-of-commits state last [] is = record { writes = []; calls = refl; outcomes = refl; state_is = is; alone = λ x. is }
  serial-is-of-commits state last (Did n d ∷ steps) is =
      let r = serial-is-of-commits state last steps is in record { writes = r.writes; calls = r.calls; outcomes = r.outcomes; state_is = r.state_is; alone = r.alone }
  serial-is-of-commits state last (Stored (Committed ask row) ∷ steps) is =
      let r = serial-is-of-commits (apply state ask.call).0 last steps is.1 in
      record {
        writes = Acts ask.call ∷ r.writes;
        calls = ap (λ (l : List Call). ask.call ∷ l) r.calls;
        outcomes = λ i. sym is.0 i ∷ r.outcomes i;
        state_is = r.state_is;
        alone = r.alone;
      }
  serial-is-of-commits state last (Stored (Purged mark) ∷ steps) is =
      let r = serial-is-of-commits state last steps is in record { writes = r.writes; calls = r.calls; outcomes = r.outcomes; state_is = r.state_is; alone = r.alone }
  serial-is-of-commits state last (Stored Other ∷ steps) is =
      let r = serial-is-of-commits is.0 last steps is.1 in record { writes = Becomes is.0 ∷ r.writes; calls = r.calls; outcomes = r.outcomes; state_is = r.state_is; alone = λ x. absurd x }
