-- A piece that is taken until as many octets are due as may be, whatever of those that are due was taken before.
use Rattle.std.proofs.Common.{◌≡◌, ℕ, ◌+◌, ◌<◌, ◌≤◌, min, List, length, drop, take, Result, Ok, Err, ap, sym, ◌∙◌, arith, length-drop}
use Rattle.ft_log.specs.Holding.{Holding}
use Rattle.ft_orb.specs.Bounds.{ComesDue, IsBelow, StopsWhereDue}
use Rattle.ft_orb.specs.History.{Event, Piece, completed}
use Rattle.ft_orb.specs.Parking.{Settings}
use Rattle.ft_orb.specs.declared.engine.Fed.TheVariants as fed
use Rattle.ft_orb.specs.declared.engine.Taken.{Taken}
use Rattle.ft_orb.specs.declared.engine.Taken.TheVariants as taken
use Rattle.ft_orb.specs.declared.error.ServeError.{ServeError}
use Rattle.ft_orb.specs.declared.error.ServeError.TheVariants as serving

many : (most n bound : ℕ) (out owed : List ℕ) → bound ≡ min (most + n) 18446744073709551615 → length out < 18446744073709551615 → owed ≡ drop n out → bound ≤ length out → most ≤ length owed
many most n bound out owed is short at h = let l = ap length at ∙ length-drop n out in omega (arith, is, short, l, h)

pub comes-due : (most n bound : ℕ) (out owed : List ℕ) (size : ℕ) (f : Result Taken ServeError) → bound ≡ min (most + n) 18446744073709551615 → length out < 18446744073709551615 → owed ≡ drop n out → ComesDue bound (length out) size f → ComesDue most (length owed) size f
comes-due most n bound out owed size (Ok (taken.Fed f)) is short at h = h
comes-due most n bound out owed size (Ok (taken.Due k)) is short at h = (many most n bound out owed is short at h.0, h.1, h.2)
comes-due most n bound out owed size (Err e) is short at h = h

module _ (x : Settings) (held : ℕ → Holding) (past : List Event) (most n bound : ℕ) (before owed : List ℕ) (placed : n ≤ length before) (is : bound ≡ min (most + n) 18446744073709551615) (at : drop n before ≡ owed) where
  below : (e : Event) (answers : ℕ) → IsBelow x held past bound (length before) e answers → IsBelow x held past most (length owed) e answers
  below e answers h k some few =
      let l = sym (ap length at) ∙ length-drop n before in
      let b = h k some few in
      omega (arith, placed, is, l, b)

  pub stops-where-due : (c moment : ℕ) (piece : List ℕ) (f : Result Taken ServeError) → StopsWhereDue x held past bound (length before) c moment piece f → StopsWhereDue x held past most (length owed) c moment piece f
  stops-where-due c moment piece (Ok (taken.Fed fed.Whole)) h = below (Piece c moment piece) (length (completed x.limits past (Piece c moment piece)) + 1) h
  stops-where-due c moment piece (Ok (taken.Fed (fed.Asks k))) h = below (Piece c moment (take k piece)) (length (completed x.limits past (Piece c moment (take k piece)))) h
  stops-where-due c moment piece (Ok (taken.Fed (fed.Repeats k))) h = below (Piece c moment (take k piece)) (length (completed x.limits past (Piece c moment (take k piece)))) h
  stops-where-due c moment piece (Ok (taken.Due k)) h = record { some = h.some; below = below (Piece c moment (take k piece)) (length (completed x.limits past (Piece c moment (take k piece)))) h.below; short = h.short }
  stops-where-due c moment piece (Err serving.NoConnection) h = h
  stops-where-due c moment piece (Err (serving.Memory handled answered)) h = below (Piece c moment piece) (answered + 1) h
