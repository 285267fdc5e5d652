-- A stream as it is fed, from one message to the next.
use Rattle.std.proofs.Common.{◌≡◌, ℕ, ◌+◌, List, [], ◌++◌, length, take, drop, Option, Some, None, IsSomeAnd, refl, ap, subst, ◌∙◌, arith, length-append}
use Rattle.std.proofs.lemmas.List.{drop-take, take-append-drop, take-take}
use Rattle.giop_frames.specs.declared.limits.Limits.{Limits}
use Rattle.giop_frames.specs.Frames.{Frame, split}
use Rattle.giop_frames.specs.Standing.{completed_at, Standing, StandsFor}
use Rattle.giop_frames.specs.Streams.{messages_of}

-- no octets have no message
pub none_told : (limits : Limits) → length (messages_of limits []) ≡ 0
unfolding messages_of split
none_told limits = refl

-- octets that were taken, and the next n
pub taken_more : (k n : ℕ) (s : List ℕ) → take k s ++ take n (drop k s) ≡ take (k + n) s
taken_more k n s = rw (← take-take k (k + n) s (omega arith), ← drop-take k n s) (take-append-drop k (take (k + n) s))

-- what feeding the octets from k on did
module _ (limits : Limits) (octets : List ℕ) (k n : ℕ) (a b : Standing) (same : a.limits ≡ limits)
    (stands : StandsFor a (take k octets) → StandsFor b (take k octets ++ take n (drop k octets)))
    (told : StandsFor a (take k octets) → messages_of a.limits (take k octets ++ take n (drop k octets)) ≡ messages_of a.limits (take k octets) ++ completed_at (length (take k octets ++ take n (drop k octets))) b.message)
    (before : StandsFor a (take k octets)) where
  pub stands_on : StandsFor b (take (k + n) octets)
  stands_on = subst (StandsFor b) (taken_more k n octets) (stands before)

  pub told_on : messages_of limits (take (k + n) octets) ≡ messages_of limits (take k octets) ++ completed_at (length (take (k + n) octets)) b.message
  told_on =
      subst (λ xs. messages_of limits xs ≡ messages_of limits (take k octets) ++ completed_at (length xs) b.message) (taken_more k n octets)
      (subst (λ l. messages_of l (take k octets ++ take n (drop k octets)) ≡ messages_of l (take k octets) ++ completed_at (length (take k octets ++ take n (drop k octets))) b.message) same (told before))

  -- one message more where one is lent, and none where none is
  pub one_more : (f : Frame) → b.message ≡ Some f → length (messages_of limits (take (k + n) octets)) ≡ length (messages_of limits (take k octets)) + 1
  one_more f is =
      let at = length (take (k + n) octets) in
      ap length told_on ∙ length-append (messages_of limits (take k octets)) (completed_at at b.message) ∙ ap (λ m. length (messages_of limits (take k octets)) + length (completed_at at m)) is

  pub no_more : b.message ≡ None → length (messages_of limits (take (k + n) octets)) ≡ length (messages_of limits (take k octets))
  no_more is =
      let at = length (take (k + n) octets) in
      let none : length (messages_of limits (take k octets)) + 0 ≡ length (messages_of limits (take k octets)) = omega arith in
      ap length told_on ∙ length-append (messages_of limits (take k octets)) (completed_at at b.message) ∙ ap (λ m. length (messages_of limits (take k octets)) + length (completed_at at m)) is ∙ none

pub one_lent : (P : Frame → Type 0) (m : Option Frame) → IsSomeAnd m P → (f : Frame) × (m ≡ Some f) × P f
one_lent P None h = absurd h
one_lent P (Some f) h = (f, refl, h)
