-- What becomes of a request with a key, by what the log keeps.
use Rattle.std.proofs.Common.{◌≡◌, ℕ, ◌≤◌, ◌<◌, Bool, List, Option, None, Result, Ok, Err, if◌then◌else◌, sym, ap, ◌∙◌, length}
use Rattle.std.proofs.lemmas.Bool.{le-ltb, lt-ltb}
use Rattle.std.proofs.lemmas.List.{length-map}
use Rattle.ft_log.specs.Holding.{Holding}
use Rattle.ft_log.specs.Keys.{RequestKey, held_of}
use Rattle.ft_log.specs.Kept.{KeptOutcome, kept_for, keys_of, unexpired}
use Rattle.ft_log.specs.declared.system_exception.SystemName.{SystemName}
use Rattle.ft_objects.specs.declared.decided.Decision.{Decision}
use Rattle.ft_objects.specs.declared.decided.Decision.TheVariants.{Asked, Expired, Invalid, LogFull, ShareFull}
use Rattle.ft_orb.specs.Decisions.{decision_by, decision_by_room, decision_kept, decision_new}
use Rattle.ft_orb.specs.ExactlyOnce.{Present}
use Rattle.ft_orb.specs.Requests.{Call}
use Rattle.std.specs.Prelude.{nat_lt}

module _ (capacity share now : ℕ) (entries live : List (KeptOutcome Holding)) (asked : Result Call SystemName) (key : RequestKey) (expiration : ℕ) (in_time : now ≤ expiration) (is : live ≡ unexpired now entries) where
  abbrev Decided : Decision
  Decided = decision_by capacity share (unexpired now entries) now asked (Present key expiration)

  -- what is kept for its key decides
  pub decided-kept : (o : Option Holding) → kept_for key live ≡ o → Decided ≡ decision_kept capacity share key live asked o
  decided-kept o kept =
      ap (λ (b : Bool). if b then Expired else decision_kept capacity share key (unexpired now entries) asked (kept_for key (unexpired now entries))) (le-ltb expiration now in_time)
      ∙ ap (λ (l : List (KeptOutcome Holding)). decision_kept capacity share key l asked (kept_for key l)) (sym is)
      ∙ ap (λ (h : Option Holding). decision_kept capacity share key live asked h) kept

  -- nothing is kept, and it asks for no call
  pub decided-invalid : (name : SystemName) → kept_for key live ≡ None → asked ≡ Err name → Decided ≡ Invalid name
  decided-invalid name kept err = decided-kept None kept ∙ ap (λ (r : Result Call SystemName). decision_new capacity share key live r) err

  -- .. or for one, and there is room for its outcome, or not
  decided-room : (call : Call) → kept_for key live ≡ None → asked ≡ Ok call → Decided ≡ decision_by_room capacity share key (keys_of live)
  decided-room call kept ok = decided-kept None kept ∙ ap (λ (r : Result Call SystemName). decision_new capacity share key live r) ok

  by-size : (b : Bool) → nat_lt (length live) capacity ≡ b → decision_by_room capacity share key (keys_of live) ≡ (if b then (if nat_lt (held_of key.client_id (keys_of live)) share then Asked else ShareFull) else LogFull)
  by-size b test = ap (λ (n : ℕ). if nat_lt n capacity then (if nat_lt (held_of key.client_id (keys_of live)) share then Asked else ShareFull) else LogFull) (length-map live (λ (e : KeptOutcome Holding). e.key))
      ∙ ap (λ (t : Bool). if t then (if nat_lt (held_of key.client_id (keys_of live)) share then Asked else ShareFull) else LogFull) test

  pub decided-full : (call : Call) → kept_for key live ≡ None → asked ≡ Ok call → capacity ≤ length live → Decided ≡ LogFull
  decided-full call kept ok full = decided-room call kept ok ∙ by-size _ (le-ltb (length live) capacity full)

  pub decided-share-full : (call : Call) → kept_for key live ≡ None → asked ≡ Ok call → length live < capacity → share ≤ held_of key.client_id (keys_of live) → Decided ≡ ShareFull
  decided-share-full call kept ok less full =
      decided-room call kept ok ∙ by-size _ (lt-ltb (length live) capacity less) ∙ ap (λ (b : Bool). if b then Asked else ShareFull) (le-ltb (held_of key.client_id (keys_of live)) share full)

  pub decided-asked : (call : Call) → kept_for key live ≡ None → asked ≡ Ok call → length live < capacity → held_of key.client_id (keys_of live) < share → Decided ≡ Asked
  decided-asked call kept ok less few =
      decided-room call kept ok ∙ by-size _ (lt-ltb (length live) capacity less) ∙ ap (λ (b : Bool). if b then Asked else ShareFull) (lt-ltb (held_of key.client_id (keys_of live)) share few)
