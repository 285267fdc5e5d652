-- The steps of reading: where they all succeed, and where one fails.
use Rattle.std.proofs.Common.{◌≡◌, Result, Ok, Err, MatchResult, cond, Bool, true, false, refl, ◌⊎◌, inl, inr}
use Rattle.cdr_core.specs.declared.fault.Fault.{Fault}
use Rattle.cdr_core.specs.Reading.{◌>>=◌}

-- a step that succeeded, and what it gave
pub bind_ok : {A B : Type 0} (r : Result A Fault) (f : A → Result B Fault) (y : B) → (r >>= f) ≡ Ok y → (x : A) × (r ≡ Ok x) × (f x ≡ Ok y)
bind_ok (Ok x) f y h = (x, refl, h)
bind_ok (Err e) f y h = absurd cc

-- a test that let the next step through
pub guard : {A : Type 0} (b : Bool) (e : Fault) (r : Result A Fault) (y : A) → cond b (Err e) r ≡ Ok y → (b ≡ false) × (r ≡ Ok y)
guard true e r y h = absurd cc
guard false e r y h = (refl, h)

-- a test that let the last step through
pub guard_ok : {A : Type 0} (b : Bool) (e : Fault) (x y : A) → cond b (Err e) (Ok x) ≡ Ok y → (b ≡ false) × (x ≡ y)
guard_ok true e x y h = absurd cc
guard_ok false e x y h = (refl, cc)

-- a test that holds where the last step succeeded
pub needs : {A : Type 0} (b : Bool) (r : Result A Fault) (e : Fault) (y : A) → cond b r (Err e) ≡ Ok y → (b ≡ true) × (r ≡ Ok y)
needs true r e y h = (refl, h)
needs false r e y h = absurd cc

-- the last step
pub ok_is : {A : Type 0} (x y : A) → ◌≡◌ {A = Result A Fault} (Ok x) (Ok y) → x ≡ y
ok_is x y h = cc

pub err_is : {A : Type 0} (d f : Fault) → ◌≡◌ {A = Result A Fault} (Err d) (Err f) → d ≡ f
err_is d f h = cc

-- the first step failed, or it succeeded and the next failed
pub bind_err : {A B : Type 0} (r : Result A Fault) (g : A → Result B Fault) (f : Fault) → (r >>= g) ≡ Err f → (r ≡ Err f) ⊎ ((x : A) × (r ≡ Ok x) × (g x ≡ Err f))
bind_err (Ok x) g f h = inr (x, refl, h)
bind_err {A} (Err e) g f h = inl cc

-- the step before the last Ok failed
pub ended_ok : {A B : Type 0} (r : Result A Fault) (g : A → B) (f : Fault) → (r >>= λ x. Ok (g x)) ≡ Err f → r ≡ Err f
ended_ok (Ok x) g f h = absurd cc
ended_ok (Err e) g f h = cc

-- a test failed, or what follows it
pub test_failed : {A : Type 0} (b : Bool) (d f : Fault) (r : Result A Fault) → cond b (Err d) r ≡ Err f → ((b ≡ true) × (f ≡ d)) ⊎ ((b ≡ false) × (r ≡ Err f))
test_failed true d f r h = inl (refl, cc)
test_failed false d f r h = inr (refl, h)

-- the last test failed
pub last_failed : {A : Type 0} (b : Bool) (d f : Fault) (x : A) → cond b (Err d) (Ok x) ≡ Err f → (b ≡ true) × (f ≡ d)
last_failed true d f x h = (refl, cc)
last_failed false d f x h = absurd cc

pub last_passed : {A : Type 0} (b : Bool) (d f : Fault) (x : A) → cond b (Ok x) (Err d) ≡ Err f → (b ≡ false) × (f ≡ d)
last_passed true d f x h = absurd cc
last_passed false d f x h = (refl, cc)

-- a property of a result, weakened
pub match_as : {A E : Type 0} (r : Result A E) (P Q : A → Type 0) (R S : E → Type 0) → ((x : A) → P x → Q x) → ((e : E) → R e → S e) → MatchResult r P R → MatchResult r Q S
match_as (Ok x) P Q R S f g h = f x h
match_as (Err e) P Q R S f g h = g e h
